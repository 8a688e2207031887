use Rattle.std.proofs.Common.{◌≡◌, ℕ, List, Ok, length}
use Rattle.steps.specs.Outside.{seen}
use Rattle.tree_store.specs.Origin.{Leaves}
use Rattle.tree_store.specs.Source.{source_seen}
use Rattle.tree_store.proofs.Contents.{ContentsLeft}
use Rattle.tree_store.proofs.Takes.{ContentsTaken}
use Rattle.tree_store.proofs.laying_kept.lay_kept_contents.Given as goal

abbrev pub invariant-loop-left : goal.invariant-loop-left
invariant-loop-left g l = record {
  leaves : Leaves {A = Unit {0}} l.path (g.O.Origin.state l.fn.source.origin) (seen g.W.World l.fn.world) (Ok tt)
      (g.O.Origin.state l.source.origin)
      (seen g.W.World l.world);
  laid : (bytes rest : List ℕ) → length bytes ≡ l.len → ContentsLeft l.exec l.path bytes rest l.left
      (source_seen g.O.Origin.state l.fn.source)
      (seen g.W.World l.fn.world) (source_seen g.O.Origin.state l.source) (seen g.W.World l.world);
  taken : ContentsTaken l.exec l.path l.len l.left (source_seen g.O.Origin.state l.fn.source)
      (seen g.W.World l.fn.world) (source_seen g.O.Origin.state l.source) (seen g.W.World l.world);
}

abbrev pub decreases-loop-left : goal.decreases-loop-left
decreases-loop-left g l = l.left
