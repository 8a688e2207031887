use Rattle.std.proofs.Common.{◌≡◌}
use Rattle.std.specs.Option.{option_map}
use Rattle.cnb_world.specs.Calls.{MayMisuse}
use Rattle.cnb_world.specs.Tree.{item_at, is_file}
use Rattle.tree_canon.specs.Judging.{HasTaken}
use Rattle.tree_store.proofs.Kept.{IsFileAfter, Taken}
use Rattle.tree_store.proofs.store.read_kept.Given as goal

abbrev pub invariant-loop-number : goal.invariant-loop-number
invariant-loop-number g l = record {
  taken : Taken (g.W.World.tree l.initial.world) l.path l.number (HasTaken l.judging);
  file : IsFileAfter (g.W.World.tree l.initial.world) l.path l.number;
  tree : g.W.World.tree l.world ≡ g.W.World.tree l.initial.world;
  files : g.W.World.file_faults l.world ≡ g.W.World.file_faults l.initial.world;
  children : g.W.World.child_faults l.world ≡ g.W.World.child_faults l.initial.world;
  runs : g.W.World.runs l.world ≡ g.W.World.runs l.initial.world;
  misused : MayMisuse (option_map (λ t. is_file (item_at t l.path)) (g.W.World.tree l.initial.world))
      (g.W.World.misused l.initial.world) (g.W.World.misused l.world);
}
