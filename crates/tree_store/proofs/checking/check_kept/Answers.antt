use Rattle.std.proofs.Common.{◌≡◌, ◌+◌, ◌/◌, ◌∙◌, arith, refl, subst, sym}
use Rattle.std.specs.Option.{option_map}
use Rattle.cnb_world.specs.Tree.{is_file, item_at}
use Rattle.tree_store.specs.Checking.{HasChecked}
use Rattle.tree_store.proofs.Kept.{TookAll, file_read, is_file_after, last_piece, may_begin, may_go_on, no_file_yet}
use Rattle.tree_store.proofs.Kept.{none_taken, taken_on, told_slice, within_pieces}
use Rattle.tree_store.proofs.Checked.{checked_digest, kept_checks}
use Rattle.tree_store.specs.declared.checking.TreeCheck.{TreeCheck}
use Rattle.tree_store.proofs.checking.check_kept.Given as given
use Rattle.tree_store.proofs.checking.check_kept.Goals as goal
use Rattle.tree_store.proofs.checking.check_kept.Goals.{else-loop-number-test}
use Rattle.tree_store.proofs.checking.check_kept.Goals.{then-loop-number-test+in_ok-piece+in_ok-take+then-is_last}

pub loop-number-init : goal.loop-number-init
loop-number-init g c = record {
  taken = none_taken (g.W.World.tree c.args.world.now) c.args.path.now
      (HasChecked c.in_ok-checking.checking) c.in_ok-checking.ensures;
  file = no_file_yet (g.W.World.tree c.args.world.now) c.args.path.now;
  tree = refl;
  files = refl;
  children = refl;
  runs = refl;
  misused = may_begin (option_map (λ t. is_file (item_at t c.args.path.now)) (g.W.World.tree c.args.world.now))
      (g.W.World.misused c.args.world.now);
}

pub loop-number-preserved : goal.loop-number-preserved
loop-number-preserved g c =
    record {
      taken = taken_on (g.W.World.tree c.args.world.now) (g.W.World.tree c.loop-number.world) c.args.path.now
          c.as_slice.result.now c.loop-number.number (HasChecked c.loop-number.checking)
          (HasChecked c.take.new.self) c.loop-number.invariant.tree c.loop-number.invariant.taken
          (told_slice (g.W.World.tree c.loop-number.world) c.args.path.now c.as_slice.result.now
          c.in_ok-piece.piece c.loop-number.number c.as_slice.ensures c.in_ok-piece.ensures.told)
          c.in_ok-take.ensures;
      file = file_read (g.W.World.tree c.args.world.now) (g.W.World.tree c.loop-number.world) c.args.path.now _
          c.loop-number.invariant.tree c.in_ok-piece.ensures.file;
      tree = c.in_ok-piece.ensures.leaves.files ∙ c.loop-number.invariant.tree;
      files = c.in_ok-piece.ensures.leaves.counts ∙ c.loop-number.invariant.files;
      children = c.in_ok-piece.ensures.leaves.children ∙ c.loop-number.invariant.children;
      runs = c.in_ok-piece.ensures.leaves.runs ∙ c.loop-number.invariant.runs;
      misused = may_go_on (g.W.World.tree c.args.world.now) (g.W.World.tree c.loop-number.world) c.args.path.now
          (g.W.World.misused c.args.world.now) (g.W.World.misused c.loop-number.world)
          (g.W.World.misused c.read_piece.new.world) c.loop-number.invariant.tree c.loop-number.invariant.misused
          c.in_ok-piece.ensures.misused;
    }

took_all : (g : given.Over) (c : goal.After-end g) → TookAll (g.W.World.tree c.args.world.now) c.args.path.now
    (HasChecked c.loop-number-test.checking)
took_all g c = elim c.loop-number-test.branch [
  | else-loop-number-test w ↦
      let all : c.loop-number.number ≡ c.args.len / 65536 + 1 = omega
      (arith, w.loop-number-test.false, c.loop-number.auto.number-end) in
      subst (λ (k : TreeCheck). TookAll (g.W.World.tree c.args.world.now) c.args.path.now (HasChecked k))
      (sym w.checking-is) (record {
        number = c.loop-number.number;
        taken = c.loop-number.invariant.taken;
        few = within_pieces (g.W.World.tree c.args.world.now) c.args.path.now c.args.len c.loop-number.number
            (omega (arith, all)) c.requires.len;
        file = is_file_after (g.W.World.tree c.args.world.now) c.args.path.now c.loop-number.number
            (omega (arith, all)) c.loop-number.invariant.file;
      })
  | then-loop-number-test+in_ok-piece+in_ok-take+then-is_last w ↦
      subst (λ (k : TreeCheck). TookAll (g.W.World.tree c.args.world.now) c.args.path.now (HasChecked k))
      (sym w.checking-is) (record {
        number = c.loop-number.number + 1;
        taken = taken_on (g.W.World.tree c.args.world.now) (g.W.World.tree c.loop-number.world) c.args.path.now
            w.as_slice.result.now c.loop-number.number (HasChecked c.loop-number.checking)
            (HasChecked w.take.new.self) c.loop-number.invariant.tree c.loop-number.invariant.taken
            (told_slice (g.W.World.tree c.loop-number.world) c.args.path.now w.as_slice.result.now
            w.in_ok-piece.piece c.loop-number.number w.as_slice.ensures w.in_ok-piece.ensures.told)
            w.in_ok-take.ensures;
        few = last_piece (g.W.World.tree c.args.world.now) (g.W.World.tree c.loop-number.world) c.args.path.now
            w.in_ok-piece.piece c.loop-number.number c.loop-number.invariant.tree
            (w.is_last.ensures.0 w.if-is_last.true) w.in_ok-piece.ensures.told;
        file = is_file_after (g.W.World.tree c.args.world.now) c.args.path.now (c.loop-number.number + 1)
            (omega arith) (file_read (g.W.World.tree c.args.world.now)
            (g.W.World.tree c.loop-number.world) c.args.path.now _ c.loop-number.invariant.tree
            w.in_ok-piece.ensures.file);
      })
]

pub returns-clause-checks : goal.returns-clause-checks
returns-clause-checks g c =
    let all = took_all g c in kept_checks (g.W.World.tree c.args.world.now) c.args.path.now c.args.digest.now
    all.number c.loop-number-test.checking _ all.few all.file all.taken c.end.ensures.checks

pub returns-clause-digest : goal.returns-clause-digest
returns-clause-digest g c =
    let all = took_all g c in checked_digest (g.W.World.tree c.args.world.now) c.args.path.now c.args.digest.now
    all.number c.loop-number-test.checking c.end.result all.taken c.end.ensures.checks

pub returns-clause-blames : goal.returns-clause-blames
returns-clause-blames g c = c.end.ensures.blames c.args.path.now
