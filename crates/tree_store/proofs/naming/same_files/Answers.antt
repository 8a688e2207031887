use Rattle.std.proofs.Common.{◌∙◌, subst}
use Rattle.std.specs.Option.{option_map}
use Rattle.std.specs.Prelude.{◌&&◌}
use Rattle.cnb_world.specs.Calls.{MayMisuse}
use Rattle.cnb_world.specs.Tree.{is_file, item_at}
use Rattle.tree_store.proofs.Kept.{file_read, may_more}
use Rattle.tree_store.proofs.Settled.{both_alike, last_alike, one_differs}
use Rattle.tree_store.proofs.naming.same_files.Goals as goal

pub loop-number-preserved : goal.loop-number-preserved
loop-number-preserved g c =
    record {
      alike = both_alike (g.W.World.tree c.args.world.now) (g.W.World.tree c.loop-number.world) c.args.path.now
          c.args.file.now c.loop-number.number c.in_ok-compare_piece.field-0 c.in-Whole.is
          c.loop-number.invariant.tree c.loop-number.invariant.alike c.in_ok-compare_piece.ensures.told;
      stands = file_read (g.W.World.tree c.args.world.now) (g.W.World.tree c.loop-number.world) c.args.path.now _
          c.loop-number.invariant.tree c.in_ok-compare_piece.ensures.stands;
      tree = c.in_ok-compare_piece.ensures.leaves.files ∙ c.loop-number.invariant.tree;
      files = c.in_ok-compare_piece.ensures.leaves.counts ∙ c.loop-number.invariant.files;
      children = c.in_ok-compare_piece.ensures.leaves.children ∙ c.loop-number.invariant.children;
      runs = c.in_ok-compare_piece.ensures.leaves.runs ∙ c.loop-number.invariant.runs;
      misused = may_more (option_map (λ t. is_file (item_at t c.args.path.now)
          && is_file (item_at t c.args.file.now)) (g.W.World.tree c.args.world.now)) _ _ _
          c.loop-number.invariant.misused (subst (λ x. MayMisuse
          (option_map (λ t. is_file (item_at t c.args.path.now) && is_file (item_at t c.args.file.now)) x)
          (g.W.World.misused c.loop-number.world) (g.W.World.misused c.compare_piece.new.world))
          c.loop-number.invariant.tree c.in_ok-compare_piece.ensures.misused);
    }

pub returns-in-Other-clause-told : goal.returns-in-Other-clause-told
returns-in-Other-clause-told g c =
    one_differs (g.W.World.tree c.args.world.now) (g.W.World.tree c.loop-number.world) c.args.path.now
    c.args.file.now c.args.len _ c.in_ok-compare_piece.field-0 c.in-Other.is c.loop-number.invariant.tree
    c.in_ok-compare_piece.ensures.told

pub returns-in-Last-clause-told : goal.returns-in-Last-clause-told
returns-in-Last-clause-told g c =
    last_alike (g.W.World.tree c.args.world.now) (g.W.World.tree c.loop-number.world) c.args.path.now
    c.args.file.now c.args.len c.loop-number.number c.in_ok-compare_piece.field-0 c.in-Last.is
    c.loop-number.invariant.tree c.loop-number.invariant.alike c.in_ok-compare_piece.ensures.told
