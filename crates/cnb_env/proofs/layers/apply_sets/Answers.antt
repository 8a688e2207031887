use Rattle.std.proofs.Common.{◌∙◌, ◌+◌, drop, refl}
use Rattle.std.specs.List.{list_all}
use Rattle.std.proofs.lemmas.List.{drop_all}
use Rattle.std.proofs.lemmas.Result.{err_from_is_err_and}
use Rattle.cnb_world.proofs.Misuse.{no_misuse, one_fits, rest_fits}
use Rattle.cnb_world.specs.Tree.{Tree}
use Rattle.cnb_env.specs.Layers.{each, is_fit_set, set_applied}
use Rattle.cnb_env.proofs.EachLemmas.{all_done, moves, next_item, nothing_done, stops}
use Rattle.cnb_env.proofs.BlameLemmas.{in_sets}
use Rattle.cnb_env.proofs.layers.apply_sets.Goals as goal

pub returns-in_err-apply_set-clause-reads : goal.returns-in_err-apply_set-clause-reads
returns-in_err-apply_set-clause-reads g c =
    let phase = c.args.phase.now in
    let next = next_item c.args.sets.now c.loop-layers.layers-index c.layers-item.result c.loop-layers-test.true
    c.layers-item.is in
    let exit = err_from_is_err_and c.from_residual.result c.from_residual.ensures.1 in
    rw (exit.1, exit.2) (stops (set_applied phase) c.layers-item.result
    (drop (c.loop-layers.layers-index + 1) c.args.sets.now) _ next
    (λ (files : Tree). each (set_applied phase files) c.args.sets.now c.args.env.now)
    c.loop-layers.env _ _ _ c.loop-layers.invariant.tree c.in_err-apply_set.ensures.reads c.loop-layers.invariant.left)

pub returns-in_err-apply_set-clause-misused : goal.returns-in_err-apply_set-clause-misused
returns-in_err-apply_set-clause-misused g c =
    let next = next_item c.args.sets.now c.loop-layers.layers-index c.layers-item.result c.loop-layers-test.true
    c.layers-item.is in
    c.loop-layers.invariant.misused _ (one_fits (is_fit_set c.args.phase.now) c.layers-item.result
    (drop (c.loop-layers.layers-index + 1) c.args.sets.now) _ next _ _ c.loop-layers.invariant.tree _ _
    c.in_err-apply_set.ensures.misused)

pub loop-layers-preserved : goal.loop-layers-preserved
loop-layers-preserved g c =
    let phase = c.args.phase.now in
    let later = drop (c.loop-layers.layers-index + 1) c.args.sets.now in
    let next = next_item c.args.sets.now c.loop-layers.layers-index c.layers-item.result c.loop-layers-test.true
    c.layers-item.is in
    record {
      tree = c.in_ok-apply_set.ensures.leaves.files ∙ c.loop-layers.invariant.tree;
      files = c.in_ok-apply_set.ensures.leaves.counts ∙ c.loop-layers.invariant.files;
      children = c.in_ok-apply_set.ensures.leaves.children ∙ c.loop-layers.invariant.children;
      runs = c.in_ok-apply_set.ensures.leaves.runs ∙ c.loop-layers.invariant.runs;
      misused = λ now h. c.loop-layers.invariant.misused now
          (rest_fits (is_fit_set phase) c.layers-item.result later _ next _ _ c.loop-layers.invariant.tree _ _ now
          c.in_ok-apply_set.ensures.misused h);
      left = moves (set_applied phase) c.layers-item.result later _ next
          (λ (files : Tree). each (set_applied phase files) c.args.sets.now c.args.env.now)
          c.loop-layers.env _ _ _ c.loop-layers.invariant.tree c.in_ok-apply_set.ensures.reads
          c.loop-layers.invariant.left;
    }

pub loop-layers-init : goal.loop-layers-init
loop-layers-init g c = record {
  tree = refl;
  files = refl;
  children = refl;
  runs = refl;
  misused = λ now h. h;
  left = nothing_done (g.W.World.tree c.args.world.now) (set_applied c.args.phase.now) c.args.sets.now c.args.env.now;
}

pub returns-clause-reads : goal.returns-clause-reads
returns-clause-reads g c =
    all_done (g.W.World.tree c.args.world.now) (set_applied c.args.phase.now)
    (drop c.loop-layers.layers-index c.args.sets.now) c.loop-layers.env
    (λ (files : Tree). each (set_applied c.args.phase.now files) c.args.sets.now c.args.env.now)
    (drop_all c.loop-layers.layers-index c.args.sets.now c.loop-layers-test.false) c.loop-layers.invariant.left

pub returns-clause-misused : goal.returns-clause-misused
returns-clause-misused g c = c.loop-layers.invariant.misused _
    (no_misuse (λ (files : Tree). list_all (is_fit_set c.args.phase.now files)
    (drop c.loop-layers.layers-index c.args.sets.now)) (g.W.World.tree c.args.world.now)
    (g.W.World.misused c.loop-layers.world) _ refl)

pub returns-in_err-apply_set-clause-blames : goal.returns-in_err-apply_set-clause-blames
returns-in_err-apply_set-clause-blames g c =
    let exit = err_from_is_err_and c.from_residual.result c.from_residual.ensures.1 in
    rw (exit.1, exit.2) (in_sets c.args.sets.now c.loop-layers.layers-index c.layers-item.result
    c.loop-layers-test.true c.layers-item.is _ c.in_err-apply_set.ensures.blames)
