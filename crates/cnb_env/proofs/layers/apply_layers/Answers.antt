use Rattle.std.proofs.Common.{◌∙◌, ◌+◌, drop, refl}
use Rattle.std.specs.List.{list_all}
use Rattle.std.proofs.lemmas.List.{drop_all}
use Rattle.std.proofs.lemmas.Result.{err_from_is_err_and}
use Rattle.cnb_world.proofs.Misuse.{no_misuse, one_fits, rest_fits}
use Rattle.cnb_world.specs.Tree.{Tree}
use Rattle.cnb_env.specs.Layers.{each, is_fit_layer, layer_applied}
use Rattle.cnb_env.proofs.EachLemmas.{all_done, moves, next_item, nothing_done, stops}
use Rattle.cnb_env.proofs.BlameLemmas.{in_layers}
use Rattle.cnb_env.proofs.layers.apply_layers.Goals as goal

pub returns-in_err-apply_layer-clause-reads : goal.returns-in_err-apply_layer-clause-reads
returns-in_err-apply_layer-clause-reads g c =
    let phase = c.args.phase.now in
    let next = next_item c.args.layers.now c.loop-layer.layer-index c.layer-item.result c.loop-layer-test.true
    c.layer-item.is in
    let exit = err_from_is_err_and c.from_residual.result c.from_residual.ensures.1 in
    rw (exit.1, exit.2) (stops (layer_applied phase) c.layer-item.result
    (drop (c.loop-layer.layer-index + 1) c.args.layers.now) _ next
    (λ (files : Tree). each (layer_applied phase files) c.args.layers.now c.args.env.now)
    c.loop-layer.env _ _ _ c.loop-layer.invariant.tree c.in_err-apply_layer.ensures.reads c.loop-layer.invariant.left)

pub returns-in_err-apply_layer-clause-misused : goal.returns-in_err-apply_layer-clause-misused
returns-in_err-apply_layer-clause-misused g c =
    let next = next_item c.args.layers.now c.loop-layer.layer-index c.layer-item.result c.loop-layer-test.true
    c.layer-item.is in
    c.loop-layer.invariant.misused _ (one_fits (is_fit_layer c.args.phase.now) c.layer-item.result
    (drop (c.loop-layer.layer-index + 1) c.args.layers.now) _ next _ _ c.loop-layer.invariant.tree _ _
    c.in_err-apply_layer.ensures.misused)

pub loop-layer-preserved : goal.loop-layer-preserved
loop-layer-preserved g c =
    let phase = c.args.phase.now in
    let later = drop (c.loop-layer.layer-index + 1) c.args.layers.now in
    let next = next_item c.args.layers.now c.loop-layer.layer-index c.layer-item.result c.loop-layer-test.true
    c.layer-item.is in
    record {
      tree = c.in_ok-apply_layer.ensures.leaves.files ∙ c.loop-layer.invariant.tree;
      files = c.in_ok-apply_layer.ensures.leaves.counts ∙ c.loop-layer.invariant.files;
      children = c.in_ok-apply_layer.ensures.leaves.children ∙ c.loop-layer.invariant.children;
      runs = c.in_ok-apply_layer.ensures.leaves.runs ∙ c.loop-layer.invariant.runs;
      misused = λ now h. c.loop-layer.invariant.misused now
          (rest_fits (is_fit_layer phase) c.layer-item.result later _ next _ _ c.loop-layer.invariant.tree _ _ now
          c.in_ok-apply_layer.ensures.misused h);
      left = moves (layer_applied phase) c.layer-item.result later _ next
          (λ (files : Tree). each (layer_applied phase files) c.args.layers.now c.args.env.now)
          c.loop-layer.env _ _ _ c.loop-layer.invariant.tree c.in_ok-apply_layer.ensures.reads
          c.loop-layer.invariant.left;
    }

pub loop-layer-init : goal.loop-layer-init
loop-layer-init g c = record {
  tree = refl;
  files = refl;
  children = refl;
  runs = refl;
  misused = λ now h. h;
  left = nothing_done (g.W.World.tree c.args.world.now) (layer_applied c.args.phase.now) c.args.layers.now
      c.args.env.now;
}

pub returns-clause-reads : goal.returns-clause-reads
returns-clause-reads g c =
    all_done (g.W.World.tree c.args.world.now) (layer_applied c.args.phase.now)
    (drop c.loop-layer.layer-index c.args.layers.now) c.loop-layer.env
    (λ (files : Tree). each (layer_applied c.args.phase.now files) c.args.layers.now c.args.env.now)
    (drop_all c.loop-layer.layer-index c.args.layers.now c.loop-layer-test.false) c.loop-layer.invariant.left

pub returns-clause-misused : goal.returns-clause-misused
returns-clause-misused g c = c.loop-layer.invariant.misused _
    (no_misuse (λ (files : Tree). list_all (is_fit_layer c.args.phase.now files)
    (drop c.loop-layer.layer-index c.args.layers.now)) (g.W.World.tree c.args.world.now)
    (g.W.World.misused c.loop-layer.world) _ refl)

pub returns-in_err-apply_layer-clause-blames : goal.returns-in_err-apply_layer-clause-blames
returns-in_err-apply_layer-clause-blames g c =
    let exit = err_from_is_err_and c.from_residual.result c.from_residual.ensures.1 in
    rw (exit.1, exit.2) (in_layers c.args.layers.now c.loop-layer.layer-index c.layer-item.result
    c.loop-layer-test.true c.layer-item.is _ c.in_err-apply_layer.ensures.blames)
