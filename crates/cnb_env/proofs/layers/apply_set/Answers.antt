use Rattle.std.proofs.Common.{ℕ, List, Ok}
use Rattle.std.proofs.lemmas.Result.{err_from_is_err_and}
use Rattle.cnb_world.specs.Tree.{Tree}
use Rattle.cnb_world.specs.declared.env.Variable.{Variable}
use Rattle.cnb_env.specs.Layers.{IsOfLayers, each, layer_applied, set_applied, when_of, with_paths}
use Rattle.cnb_env.proofs.BlameLemmas.{fails_same}
use Rattle.cnb_env.proofs.BuildLemmas.{same_layers, same_layers_refused, same_when}
use Rattle.cnb_env.proofs.EachLemmas.{fails_reads, told_then, told_then_refused}
use Rattle.cnb_env.proofs.layers.apply_set.Goals as goal

pub returns-in_err-put_paths-clause-reads : goal.returns-in_err-put_paths-clause-reads
returns-in_err-put_paths-clause-reads g c =
    let exit = err_from_is_err_and c.from_residual.result c.from_residual.ensures.1 in
    rw (exit.1, exit.2) (fails_reads (IsOfLayers c.as_slice-layers.result.now) _
    (λ (files : Tree). set_applied c.args.phase.now files c.args.layers.now c.args.env.now) _
    c.in_err-put_paths.ensures.fails)

pub returns-in_err-put_paths-clause-blames : goal.returns-in_err-put_paths-clause-blames
returns-in_err-put_paths-clause-blames g c =
    let exit = err_from_is_err_and c.from_residual.result c.from_residual.ensures.1 in
    rw (exit.1, exit.2) (fails_same c.as_slice-layers.result.now c.args.layers.now c.as_slice-layers.ensures _
    c.in_err-put_paths.ensures.fails)

pub returns-in_err-apply_layers-clause-reads : goal.returns-in_err-apply_layers-clause-reads
returns-in_err-apply_layers-clause-reads g c =
    let phase = c.args.phase.now in
    let layers = c.as_slice-layers.result.now in
    let exit = err_from_is_err_and c.from_residual-in_err-apply_layers.result
    c.from_residual-in_err-apply_layers.ensures.1 in
    rw (exit.1, exit.2) (same_layers_refused _ _ (λ (ls : List (List ℕ))
    (files : Tree). set_applied phase files ls c.args.env.now) layers c.args.layers.now
    c.as_slice-layers.ensures
    (told_then_refused _ _ (λ (files : Tree). with_paths (when_of phase) files layers c.args.env.now)
    (λ (files : Tree) (env : List Variable). each (layer_applied phase files) layers env) _ _
    c.in_ok-put_paths.ensures.leaves.files
    (same_when (g.W.World.tree c.args.world.now) _ _ layers c.args.env.now _ c.when_of.ensures
    c.in_ok-put_paths.ensures.found) c.in_err-apply_layers.ensures.reads))

pub returns-clause-reads : goal.returns-clause-reads
returns-clause-reads g c =
    let phase = c.args.phase.now in
    let layers = c.as_slice-layers.result.now in
    same_layers _ (Ok _) (λ (ls : List (List ℕ)) (files : Tree). set_applied phase files ls c.args.env.now) layers
    c.args.layers.now c.as_slice-layers.ensures
    (told_then _ _ (λ (files : Tree). with_paths (when_of phase) files layers c.args.env.now)
    (λ (files : Tree) (env : List Variable). each (layer_applied phase files) layers env) _
    (Ok _) c.in_ok-put_paths.ensures.leaves.files
    (same_when (g.W.World.tree c.args.world.now) _ _ layers c.args.env.now _ c.when_of.ensures
    c.in_ok-put_paths.ensures.found) c.in_ok-apply_layers.ensures.reads)
