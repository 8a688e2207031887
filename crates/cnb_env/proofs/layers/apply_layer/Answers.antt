use Rattle.std.proofs.Common.{List, ℕ, Ok, codes, refl}
use Rattle.std.proofs.lemmas.Result.{err_from_is_err_and}
use Rattle.cnb_world.proofs.Misuse.{both, one_fits}
use Rattle.cnb_world.specs.Path.{joined}
use Rattle.cnb_world.specs.Tree.{Tree}
use Rattle.cnb_env.specs.Files.{is_fit_folder}
use Rattle.cnb_env.specs.Layers.{are_fit_folders, env_folders, folder_applied, phase_folders}
use Rattle.cnb_env.proofs.BlameLemmas.{in_folder, in_layer}
use Rattle.cnb_env.proofs.EachLemmas.{first_refused, then_later, then_refused}
use Rattle.cnb_env.proofs.layers.apply_layer.Goals as goal

pub returns-in_err-apply_folder-clause-reads : goal.returns-in_err-apply_folder-clause-reads
returns-in_err-apply_folder-clause-reads g c =
    let layer = c.args.layer.now in
    let exit = err_from_is_err_and c.from_residual.result c.from_residual.ensures.1 in
    rw (exit.1, exit.2) (first_refused folder_applied (joined layer (codes "env")) c.args.env.now
    (phase_folders c.args.phase.now layer) _ _ c.in_err-apply_folder.ensures.reads)

pub returns-in_err-apply_folder-clause-misused : goal.returns-in_err-apply_folder-clause-misused
returns-in_err-apply_folder-clause-misused g c =
    let layer = c.args.layer.now in
    one_fits (λ (files : Tree) (folder : List ℕ). is_fit_folder folder files) (joined layer (codes "env"))
    (phase_folders c.args.phase.now layer) (env_folders c.args.phase.now layer) refl _ _ refl _ _
    c.in_err-apply_folder.ensures.misused

pub returns-in_err-apply_folder-clause-blames : goal.returns-in_err-apply_folder-clause-blames
returns-in_err-apply_folder-clause-blames g c =
    let exit = err_from_is_err_and c.from_residual.result c.from_residual.ensures.1 in
    rw (exit.1, exit.2) (in_layer c.args.layer.now _
    (in_folder c.args.layer.now (codes "env") _ refl refl _ c.in_err-apply_folder.ensures.blames))

pub returns-in_err-apply_phase_folders-clause-reads : goal.returns-in_err-apply_phase_folders-clause-reads
returns-in_err-apply_phase_folders-clause-reads g c =
    let layer = c.args.layer.now in
    let exit = err_from_is_err_and c.from_residual-in_err-apply_phase_folders.result
    c.from_residual-in_err-apply_phase_folders.ensures.1 in
    rw (exit.1, exit.2) (then_refused folder_applied (joined layer (codes "env")) c.args.env.now
    (phase_folders c.args.phase.now layer) _ _ _ _ c.in_ok-apply_folder.ensures.leaves.files
    c.in_ok-apply_folder.ensures.reads c.in_err-apply_phase_folders.ensures.reads)

pub returns-in_err-apply_phase_folders-clause-misused : goal.returns-in_err-apply_phase_folders-clause-misused
returns-in_err-apply_phase_folders-clause-misused g c =
    let layer = c.args.layer.now in
    both (λ (files : Tree). is_fit_folder (joined layer (codes "env")) files)
    (λ (files : Tree). are_fit_folders files (phase_folders c.args.phase.now layer)) _ _ _ _ _
    c.in_ok-apply_folder.ensures.leaves.files c.in_ok-apply_folder.ensures.misused
    c.in_err-apply_phase_folders.ensures.misused

pub returns-clause-reads : goal.returns-clause-reads
returns-clause-reads g c =
    let layer = c.args.layer.now in
    then_later folder_applied (joined layer (codes "env")) c.args.env.now
    (phase_folders c.args.phase.now layer) _ _ _ (Ok _) c.in_ok-apply_folder.ensures.leaves.files
    c.in_ok-apply_folder.ensures.reads c.in_ok-apply_phase_folders.ensures.reads

pub returns-clause-misused : goal.returns-clause-misused
returns-clause-misused g c =
    let layer = c.args.layer.now in
    both (λ (files : Tree). is_fit_folder (joined layer (codes "env")) files)
    (λ (files : Tree). are_fit_folders files (phase_folders c.args.phase.now layer)) _ _ _ _ _
    c.in_ok-apply_folder.ensures.leaves.files c.in_ok-apply_folder.ensures.misused
    c.in_ok-apply_phase_folders.ensures.misused
