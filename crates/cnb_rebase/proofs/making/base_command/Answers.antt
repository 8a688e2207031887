use Rattle.std.proofs.Common.{◌∙◌, ◌≤◌, ap, length, refl, subst, sym, List, ℕ, Ok}
use Rattle.cnb_toml.specs.Names.{is_target_name}
use Rattle.std.proofs.lemmas.Result.{err_from_is_err_and}
use Rattle.image_files.proofs.ReadableLaws.{written_readable_run}
use Rattle.image_files.specs.declared.fault.ImageFault.TheVariants as image
use Rattle.steps.proofs.StepLemmas.{ended, given, mapped, mapped_fault, no_memory, went, yielded}
use Rattle.cnb_rebase.specs.Bases.{bases_command}
use Rattle.cnb_rebase.specs.declared.refusal.BaseFault.{BaseFault}
use Rattle.cnb_rebase.specs.declared.refusal.BaseFault.TheVariants.{Image}
use Rattle.cnb_rebase.proofs.BaseLemmas.{made_as}
use Rattle.cnb_rebase.proofs.StandLaws.{based_stands}
use Rattle.cnb_rebase.proofs.making.base_command.Goals as goal

pub returns-in_err-image-clause-steps : goal.returns-in_err-image-clause-steps
unfolding bases_command
returns-in_err-image-clause-steps g c =
    let exit = err_from_is_err_and c.from_residual.result c.from_residual.ensures.1 in
    rw (exit.1, exit.2) (ended _ _ _ _ _ (mapped_fault _ _ _ _ _
    (made_as _ _ _ _ _ _ _ _ _ _ c.as_str.ensures c.as_str-2.ensures c.as_slice.ensures
    c.in_err-image.ensures.steps)))

pub returns-in_err-text-clause-steps : goal.returns-in_err-text-clause-steps
unfolding bases_command
returns-in_err-text-clause-steps g c =
    let exit = err_from_is_err_and c.from_residual-in_err-text.result c.from_residual-in_err-text.ensures.1 in
    rw (exit.1, exit.2) (went _ _ _ _ _ _ _ (mapped _ _ _ _ _
    (made_as _ _ _ _ _ _ _ _ _ _ c.as_str.ensures c.as_str-2.ensures c.as_slice.ensures
    c.in_ok-image.ensures.steps)) (ended _ _ _ _ _ (no_memory _ _ _ (Image image.Memory) refl)))

pub returns-in_err-save_run_image-clause-steps : goal.returns-in_err-save_run_image-clause-steps
unfolding bases_command
returns-in_err-save_run_image-clause-steps g c =
    let exit = err_from_is_err_and c.from_residual-in_err-save_run_image.result
    c.from_residual-in_err-save_run_image.ensures.1 in
    rw (exit.1, exit.2) (went _ _ _ _ _ _ _ (mapped _ _ _ _ _
    (made_as _ _ _ _ _ _ _ _ _ _ c.as_str.ensures c.as_str-2.ensures c.as_slice.ensures
    c.in_ok-image.ensures.steps)) (went _ _ _ _ _ _ _ (given _ _ _ _ (ap Ok (sym c.in_ok-text.ensures)))
    (ended _ _ _ _ _ (mapped_fault _ _ _ _ _ (written_readable_run _ _ _ _ _ _
    (c.in_ok-image.ensures.readable (ap is_target_name c.as_str.ensures ∙ c.requires.os)
    (ap is_target_name c.as_str-2.ensures ∙ c.requires.arch)
    (subst (λ (folders : List (List ℕ)). 1 ≤ length folders) (sym c.as_slice.ensures) c.requires.some_tree))
    c.in_err-save_run_image.ensures.step)))))

pub returns-clause-steps : goal.returns-clause-steps
unfolding bases_command
returns-clause-steps g c =
    went _ _ _ _ _ _ _ (mapped _ _ _ _ _ (made_as _ _ _ _ _ _ _ _ _ _ c.as_str.ensures c.as_str-2.ensures
    c.as_slice.ensures c.in_ok-image.ensures.steps))
    (went _ _ _ _ _ _ _ (given _ _ _ _ (ap Ok (sym c.in_ok-text.ensures)))
    (went _ _ _ _ _ _ _ (mapped _ _ _ _ _ (written_readable_run _ _ _ _ _ _
    (c.in_ok-image.ensures.readable (ap is_target_name c.as_str.ensures ∙ c.requires.os)
    (ap is_target_name c.as_str-2.ensures ∙ c.requires.arch)
    (subst (λ (folders : List (List ℕ)). 1 ≤ length folders) (sym c.as_slice.ensures) c.requires.some_tree))
    c.in_ok-save_run_image.ensures.step)) (yielded BaseFault _ _)))

pub returns-clause-stands : goal.returns-clause-stands
returns-clause-stands g c = based_stands _ _ _ _ (returns-clause-steps g c)
