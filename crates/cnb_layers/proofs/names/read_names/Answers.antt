use Rattle.std.proofs.Common.{◌≡◌, ap, refl, sym, ℕ, Bool, false, inl, inr, ◌⊎◌}
use Rattle.std.proofs.lemmas.Result.{err_from_is_err_and}
use Rattle.steps.proofs.StepLemmas.{ended, went}
use Rattle.steps.specs.Steps.{yields}
use Rattle.cnb_env.specs.Files.{is_absent}
use Rattle.cnb_world.specs.declared.world.Kind.{Kind}
use Rattle.cnb_world.specs.declared.world.Kind.TheVariants as kind
use Rattle.cnb_layers.specs.Names.{lists_unless, reads_names}
use Rattle.cnb_layers.proofs.ReadSteps.{same_for}
use Rattle.cnb_layers.proofs.names.read_names.Goals as goal

pub returns-in_err-kind : goal.returns-in_err-kind
unfolding reads_names
returns-in_err-kind g c =
    let exit = err_from_is_err_and c.from_residual.result c.from_residual.ensures.1 in
    rw (exit.1, exit.2) (record { step = ended _ _ _ _ _ c.in_err-kind.ensures.step })

pub returns-in-Absent : goal.returns-in-Absent
unfolding reads_names yields
returns-in-Absent g c =
    record {
      step = went _ _ _ _ _ _ _ c.in_ok-kind.ensures.step
          (same_for (λ what. lists_unless (is_absent what) c.args.folder.now) _ _ _ _ _ (sym c.in-Absent.is)
          (c.new.ensures, refl));
    }

stands : (what : Kind) → (what ≡ kind.Folder)
    ⊎ (((exec : Bool) × (len : ℕ) × (what ≡ kind.File exec len)) ⊎ ((what ≡ kind.Link) ⊎ (what ≡ kind.Odd)))
    → is_absent what ≡ false
stands what (inl h) = ap is_absent h
stands what (inr (inl (exec, len, h))) = ap is_absent h
stands what (inr (inr (inl h))) = ap is_absent h
stands what (inr (inr (inr h))) = ap is_absent h

pub returns-in-Folder : goal.returns-in-Folder
unfolding reads_names
returns-in-Folder g c =
    record {
      step = went _ _ _ _ _ _ _ c.in_ok-kind.ensures.step
          (same_for (λ absent. lists_unless absent c.args.folder.now) _ _ _ _ _
          (sym (stands _ c.in-Folder.is)) c.list.ensures.step);
    }
