use Rattle.std.proofs.Common.{◌∙◌, ap, refl, sym, Ok}
use Rattle.std.proofs.lemmas.Result.{err_from_is_err_and}
use Rattle.steps.proofs.StepLemmas.{ended, given, no_memory, went}
use Rattle.tree_store.specs.declared.fault.StoreFault.TheVariants as stored
use Rattle.cnb_layers.specs.declared.fault.ExportFault.TheVariants.{Store}
use Rattle.cnb_layers.specs.Gathering.{keeps_documented, kept_of}
use Rattle.cnb_layers.specs.Layer.{flags_of}
use Rattle.cnb_layers.proofs.gathering.keep_documented.Goals as goal

pub returns-in_err-contents : goal.returns-in_err-contents
unfolding keeps_documented
returns-in_err-contents g c =
    let exit = err_from_is_err_and c.from_residual.result c.from_residual.ensures.1 in
    rw (exit.1, exit.2) (record { step = ended _ _ _ _ _ c.in_err-contents.ensures.step })

pub returns-in_err-settled : goal.returns-in_err-settled
unfolding keeps_documented
returns-in_err-settled g c =
    let exit = err_from_is_err_and c.from_residual-in_err-settled.result c.from_residual-in_err-settled.ensures.1 in
    rw (exit.1, exit.2) (record {
      step = went _ _ _ _ _ _ _ c.in_ok-contents.ensures.step
          (ended _ _ _ _ _ c.in_err-settled.ensures.step);
    })

pub returns-in_err-kept : goal.returns-in_err-kept
unfolding keeps_documented
returns-in_err-kept g c =
    let exit = err_from_is_err_and c.from_residual-in_err-kept.result c.from_residual-in_err-kept.ensures.1 in
    rw (exit.1, exit.2) (record {
      step = went _ _ _ _ _ _ _ c.in_ok-contents.ensures.step
          (went _ _ _ _ _ _ _ c.in_ok-settled.ensures.step (no_memory _ _ _ (Store stored.Memory) refl));
    })

pub returns : goal.returns
unfolding keeps_documented
returns g c =
    record {
      step = went _ _ _ _ _ _ _ c.in_ok-contents.ensures.step
          (went _ _ _ _ _ _ _ c.in_ok-settled.ensures.step
          (given _ _ _ _ (ap Ok (sym (c.in_ok-kept.ensures
          ∙ ap (λ cached. kept_of c.args.frame.now.id.now c.args.layer.now (flags_of c.args.doc) c.args.doc.meta cached
          c.in_ok-settled.settled) c.is_cached.ensures)))));
    }
