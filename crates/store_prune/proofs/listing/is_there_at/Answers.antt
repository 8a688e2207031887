use Rattle.std.proofs.Common.{Ok, true}
use Rattle.std.specs.Prelude.{is_some}
use Rattle.std.proofs.lemmas.Result.{err_from_is_err_and}
use Rattle.cnb_world.specs.Tree.{Tree, item_at}
use Rattle.image_files.proofs.ToldReads.{files_read, files_refused}
use Rattle.steps.specs.Causes.{Only}
use Rattle.steps.proofs.StepLemmas.{allowed_by}
use Rattle.store_prune.specs.Faults.{cause_of, of_read_fault}
use Rattle.store_prune.specs.Listing.{looks_for}
use Rattle.store_prune.proofs.ReadCauses.{same_cause}
use Rattle.store_prune.proofs.listing.is_there_at.Goals as goal

pub returns-in_err-there : goal.returns-in_err-there
unfolding looks_for
returns-in_err-there g c =
    let exit = err_from_is_err_and c.from_residual.result c.from_residual.ensures.1 in
    rw (exit.1, exit.2) (record {
      steps = files_refused cause_of of_read_fault same_cause (Only c.args.path.now) (λ (files : Tree). true)
          (λ (files : Tree). Ok (is_some (item_at files c.args.path.now))) _ c.in_err-there.ensures.reads
          c.in_err-there.ensures.leaves c.in_err-there.ensures.blames
          (allowed_by (λ (files : Tree). true) _ _ _ c.in_err-there.ensures.misused);
    })

pub returns : goal.returns
unfolding looks_for
returns g c = record {
  steps = files_read cause_of of_read_fault same_cause (Only c.args.path.now) (λ (files : Tree). true)
      (λ (files : Tree). Ok (is_some (item_at files c.args.path.now))) c.in_ok-there.there
      c.in_ok-there.ensures.reads c.in_ok-there.ensures.leaves
      (allowed_by (λ (files : Tree). true) _ _ _ c.in_ok-there.ensures.misused);
}
