use Rattle.std.proofs.lemmas.Result.{err_from_is_err_and}
use Rattle.image_docs.specs.Image.{image_table_in}
use Rattle.image_docs.specs.RunImage.{table_in}
use Rattle.steps.proofs.StepLemmas.{ended, went}
use Rattle.store_prune.specs.Named.{digests_of_image, digests_of_run, reads_named}
use Rattle.store_prune.proofs.NamedSteps.{folder_at, folder_refused, named_at}
use Rattle.store_prune.proofs.named.read_named.Goals as goal

pub returns-in_err-images : goal.returns-in_err-images
unfolding reads_named
returns-in_err-images g c =
    let exit = err_from_is_err_and c.from_residual.result c.from_residual.ensures.1 in
    rw (exit.1, exit.2) (record { steps = ended _ _ _ _ _ (folder_refused image_table_in digests_of_image _ _ _) })

pub returns-in_err-runs : goal.returns-in_err-runs
unfolding reads_named
returns-in_err-runs g c =
    let exit = err_from_is_err_and c.from_residual-in_err-runs.result c.from_residual-in_err-runs.ensures.1 in
    rw (exit.1, exit.2) (record { steps = ended _ _ _ _ _ (folder_refused image_table_in digests_of_image _ _ _) })

pub returns-in_err-named : goal.returns-in_err-named
unfolding reads_named
returns-in_err-named g c =
    let exit = err_from_is_err_and c.from_residual-in_err-named.result c.from_residual-in_err-named.ensures.1 in
    rw (exit.1, exit.2) (record {
      steps = ended _ _ _ _ _
          (named_at image_table_in digests_of_image _ _ _ _ _ _ c.new-named.ensures
          (folder_at image_table_in digests_of_image _ _ _ _ _ _ c.in_ok-images.ensures.path
          c.in_err-named.ensures.steps));
    })

pub returns : goal.returns
unfolding reads_named
returns g c = record {
  steps = went _ _ _ _ _ _ _ (named_at image_table_in digests_of_image _ _ _ _ _ _ c.new-named.ensures
      (folder_at image_table_in digests_of_image _ _ _ _ _ _ c.in_ok-images.ensures.path
      c.in_ok-named.ensures.steps)) (folder_at table_in digests_of_run _ _ _ _ _ _ c.in_ok-runs.ensures.path
      c.add_folder-2.ensures.steps);
}
