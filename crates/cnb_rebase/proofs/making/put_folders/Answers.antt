use Rattle.std.proofs.lemmas.Result.{err_from_is_err_and}
use Rattle.steps.proofs.EachLemmas.{goes_on, over, stops}
use Rattle.cnb_rebase.specs.Bases.{puts_folders}
use Rattle.cnb_rebase.proofs.making.put_folders.Goals as goal

pub returns-in_err-digests : goal.returns-in_err-digests
unfolding puts_folders
returns-in_err-digests g c =
    let exit = err_from_is_err_and c.from_residual.result c.from_residual.ensures.1 in
    rw (exit.1, exit.2) (record {
      steps = (c.loop-folder.invariant.step _ _
          (stops _ _ _ c.folder-item.result _ _ _ _ c.loop-folder-test.true c.folder-item.is
          c.in_err-digests.ensures.step));
    })

pub loop-folder-preserved : goal.loop-folder-preserved
loop-folder-preserved g c = record {
  step = λ result new h. c.loop-folder.invariant.step result new
      (goes_on _ _ _ c.folder-item.result _ _ _ _ c.loop-folder-test.true c.folder-item.is
      c.in_ok-digests.ensures.step result new h);
}

pub returns : goal.returns
unfolding puts_folders
returns g c = record { steps = c.loop-folder.invariant.step _ _ (over _ _ _ _ _ c.loop-folder-test.false) }
