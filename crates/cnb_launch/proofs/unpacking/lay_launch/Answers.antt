use Rattle.std.proofs.Common.{Ok, Err}
use Rattle.std.proofs.lemmas.Result.{err_from_is_err_and}
use Rattle.steps.proofs.StepLemmas.{ended, mapped, mapped_fault, went}
use Rattle.cnb_launch.specs.Unpacking.{lays_launch}
use Rattle.cnb_launch.proofs.UnpackLemmas.{laid_as, made, not_made}
use Rattle.cnb_launch.proofs.unpacking.lay_launch.Goals as goal

pub returns-in_err-place : goal.returns-in_err-place
unfolding lays_launch
returns-in_err-place g c =
    let exit = err_from_is_err_and c.from_residual.result c.from_residual.ensures.1 in
    rw (exit.1, exit.2) (record { step = ended _ _ _ _ _ (not_made _ _) })

pub returns-in_err-bytes : goal.returns-in_err-bytes
unfolding lays_launch
returns-in_err-bytes g c =
    let exit = err_from_is_err_and c.from_residual-in_err-bytes.result c.from_residual-in_err-bytes.ensures.1 in
    rw (exit.1, exit.2) (record { step = ended _ _ _ _ _ (not_made _ _) })

pub returns-in_err-tree : goal.returns-in_err-tree
unfolding lays_launch
returns-in_err-tree g c =
    let exit = err_from_is_err_and c.from_residual-in_err-tree.result c.from_residual-in_err-tree.ensures.1 in
    rw (exit.1, exit.2) (record { step = ended _ _ _ _ _ (not_made _ _) })

pub returns-in_err-write_tree : goal.returns-in_err-write_tree
unfolding lays_launch
returns-in_err-write_tree g c =
    let exit = err_from_is_err_and c.from_residual-in_err-write_tree.result
    c.from_residual-in_err-write_tree.ensures.1 in
    let laid = laid_as _ _ _ _ _ _ _ (Err _) c.in_ok-place.ensures.path c.in_ok-tree.ensures.file
    c.in_err-write_tree.ensures.steps in
    rw (exit.1, exit.2) (record {
      step = went _ _ _ _ _ _ _
          (made _ _ _ (c.in_ok-bytes.ensures.reads_back c.requires.readable)) (mapped_fault _ _ _ _ _ laid);
    })

pub returns : goal.returns
unfolding lays_launch
returns g c =
    let laid = laid_as _ _ _ _ _ _ _ (Ok _) c.in_ok-place.ensures.path c.in_ok-tree.ensures.file
    c.in_ok-write_tree.ensures.steps in
    record {
      step = went _ _ _ _ _ _ _ (made _ _ _ (c.in_ok-bytes.ensures.reads_back c.requires.readable))
          (mapped _ _ _ _ _ laid);
    }
