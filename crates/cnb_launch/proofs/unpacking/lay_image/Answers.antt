use Rattle.std.proofs.Common.{List, Ok, Err, subst, sym, true}
use Rattle.std.specs.List.{list_all}
use Rattle.std.specs.Prelude.{IsTrue}
use Rattle.std.proofs.lemmas.Result.{err_from_is_err_and}
use Rattle.image_docs.specs.Row.{is_row}
use Rattle.image_docs.specs.declared.row.Row.{Row}
use Rattle.steps.proofs.StepLemmas.{allowed_by, ended, given, given_fault, mapped, mapped_fault, went}
use Rattle.cnb_launch.specs.Unpacking.{lays_image}
use Rattle.cnb_launch.proofs.ImageLemmas.{launch_can_be_read, rows_can_be_laid}
use Rattle.cnb_launch.proofs.PlanLemmas.{read_step}
use Rattle.cnb_launch.proofs.UnpackLemmas.{rows_as}
use Rattle.cnb_launch.proofs.unpacking.lay_image.Goals as goal

pub lay_rows-requires-clause-rows : goal.lay_rows-requires-clause-rows
lay_rows-requires-clause-rows g c =
    let P : List Row → Type 0 = λ rows. IsTrue (list_all is_row rows) in
    subst P (sym c.as_slice.ensures) (rows_can_be_laid c.args.image.now c.requires.readable)

pub lay_launch-requires-clause-readable : goal.lay_launch-requires-clause-readable
lay_launch-requires-clause-readable g c = launch_can_be_read c.args.image.now c.requires.readable

pub returns-in_err-absent : goal.returns-in_err-absent
unfolding lays_image
returns-in_err-absent g c =
    let exit = err_from_is_err_and c.from_residual.result c.from_residual.ensures.1 in
    rw (exit.1, exit.2) (record {
      steps = ended _ _ _ _ _
          (mapped_fault _ _ _ _ _ (read_step g.W.World _ (λ files. true) _ _ _ _ c.in_err-absent.ensures.reads
          c.in_err-absent.ensures.leaves c.in_err-absent.ensures.blames (allowed_by (λ files. true)
          (g.W.World.tree c.args.world.now) _ _ c.in_err-absent.ensures.misused)));
    })

pub returns-in_err-if_absent : goal.returns-in_err-if_absent
unfolding lays_image
returns-in_err-if_absent g c =
    let exit = err_from_is_err_and c.from_residual-in_err-if_absent.result c.from_residual-in_err-if_absent.ensures.1 in
    rw (exit.1, exit.2) (record {
      steps = went _ _ _ _ _ _ _
          (mapped _ _ _ _ _ (read_step g.W.World _ (λ files. true) _ _ _ _ c.in_ok-absent.ensures.reads
          c.in_ok-absent.ensures.leaves tt (allowed_by (λ files. true)
          (g.W.World.tree c.args.world.now) _ _ c.in_ok-absent.ensures.misused)))
          (ended _ _ _ _ _ (given_fault _ _ _ _ c.in_err-if_absent.ensures.answer
          c.in_err-if_absent.ensures.given));
    })

pub returns-in_err-lay_rows : goal.returns-in_err-lay_rows
unfolding lays_image
returns-in_err-lay_rows g c =
    let exit = err_from_is_err_and c.from_residual-in_err-lay_rows.result c.from_residual-in_err-lay_rows.ensures.1 in
    rw (exit.1, exit.2) (record {
      steps = went _ _ _ _ _ _ _
          (mapped _ _ _ _ _ (read_step g.W.World _ (λ files. true) _ _ _ _ c.in_ok-absent.ensures.reads
          c.in_ok-absent.ensures.leaves tt (allowed_by (λ files. true)
          (g.W.World.tree c.args.world.now) _ _ c.in_ok-absent.ensures.misused)))
          (went _ _ _ _ _ _ _ (given _ _ _ _ c.in_ok-if_absent.ensures.answer)
          (ended _ _ _ _ _ (rows_as _ _ _ _ _ _ (Err _) c.as_slice.ensures c.in_err-lay_rows.ensures.step)));
    })

pub returns : goal.returns
unfolding lays_image
returns g c =
    record {
      steps = went _ _ _ _ _ _ _ (mapped _ _ _ _ _
          (read_step g.W.World _ (λ files. true) _ _ _ _ c.in_ok-absent.ensures.reads c.in_ok-absent.ensures.leaves tt
          (allowed_by (λ files. true) (g.W.World.tree c.args.world.now) _ _ c.in_ok-absent.ensures.misused)))
          (went _ _ _ _ _ _ _ (given _ _ _ _ c.in_ok-if_absent.ensures.answer)
          (went _ _ _ _ _ _ _ (rows_as _ _ _ _ _ _ (Ok _) c.as_slice.ensures c.in_ok-lay_rows.ensures.step)
          c.lay_launch.ensures.step));
    }
