use Rattle.std.proofs.Common.{◌∙◌, ap, refl, subst, Err}
use Rattle.std.specs.Prelude.{IfOk}
use Rattle.std.proofs.lemmas.Result.{err_from_is_err_and}
use Rattle.cnb_world.specs.declared.shelf.ShelfFault.TheVariants as shelf
use Rattle.shelf_set.proofs.AskLemmas.{check_fails, check_last, check_nothing, check_stops, reading_more, reading_none}
use Rattle.shelf_set.proofs.AskLemmas.{reading_stops}
use Rattle.shelf_set.specs.Searching.{IsSpelled}
use Rattle.tree_store.specs.Checking.{HasChecked}
use Rattle.shelf_set.proofs.ask.check.Goals as goal

pub returns-in_err-checking : goal.returns-in_err-checking
returns-in_err-checking g c =
    let exit = err_from_is_err_and c.from_residual.result c.from_residual.ensures.1 in
    rw (exit.1, exit.2) (
      Err shelf.Memory,
      refl,
      reading_stops _ 0 (λ bytes. Unit {0}) _ _ (reading_none _ (λ bytes. Unit {0}) _ tt),
    )

pub loop-number-init : goal.loop-number-init
loop-number-init g c = reading_none c.args.digest.now (HasChecked c.in_ok-checking.checking) _ c.in_ok-checking.ensures

pub loop-number-preserved : goal.loop-number-preserved
loop-number-preserved g c =
    reading_more c.args.digest.now c.in-Some.piece c.as_slice.result.now c.loop-number.number c.read_piece.result
    c.in_ok-piece.field-0 (HasChecked c.loop-number.checking) (HasChecked c.take.new.self) _ _ _
    c.loop-number.invariant c.in_ok-piece.was c.in-Some.is c.as_slice.ensures c.read_piece.ensures
    c.in_ok-take.ensures

pub returns-in_err-piece : goal.returns-in_err-piece
returns-in_err-piece g c =
    let exit = err_from_is_err_and c.from_residual-in_err-piece.result c.from_residual-in_err-piece.ensures.1 in
    check_fails c.args.digest.now c.loop-number.number c.read_piece.result c.in_err-piece.field-0.0
    c.from_residual-in_err-piece.result (HasChecked c.loop-number.checking) _ _ _ c.loop-number.invariant
    c.in_err-piece.was (exit.1 ∙ ap Err exit.2) c.read_piece.ensures

pub returns-in_default : goal.returns-in_default
returns-in_default g c =
    check_nothing c.args.digest.now c.loop-number.number c.read_piece.result c.in_ok-piece.field-0
    (HasChecked c.loop-number.checking) _ _ _ c.loop-number.invariant c.in_ok-piece.was c.in_default.is
    c.read_piece.ensures

pub returns-in_err-take : goal.returns-in_err-take
returns-in_err-take g c =
    let exit = err_from_is_err_and c.from_residual-in_err-take.result c.from_residual-in_err-take.ensures.1 in
    rw (exit.1, exit.2) (check_stops c.args.digest.now _ (λ bytes. Unit {0}) _ _ _
    (reading_more c.args.digest.now c.in-Some.piece c.as_slice.result.now c.loop-number.number c.read_piece.result
    c.in_ok-piece.field-0 (HasChecked c.loop-number.checking) (λ bytes. Unit {0}) _ _ _ c.loop-number.invariant
    c.in_ok-piece.was c.in-Some.is c.as_slice.ensures c.read_piece.ensures (λ bytes has. tt)) refl)

pub returns-in_err-spelled : goal.returns-in_err-spelled
returns-in_err-spelled g c =
    let exit = err_from_is_err_and c.from_residual-in_err-spelled.result c.from_residual-in_err-spelled.ensures.1 in
    rw (exit.1, exit.2) (check_stops c.args.digest.now _ (λ bytes. Unit {0}) _ _ _
    (reading_more c.args.digest.now c.in-Some.piece c.as_slice.result.now c.loop-number.number c.read_piece.result
    c.in_ok-piece.field-0 (HasChecked c.loop-number.checking) (λ bytes. Unit {0}) _ _ _ c.loop-number.invariant
    c.in_ok-piece.was c.in-Some.is c.as_slice.ensures c.read_piece.ensures (λ bytes has. tt)) refl)

pub returns-then-is_last : goal.returns-then-is_last
returns-then-is_last g c =
    check_last c.args.digest.now c.in-Some.piece c.as_slice.result.now c.loop-number.number c.read_piece.result
    c.in_ok-piece.field-0 (HasChecked c.loop-number.checking) (HasChecked c.take.new.self) _ _ _
    c.loop-number.invariant c.in_ok-piece.was c.in-Some.is c.as_slice.ensures c.read_piece.ensures
    c.in_ok-take.ensures c.in_ok-spelled.field-0 (c.is_last.ensures.0 c.if-is_last.true)
    (λ bytes has. subst (λ r. IfOk r (IsSpelled c.args.digest.now bytes)) c.in_ok-spelled.was
    (c.spelled.ensures c.args.digest.now bytes (c.end.ensures.checks bytes has)))

pub returns : goal.returns
returns g c = check_stops c.args.digest.now _ _ _ _ _ c.loop-number.invariant refl
