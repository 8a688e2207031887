use Rattle.std.proofs.Common.{◌∙◌, ap, refl}
use Rattle.std.specs.List.{range_with_len}
use Rattle.std.proofs.lemmas.Result.{err_from_is_err_and}
use Rattle.cnb_lifecycle.proofs.EndLemmas.{begun, early_does, early_idle, early_refused, early_shelves, kept_shelves}
use Rattle.cnb_lifecycle.proofs.EndLemmas.{not_refused}
use Rattle.cnb_lifecycle.proofs.NumberLemmas.{all_stand}
use Rattle.cnb_lifecycle.proofs.top.run_words.Goals as goal

pub run_asked-end-requires-clause-standing : goal.run_asked-end-requires-clause-standing
run_asked-end-requires-clause-standing g c κs within = all_stand _ _
    (c.in_ok-places.ensures ∙ ap (range_with_len 0) (c.len.ensures ∙ c.args.shelves.now.ok.0))

pub returns-in_err-places-clause-refused : goal.returns-in_err-places-clause-refused
returns-in_err-places-clause-refused g c =
    let exit = err_from_is_err_and c.from_residual.result c.from_residual.ensures.1 in
    rw (exit.1, exit.2) (early_refused _ _ _ tt tt)

pub returns-in_err-places-clause-idle : goal.returns-in_err-places-clause-idle
returns-in_err-places-clause-idle g c = early_idle _ _ _ _ refl refl refl

pub returns-in_err-places-clause-does : goal.returns-in_err-places-clause-does
returns-in_err-places-clause-does g c =
    let exit = err_from_is_err_and c.from_residual.result c.from_residual.ensures.1 in
    rw (exit.1, exit.2) (early_does _ _ _ _ _ _ tt tt)

pub returns-in_err-places-clause-shelves : goal.returns-in_err-places-clause-shelves
returns-in_err-places-clause-shelves g c = early_shelves _ _ refl

pub returns-in_err-asked-clause-refused : goal.returns-in_err-asked-clause-refused
returns-in_err-asked-clause-refused g c =
    let exit = err_from_is_err_and c.from_residual-in_err-asked.result c.from_residual-in_err-asked.ensures.1 in
    rw (exit.1, exit.2) (early_refused _ _ _ c.in_err-asked.ensures.command c.in_err-asked.ensures.cause)

pub returns-in_err-asked-clause-idle : goal.returns-in_err-asked-clause-idle
returns-in_err-asked-clause-idle g c = early_idle _ _ _ _ refl refl refl

pub returns-in_err-asked-clause-does : goal.returns-in_err-asked-clause-does
returns-in_err-asked-clause-does g c =
    let exit = err_from_is_err_and c.from_residual-in_err-asked.result c.from_residual-in_err-asked.ensures.1 in
    rw (exit.1, exit.2) (early_does _ _ _ _ _ _ c.in_err-asked.ensures.command c.in_err-asked.ensures.cause)

pub returns-in_err-asked-clause-shelves : goal.returns-in_err-asked-clause-shelves
returns-in_err-asked-clause-shelves g c = early_shelves _ _ refl

pub returns-clause-refused : goal.returns-clause-refused
returns-clause-refused g c = not_refused _ _ _ c.in_ok-asked.ensures.command

pub returns-clause-idle : goal.returns-clause-idle
returns-clause-idle g c = not_refused _ _ _ c.in_ok-asked.ensures.command

pub returns-clause-does : goal.returns-clause-does
returns-clause-does g c = begun _ _ (c.in_ok-places.ensures
    ∙ ap (range_with_len 0) (c.len.ensures ∙ c.args.shelves.now.ok.0)) _ _ _ _ _ _ _ _
    c.in_ok-asked.ensures.command c.run_asked-end.ensures.does

pub returns-clause-shelves : goal.returns-clause-shelves
returns-clause-shelves g c = kept_shelves _ _ _ c.in_ok-asked.ensures.command c.run_asked-end.ensures.shelves
