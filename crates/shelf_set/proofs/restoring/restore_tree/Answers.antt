use Rattle.std.proofs.Common.{◌∙◌, Err, ap, sym}
use Rattle.std.proofs.lemmas.Result.{err_from_is_err_and}
use Rattle.shelf_set.proofs.RestoredLemmas.{as_many, counted_so, ended_so, looked_so, no_memory, refused_so}
use Rattle.shelf_set.proofs.restoring.restore_tree.Goals as goal

pub returns-in_err-spare-clause-step : goal.returns-in_err-spare-clause-step
returns-in_err-spare-clause-step g c =
    let exit = err_from_is_err_and c.from_residual.result c.from_residual.ensures.1 in
    rw (exit.1, exit.2) (no_memory _ _ _ _ c.requires.standing)

pub returns-in_err-free-clause-step : goal.returns-in_err-free-clause-step
returns-in_err-free-clause-step g c =
    let exit = err_from_is_err_and c.from_residual-in_err-free.result c.from_residual-in_err-free.ensures.1 in
    looked_so _ c.args.root.now _ _ _ c.is_free.result c.in_err-free.field-0.0 _ c.requires.standing c.in_err-free.was
    (exit.1 ∙ ap Err exit.2) c.is_free.ensures

pub part_into-gone-requires-clause-room : goal.part_into-gone-requires-clause-room
part_into-gone-requires-clause-room g c =
    as_many _ _ _ _ _ c.into_vec-numbers.result.items _ _ _ _ _ c.search-found.ensures c.in_ok-spare.spare.items
    (c.in_ok-spare.ensures.items_if_clones_equal (λ x y e. e) ∙ c.as_slice.ensures
    ∙ sym (c.into_vec-numbers.ensures ∙ c.replace.ensures.value))

pub returns-in_err-found-clause-step : goal.returns-in_err-found-clause-step
returns-in_err-found-clause-step g c =
    let exit = err_from_is_err_and c.from_residual-in_err-found.result c.from_residual-in_err-found.ensures.1 in
    refused_so _ _ _ _ _ _ _ c.in_ok-free.free c.is_free.result _ _ _ c.search-found.result.found c.in_ok-free.was
    c.is_free.ensures (c.into_vec-numbers.ensures ∙ c.replace.ensures.value) c.part_into-gone.ensures.left
    c.search-found.ensures c.in_err-found.field-0.0 _ c.in_err-found.was (exit.1 ∙ ap Err exit.2)

pub returns-clause-step : goal.returns-clause-step
returns-clause-step g c =
    ended_so _ _ _ _ _ _ _ c.in_ok-free.free c.is_free.result _ _ _ c.search-found.result.found c.in_ok-free.was
    c.is_free.ensures (c.into_vec-numbers.ensures ∙ c.replace.ensures.value) c.part_into-gone.ensures.left
    c.search-found.ensures _ c.in_ok-found.was c.part_into-gone.ensures.gone

pub returns-clause-count : goal.returns-clause-count
returns-clause-count g c = counted_so _ _ _ _ _ _ _ _ _ _ _ c.search-found.ensures c.args.places.now _ _
    (c.into_vec-numbers.ensures ∙ c.replace.ensures.value) c.part_into-gone.ensures.left c.part_into-gone.ensures.gone
