use Rattle.std.proofs.Common.{◌≡◌, ◌∙◌, ap, arith, length}
use Rattle.std.proofs.lemmas.Result.{err_from_is_err_and}
use Rattle.image_docs.specs.CacheRows.{is_cache_doc}
use Rattle.shelf_set.proofs.CachingLemmas.{all_there, not_stored, put_as, stored_again, stored_all, stored_part}
use Rattle.shelf_set.proofs.caching.store_all.Goals as goal

pub returns-in_err-document-clause-stores : goal.returns-in_err-document-clause-stores
returns-in_err-document-clause-stores g c =
    let exit = err_from_is_err_and c.from_residual.result c.from_residual.ensures.1 in
    rw (exit.1, exit.2) (not_stored (is_cache_doc c.args.layers.now) c.args.layers.now c.args.folders.now _)

pub returns-in_err-spare-clause-stores : goal.returns-in_err-spare-clause-stores
returns-in_err-spare-clause-stores g c =
    let exit = err_from_is_err_and c.from_residual-in_err-spare.result c.from_residual-in_err-spare.ensures.1 in
    rw (exit.1, exit.2) (not_stored (is_cache_doc c.args.layers.now) c.args.layers.now c.args.folders.now _)

pub returns-in_err-failed-clause-stores : goal.returns-in_err-failed-clause-stores
returns-in_err-failed-clause-stores g c =
    let exit = err_from_is_err_and c.from_residual-in_err-failed.result c.from_residual-in_err-failed.ensures.1 in
    rw (exit.1, exit.2) (not_stored (is_cache_doc c.args.layers.now) c.args.layers.now c.args.folders.now _)

pub drop_failed-gone-requires-clause-standing : goal.drop_failed-gone-requires-clause-standing
drop_failed-gone-requires-clause-standing g c =
    let spare = ap length (c.in_ok-spare.ensures.items_if_clones_equal (λ x y e. e) ∙ c.as_slice.ensures) in
    let count : length c.in_ok-failed.failed.items ≡ length c.args.places.now = omega (
      arith,
      c.in_ok-failed.failed.ok.0,
      c.in_ok-failed.ensures.len,
      c.len.ensures,
      c.in_ok-spare.spare.ok.0,
      spare,
    ) in
    all_there _ _ _ c.put_all-stored.result _ _ _ _ _ _ c.args.places.now count c.put_all-stored.ensures

pub returns-in_err-stored-clause-stores : goal.returns-in_err-stored-clause-stores
returns-in_err-stored-clause-stores g c =
    let spare = ap length (c.in_ok-spare.ensures.items_if_clones_equal (λ x y e. e) ∙ c.as_slice.ensures) in
    let count : length c.in_ok-failed.failed.items ≡ length c.args.places.now = omega (
      arith,
      c.in_ok-failed.failed.ok.0,
      c.in_ok-failed.ensures.len,
      c.len.ensures,
      c.in_ok-spare.spare.ok.0,
      spare,
    ) in
    let put = put_as c.args.layers.now _ c.args.folders.now _ c.in_ok-document.document _ _ c.deref.result.now _ _
    _ _ _ _
    c.as_slice-2.ensures c.as_slice-3.ensures c.as_slice-4.ensures c.deref.ensures.value c.put_all-stored.ensures in
    let exit = err_from_is_err_and c.from_residual-in_err-stored.result c.from_residual-in_err-stored.ensures.1 in
    rw (exit.1, exit.2) (stored_part _ _ _ _ _ _ _ _ _ _ c.args.places.now _ _ count
    c.drop_failed-gone.ensures
    (is_cache_doc c.args.layers.now) c.in_ok-document.ensures.reads_back c.put_all-stored.result
    c.in_err-stored.field-0.0 put c.in_err-stored.was)

pub returns-in_err-stored-clause-again : goal.returns-in_err-stored-clause-again
returns-in_err-stored-clause-again g c =
    let spare = ap length (c.in_ok-spare.ensures.items_if_clones_equal (λ x y e. e) ∙ c.as_slice.ensures) in
    let count : length c.in_ok-failed.failed.items ≡ length c.args.places.now = omega (
      arith,
      c.in_ok-failed.failed.ok.0,
      c.in_ok-failed.ensures.len,
      c.len.ensures,
      c.in_ok-spare.spare.ok.0,
      spare,
    ) in
    let put = put_as c.args.layers.now _ c.args.folders.now _ c.in_ok-document.document _ _ c.deref.result.now _ _
    _ _ _ _
    c.as_slice-2.ensures c.as_slice-3.ensures c.as_slice-4.ensures c.deref.ensures.value c.put_all-stored.ensures in
    stored_again _ _ _ _ _ _ _ _ _ _ c.args.places.now _ _ count
    c.drop_failed-gone.ensures c.put_all-stored.result put

pub returns-clause-stores : goal.returns-clause-stores
returns-clause-stores g c =
    let spare = ap length (c.in_ok-spare.ensures.items_if_clones_equal (λ x y e. e) ∙ c.as_slice.ensures) in
    let count : length c.in_ok-failed.failed.items ≡ length c.args.places.now = omega (
      arith,
      c.in_ok-failed.failed.ok.0,
      c.in_ok-failed.ensures.len,
      c.len.ensures,
      c.in_ok-spare.spare.ok.0,
      spare,
    ) in
    let put = put_as c.args.layers.now _ c.args.folders.now _ c.in_ok-document.document _ _ c.deref.result.now _ _
    _ _ _ _
    c.as_slice-2.ensures c.as_slice-3.ensures c.as_slice-4.ensures c.deref.ensures.value c.put_all-stored.ensures in
    stored_all _ _ _ _ _ _ _ _ _ _ c.args.places.now _ _ count
    c.drop_failed-gone.ensures
    (is_cache_doc c.args.layers.now) c.in_ok-document.ensures.reads_back c.put_all-stored.result
    c.in_ok-stored.field-0 put
    c.in_ok-stored.was

pub returns-clause-again : goal.returns-clause-again
returns-clause-again g c =
    let spare = ap length (c.in_ok-spare.ensures.items_if_clones_equal (λ x y e. e) ∙ c.as_slice.ensures) in
    let count : length c.in_ok-failed.failed.items ≡ length c.args.places.now = omega (
      arith,
      c.in_ok-failed.failed.ok.0,
      c.in_ok-failed.ensures.len,
      c.len.ensures,
      c.in_ok-spare.spare.ok.0,
      spare,
    ) in
    let put = put_as c.args.layers.now _ c.args.folders.now _ c.in_ok-document.document _ _ c.deref.result.now _ _
    _ _ _ _
    c.as_slice-2.ensures c.as_slice-3.ensures c.as_slice-4.ensures c.deref.ensures.value c.put_all-stored.ensures in
    stored_again _ _ _ _ _ _ _ _ _ _ c.args.places.now _ _ count
    c.drop_failed-gone.ensures c.put_all-stored.result put
