use Rattle.std.proofs.lemmas.Result.{err_from_is_err_and}
use Rattle.shelf_set.proofs.FolderLemmas.{folders_within, rows_not_set, rows_refused, rows_set, within_back}
use Rattle.shelf_set.proofs.storing.put_all.Goals as goal

pub returns-in_err-put_folders : goal.returns-in_err-put_folders
returns-in_err-put_folders g c =
    let exit = err_from_is_err_and c.from_residual.result c.from_residual.ensures.1 in
    rw (exit.1, exit.2) (rows_not_set _ _ c.args.document.now _ _ _ _ _ _ c.in_err-put_folders.field-0.0
    c.in_err-put_folders.ensures)

pub cache_rows-requires : goal.cache_rows-requires
cache_rows-requires g c = within_back _ _ _ (folders_within _ _ c.args.document.now _ _ _ _ _ _ c.put_folders.result
    c.put_folders.ensures)

pub returns-in_err-cache_rows : goal.returns-in_err-cache_rows
returns-in_err-cache_rows g c =
    let exit = err_from_is_err_and c.from_residual-in_err-cache_rows.result
    c.from_residual-in_err-cache_rows.ensures.1 in
    rw (exit.1, exit.2) (rows_refused _ _ c.args.document.now _ _ _ _ _ _ _ _ c.in_ok-put_folders.field-0
    c.in_ok-put_folders.ensures c.cache_rows.result c.in_err-cache_rows.field-0.0 c.cache_rows.ensures
    c.in_err-cache_rows.was)

pub returns : goal.returns
returns g c = rows_set _ _ c.args.document.now _ _ _ _ _ _ _ _ c.in_ok-put_folders.field-0
    c.in_ok-put_folders.ensures c.cache_rows.result c.in_ok-cache_rows.field-0 c.cache_rows.ensures
    c.in_ok-cache_rows.was
