use Rattle.std.proofs.lemmas.Result.{err_from_is_err_and}
use Rattle.shelf_set.proofs.FolderLemmas.{digest_at, putting_all, putting_more, putting_none, putting_stops}
use Rattle.shelf_set.proofs.FolderLemmas.{putting_within, short_at, within_back, within_map}
use Rattle.shelf_set.proofs.storing.put_folders.Goals as goal

pub loop-number-init : goal.loop-number-init
loop-number-init g c = putting_none _ _ _ _ _ c.requires.none (within_map _ _ _ c.requires.numbered)

pub cache_folder-requires-clause-numbered : goal.cache_folder-requires-clause-numbered
cache_folder-requires-clause-numbered g c = within_back _ _ _ (putting_within _ _ _ _ _ _ _ _ _ c.loop-number.invariant)

pub cache_folder-requires-clause-path : goal.cache_folder-requires-clause-path
cache_folder-requires-clause-path g c =
    let short = short_at c.args.folders.now c.loop-number.number c.index-folders-number.result c.requires.short
    c.loop-number-test.true c.index-folders-number.is in
    short.0

pub cache_folder-requires-clause-plain : goal.cache_folder-requires-clause-plain
cache_folder-requires-clause-plain g c =
    let short = short_at c.args.folders.now c.loop-number.number c.index-folders-number.result c.requires.short
    c.loop-number-test.true c.index-folders-number.is in
    short.1

pub returns-in_err-cache_folder : goal.returns-in_err-cache_folder
returns-in_err-cache_folder g c =
    let exit = err_from_is_err_and c.from_residual.result c.from_residual.ensures.1 in
    rw (exit.1, exit.2) (putting_stops _ _ c.loop-number.number _ _ _ _ _ _ _ _ _ _ c.index-folders-number.result
    c.loop-number-test.true c.requires.folders c.index-folders-number.is
    (digest_at c.args.layers.now _ _ c.index-layers-number.result c.loop-number-test.true c.requires.folders)
    c.loop-number.invariant c.cache_folder.result c.in_err-cache_folder.field-0.0 c.cache_folder.ensures.caches
    c.in_err-cache_folder.was)

pub loop-number-preserved : goal.loop-number-preserved
loop-number-preserved g c = putting_more _ _ c.loop-number.number _ _ _ _ _ _ _ _ _ _ c.index-folders-number.result
    c.loop-number-test.true c.requires.folders c.index-folders-number.is
    (digest_at c.args.layers.now _ _ c.index-layers-number.result c.loop-number-test.true c.requires.folders)
    c.loop-number.invariant c.cache_folder.result c.in_ok-cache_folder.field-0 c.cache_folder.ensures.caches
    c.in_ok-cache_folder.was

pub returns : goal.returns
returns g c = putting_all _ _ c.loop-number.number _ _ _ _ _ _ _ c.loop-number-test.false c.requires.folders
    c.loop-number.invariant
