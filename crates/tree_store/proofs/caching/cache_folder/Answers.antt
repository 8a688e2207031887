use Rattle.std.proofs.Common.{◌∙◌, ap}
use Rattle.std.proofs.lemmas.Result.{err_from_is_err_and}
use Rattle.tree_store.specs.Target.{receivers_seen}
use Rattle.tree_store.proofs.Givings.{begun_on, folder_cached_on, folder_not_begun}
use Rattle.tree_store.proofs.caching.cache_folder.Goals as goal

pub returns-in_err-give_each : goal.returns-in_err-give_each
returns-in_err-give_each g c =
    let exit = err_from_is_err_and c.from_residual.result c.from_residual.ensures.1 in
    rw (exit.1, exit.2) (record {
      caches = folder_not_begun c.args.digest.now c.args.path.now _ c.args.shelves.now.items
          c.give_each.new.shelves.items _ _ _ _ c.in_err-give_each.ensures.gives;
    })

pub give_folder-given-requires-clause-begun : goal.give_folder-given-requires-clause-begun
give_folder-given-requires-clause-begun g c = begun_on c.args.digest.now _ _ _ _ _ _ _ _ c.in_ok-give_each.ensures.gives
    c.new-receivers.ensures.digest
    (c.new-receivers.ensures.failed ∙ ap (λ v. v.items) c.replace-2.ensures.value)
    (ap (receivers_seen (λ vtable. (g.dyn-1.0.entry vtable).1))
    (c.new-receivers.ensures.shelves ∙ ap (λ v. v.items) c.replace.ensures.value))

pub returns : goal.returns
returns g c = record {
  caches = folder_cached_on c.args.digest.now _ c.args.path.now _ c.args.shelves.now.items
      c.give_each.new.shelves.items c.new-receivers.result.shelves.items c.give_folder-given.result.0.shelves.items
      _ _ _ _ _ _ _ _ c.in_ok-give_each.ensures.gives c.give_folder-given.ensures c.new-receivers.ensures.digest
      (c.new-receivers.ensures.failed ∙ ap (λ v. v.items) c.replace-2.ensures.value)
      (c.new-receivers.ensures.shelves ∙ ap (λ v. v.items) c.replace.ensures.value);
}
