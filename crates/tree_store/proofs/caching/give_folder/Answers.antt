use Rattle.std.proofs.Common.{ap, sym}
use Rattle.tree_store.specs.Target.{ToShelves, receivers_seen}
use Rattle.tree_store.proofs.Givings.{folder_given, folder_not_given}
use Rattle.tree_store.proofs.Receivings.{few_seen}
use Rattle.tree_store.proofs.caching.give_folder.Goals as goal

pub returns-in-Ok : goal.returns-in-Ok
returns-in-Ok g c = folder_given c.args.path.now c.args.receivers.digest _ _ _ _ _ _ _ _ _ _ _ _ _ _
    (few_seen _ _ c.args.receivers.shelves.items c.args.receivers.numbered) (record {
      target = ap (λ r. ToShelves r.digest
          (receivers_seen (λ vtable. (g.dyn-1.0.entry vtable).1) r.shelves.items) r.failed.items)
          c.new-writer.ensures.target;
      piece = c.new-writer.ensures.piece;
      hashed = c.new-writer.ensures.hashed;
      begun = c.requires.begun;
      plain = c.requires.plain;
    }) c.in-Ok.ensures
    (ap (λ r. ToShelves r.digest (receivers_seen (λ vtable. (g.dyn-1.0.entry vtable).1) r.shelves.items)
    r.failed.items) (sym c.end-given.ensures.target)) c.end-given.ensures.digest c.keep_found-kept.ensures.keeps

pub returns-in-Err : goal.returns-in-Err
returns-in-Err g c = folder_not_given c.args.path.now c.args.receivers.digest _ _ _ _ _ _ _ _ _ _
    (few_seen _ _ c.args.receivers.shelves.items c.args.receivers.numbered) (record {
      target = ap (λ r. ToShelves r.digest
          (receivers_seen (λ vtable. (g.dyn-1.0.entry vtable).1) r.shelves.items) r.failed.items)
          c.new-writer.ensures.target;
      piece = c.new-writer.ensures.piece;
      hashed = c.new-writer.ensures.hashed;
      begun = c.requires.begun;
      plain = c.requires.plain;
    }) c.in-Err.ensures
    (ap (λ r. ToShelves r.digest (receivers_seen (λ vtable. (g.dyn-1.0.entry vtable).1) r.shelves.items)
    r.failed.items) (sym c.end-given.ensures.target))
