use Rattle.std.proofs.Common.{◌≡◌, ◌≤◌, length}
use Rattle.tree_store.specs.Receiving.{HasDone, OnFirst}
use Rattle.tree_store.specs.Target.{receivers_seen, shelf_of}
use Rattle.tree_store.proofs.receivers.give_each.Given as goal

abbrev pub invariant-loop-number : goal.invariant-loop-number
invariant-loop-number g l = record {
  within : l.number ≤ length l.initial.failed.items;
  flags : length l.failed.items ≡ length l.initial.failed.items;
  shelves : length l.shelves.items ≡ length l.initial.shelves.items;
  first : OnFirst l.number shelf_of (HasDone l.giving l.bytes) l.initial.failed.items l.failed.items
      (receivers_seen (λ vtable. (g.dyn-1.0.entry vtable).1) l.initial.shelves.items)
      (receivers_seen (λ vtable. (g.dyn-1.0.entry vtable).1) l.shelves.items);
}
