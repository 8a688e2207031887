use Rattle.std.proofs.Common.{◌≡◌, take}
use Rattle.cnb_toml.proofs.meta.+copy.Given as goal

abbrev pub invariant-copy_entries-loop-entry : goal.invariant-copy_entries-loop-entry
invariant-copy_entries-loop-entry l = l.copies ≡ take l.entry-index l.entries

abbrev pub invariant-copy_list-loop-meta : goal.invariant-copy_list-loop-meta
invariant-copy_list-loop-meta l = l.copies ≡ take l.meta-index l.list
