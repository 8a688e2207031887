use Rattle.std.proofs.Common.{◌≡◌, drop, map, take}
use Rattle.toml.specs.Data.{no_members}
use Rattle.toml.specs.View.{view, members_view}
use Rattle.cnb_toml.specs.Meta.{data_of, entry_of}
use Rattle.cnb_toml.specs.Writing.{put_all}
use Rattle.cnb_toml.proofs.meta.+write.Given as goal

abbrev pub invariant-write_list-loop-meta : goal.invariant-write_list-loop-meta
invariant-write_list-loop-meta l = map view l.items.items ≡ map data_of (take l.meta-index l.list)

abbrev pub invariant-write_table-loop-entry : goal.invariant-write_table-loop-entry
invariant-write_table-loop-entry l =
    put_all (map entry_of (drop l.entry-index l.entries)) (members_view l.table.entries)
    ≡ put_all (map entry_of l.entries) no_members
