use Rattle.std.proofs.Common.{◌≡◌, drop}
use Rattle.toml.specs.View.{items_view, members_view}
use Rattle.cnb_toml.specs.Meta.{items_at, members_at}
use Rattle.cnb_toml.proofs.Joined.{joined}
use Rattle.cnb_toml.proofs.Metas.{plain_at}
use Rattle.cnb_toml.proofs.meta.+read.Given as goal

abbrev pub invariant-read_items-loop-place : goal.invariant-read_items-loop-place
invariant-read_items-loop-place l =
    items_at l.depth 0 (items_view l.item-items) ≡ joined l.list
    (items_at l.depth l.place (items_view (drop l.place l.item-items)))

abbrev pub invariant-read_members-loop-key : goal.invariant-read_members-loop-key
invariant-read_members-loop-key l =
    members_at l.depth (members_view l.members.entries) ≡ joined l.entries
    (plain_at l.depth (members_view l.key-iterator))
