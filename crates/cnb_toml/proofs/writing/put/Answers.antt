use Rattle.std.proofs.Common.{◌∙◌, ap}
use Rattle.toml.specs.View.{view, members_view}
use Rattle.cnb_toml.specs.Writing.{put}
use Rattle.cnb_toml.proofs.Puts.{members_view-insert_entry}
use Rattle.cnb_toml.proofs.writing.put.Goals as goal

pub returns : goal.returns
returns c =
    let before = members_view c.args.table.now.entries in
    ap members_view c.in_ok-insert.ensures.entries ∙ members_view-insert_entry c.args.table.now.entries
    c.in_ok-key.key c.args.value
    ∙ ap (λ key. put key (view c.args.value) before) c.in_ok-key.ensures.ok
