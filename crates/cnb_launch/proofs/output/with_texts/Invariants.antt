use Rattle.std.proofs.Common.{◌≡◌}
use Rattle.toml.specs.View.{members_view}
use Rattle.cnb_launch.specs.Output.{with_texts}
use Rattle.cnb_launch.proofs.output.with_texts.Given as goal

abbrev pub invariant-loop-name : goal.invariant-loop-name
invariant-loop-name l = with_texts (members_view l.name-iterator) l.env
    ≡ with_texts (members_view l.table.entries) l.initial.env
