use Rattle.std.proofs.Common.{◌≡◌}
use Rattle.toml.specs.View.{array_view}
use Rattle.cnb_toml.specs.Form.{items_in}
use Rattle.cnb_toml.proofs.Items.{read_on}
use Rattle.cnb_toml.proofs.form.items.Given as goal

abbrev pub invariant-loop-place : goal.invariant-loop-place
invariant-loop-place g l = read_on g.F.Form.value_of l.items l.place l.values.items
    ≡ items_in g.F.Form.value_of 0 (array_view l.values)
