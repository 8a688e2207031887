use Rattle.std.proofs.Common.{◌≡◌, map, take}
use Rattle.toml.specs.View.{view}
use Rattle.cnb_toml.specs.Written.{table_data}
use Rattle.image_docs.specs.EnvRows.{variable_members}
use Rattle.image_docs.proofs.env_rows.written_variables.Given as goal

abbrev pub invariant-loop-variable : goal.invariant-loop-variable
invariant-loop-variable l = map view l.values.items ≡ map (table_data variable_members)
    (take l.variable-index l.variables)
