use Rattle.std.specs.Prelude.{codes}
use Rattle.toml.proofs.Views.{table_get}
use Rattle.cnb_toml.proofs.meta.metadata.Goals as goal

pub returns : goal.returns
returns c = table_get c.get.result (codes "metadata") c.args.table.now.entries c.get.ensures.value
