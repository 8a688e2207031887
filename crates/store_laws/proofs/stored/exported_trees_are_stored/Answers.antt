use Rattle.store_laws.proofs.ImageStores.{exported_stored}
use Rattle.store_laws.proofs.stored.exported_trees_are_stored.Goals as goal

pub returns : goal.returns
returns c = record { stores = exported_stored }
