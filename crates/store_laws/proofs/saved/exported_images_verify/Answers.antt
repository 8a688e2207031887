use Rattle.store_laws.proofs.SavedStores.{exported_saved}
use Rattle.store_laws.proofs.saved.exported_images_verify.Goals as goal

pub returns : goal.returns
returns c = record { saves = exported_saved }
