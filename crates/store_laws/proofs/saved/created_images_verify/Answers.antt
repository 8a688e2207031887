use Rattle.store_laws.proofs.SavedStores.{created_saved}
use Rattle.store_laws.proofs.saved.created_images_verify.Goals as goal

pub returns : goal.returns
returns c = record { saves = created_saved }
