use Rattle.cnb_create.proofs.DefinedLaws.{creates_defined_image}
use Rattle.cnb_create.proofs.defined.created_image_is_defined.Goals as goal

pub returns : goal.returns
returns c = record { defined = creates_defined_image }
