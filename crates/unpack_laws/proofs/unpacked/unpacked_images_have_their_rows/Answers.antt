use Rattle.unpack_laws.proofs.UnpackedLaws.{unpacked}
use Rattle.unpack_laws.proofs.unpacked.unpacked_images_have_their_rows.Goals as goal

pub returns : goal.returns
returns c = record {
  unpacks = λ store name root files path apart. unpacked store root path apart files name;
}
