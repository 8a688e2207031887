use Rattle.unpack_laws.proofs.VerifiedLaws.{unpacked_so}
use Rattle.unpack_laws.proofs.verified.verified_images_unpack.Goals as goal

pub returns : goal.returns
returns c = record {
  unpacks = λ store name root files count whole path apart. unpacked_so store root path apart
      name files count whole;
}
