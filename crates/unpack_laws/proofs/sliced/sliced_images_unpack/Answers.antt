use Rattle.unpack_laws.proofs.SlicedLaws.{alike}
use Rattle.unpack_laws.proofs.sliced.sliced_images_unpack.Goals as goal

pub returns : goal.returns
returns c = record {
  unpacks = λ store root one other files sliced whole first second differ path apart. alike
      store root path apart files one other sliced whole first second differ;
}
