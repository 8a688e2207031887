use Rattle.detect_laws.proofs.SmallLaws.{small_detection_is_sound}
use Rattle.detect_laws.proofs.SmallRunLaws.{small_detection_ends}
use Rattle.detect_laws.proofs.small.a_small_detection_is_sound.Goals as goal

pub returns : goal.returns
returns c = record { sound = small_detection_is_sound; ends = small_detection_ends }
