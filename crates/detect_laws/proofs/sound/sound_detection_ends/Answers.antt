use Rattle.detect_laws.proofs.SoundLaws.{faultless_detections_end, sound_detections_end}
use Rattle.detect_laws.proofs.sound.sound_detection_ends.Goals as goal

pub returns : goal.returns
returns c = record { ends = sound_detections_end; well = faultless_detections_end }
