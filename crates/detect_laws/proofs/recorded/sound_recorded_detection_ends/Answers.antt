use Rattle.detect_laws.proofs.RecordedLaws.{faultless_recorded_detections_end, sound_recorded_detections_end}
use Rattle.detect_laws.proofs.recorded.sound_recorded_detection_ends.Goals as goal

pub returns : goal.returns
returns c = record { ends = sound_recorded_detections_end; well = faultless_recorded_detections_end }
