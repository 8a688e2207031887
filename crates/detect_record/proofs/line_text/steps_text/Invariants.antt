use Rattle.std.proofs.Common.{◌≡◌, ◌++◌, string_bytes, take}
use Rattle.std.specs.Prelude.{flat_map}
use Rattle.detect_record.specs.Forms.{spaced}
use Rattle.detect_record.proofs.line_text.steps_text.Given as goal

abbrev pub invariant-loop-step : goal.invariant-loop-step
invariant-loop-step l = string_bytes l.text ≡ l.name ++ flat_map spaced (take l.step-index l.steps)
