-- Each line of good form has one text, which is read as that line.
use Rattle.std.specs.Prelude.{◌≡◌, ◌<◌, ◌^◌, true, List, length, map, Option, Some, None, ℤ, pos, negsuc}
use Rattle.std.specs.List.{All}
use Rattle.cnb_toml.specs.Names.{is_bp_id, is_bp_version, is_target_name}
use Rattle.cnb_toml.specs.declared.names.Key.{Key}
use Rattle.cnb_toml.specs.declared.target.Target.{Target}
use Rattle.cnb_world.specs.declared.child.Probed.{Probed}
use Rattle.hex.specs.Hex.{IsBytes}
use Rattle.detect_record.specs.Lines.{line_in, line_text, lines_in, lines_text}
use Rattle.detect_record.specs.declared.parts.GroupLine.{GroupLine}
use Rattle.detect_record.specs.declared.parts.GroupLine.TheVariants.{Fails, Idle, Trials, Chosen, Drop, Keep}
use Rattle.detect_record.specs.declared.parts.Line.{Line}
use Rattle.detect_record.specs.declared.parts.Line.TheVariants.{Head, Target as TargetLine, Answer, Group}
use Rattle.detect_record.specs.declared.parts.Step.{Step}

-- numbers of 32 bits
abbrev pub IsSoundStep : Step → Type 0
IsSoundStep step = (step.place < 2 ^ 32) × (step.name < 2 ^ 32)

-- a line `drop` has a step
abbrev pub IsSoundGroup : GroupLine → Type 0
IsSoundGroup (Fails member) = member < 2 ^ 32
IsSoundGroup Idle = Unit {0}
IsSoundGroup (Trials count) = count < 2 ^ 32
IsSoundGroup (Chosen count) = count < 2 ^ 32
IsSoundGroup (Drop steps) = (0 < length steps) × All IsSoundStep steps
IsSoundGroup (Keep steps) = All IsSoundStep steps

-- a whole number of 32 bits, with its sign
abbrev pub IsSoundCode : Option ℤ → Type 0
IsSoundCode None = Unit {0}
IsSoundCode (Some (pos number)) = number < 2 ^ 31
IsSoundCode (Some (negsuc number)) = number < 2 ^ 31

abbrev pub IsSoundTarget : Option Target → Type 0
IsSoundTarget None = Unit {0}
IsSoundTarget (Some target) = (is_target_name target.os ≡ true) × (is_target_name target.arch ≡ true)

abbrev pub IsSoundAnswer : Key → Probed → Type 0
IsSoundAnswer key probed = (is_bp_id key.id ≡ true) × (is_bp_version key.version ≡ true) × IsSoundCode probed.code
    × IsBytes probed.plan

abbrev pub IsSound : Line → Type 0
IsSound Head = Unit {0}
IsSound (TargetLine target) = IsSoundTarget target
IsSound (Answer key probed) = IsSoundAnswer key probed
IsSound (Group line) = IsSoundGroup line

-- the text of a line is read as that line
abbrev pub LineReadsBack : Type 0
LineReadsBack = (line : Line) → IsSound line → line_in (line_text line) ≡ Some line

-- and so are the texts of lines one after another
abbrev pub LinesReadBack : Type 0
LinesReadBack = (lines : List Line) → All IsSound lines → lines_in (lines_text lines) ≡ map Some lines
