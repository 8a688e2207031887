-- The lines of a record as bytes.
use Rattle.std.specs.Prelude.{ℕ, ◌==◌, ◌++◌, Bool, List, [], ◌∷◌, flat_map, if◌then◌else◌, codes, Option, Some, None}
use Rattle.std.specs.Fmt.{decimal}
use Rattle.std.specs.List.{slice_split}
use Rattle.std.specs.Option.{option_map}
use Rattle.std.specs.Str.{bytes_eq}
use Rattle.cnb_toml.specs.Names.{is_bp_id, is_bp_version, is_target_name}
use Rattle.cnb_toml.specs.declared.names.Key.{Key}
use Rattle.cnb_toml.specs.declared.target.Target.{Target}
use Rattle.cnb_world.specs.declared.child.Probed.{Probed}
use Rattle.detect_record.specs.Forms.{◌>>=◌, code_in, code_text, cut, number_in, plan_in, plan_text, spaced, steps_in}
use Rattle.detect_record.specs.declared.parts.GroupLine.{GroupLine}
use Rattle.detect_record.specs.declared.parts.GroupLine.TheVariants.{Fails, Idle, Trials, Chosen, Drop, Keep}
use Rattle.detect_record.specs.declared.parts.Line.{Line}
use Rattle.detect_record.specs.declared.parts.Line.TheVariants.{Head, Target as TargetLine, Answer, Group}

-- ---- what a line is read as

-- the name that a text is, where it is one
abbrev pub named : (List ℕ → Bool) → List ℕ → Option (List ℕ)
named is_name text = if is_name text then Some text else None

-- the system and the architecture that were built for
unfoldable pub target_of_names : List ℕ → List ℕ → Option (Option Target)
target_of_names os arch = do
  os ← named is_target_name os
  arch ← named is_target_name arch
  Some (Some (record { os = os; arch = arch }))

abbrev pub no_target : List ℕ → Option (Option Target)
no_target text = if bytes_eq text (codes "none") then Some None else None

unfoldable pub target_from : List ℕ → Option (Option Target)
target_from text = elim (cut 32 text) [ Some names ↦ target_of_names names.0 names.1 | None ↦ no_target text ]

unfoldable pub key_from : List ℕ → List ℕ → Option Key
key_from id version = do
  id ← named is_bp_id id
  version ← named is_bp_version version
  Some (record { id = id; version = version })

-- how a child ended, and the bytes of its plan
unfoldable pub probed_from : List ℕ → Option Probed
probed_from text = do
  parts ← cut 32 text
  code ← code_in parts.0
  plan ← plan_in parts.1
  Some (record { code = code; plan = plan })

-- a buildpack, and how its child ended
unfoldable pub answer_from : List ℕ → Option Line
answer_from text = do
  first ← cut 32 text
  second ← cut 32 first.1
  key ← key_from first.0 second.0
  probed ← probed_from second.1
  Some (Answer key probed)

-- the line of a group or of a trial, with this name and these parts
unfoldable pub group_line : List ℕ → List ℕ → Option GroupLine
group_line name text =
    if bytes_eq name (codes "fails") then option_map Fails (number_in text)
    else if bytes_eq name (codes "trials") then option_map Trials (number_in text)
    else if bytes_eq name (codes "chosen") then option_map Chosen (number_in text)
    else if bytes_eq name (codes "drop") then option_map Drop (steps_in text)
    else if bytes_eq name (codes "keep") then option_map Keep (steps_in text)
    else None

abbrev pub head_from : List ℕ → Option Line
head_from text = if bytes_eq text (codes "1") then Some Head else None

-- a line with this name and these parts
unfoldable pub named_line : List ℕ → List ℕ → Option Line
named_line name text =
    if bytes_eq name (codes "cnb-record") then head_from text
    else if bytes_eq name (codes "target") then option_map TargetLine (target_from text)
    else if bytes_eq name (codes "answer") then answer_from text
    else option_map Group (group_line name text)

-- a line without parts
unfoldable pub bare_line : List ℕ → Option Line
bare_line name =
    if bytes_eq name (codes "idle") then Some (Group Idle)
    else if bytes_eq name (codes "keep") then Some (Group (Keep []))
    else None

unfoldable pub line_in : List ℕ → Option Line
line_in text = elim (cut 32 text) [ Some parts ↦ named_line parts.0 parts.1 | None ↦ bare_line text ]

-- ---- the lines in bytes

-- the bytes in front of each line feed, and at last those behind the last one
abbrev pub pieces_of : List ℕ → List (List ℕ)
pieces_of bytes = slice_split (λ byte. byte == 10) bytes

-- bytes without a line feed are no line
abbrev pub unended : List ℕ → List (Option Line)
unended [] = []
unended (byte ∷ bytes) = None ∷ []

abbrev pub lines_of : List (List ℕ) → List (Option Line)
lines_of [] = []
lines_of (piece ∷ []) = unended piece
lines_of (text ∷ piece ∷ pieces) = line_in text ∷ lines_of (piece ∷ pieces)

unfoldable pub lines_in : List ℕ → List (Option Line)
lines_in bytes = lines_of (pieces_of bytes)

-- ---- what a line is written as

abbrev pub target_text : Option Target → List ℕ
target_text (Some target) = target.os ++ codes " " ++ target.arch
target_text None = codes "none"

abbrev pub answer_text : Key → Probed → List ℕ
answer_text key probed = key.id ++ codes " " ++ key.version ++ codes " " ++ code_text probed.code ++ codes " "
    ++ plan_text probed.plan

unfoldable pub group_text : GroupLine → List ℕ
group_text (Fails member) = codes "fails " ++ decimal member
group_text Idle = codes "idle"
group_text (Trials count) = codes "trials " ++ decimal count
group_text (Chosen count) = codes "chosen " ++ decimal count
group_text (Drop steps) = codes "drop" ++ flat_map spaced steps
group_text (Keep steps) = codes "keep" ++ flat_map spaced steps

-- a line without its line feed
unfoldable pub line_text : Line → List ℕ
line_text Head = codes "cnb-record 1"
line_text (TargetLine target) = codes "target " ++ target_text target
line_text (Answer key probed) = codes "answer " ++ answer_text key probed
line_text (Group line) = group_text line

-- a line with its line feed
abbrev pub whole_line : Line → List ℕ
whole_line line = line_text line ++ (10 ∷ [])

-- lines with their line feeds
abbrev pub lines_text : List Line → List ℕ
lines_text lines = flat_map whole_line lines
