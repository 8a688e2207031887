-- The lines of groups in the record that is made, as bytes.
use Rattle.std.specs.Prelude.{ℕ, ◌+◌, List, [], ◌∷◌, ◌++◌, flat_map, map, slice_get, take, Option, Some, None}
use Rattle.order_expand.specs.declared.member.Member.{Member}
use Rattle.plan_resolve.specs.declared.rows.AliveRow.{AliveRow}
use Rattle.plan_resolve.specs.Choices.{choice_count, choices_of}
use Rattle.detect_core.specs.declared.chosen.Verdict.{Verdict}
use Rattle.detect_core.specs.Answer.{alive_of}
use Rattle.detect_record.specs.declared.parts.GroupLine.{GroupLine}
use Rattle.detect_record.specs.declared.parts.GroupLine.TheVariants.{Trials, Chosen}
use Rattle.detect_record.specs.declared.parts.Line.TheVariants.{Group}
use Rattle.detect_record.specs.Canonical.{dead_line, line_of}
use Rattle.detect_record.specs.Lines.{whole_line}

abbrev pub group_whole : GroupLine → List ℕ
group_whole line = whole_line (Group line)

-- the lines of a group of which no trial passes
abbrev pub passed_by : (Member → Verdict) → List Member → Option (List AliveRow) → List GroupLine
passed_by says group None = dead_line says group ∷ []
passed_by says group (Some rows) = Trials (choice_count rows) ∷ map line_of (choices_of rows)

abbrev pub passed_lines : (Member → Verdict) → List Member → List GroupLine
passed_lines says group = passed_by says group (alive_of says group)

-- the lines of a group of which the trial of this number is the first that passes
abbrev pub chosen_by : ℕ → Option (List AliveRow) → List GroupLine
chosen_by trial None = []
chosen_by trial (Some rows) = Chosen (choice_count rows) ∷ map line_of (take (trial + 1) (choices_of rows))

abbrev pub chosen_lines : (Member → Verdict) → ℕ → Option (List Member) → List GroupLine
chosen_lines says trial (Some group) = chosen_by trial (alive_of says group)
chosen_lines says trial None = []

-- their bytes
abbrev pub passed_whole : (Member → Verdict) → List Member → List ℕ
passed_whole says group = flat_map group_whole (passed_lines says group)

-- the lines of the groups up to the one at a place, of which the trial of this number is the first that passes
abbrev pub groups_whole : (Member → Verdict) → ℕ → ℕ → List (List Member) → List ℕ
groups_whole says place trial groups =
    flat_map (passed_whole says) (take place groups) ++ flat_map group_whole
    (chosen_lines says trial (slice_get groups place))
