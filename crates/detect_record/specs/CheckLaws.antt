-- What a record that proves says of the detection by its target and its answers.
use Rattle.std.specs.Prelude.{ℕ, ◌≡◌, List, Option, Some, None, Ok}
use Rattle.bp_docs.specs.declared.descriptor.Descriptor.{Descriptor}
use Rattle.bp_docs.specs.declared.descriptor.Entry.{Entry}
use Rattle.detect_core.specs.Detection.{Ending, TooManyTrials, FirstTrial, asked_keys, first_trial}
use Rattle.detect_core.specs.Kept.{keys_of, kept_says}
use Rattle.detect_core.specs.Search.{group_rows}
use Rattle.detect_record.specs.declared.outcome.Checked.{Checked}
use Rattle.detect_record.specs.Checking.{answers_in, check_of, target_in}

-- what was checked is the first trial that passes
abbrev pub IsFirst : Checked → Option Ending → Type 0
IsFirst checked (Some (FirstTrial place resolved group)) =
    (checked.group ≡ group_rows group) × (checked.plan ≡ resolved.plan) × (checked.place ≡ place)
    × (checked.trial ≡ resolved.trial)
IsFirst checked (Some (TooManyTrials place)) = ⊥
IsFirst checked None = ⊥

-- by the recorded target and answers the first trial that passes is what the record gives, and exactly the buildpacks
-- that had to be asked are answered, in order
abbrev pub CheckedIsFirst : Type 0
CheckedIsFirst = (catalog : List Descriptor) (order : List (List Entry)) (bytes : List ℕ) (checked : Checked) →
    check_of catalog order bytes ≡ Ok checked →
    IsFirst checked (first_trial (kept_says (target_in bytes) (answers_in bytes)) catalog order)
    × (keys_of (answers_in bytes) ≡ asked_keys (target_in bytes)
    (kept_says (target_in bytes) (answers_in bytes)) catalog order)
