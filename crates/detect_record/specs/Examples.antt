-- What the definitions say of small records. Names are one letter, versions `1`.
use Rattle.std.specs.Prelude.{◌≡◌, refl, ℕ, false, List, [], ◌∷◌, Some, None}
use Rattle.cnb_toml.specs.declared.names.Key.{Key}
use Rattle.bp_docs.specs.declared.build_plan.PlanOption.{PlanOption}
use Rattle.order_expand.specs.declared.member.Member.{Member}
use Rattle.order_expand.specs.Examples.{key, member}
use Rattle.plan_resolve.specs.declared.rows.TrialRow.{TrialRow}
use Rattle.plan_resolve.specs.Trials.{places, largest}
use Rattle.plan_resolve.specs.Examples.{optional_row, row}
use Rattle.detect_core.specs.declared.chosen.Verdict.{Verdict}
use Rattle.detect_core.specs.declared.chosen.Verdict.TheVariants.{Pass, Fail}
use Rattle.detect_core.specs.Kept.{kept_says}
use Rattle.detect_record.specs.declared.parts.Step.{Step}
use Rattle.detect_record.specs.declared.parts.Side.{Side}
use Rattle.detect_record.specs.declared.parts.Side.TheVariants.{Provided}
use Rattle.detect_record.specs.declared.parts.GroupLine.TheVariants.{Fails, Idle, Chosen, Keep}
use Rattle.detect_record.specs.Record.{Answered, AtGroup, AtEnd, after_all, left_after}
use Rattle.detect_record.specs.Canonical.{line_of, lines_of}
use Rattle.detect_record.specs.Proving.{answered_by}

abbrev step : ℕ → Side → ℕ → Step
step place side name = record { place = place; side = side; name = name }

-- three optional buildpacks in a chain of names whose last name nobody requires, and one without names
abbrev chain : List TrialRow
chain = optional_row (120 ∷ []) [] ∷ optional_row (121 ∷ []) (120 ∷ []) ∷ optional_row (122 ∷ []) (121 ∷ [])
    ∷ row [] [] ∷ []

pub the_last_of_a_chain_goes_first : left_after chain (places chain)
    (step 2 Provided 0 ∷ step 1 Provided 0 ∷ step 0 Provided 0 ∷ []) ≡ Some (3 ∷ [])
the_last_of_a_chain_goes_first = refl

pub the_first_of_a_chain_does_not : left_after chain (places chain) (step 0 Provided 0 ∷ []) ≡ None
the_first_of_a_chain_does_not = refl

pub the_chain_is_kept_by_its_steps : line_of chain ≡ Keep
    (step 2 Provided 0 ∷ step 1 Provided 0 ∷ step 0 Provided 0 ∷ [])
the_chain_is_kept_by_its_steps = refl

-- [a], [b]; a fails, b passes with the empty plan
abbrev groups : List (List Member)
groups = (member 97 ∷ []) ∷ (member 98 ∷ []) ∷ []

abbrev nothing : PlanOption
nothing = record { provides = []; needs = [] }

abbrev answers : List (Key × Verdict)
answers = (key 97, Fail) ∷ (key 98, Pass (nothing ∷ [])) ∷ []

abbrev answered : Answered
answered = answered_by None answers groups

pub the_second_group_is_proved : after_all answered (Some (AtGroup 0 groups)) (Fails 0 ∷ Chosen 1 ∷ Keep [] ∷ [])
    ≡ Some (AtEnd 1 (record { key = key 98; optional = false; options = nothing ∷ [] } ∷ []) 0 (row [] [] ∷ [])
    (0 ∷ []))
the_second_group_is_proved = refl

pub idle_proves_too : after_all answered (Some (AtGroup 0 groups)) (Idle ∷ Chosen 1 ∷ Keep [] ∷ [])
    ≡ Some (AtEnd 1 (record { key = key 98; optional = false; options = nothing ∷ [] } ∷ []) 0 (row [] [] ∷ [])
    (0 ∷ []))
idle_proves_too = refl

pub the_first_cannot_be_chosen : after_all answered (Some (AtGroup 0 groups)) (Chosen 1 ∷ []) ≡ None
the_first_cannot_be_chosen = refl

pub a_line_behind_the_last_is_refused : after_all answered (Some (AtGroup 0 groups))
    (Fails 0 ∷ Chosen 1 ∷ Keep [] ∷ Idle ∷ []) ≡ None
a_line_behind_the_last_is_refused = refl

pub the_canonical_lines : lines_of (kept_says None answers) groups ≡ Fails 0 ∷ Chosen 1 ∷ Keep [] ∷ []
unfolding largest
the_canonical_lines = refl
