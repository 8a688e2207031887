-- A record proves: its lines lead to an end by the answers that it records, which are those that had to be asked.
use Rattle.std.specs.Prelude.{ℕ, ◌+◌, ◌≡◌, Bool, true, false, not, ◌&&◌, ◌||◌, List, [], ◌∷◌, map, take, Option, Some}
use Rattle.cnb_toml.specs.declared.names.Key.{Key}
use Rattle.cnb_toml.specs.Keys.{same_key}
use Rattle.cnb_toml.specs.declared.target.Target.{Target}
use Rattle.order_expand.specs.declared.member.Member.{Member}
use Rattle.plan_resolve.specs.declared.rows.AliveRow.{AliveRow}
use Rattle.plan_resolve.specs.declared.rows.TrialRow.{TrialRow}
use Rattle.plan_resolve.specs.Plan.{at_places}
use Rattle.plan_resolve.specs.Resolution.{resolved_at}
use Rattle.detect_core.specs.declared.chosen.Verdict.{Verdict}
use Rattle.detect_core.specs.Answer.{is_fit}
use Rattle.detect_core.specs.Detection.{FirstTrial, first_ending, fitting, members_of, reached}
use Rattle.detect_core.specs.Kept.{has_key, kept_says, keys_of}
use Rattle.detect_record.specs.declared.parts.GroupLine.{GroupLine}
use Rattle.detect_record.specs.Record.{Answered, AtGroup, AtEnd, after_all}

-- the keys that are asked in these groups
abbrev pub asked_in : Option Target → List (List Member) → List Key
asked_in target groups = map (λ member. member.key) (members_of (fitting target groups))

abbrev pub same_keys : List Key → List Key → Bool
same_keys [] [] = true
same_keys [] (key ∷ keys) = false
same_keys (key ∷ keys) [] = false
same_keys (key ∷ keys) (other ∷ others) = same_key key other && same_keys keys others

-- whether the answered keys are those that are asked in the groups up to a place
abbrev pub are_asked : Option Target → List (Key × Verdict) → List (List Member) → ℕ → Bool
are_asked target answers groups place = same_keys (keys_of answers) (asked_in target (take (place + 1) groups))

-- what recorded answers say: a member that is not for the target fails and needs no answer
abbrev pub answered_by : Option Target → List (Key × Verdict) → List (List Member) → Answered
answered_by target answers groups = record {
  says = kept_says target answers;
  has_answer = λ member. not (is_fit target member) || has_key answers member.key;
  keys_right = are_asked target answers groups;
}

-- The law: the first trial that passes by the recorded answers is the kept one, with the places left; and the answered
-- keys are exactly those that had to be asked, in order.
abbrev pub RecordProves : Type 0
RecordProves = (target : Option Target) (answers : List (Key × Verdict)) (groups : List (List Member))
    (lines : List GroupLine)
    (place : ℕ) (rows : List AliveRow) (number : ℕ) (trial : List TrialRow) (set : List ℕ) →
    after_all (answered_by target answers groups) (Some (AtGroup 0 groups)) lines
    ≡ Some (AtEnd place rows number trial set) →
    (first_ending (kept_says target answers) 0 groups ≡ Some
    (FirstTrial place (resolved_at rows number trial set) (map (λ row. row.key) (at_places rows set))))
    × (keys_of answers ≡ asked_in target (reached (kept_says target answers) 0 groups))
