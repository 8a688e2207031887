-- The first trial that passes, and the children that are asked on the way (buildpack.md, "Phase #1: Detection").
use Rattle.std.specs.Prelude.{ℕ, ◌+◌, Bool, List, [], ◌∷◌, map, Option, Some, None}
use Rattle.std.specs.List.{filter, flat_map, list_any}
use Rattle.cnb_toml.specs.declared.names.Key.{Key}
use Rattle.cnb_toml.specs.Keys.{same_key}
use Rattle.cnb_toml.specs.declared.target.Target.{Target}
use Rattle.bp_docs.specs.declared.descriptor.Entry.{Entry}
use Rattle.bp_docs.specs.declared.descriptor.Descriptor.{Descriptor}
use Rattle.order_expand.specs.declared.member.Member.{Member}
use Rattle.order_expand.specs.Groups.{distinct, listed_groups}
use Rattle.plan_resolve.specs.declared.rows.AliveRow.{AliveRow}
use Rattle.plan_resolve.specs.declared.rows.Resolved.{Resolved}
use Rattle.plan_resolve.specs.Plan.{at_places}
use Rattle.plan_resolve.specs.Resolution.{Resolution, TooMany, Passes, Fails, resolution}
use Rattle.detect_core.specs.declared.chosen.Verdict.{Verdict}
use Rattle.detect_core.specs.Answer.{alive_of, is_error, is_fit}

-- How a search ends: at a group that has too many trials, or with the first trial that passes. Both name the group's
-- place among the listed groups, and the second the buildpacks that the trial keeps.
pub data Ending : Type 0 where
  TooManyTrials : ℕ → Ending
  FirstTrial : ℕ → Resolved → List Key → Ending

abbrev pub ending_by : ℕ → List AliveRow → Resolution → Option Ending
ending_by place rows TooMany = Some (TooManyTrials place)
ending_by place rows (Passes resolved) = Some
    (FirstTrial place resolved (map (λ row. row.key) (at_places rows resolved.kept)))
ending_by place rows Fails = None

abbrev pub ending_of_rows : ℕ → Option (List AliveRow) → Option Ending
ending_of_rows place None = None
ending_of_rows place (Some rows) = ending_by place rows (resolution rows)

-- how a group ends the search, where it does
abbrev pub ending_at : (Member → Verdict) → ℕ → List Member → Option Ending
ending_at says place group = ending_of_rows place (alive_of says group)

-- the first ending among these groups, where they are numbered from a place on
abbrev pub first_ending : (Member → Verdict) → ℕ → List (List Member) → Option Ending
first_ending says place [] = None
first_ending says place (group ∷ groups) =
    elim (ending_at says place group) [ Some ending ↦ Some ending | None ↦ first_ending says (place + 1) groups ]

-- the groups up to the one that ends the search, or all of them
abbrev pub reached : (Member → Verdict) → ℕ → List (List Member) → List (List Member)
reached says place [] = []
reached says place (group ∷ groups) =
    group ∷ elim (ending_at says place group) [ Some ending ↦ [] | None ↦ reached says (place + 1) groups ]

abbrev pub same_member : Member → Member → Bool
same_member a b = same_key a.key b.key

-- the members of these groups, each buildpack once, in order of first meeting
abbrev pub members_of : List (List Member) → List Member
members_of groups = distinct same_member (flat_map (λ group. group) groups)

-- the members of these groups that are for a target
abbrev pub fitting : Option Target → List (List Member) → List (List Member)
fitting target groups = map (filter (is_fit target)) groups

-- the first trial that passes, in the order of the specification
unfoldable pub first_trial : (Member → Verdict) → List Descriptor → List (List Entry) → Option Ending
first_trial says catalog order = first_ending says 0 (listed_groups catalog order)

-- the members whose children are asked: those that are for the target
unfoldable pub asked_members : Option Target → (Member → Verdict) → List Descriptor → List (List Entry) → List Member
asked_members target says catalog order = members_of (fitting target (reached says 0 (listed_groups catalog order)))

-- their keys
abbrev pub asked_keys : Option Target → (Member → Verdict) → List Descriptor → List (List Entry) → List Key
asked_keys target says catalog order = map (λ member. member.key) (asked_members target says catalog order)

-- whether an asked child ended with an error
abbrev pub has_erred : Option Target → (Member → Verdict) → List Descriptor → List (List Entry) → Bool
has_erred target says catalog order = list_any (λ member. is_error (says member))
    (asked_members target says catalog order)
