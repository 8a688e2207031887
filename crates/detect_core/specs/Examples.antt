-- What the definitions say of small detections. A buildpack has an id of one letter and the version `1`, unless
-- another is given. The bytes of a Build Plan stand for an entry of a table here.
use Rattle.std.specs.Prelude.{◌≡◌, refl, ℕ, pos, true, false, List, [], ◌∷◌, codes, if◌then◌else◌, Option, Some, None}
use Rattle.std.specs.Str.{bytes_eq}
use Rattle.cnb_world.specs.Runs.{Ran}
use Rattle.cnb_toml.specs.declared.names.Key.{Key}
use Rattle.cnb_toml.specs.declared.target.Target.{Target}
use Rattle.bp_docs.specs.declared.build_plan.PlanOption.{PlanOption}
use Rattle.bp_docs.specs.declared.descriptor.Body.TheVariants.{Component}
use Rattle.bp_docs.specs.declared.descriptor.Descriptor.{Descriptor}
use Rattle.bp_docs.specs.declared.descriptor.Entry.{Entry}
use Rattle.order_expand.specs.declared.member.Member.{Member}
use Rattle.order_expand.specs.Groups.{raw_groups, listed_groups}
use Rattle.order_expand.specs.Examples.{key, component, entry, optional_entry, entry_at}
use Rattle.plan_resolve.specs.Trials.{largest}
use Rattle.plan_resolve.specs.Resolution.{resolution}
use Rattle.plan_resolve.specs.Examples.{name, need, option}
use Rattle.detect_core.specs.declared.chosen.Verdict.{Verdict}
use Rattle.detect_core.specs.Answer.{says}
use Rattle.detect_core.specs.Detection.{Ending, FirstTrial, first_trial, asked_members, asked_keys, has_erred}

-- a child of a key that ended with a code and left the bytes of a plan
abbrev ran : Key → ℕ → List ℕ → Ran
ran key code plan = record {
  job = record { id = key.id; version = key.version; program = []; platform = []; plan = []; env = []; dir = [] };
  probed = record { code = Some (pos code); plan = plan };
}

-- no bytes are the empty plan, and other bytes are looked up
abbrev plan_in : List (List ℕ × List PlanOption) → List ℕ → Option (List PlanOption)
plan_in [] [] = Some (option [] [] ∷ [])
plan_in [] (byte ∷ bytes) = None
plan_in (plan ∷ plans) bytes = if bytes_eq bytes plan.0 then Some plan.1 else plan_in plans bytes

abbrev two : List Descriptor
two = component 97 ∷ component 98 ∷ []

abbrev one_each : List (List Entry)
one_each = (entry 97 ∷ []) ∷ (entry 98 ∷ []) ∷ []

abbrev chosen_b : Option Ending
chosen_b = Some (FirstTrial 1 record { trial = 0; trials = 1; kept = 0 ∷ []; plan = [] } (key 98 ∷ []))

-- [a], [b]; a fails, b passes
abbrev a_fails : Member → Verdict
a_fails = says None (plan_in []) (ran (key 97) 100 [] ∷ ran (key 98) 0 [] ∷ [])

pub the_first_group_that_passes : first_trial a_fails two one_each ≡ chosen_b
unfolding first_trial listed_groups raw_groups resolution largest
the_first_group_that_passes = refl

pub both_are_asked : asked_keys None a_fails two one_each ≡ key 97 ∷ key 98 ∷ []
unfolding asked_members listed_groups raw_groups resolution largest
both_are_asked = refl

-- no group: nothing passes and nobody is asked
pub an_empty_order_chooses_nothing : first_trial a_fails two [] ≡ None
unfolding first_trial listed_groups raw_groups
an_empty_order_chooses_nothing = refl

-- [a?]; a fails: nothing is left
pub a_group_needs_one_that_passes : first_trial a_fails two ((optional_entry 97 ∷ []) ∷ []) ≡ None
unfolding first_trial listed_groups raw_groups resolution largest
a_group_needs_one_that_passes = refl

-- [a], [b]; a ends with another status, b passes: the error is no refusal
abbrev a_errs : Member → Verdict
a_errs = says None (plan_in []) (ran (key 97) 1 [] ∷ ran (key 98) 0 [] ∷ [])

pub an_error_is_passed_over : first_trial a_errs two one_each ≡ chosen_b
unfolding first_trial listed_groups raw_groups resolution largest
an_error_is_passed_over = refl

-- [a], [b]; a ends with another status, b fails
abbrev a_errs_b_fails : Member → Verdict
a_errs_b_fails = says None (plan_in []) (ran (key 97) 7 [] ∷ ran (key 98) 100 [] ∷ [])

pub an_error_is_told_where_nothing_passes : has_erred None a_errs_b_fails two one_each ≡ true
unfolding asked_members listed_groups raw_groups resolution largest
an_error_is_told_where_nothing_passes = refl

-- [a]; a passes with bytes that are no Build Plan
pub a_plan_that_cannot_be_read_is_an_error : has_erred None
    (says None (plan_in []) (ran (key 97) 0 (91 ∷ 91 ∷ []) ∷ [])) two ((entry 97 ∷ []) ∷ []) ≡ true
unfolding asked_members listed_groups raw_groups resolution largest
a_plan_that_cannot_be_read_is_an_error = refl

-- [x at 1, y], [x at 2, z]; y fails: the answers of the two versions of x are kept apart
abbrev key_two : Key
key_two = record { id = name 120; version = 50 ∷ [] }

abbrev versions : List Descriptor
versions = component 120 ∷ record { key = key_two; body = Component false [] } ∷ component 121 ∷ component 122 ∷ []

abbrev by_version : List (List Entry)
by_version = (entry_at 120 49 ∷ entry 121 ∷ []) ∷ (entry_at 120 50 ∷ entry 122 ∷ []) ∷ []

abbrev y_fails : Member → Verdict
y_fails = says None (plan_in []) (ran (key 120) 0 [] ∷ ran (key 121) 100 [] ∷ ran key_two 0 []
    ∷ ran (key 122) 0 [] ∷ [])

pub versions_are_asked_apart : asked_keys None y_fails versions by_version ≡ key 120 ∷ key 121 ∷ key_two ∷ key 122 ∷ []
unfolding asked_members listed_groups raw_groups resolution largest
versions_are_asked_apart = refl

pub the_second_version_is_chosen : first_trial y_fails versions by_version
    ≡ Some (FirstTrial 1 record { trial = 0; trials = 1; kept = 0 ∷ 1 ∷ []; plan = [] } (key_two ∷ key 122 ∷ []))
unfolding first_trial listed_groups raw_groups resolution largest
the_second_version_is_chosen = refl

-- two buildpacks with two alternatives each: the trials are told apart by which alternatives meet
abbrev alternatives : Member → Verdict
alternatives = says None (plan_in ((97 ∷ [], option (112 ∷ []) [] ∷ option (113 ∷ []) [] ∷ [])
    ∷ (98 ∷ [], option [] (113 ∷ []) ∷ option [] (115 ∷ []) ∷ []) ∷ []))
    (ran (key 97) 0 (97 ∷ []) ∷ ran (key 98) 0 (98 ∷ []) ∷ [])

pub alternatives_are_tried_in_order : first_trial alternatives two ((entry 97 ∷ entry 98 ∷ []) ∷ [])
    ≡ Some (FirstTrial 0 record {
      trial = 2;
      trials = 4;
      kept = 0 ∷ 1 ∷ [];
      plan = record { name = name 113; providers = key 97 ∷ []; needs = need 113 ∷ [] } ∷ [];
    } (key 97 ∷ key 98 ∷ []))
unfolding first_trial listed_groups raw_groups resolution largest
alternatives_are_tried_in_order = refl

-- [a], [b]; both pass, and a is for another architecture
abbrev linux_amd64 : Option Target
linux_amd64 = Some record { os = codes "linux"; arch = codes "amd64" }

abbrev a_for_arm64 : List Descriptor
a_for_arm64 = record {
  key = key 97;
  body = Component false
      (record { os = Some (codes "linux"); arch = Some (codes "arm64") } ∷ []);
} ∷ component 98 ∷ []

abbrev both_pass : Option Target → Member → Verdict
both_pass target = says target (plan_in []) (ran (key 97) 0 [] ∷ ran (key 98) 0 [] ∷ [])

pub a_buildpack_for_another_target_fails : first_trial (both_pass linux_amd64) a_for_arm64 one_each ≡ chosen_b
unfolding first_trial listed_groups raw_groups resolution largest
a_buildpack_for_another_target_fails = refl

pub and_it_is_not_asked : asked_keys linux_amd64 (both_pass linux_amd64) a_for_arm64 one_each ≡ key 98 ∷ []
unfolding asked_members listed_groups raw_groups resolution largest
and_it_is_not_asked = refl

-- it is asked where no target is known
pub without_a_target_it_is_asked : asked_keys None (both_pass None) a_for_arm64 one_each ≡ key 97 ∷ []
unfolding asked_members listed_groups raw_groups resolution largest
without_a_target_it_is_asked = refl
