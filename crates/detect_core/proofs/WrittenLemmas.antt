-- What the first trial that passes comes to can be written.
use Rattle.std.proofs.Common.{◌≡◌, ◌∙◌, refl, sym, ap, subst, ℕ, ◌+◌, Bool, true, false, cond, List, [], ◌∷◌, map}
use Rattle.std.proofs.Common.{length, inl, inr}
use Rattle.std.specs.Prelude.{ℤ, pos, negsuc, ◌==◌, ◌&&◌, ◌||◌, nat_lt, if◌then◌else◌, IfOk, IsTrue, Option, Some, None}
use Rattle.std.specs.Prelude.{Result, Ok, Err}
use Rattle.std.specs.Result.{result_ok}
use Rattle.std.specs.List.{filter_map, list_all, list_any, cons_option}
use Rattle.std.proofs.lemmas.Bool.{false≢true, and_parts, and_from, cases_Bool}
use Rattle.std.proofs.lemmas.List.Folds.{list_all-map}
use Rattle.cnb_world.specs.declared.child.Probed.{Probed}
use Rattle.cnb_world.specs.Runs.{Ran}
use Rattle.cnb_toml.specs.declared.fault.DocFault.{DocFault}
use Rattle.cnb_toml.specs.declared.target.Target.{Target}
use Rattle.cnb_toml.specs.declared.names.Key.{Key}
use Rattle.bp_docs.specs.declared.build_plan.PlanOption.{PlanOption}
use Rattle.bp_docs.specs.declared.descriptor.Entry.{Entry}
use Rattle.bp_docs.specs.declared.descriptor.Descriptor.{Descriptor}
use Rattle.bp_docs.specs.BuildPlan.{build_plan_in}
use Rattle.bp_docs.proofs.BuildPlans.{build_plan_kept}
use Rattle.run_docs.specs.Group.{is_group_doc}
use Rattle.run_docs.specs.Plan.{is_plan_doc}
use Rattle.order_expand.specs.declared.member.Member.{Member}
use Rattle.order_expand.specs.Groups.{distinct, same_id, raw_groups, listed_groups}
use Rattle.plan_resolve.specs.declared.rows.TrialRow.{TrialRow}
use Rattle.plan_resolve.specs.declared.rows.AliveRow.{AliveRow}
use Rattle.plan_resolve.specs.declared.rows.Resolved.{Resolved}
use Rattle.plan_resolve.specs.Choices.{chosen_row, choices_of, choice_count}
use Rattle.plan_resolve.specs.Plan.{at_places, Kept, plan_of, with_keys}
use Rattle.plan_resolve.specs.Pruning.{is_ascending}
use Rattle.plan_resolve.specs.Resolution.{Resolution, TooMany, Passes, Fails, resolution, resolved_at, first_passing}
use Rattle.plan_resolve.specs.Resolution.{passes_or_fails}
use Rattle.plan_resolve.specs.Trials.{is_closed, is_in, places, subsets, largest, is_passing, kept_of}
use Rattle.plan_resolve.proofs.NearLemmas.{ascending_part}
use Rattle.plan_resolve.proofs.ResolutionLemmas.{resolution_many, resolution_tried}
use Rattle.detect_core.specs.declared.chosen.Chosen.{Chosen}
use Rattle.detect_core.specs.declared.chosen.DetectEnd.{DetectEnd}
use Rattle.detect_core.specs.declared.chosen.DetectFrame.{DetectFrame}
use Rattle.detect_core.specs.declared.chosen.Verdict.{Verdict}
use Rattle.detect_core.specs.declared.chosen.Verdict.TheVariants.{Pass, Fail, Error}
use Rattle.detect_core.specs.Answer.{build_plan, pass_or_error, answer_by, recorded, answer_or_error, is_fit, says}
use Rattle.detect_core.specs.Answer.{is_pass, alive_row, where_fit}
use Rattle.detect_core.specs.Detection.{Ending, TooManyTrials, FirstTrial, ending_by, ending_of_rows, ending_at}
use Rattle.detect_core.specs.Detection.{first_ending, first_trial, asked_keys, has_erred}
use Rattle.detect_core.specs.Search.{group_rows, DetectsAs}
use Rattle.detect_core.proofs.SpawnerLemmas.{IsDetection}
use Rattle.detect_core.proofs.ListLemmas.{all_each, all_weaker, all_flat}
use Rattle.detect_core.proofs.OwnIdLemmas.{own_ids, member_id, alive_id, own-distinct, own-alive, own-places}
use Rattle.detect_core.proofs.OwnIdLemmas.{group_of_own}
use Rattle.detect_core.proofs.PlanDocLemmas.{need_is_kept, row_is_kept, trial_of, plan_written}

-- ---- the metadata of what a Build Plan requires is kept

abbrev pub option_is_kept : PlanOption → Bool
option_is_kept option = list_all need_is_kept option.needs

-- members pass with alternatives of kept metadata alone
abbrev pub PassesKept : Verdict → Type 0
PassesKept verdict = (options : List PlanOption) → verdict ≡ Pass options → list_all option_is_kept options ≡ true

pass_kept : (read : Result (List PlanOption) DocFault) →
    ((options : List PlanOption) → read ≡ Ok options → list_all option_is_kept options ≡ true)
    → PassesKept (pass_or_error (result_ok read))
pass_kept (Ok found) each options e = let same : found ≡ options = cc in each options (ap Ok same)
pass_kept (Err fault) each options e = absurd cc

either_kept : (b : Bool) (v w : Verdict) → PassesKept v → PassesKept w → PassesKept (cond b v w)
either_kept true v w a c = a
either_kept false v w a c = c

fail_kept : PassesKept Fail
fail_kept options e = absurd cc

error_kept : PassesKept Error
error_kept options e = absurd cc

answer_kept : (code : Option ℤ) (passed : Verdict) → PassesKept passed → PassesKept (answer_by code passed)
answer_kept (Some (pos code)) passed h = either_kept (code == 0) passed (if code == 100 then Fail else Error) h
    (either_kept (code == 100) Fail Error fail_kept error_kept)
answer_kept (Some (negsuc code)) passed h = error_kept
answer_kept None passed h = error_kept

recorded_kept : (found : Option Probed) → PassesKept (answer_or_error build_plan found)
recorded_kept (Some probed) = answer_kept probed.code (pass_or_error (build_plan probed.plan))
    (pass_kept (build_plan_in probed.plan) (build_plan_kept probed.plan))
recorded_kept None = error_kept

fit_kept : (b : Bool) (v : Verdict) → PassesKept v → PassesKept (where_fit b v)
fit_kept true v h = h
fit_kept false v h = fail_kept

pub says_kept : (target : Option Target) (rans : List Ran) (member : Member)
    → PassesKept (says target build_plan rans member)
says_kept target rans member = fit_kept (is_fit target member)
    (answer_or_error build_plan (recorded rans member.key)) (recorded_kept (recorded rans member.key))

abbrev pub alive_is_kept : AliveRow → Bool
alive_is_kept row = list_all option_is_kept row.options

alive_kept : (m : Member) (v : Verdict) (rows : List AliveRow) → PassesKept v → list_all alive_is_kept rows ≡ true
    → list_all alive_is_kept (cons_option (alive_row m v) rows) ≡ true
alive_kept m (Pass options) rows h a = and_from (list_all option_is_kept options) (list_all alive_is_kept rows)
    (h options refl) a
alive_kept m Fail rows h a = a
alive_kept m Error rows h a = a

all_alive_kept : (say : Member → Verdict) → ((member : Member) → PassesKept (say member)) → (group : List Member)
    → list_all alive_is_kept (filter_map (λ m. alive_row m (say m)) group) ≡ true
all_alive_kept say each [] = refl
all_alive_kept say each (m ∷ ms) = alive_kept m (say m) (filter_map (λ n. alive_row n (say n)) ms) (each m)
    (all_alive_kept say each ms)

-- ---- a choice of alternatives of some buildpacks, with kept metadata

abbrev pub fits : List AliveRow → List TrialRow → Bool
fits [] [] = true
fits [] (row ∷ trial) = false
fits (alive ∷ rows) [] = false
fits (alive ∷ rows) (row ∷ trial) = row_is_kept row && fits rows trial

choices_fit : (rows : List AliveRow) → list_all alive_is_kept rows ≡ true
    → list_all (fits rows) (choices_of rows) ≡ true
choices_fit [] a = refl
choices_fit (alive ∷ rows) a =
    let parts = and_parts (alive_is_kept alive) (list_all alive_is_kept rows) a in
    let behind = choices_fit rows parts.1 in
    let choose : PlanOption → List (List TrialRow) = λ option. map (λ trial. chosen_row alive option ∷ trial)
    (choices_of rows) in
    all_flat (fits (alive ∷ rows)) choose alive.options
    (all_weaker option_is_kept (λ option. list_all (fits (alive ∷ rows)) (choose option)) alive.options
    (λ option h. list_all-map (fits (alive ∷ rows)) (λ (trial : List TrialRow). chosen_row alive option ∷ trial)
    (choices_of rows)
    ∙ all_weaker (fits rows) (λ trial. fits (alive ∷ rows) (chosen_row alive option ∷ trial)) (choices_of rows)
    (λ trial f. and_from (option_is_kept option) (fits rows trial) h f) behind) parts.0)

fitting_trial : (rows : List AliveRow) (trial : List TrialRow) → fits rows trial ≡ true
    → trial_of (with_keys rows trial) ≡ trial
fitting_trial [] [] f = refl
fitting_trial [] (row ∷ trial) f = absurd (false≢true f)
fitting_trial (alive ∷ rows) [] f = absurd (false≢true f)
fitting_trial (alive ∷ rows) (row ∷ trial) f = ap (λ rest. row ∷ rest)
    (fitting_trial rows trial (and_parts (row_is_kept row) (fits rows trial) f).1)

fitting_kept : (rows : List AliveRow) (trial : List TrialRow) → fits rows trial ≡ true
    → list_all (λ (k : Kept). row_is_kept k.row) (with_keys rows trial) ≡ true
fitting_kept [] [] f = refl
fitting_kept [] (row ∷ trial) f = absurd (false≢true f)
fitting_kept (alive ∷ rows) [] f = absurd (false≢true f)
fitting_kept (alive ∷ rows) (row ∷ trial) f =
    let parts = and_parts (row_is_kept row) (fits rows trial) f in
    and_from (row_is_kept row) (list_all (λ (k : Kept). row_is_kept k.row) (with_keys rows trial)) parts.0
    (fitting_kept rows trial parts.1)

-- ---- the trial that passes

-- the places ascend, and the plan can be written
pub record IsOrderly (resolved : Resolved) : Type 0 where
  pub up : is_ascending resolved.kept ≡ true
  pub plan : is_plan_doc resolved.plan ≡ true

largest_up : (trial : List TrialRow) → is_ascending (largest trial) ≡ true
unfolding largest
largest_up trial = ascending_part (λ place. list_any (λ set. is_closed trial set && is_in place set)
    (subsets (places trial))) (largest trial) (length trial) refl

kept_was : (b : Bool) (most set : List ℕ) → cond b (Some most) None ≡ Some set → most ≡ set
kept_was true most set e = cc
kept_was false most set e = absurd cc

orderly_at : (rows : List AliveRow) (number : ℕ) (trial : List TrialRow) (set : List ℕ) → fits rows trial ≡ true
    → kept_of trial ≡ Some set → IsOrderly (resolved_at rows number trial set)
orderly_at rows number trial set f e =
    let is : largest trial ≡ set = kept_was (is_passing trial (largest trial)) (largest trial) set e in
    let ks = with_keys rows trial in
    record {
      up = ap is_ascending (sym is) ∙ largest_up trial;
      plan = ap (λ places. is_plan_doc (plan_of (at_places ks places)))
          (sym is ∙ ap largest (sym (fitting_trial rows trial f))) ∙ plan_written ks (fitting_kept rows trial f);
    }

some_is : {X : Type 0} (a b : X) → (let o : Option X = Some a in o) ≡ Some b → a ≡ b
some_is a b e = cc

orderly_by : (rows : List AliveRow) (number : ℕ) (trial : List TrialRow) (trials : List (List TrialRow))
    (resolved : Resolved) (o : Option (List ℕ)) → kept_of trial ≡ o → fits rows trial ≡ true →
    (first_passing rows (number + 1) trials ≡ Some resolved → IsOrderly resolved) →
    (elim o as (λ _. Option Resolved) [
      | Some set ↦ Some (resolved_at rows number trial set)
      | None
          ↦ first_passing rows (number + 1) trials
    ]) ≡ Some resolved → IsOrderly resolved
orderly_by rows number trial trials resolved (Some set) e f later h = subst IsOrderly
    (some_is (resolved_at rows number trial set) resolved h) (orderly_at rows number trial set f e)
orderly_by rows number trial trials resolved None e f later h = later h

orderly_first : (rows : List AliveRow) (number : ℕ) (trials : List (List TrialRow)) (resolved : Resolved)
    → list_all (fits rows) trials ≡ true → first_passing rows number trials ≡ Some resolved → IsOrderly resolved
orderly_first rows number [] resolved a h = absurd cc
orderly_first rows number (trial ∷ trials) resolved a h =
    let parts = and_parts (fits rows trial) (list_all (fits rows) trials) a in
    orderly_by rows number trial trials resolved (kept_of trial) refl parts.0
    (orderly_first rows (number + 1) trials resolved parts.1) h

was_passing : (o : Option Resolved) (resolved : Resolved) → passes_or_fails o ≡ Passes resolved → o ≡ Some resolved
was_passing (Some found) resolved h = ap Some (let same : found ≡ resolved = cc in same)
was_passing None resolved h = absurd cc

orderly_resolution : (rows : List AliveRow) (resolved : Resolved) → list_all alive_is_kept rows ≡ true
    → resolution rows ≡ Passes resolved → IsOrderly resolved
orderly_resolution rows resolved kept h = elim (cases_Bool (nat_lt 65536 (choice_count rows))) [
  | inl many ↦ let no : TooMany ≡ Passes resolved = sym (resolution_many rows many) ∙ h in absurd cc
  | inr few ↦ orderly_first rows 0 (choices_of rows) resolved (choices_fit rows kept)
      (was_passing (first_passing rows 0 (choices_of rows)) resolved (sym (resolution_tried rows few) ∙ h))
]

-- ---- the end of the search

-- the group and the plan of a first trial can be written
pub record IsWritten (resolved : Resolved) (keys : List Key) : Type 0 where
  pub group : is_group_doc (group_rows keys) ≡ true
  pub plan : is_plan_doc resolved.plan ≡ true

abbrev EndsWritten : Option Ending → Type 0
EndsWritten ending = (at : ℕ) (resolved : Resolved) (keys : List Key)
    → ending ≡ Some (FirstTrial at resolved keys) → IsWritten resolved keys

written_trial : (rows : List AliveRow) (resolved : Resolved) → own_ids alive_id rows ≡ true → IsOrderly resolved
    → IsWritten resolved (map (λ row. row.key) (at_places rows resolved.kept))
written_trial rows resolved own orderly = record {
  group = group_of_own (at_places rows resolved.kept) (own-places alive_id rows resolved.kept orderly.up own);
  plan = orderly.plan;
}

written_by : (place : ℕ) (rows : List AliveRow) (r : Resolution) → own_ids alive_id rows ≡ true
    → ((resolved : Resolved) → r ≡ Passes resolved → IsOrderly resolved) → EndsWritten (ending_by place rows r)
written_by place rows TooMany own each at resolved keys e = absurd cc
written_by place rows Fails own each at resolved keys e = absurd cc
written_by place rows (Passes found) own each at resolved keys e =
    let ends = some_is (FirstTrial place found (map (λ (row : AliveRow). row.key) (at_places rows found.kept)))
    (FirstTrial at resolved keys) e in
    let same : found ≡ resolved = cc in
    let kept : map (λ (row : AliveRow). row.key) (at_places rows found.kept) ≡ keys = cc in
    subst (λ (ks : List Key). IsWritten resolved ks) kept
    (subst (λ (r : Resolved). IsWritten r (map (λ (row : AliveRow). row.key) (at_places rows found.kept)))
    same
    (written_trial rows found own (each found refl)))

none_written : EndsWritten None
none_written at resolved keys e = absurd cc

written_rows : (place : ℕ) (b : Bool) (rows : List AliveRow) → own_ids alive_id rows ≡ true
    → list_all alive_is_kept rows ≡ true → EndsWritten (ending_of_rows place (cond b (Some rows) None))
written_rows place true rows own kept = written_by place rows (resolution rows) own
    (λ resolved. orderly_resolution rows resolved kept)
written_rows place false rows own kept = none_written

module _ (say : Member → Verdict) (each : (member : Member) → PassesKept (say member)) where
  written_at : (place : ℕ) (group : List Member) → own_ids member_id group ≡ true
      → EndsWritten (ending_at say place group)
  written_at place group own =
      written_rows place (list_all (λ member. member.optional || is_pass (say member)) group
      && list_any (λ member. is_pass (say member)) group)
      (filter_map (λ member. alive_row member (say member)) group) (own-alive say group own)
      (all_alive_kept say each group)

  written_or : (o later : Option Ending) → EndsWritten o → EndsWritten later
      → EndsWritten (elim o as (λ _. Option Ending) [ Some ending ↦ Some ending | None ↦ later ])
  written_or (Some ending) later here behind = here
  written_or None later here behind = behind

  written_first : (place : ℕ) (groups : List (List Member)) → list_all (own_ids member_id) groups ≡ true
      → EndsWritten (first_ending say place groups)
  written_first place [] own = none_written
  written_first place (group ∷ groups) own =
      let parts = and_parts (own_ids member_id group) (list_all (own_ids member_id) groups) own in
      written_or (ending_at say place group) (first_ending say (place + 1) groups)
      (written_at place group parts.0) (written_first (place + 1) groups parts.1)

listed_own : (catalog : List Descriptor) (order : List (List Entry))
    → list_all (own_ids member_id) (listed_groups catalog order) ≡ true
unfolding listed_groups
listed_own catalog order =
    let raw = raw_groups 17 catalog order in
    list_all-map (own_ids member_id) (distinct same_id) raw
    ∙ all_each (λ group. own_ids member_id (distinct same_id group)) raw own-distinct

-- the group and the plan of the first trial that passes can be written
pub first_written : (target : Option Target) (rans : List Ran) (catalog : List Descriptor)
    (order : List (List Entry)) (at : ℕ) (resolved : Resolved) (keys : List Key) →
    first_trial (says target build_plan rans) catalog order ≡ Some (FirstTrial at resolved keys)
    → IsWritten resolved keys
unfolding first_trial
first_written target rans catalog order = written_first (says target build_plan rans) (says_kept target rans) 0
    (listed_groups catalog order) (listed_own catalog order)

chosen_written : (result : Result Chosen DetectEnd) (ending : Option Ending) (asked : List Key) (erred : Bool)
    → EndsWritten ending → DetectsAs result ending asked erred →
    IfOk result (λ chosen. IsTrue (is_group_doc chosen.group) × IsTrue (is_plan_doc chosen.plan))
chosen_written (Err end) ending asked erred each d = tt
chosen_written (Ok chosen) None asked erred each d = absurd d
chosen_written (Ok chosen) (Some (TooManyTrials place)) asked erred each d = absurd d
chosen_written (Ok chosen) (Some (FirstTrial place resolved keys)) asked erred each d =
    let is = each place resolved keys refl in
    (ap is_group_doc d.group ∙ is.group, ap is_plan_doc d.plan ∙ is.plan)

-- what a detection chose can be written
pub detection_written : (frame : DetectFrame) (catalog : List Descriptor) (order : List (List Entry))
    (rans : List Ran) (result : Result Chosen DetectEnd) → IsDetection frame catalog order rans result →
    IfOk result (λ chosen. IsTrue (is_group_doc chosen.group) × IsTrue (is_plan_doc chosen.plan))
detection_written frame catalog order rans result d =
    chosen_written result (first_trial (says frame.target build_plan rans) catalog order)
    (asked_keys frame.target (says frame.target build_plan rans) catalog order)
    (has_erred frame.target (says frame.target build_plan rans) catalog order)
    (first_written frame.target rans catalog order) d.detects
