-- The first passing trial, found by one trial after another.
use Rattle.std.proofs.Common.{◌≡◌, ℕ, zero, suc, ◌+◌, ◌<◌, ◌≤◌, List, [], ◌∷◌, length, get_or, arith, drop, refl, ◌∙◌}
use Rattle.std.proofs.Common.{ap, Option, Some, None, Ok, Err, Bool, true, false, cond}
use Rattle.std.specs.Prelude.{slice_get, nat_lt}
use Rattle.std.proofs.lemmas.List.{drop_more, drop_all}
use Rattle.std.proofs.lemmas.Option.{slice_get_within, slice_get-get_or, get_or_from_slice_get}
use Rattle.steps.specs.Causes.{IsAnswer}
use Rattle.plan_resolve.specs.declared.resolution.PlanFault.TheVariants.{ManyTrials}
use Rattle.plan_resolve.specs.declared.rows.TrialRow.{TrialRow}
use Rattle.plan_resolve.specs.declared.rows.AliveRow.{AliveRow}
use Rattle.plan_resolve.specs.declared.rows.Resolved.{Resolved}
use Rattle.plan_resolve.specs.Trials.{kept_of}
use Rattle.plan_resolve.specs.Choices.{choices_of, choice_count}
use Rattle.plan_resolve.specs.Resolution.{first_passing, resolved_at, Resolution, TooMany, Passes, Fails, cause_of}
use Rattle.plan_resolve.specs.Resolution.{passes_or_fails, resolution, resolution_answer}

drop_at : (trials : List (List TrialRow)) (number : ℕ) (trial : List TrialRow)
    → slice_get trials number ≡ Some trial → drop number trials ≡ trial ∷ drop (number + 1) trials
drop_at trials number trial e =
    drop_more trials number trial (slice_get_within trials number trial e)
    ∙ ap (λ t. t ∷ drop (number + 1) trials) (get_or_from_slice_get trials number trial trial e)

abbrev answer_of : List AliveRow → ℕ → List TrialRow → Option Resolved → Option (List ℕ) → Option Resolved
answer_of rows number trial later kept = elim kept
    [ Some set ↦ Some (resolved_at rows number trial set) | None ↦ later ]

pub next_fails : (rows : List AliveRow) (trials : List (List TrialRow)) (number : ℕ) (trial : List TrialRow)
    → slice_get trials number ≡ Some trial → kept_of trial ≡ None →
    first_passing rows number (drop number trials) ≡ first_passing rows (number + 1) (drop (number + 1) trials)
next_fails rows trials number trial e fails =
    ap (first_passing rows number) (drop_at trials number trial e)
    ∙ ap (answer_of rows number trial (first_passing rows (number + 1) (drop (number + 1) trials))) fails

-- the search goes on behind trials that all fail
pub next_fail : (rows : List AliveRow) (trials : List (List TrialRow)) (number count : ℕ)
    → number + count ≤ length trials →
    ((k : ℕ) (trial : List TrialRow) → k < count → slice_get trials (number + k) ≡ Some trial → kept_of trial ≡ None) →
    first_passing rows number (drop number trials) ≡ first_passing rows (number + count) (drop (number + count) trials)
next_fail rows trials number zero within each = let same : number ≡ number + 0 = omega arith
    in ap (λ n. first_passing rows n (drop n trials)) same
next_fail rows trials number (suc count) within each =
    let trial = get_or trials (number + count) [] in
    let here = slice_get-get_or trials (number + count) [] (omega arith) in
    let next : number + count + 1 ≡ number + suc count = omega arith in
    next_fail rows trials number count (omega arith) (λ k t lt e. each k t (omega arith) e)
    ∙ (next_fails rows trials (number + count) trial here (each count trial (omega arith) here)
    ∙ ap (λ n. first_passing rows n (drop n trials)) next)

pub next_passes : (rows : List AliveRow) (trials : List (List TrialRow)) (number : ℕ) (trial : List TrialRow)
    (set : List ℕ) → slice_get trials number ≡ Some trial → kept_of trial ≡ Some set →
    first_passing rows number (drop number trials) ≡ Some (resolved_at rows number trial set)
next_passes rows trials number trial set e passes =
    ap (first_passing rows number) (drop_at trials number trial e)
    ∙ ap (answer_of rows number trial (first_passing rows (number + 1) (drop (number + 1) trials))) passes

pub none_left : (rows : List AliveRow) (trials : List (List TrialRow)) (number : ℕ) → length trials ≤ number
    → first_passing rows number (drop number trials) ≡ None
none_left rows trials number le = ap (first_passing rows number) (drop_all number trials le)

-- ---- the answer

pub count_none : (b : Bool) (n : ℕ) → None ≡ cond b None (Some n) → b ≡ true
count_none true n e = refl
count_none false n e = absurd cc

pub count_some : (b : Bool) (m n : ℕ) → Some m ≡ cond b None (Some n) → (b ≡ false) × (m ≡ n)
count_some true m n e = absurd cc
count_some false m n e = (refl, cc)

pub resolution_many : (rows : List AliveRow) → nat_lt 65536 (choice_count rows) ≡ true → resolution rows ≡ TooMany
unfolding resolution
resolution_many rows many = ap (λ b. elim b [
  | true ↦ TooMany
  | false
      ↦ passes_or_fails (first_passing rows 0 (choices_of rows))
]) many

pub resolution_tried : (rows : List AliveRow) → nat_lt 65536 (choice_count rows) ≡ false
    → resolution rows ≡ passes_or_fails (first_passing rows 0 (choices_of rows))
unfolding resolution
resolution_tried rows few = ap (λ b. elim b [
  | true ↦ TooMany
  | false
      ↦ passes_or_fails (first_passing rows 0 (choices_of rows))
]) few

pub resolves : (passing : Option Resolved) (resolution : Resolution) → resolution ≡ passes_or_fails passing
    → IsAnswer cause_of (Ok passing) (resolution_answer resolution)
resolves None resolution e = ap resolution_answer e
resolves (Some resolved) resolution e = ap resolution_answer e

-- what a group's trials come to, by what a call answers of them
pub too_many_so : (resolution : Resolution) → resolution_answer resolution ≡ Err ManyTrials → resolution ≡ TooMany
too_many_so TooMany e = refl
too_many_so (Passes resolved) e = absurd cc
too_many_so Fails e = absurd cc

pub passes_so : (resolved : Resolved) (resolution : Resolution)
    → resolution_answer resolution ≡ Ok (Some resolved) → resolution ≡ Passes resolved
passes_so resolved TooMany e = absurd cc
passes_so resolved (Passes found) e = cc
passes_so resolved Fails e = absurd cc

pub fails_so : (resolution : Resolution) → resolution_answer resolution ≡ Ok None → resolution ≡ Fails
fails_so TooMany e = absurd cc
fails_so (Passes resolved) e = absurd cc
fails_so Fails e = refl
