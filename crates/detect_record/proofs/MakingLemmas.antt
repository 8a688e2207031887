-- The line of a trial is made step by step.
use Rattle.std.proofs.Common.{◌≡◌, ◌∙◌, ℕ, zero, suc, ◌+◌, ◌-◌, ◌<◌, ◌≤◌, Bool, true, false, not, ◌||◌, cond, List, []}
use Rattle.std.proofs.Common.{◌∷◌, ◌++◌, length, get_or, drop, Option, Some, None, ap, sym, refl, arith}
use Rattle.std.specs.Prelude.{position}
use Rattle.std.specs.List.{position_from}
use Rattle.std.proofs.lemmas.Iterator.Adapters.{position_from-zero}
use Rattle.std.proofs.lemmas.Bool.{and_parts}
use Rattle.std.proofs.lemmas.List.{at_drop_more, length-append}
use Rattle.cnb_toml.specs.declared.meta.Need.{Need}
use Rattle.plan_resolve.specs.declared.rows.TrialRow.{TrialRow}
use Rattle.plan_resolve.specs.Trials.{is_in, is_provided, is_required, numbers_below, places}
use Rattle.detect_record.specs.declared.parts.Step.{Step}
use Rattle.detect_record.specs.declared.parts.GroupLine.{GroupLine}
use Rattle.detect_record.specs.declared.parts.GroupLine.TheVariants.{Drop, Keep}
use Rattle.detect_record.specs.Record.{is_empty, is_unmet, may_drop, without}
use Rattle.detect_record.specs.Canonical.{first_step, first_step_of, first_unprovided, first_unrequired, line_from}
use Rattle.detect_record.specs.Canonical.{line_of, step_at, with_step}
use Rattle.detect_record.proofs.CanonicalLemmas.{step_fits_first, without_shorter}

-- ---- the first name that isn't met

abbrev is_unprovided : List TrialRow → List ℕ → ℕ → Need → Bool
is_unprovided trial set place need = not (is_provided trial set place need.name)

abbrev is_unrequired : List TrialRow → List ℕ → ℕ → List ℕ → Bool
is_unrequired trial set place name = not (is_required trial set place name)

cond_not : {X : Type 0} (met : Bool) (here later : X) → cond (not met) here later ≡ cond met later here
cond_not true here later = refl
cond_not false here later = refl

need_from : (trial : List TrialRow) (set : List ℕ) (place number : ℕ) (needs : List Need)
    → position_from (is_unprovided trial set place) number needs ≡ first_unprovided trial set place number needs
need_from trial set place number [] = refl
need_from trial set place number (need ∷ needs) =
    cond_not (is_provided trial set place need.name) (Some number)
    (position_from (is_unprovided trial set place) (number + 1) needs)
    ∙ ap (λ later. cond (is_provided trial set place need.name) later (Some number))
    (need_from trial set place (number + 1) needs)

name_from : (trial : List TrialRow) (set : List ℕ) (place number : ℕ) (names : List (List ℕ))
    → position_from (is_unrequired trial set place) number names ≡ first_unrequired trial set place number names
name_from trial set place number [] = refl
name_from trial set place number (name ∷ names) =
    cond_not (is_required trial set place name) (Some number)
    (position_from (is_unrequired trial set place) (number + 1) names)
    ∙ ap (λ later. cond (is_required trial set place name) later (Some number))
    (name_from trial set place (number + 1) names)

pub first_need_is : (trial : List TrialRow) (set : List ℕ) (place : ℕ) (needs : List Need)
    → first_unprovided trial set place 0 needs ≡ position (λ need. not (is_provided trial set place need.name))
    needs
first_need_is trial set place needs = sym (position_from-zero (is_unprovided trial set place) needs
    ∙ need_from trial set place 0 needs)

pub first_name_is : (trial : List TrialRow) (set : List ℕ) (place : ℕ) (names : List (List ℕ))
    → first_unrequired trial set place 0 names ≡ position (λ name. not (is_required trial set place name)) names
first_name_is trial set place names = sym (position_from-zero (is_unrequired trial set place) names
    ∙ name_from trial set place 0 names)

-- ---- the first step

abbrev step_or : Option Step → Option Step → Option Step
step_or found later = elim found [ Some step ↦ Some step | None ↦ later ]

-- a place without a step is passed over
pub step_passed : (trial : List TrialRow) (set places : List ℕ) (at place : ℕ) → at < length places
    → place ≡ get_or places at 0 → step_at trial set place ≡ None
    → first_step_of trial set (drop at places) ≡ first_step_of trial set (drop (at + 1) places)
step_passed trial set places at place within is none =
    at_drop_more (first_step_of trial set) places at 0 within
    ∙ ap (λ found. step_or found (first_step_of trial set (drop (at + 1) places)))
    (ap (step_at trial set) (sym is) ∙ none)

pub step_found : (trial : List TrialRow) (set places : List ℕ) (at place : ℕ) (step : Step) → at < length places
    → place ≡ get_or places at 0 → step_at trial set place ≡ Some step
    → first_step_of trial set (drop at places) ≡ Some step
step_found trial set places at place step within is found =
    at_drop_more (first_step_of trial set) places at 0 within
    ∙ ap (λ here. step_or here (first_step_of trial set (drop (at + 1) places)))
    (ap (step_at trial set) (sym is) ∙ found)

-- ---- the line

abbrev pub with_steps : List Step → GroupLine → GroupLine
with_steps [] line = line
with_steps (step ∷ steps) line = with_step step (with_steps steps line)

-- these steps were taken, and these places are left
abbrev pub IsMade : List TrialRow → List Step → List ℕ → Type 0
IsMade trial steps left = (line_of trial ≡ with_steps steps (line_from (length trial - length steps) trial left))
    × (length left + length steps ≤ length trial)

length_numbers : (n : ℕ) → length (numbers_below n) ≡ n
length_numbers zero = refl
length_numbers (suc n) = let before = length_numbers n in omega
    (arith, before, length-append (numbers_below n) (n ∷ []))

made_start : (trial : List TrialRow) → IsMade trial [] (places trial)
made_start trial =
    let all : length trial - length {A = Step} [] ≡ length trial = omega arith in
    (ap (λ fuel. line_from fuel trial (places trial)) (sym all), omega (arith, length_numbers (length trial)))

pub made_begins : (trial : List TrialRow) (steps : List Step) (left : List ℕ) → steps ≡ [] → left ≡ places trial
    → IsMade trial steps left
made_begins trial steps left none all = rw (none, all) (made_start trial)

-- one more step
steps_more : (steps : List Step) (step : Step) (line : GroupLine)
    → with_steps steps (with_step step line) ≡ with_steps (steps ++ step ∷ []) line
steps_more [] step line = refl
steps_more (first ∷ steps) step line = ap (with_step first) (steps_more steps step line)

steps_drop : (steps : List Step) (step : Step) → with_steps steps (Drop (step ∷ [])) ≡ Drop (steps ++ step ∷ [])
steps_drop [] step = refl
steps_drop (first ∷ steps) step = ap (with_step first) (steps_drop steps step)

steps_keep : (steps : List Step) → with_steps steps (Keep []) ≡ Keep steps
steps_keep [] = refl
steps_keep (step ∷ steps) = ap (with_step step) (steps_keep steps)

abbrev line_next : List TrialRow → List ℕ → (ℕ → GroupLine) → Option Step → GroupLine
line_next trial left later found = elim found [
  | None ↦ Keep []
  | Some step ↦ cond (not (may_drop trial step) || is_empty (without step.place left)) (Drop (step ∷ []))
      (with_step step (later step.place))
]

line_found : (trial : List TrialRow) (left : List ℕ) (fuel : ℕ) (step : Step) → first_step trial left ≡ Some step
    → line_from (suc fuel) trial left ≡ cond (not (may_drop trial step) || is_empty (without step.place left))
    (Drop (step ∷ [])) (with_step step (line_from fuel trial (without step.place left)))
line_found trial left fuel step found = ap (line_next trial left
    (λ place. line_from fuel trial (without place left))) found

line_none : (trial : List TrialRow) (left : List ℕ) (fuel : ℕ) → first_step trial left ≡ None
    → line_from fuel trial left ≡ Keep []
line_none trial left zero none = refl
line_none trial left (suc fuel) none = ap (line_next trial left
    (λ place. line_from fuel trial (without place left))) none

pub made_shorter : (trial : List TrialRow) (left behind : List ℕ) (step : Step)
    → first_step trial left ≡ Some step → behind ≡ without step.place left → length behind < length left
made_shorter trial left behind step found is =
    let there = and_parts (is_in step.place left) (is_unmet trial left step.place step.side step.name)
    (step_fits_first trial left step found) in
    let less = without_shorter step.place left there.0 in
    let same : length behind ≡ length (without step.place left) = ap length is in
    omega (arith, less, same)

fuel_more : (all taken left : ℕ) → 0 < left → left + taken ≤ all → all - taken ≡ suc (all - (taken + 1))
fuel_more all taken left some within = omega arith

-- what the line is behind a step
made_found : (trial : List TrialRow) (steps : List Step) (left behind : List ℕ) (step : Step)
    → IsMade trial steps left → first_step trial left ≡ Some step → behind ≡ without step.place left
    → line_of trial ≡ with_steps steps (cond (not (may_drop trial step) || is_empty behind) (Drop (step ∷ []))
    (with_step step (line_from (length trial - (length steps + 1)) trial behind)))
made_found trial steps left behind step made found is =
    let less = made_shorter trial left behind step found is in
    let more = fuel_more (length trial) (length steps) (length left) (omega (arith, less)) made.1 in
    made.0 ∙ ap (λ fuel. with_steps steps (line_from fuel trial left)) more
    ∙ ap (with_steps steps) (line_found trial left (length trial - (length steps + 1)) step found)
    ∙ ap (λ places. with_steps steps (cond (not (may_drop trial step) || is_empty places) (Drop (step ∷ []))
    (with_step step (line_from (length trial - (length steps + 1)) trial places)))) (sym is)

pub made_next : (trial : List TrialRow) (steps after : List Step) (left behind : List ℕ) (step : Step)
    → IsMade trial steps left → first_step trial left ≡ Some step → behind ≡ without step.place left
    → (not (may_drop trial step) || is_empty behind) ≡ false → after ≡ steps ++ step ∷ [] → IsMade trial after behind
made_next trial steps after left behind step made found is goes pushed =
    let less = made_shorter trial left behind step found is in
    let one : length after ≡ length steps + 1 = ap length pushed ∙ length-append steps (step ∷ []) in
    let line = made_found trial steps left behind step made found is
    ∙ ap (λ ends. with_steps steps (cond ends (Drop (step ∷ []))
    (with_step step (line_from (length trial - (length steps + 1)) trial behind)))) goes
    ∙ steps_more steps step (line_from (length trial - (length steps + 1)) trial behind)
    ∙ ap (λ taken. with_steps taken (line_from (length trial - (length steps + 1)) trial behind)) (sym pushed)
    ∙ ap (λ count. with_steps after (line_from (length trial - count) trial behind)) (sym one) in
    (line, omega (arith, less, one, made.1))

pub made_drop : (trial : List TrialRow) (steps after : List Step) (left behind : List ℕ) (step : Step)
    → IsMade trial steps left → first_step trial left ≡ Some step → behind ≡ without step.place left
    → (not (may_drop trial step) || is_empty behind) ≡ true → after ≡ steps ++ step ∷ [] → Drop after ≡ line_of trial
made_drop trial steps after left behind step made found is ends pushed =
    sym (made_found trial steps left behind step made found is
    ∙ ap (λ is_end. with_steps steps (cond is_end (Drop (step ∷ []))
    (with_step step (line_from (length trial - (length steps + 1)) trial behind)))) ends
    ∙ steps_drop steps step ∙ ap Drop (sym pushed))

pub made_keep : (trial : List TrialRow) (steps : List Step) (left : List ℕ) → IsMade trial steps left
    → first_step trial left ≡ None → Keep steps ≡ line_of trial
made_keep trial steps left made none =
    sym (made.0 ∙ ap (with_steps steps) (line_none trial left (length trial - length steps) none) ∙ steps_keep steps)
