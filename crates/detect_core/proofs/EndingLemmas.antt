-- How a group without a trial ends, and which buildpacks a choice names.
use Rattle.std.proofs.Common.{◌≡◌, ◌∙◌, refl, sym, ap, subst, ℕ, ◌+◌, ◌*◌, ◌<◌, Bool, true, false, List, [], ◌∷◌, ◌++◌}
use Rattle.std.proofs.Common.{map, take, get_or, length, arith}
use Rattle.std.specs.Prelude.{◌&&◌, nat_lt, slice_get, Option, Some, None, Ok}
use Rattle.std.specs.List.{flat_map, list_all, cons_option}
use Rattle.std.proofs.lemmas.Bool.{false≢true, lt-ltb}
use Rattle.std.proofs.lemmas.List.{map-append, take_more}
use Rattle.std.proofs.lemmas.List.Elements.{filter_map-append}
use Rattle.cnb_toml.specs.Api.{buildpack_api}
use Rattle.cnb_toml.specs.declared.names.Key.{Key}
use Rattle.bp_docs.specs.declared.build_plan.PlanOption.{PlanOption}
use Rattle.run_docs.specs.declared.group.GroupRow.{GroupRow}
use Rattle.plan_resolve.specs.declared.rows.AliveRow.{AliveRow}
use Rattle.plan_resolve.specs.declared.rows.TrialRow.{TrialRow}
use Rattle.plan_resolve.specs.Choices.{chosen_row, choices_of, choice_count}
use Rattle.plan_resolve.specs.Plan.{at_places}
use Rattle.plan_resolve.specs.Resolution.{Fails, TooMany, passes_or_fails, first_passing, resolution, has_options}
use Rattle.detect_core.specs.Detection.{Ending, ending_by, ending_of_rows}
use Rattle.detect_core.specs.Ending.{EndsGroup}
use Rattle.detect_core.specs.Search.{group_rows}

none_of_none : {X Y : Type 0} (xs : List X) (f : X → List Y) → ((x : X) → f x ≡ []) → flat_map f xs ≡ []
none_of_none [] f none = refl
none_of_none (x ∷ xs) f none = (λ i. none x i ++ flat_map f xs) ∙ none_of_none xs f none

-- where the buildpacks behind have no choice, or this one has no alternative
choices_step : (row : AliveRow) (options : List PlanOption) (behind : List (List TrialRow))
    → (nat_lt 0 (length options) ≡ true → behind ≡ []) →
    flat_map (λ option. map (λ trial. chosen_row row option ∷ trial) behind) options ≡ []
choices_step row [] behind f = refl
choices_step row (option ∷ options) behind f =
    none_of_none (option ∷ options) (λ o. map (λ trial. chosen_row row o ∷ trial) behind)
    (λ o. ap (map (λ trial. chosen_row row o ∷ trial)) (f (lt-ltb 0 (length (option ∷ options)) (omega arith))))

count_step : (options : List PlanOption) (count : ℕ) → (nat_lt 0 (length options) ≡ true → count ≡ 0)
    → length options * count ≡ 0
count_step [] count f = omega arith
count_step (option ∷ options) count f = ap (λ n. length (option ∷ options) * n)
    (f (lt-ltb 0 (length (option ∷ options)) (omega arith))) ∙ omega arith

false_behind : (a b : Bool) → (a && b) ≡ false → a ≡ true → b ≡ false
false_behind true b e h = e
false_behind false b e h = absurd (false≢true h)

no_choices : (rows : List AliveRow) → list_all has_options rows ≡ false → choices_of rows ≡ []
no_choices [] h = absurd (false≢true (sym h))
no_choices (row ∷ rows) h =
    choices_step row row.options (choices_of rows)
    (λ some. no_choices rows (false_behind (has_options row) (list_all has_options rows) h some))

no_count : (rows : List AliveRow) → list_all has_options rows ≡ false → choice_count rows ≡ 0
no_count [] h = absurd (false≢true (sym h))
no_count (row ∷ rows) h =
    count_step row.options (choice_count rows) (λ some. no_count rows
    (false_behind (has_options row) (list_all has_options rows) h some))

-- a buildpack without alternatives leaves no trial
pub no_trial : (rows : List AliveRow) → list_all has_options rows ≡ false → resolution rows ≡ Fails
unfolding resolution
no_trial rows h =
    ap (λ n. elim (nat_lt 65536 n) [
      | true ↦ TooMany
      | false
          ↦ passes_or_fails (first_passing rows 0 (choices_of rows))
    ]) (no_count rows h)
    ∙ ap (λ trials. passes_or_fails (first_passing rows 0 trials)) (no_choices rows h)

abbrev keys : List AliveRow → List Key
keys rows = map (λ row. row.key) rows

-- one more place of those that a trial keeps
pub one_more_place : (rows : List AliveRow) (places : List ℕ) (at : ℕ) (group : List GroupRow)
    (found : Option AliveRow) →
    at < length places → found ≡ slice_get rows (get_or places at 0)
    → group ≡ group_rows (keys (at_places rows (take at places))) →
    group ++ group_rows (keys (cons_option found [])) ≡ group_rows (keys (at_places rows (take (at + 1) places)))
one_more_place rows places at group found lt looked so_far =
    let front = take at places in
    let place = get_or places at 0 in
    let pushed : at_places rows (take (at + 1) places) ≡ at_places rows front ++ cons_option found [] =
    ap (at_places rows) (take_more places at 0 lt)
    ∙ (filter_map-append (slice_get rows) front (place ∷ [])
    ∙ ap (λ o. at_places rows front ++ cons_option o []) (sym looked)) in
    ap (λ g. g ++ group_rows (keys (cons_option found []))) so_far
    ∙ sym (ap (λ rs. group_rows (keys rs)) pushed
    ∙ (ap group_rows (map-append (λ (r : AliveRow). r.key) (at_places rows front) (cons_option found []))
    ∙ map-append (λ (key : Key). let row : GroupRow = record { key = key; api = buildpack_api } in row)
    (keys (at_places rows front)) (keys (cons_option found []))))

-- a group with a buildpack without alternatives does not end the search
pub no_ending : (place : ℕ) (alive : Option (List AliveRow)) (rows : List AliveRow) (asked : List Key) →
    Some rows ≡ alive → list_all has_options rows ≡ false → EndsGroup (Ok None) (ending_of_rows place alive) asked
no_ending place alive rows asked is h =
    subst (λ (o : Option Ending). EndsGroup (Ok None) o asked)
    (sym (ap (ending_of_rows place) (sym is) ∙ ap (ending_by place rows) (no_trial rows h))) tt
