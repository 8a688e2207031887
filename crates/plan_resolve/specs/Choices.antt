-- The trials of a group: every choice of one alternative for each of its buildpacks.
use Rattle.std.specs.Prelude.{ℕ, ◌*◌, List, [], ◌∷◌, map, length}
use Rattle.std.specs.List.{flat_map}
use Rattle.bp_docs.specs.declared.build_plan.PlanOption.{PlanOption}
use Rattle.plan_resolve.specs.declared.rows.TrialRow.{TrialRow}
use Rattle.plan_resolve.specs.declared.rows.AliveRow.{AliveRow}

abbrev pub chosen_row : AliveRow → PlanOption → TrialRow
chosen_row row option = record { optional = row.optional; provides = option.provides; needs = option.needs }

-- in lexicographic order, the first buildpack's alternative varying slowest
abbrev pub choices_of : List AliveRow → List (List TrialRow)
choices_of [] = [] ∷ []
choices_of (row ∷ rows) = flat_map (λ option. map (λ trial. chosen_row row option ∷ trial) (choices_of rows))
    row.options

-- how many there are
abbrev pub choice_count : List AliveRow → ℕ
choice_count [] = 1
choice_count (row ∷ rows) = length row.options * choice_count rows
