-- Which answers' names can be numbered by 32 bits.
use Rattle.std.specs.Prelude.{Bool, true, ◌&&◌, List, length, nat_le, Option, Some, None}
use Rattle.std.specs.List.{list_all}
use Rattle.bp_docs.specs.declared.build_plan.PlanOption.{PlanOption}
use Rattle.detect_core.specs.declared.chosen.AnswerRow.{AnswerRow}
use Rattle.detect_core.specs.Kept.{KeptRow, options_of, verdict_for}

-- an alternative has fewer names than 32 bits count, on each side
abbrev pub has_few_names : PlanOption → Bool
has_few_names option = nat_le (length option.provides) 4294967295 && nat_le (length option.needs) 4294967295

-- each alternative of a buildpack that passed
abbrev pub have_few_names : Option (List PlanOption) → Bool
have_few_names (Some options) = list_all has_few_names options
have_few_names None = true

-- each alternative of each answered buildpack
abbrev pub are_numbered : List KeptRow → List AnswerRow → Bool
are_numbered kept rows = list_all (λ row. have_few_names (options_of (verdict_for kept row.key))) rows
