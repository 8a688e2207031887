-- The answers that are kept while a detection goes on.
use Rattle.std.specs.Prelude.{Bool, List, Option, Some, None}
use Rattle.std.specs.Option.{is_some}
use Rattle.std.specs.Map as entries
use Rattle.cnb_world.specs.Runs.{Ran}
use Rattle.cnb_toml.specs.declared.names.Key.{Key}
use Rattle.cnb_toml.specs.Keys.{same_key}
use Rattle.cnb_toml.specs.declared.target.Target.{Target}
use Rattle.bp_docs.specs.declared.build_plan.PlanOption.{PlanOption}
use Rattle.order_expand.specs.declared.member.Member.{Member}
use Rattle.detect_core.specs.declared.chosen.Verdict.{Verdict}
use Rattle.detect_core.specs.declared.chosen.Verdict.TheVariants.{Pass, Fail, Error}
use Rattle.detect_core.specs.Answer.{answer_of, build_plan, for_target, key_of}

-- a buildpack with what its child said
abbrev pub KeptRow : Type 0
KeptRow = Key × Verdict

-- what is kept of a child that ended
abbrev pub row_of : Ran → KeptRow
row_of ran = (key_of ran, answer_of build_plan ran.probed)

abbrev pub keys_of : List KeptRow → List Key
keys_of rows = entries.keys_of rows

-- what is kept of a buildpack's child
abbrev pub kept_for : List KeptRow → Key → Option Verdict
kept_for rows key = entries.lookup (same_key key) rows

-- whether an answer of a buildpack is kept
abbrev pub has_key : List KeptRow → Key → Bool
has_key rows key = is_some (kept_for rows key)

-- a buildpack that was not asked counts as one that ended with an error
abbrev pub verdict_or_error : Option Verdict → Verdict
verdict_or_error (Some verdict) = verdict
verdict_or_error None = Error

abbrev pub verdict_for : List KeptRow → Key → Verdict
verdict_for rows key = verdict_or_error (kept_for rows key)

-- what the kept answers say of a member
abbrev pub kept_says : Option Target → List KeptRow → Member → Verdict
kept_says target rows = for_target target (λ member. verdict_for rows member.key)

-- the alternatives of a buildpack that passed
abbrev pub options_of : Verdict → Option (List PlanOption)
options_of (Pass options) = Some options
options_of Fail = None
options_of Error = None
