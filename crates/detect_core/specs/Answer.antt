-- What detect children answered (buildpack.md, "Detection").
use Rattle.std.specs.Prelude.{ℕ, ℤ, pos, negsuc, ◌==◌, Bool, true, false, List, [], ◌∷◌, ◌&&◌, ◌||◌, if◌then◌else◌}
use Rattle.std.specs.Prelude.{Option, Some, None}
use Rattle.std.specs.Result.{result_ok}
use Rattle.std.specs.List.{filter_map, list_all, list_any}
use Rattle.cnb_world.specs.declared.child.Probed.{Probed}
use Rattle.cnb_world.specs.Runs.{Ran}
use Rattle.cnb_toml.specs.declared.names.Key.{Key}
use Rattle.cnb_toml.specs.Keys.{same_key}
use Rattle.bp_docs.specs.declared.build_plan.PlanOption.{PlanOption}
use Rattle.cnb_toml.specs.declared.target.Target.{Target}
use Rattle.bp_docs.specs.BuildPlan.{build_plan_in}
use Rattle.bp_docs.specs.Targets.{fits}
use Rattle.order_expand.specs.declared.member.Member.{Member}
use Rattle.plan_resolve.specs.declared.rows.AliveRow.{AliveRow}
use Rattle.detect_core.specs.declared.chosen.AnswerRow.{AnswerRow}
use Rattle.detect_core.specs.declared.chosen.Verdict.{Verdict}
use Rattle.detect_core.specs.declared.chosen.Verdict.TheVariants.{Pass, Fail, Error}

-- the alternatives of a Build Plan, where the bytes are one
abbrev pub build_plan : List ℕ → Option (List PlanOption)
build_plan bytes = result_ok (build_plan_in bytes)

abbrev pub pass_or_error : Option (List PlanOption) → Verdict
pass_or_error (Some options) = Pass options
pass_or_error None = Error

abbrev pub answer_by : Option ℤ → Verdict → Verdict
answer_by (Some (pos code)) passed = if code == 0 then passed else if code == 100 then Fail else Error
answer_by (Some (negsuc code)) passed = Error
answer_by None passed = Error

-- Status 0 passes with the alternatives of the Build Plan, where that is one; status 100 fails; all else is an error.
abbrev pub answer_of : (List ℕ → Option (List PlanOption)) → Probed → Verdict
answer_of plan_in probed = answer_by probed.code (pass_or_error (plan_in probed.plan))

abbrev pub key_of : Ran → Key
key_of ran = record { id = ran.job.id; version = ran.job.version }

-- what is recorded of a child that ended
abbrev pub answer_row : Ran → AnswerRow
answer_row ran = record { key = key_of ran; probed = ran.probed }

-- what was recorded first for a buildpack
abbrev pub recorded : List Ran → Key → Option Probed
recorded [] key = None
recorded (ran ∷ rans) key = if same_key key (key_of ran) then Some ran.probed else recorded rans key

abbrev pub answer_or_error : (List ℕ → Option (List PlanOption)) → Option Probed → Verdict
answer_or_error plan_in (Some probed) = answer_of plan_in probed
answer_or_error plan_in None = Error

-- whether a member is for a target
abbrev pub is_fit : Option Target → Member → Bool
is_fit target member = fits member.targets target

-- A member that is not for the target fails, whatever is recorded.
abbrev pub where_fit : Bool → Verdict → Verdict
where_fit true verdict = verdict
where_fit false verdict = Fail

-- what answers say of a member, which count only where it is for the target
abbrev pub for_target : Option Target → (Member → Verdict) → Member → Verdict
for_target target answers member = where_fit (is_fit target member) (answers member)

-- what the recorded children say of a member
abbrev pub says : Option Target → (List ℕ → Option (List PlanOption)) → List Ran → Member → Verdict
says target plan_in rans = for_target target (λ member. answer_or_error plan_in (recorded rans member.key))

abbrev pub is_pass : Verdict → Bool
is_pass (Pass options) = true
is_pass Fail = false
is_pass Error = false

abbrev pub is_error : Verdict → Bool
is_error (Pass options) = false
is_error Fail = false
is_error Error = true

abbrev pub alive_row : Member → Verdict → Option AliveRow
alive_row member (Pass options) = Some record { key = member.key; optional = member.optional; options = options }
alive_row member Fail = None
alive_row member Error = None

-- the members that pass, where every required one does and there is one
abbrev pub alive_of : (Member → Verdict) → List Member → Option (List AliveRow)
alive_of says group =
    if list_all (λ member. member.optional || is_pass (says member)) group
    && list_any (λ member. is_pass (says member)) group
    then Some (filter_map (λ member. alive_row member (says member)) group) else None
