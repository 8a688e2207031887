-- Build Plans without alternatives have few trials.
use Rattle.std.proofs.Common.{◌≡◌, subst, arith, ℕ, ◌*◌, ◌≤◌, Bool, true, false, cond, List, []}
use Rattle.std.proofs.Common.{◌∷◌, length, zero, suc, Option, Some, None}
use Rattle.std.specs.Prelude.{ℤ, pos, negsuc, IfSome}
use Rattle.std.specs.List.{AllByRecursion, cons_option, filter_map}
use Rattle.cnb_toml.specs.Keys.{same_key}
use Rattle.cnb_toml.specs.declared.names.Key.{Key}
use Rattle.cnb_world.specs.Runs.{Ran}
use Rattle.cnb_world.specs.declared.child.Probed.{Probed}
use Rattle.bp_docs.specs.declared.build_plan.PlanOption.{PlanOption}
use Rattle.detect_core.specs.Answer.{alive_row, answer_by, answer_or_error, build_plan, is_fit}
use Rattle.detect_core.specs.Answer.{key_of, pass_or_error, recorded, says, where_fit}
use Rattle.detect_core.specs.Detection.{reached}
use Rattle.detect_core.specs.declared.chosen.Verdict.{Verdict}
use Rattle.detect_core.specs.declared.chosen.Verdict.TheVariants.{Error, Fail, Pass}
use Rattle.order_expand.specs.Groups.{listed_groups}
use Rattle.order_expand.specs.declared.member.Member.{Member}
use Rattle.plan_resolve.specs.Choices.{choice_count}
use Rattle.plan_resolve.specs.declared.rows.AliveRow.{AliveRow}
use Rattle.detect_laws.specs.Alternatives.{HasOneAlternative, OneAlternativeIsFewTrials}
use Rattle.detect_laws.specs.Trials.{HasFewTrials}

-- one alternative at most
abbrev IsOne : Verdict → Type 0
IsOne (Pass options) = length options ≤ 1
IsOne Fail = Unit {0}
IsOne Error = Unit {0}

abbrev LeavesOne : Probed → Type 0
LeavesOne probed = IfSome (build_plan probed.plan) (λ options. length options ≤ 1)

where_same : (same : Bool) (probed : Probed) (later : Option Probed) → LeavesOne probed → IfSome later LeavesOne
    → IfSome (cond same (Some probed) later) LeavesOne
where_same true probed later h k = h
where_same false probed later h k = k

recorded_one : (rans : List Ran) (key : Key) → AllByRecursion HasOneAlternative rans
    → IfSome (recorded rans key) LeavesOne
recorded_one [] key h = tt
recorded_one (ran ∷ rans) key (first, rest) = where_same (same_key key (key_of ran)) ran.probed (recorded rans key)
    first (recorded_one rans key rest)

passes_one : (found : Option (List PlanOption)) → IfSome found (λ options. length options ≤ 1)
    → IsOne (pass_or_error found)
passes_one (Some options) h = h
passes_one None h = tt

by_code : (zero hundred : Bool) (passed : Verdict) → IsOne passed → IsOne (cond zero passed (cond hundred Fail Error))
by_code true hundred passed h = h
by_code false true passed h = tt
by_code false false passed h = tt

answers_one : (code : Option ℤ) (passed : Verdict) → IsOne passed → IsOne (answer_by code passed)
answers_one (Some (pos code)) passed h = by_code _ _ passed h
answers_one (Some (negsuc code)) passed h = tt
answers_one None passed h = tt

or_error : (found : Option Probed) → IfSome found LeavesOne → IsOne (answer_or_error build_plan found)
or_error (Some probed) h = answers_one probed.code (pass_or_error (build_plan probed.plan))
    (passes_one (build_plan probed.plan) h)
or_error None h = tt

fit_one : (fit : Bool) (verdict : Verdict) → IsOne verdict → IsOne (where_fit fit verdict)
fit_one true verdict h = h
fit_one false verdict h = tt

abbrev HasOneRow : AliveRow → Type 0
HasOneRow row = length row.options ≤ 1

module _ (say : Member → Verdict) (one : (member : Member) → IsOne (say member)) where
  with_row : (member : Member) (verdict : Verdict) (rows : List AliveRow) → IsOne verdict
      → AllByRecursion HasOneRow rows → AllByRecursion HasOneRow (cons_option (alive_row member verdict) rows)
  with_row member (Pass options) rows h k = (h, k)
  with_row member Fail rows h k = k
  with_row member Error rows h k = k

  rows_one : (group : List Member) → AllByRecursion HasOneRow (filter_map (λ m. alive_row m (say m)) group)
  rows_one [] = tt
  rows_one (member ∷ group) = with_row member (say member) (filter_map (λ m. alive_row m (say m)) group)
      (one member) (rows_one group)

  alive_one : (alive : Bool) (rows found : List AliveRow) → AllByRecursion HasOneRow rows
      → cond alive (Some rows) None ≡ Some found → AllByRecursion HasOneRow found
  alive_one true rows found h e = let same : rows ≡ found = cc in subst (AllByRecursion HasOneRow) same h
  alive_one false rows found h e = absurd (cc)

  -- at most one trial
  product : (n m : ℕ) → n ≤ 1 → m ≤ 1 → n * m ≤ 1
  product zero m h k = omega arith
  product (suc zero) m h k = omega arith
  product (suc (suc n)) m h k = absurd (omega arith)

  one_trial : (rows : List AliveRow) → AllByRecursion HasOneRow rows → choice_count rows ≤ 1
  one_trial [] h = omega arith
  one_trial (row ∷ rows) (first, rest) = product (length row.options) (choice_count rows) first (one_trial rows rest)

  few_each : (groups : List (List Member)) → AllByRecursion (HasFewTrials say) groups
  few_each [] = tt
  few_each (group ∷ groups) = (
    λ rows e. let few = one_trial rows (alive_one _
        (filter_map (λ m. alive_row m (say m)) group) rows (rows_one group) e) in omega arith,
    few_each groups,
  )

pub one_alternative_is_few : OneAlternativeIsFewTrials
one_alternative_is_few prepared answers h =
    let target = prepared.frame.target in
    few_each (says target build_plan answers)
    (λ member. fit_one (is_fit target member) _ (or_error (recorded answers member.key)
    (recorded_one answers member.key h)))
    (reached (says target build_plan answers) 0 (listed_groups prepared.catalog prepared.order))
