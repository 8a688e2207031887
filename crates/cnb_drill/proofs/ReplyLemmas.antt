-- The replies make the children answer by the digits.
use Rattle.std.specs.List.{AllByRecursion}
use Rattle.std.proofs.Common.{◌+◌, List, [], ◌∷◌, ◌≤◌, map, length, ◌≡◌, ◌∙◌, refl, ap, ℕ, ◌<◌, Bool, true, false, cond}
use Rattle.std.specs.Prelude.{pos, nat_lt, ◌==◌, Some}
use Rattle.std.specs.Str.{is_utf8, chars}
use Rattle.std.proofs.lemmas.Bool.{leb-true}
use Rattle.std.proofs.lemmas.List.{take_all}
use Rattle.cnb_world.specs.declared.child.Reply.{Reply}
use Rattle.cnb_world.specs.Replies.{cut_reply, cut_replies}
use Rattle.toml.proofs.OnLiterals.{toml_on_literals}
use Rattle.bp_docs.specs.BuildPlan.{build_plan_in}
use Rattle.order_expand.specs.declared.member.Member.{Member}
use Rattle.detect_core.specs.declared.chosen.Verdict.{Verdict}
use Rattle.detect_core.specs.declared.chosen.Verdict.TheVariants.{Fail, Error}
use Rattle.detect_core.specs.Answer.{answer_by, pass_or_error, build_plan}
use Rattle.cnb_drill.proofs.Members.{digit_member, options_of, tail_options, child_says, AnswersBy}
use Rattle.cnb_drill.specs.Buildpacks.{component_key, eight}
use Rattle.cnb_drill.specs.Digits.{digits_of}
use Rattle.cnb_drill.specs.Replies.{reply_by, drill_replies, digit_plan, tail_plan, digit_code, replies_from}
use Rattle.cnb_drill.specs.Runs.{said_by}
use Rattle.cnb_drill.proofs.CountLemmas.{each_append}
use Rattle.cnb_drill.proofs.Digits.{by_eight}
use Rattle.cnb_drill.proofs.WordLemmas.{AreDigits}

-- ---- what the plans read as

Reads : ℕ → Type 0
Reads column = build_plan (digit_plan column) ≡ Some (options_of column)

reads_0 : Reads 0
unfolding Reads build_plan_in is_utf8 chars toml_on_literals
reads_0 = refl

reads_1 : Reads 1
unfolding Reads build_plan_in is_utf8 chars toml_on_literals
reads_1 = refl

reads_2 : Reads 2
unfolding Reads build_plan_in is_utf8 chars toml_on_literals
reads_2 = refl

reads_3 : Reads 3
unfolding Reads build_plan_in is_utf8 chars toml_on_literals
reads_3 = refl

reads_tail : build_plan tail_plan ≡ Some tail_options
unfolding build_plan_in is_utf8 chars toml_on_literals
reads_tail = refl

-- ---- one child

by_tests : (same smaller : Bool) (passed : Verdict) →
    answer_by (Some (cond same (pos 0) (cond smaller (pos 100) (pos 1)))) passed
    ≡ cond same passed (cond smaller Fail Error)
by_tests true smaller passed = refl
by_tests false true passed = refl
by_tests false false passed = refl

one_child : (column : ℕ) → Reads column → (wanted digit : ℕ)
    → answer_by (Some (digit_code wanted digit)) (pass_or_error (build_plan (digit_plan column)))
    ≡ child_says column wanted digit
unfolding Reads
one_child column r wanted digit =
    by_tests (digit == wanted) (nat_lt digit wanted) (pass_or_error (build_plan (digit_plan column)))
    ∙ ap (λ o. cond (digit == wanted) (pass_or_error o) (cond (nat_lt digit wanted) Fail Error)) r

module _ (a b c d : ℕ) where
  abbrev say : Member → Verdict
  say = said_by (replies_from 0 (a ∷ b ∷ c ∷ d ∷ []))

  column_0 : (digit : ℕ) → digit < 8 → say (digit_member 0 digit) ≡ child_says 0 a digit
  column_0 =
      let one = one_child 0 reads_0 a in
      by_eight (λ digit. say (digit_member 0 digit) ≡ child_says 0 a digit) (one 0) (one 1) (one 2) (one 3)
      (one 4) (one 5) (one 6) (one 7)

  column_1 : (digit : ℕ) → digit < 8 → say (digit_member 1 digit) ≡ child_says 1 b digit
  column_1 =
      let one = one_child 1 reads_1 b in
      by_eight (λ digit. say (digit_member 1 digit) ≡ child_says 1 b digit) (one 0) (one 1) (one 2) (one 3)
      (one 4) (one 5) (one 6) (one 7)

  column_2 : (digit : ℕ) → digit < 8 → say (digit_member 2 digit) ≡ child_says 2 c digit
  column_2 =
      let one = one_child 2 reads_2 c in
      by_eight (λ digit. say (digit_member 2 digit) ≡ child_says 2 c digit) (one 0) (one 1) (one 2) (one 3)
      (one 4) (one 5) (one 6) (one 7)

  column_3 : (digit : ℕ) → digit < 8 → say (digit_member 3 digit) ≡ child_says 3 d digit
  column_3 =
      let one = one_child 3 reads_3 d in
      by_eight (λ digit. say (digit_member 3 digit) ≡ child_says 3 d digit) (one 0) (one 1) (one 2) (one 3)
      (one 4) (one 5) (one 6) (one 7)

  pub answers_by : AreDigits (a ∷ b ∷ c ∷ d ∷ []) → AnswersBy say 0 (a ∷ b ∷ c ∷ d ∷ [])
  answers_by h = (
    h.0,
    column_0,
    (
      h.1.0,
      column_1,
      (h.1.1.0, column_2, (h.1.1.1.0, column_3, ap pass_or_error reads_tail)),
    ),
  )

-- ---- a spawner that cuts plans says the same

cut_same : (reply : Reply) → length reply.probed.plan ≤ 1048577 → cut_reply reply ≡ reply
cut_same reply h = λ i. record {
  id = reply.id;
  version = reply.version;
  probed = record
      { code = reply.probed.code; plan = take_all 1048577 reply.probed.plan h i };
}

cut_all : (replies : List Reply) → AllByRecursion (λ reply. length reply.probed.plan ≤ 1048577) replies
    → cut_replies replies ≡ replies
cut_all [] h = refl
cut_all (reply ∷ replies) h = λ i. cut_same reply h.0 i ∷ cut_all replies h.1 i

short_column : (column : ℕ) (wanted : ℕ) (digits : List ℕ)
    → AllByRecursion (λ reply. length reply.probed.plan ≤ 1048577)
    (map (λ digit. reply_by (component_key column digit) (Some (digit_code wanted digit)) (digit_plan column))
    digits)
short_column column wanted [] = tt
short_column column wanted (digit ∷ digits) =
    (leb-true (length (digit_plan column)) 1048577 refl, short_column column wanted digits)

short_replies : (column : ℕ) (digits : List ℕ) → AllByRecursion (λ reply. length reply.probed.plan ≤ 1048577)
    (replies_from column digits)
short_replies column [] = (leb-true (length tail_plan) 1048577 refl, tt)
short_replies column (wanted ∷ digits) =
    each_append (λ reply. length reply.probed.plan ≤ 1048577)
    (map (λ digit. reply_by (component_key column digit) (Some (digit_code wanted digit)) (digit_plan column))
    eight) (replies_from (column + 1) digits)
    (short_column column wanted eight) (short_replies (column + 1) digits)

-- what a spawner says that is given these replies
pub cut_drill : (number : ℕ) → cut_replies (drill_replies number) ≡ drill_replies number
unfolding drill_replies
cut_drill number = cut_all (drill_replies number) (short_replies 0 (digits_of number))
