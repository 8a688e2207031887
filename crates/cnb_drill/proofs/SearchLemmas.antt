-- The search over the drill's groups: those before the number's fail, and its trial is the sixteenth of sixteen.
use Rattle.std.proofs.Common.{◌≡◌, ◌∙◌, refl, sym, ap, inl, inr, ℕ, ◌+◌, ◌<◌, Bool, true, false, cond, List, [], ◌∷◌}
use Rattle.std.proofs.Common.{◌++◌, map, length, arith, zero-add}
use Rattle.std.specs.Prelude.{◌||◌, nat_lt, Some, None}
use Rattle.std.specs.List.{filter_map, list_all, list_any, cons_option}
use Rattle.std.proofs.lemmas.Bool.{cases_Bool, and_from, and_parts, and_left, and_right, or_left, eq-eqb, ne_eqb}
use Rattle.std.proofs.lemmas.Bool.{lt-ltb, ltb-true, false≢true}
use Rattle.std.proofs.lemmas.List.{map-append, length-map}
use Rattle.bp_docs.specs.declared.build_plan.PlanOption.{PlanOption}
use Rattle.order_expand.specs.declared.member.Member.{Member}
use Rattle.order_expand.specs.Groups.{listed_groups}
use Rattle.plan_resolve.specs.declared.rows.AliveRow.{AliveRow}
use Rattle.plan_resolve.specs.Resolution.{resolution, Passes}
use Rattle.plan_resolve.specs.Trials.{largest}
use Rattle.detect_core.specs.declared.chosen.Verdict.{Verdict}
use Rattle.detect_core.specs.declared.chosen.Verdict.TheVariants.{Pass, Fail, Error}
use Rattle.detect_core.specs.Answer.{is_pass, alive_row, alive_of}
use Rattle.detect_core.specs.Detection.{Ending, FirstTrial, ending_by, ending_of_rows, ending_at, first_ending, reached}
use Rattle.detect_core.specs.Detection.{first_trial}
use Rattle.detect_core.proofs.AnswerLemmas.{or_later, or_reached, first_ending-append, reached-append}
use Rattle.cnb_drill.proofs.Members.{digit_member, tail_member, members, options_of, tail_options, child_says}
use Rattle.cnb_drill.proofs.Members.{AnswersBy, value}
use Rattle.cnb_drill.specs.Order.{drill_catalog, drill_order}
use Rattle.cnb_drill.proofs.Members.{drill_resolved, group_keys}
use Rattle.cnb_drill.proofs.WordLemmas.{before, behind, has_smaller, smaller-before, words_at, length-before, AreDigits}
use Rattle.cnb_drill.proofs.GroupLemmas.{listed_drill}

-- ---- a group with a smaller digit has a required member that fails

abbrev passes : (Member → Verdict) → Member → Bool
passes say m = m.optional || is_pass (say m)

-- where a required member doesn't pass, nobody is alive
pub not_alive : (say : Member → Verdict) (group : List Member)
    → list_all (λ m. m.optional || is_pass (say m)) group ≡ false → alive_of say group ≡ None
not_alive say group e =
    λ i. cond (and_left (list_all (passes say) group) (list_any (λ m. is_pass (say m)) group) e i)
    (Some (filter_map (λ m. alive_row m (say m)) group)) None

fails_below : (column wanted digit : ℕ) → digit < wanted → is_pass (child_says column wanted digit) ≡ false
fails_below column wanted digit h =
    λ i. is_pass (cond (ne_eqb digit wanted (λ e. omega arith) i) (Pass (options_of column))
    (cond (lt-ltb digit wanted h i) Fail Error))

smaller_fails : (say : Member → Verdict) (column : ℕ) (word digits : List ℕ) → AnswersBy say column digits
    → has_smaller word digits ≡ true →
    list_all (passes say) (members column word) ≡ false
smaller_fails say column [] digits a h = absurd (false≢true h)
smaller_fails say column (x ∷ word) [] a h = absurd (false≢true h)
smaller_fails say column (x ∷ word) (wanted ∷ digits) a h = elim (cases_Bool (nat_lt x wanted)) [
  | inl e ↦
      let lt : x < wanted = ltb-true x wanted e in
      let wide : wanted < 8 = a.0 in
      and_left (is_pass (say (digit_member column x))) (list_all (passes say) (members (column + 1) word))
      (ap is_pass (a.1 x (omega arith)) ∙ fails_below column wanted x lt)
  | inr e ↦ and_right (is_pass (say (digit_member column x))) (list_all (passes say) (members (column + 1) word))
      (smaller_fails say (column + 1) word digits a.2 ((λ i. sym e i || has_smaller word digits) ∙ h))
]

-- groups without anybody alive don't end the search
pub no_ending : (say : Member → Verdict) (place column : ℕ) (digits : List ℕ) → AnswersBy say column digits
    → (done : List (List ℕ)) →
    list_all (λ word. has_smaller word digits) done ≡ true → first_ending say place (map (members column) done) ≡ None
no_ending say place column digits a [] h = refl
no_ending say place column digits a (word ∷ done) h =
    let parts = and_parts (has_smaller word digits) (list_all (λ w. has_smaller w digits) done) h in
    let here : ending_at say place (members column word) ≡ None =
    ap (ending_of_rows place) (not_alive say (members column word) (smaller_fails say column word digits a parts.0)) in
    ap (λ o. or_later o (first_ending say (place + 1) (map (members column) done))) here
    ∙ no_ending say (place + 1) column digits a done parts.1

-- ---- the number's own group

-- a member that passes, with its alternatives
pub record Passing : Type 0 where
  pub member : Member
  pub options : List PlanOption

abbrev pub passing_row : Passing → AliveRow
passing_row p = record { key = p.member.key; optional = p.member.optional; options = p.options }

abbrev pub AllPass : (Member → Verdict) → List Passing → Type 0
AllPass say [] = Unit {0}
AllPass say (p ∷ ps) = (say p.member ≡ Pass p.options) × AllPass say ps

all_pass : (say : Member → Verdict) (ps : List Passing) → AllPass say ps
    → list_all (passes say) (map (λ p. p.member) ps) ≡ true
all_pass say [] a = refl
all_pass say (p ∷ ps) a =
    and_from (passes say p.member) (list_all (passes say) (map (λ q. q.member) ps))
    (ap (λ v. p.member.optional || is_pass v) a.0 ∙ or_true p.member.optional) (all_pass say ps a.1)
  where
    or_true : (b : Bool) → (b || true) ≡ true
    or_true true = refl
    or_true false = refl

rows_pass : (say : Member → Verdict) (ps : List Passing) → AllPass say ps
    → filter_map (λ m. alive_row m (say m)) (map (λ p. p.member) ps) ≡ map passing_row ps
rows_pass say [] a = refl
rows_pass say (p ∷ ps) a =
    (λ i. cons_option (alive_row p.member (a.0 i)) (filter_map (λ m. alive_row m (say m)) (map (λ q. q.member) ps)))
    ∙ ap (λ rows. passing_row p ∷ rows) (rows_pass say ps a.1)

-- a group in which all pass is alive
pub all_alive : (say : Member → Verdict) (p : Passing) (ps : List Passing) → AllPass say (p ∷ ps) →
    alive_of say (map (λ q. q.member) (p ∷ ps)) ≡ Some (map passing_row (p ∷ ps))
all_alive say p ps a =
    let group = map (λ (q : Passing). q.member) (p ∷ ps) in
    (λ i. cond (and_from (list_all (passes say) group) (list_any (λ m. is_pass (say m)) group) (all_pass say (p ∷ ps) a)
    (or_left (is_pass (say p.member)) (list_any (λ m. is_pass (say m)) (map (λ (q : Passing). q.member) ps))
    (ap is_pass a.0)) i)
    (Some (filter_map (λ m. alive_row m (say m)) group)) None)
    ∙ ap Some (rows_pass say (p ∷ ps) a)

-- the digit's own component passes
own_passes : (say : Member → Verdict) (column wanted : ℕ) (digits : List ℕ)
    → AnswersBy say column (wanted ∷ digits) → say (digit_member column wanted) ≡ Pass (options_of column)
own_passes say column wanted digits a =
    a.1 wanted a.0 ∙ (λ i. cond (eq-eqb wanted wanted refl i) (Pass (options_of column))
    (cond (nat_lt wanted wanted) Fail Error))

abbrev pub passing_digit : ℕ → ℕ → Passing
passing_digit column digit = record { member = digit_member column digit; options = options_of column }

abbrev pub passing_group : ℕ → ℕ → ℕ → ℕ → List Passing
passing_group a b c d = passing_digit 0 a ∷ passing_digit 1 b ∷ passing_digit 2 c ∷ passing_digit 3 d
    ∷ record { member = tail_member; options = tail_options } ∷ []

-- of sixteen trials the last passes
pub drill_resolution : (a b c d : ℕ) → resolution (map passing_row (passing_group a b c d))
    ≡ Passes (drill_resolved a b c d)
unfolding resolution largest
drill_resolution a b c d = refl

own_rows : (place a b c d : ℕ) → ending_of_rows place (Some (map passing_row (passing_group a b c d)))
    ≡ Some (FirstTrial place (drill_resolved a b c d) (group_keys a b c d))
own_rows place a b c d = ap (λ r. ending_by place (map passing_row (passing_group a b c d)) r)
    (drill_resolution a b c d)

own_ending : (say : Member → Verdict) (place a b c d : ℕ) → AnswersBy say 0 (a ∷ b ∷ c ∷ d ∷ []) →
    ending_at say place (members 0 (a ∷ b ∷ c ∷ d ∷ [])) ≡ Some
    (FirstTrial place (drill_resolved a b c d) (group_keys a b c d))
own_ending say place a b c d h =
    let all : AllPass say (passing_group a b c d) = (
      own_passes say 0 a (b ∷ c ∷ d ∷ []) h,
      (
        own_passes say 1 b (c ∷ d ∷ []) h.2,
        (own_passes say 2 c (d ∷ []) h.2.2, (own_passes say 3 d [] h.2.2.2, (h.2.2.2.2, tt))),
      ),
    ) in
    ap (ending_of_rows place) (all_alive say (passing_digit 0 a)
    (passing_digit 1 b ∷ passing_digit 2 c ∷ passing_digit 3 d
    ∷ record { member = tail_member; options = tail_options } ∷ []) all)
    ∙ own_rows place a b c d

are_digits : (say : Member → Verdict) (column : ℕ) (digits : List ℕ) → AnswersBy say column digits → AreDigits digits
are_digits say column [] a = tt
are_digits say column (wanted ∷ digits) a = (a.0, are_digits say (column + 1) digits a.2)

module _ (say : Member → Verdict) (a b c d : ℕ) (h : AnswersBy say 0 (a ∷ b ∷ c ∷ d ∷ [])) where
  abbrev digits : List ℕ
  digits = a ∷ b ∷ c ∷ d ∷ []

  abbrev ending : Ending
  ending = FirstTrial (value digits) (drill_resolved a b c d) (group_keys a b c d)

  abbrev done : List (List Member)
  done = map (members 0) (before digits)

  abbrev left : List (List Member)
  left = map (members 0) (behind digits)

  groups : listed_groups drill_catalog drill_order ≡ done ++ members 0 digits ∷ left
  groups = listed_drill ∙ (ap (map (members 0)) (words_at digits (are_digits say 0 digits h))
      ∙ map-append (members 0) (before digits) (digits ∷ behind digits))

  none : first_ending say 0 done ≡ None
  none = no_ending say 0 0 digits h (before digits) (smaller-before digits (are_digits say 0 digits h))

  place : 0 + length done ≡ value digits
  place = zero-add (length done) ∙ (length-map (before digits) (members 0) ∙ length-before digits)

  -- the first trial that passes is that of the group with the number's digits
  pub first_drill : first_trial say drill_catalog drill_order ≡ Some ending
  unfolding first_trial
  first_drill =
      ap (first_ending say 0) groups
      ∙ (first_ending-append say 0 done (members 0 digits ∷ left) none
      ∙ (ap (λ p. first_ending say p (members 0 digits ∷ left)) place
      ∙ ap (λ o. or_later o (first_ending say (value digits + 1) left)) (own_ending say (value digits) a b c d h)))

  -- the groups that are reached are those before it, and it
  pub reached_drill : reached say 0 (listed_groups drill_catalog drill_order)
      ≡ map (members 0) (before digits ++ digits ∷ [])
  reached_drill =
      ap (reached say 0) groups
      ∙ (reached-append say 0 done (members 0 digits ∷ left) none
      ∙ (ap (λ p. done ++ reached say p (members 0 digits ∷ left)) place
      ∙ (ap (λ o. done ++ members 0 digits ∷ or_reached o (reached say (value digits + 1) left))
      (own_ending say (value digits) a b c d h)
      ∙ sym (map-append (members 0) (before digits) (digits ∷ [])))))
