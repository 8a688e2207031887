-- The lines of groups, one after another.
use Rattle.std.proofs.Common.{◌≡◌, ℕ, zero, suc, ◌+◌, ◌*◌, ◌<◌, ◌≤◌, ◌^◌, Bool, true, false, List, [], ◌∷◌, ◌++◌}
use Rattle.std.proofs.Common.{length, take, drop, refl, sym, ◌∙◌, ap, subst, inl, inr, Option, Some, None, arith}
use Rattle.std.specs.Prelude.{◌&&◌, ◌||◌, ◌==◌, nat_le, nat_lt, if◌then◌else◌, Result, Err}
use Rattle.std.specs.List.{filter_map, list_all, list_any, cons_option}
use Rattle.std.proofs.lemmas.Bool.{false≢true, and_parts, cases_Bool, eqb-true, eq-eqb, leb-true, le-leb, ltb-true}
use Rattle.std.proofs.lemmas.Bool.{ltb-false, lt-ltb, false_from_ne_true, both_ways}
use Rattle.steps.specs.Causes.{IsAnswer}
use Rattle.cnb_toml.specs.declared.names.Key.{Key}
use Rattle.cnb_toml.specs.declared.target.Target.{Target}
use Rattle.bp_docs.specs.declared.build_plan.PlanOption.{PlanOption}
use Rattle.order_expand.specs.declared.member.Member.{Member}
use Rattle.plan_resolve.specs.declared.rows.AliveRow.{AliveRow}
use Rattle.plan_resolve.specs.Choices.{choice_count, choices_of}
use Rattle.plan_resolve.specs.Resolution.{has_options}
use Rattle.detect_core.specs.declared.chosen.Verdict.{Verdict}
use Rattle.detect_core.specs.declared.chosen.Verdict.TheVariants.{Pass, Fail, Error}
use Rattle.detect_core.specs.Answer.{alive_of, alive_row, is_pass}
use Rattle.detect_core.specs.Kept.{keys_of}
use Rattle.detect_core.specs.Searching.{is_long}
use Rattle.detect_record.specs.declared.outcome.Checked.{Checked}
use Rattle.detect_record.specs.declared.outcome.CheckFault.{CheckFault}
use Rattle.detect_record.specs.declared.outcome.CheckFault.TheVariants.{Bad, Memory}
use Rattle.detect_record.specs.LinesLeft.{LinesLeft}
use Rattle.detect_record.specs.Record.{Stage, AtGroup, begun, stage_if, trying}
use Rattle.detect_record.specs.Asked.{IsMet, put_members}
use Rattle.detect_record.specs.Proving.{are_asked, asked_in, same_keys}
use Rattle.detect_record.specs.Checking.{cause_of}
use Rattle.detect_record.specs.Following.{GoesOn, IsNext, Known, checks, checks_on, has_trials}
use Rattle.detect_record.proofs.AskedLemmas.{asked_push}

-- ---- how many trials a group has

count_step : (options : List PlanOption) (count : ℕ) → (nat_lt 0 (length options) ≡ true → count ≡ 0)
    → length options * count ≡ 0
count_step [] count f = omega arith
count_step (option ∷ options) count f = ap (λ n. length (option ∷ options) * n)
    (f (lt-ltb 0 (length (option ∷ options)) (omega arith))) ∙ omega arith

false_behind : (a b : Bool) → (a && b) ≡ false → a ≡ true → b ≡ false
false_behind true b e h = e
false_behind false b e h = absurd (false≢true h)

no_count : (rows : List AliveRow) → list_all has_options rows ≡ false → choice_count rows ≡ 0
no_count [] h = absurd (false≢true (sym h))
no_count (row ∷ rows) h =
    count_step row.options (choice_count rows) (λ some. no_count rows
    (false_behind (has_options row) (list_all has_options rows) h some))

and_false : (a b : Bool) → b ≡ false → (a && b) ≡ false
and_false true b e = e
and_false false b e = refl

none_same : (count : ℕ) → (count == 0) ≡ (nat_le count 65536 && 0 == count)
none_same count = elim (cases_Bool (count == 0)) [
  | inl e ↦ let is = eqb-true count 0 e in subst (λ n. (n == 0) ≡ (nat_le n 65536 && 0 == n)) (sym is) refl
  | inr e ↦ e ∙ sym (and_false (nat_le count 65536) (0 == count)
      (false_from_ne_true (0 == count) (λ h. both_ways (count == 0) e (eq-eqb count 0 (sym (eqb-true 0 count h))))))
]

pub no_options : (rows : List AliveRow) (count : ℕ) → list_all has_options rows ≡ false
    → (count == 0) ≡ has_trials rows count
no_options rows count h = none_same count ∙ ap (λ n. nat_le count 65536 && n == count) (sym (no_count rows h))

same_few : (trials count : ℕ) → trials ≤ 65536 → (trials == count) ≡ (nat_le count 65536 && trials == count)
same_few trials count few = elim (cases_Bool (trials == count)) [
  | inl e ↦ let is = eqb-true trials count e in ap (λ b. b && trials == count)
      (sym (le-leb count 65536 (omega (arith, is))))
  | inr e ↦ e ∙ sym (and_false (nat_le count 65536) (trials == count) e)
]

too_many : (trials count : ℕ) → 65536 < trials → false ≡ (nat_le count 65536 && trials == count)
too_many trials count many = elim (cases_Bool (nat_le count 65536)) [
  | inl e ↦ sym (and_false (nat_le count 65536) (trials == count)
      (false_from_ne_true (trials == count) (λ h. let is = eqb-true trials count h
      in let le = leb-true count 65536 e in omega arith)))
  | inr e ↦ ap (λ b. b && trials == count) (sym e)
]

counted_by : (b : Bool) (trials all : ℕ) → Some trials ≡ (if b then None else Some all) → (b ≡ false) × (trials ≡ all)
counted_by true trials all e = absurd cc
counted_by false trials all e = (refl, cc)

uncounted_by : (b : Bool) (all : ℕ) → None ≡ (if b then None else Some all) → b ≡ true
uncounted_by true all e = refl
uncounted_by false all e = absurd cc

pub counted : (rows : List AliveRow) (trials count : ℕ)
    → Some trials ≡ (if nat_lt 65536 (choice_count rows) then None else Some (choice_count rows)) →
    (trials == count) ≡ has_trials rows count
counted rows trials count e =
    let parts = counted_by (nat_lt 65536 (choice_count rows)) trials (choice_count rows) e in
    ap (λ n. n == count) parts.1 ∙ same_few (choice_count rows) count (ltb-false 65536 (choice_count rows) parts.0)

pub uncounted : (rows : List AliveRow) (count : ℕ) → None
    ≡ (if nat_lt 65536 (choice_count rows) then None else Some (choice_count rows)) →
    false ≡ has_trials rows count
uncounted rows count e =
    too_many (choice_count rows) count (ltb-true 65536 (choice_count rows)
    (uncounted_by (nat_lt 65536 (choice_count rows)) (choice_count rows) e))

pub count_is : (rows : List AliveRow) (count : ℕ) (has : Bool) → has ≡ has_trials rows count → has ≡ true
    → count ≡ choice_count rows
count_is rows count has is met =
    sym (eqb-true (choice_count rows) count (and_parts (nat_le count 65536) (choice_count rows == count)
    (sym is ∙ met)).1)

-- ---- the rows of a group

option_step : (member : Member) (verdict : Verdict) (rows : List AliveRow)
    → length (cons_option (alive_row member verdict) rows) ≤ length rows + 1
option_step member (Pass options) rows = omega arith
option_step member Fail rows = omega arith
option_step member Error rows = omega arith

rows-le : (says : Member → Verdict) (group : List Member)
    → length (filter_map (λ m. alive_row m (says m)) group) ≤ length group
rows-le says [] = omega arith
rows-le says (m ∷ ms) =
    let a = option_step m (says m) (filter_map (λ n. alive_row n (says n)) ms) in
    let b : length (filter_map (λ n. alive_row n (says n)) ms) ≤ length ms = rows-le says ms in
    omega arith

few_if : (all : Bool) (found rows : List AliveRow) → length found ≤ 256
    → Some rows ≡ (if all then Some found else None) → length rows < 2 ^ 32
few_if true found rows few e = let is : rows ≡ found = cc
    in subst (λ (rs : List AliveRow). length rs < 2 ^ 32) (sym is) (omega arith)
few_if false found rows few e = absurd cc

pub alive_few : (says : Member → Verdict) (group : List Member) (rows : List AliveRow) → length group ≤ 256
    → Some rows ≡ alive_of says group → length rows < 2 ^ 32
alive_few says group rows few e =
    let less : length (filter_map (λ m. alive_row m (says m)) group) ≤ length group = rows-le says group in
    few_if (list_all (λ m. m.optional || is_pass (says m)) group && list_any (λ m. is_pass (says m)) group)
    (filter_map (λ m. alive_row m (says m)) group) rows (omega arith) e

-- ---- what a line begins

pub begun_none : (chosen : Bool) (place : ℕ) (alive : Option (List AliveRow)) (groups : List (List Member))
    (count : ℕ) → None ≡ alive →
    begun chosen place alive groups count ≡ None
begun_none chosen place alive groups count e = ap (λ a. begun chosen place a groups count) (sym e)

pub begun_other : (chosen : Bool) (place : ℕ) (alive : Option (List AliveRow)) (rows : List AliveRow)
    (groups : List (List Member)) (count : ℕ) (has : Bool) →
    Some rows ≡ alive → has ≡ has_trials rows count → has ≡ false → begun chosen place alive groups count ≡ None
begun_other chosen place alive rows groups count has e is none =
    ap (λ a. begun chosen place a groups count) (sym e) ∙ ap
    (λ b. stage_if b (trying chosen place rows groups 0 (choices_of rows))) (sym is ∙ none)

pub begun_so : (chosen : Bool) (place : ℕ) (alive : Option (List AliveRow)) (rows : List AliveRow)
    (groups : List (List Member)) (count : ℕ) (has : Bool) →
    Some rows ≡ alive → has ≡ has_trials rows count → has ≡ true
    → begun chosen place alive groups count ≡ Some (trying chosen place rows groups 0 (choices_of rows))
begun_so chosen place alive rows groups count has e is met =
    ap (λ a. begun chosen place a groups count) (sym e) ∙ ap
    (λ b. stage_if b (trying chosen place rows groups 0 (choices_of rows))) (sym is ∙ met)

-- a fault of judging a line ends the check
pub next_fault : {A B : Type 0} (fault : CheckFault) (known : Known) (next : Option Stage) (lines : LinesLeft)
    (taken : ℕ) (to : A → Stage) (out : B → Result Checked CheckFault) →
    taken ≡ lines.taken → IsNext {A = A} (Err fault) taken next to
    → GoesOn {A = B} (Err fault) (checks_on known next lines) out
next_fault (Bad line) known next lines taken to out t is =
    let refused_at : ℕ → Result Checked CheckFault = λ n. Err (Bad n) in
    ap (λ s. checks_on known s lines) is.0 ∙ ap refused_at (sym (is.1 ∙ t))
next_fault Memory known next lines taken to out t is = tt

pub answer_fault : {B : Type 0} (fault : CheckFault) (start from : Result Checked CheckFault)
    (out : B → Result Checked CheckFault) → start ≡ from →
    (let answer : Result Checked CheckFault = Err fault in IsAnswer cause_of answer from)
    → GoesOn {A = B} (Err fault) start out
answer_fault (Bad line) start from out e is = e ∙ is
answer_fault Memory start from out e is = tt

pub passes_over : (met : Bool) (known : Known) (place : ℕ) (groups : List (List Member)) (lines : LinesLeft)
    → met ≡ true →
    checks_on known (stage_if met (AtGroup (place + 1) groups)) lines ≡ checks known (AtGroup (place + 1) groups) lines
passes_over met known place groups lines e = ap (λ b. checks_on known (stage_if b (AtGroup (place + 1) groups)) lines) e

pub refuses_over : (met : Bool) (known : Known) (place : ℕ) (groups : List (List Member)) (lines : LinesLeft)
    (taken : ℕ) → met ≡ false → lines.taken ≡ taken →
    checks_on known (stage_if met (AtGroup (place + 1) groups)) lines ≡ Err (Bad taken)
refuses_over met known place groups lines taken e t =
    let refused_at : ℕ → Result Checked CheckFault = λ n. Err (Bad n) in
    ap (λ b. checks_on known (stage_if b (AtGroup (place + 1) groups)) lines) e ∙ ap refused_at t

-- ---- the walk over the groups

pub group_next : {X : Type 0} (all : List X) (group : X) (later : List X) (place : ℕ) → drop place all ≡ group ∷ later →
    (take (place + 1) all ≡ take place all ++ group ∷ []) × (later ≡ drop (place + 1) all) × (place + 1 ≤ length all)
group_next [] group later zero e = absurd cc
group_next [] group later (suc place) e = absurd cc
group_next (x ∷ xs) group later zero e =
    let here : x ≡ group = cc in
    let more : xs ≡ later = cc in
    (ap (λ y. y ∷ []) here, sym more, omega arith)
group_next (x ∷ xs) group later (suc place) e =
    let rest = group_next xs group later place e in
    let same : suc place + 1 ≡ suc (place + 1) = omega arith in (
      ap (λ n. take n (x ∷ xs)) same ∙ ap (λ ys. x ∷ ys) rest.0,
      rest.1 ∙ sym (ap (λ n. drop n (x ∷ xs)) same),
      omega (arith, rest.2),
    )

false_front : (a b : Bool) → (a || b) ≡ false → a ≡ false
false_front true b e = e
false_front false b e = refl

false_rest : (a b : Bool) → (a || b) ≡ false → b ≡ false
false_rest true b e = absurd (false≢true (sym e))
false_rest false b e = e

-- no listed group is long
pub short_at : (all : List (List Member)) (group : List Member) (later : List (List Member)) (place : ℕ)
    → drop place all ≡ group ∷ later → list_any is_long all ≡ false →
    length group ≤ 256
short_at [] group later zero e short = absurd cc
short_at [] group later (suc place) e short = absurd cc
short_at (x ∷ xs) group later zero e short =
    let here : x ≡ group = cc in
    subst (λ (g : List Member). length g ≤ 256) here
    (ltb-false 256 (length x) (false_front (is_long x) (list_any is_long xs) short))
short_at (x ∷ xs) group later (suc place) e short = short_at xs group later place e
    (false_rest (is_long x) (list_any is_long xs) short)

-- one group more is asked
pub asked_next : (target : Option Target) (all : List (List Member)) (group : List Member)
    (later : List (List Member)) (place : ℕ) → drop place all ≡ group ∷ later →
    asked_in target (take (place + 1) all) ≡ put_members target (asked_in target (take place all)) group
asked_next target all group later place e = ap (asked_in target) (group_next all group later place e).0
    ∙ asked_push target (take place all) group

-- a fault with a number is the check's
pub refused_goes : {A : Type 0} (fault : CheckFault) (number : ℕ) (start : Result Checked CheckFault)
    (out : A → Result Checked CheckFault) →
    fault ≡ Bad number → start ≡ Err (Bad number) → GoesOn {A = A} (Err fault) start out
refused_goes {A = A} fault number start out is e = subst (λ (f : CheckFault). GoesOn {A = A} (Err f) start out)
    (sym is) e

pub refused_answers : (fault : CheckFault) (number : ℕ) (start : Result Checked CheckFault) → fault ≡ Bad number
    → start ≡ Err (Bad number) →
    (let answer : Result Checked CheckFault = Err fault in IsAnswer cause_of answer start)
refused_answers fault number start is e =
    subst (λ (f : CheckFault). (let answer : Result Checked CheckFault = Err f in IsAnswer cause_of answer start))
    (sym is) e

-- whether all answered buildpacks were met, behind a group
pub right_so : (target : Option Target) (kept : List (Key × Verdict)) (all : List (List Member))
    (group slice : List Member) (later : List (List Member)) (place : ℕ) (all_met : Bool) →
    drop place all ≡ group ∷ later → slice ≡ group → all_met
    ≡ same_keys (keys_of kept) (put_members target (asked_in target (take place all)) slice) →
    all_met ≡ are_asked target kept all place
right_so target kept all group slice later place all_met at is e =
    e ∙ ap (same_keys (keys_of kept)) (ap (put_members target (asked_in target (take place all))) is
    ∙ sym (asked_next target all group later place at))

pub met_so : (target : Option Target) (keys : List Key) (all : List (List Member)) (group slice : List Member)
    (later : List (List Member)) (place : ℕ) (met : Option ℕ) →
    drop place all ≡ group ∷ later → slice ≡ group → IsMet keys
    (put_members target (asked_in target (take place all)) slice) met →
    IsMet keys (asked_in target (take (place + 1) all)) met
met_so target keys all group slice later place met at is m =
    subst (λ asked. IsMet keys asked met) (ap (put_members target (asked_in target (take place all))) is
    ∙ sym (asked_next target all group later place at)) m

-- the next group's line is to come
pub group_line : (start : Result Checked CheckFault) (known : Known) (place : ℕ) (lines : LinesLeft)
    (left : List (List Member)) (group slice : List Member) (later : List (List Member)) →
    start ≡ checks known (AtGroup place left) lines → left ≡ group ∷ later → slice ≡ group
    → start ≡ checks known (AtGroup place (slice ∷ later)) lines
group_line start known place lines left group slice later e next is =
    e ∙ ap (λ groups. checks known (AtGroup place groups) lines) (next ∙ ap (λ g. g ∷ later) (sym is))
