-- Answers written at their numbers, the last of a list first.
use Rattle.std.proofs.Common.{◌≡◌, ℕ, zero, suc, ◌+◌, ◌<◌, ◌≤◌, ◌≢◌, List, [], ◌∷◌, ◌++◌, length, map, set, refl, sym}
use Rattle.std.proofs.Common.{ap, ◌∙◌, subst, arith, length-set}
use Rattle.std.specs.Prelude.{Some, slice_get}
use Rattle.std.proofs.lemmas.List.{map-append}
use Rattle.cnb_world.specs.declared.child.Probed.{Probed}
use Rattle.ticket_pool.specs.Deal.{NoneTwice}
use Rattle.ticket_pool.specs.Numbers.{weigh, same, AllBelow, IsAscending}
use Rattle.ticket_pool.specs.Placing.{HasAllAnswers, HasAnswers, SameElse}
use Rattle.ticket_pool.specs.Work.{numbers, weighs, AllDealt, IsDealt}
use Rattle.ticket_pool.specs.declared.answer.Answer.{Answer}
use Rattle.ticket_pool.proofs.ListLemmas.{all-append, all_parts}
use Rattle.ticket_pool.proofs.NumberLemmas.{weigh-snoc, same-self, same-other}

slice_get-set_same : (xs : List Probed) (k : ℕ) (x : Probed) → k < length xs → slice_get (set xs k x) k ≡ Some x
slice_get-set_same [] k x lt = absurd (omega arith)
slice_get-set_same (y ∷ ys) zero x lt = refl
slice_get-set_same (y ∷ ys) (suc k) x lt = slice_get-set_same ys k x (omega arith)

slice_get-set_other : (xs : List Probed) (k : ℕ) (x : Probed) (j : ℕ) → j ≢ k
    → slice_get (set xs k x) j ≡ slice_get xs j
slice_get-set_other [] k x j ne = refl
slice_get-set_other (y ∷ ys) zero x zero ne = absurd (ne refl)
slice_get-set_other (y ∷ ys) zero x (suc j) ne = refl
slice_get-set_other (y ∷ ys) (suc k) x zero ne = refl
slice_get-set_other (y ∷ ys) (suc k) x (suc j) ne = slice_get-set_other ys k x j (λ e. ne (ap suc e))

-- the last number of an ascending list is greater than those before
below_last : (xs : List ℕ) (y : ℕ) → IsAscending (xs ++ y ∷ []) → IsAscending xs × AllBelow y xs
below_last [] y a = (tt, tt)
below_last (x ∷ xs) y a =
    let parts = all_parts (λ z. x < z) xs (y ∷ []) a.0 in
    let r = below_last xs y a.1 in ((parts.0, r.0), (parts.1.0, r.1))

below_none : (n : ℕ) (xs : List ℕ) → AllBelow n xs → weigh (same n) xs ≡ 0
below_none n [] b = refl
below_none n (x ∷ xs) b = let lt = b.0 in let r = below_none n xs b.1
    in let o = same-other n x (λ e. absurd (omega arith)) in omega arith

-- what ends well from here, ends well from the start
abbrev pub Leads : List Probed → List Answer → List Probed → List Answer → Type 0
Leads now rest start list = (final : List Probed) → HasAnswers final rest → SameElse final now rest
    → HasAnswers final list × SameElse final start list

abbrev pub SameElseAll : List Probed → List Probed → List (List Answer) → Type 0
SameElseAll new old lists = (n : ℕ) → weighs (same n) lists ≡ 0 → slice_get new n ≡ slice_get old n

abbrev pub LeadsAll : List Probed → List (List Answer) → List (List Answer) → Type 0
LeadsAll now rest lists = (final : List Probed) → HasAllAnswers final rest → SameElseAll final now rest
    → HasAllAnswers final lists

numbers-snoc : (rest : List Answer) (answer : Answer) → numbers (rest ++ answer ∷ []) ≡ numbers rest
    ++ answer.number ∷ []
numbers-snoc rest answer = map-append (λ (a : Answer). a.number) rest (answer ∷ [])

-- the answer that is taken next is a job's, and the rest are answers as before
pub last_dealt : (jobs : ℕ) (all rest : List Answer) (answer : Answer) → all ≡ rest ++ answer ∷ []
    → IsDealt jobs all → IsDealt jobs rest × AllBelow answer.number (numbers rest) × (answer.number < jobs)
last_dealt jobs all rest answer cut d =
    let e : numbers all ≡ numbers rest ++ answer.number ∷ [] = ap numbers cut ∙ numbers-snoc rest answer in
    let ascending = below_last (numbers rest) answer.number (subst IsAscending e d.0) in
    let below = all_parts (λ x. x < jobs) (numbers rest) (answer.number ∷ []) (subst (AllBelow jobs) e d.1) in
    ((ascending.0, below.0), ascending.1, below.1.0)

pub leads_on : (now start : List Probed) (all rest list : List Answer) (answer : Answer)
    → all ≡ rest ++ answer ∷ [] → IsDealt (length now) all → Leads now all start list
    → IsDealt (length (set now answer.number answer.probed)) rest
    × Leads (set now answer.number answer.probed) rest start list
leads_on now start all rest list answer cut d lead =
    let l = last_dealt (length now) all rest answer cut d in
    let away = below_none answer.number (numbers rest) l.1 in (
      subst (λ n. IsDealt n rest) (sym (length-set now answer.number answer.probed)) l.0,
      (λ final has else_same. subst (λ (a : List Answer). HasAnswers final a → SameElse final now a
          → HasAnswers final list × SameElse final start list) cut (lead final)
          (all-append (λ (a : Answer). slice_get final a.number ≡ Some a.probed) rest (answer ∷ []) has
          (else_same answer.number away ∙ slice_get-set_same now answer.number answer.probed l.2, tt))
          (λ n none. let w : weigh (same n) (numbers (rest ++ answer ∷ []))
          ≡ weigh (same n) (numbers rest ++ answer.number ∷ []) = ap (weigh (same n))
          (numbers-snoc rest answer) in
          let s = weigh-snoc (same n) (numbers rest) answer.number in
          let ne : n ≢ answer.number = λ e. let o : same n answer.number
          ≡ 1 = subst (λ k. same n k ≡ 1) e (same-self n) in absurd (omega arith) in
          else_same n (omega arith) ∙ slice_get-set_other now answer.number answer.probed n ne)),
    )

pub led : (now start : List Probed) (rest list : List Answer) → rest ≡ [] → Leads now rest start list
    → HasAnswers now list × SameElse now start list
led now start rest list none lead = lead now (subst (HasAnswers now) (sym none) tt) (λ n z. refl)

weighs-snoc : (h : ℕ → ℕ) (lists : List (List Answer)) (list : List Answer)
    → weighs h (lists ++ list ∷ []) ≡ weighs h lists + weigh h (numbers list)
weighs-snoc h [] list = omega arith
weighs-snoc h (l ∷ lists) list = let r = weighs-snoc h lists list in omega arith

-- answers that stand in one list of answers stand in another that is the same at their numbers
carried : (now final : List Probed) (list : List Answer) → HasAnswers now list
    → ((n : ℕ) → 1 ≤ weigh (same n) (numbers list) → slice_get final n ≡ slice_get now n) → HasAnswers final list
carried now final [] has h = tt
carried now final (a ∷ list) has h = (
  h a.number (let o = same-self a.number in omega arith)
      ∙ has.0,
  carried now final list has.1 (λ n le. h n (omega arith)),
)

module _ {V : Type 0} (f : V → List Answer) where
  pub last_list : (jobs : ℕ) (all rest : List V) (list : V) → all ≡ rest ++ list ∷ [] → AllDealt jobs (map f all)
      → AllDealt jobs (map f rest) × IsDealt jobs (f list)
  last_list jobs all rest list cut d =
      let parts = all_parts (IsDealt jobs) (map f rest) (f list ∷ [])
      (subst (AllDealt jobs) (ap (map f) cut ∙ map-append f rest (list ∷ [])) d) in (parts.0, parts.1.0)

  pub leads_all_on : (now next : List Probed) (all rest lists : List V) (list : V) → all ≡ rest ++ list ∷ []
      → length next ≡ length now → AllDealt (length now) (map f all)
      → NoneTwice (map numbers (map f all)) → HasAnswers next (f list) → SameElse next now (f list)
      → LeadsAll now (map f all) (map f lists)
      → AllDealt (length next) (map f rest) × NoneTwice (map numbers (map f rest))
      × LeadsAll next (map f rest) (map f lists)
  leads_all_on now next all rest lists list cut len d once has else_same lead =
      let e : map f all ≡ map f rest ++ f list ∷ [] = ap (map f) cut ∙ map-append f rest (list ∷ []) in
      let once_at : (x : ℕ) → weighs (same x) (map f rest) + weigh (same x) (numbers (f list)) ≤ 1 = λ x.
      let o : weighs (same x) (map f all) ≤ 1 = once x in let w : weighs (same x) (map f all)
      ≡ weighs (same x) (map f rest ++ f list ∷ []) = ap (weighs (same x)) e in
      let s = weighs-snoc (same x) (map f rest) (f list) in omega arith in (
        subst (λ n. AllDealt n (map f rest)) (sym len) (last_list (length now) all rest list cut d).0,
        (λ x. let o = once_at x in let w : weighs (same x) (map f rest) ≤ 1 = omega arith in w),
        (λ final has_rest else_rest. lead final
            (subst (HasAllAnswers final) (sym e) (all-append (HasAnswers final) (map f rest) (f list ∷ []) has_rest
            (carried next final (f list) has (λ n there. let o = once_at n in else_rest n (omega arith)), tt)))
            (λ n none. let w : weighs (same n) (map f all) ≡ weighs (same n) (map f rest ++ f list ∷ []) = ap
            (weighs (same n)) e in
            let s = weighs-snoc (same n) (map f rest) (f list) in
            else_rest n (omega arith) ∙ else_same n (omega arith))),
      )

  pub all_led : (now : List Probed) (rest : List V) (lists : List (List Answer)) → rest ≡ []
      → LeadsAll now (map f rest) lists → HasAllAnswers now lists
  all_led now rest lists none lead = lead now (subst (λ r. HasAllAnswers now (map f r)) (sym none) tt) (λ n z. refl)
