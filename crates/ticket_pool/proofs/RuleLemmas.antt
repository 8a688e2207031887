-- Each kind of step keeps the ticket rule.
use Rattle.std.proofs.Common.{◌≡◌, ℕ, zero, suc, ◌+◌, ◌%◌, ◌^◌, ◌<◌, ◌≤◌, ◌≢◌, List, [], ◌∷◌, ◌++◌, length, get_or, set}
use Rattle.std.proofs.Common.{refl, sym, ap, ◌∙◌, subst, ⊎_elim, arith, length-set, get_or-set_same}
use mathlib.Core.Option.{some, some-ne-none, some-injective}
use lib.ListN.{get_elem?}
use Rattle.atomic_table.specs.Table.{State, Me, keeps, stepped, Allows, Splits, Joins, opening, Final, Seen}
use Rattle.atomic_table.proofs.Lists.{at_set, at_snoc, set_again, set_else}
use Rattle.ticket_pool.specs.declared.rule.View.{View}
use Rattle.ticket_pool.specs.Numbers.{weigh, same, late_one, late_of, upto, AllBelow, merged, Apart}
use Rattle.ticket_pool.specs.TicketRule.{view, total, IsView, TicketRule, drew, IsWhole, Drew, Looked, kept_part}
use Rattle.ticket_pool.specs.TicketRule.{given_part, joined, spent}
use Rattle.ticket_pool.proofs.NumberLemmas.{merged-empty, weigh-snoc, weigh-merged, same-upto-high, same-upto-le}
use Rattle.ticket_pool.proofs.NumberLemmas.{late_one-le, late-upto, length-upto, below_from, ascending-snoc}
use Rattle.ticket_pool.proofs.NumberLemmas.{ascending-merged, ascending_same, ascending-upto}

pub total-set : (f : View → ℕ) (l : List View) (i : ℕ) (v w : View) → get_elem? l i ≡ some v
    → total f (set l i w) + f v ≡ total f l + f w
total-set f [] i v w e = absurd (some-ne-none v (sym e))
total-set f (x ∷ xs) zero v w e = let is : f x ≡ f v = ap f (some-injective x v e) in omega arith
total-set f (x ∷ xs) (suc i) v w e = let r = total-set f xs i v w e in omega arith

pub total-snoc : (f : View → ℕ) (l : List View) (v : View) → total f (l ++ v ∷ []) ≡ total f l + f v
total-snoc f [] v = omega arith
total-snoc f (x ∷ xs) v = let r = total-snoc f xs v in omega arith

pub total-ge : (f : View → ℕ) (l : List View) (i : ℕ) (v : View) → get_elem? l i ≡ some v → f v ≤ total f l
total-ge f [] i v e = absurd (some-ne-none v (sym e))
total-ge f (x ∷ xs) zero v e = let is : f x ≡ f v = ap f (some-injective x v e) in omega arith
total-ge f (x ∷ xs) (suc i) v e = let r = total-ge f xs i v e in omega arith

total-le : (f g : View → ℕ) (l : List View) → ((i : ℕ) (v : View) → get_elem? l i ≡ some v → f v ≤ g v)
    → total f l ≤ total g l
total-le f g [] h = omega arith
total-le f g (x ∷ xs) h = let a = h zero x refl in let r = total-le f g xs (λ i v e. h (suc i) v e) in omega arith

total-none : (f : View → ℕ) (l : List View) → total (λ v. v.spawners) l ≡ 0
    → ((i : ℕ) (v : View) → get_elem? l i ≡ some v → v.spawners ≡ 0 → f v ≡ 0) → total f l ≡ 0
total-none f [] none h = refl
total-none f (x ∷ xs) none h = let a = h zero x refl (omega arith)
    in let r = total-none f xs (omega arith) (λ i v e. h (suc i) v e) in omega arith

-- where one view has all spawners, it has all of f
total-alone : (f : View → ℕ) (l : List View) (i : ℕ) (v : View) → get_elem? l i ≡ some v
    → total (λ u. u.spawners) l ≡ v.spawners
    → ((j : ℕ) (u : View) → get_elem? l j ≡ some u → u.spawners ≡ 0 → f u ≡ 0) → total f l ≡ f v
total-alone f [] i v e all h = absurd (some-ne-none v (sym e))
total-alone f (x ∷ xs) zero v e all h =
    let is : f x ≡ f v = ap f (some-injective x v e) in
    let d : x.spawners ≡ v.spawners = ap (λ (u : View). u.spawners) (some-injective x v e) in
    let r = total-none f xs (omega arith) (λ j u. h (suc j) u) in omega arith
total-alone f (x ∷ xs) (suc i) v e all h =
    let g = total-ge (λ u. u.spawners) xs i v e in
    let a = h zero x refl (omega arith) in
    let r = total-alone f xs i v e (omega arith) (λ j u. h (suc j) u) in omega arith

set_at : (l : List View) (i : ℕ) (v w : View) → get_elem? l i ≡ some v → get_elem? (set l i w) i ≡ some w
set_at [] i v w e = absurd (some-ne-none v (sym e))
set_at (x ∷ xs) zero v w e = refl
set_at (x ∷ xs) (suc i) v w e = set_at xs i v w e

kept_else : (l : List View) (i j : ℕ) (v b : View) → get_elem? l i ≡ some v → ¬ (j ≡ i)
    → get_elem? (set (set l i b) j spent) i ≡ some b
kept_else l i j v b at apart = set_else (set l i b) j i spent (λ e. apart (sym e)) ∙ set_at l i v b at

at_first : (ws : List ℕ) (n : ℕ) → get_elem? ws 0 ≡ some n → get_or ws 0 0 ≡ n
at_first [] n e = absurd (some-ne-none n (sym e))
at_first (x ∷ xs) n e = some-injective x n e

views_set : (jobs : ℕ) (views : List View) (id : ℕ) (w : View)
    → ((j : ℕ) (u : View) → get_elem? views j ≡ some u → IsView jobs u) → IsView jobs w → (j : ℕ) (u : View)
    → get_elem? (set views id w) j ≡ some u → IsView jobs u
views_set jobs views id w others mine j u e =
    ⊎_elim
    (λ (x : (j ≡ id) × (w ≡ u)). subst (IsView jobs) x.1 mine)
    (λ (x : (j ≢ id) × (get_elem? views j ≡ some u)). others j u x.1)
    (at_set views id j w u e)

module _ (jobs spawners : ℕ) where
  abbrev St : Type 0
  St = State (Unit {0}) View

  -- the word is at most the jobs and the spawners together, so it never wraps
  pub word_small : (s : St) → TicketRule jobs spawners s → get_or s.words 0 0 ≤ jobs + spawners
  word_small s r =
      let late = r.1 (late_one jobs) in
      let le = total-le (λ v. weigh (late_one jobs) v.drawn) (λ v. v.spawners) s.views
      (λ i v e. let f = r.3 i v e in let is = f.1 in let room = f.2 in omega arith) in
      let sum = r.2 in
      omega (arith, late-upto jobs (get_or s.words 0 0))

  -- a seat with all spawners has drawn exactly the numbers below the word
  pub whole : (s : St) → TicketRule jobs spawners s → (id : ℕ) (v : View) → get_elem? s.views id ≡ some v
      → v.spawners ≡ spawners → v.drawn ≡ upto (get_or s.words 0 0)
  whole s r id v at all =
      ascending_same v.drawn (upto (get_or s.words 0 0)) (r.3 id v at).0 (ascending-upto (get_or s.words 0 0))
      (λ h. sym (total-alone (λ u. weigh h u.drawn) s.views id v at (r.2 ∙ sym all)
      (λ j u e none. ap (weigh h) ((r.3 j u e).3 none))) ∙ r.1 h)

  is_whole : (s : St) → TicketRule jobs spawners s → (id : ℕ) (v : View) → get_elem? s.views id ≡ some v
      → IsWhole spawners v
  is_whole s r id v at all = let e = whole s r id v at all in e
      ∙ ap upto (sym (ap length e ∙ length-upto (get_or s.words 0 0)))

  own-le : (s : St) → TicketRule jobs spawners s → (id : ℕ) (v : View) → get_elem? s.views id ≡ some v
      → (h : ℕ → ℕ) → weigh h v.drawn ≤ weigh h (upto (get_or s.words 0 0))
  own-le s r id v at h = let t = total-ge (λ u. weigh h u.drawn) s.views id v at in let e = r.1 h in omega arith

  own_below : (s : St) → TicketRule jobs spawners s → (id : ℕ) (v : View) → get_elem? s.views id ≡ some v
      → AllBelow (get_or s.words 0 0) v.drawn
  own_below s r id v at = below_from (get_or s.words 0 0) v.drawn
      (λ x le. let t = own-le s r id v at (same x) in let z = same-upto-high x (get_or s.words 0 0) le
      in omega arith)

  pub draws : (slots id : ℕ) (me : Me (Unit {0}) View) → jobs + spawners < 2 ^ 32 → me.0.late < me.0.spawners
      → Allows (TicketRule jobs spawners) slots id me 0 (λ n. (n + 1) % 2 ^ 64) (Drew jobs spawners me)
  draws slots id me small room s r _ at _ =
      let n : ℕ = get_or s.words 0 0 in
      let w : View = drew jobs me.0 n in
      let low = word_small s r in
      let m : ℕ = (n + 1) % 18446744073709551616 in
      let next : m ≡ suc n = omega arith in
      let wide = r.0 in
      let word : get_or (set s.words 0 m) 0 0 ≡ suc n = get_or-set_same s.words 0 m 0 (omega arith) ∙ next in
      let below = own_below s r id me.0 at in
      let mine = r.3 id me.0 at in
      let ascending = ascending-snoc n me.0.drawn mine.0 below in
      let s' : St = stepped s 0 m id me.1 w keeps in
      let kept : TicketRule jobs spawners s' = (
        length-set s.words 0 m ∙ wide,
        (λ h.
            let t = total-set (λ v. weigh h v.drawn) s.views id me.0 w at in
            let e = r.1 h in
            let a : weigh h (upto (get_or (set s.words 0 m) 0 0)) ≡ weigh h (upto (suc n)) = ap
            (λ k. weigh h (upto k)) word in
            omega (arith, weigh-snoc h me.0.drawn n, weigh-snoc h (upto n) n)),
        (let t = total-set (λ v. v.spawners) s.views id me.0 w at in let e = r.2 in omega arith),
        views_set jobs s.views id w r.3 (
          ascending,
          (let l = mine.1 in omega (arith, weigh-snoc (late_one jobs) me.0.drawn n)),
          (let l = late_one-le jobs n in omega arith),
          (λ none. absurd (omega arith)),
        ),
      ) in
      (w, keeps, tt, kept, (refl, refl, below, ascending, is_whole s' kept id w (set_at s.views id me.0 w at)))

  pub sees : (slots id : ℕ) (me : Me (Unit {0}) View) → Allows (TicketRule jobs spawners) slots id me 0 (λ n. n)
      (λ n me'. Looked spawners me me')
  sees slots id me s r _ at _ =
      let n : ℕ = get_or s.words 0 0 in
      let wide = r.0 in
      let s' : St = stepped s 0 n id me.1 me.0 keeps in
      let word : get_or (set s.words 0 n) 0 0 ≡ n = get_or-set_same s.words 0 n 0 (omega arith) in
      let views : set s.views id me.0 ≡ s.views = set_again s.views id me.0 at in
      let kept : TicketRule jobs spawners s' = (
        length-set s.words 0 n ∙ wide,
        (λ h. ap (total (λ v. weigh h v.drawn)) views ∙ r.1 h ∙ ap (λ k. weigh h (upto k)) (sym word)),
        ap (total (λ v. v.spawners)) views ∙ r.2,
        views_set jobs s.views id me.0 r.3 (r.3 id me.0 at),
      ) in
      (me.0, keeps, tt, kept, (refl, refl, (r.3 id me.0 at).0, is_whole s r id me.0 at))

  pub cuts : (id k : ℕ) (v : View) → v.drawn ≡ [] → 1 ≤ k → k < v.spawners
      → Splits (TicketRule jobs spawners) id v (kept_part k v) (given_part k v)
  cuts id k v none some_given some_left s r at = (
    r.0,
    (λ h.
        let t = total-set (λ u. weigh h u.drawn) s.views id v (kept_part k v) at in
        let u = total-snoc (λ u. weigh h u.drawn) (set s.views id (kept_part k v)) (given_part k v) in
        let e = r.1 h in omega arith),
    (let t = total-set (λ u. u.spawners) s.views id v (kept_part k v) at in
        let u = total-snoc (λ u. u.spawners) (set s.views id (kept_part k v)) (given_part k v) in
        let e = r.2 in omega arith),
    (λ j u e. ⊎_elim
        (λ was. views_set jobs s.views id (kept_part k v) r.3 left_view j u was)
        (λ (is : given_part k v ≡ u). subst (IsView jobs) is (tt, refl, omega arith, λ z. refl))
        (at_snoc (set s.views id (kept_part k v)) (given_part k v) u j e)),
  )
    where
      left_view : IsView jobs (kept_part k v)
      left_view = let mine = r.3 id v at in (
        mine.0,
        mine.1,
        (let e : v.late ≡ 0 = mine.1 ∙ ap (late_of jobs) none in omega arith),
        λ z. none,
      )

  pub joins : (id other : ℕ) (v w : View) → Joins (TicketRule jobs spawners) id v other w (joined v w) spent
  joins id other v w s r at apart there =
      let b : View = joined v w in
      let theirs : get_elem? s.views other ≡ some w = ⊎_elim (λ (t : (other ≡ id) × (b ≡ w)). absurd (apart t.0))
      (λ (t : (other ≢ id) × (get_elem? s.views other ≡ some w)). t.1) (at_set s.views id other b w there) in
      let f = r.3 id v at in
      let g = r.3 other w theirs in
      let two : (h : ℕ → ℕ) → weigh h v.drawn + weigh h w.drawn ≤ weigh h (upto (get_or s.words 0 0)) = λ h.
      let t = total-set (λ u. weigh h u.drawn) s.views id v b at in
      let u = total-set (λ u. weigh h u.drawn) (set s.views id b) other w spent there in
      let l = total-ge (λ u. weigh h u.drawn) (set (set s.views id b) other spent) id b
      (kept_else s.views id other v b at apart) in
      let e = r.1 h in omega (arith, weigh-merged h v.drawn w.drawn) in
      let disjoint : Apart v.drawn w.drawn = λ x. let t = two (same x)
      in let z = same-upto-le x (get_or s.words 0 0) in omega arith in
      let is_view : IsView jobs b = (
        ascending-merged v.drawn w.drawn disjoint f.0 g.0,
        (let p = f.1 in let q = g.1 in omega (arith, weigh-merged (late_one jobs) v.drawn w.drawn)),
        (let p = f.2 in let q = g.2 in omega arith),
        (λ z. let p = f.3 (omega arith) in let q = g.3 (omega arith) in (λ i. merged (p i) (q i))),
      ) in (
        r.0,
        (λ h.
            let t = total-set (λ u. weigh h u.drawn) s.views id v b at in
            let u = total-set (λ u. weigh h u.drawn) (set s.views id b) other w spent there in
            let e = r.1 h in omega (arith, weigh-merged h v.drawn w.drawn)),
        (let t = total-set (λ u. u.spawners) s.views id v b at in
            let u = total-set (λ u. u.spawners) (set s.views id b) other w spent there in
            let e = r.2 in omega arith),
        views_set jobs (set s.views id b) other spent (views_set jobs s.views id b r.3 is_view)
            (tt, refl, omega arith, λ z. refl),
      )

  pub opens : (ws : List ℕ) → ws ≡ 0 ∷ [] → TicketRule jobs spawners (opening ws [] (view [] spawners 0))
  opens ws is = subst (λ (l : List ℕ). TicketRule jobs spawners (opening l [] (view [] spawners 0))) (sym is)
      (refl, (λ h. refl), omega arith, only)
    where
      only : (i : ℕ) (v : View) → get_elem? (view [] spawners 0 ∷ []) i ≡ some v → IsView jobs v
      only zero v e = subst (IsView jobs) (some-injective _ _ e) (tt, refl, omega arith, λ z. refl)
      only (suc i) v e = absurd (some-ne-none v (sym e))

  -- what the last seat learns of the word
  pub closes : (id : ℕ) (v : View) (ws : List ℕ) (xs : List (Unit {0})) (n : ℕ)
      → Final (Seen (TicketRule jobs spawners) id v) ws xs → v.spawners ≡ spawners → get_elem? ws 0 ≡ some n
      → (v.drawn ≡ upto n) × (n ≤ jobs + spawners)
  closes id v ws xs n f all first =
      let s = f.0 in
      let r = f.1.0 in
      let word : get_or s.words 0 0 ≡ n = ap (λ l. get_or l 0 0) f.2 ∙ at_first ws n first in
      ((whole s r id v f.1.1 all ∙ ap upto word), (let low = word_small s r in omega arith))

-- the steps, where the numbers go by another name
pub draws_as : (jobs spawners j d slots id : ℕ) (me : Me (Unit {0}) View) → j ≡ jobs → d ≡ spawners
    → jobs + spawners < 2 ^ 32 → me.0.late < me.0.spawners
    → Allows (TicketRule jobs spawners) slots id me 0 (λ n. (n + 1) % 2 ^ 64) (Drew j d me)
draws_as jobs spawners j d slots id me p q small room =
    subst (λ (k : ℕ × ℕ). Allows (TicketRule jobs spawners) slots id me 0 (λ n. (n + 1) % 2 ^ 64)
    (Drew k.0 k.1 me)) (λ i. (sym p i, sym q i)) (draws jobs spawners slots id me small room)

pub sees_as : (jobs spawners d slots id : ℕ) (me : Me (Unit {0}) View) → d ≡ spawners
    → Allows (TicketRule jobs spawners) slots id me 0 (λ n. n) (λ n me'. Looked d me me')
sees_as jobs spawners d slots id me q = subst
    (λ (k : ℕ). Allows (TicketRule jobs spawners) slots id me 0 (λ n. n) (λ n me'. Looked k me me')) (sym q)
    (sees jobs spawners slots id me)

pub joined-fresh : (v w : View) → (v.drawn ≡ [] → v.late ≡ 0) → (w.drawn ≡ [] → w.late ≡ 0)
    → (joined v w).drawn ≡ [] → (joined v w).late ≡ 0
joined-fresh v w f g e = let m = merged-empty v.drawn w.drawn e in let p = f m.0 in let q = g m.1 in omega arith
