-- Counts of faults, of one spawner and of many.
use Rattle.std.proofs.Common.{◌≡◌, ℕ, ◌≤◌, inl, inr, List, [], ◌∷◌, ◌++◌, refl, sym, ap, ◌∙◌, subst, arith}
use Rattle.std.specs.Prelude.{Result, Ok, Err, IfOk}
use Rattle.std.specs.List.{AllZip}
use Rattle.cnb_world.specs.Calls.{CountsDetect, Rose}
use Rattle.cnb_world.specs.declared.child.DetectFault.{DetectFault}
use Rattle.cnb_world.specs.declared.child.DetectFault.TheVariants as detect
use Rattle.cnb_world.specs.declared.child.Probed.{Probed}
use Rattle.ticket_pool.specs.Counts.{CountsPool, OneRose, SomeRose, first_fault, pool_fault}
use Rattle.ticket_pool.specs.declared.fault.PoolFault.{PoolFault}
use Rattle.ticket_pool.specs.declared.fault.PoolFault.TheVariants.{Child, Memory}
use Rattle.ticket_pool.proofs.ListLemmas.{zip-append, zip_self}

abbrev Later : ℕ → ℕ → Type 0
Later before now = before ≤ now

-- a child without an answer, counted by its one spawner
pub counts_one : (fault : DetectFault) (before between now : ℕ) → between ≡ before
    → CountsDetect {T = Probed} (Err fault) between now
    → CountsPool {T = Unit {0}} (Err (pool_fault fault)) (before ∷ []) (now ∷ [])
counts_one detect.Failed before between now e rose =
    let rises : Rose before now = subst (λ n. Rose n now) e rose in
    record { none_fell = (rises.later, tt); one_rose = inl rises }
counts_one detect.Memory before between now e same = ap (λ n. n ∷ []) (same ∙ e)

one_rose-left : (bs ns bs' ns' : List ℕ) → OneRose bs ns → OneRose (bs ++ bs') (ns ++ ns')
one_rose-left [] ns bs' ns' r = absurd r
one_rose-left (b ∷ bs) [] bs' ns' r = absurd r
one_rose-left (b ∷ bs) (n ∷ ns) bs' ns' (inl rose) = inl rose
one_rose-left (b ∷ bs) (n ∷ ns) bs' ns' (inr r) = inr (one_rose-left bs ns bs' ns' r)

one_rose-right : (bs ns bs' ns' : List ℕ) → AllZip Later bs ns → OneRose bs' ns' → OneRose (bs ++ bs') (ns ++ ns')
one_rose-right [] [] bs' ns' l r = r
one_rose-right [] (n ∷ ns) bs' ns' l r = absurd l
one_rose-right (b ∷ bs) [] bs' ns' l r = absurd l
one_rose-right (b ∷ bs) (n ∷ ns) bs' ns' l r = inr (one_rose-right bs ns bs' ns' l.1 r)

all_stay : (bs ns : List ℕ) → ns ≡ bs → AllZip Later bs ns
all_stay bs ns e = subst (AllZip Later bs) (sym e) (zip_self Later (λ n. omega arith) bs)

none_fell : {T : Type 0} (end : Result T PoolFault) (bs ns : List ℕ) → CountsPool end bs ns → AllZip Later bs ns
none_fell (Ok value) bs ns c = all_stay bs ns c
none_fell (Err Child) bs ns c = c.none_fell
none_fell (Err Memory) bs ns c = all_stay bs ns c

rose-left : (bs ns bs' ns' : List ℕ) → SomeRose bs ns → AllZip Later bs' ns' → SomeRose (bs ++ bs') (ns ++ ns')
rose-left bs ns bs' ns' r l = record {
  none_fell = zip-append Later bs bs' ns ns' r.none_fell l;
  one_rose =
      one_rose-left bs ns bs' ns' r.one_rose;
}

rose-right : (bs ns bs' ns' : List ℕ) → AllZip Later bs ns → SomeRose bs' ns' → SomeRose (bs ++ bs') (ns ++ ns')
rose-right bs ns bs' ns' l r = record {
  none_fell = zip-append Later bs bs' ns ns' l r.none_fell;
  one_rose =
      one_rose-right bs ns bs' ns' l r.one_rose;
}

both_stay : (bs ns bs' ns' : List ℕ) → ns ≡ bs → ns' ≡ bs' → ns ++ ns' ≡ bs ++ bs'
both_stay bs ns bs' ns' p q = λ i. p i ++ q i

-- the counts of two halves
pub counts-append : {T : Type 0} (a b : Result T PoolFault) (bs ns bs' ns' : List ℕ) → CountsPool a bs ns
    → CountsPool b bs' ns' → CountsPool (first_fault a b) (bs ++ bs') (ns ++ ns')
counts-append (Ok x) (Ok y) bs ns bs' ns' p q = both_stay bs ns bs' ns' p q
counts-append (Ok x) (Err Child) bs ns bs' ns' p q = rose-right bs ns bs' ns' (all_stay bs ns p) q
counts-append (Ok x) (Err Memory) bs ns bs' ns' p q = both_stay bs ns bs' ns' p q
counts-append (Err Child) b bs ns bs' ns' p q = rose-left bs ns bs' ns' p (none_fell b bs' ns' q)
counts-append (Err Memory) (Ok y) bs ns bs' ns' p q = both_stay bs ns bs' ns' p q
counts-append (Err Memory) (Err Child) bs ns bs' ns' p q = rose-right bs ns bs' ns' (all_stay bs ns p) q
counts-append (Err Memory) (Err Memory) bs ns bs' ns' p q = both_stay bs ns bs' ns' p q

-- the counts of spawners beside which others do nothing
pub counts_beside : {T : Type 0} (end : Result T PoolFault) (bs ns more : List ℕ) → CountsPool end bs ns
    → CountsPool end (bs ++ more) (ns ++ more)
counts_beside (Ok x) bs ns more c = ap (λ l. l ++ more) c
counts_beside (Err Child) bs ns more c = rose-left bs ns more more c (all_stay more more refl)
counts_beside (Err Memory) bs ns more c = ap (λ l. l ++ more) c

-- what holds where both halves ended well
pub if_both : {T P Q R : Type 0} (a b : Result T PoolFault) → IfOk a (λ _. P) → IfOk b (λ _. Q) → (P → Q → R)
    → IfOk (first_fault a b) (λ _. R)
if_both (Ok x) (Ok y) p q f = f p q
if_both (Ok x) (Err fault) p q f = tt
if_both (Err Child) b p q f = tt
if_both (Err Memory) (Ok y) p q f = tt
if_both (Err Memory) (Err fault) p q f = tt
