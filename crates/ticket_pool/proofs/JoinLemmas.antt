-- What two halves of some workers did, as one.
use Rattle.std.proofs.Common.{◌≡◌, ℕ, ◌+◌, List, [], ◌∷◌, ◌++◌, length, map, sym, ap, ◌∙◌, subst, arith, length-append}
use Rattle.std.specs.Prelude.{Option, Result}
use Rattle.std.proofs.lemmas.List.{map-append}
use Rattle.cnb_world.specs.Runs.{Ran}
use Rattle.cnb_world.specs.declared.child.DetectJob.{DetectJob}
use Rattle.cnb_world.specs.declared.child.Reply.{Reply}
use Rattle.ticket_pool.specs.Counts.{CountsPool, first_fault}
use Rattle.ticket_pool.specs.Numbers.{weigh, late_one, IsAscending}
use Rattle.ticket_pool.specs.Said.{RanAsSaid}
use Rattle.ticket_pool.specs.TicketRule.{joined, IsWhole}
use Rattle.ticket_pool.specs.Work.{weighs, on_jobs, DrewAll, RanLists, Worked}
use Rattle.ticket_pool.specs.declared.answer.Answer.{Answer}
use Rattle.ticket_pool.specs.declared.fault.PoolFault.{PoolFault}
use Rattle.ticket_pool.specs.declared.rule.View.{View}
use Rattle.ticket_pool.proofs.CountLemmas.{counts-append, if_both}
use Rattle.ticket_pool.proofs.ListLemmas.{zip-append}
use Rattle.ticket_pool.proofs.NumberLemmas.{weigh-merged}

weighs-append : (h : ℕ → ℕ) (a b : List (List Answer)) → weighs h (a ++ b) ≡ weighs h a + weighs h b
weighs-append h [] b = omega arith
weighs-append h (l ∷ a) b = let r = weighs-append h a b in omega arith

ran-append : {S : Type 0} (runs : S → List Ran) (jobs : List DetectJob) (os ns : List S) (ls : List (List Answer))
    (os' ns' : List S) (ls' : List (List Answer))
    → RanLists runs jobs os ns ls → RanLists runs jobs os' ns' ls'
    → RanLists runs jobs (os ++ os') (ns ++ ns') (ls ++ ls')
ran-append runs jobs [] [] [] os' ns' ls' a b = b
ran-append runs jobs [] [] (l ∷ ls) os' ns' ls' a b = absurd a
ran-append runs jobs [] (n ∷ ns) ls os' ns' ls' a b = absurd a
ran-append runs jobs (o ∷ os) [] ls os' ns' ls' a b = absurd a
ran-append runs jobs (o ∷ os) (n ∷ ns) [] os' ns' ls' a b = absurd a
ran-append runs jobs (o ∷ os) (n ∷ ns) (l ∷ ls) os' ns' ls' a b =
    (a.0, a.1, ran-append runs jobs os ns ls os' ns' ls' a.2 b)

-- the lists of both halves weigh what those of each weigh
weighs-halves : {V : Type 0} (f : V → List Answer) (h : ℕ → ℕ) (ls ls' : List V)
    → weighs h (map f (ls ++ ls')) ≡ weighs h (map f ls) + weighs h (map f ls')
weighs-halves f h ls ls' = ap (weighs h) (map-append f ls ls') ∙ weighs-append h (map f ls) (map f ls')

-- the joined pass weighs what the two weigh
weigh-joined : (h : ℕ → ℕ) (v u w : View) → w ≡ joined u v → weigh h w.drawn ≡ weigh h u.drawn + weigh h v.drawn
weigh-joined h v u w is = ap (λ (z : View). weigh h z.drawn) is ∙ weigh-merged h u.drawn v.drawn

all_drawn : {V : Type 0} (f : V → List Answer) (jobs m n k : ℕ) (ls ls' : List V) (v u w : View) → k ≡ m + n
    → w ≡ joined u v
    → DrewAll jobs m (map f ls) v → DrewAll jobs n (map f ls') u → DrewAll jobs k (map f (ls ++ ls')) w
all_drawn f jobs m n k ls ls' v u w sum is a b =
    let late : w.late ≡ u.late + v.late = ap (λ (x : View). x.late) is in
    let la = a.late in let lb = b.late in
    let na = a.late_numbers in let nb = b.late_numbers in
    let numbers_late = weigh-joined (late_one jobs) v u w is in
    record {
      late = omega arith;
      late_numbers = omega arith;
      listed = λ h. let x = a.listed h in let y = b.listed h in let e = weigh-joined (on_jobs jobs h) v u w is
          in let s = weighs-halves f h ls ls' in omega arith;
    }

module _ {S V : Type 0} (runs : S → List Ran) (says : S → Option (List Reply)) (faults : S → ℕ)
    (f : V → List Answer) (jobs : List DetectJob) where
  -- v is the pass of the left half, u that of the right
  pub worked-append : (all : ℕ) (olds os os' ns ns' : List S) (ls ls' : List V) (v u w : View)
      (a b : Result (Unit {0}) PoolFault)
      → olds ≡ os ++ os' → Worked runs says faults jobs all os ns (map f ls) v a
      → Worked runs says faults jobs all os' ns' (map f ls') u b
      → w ≡ joined u v → IsAscending w.drawn → IsWhole all w → Worked runs says faults jobs all olds (ns ++ ns')
      (map f (ls ++ ls')) w (first_fault a b)
  worked-append all olds os os' ns ns' ls ls' v u w a b cut x y is ascending whole =
      let spawners : w.spawners ≡ u.spawners + v.spawners = ap (λ (z : View). z.spawners) is in
      let late : w.late ≡ u.late + v.late = ap (λ (z : View). z.late) is in
      let len : length olds ≡ length os + length os' = ap length cut ∙ length-append os os' in
      let sa = x.spawners in let sb = y.spawners in let la = x.late in let lb = y.late in
      subst (λ (z : List S). Worked runs says faults jobs all z (ns ++ ns') (map f (ls ++ ls')) w
      (first_fault a b)) (sym cut) record {
        ran = subst (RanLists runs jobs (os ++ os') (ns ++ ns')) (sym (map-append f ls ls'))
            (ran-append runs jobs os ns (map f ls) os' ns' (map f ls') x.ran y.ran);
        spawners = (let e = length-append os os' in omega arith);
        late = (let e = length-append os os' in omega arith);
        ascending = ascending;
        whole = whole;
        listed = λ h. let p = x.listed h in let q = y.listed h in let e = weigh-joined
            (on_jobs (length jobs) h) v u w is in let s = weighs-halves f h ls ls' in omega arith;
        drew = if_both a b x.drew y.drew (λ p q. all_drawn f (length jobs) (length os) (length os')
            (length (os ++ os')) ls ls' v u w (length-append os os') is p q);
        same_says = map-append says ns ns' ∙ (λ i. x.same_says i ++ y.same_says i) ∙ sym (map-append says os os');
        said = zip-append (RanAsSaid runs says) os os' ns ns' x.said y.said;
        counts = subst (λ (p : List ℕ × List ℕ). CountsPool (first_fault a b) p.0 p.1)
            (λ i. (sym (map-append faults os os') i, sym (map-append faults ns ns') i))
            (counts-append a b (map faults os) (map faults ns) (map faults os') (map faults ns') x.counts y.counts);
      }
