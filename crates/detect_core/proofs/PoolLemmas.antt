-- What the pool promises of its spawners: the children that they ran between them, in the order of the jobs.
use Rattle.std.proofs.Common.{◌≡◌, ◌∙◌, refl, sym, ap, subst, arith, ℕ, ◌+◌, ◌<◌, zero, suc, inl, inr, ◌⊎◌, List, []}
use Rattle.std.proofs.Common.{◌∷◌, ◌++◌, map, drop, take, length, append-nil, append_assoc, ◌-◌}
use Rattle.std.specs.Prelude.{slice_get, Option, Some, None, Result, Ok, Err, IfOk, OnErr}
use Rattle.std.specs.List.{AllByRecursion, AllZip, cons_option}
use Rattle.std.proofs.lemmas.List.{map-append}
use Rattle.std.proofs.Math.Seq.{drop-append_seam}
use mathlib.Core.Logic.{dite}
use native.Mathlib.Decide.{dec_lt, ℕ_discrete}
use Rattle.cnb_world.specs.Runs.{Ran, IsSaid}
use Rattle.cnb_world.specs.declared.child.DetectJob.{DetectJob}
use Rattle.cnb_world.specs.declared.child.Probed.{Probed}
use Rattle.cnb_world.specs.declared.child.Reply.{Reply}
use Rattle.steps.specs.Asking.{AskedBy, AreSome, IsMadeOf, RunsMore, RunShares}
use Rattle.steps.specs.Outside.{SpawnerSeen}
use Rattle.steps.proofs.AskingLemmas.{asked_none}
use Rattle.ticket_pool.specs.Deal.{at_numbers, deal_weighs, NoneTwice, RanAll, RanSome, Shares, SharesJobs, recorded}
use Rattle.ticket_pool.specs.Numbers.{weigh, same, upto, IsAscending}
use Rattle.ticket_pool.specs.Said.{RanAsSaid}
use Rattle.ticket_pool.proofs.NumberLemmas.{above_none, same-other, same-self, weigh-snoc}
use Rattle.detect_core.specs.Asking.{RunsSome}

-- ---- a deal, number by number

-- the numbers from k on, so many of them
abbrev from : ℕ → ℕ → List ℕ
from k zero = []
from k (suc n) = k ∷ from (suc k) n

from-snoc : (h : ℕ → ℕ) (k n : ℕ) → weigh h (from k (suc n)) ≡ weigh h (from k n) + h (k + n)
from-snoc h k zero = let z : k ≡ k + 0 = omega arith in let e : h k ≡ h (k + 0) = ap h z in omega arith
from-snoc h k (suc n) = let r = from-snoc h (suc k) n in let z : suc k + n ≡ k + suc n = omega arith
    in let e : h (suc k + n) ≡ h (k + suc n) = ap h z in omega arith

from-upto : (h : ℕ → ℕ) (n : ℕ) → weigh h (from 0 n) ≡ weigh h (upto n)
from-upto h zero = refl
from-upto h (suc n) = let r = from-upto h n in let z : 0 + n ≡ n = omega arith in let e : h (0 + n) ≡ h n = ap h z
    in omega (arith, from-snoc h 0 n, weigh-snoc h (upto n) n)

from-low : (x k n : ℕ) → x < k → weigh (same x) (from k n) ≡ 0
from-low x k zero lt = refl
from-low x k (suc n) lt = let o = same-other x k (omega arith) in let r = from-low x (suc k) n (omega arith)
    in omega arith

-- no number below k is dealt
abbrev IsFrom : ℕ → List (List ℕ) → Type 0
IsFrom k deal = (x : ℕ) → x < k → deal_weighs (same x) deal ≡ 0

deal-append : (h : ℕ → ℕ) (front back : List (List ℕ)) → deal_weighs h (front ++ back)
    ≡ deal_weighs h front + deal_weighs h back
deal-append h [] back = omega arith
deal-append h (numbers ∷ front) back = omega (arith, deal-append h front back)

-- k stands at the head of a list, among others
record HasFirst (k : ℕ) (deal : List (List ℕ)) : Type 0 where
  front : List (List ℕ)
  rest : List ℕ
  back : List (List ℕ)
  is : deal ≡ front ++ (k ∷ rest) ∷ back

-- the numbers of each list ascend
abbrev AllAscend : List (List ℕ) → Type 0
AllAscend deal = AllByRecursion IsAscending deal

-- where no number below k is dealt, k is the first of a list, or of none
first_of_deal : (k : ℕ) (deal : List (List ℕ)) → AllAscend deal → IsFrom k deal → (deal_weighs (same k) deal ≡ 0)
    ⊎ HasFirst k deal
first_of_deal k [] ascend low = inl refl
first_of_deal k (numbers ∷ deal) ascend low = list numbers ascend.0 low
    (first_of_deal k deal ascend.1 (λ x lt. let l = low x lt in omega arith))
  where
    behind : (ns : List ℕ) → weigh (same k) ns ≡ 0 → (deal_weighs (same k) deal ≡ 0) ⊎ HasFirst k deal
        → (deal_weighs (same k) (ns ∷ deal) ≡ 0) ⊎ HasFirst k (ns ∷ deal)
    behind ns none (inl e) = inl (omega arith)
    behind ns none (inr first) = inr record {
      front = ns ∷ first.front;
      rest = first.rest;
      back = first.back;
      is =
          ap (λ l. ns ∷ l) first.is;
    }

    list : (ns : List ℕ) → IsAscending ns → IsFrom k (ns ∷ deal) → (deal_weighs (same k) deal ≡ 0)
        ⊎ HasFirst k deal → (deal_weighs (same k) (ns ∷ deal) ≡ 0) ⊎ HasFirst k (ns ∷ deal)
    list [] a low' others = behind [] refl others
    list (n ∷ ns) a low' others = dite (ℕ_discrete n k)
        (λ e. inr record { front = []; rest = ns; back = deal; is = ap (λ m. (m ∷ ns) ∷ deal) e })
        (λ ne. dite (dec_lt n k)
        (λ lt. let l = low' n lt in let s = same-self n in absurd (omega arith))
        (λ ge. let o = same-other k n (λ e. ne (sym e)) in let r = above_none n ns k (omega arith) a.0
        in behind (n ∷ ns) (omega arith) others))

-- what is left of a deal without its first number
taken : (h : ℕ → ℕ) (k : ℕ) (deal front back : List (List ℕ)) (rest : List ℕ) → deal ≡ front ++ (k ∷ rest) ∷ back
    → deal_weighs h deal ≡ h k + deal_weighs h (front ++ rest ∷ back)
taken h k deal front back rest is =
    let e : deal_weighs h deal ≡ deal_weighs h (front ++ (k ∷ rest) ∷ back) = ap (deal_weighs h) is in
    omega (arith, deal-append h front ((k ∷ rest) ∷ back), deal-append h front (rest ∷ back))

still_ascend : (k : ℕ) (front back : List (List ℕ)) (rest : List ℕ) → AllAscend (front ++ (k ∷ rest) ∷ back)
    → AllAscend (front ++ rest ∷ back)
still_ascend k [] back rest a = (a.0.1, a.1)
still_ascend k (numbers ∷ front) back rest a = (a.0, still_ascend k front back rest a.1)

-- the elements of a list from k on are these
abbrev AreFrom : {X : Type 0} → List X → ℕ → List X → Type 0
AreFrom all k left = (i : ℕ) → slice_get left i ≡ slice_get all (k + i)

next_from : {X : Type 0} (all : List X) (k : ℕ) (x : X) (left : List X) → AreFrom all k (x ∷ left)
    → (slice_get all k ≡ Some x) × AreFrom all (suc k) left
next_from all k x left are = (
  (let e : k ≡ k + 0 = omega arith in ap (slice_get all) e ∙ sym (are 0)),
  λ i. are (suc i) ∙ ap (slice_get all) (let e : k + suc i ≡ suc k + i = omega arith in e),
)

all_from : {X : Type 0} (all : List X) → AreFrom all 0 all
all_from all i = ap (slice_get all) (let e : i ≡ 0 + i = omega arith in e)

-- numbers that are no element's
past_numbers : {X : Type 0} (all : List X) (k : ℕ) (numbers : List ℕ) → AreFrom all k []
    → ((x : ℕ) → x < k → weigh (same x) numbers ≡ 0) → at_numbers all numbers ≡ []
past_numbers all k [] are low = refl
past_numbers all k (n ∷ numbers) are low = dite (dec_lt n k)
    (λ lt. let l = low n lt in let s = same-self n in absurd (omega arith))
    (λ ge. let e : k + (n - k) ≡ n = omega arith in
    let none : slice_get all n ≡ None = ap (slice_get all) (sym e) ∙ sym (are (n - k)) in
    ap (λ o. cons_option o (at_numbers all numbers)) none ∙ past_numbers all k numbers are
    (λ x lt. let l = low x lt in omega arith))

-- ---- all jobs were run: the rows, dealt, make up their list

no_shares : (all : List Ran) (deal : List (List ℕ)) → deal_weighs (λ _. 1) deal ≡ 0
    → AllByRecursion (λ (share : List Ran). share ≡ []) (map (at_numbers all) deal)
no_shares all [] none = tt
no_shares all ([] ∷ deal) none = (refl, no_shares all deal (omega arith))
no_shares all ((n ∷ numbers) ∷ deal) none = absurd (omega arith)

made_whole : (all left : List Ran) (k : ℕ) (deal : List (List ℕ)) → AreFrom all k left → AllAscend deal
    → ((h : ℕ → ℕ) → deal_weighs h deal ≡ weigh h (from k (length left)))
    → IsMadeOf left (map (at_numbers all) deal)
made_whole all [] k deal are ascend whole = no_shares all deal (whole (λ _. 1))
made_whole all (ran ∷ left) k deal are ascend whole =
    let next = next_from all k ran left are in
    elim (first_of_deal k deal ascend (λ x lt. whole (same x) ∙ from-low x k (length (ran ∷ left)) lt)) [
      | inl none ↦ (let w = whole (same k) in let s = same-self k in absurd (omega (arith, none)))
      | inr first ↦ (
        map (at_numbers all) first.front,
        at_numbers all first.rest,
        map (at_numbers all) first.back,
        ap (map (at_numbers all)) first.is ∙ (map-append (at_numbers all) first.front ((k ∷ first.rest) ∷ first.back)
            ∙ ap (λ o. map (at_numbers all) first.front ++ cons_option o (at_numbers all first.rest)
            ∷ map (at_numbers all) first.back) next.0),
        subst (IsMadeOf left) (map-append (at_numbers all) first.front (first.rest ∷ first.back))
            (made_whole all left (suc k) (first.front ++ first.rest ∷ first.back) next.1
            (still_ascend k first.front first.back first.rest (subst AllAscend first.is ascend))
            (λ h. let w = whole h in omega (arith, taken h k deal first.front first.back first.rest first.is))),
      )
    ]

-- ---- some of the jobs were run

-- each share is of the jobs of its numbers
abbrev AreOf : List DetectJob → List (List ℕ) → List (List Ran) → Type 0
AreOf jobs deal shares = AllZip (λ numbers share. map (λ (ran : Ran). ran.job) share ≡ at_numbers jobs numbers)
    deal shares

-- the share of the list that k stands first in
record HasShare (jobs : List DetectJob) (front : List (List ℕ)) (rest : List ℕ) (back : List (List ℕ))
    (job : DetectJob) (shares : List (List Ran)) : Type 0 where
  before : List (List Ran)
  ran : Ran
  own : List Ran
  behind : List (List Ran)
  is : shares ≡ before ++ (ran ∷ own) ∷ behind
  first : ran.job ≡ job
  others : AreOf jobs (front ++ rest ∷ back) (before ++ own ∷ behind)

share_of : (jobs : List DetectJob) (k : ℕ) (job : DetectJob) (front back : List (List ℕ)) (rest : List ℕ)
    (shares : List (List Ran)) → slice_get jobs k ≡ Some job
    → AreOf jobs (front ++ (k ∷ rest) ∷ back) shares → HasShare jobs front rest back job shares
share_of jobs k job [] back rest [] at of = absurd of
share_of jobs k job [] back rest (share ∷ shares) at of = own share
    (of.0 ∙ ap (λ o. cons_option o (at_numbers jobs rest)) at)
  where
    own : (s : List Ran) → map (λ (ran : Ran). ran.job) s ≡ job ∷ at_numbers jobs rest
        → HasShare jobs [] rest back job (s ∷ shares)
    own [] e = absurd (cc)
    own (ran ∷ s) e = record {
      before = [];
      ran = ran;
      own = s;
      behind = shares;
      is = refl;
      first = (let h : ran.job ∷ map (λ (r : Ran). r.job) s ≡ job ∷ at_numbers jobs rest = e in cc);
      others = ((let h : ran.job ∷ map (λ (r : Ran). r.job) s ≡ job ∷ at_numbers jobs rest = e in cc), of.1);
    }
share_of jobs k job (numbers ∷ front) back rest [] at of = absurd of
share_of jobs k job (numbers ∷ front) back rest (share ∷ shares) at of =
    let r = share_of jobs k job front back rest shares at of.1 in
    record {
      before = share ∷ r.before;
      ran = r.ran;
      own = r.own;
      behind = r.behind;
      is = ap (λ l. share ∷ l) r.is;
      first = r.first;
      others = (of.0, r.others);
    }

-- the rows of these shares, in the order of their jobs
record MadeSome (left : List DetectJob) (shares : List (List Ran)) : Type 0 where
  rans : List Ran
  made : IsMadeOf rans shares
  some : AreSome (map (λ (ran : Ran). ran.job) rans) left

no_rows : (jobs : List DetectJob) (k : ℕ) (deal : List (List ℕ)) (shares : List (List Ran)) → AreFrom jobs k []
    → IsFrom k deal → AreOf jobs deal shares → AllByRecursion (λ (share : List Ran). share ≡ []) shares
no_rows jobs k [] [] are low of = tt
no_rows jobs k [] (share ∷ shares) are low of = absurd of
no_rows jobs k (numbers ∷ deal) [] are low of = absurd of
no_rows jobs k (numbers ∷ deal) (share ∷ shares) are low of = (
  empty share (of.0 ∙ past_numbers jobs k numbers are (λ x lt. let l = low x lt in omega arith)),
  no_rows jobs k deal shares are (λ x lt. let l = low x lt in omega arith) of.1,
)
  where
    empty : (s : List Ran) → map (λ (ran : Ran). ran.job) s ≡ [] → s ≡ []
    empty [] e = refl
    empty (ran ∷ s) e = absurd (cc)

later_some : (job : DetectJob) (some jobs : List DetectJob) → AreSome some jobs → AreSome some (job ∷ jobs)
later_some job [] jobs a = tt
later_some job (x ∷ some) jobs a = inr a

made_some : (jobs left : List DetectJob) (k : ℕ) (deal : List (List ℕ)) (shares : List (List Ran))
    → AreFrom jobs k left → AllAscend deal → IsFrom k deal → NoneTwice deal → AreOf jobs deal shares
    → MadeSome left shares
made_some jobs [] k deal shares are ascend low once of = record
    { rans = []; made = no_rows jobs k deal shares are low of; some = tt }
made_some jobs (job ∷ left) k deal shares are ascend low once of =
    let next = next_from jobs k job left are in
    elim (first_of_deal k deal ascend low) [
      | inl none ↦
          let r = made_some jobs left (suc k) deal shares next.1 ascend
          (λ x lt. dite (dec_lt x k) (λ l. low x l) (λ g. let e : k ≡ x = omega arith
          in subst (λ y. deal_weighs (same y) deal ≡ 0) e none)) once of in
          record {
            rans = r.rans;
            made = r.made;
            some = later_some job
                (map (λ (ran : Ran). ran.job) r.rans) left r.some;
          }
      | inr first ↦
          let s = share_of jobs k job first.front first.back first.rest shares next.0
          (subst (λ d. AreOf jobs d shares) first.is of) in
          let fewer = λ (x : ℕ). taken (same x) k deal first.front first.back first.rest first.is in
          let r = made_some jobs left (suc k) (first.front ++ first.rest ∷ first.back)
          (s.before ++ s.own ∷ s.behind) next.1
          (still_ascend k first.front first.back first.rest (subst AllAscend first.is ascend))
          (λ x lt. dite (dec_lt x k)
          (λ l. let z = low x l in let f = fewer x in omega arith)
          (λ g. let e : k ≡ x = omega arith in let o = once k in let f = fewer k in let me = same-self k in
          subst (λ y. deal_weighs (same y) (first.front ++ first.rest ∷ first.back) ≡ 0) e (omega arith)))
          (λ x. let o = once x in let f = fewer x in omega arith)
          s.others in
          record {
            rans = s.ran ∷ r.rans;
            made = (s.before, s.own, s.behind, s.is, r.made);
            some = inl
                (s.first, r.some);
          }
    ]

-- ---- all spawners, of which the first took part

-- each spawner ran its share besides
abbrev Grew : {S : Type 0} → (S → List Ran) → List (List Ran) → List S → List S → Type 0
Grew runs [] [] [] = Unit {0}
Grew runs (share ∷ shares) (old ∷ olds) (new ∷ news) = (runs new ≡ runs old ++ share) × Grew runs shares olds news
Grew runs _ _ _ = ⊥

abbrev idle : {S : Type 0} → List S → List (List Ran)
idle [] = []
idle (spawner ∷ spawners) = [] ∷ idle spawners

abbrev AllEmpty : List (List Ran) → Type 0
AllEmpty shares = AllByRecursion (λ (share : List Ran). share ≡ []) shares

idle_empty : {S : Type 0} (spawners : List S) → AllEmpty (idle spawners)
idle_empty [] = tt
idle_empty (spawner ∷ spawners) = (refl, idle_empty spawners)

both_empty : (xs ys : List (List Ran)) → AllEmpty xs → AllEmpty ys → AllEmpty (xs ++ ys)
both_empty [] ys a b = b
both_empty (x ∷ xs) ys a b = (a.0, both_empty xs ys a.1 b)

-- spawners that ran nothing add nothing
idle_made : {S : Type 0} (rans : List Ran) (shares : List (List Ran)) (spawners : List S) → IsMadeOf rans shares
    → IsMadeOf rans (shares ++ idle spawners)
idle_made [] shares spawners none = both_empty shares (idle spawners) none (idle_empty spawners)
idle_made (ran ∷ rans) shares spawners (front, rest, back, is, made) = (
  front,
  rest,
  back ++ idle spawners,
  ap (λ l. l ++ idle spawners) is ∙ append_assoc front ((ran ∷ rest) ∷ back) (idle spawners),
  subst (IsMadeOf rans) (append_assoc front (rest ∷ back) (idle spawners))
      (idle_made rans (front ++ rest ∷ back) spawners made),
)

-- the shares of a deal of which some jobs were run
record JobShares {S : Type 0} (runs : S → List Ran) (jobs : List DetectJob) (olds news : List S)
    (deal : List (List ℕ)) : Type 0 where
  shares : List (List Ran)
  grew : Grew runs shares olds news
  of : AreOf jobs deal shares
  ascend : AllAscend deal

module _ {S : Type 0} (runs : S → List Ran) where
  idle_grew : (spawners : List S) → Grew runs (idle spawners) spawners spawners
  idle_grew [] = tt
  idle_grew (s ∷ spawners) = (sym (append-nil (runs s)), idle_grew spawners)

  all_grew : (used : ℕ) (shares : List (List Ran)) (olds news : List S) → drop used news ≡ drop used olds
      → Grew runs shares (take used olds) (take used news) → Grew runs (shares ++ idle (drop used olds)) olds news
  all_grew zero [] olds news same g = subst (λ (l : List S). Grew runs (idle olds) olds l) (sym same) (idle_grew olds)
  all_grew zero (share ∷ shares) olds news same g = absurd g
  all_grew (suc used) [] [] [] same g = tt
  all_grew (suc used) (share ∷ shares) (old ∷ olds) (new ∷ news) same g = (g.0, all_grew used shares olds news same g.1)
  all_grew (suc used) _ _ _ same g = absurd g

  shares_grew : (rows : List Ran) (olds news : List S) (deal : List (List ℕ)) → Shares runs rows olds news deal
      → Grew runs (map (at_numbers rows) deal) olds news × AllAscend deal
  shares_grew rows [] [] [] s = (tt, tt)
  shares_grew rows (old ∷ olds) (new ∷ news) (numbers ∷ deal) s = let r = shares_grew rows olds news deal s.2
      in ((s.0, r.0), (s.1, r.1))
  shares_grew rows _ _ _ s = absurd s

  job_shares : (jobs : List DetectJob) (olds news : List S) (deal : List (List ℕ))
      → SharesJobs runs jobs olds news deal → JobShares runs jobs olds news deal
  job_shares jobs [] [] [] s = record { shares = []; grew = tt; of = tt; ascend = tt }
  job_shares jobs (old ∷ olds) (new ∷ news) (numbers ∷ deal) s =
      let r = job_shares jobs olds news deal s.2 in
      record {
        shares = s.0.more ∷ r.shares;
        grew = (s.0.grown, r.grew);
        of = (s.0.ran, r.of);
        ascend =
            (s.1, r.ascend);
      }
  job_shares jobs _ _ _ s = absurd s

-- ---- as contracts see spawners

module _ {S : Type 0} (see : S → SpawnerSeen) where
  abbrev runs_in : S → List Ran
  runs_in s = (see s).runs

  abbrev says_in : S → Option (List Reply)
  says_in s = (see s).says

  share_ran : (share : List Ran) (old new : S) → runs_in new ≡ runs_in old ++ share → says_in new ≡ says_in old
      → RanAsSaid runs_in says_in old new → RunsMore share (see old) (see new)
  share_ran share old new grew same said =
      let is : said.more ≡ share =
      sym (ap (drop (length (runs_in old))) said.grown ∙ drop-append_seam (runs_in old) said.more)
      ∙ (ap (drop (length (runs_in old))) grew ∙ drop-append_seam (runs_in old) share) in
      record {
        runs = grew;
        says = same;
        said = subst
            (λ (l : List Ran). AllByRecursion (λ row. IsSaid (says_in old) row.job row.probed) l) is said.said;
      }

  shares_ran : (shares : List (List Ran)) (olds news : List S) → Grew runs_in shares olds news
      → map says_in news ≡ map says_in olds → AllZip (RanAsSaid runs_in says_in) olds news
      → RunShares shares (map see olds) (map see news)
  shares_ran [] [] [] g same said = tt
  shares_ran (share ∷ shares) (old ∷ olds) (new ∷ news) g same said =
      let h : says_in new ∷ map says_in news ≡ says_in old ∷ map says_in olds = same in
      let first : says_in new ≡ says_in old = cc in
      let others : map says_in news ≡ map says_in olds = cc in
      (share_ran share old new g.0 first said.0, shares_ran shares olds news g.1 others said.1)
  shares_ran _ _ _ g same said = absurd g

  module _ (used : ℕ) (olds news : List S) (rest : drop used news ≡ drop used olds)
      (same : map says_in news ≡ map says_in olds) (said : AllZip (RanAsSaid runs_in says_in) olds news) where
    made_by : (rans : List Ran) (shares : List (List Ran)) → IsMadeOf rans shares
        → Grew runs_in shares (take used olds) (take used news) → AskedBy rans (map see olds) (map see news)
    made_by rans shares made g = record {
      shares = shares ++ idle (drop used olds);
      made = idle_made rans shares (drop used olds) made;
      ran = shares_ran (shares ++ idle (drop used olds)) olds news
          (all_grew runs_in used shares olds news rest g) same said;
    }

    -- all jobs were run
    pub asked_all : (jobs : List DetectJob) (answers : List Probed) → length answers ≡ length jobs
        → RanAll runs_in jobs answers (take used olds) (take used news)
        → AskedBy (recorded jobs answers) (map see olds) (map see news)
    asked_all jobs answers long ran =
        let rows = recorded jobs answers in
        let s = shares_grew runs_in rows (take used olds) (take used news) ran.deal ran.shares in
        let count : length rows ≡ length jobs = rows_long jobs answers long in
        made_by rows (map (at_numbers rows) ran.deal)
        (made_whole rows rows 0 ran.deal (all_from rows) s.1
        (λ h. ran.whole h ∙ (sym (from-upto h (length jobs)) ∙ ap (λ n. weigh h (from 0 n)) (sym count)))) s.0
      where
        rows_long : (js : List DetectJob) (ps : List Probed) → length ps ≡ length js
            → length (recorded js ps) ≡ length js
        rows_long [] ps e = refl
        rows_long (j ∷ js) [] e = absurd (omega arith)
        rows_long (j ∷ js) (p ∷ ps) e = omega (arith, rows_long js ps (omega arith))

    -- some of the jobs were run
    pub asked_some : (jobs : List DetectJob) → RanSome runs_in jobs (take used olds) (take used news)
        → RunsSome jobs (map see olds) (map see news)
    asked_some jobs ran =
        let s = job_shares runs_in jobs (take used olds) (take used news) ran.deal ran.shares in
        let m = made_some jobs jobs 0 ran.deal s.shares (all_from jobs) s.ascend
        (λ x lt. absurd (omega arith)) ran.once s.of in
        record { answers = m.rans; asked = made_by m.rans s.shares m.made s.grew; some = m.some }

-- nobody was asked
pub asked_nobody : (jobs : List DetectJob) (answers : List Probed) (spawners : List SpawnerSeen) → length jobs ≡ 0
    → AskedBy (recorded jobs answers) spawners spawners
asked_nobody [] answers spawners none = asked_none spawners
asked_nobody (job ∷ jobs) answers spawners none = absurd (omega arith)

pub ran_nobody : (jobs : List DetectJob) (spawners : List SpawnerSeen) → RunsSome jobs spawners spawners
ran_nobody jobs spawners = record { answers = []; asked = asked_none spawners; some = tt }

pub both_ok : {A E : Type 0} (P Q R : A → Type 0) (r : Result A E) → IfOk r P → IfOk r Q
    → ((value : A) → P value → Q value → R value) → IfOk r R
both_ok P Q R (Ok value) p q f = f value p q
both_ok P Q R (Err fault) p q f = tt

pub err_so : {A E : Type 0} (P Q : Type 0) (r : Result A E) → OnErr r P → (P → Q) → OnErr r Q
err_so P Q (Ok value) p f = tt
err_so P Q (Err fault) p f = f p
