-- What workers did together, once one pass has all spawners again.
use Rattle.std.proofs.Common.{◌≡◌, ℕ, zero, suc, ◌+◌, ◌≤◌, cond, List, [], ◌∷◌, ◌++◌, length, map, take, refl, sym, ap}
use Rattle.std.proofs.Common.{◌∙◌, subst, arith, lt-ltb, le-ltb, length-append}
use Rattle.std.specs.Prelude.{Option, Some, None, Result, Ok, Err, OnErr, slice_get}
use Rattle.std.specs.List.{AllByRecursion, AllZip, cons_option}
use Rattle.std.specs.Option.{option_map}
use Rattle.std.proofs.lemmas.List.{append-nil, map-append}
use Rattle.std.proofs.Math.Seq.{take-append_seam}
use mathlib.Core.Logic.{dite}
use native.Mathlib.Decide.{dec_le, dec_lt}
use Rattle.cnb_world.specs.Runs.{Ran}
use Rattle.cnb_world.specs.declared.child.DetectJob.{DetectJob}
use Rattle.cnb_world.specs.declared.child.Probed.{Probed}
use Rattle.cnb_world.specs.declared.child.Reply.{Reply}
use Rattle.ticket_pool.specs.Counts.{CountsPool}
use Rattle.ticket_pool.specs.Deal.{recorded, at_numbers, IsDealOf, NoneTwice, Shares, SharesJobs, RanAll, RanSome}
use Rattle.ticket_pool.specs.Numbers.{weigh, same, late_of, upto, IsAscending}
use Rattle.ticket_pool.specs.Placing.{HasAllAnswers, HasAnswers}
use Rattle.ticket_pool.specs.Said.{RanAsSaid}
use Rattle.ticket_pool.specs.TicketRule.{IsWhole}
use Rattle.ticket_pool.specs.Work.{numbers, rows, on_jobs, AllDealt, DrewAll, RanLists, Worked}
use Rattle.ticket_pool.specs.declared.answer.Answer.{Answer}
use Rattle.ticket_pool.specs.declared.fault.PoolFault.{PoolFault}
use Rattle.ticket_pool.specs.declared.rule.View.{View}
use Rattle.ticket_pool.proofs.CountLemmas.{counts_beside}
use Rattle.ticket_pool.proofs.ListLemmas.{zip-append, zip_self}
use Rattle.ticket_pool.proofs.NumberLemmas.{weigh-snoc, same-upto-high, same-upto-le, late-upto, below_from}
use Rattle.ticket_pool.proofs.NumberLemmas.{ascending-once}
use Rattle.ticket_pool.proofs.ReplayLemmas.{deal_is_round}
use Rattle.ticket_pool.proofs.WorkLemmas.{weigh-on_jobs}

on_jobs-le : (jobs : ℕ) (h : ℕ → ℕ) (x : ℕ) → on_jobs jobs h x ≤ h x
on_jobs-le jobs h x = dite (dec_lt x jobs)
    (λ lt. let e : on_jobs jobs h x ≡ h x = ap (λ t. cond t (h x) 0) (lt-ltb x jobs lt) in omega arith)
    (λ ge. let e : on_jobs jobs h x ≡ 0 = ap (λ t. cond t (h x) 0) (le-ltb x jobs (omega arith)) in omega arith)

weigh-on_jobs-le : (jobs : ℕ) (h : ℕ → ℕ) (xs : List ℕ) → weigh (on_jobs jobs h) xs ≤ weigh h xs
weigh-on_jobs-le jobs h [] = omega arith
weigh-on_jobs-le jobs h (x ∷ xs) = let r = weigh-on_jobs-le jobs h xs in let l = on_jobs-le jobs h x in omega arith

-- of the numbers below m, those of jobs are the numbers below jobs
on-upto : (jobs : ℕ) (h : ℕ → ℕ) (m : ℕ) → jobs ≤ m → weigh (on_jobs jobs h) (upto m) ≡ weigh h (upto jobs)
on-upto jobs h zero le = let z : jobs ≡ 0 = omega arith
    in subst (λ j. weigh (on_jobs j h) (upto zero) ≡ weigh h (upto j)) (sym z) refl
on-upto jobs h (suc m) le = dite (dec_le jobs m)
    (λ l. let r = on-upto jobs h m l in let e : on_jobs jobs h m ≡ 0 = ap (λ t. cond t (h m) 0) (le-ltb m jobs l)
    in omega (arith, weigh-snoc (on_jobs jobs h) (upto m) m))
    (λ g. let e : jobs ≡ suc m = omega arith in
    subst (λ k. weigh (on_jobs jobs h) (upto k) ≡ weigh h (upto jobs)) e
    (weigh-on_jobs jobs h (upto jobs) (below_from jobs (upto jobs) (λ x l. same-upto-high x jobs l))))

-- what has all spawners has drawn the numbers below the jobs and the spawners together
pub drawn_is : (jobs workers : ℕ) (lists : List (List Answer)) (pass : View) → pass.spawners ≡ workers
    → IsWhole workers pass → 1 ≤ workers → DrewAll jobs workers lists pass
    → pass.drawn ≡ upto (jobs + workers)
drawn_is jobs workers lists pass all whole some d =
    let e : pass.drawn ≡ upto (length pass.drawn) = whole all in
    let late : late_of jobs (upto (length pass.drawn)) ≡ workers = ap (late_of jobs) (sym e) ∙ d.late_numbers in
    let m : length pass.drawn ≡ jobs + workers = omega (arith, late-upto jobs (length pass.drawn)) in e ∙ ap upto m

pub once_of : (jobs workers : ℕ) (lists : List (List Answer)) (pass : View) (m : ℕ) → pass.drawn ≡ upto m
    → DrewAll jobs workers lists pass → NoneTwice (map numbers lists)
once_of jobs workers lists pass m is d x =
    let e = d.listed (same x) in
    let f : weigh (on_jobs jobs (same x)) pass.drawn ≡ weigh (on_jobs jobs (same x)) (upto m) = ap
    (weigh (on_jobs jobs (same x))) is in
    let l = weigh-on_jobs-le jobs (same x) (upto m) in let o = same-upto-le x m in omega arith

deal_of : (jobs workers : ℕ) (lists : List (List Answer)) (pass : View) → pass.drawn ≡ upto (jobs + workers)
    → DrewAll jobs workers lists pass → IsDealOf jobs (map numbers lists)
deal_of jobs workers lists pass is d h = d.listed h ∙ ap (weigh (on_jobs jobs h)) is
    ∙ on-upto jobs h (jobs + workers) (omega arith)

-- the row of a job's number, where its answer is there
recorded-at : (jobs : List DetectJob) (answers : List Probed) (n : ℕ) (probed : Probed)
    → slice_get answers n ≡ Some probed
    → slice_get (recorded jobs answers) n ≡ option_map (λ job. record { job = job; probed = probed }) (slice_get jobs n)
recorded-at [] answers n probed e = refl
recorded-at (job ∷ jobs) [] n probed e = absurd (cc)
recorded-at (job ∷ jobs) (p ∷ answers) zero probed e = let same_probed : p ≡ probed = cc
    in ap (λ q. Some (record { job = job; probed = q })) same_probed
recorded-at (job ∷ jobs) (p ∷ answers) (suc n) probed e = recorded-at jobs answers n probed e

rows-recorded : (jobs : List DetectJob) (answers : List Probed) (list : List Answer) → HasAnswers answers list
    → rows jobs list ≡ at_numbers (recorded jobs answers) (numbers list)
rows-recorded jobs answers [] has = refl
rows-recorded jobs answers (a ∷ list) has = λ i. cons_option
    (sym (recorded-at jobs answers a.number a.probed has.0) i) (rows-recorded jobs answers list has.1 i)

-- the jobs of the runs of a list are those of its numbers
jobs-rows : (jobs : List DetectJob) (list : List Answer)
    → map (λ row. row.job) (rows jobs list) ≡ at_numbers jobs (numbers list)
jobs-rows jobs [] = refl
jobs-rows jobs (a ∷ list) = one (slice_get jobs a.number) (jobs-rows jobs list)
  where
    one : (o : Option DetectJob) → map (λ row. row.job) (rows jobs list) ≡ at_numbers jobs (numbers list)
        → map (λ row. row.job) (cons_option (option_map (λ job. record { job = job; probed = a.probed }) o)
        (rows jobs list)) ≡ cons_option o (at_numbers jobs (numbers list))
    one None rest = rest
    one (Some job) rest = ap (λ l. job ∷ l) rest

module _ {S : Type 0} (runs : S → List Ran) (jobs : List DetectJob) where
  pub dealt_of : (os ns : List S) (ls : List (List Answer)) → RanLists runs jobs os ns ls → AllDealt (length jobs) ls
  dealt_of [] [] [] r = tt
  dealt_of [] [] (l ∷ ls) r = absurd r
  dealt_of [] (n ∷ ns) ls r = absurd r
  dealt_of (o ∷ os) [] ls r = absurd r
  dealt_of (o ∷ os) (n ∷ ns) [] r = absurd r
  dealt_of (o ∷ os) (n ∷ ns) (l ∷ ls) r = (r.1, dealt_of os ns ls r.2)

  shares_of : (answers : List Probed) (os ns : List S) (ls : List (List Answer)) → RanLists runs jobs os ns ls
      → HasAllAnswers answers ls
      → Shares runs (recorded jobs answers) os ns (map numbers ls)
  shares_of answers [] [] [] r a = tt
  shares_of answers [] [] (l ∷ ls) r a = absurd r
  shares_of answers [] (n ∷ ns) ls r a = absurd r
  shares_of answers (o ∷ os) [] ls r a = absurd r
  shares_of answers (o ∷ os) (n ∷ ns) [] r a = absurd r
  shares_of answers (o ∷ os) (n ∷ ns) (l ∷ ls) r a = (
    r.0 ∙ ap (λ xs. runs o ++ xs) (rows-recorded jobs answers l a.0),
    r.1.0,
    shares_of answers os ns ls r.2
        a.1,
  )

  shares_jobs_of : (os ns : List S) (ls : List (List Answer)) → RanLists runs jobs os ns ls
      → SharesJobs runs jobs os ns (map numbers ls)
  shares_jobs_of [] [] [] r = tt
  shares_jobs_of [] [] (l ∷ ls) r = absurd r
  shares_jobs_of [] (n ∷ ns) ls r = absurd r
  shares_jobs_of (o ∷ os) [] ls r = absurd r
  shares_jobs_of (o ∷ os) (n ∷ ns) [] r = absurd r
  shares_jobs_of (o ∷ os) (n ∷ ns) (l ∷ ls) r =
      (record { more = rows jobs l; grown = r.0; ran = jobs-rows jobs l }, r.1.0, shares_jobs_of os ns ls r.2)

  ascending_of : (ls : List (List Answer)) → AllDealt (length jobs) ls → AllByRecursion IsAscending (map numbers ls)
  ascending_of [] d = tt
  ascending_of (l ∷ ls) d = (d.0.0, ascending_of ls d.1)

  pub ran_all : (answers : List Probed) (workers : ℕ) (os ns : List S) (ls : List (List Answer)) (pass : View)
      → length answers ≡ length jobs → RanLists runs jobs os ns ls
      → HasAllAnswers answers ls → pass.drawn ≡ upto (length jobs + workers)
      → DrewAll (length jobs) workers ls pass → RanAll runs jobs answers os ns
  ran_all answers workers os ns ls pass len ran has drawn all =
      let whole = deal_of (length jobs) workers ls pass drawn all in
      record {
        deal = map numbers ls;
        shares = shares_of answers os ns ls ran has;
        whole = whole;
        round = deal_is_round (length jobs) (map numbers ls) answers len
            (ascending_of ls (dealt_of os ns ls ran)) whole;
      }

  -- spawners that did nothing
  none_ran : (os : List S) → SharesJobs runs jobs os os (map (λ _. []) os)
  none_ran [] = tt
  none_ran (o ∷ os) = (record { more = []; grown = sym (append-nil (runs o)); ran = refl }, tt, none_ran os)

  none_twice : (os : List S) → NoneTwice (map (λ _. []) os)
  none_twice [] x = omega arith
  none_twice (o ∷ os) x = let r = none_twice os x in omega arith

  pub idle : (os : List S) → RanSome runs jobs os os
  idle os = record { deal = map (λ _. []) os; shares = none_ran os; once = none_twice os }

module _ {S : Type 0} (runs : S → List Ran) (says : S → Option (List Reply)) where
  unsaid : (o : S) → RanAsSaid runs says o o
  unsaid o = record { more = []; grown = sym (append-nil (runs o)); said = tt }

  pub idle_said : (os : List S) → AllZip (RanAsSaid runs says) os os
  idle_said os = zip_self (RanAsSaid runs says) unsaid os

  -- whatever came of it, no job ran twice
  pub ran_some : (faults : S → ℕ) (jobs : List DetectJob) (all : ℕ) (os ns : List S) (ls : List (List Answer))
      (pass : View) (end : Result (Unit {0}) PoolFault)
      → Worked runs says faults jobs all os ns ls pass end → RanSome runs jobs os ns
  ran_some faults jobs all os ns ls pass end w = record {
    deal = map numbers ls;
    shares = shares_jobs_of runs jobs os ns ls w.ran;
    once = λ x. let le = w.listed (same x) in let m = weigh-on_jobs-le (length jobs) (same x) pass.drawn
        in let o = ascending-once pass.drawn w.ascending x in omega arith;
  }

-- a slice that was lent whole
pub take_all : {A : Type 0} (xs rest : List A) (n : ℕ) → n ≡ length xs → take n (xs ++ rest) ≡ xs
take_all xs rest n e = subst (λ k. take k (xs ++ rest) ≡ xs) (sym e) (take-append_seam xs rest)

pub on_err : {T E P : Type 0} (end : Result T E) → P → OnErr end P
on_err (Ok value) p = tt
on_err (Err fault) p = p

-- spawners of which the first were lent: those that came back, and the others as they were
module _ {S : Type 0} (olds os ns rest : List S) (cut : olds ≡ os ++ rest) where
  pub lent_first : (more : List S) (n : ℕ) → n ≡ length olds → length ns ≡ length os
      → take n ((ns ++ rest) ++ more) ≡ ns ++ rest
  lent_first more n is len = take_all (ns ++ rest) more n
      (let e : length olds ≡ length (os ++ rest) = ap length cut
      in omega (arith, length-append os rest, length-append ns rest))

  pub said_beside : (runs : S → List Ran) (says : S → Option (List Reply)) (news : List S) → news ≡ ns ++ rest
      → AllZip (RanAsSaid runs says) os ns → AllZip (RanAsSaid runs says) olds news
  said_beside runs says news is said =
      subst (λ (p : List S × List S). AllZip (RanAsSaid runs says) p.0 p.1) (λ i. (sym cut i, sym is i))
      (zip-append (RanAsSaid runs says) os rest ns rest said (idle_said runs says rest))

  pub counts_beside_others : {T : Type 0} (faults : S → ℕ) (end : Result T PoolFault) (news : List S)
      → news ≡ ns ++ rest → CountsPool end (map faults os) (map faults ns)
      → CountsPool end (map faults olds) (map faults news)
  counts_beside_others faults end news is counts =
      subst (λ (p : List ℕ × List ℕ). CountsPool end p.0 p.1)
      (λ i. (
        sym (ap (map faults) cut ∙ map-append faults os rest) i,
        sym
            (ap (map faults) is ∙ map-append faults ns rest) i,
      ))
      (counts_beside end (map faults os) (map faults ns) (map faults rest) counts)
