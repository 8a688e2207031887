-- What one worker has so far, and what one more draw makes of it.
use Rattle.std.proofs.Common.{◌≡◌, ℕ, suc, ◌+◌, ◌<◌, ◌≤◌, cond, List, [], ◌∷◌, ◌++◌, length, refl, sym, ap, ◌∙◌, subst}
use Rattle.std.proofs.Common.{arith, lt-ltb, le-ltb, append_assoc}
use Rattle.std.specs.Prelude.{Option, Some, Result, Ok, Err, slice_get}
use Rattle.std.specs.List.{cons_option}
use Rattle.std.specs.Option.{option_map}
use Rattle.std.proofs.lemmas.List.{append-nil, map-append}
use Rattle.std.proofs.lemmas.List.Elements.{filter_map-append}
use Rattle.cnb_world.specs.Calls.{CountsDetect}
use Rattle.cnb_world.specs.Runs.{Ran, IsSaid}
use Rattle.cnb_world.specs.declared.child.DetectFault.{DetectFault}
use Rattle.cnb_world.specs.declared.child.DetectJob.{DetectJob}
use Rattle.cnb_world.specs.declared.child.Probed.{Probed}
use Rattle.cnb_world.specs.declared.child.Reply.{Reply}
use Rattle.ticket_pool.specs.Counts.{pool_fault}
use Rattle.ticket_pool.specs.Numbers.{weigh, late_one, late_of, AllBelow, IsAscending}
use Rattle.ticket_pool.specs.Said.{AllSaid}
use Rattle.ticket_pool.specs.TicketRule.{view, drew, IsDraw, IsWhole}
use Rattle.ticket_pool.specs.Work.{numbers, rows, on_jobs, IsDealt, Worked}
use Rattle.ticket_pool.specs.declared.answer.Answer.{Answer}
use Rattle.ticket_pool.specs.declared.fault.PoolFault.{PoolFault}
use Rattle.ticket_pool.specs.declared.rule.View.{View}
use Rattle.ticket_pool.proofs.CountLemmas.{counts_one}
use Rattle.ticket_pool.proofs.ListLemmas.{all-append}
use Rattle.ticket_pool.proofs.NumberLemmas.{weigh-snoc, ascending-snoc, late_one-late, late_one-job}

rows-snoc : (jobs : List DetectJob) (list : List Answer) (answer : Answer) (job : DetectJob)
    → slice_get jobs answer.number ≡ Some job
    → rows jobs (list ++ answer ∷ []) ≡ rows jobs list ++ record { job = job; probed = answer.probed } ∷ []
rows-snoc jobs list answer job e =
    filter_map-append _ list (answer ∷ [])
    ∙ ap (λ (o : Option DetectJob). rows jobs list ++ cons_option
    (option_map (λ j. record { job = j; probed = answer.probed }) o) []) e

dealt-snoc : (jobs : ℕ) (answer : Answer) (list : List Answer) → IsDealt jobs list
    → AllBelow answer.number (numbers list) → answer.number < jobs → IsDealt jobs (list ++ answer ∷ [])
dealt-snoc jobs answer list d below lt =
    subst (λ xs. IsAscending xs × AllBelow jobs xs) (sym (map-append (λ (a : Answer). a.number) list (answer ∷ []))) (
      ascending-snoc answer.number (numbers list) d.0 below,
      all-append (λ x. x < jobs) (numbers list)
          (answer.number ∷ []) d.1 (lt, tt),
    )

-- numbers that ascend from k on, below n, are at most n - k
short : (n k x : ℕ) (xs : List ℕ) → k ≤ x → IsAscending (x ∷ xs) → AllBelow n (x ∷ xs) → k + length (x ∷ xs) ≤ n
short n k x [] le a b = let lt = b.0 in omega arith
short n k x (y ∷ ys) le a b = let lt = a.0.0 in let r = short n (suc k) y ys (omega arith) a.1 b.1 in omega arith

length-numbers : (list : List Answer) → length (numbers list) ≡ length list
length-numbers [] = refl
length-numbers (answer ∷ list) = ap suc (length-numbers list)

pub dealt-length : (jobs : ℕ) (list : List Answer) → IsDealt jobs list → length list ≤ jobs
dealt-length jobs [] d = omega arith
dealt-length jobs (answer ∷ list) d = let r = short jobs 0 answer.number (numbers list) (omega arith) d.0 d.1
    in let e = length-numbers list in omega arith

pub weigh-on_jobs : (jobs : ℕ) (h : ℕ → ℕ) (xs : List ℕ) → AllBelow jobs xs → weigh (on_jobs jobs h) xs ≡ weigh h xs
weigh-on_jobs jobs h [] b = refl
weigh-on_jobs jobs h (x ∷ xs) b = let r = weigh-on_jobs jobs h xs b.1
    in let e : on_jobs jobs h x ≡ h x = ap (λ t. cond t (h x) 0) (lt-ltb x jobs b.0) in omega arith

late-none : (jobs : ℕ) (xs : List ℕ) → AllBelow jobs xs → weigh (late_one jobs) xs ≡ 0
late-none jobs [] b = refl
late-none jobs (x ∷ xs) b = let r = late-none jobs xs b.1 in let e = late_one-job jobs x b.0 in omega arith

-- a worker whose pass has drawn the numbers of its list, and no other
pub record Going {S : Type 0} (runs : S → List Ran) (says : S → Option (List Reply)) (faults : S → ℕ)
    (jobs : List DetectJob) (old new : S) (list : List Answer) (pass : View) : Type 0 where
  pub drew : pass ≡ view (numbers list) 1 0
  pub ran : runs new ≡ runs old ++ rows jobs list
  pub dealt : IsDealt (length jobs) list
  pub same_says : says new ≡ says old
  pub said : AllSaid (says old) (rows jobs list)
  pub same_faults : faults new ≡ faults old

module _ {S : Type 0} (runs : S → List Ran) (says : S → Option (List Reply)) (faults : S → ℕ)
    (jobs : List DetectJob) where
  pub begins : (old : S) (list : List Answer) (pass : View) → pass ≡ view [] 1 0 → list ≡ []
      → Going runs says faults jobs old old list pass
  begins old list pass e none = subst (λ (l : List Answer). Going runs says faults jobs old old l pass)
      (sym none) record {
        drew = e;
        ran = sym (append-nil (runs old));
        dealt = (tt, tt);
        same_says = refl;
        said = tt;
        same_faults = refl;
      }

  pub goes : (old mid new : S) (list : List Answer) (pass pass' : View) (answer : Answer) (job : DetectJob)
      → Going runs says faults jobs old mid list pass
      → answer.number < length jobs → IsDraw (length jobs) pass answer.number pass'
      → slice_get jobs answer.number ≡ Some job
      → runs new ≡ runs mid ++ record { job = job; probed = answer.probed } ∷ []
      → IsSaid (says mid) job answer.probed → says new ≡ says mid → faults new ≡ faults mid
      → Going runs says faults jobs old new (list ++ answer ∷ []) pass'
  goes old mid new list pass pass' answer job g lt d at ran said says_same faults_same =
      let more = rows-snoc jobs list answer job at in
      let late = late_one-job (length jobs) answer.number lt in
      let zero_late : 0 + late_one (length jobs) answer.number ≡ 0 = omega arith in
      record {
        drew = d.0 ∙ ap (λ (u : View). drew (length jobs) u answer.number) g.drew
            ∙ (λ i. view (sym (map-append (λ (a : Answer). a.number) list (answer ∷ [])) i) 1 (zero_late i));
        ran = ran ∙ ap (λ xs. xs ++ record { job = job; probed = answer.probed } ∷ []) g.ran
            ∙ append_assoc (runs old) (rows jobs list) (record { job = job; probed = answer.probed } ∷ [])
            ∙ ap (λ xs. runs old ++ xs) (sym more);
        dealt = dealt-snoc (length jobs) answer list g.dealt
            (subst (AllBelow answer.number) (ap (λ (u : View). u.drawn) g.drew) d.1) lt;
        same_says = says_same ∙ g.same_says;
        said = subst (AllSaid (says old)) (sym more)
            (all-append (λ row. IsSaid (says old) row.job row.probed) (rows jobs list)
            (record { job = job; probed = answer.probed } ∷ []) g.said
            (subst (λ r. IsSaid r job answer.probed) g.same_says said, tt));
        same_faults = faults_same ∙ g.same_faults;
      }

  -- the last draw, of a number that is no job's
  pub ends : (all : ℕ) (old new : S) (list : List Answer) (pass pass' : View) (n : ℕ)
      → Going runs says faults jobs old new list pass → length jobs ≤ n
      → IsDraw (length jobs) pass n pass' → IsAscending pass'.drawn → IsWhole all pass'
      → Worked runs says faults jobs all (old ∷ []) (new ∷ []) (list ∷ []) pass' (Ok tt)
  ends all old new list pass pass' n g le d ascending whole =
      let e : pass' ≡ view (numbers list ++ n ∷ []) 1 (0 + late_one (length jobs) n) = d.0
      ∙ ap (λ (u : View). drew (length jobs) u n) g.drew in
      let spawners : pass'.spawners ≡ 1 = ap (λ (u : View). u.spawners) e in
      let one = late_one-late (length jobs) n le in
      let late_is : pass'.late ≡ 0 + late_one (length jobs) n = ap (λ (u : View). u.late) e in
      let late : pass'.late ≡ 1 = omega arith in
      let late_numbers : late_of (length jobs) pass'.drawn ≡ 1 =
      let drawn : weigh (late_one (length jobs)) pass'.drawn ≡ weigh (late_one (length jobs))
      (numbers list ++ n ∷ []) = ap (λ (u : View). weigh (late_one (length jobs)) u.drawn) e in
      omega (
        arith,
        weigh-snoc (late_one (length jobs)) (numbers list) n,
        late-none (length jobs)
            (numbers list) g.dealt.1,
      ) in
      let listed : (h : ℕ → ℕ) → weigh h (numbers list) ≡ weigh (on_jobs (length jobs) h) pass'.drawn = λ h.
      let drawn : weigh (on_jobs (length jobs) h) pass'.drawn
      ≡ weigh (on_jobs (length jobs) h) (numbers list ++ n ∷ []) = ap
      (λ (u : View). weigh (on_jobs (length jobs) h) u.drawn) e in
      let none : on_jobs (length jobs) h n ≡ 0 = ap (λ t. cond t (h n) 0) (le-ltb n (length jobs) le) in
      omega (
        arith,
        weigh-snoc (on_jobs (length jobs) h) (numbers list) n,
        weigh-on_jobs (length jobs) h
            (numbers list) g.dealt.1,
      ) in
      record {
        ran = (g.ran, g.dealt, tt);
        spawners = spawners;
        late = omega arith;
        ascending = ascending;
        whole = whole;
        listed = λ h. let l = listed h in omega arith;
        drew = record { late = late; late_numbers = late_numbers; listed = λ h. let l = listed h in omega arith };
        same_says = ap (λ s. s ∷ []) g.same_says;
        said = (record { more = rows jobs list; grown = g.ran; said = g.said }, tt);
        counts = ap (λ k. k ∷ []) g.same_faults;
      }

  -- a draw whose child gave no answer
  pub fails : (all : ℕ) (old mid new : S) (list : List Answer) (pass pass' : View) (n : ℕ) (fault : DetectFault)
      (end : Result (Unit {0}) PoolFault) → Going runs says faults jobs old mid list pass
      → n < length jobs → IsDraw (length jobs) pass n pass' → IsAscending pass'.drawn → IsWhole all pass'
      → runs new ≡ runs mid → says new ≡ says mid
      → CountsDetect {T = Probed} (Err fault) (faults mid) (faults new) → end ≡ Err (pool_fault fault)
      → Worked runs says faults jobs all (old ∷ []) (new ∷ []) (list ∷ []) pass' end
  fails all old mid new list pass pass' n fault end g lt d ascending whole runs_same says_same counts is =
      let e : pass' ≡ view (numbers list ++ n ∷ []) 1 (0 + late_one (length jobs) n) = d.0
      ∙ ap (λ (u : View). drew (length jobs) u n) g.drew in
      let spawners : pass'.spawners ≡ 1 = ap (λ (u : View). u.spawners) e in
      let none = late_one-job (length jobs) n lt in
      let late_is : pass'.late ≡ 0 + late_one (length jobs) n = ap (λ (u : View). u.late) e in
      subst (λ (r : Result (Unit {0}) PoolFault). Worked runs says faults jobs all (old ∷ []) (new ∷ [])
      (list ∷ []) pass' r) (sym is) record {
        ran = (runs_same ∙ g.ran, g.dealt, tt);
        spawners = spawners;
        late = omega arith;
        ascending = ascending;
        whole = whole;
        listed = λ h.
            let drawn : weigh (on_jobs (length jobs) h) pass'.drawn
            ≡ weigh (on_jobs (length jobs) h) (numbers list ++ n ∷ []) = ap
            (λ (u : View). weigh (on_jobs (length jobs) h) u.drawn) e in
            omega (
              arith,
              weigh-snoc (on_jobs (length jobs) h) (numbers list) n,
              weigh-on_jobs (length jobs) h
                  (numbers list) g.dealt.1,
            );
        drew = tt;
        same_says = ap (λ s. s ∷ []) (says_same ∙ g.same_says);
        said = (record { more = rows jobs list; grown = runs_same ∙ g.ran; said = g.said }, tt);
        counts = counts_one fault (faults old) (faults mid) (faults new) g.same_faults counts;
      }
