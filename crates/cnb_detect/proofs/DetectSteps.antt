-- What the calls of the layers below say, as steps.
use Rattle.std.proofs.Common.{◌≡◌, refl, sym, ap, ℕ, Bool, List, map, Option, Some, None, Result, Ok, Err, arith}
use Rattle.cnb_world.specs.Calls.{Rose}
use Rattle.cnb_world.specs.Runs.{Ran}
use Rattle.cnb_toml.specs.declared.names.Key.{Key}
use Rattle.order_expand.specs.Check.{cause_of as order_cause}
use Rattle.order_expand.specs.declared.member.Member.{Member}
use Rattle.order_expand.specs.declared.order.OrderFault.{OrderFault}
use Rattle.order_expand.specs.declared.order.OrderFault.TheVariants as order
use Rattle.detect_core.specs.Answer.{build_plan, says}
use Rattle.detect_core.specs.Detection.{Ending, FirstTrial, TooManyTrials, asked_keys, first_trial, has_erred}
use Rattle.detect_core.specs.Search.{DetectsAs, OnDetected, RunsAsked, end_cause}
use Rattle.detect_core.specs.declared.chosen.DetectEnd.{DetectEnd}
use Rattle.detect_core.specs.declared.chosen.DetectEnd.TheVariants as end
use Rattle.detect_core.specs.declared.chosen.Chosen.{Chosen}
use Rattle.detect_core.specs.declared.chosen.Verdict.{Verdict}
use Rattle.steps.specs.Asking.{AreSome, AskedBy, AsksBy, SpawnersBy, asks}
use Rattle.steps.specs.Causes.{Cause, FileFailed, ChildFailed, OutOfMemory, Decided, FilesBy, IsAnswer, WhereDecided}
use Rattle.steps.specs.Outside.{SpawnerSeen, faults_of}
use Rattle.steps.specs.Steps.{gives}
use Rattle.steps.proofs.StepLemmas.{given_fault}
use Rattle.cnb_detect.specs.declared.preparation.Prepared.{Prepared}
use Rattle.cnb_detect.specs.Choice.{as_choice, choice_by, choice_in, choice_of, jobs_of, listed_jobs}
use Rattle.cnb_detect.specs.declared.refusal.DetectRefusal.TheVariants.{NoGroup}
use Rattle.cnb_detect.specs.Refusals.{cause_of, of_detect_end}

-- an order that was refused
pub check_step : {S : Type 0} (fault : OrderFault) (want : Result ℕ OrderFault) (old : S)
    → IsAnswer {A = ℕ} order_cause (Err fault) want → gives order_cause want old (Err fault) old
check_step (order.Absent id) want old h = given_fault order_cause want old (order.Absent id) h tt
check_step (order.Ambiguous id) want old h = given_fault order_cause want old (order.Ambiguous id) h tt
check_step (order.Api id api) want old h = given_fault order_cause want old (order.Api id api) h tt
check_step (order.Deep id) want old h = given_fault order_cause want old (order.Deep id) h tt
check_step order.ManyGroups want old h = given_fault order_cause want old order.ManyGroups h tt
check_step order.LongGroup want old h = given_fault order_cause want old order.LongGroup h tt
check_step order.Memory want old h = given_fault order_cause want old order.Memory tt tt

-- a refusal of the children that were asked: no call on a file is made
asks_by : (cause : Cause) (Few P Q : Type 0) → ((n : ℕ) → FilesBy cause n n) → Few → WhereDecided cause P
    → WhereDecided cause Q → AsksBy cause Few (P × Q)
asks_by (FileFailed path) Few P Q quiet few p q = let rose : Rose 0 0 = quiet 0 in let up = rose.up
    in absurd (omega arith)
asks_by ChildFailed Few P Q quiet few p q = few
asks_by OutOfMemory Few P Q quiet few p q = few
asks_by Decided Few P Q quiet few p q = (p, q)

-- the choice of a detection that ended so
chosen_so : (chosen : Chosen) (ending : Option Ending) (asked : List Key) (erred : Bool)
    → DetectsAs (Ok chosen) ending asked erred → choice_by erred ending ≡ Ok (choice_in chosen)
chosen_so chosen (Some (FirstTrial place resolved kept)) asked erred h = λ i. Ok
    (record { group = sym h.group i; plan = sym h.plan i })
chosen_so chosen (Some (TooManyTrials place)) asked erred h = absurd h
chosen_so chosen None asked erred h = absurd h

refused_so : (end : DetectEnd) (ending : Option Ending) (asked : List Key) (erred : Bool)
    → DetectsAs (Err end) ending asked erred
    → WhereDecided (cause_of (of_detect_end end)) (choice_by erred ending ≡ Err (of_detect_end end))
refused_so end.ManyTrials (Some (TooManyTrials place)) asked erred h = refl
refused_so end.ManyTrials (Some (FirstTrial place resolved kept)) asked erred h = absurd h
refused_so end.ManyTrials None asked erred h = absurd h
refused_so (end.NoGroup told) None asked erred h = ap (λ e. Err (NoGroup e)) (sym h)
refused_so (end.NoGroup told) (Some ending) asked erred h = absurd h
refused_so end.Child ending asked erred h = tt
refused_so end.Memory ending asked erred h = tt

jobs_where : (end : DetectEnd) (P : Type 0) → OnDetected (Err end) P → WhereDecided (cause_of (of_detect_end end)) P
jobs_where end.ManyTrials P h = h
jobs_where (end.NoGroup erred) P h = h
jobs_where end.Child P h = tt
jobs_where end.Memory P h = tt

no_file : (end : DetectEnd) (n : ℕ) → FilesBy (cause_of (of_detect_end end)) n n
no_file end.ManyTrials n = refl
no_file (end.NoGroup erred) n = refl
no_file end.Child n = refl
no_file end.Memory n = omega arith

told_spawners : (end : DetectEnd) (before now : List ℕ) → SpawnersBy (end_cause end) before now
    → SpawnersBy (cause_of (of_detect_end end)) before now
told_spawners end.ManyTrials before now h = h
told_spawners (end.NoGroup erred) before now h = h
told_spawners end.Child before now h = h
told_spawners end.Memory before now h = h

-- children that were asked, and that decided or did not
module _ (prepared : Prepared) (old new : List SpawnerSeen) where
  abbrev said : List Ran → Member → Verdict
  said = says prepared.frame.target build_plan

  pub asked_chosen : (chosen : Chosen) → faults_of new ≡ faults_of old
      → RunsAsked prepared.frame prepared.catalog prepared.order old (Ok chosen) new
      → ((finished : List Ran) → AskedBy finished old new
      → DetectsAs (Ok chosen) (first_trial (said finished) prepared.catalog prepared.order)
      (asked_keys prepared.frame.target (said finished) prepared.catalog prepared.order)
      (has_erred prepared.frame.target (said finished) prepared.catalog prepared.order))
      → asks cause_of (listed_jobs prepared) (jobs_of prepared) (choice_of prepared) old (as_choice (Ok chosen)) new
  unfolding asks choice_of
  asked_chosen chosen counts r detects = record {
    answers = r.answers;
    asked = r.asked;
    meets = (r.exactly, chosen_so chosen _ _ _ (detects r.answers r.asked));
    counts = counts;
  }

  pub asked_refused : (end : DetectEnd) → SpawnersBy (end_cause end) (faults_of old) (faults_of new)
      → RunsAsked prepared.frame prepared.catalog prepared.order old (Err end) new
      → ((finished : List Ran) → AskedBy finished old new
      → DetectsAs (Err end) (first_trial (said finished) prepared.catalog prepared.order)
      (asked_keys prepared.frame.target (said finished) prepared.catalog prepared.order)
      (has_erred prepared.frame.target (said finished) prepared.catalog prepared.order))
      → asks cause_of (listed_jobs prepared) (jobs_of prepared) (choice_of prepared) old
      (as_choice (Err (of_detect_end end))) new
  unfolding asks choice_of
  asked_refused end counts r detects = record {
    answers = r.answers;
    asked = r.asked;
    meets = asks_by (cause_of (of_detect_end end))
        (AreSome (map (λ ran. ran.job) r.answers) (listed_jobs prepared))
        (map (λ ran. ran.job) r.answers ≡ jobs_of prepared r.answers)
        (choice_by (has_erred prepared.frame.target (said r.answers) prepared.catalog prepared.order)
        (first_trial (said r.answers) prepared.catalog prepared.order) ≡ Err (of_detect_end end))
        (no_file end) r.some
        (jobs_where end (map (λ ran. ran.job) r.answers ≡ jobs_of prepared r.answers) r.exactly)
        (refused_so end _ _ _ (detects r.answers r.asked));
    counts = told_spawners end (faults_of old) (faults_of new) counts;
  }
