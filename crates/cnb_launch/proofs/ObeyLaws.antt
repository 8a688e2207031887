-- What each call of a launch on the outside keeps to, launches keep to.
use Rattle.std.proofs.Common.{ℕ, Bool, List, Result}
use Rattle.cnb_world.specs.Tree.{Tree}
use Rattle.cnb_world.specs.declared.child.ChildJob.{ChildJob}
use Rattle.cnb_world.specs.declared.env.Variable.{Variable}
use Rattle.cnb_words.specs.declared.launch.Call.{Call}
use Rattle.cnb_words.specs.declared.launch.LaunchWords.{LaunchWords}
use Rattle.doc_files.specs.Faults.{read_cause}
use Rattle.doc_files.specs.declared.fault.ReadFault.{ReadFault}
use Rattle.image_docs.specs.declared.launch_doc.LaunchDoc.{LaunchDoc}
use Rattle.steps.specs.Outside.{Seen}
use Rattle.steps.specs.Steps.{map_err, reads, runs_child}
use Rattle.steps.proofs.EndLaws.{Links, Obeys, Relation, Rests, obeys_bind, obeys_each, obeys_gives, obeys_yields}
use Rattle.cnb_launch.specs.Commands.{launches_command}
use Rattle.cnb_launch.specs.Exec.{runs_all, runs_exec, runs_execs}
use Rattle.cnb_launch.specs.Faults.{cause_of, of_read_fault}
use Rattle.cnb_launch.specs.Planning.{launches, plans, prepares, prepares_in, prepares_of}
use Rattle.cnb_launch.specs.declared.choosing.ChosenProcess.{ChosenProcess}

module _ (R : Relation Seen) (links : Links R) (rests : Rests R)
    (read : (A : Type 0) (Among : List ℕ → Type 0) (fits : Tree → Bool) (want : Tree → Result A ReadFault)
    → Obeys R cause_of (map_err of_read_fault (reads read_cause Among fits want)))
    (run : (job : ChildJob) → Obeys R cause_of (runs_child cause_of job)) where
  exec_obeys : (dir program : List ℕ) (env : List Variable) → Obeys R cause_of (runs_exec dir program env)
  unfolding runs_exec
  exec_obeys dir program env = obeys_bind R cause_of _ _ links (run _) (λ end. obeys_gives R cause_of _ rests)

  all_obey : (dir : List ℕ) (lists : List (List (List ℕ))) (env : List Variable)
      → Obeys R cause_of (runs_all dir lists env)
  all_obey dir lists env = obeys_each R cause_of (runs_execs dir) links rests
      (λ programs so_far. obeys_each R cause_of (runs_exec dir) links rests (exec_obeys dir) programs so_far)
      lists env

  in_obeys : (root : List ℕ) (env : List Variable) (chosen : ChosenProcess) (sets : List (List (List ℕ)))
      → Obeys R cause_of (prepares_in root env chosen sets)
  unfolding prepares_in
  in_obeys root env chosen sets = obeys_bind R cause_of _ _ links (read _ _ _ _)
      (λ start. obeys_bind R cause_of _ _ links (read _ _ _ _) (λ execs. obeys_gives R cause_of _ rests))

  of_obeys : (root : List ℕ) (call : Call) (env : List Variable) (doc : LaunchDoc)
      → Obeys R cause_of (prepares_of root call env doc)
  unfolding prepares_of
  of_obeys root call env doc =
      obeys_bind R cause_of _ _ links (obeys_gives R cause_of _ rests)
      (λ chosen. obeys_bind R cause_of _ _ links (read _ _ _ _) (λ sets. in_obeys root env chosen sets))

  prepare_obeys : (root : List ℕ) (call : Call) (env : List Variable) → Obeys R cause_of (prepares root call env)
  unfolding prepares
  prepare_obeys root call env = obeys_bind R cause_of _ _ links (read _ _ _ _) (λ doc. of_obeys root call env doc)

  pub plan_obeys : (root : List ℕ) (call : Call) (env : List Variable) → Obeys R cause_of (plans root call env)
  unfolding plans
  plan_obeys root call env = obeys_bind R cause_of _ _ links (prepare_obeys root call env)
      (λ prepared. obeys_bind R cause_of _ _ links (all_obey _ _ _) (λ ready. obeys_yields R cause_of _ rests))

  pub launch_obeys : (root : List ℕ) (call : Call) (env : List Variable) → Obeys R cause_of (launches root call env)
  unfolding launches
  launch_obeys root call env = obeys_bind R cause_of _ _ links (plan_obeys root call env) (λ plan. run _)

  pub command_obeys : (options : LaunchWords) (env : List Variable) → Obeys R cause_of (launches_command options env)
  unfolding launches_command
  command_obeys options env = obeys_bind R cause_of _ _ links (launch_obeys options.root options.call env)
      (λ end. obeys_yields R cause_of _ rests)
