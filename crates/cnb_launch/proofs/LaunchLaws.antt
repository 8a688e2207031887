-- What a launch leaves: all is as it was, but for what its children did.
use Rattle.std.proofs.Common.{refl, ℕ, List}
use Rattle.cnb_world.specs.declared.env.Variable.{Variable}
use Rattle.cnb_words.specs.declared.launch.Call.{Call}
use Rattle.steps.specs.Keeping.{Keeps}
use Rattle.steps.specs.Outside.{Seen}
use Rattle.steps.proofs.EndLaws.{Rests}
use Rattle.steps.proofs.KeepingLaws.{Preserves, keeps_reads, keeps_runs_child, keeps_same, keeps_then, keeps_told}
use Rattle.cnb_launch.specs.Planning.{launches, plans}
use Rattle.cnb_launch.proofs.ObeyLaws.{launch_obeys, plan_obeys}

keeps_rest : (path : List ℕ) → Rests {S = Seen} (λ last. Keeps path)
keeps_rest path =
    let same : (s : Seen) → Keeps path s s = λ s. keeps_same path s s refl refl in
    record { none = same; memory = same; decided = same }

pub plan_keeps : (path root : List ℕ) (call : Call) (env : List Variable) → Preserves path (plans root call env)
plan_keeps path = plan_obeys (λ last. Keeps path) (λ last. keeps_then path) (keeps_rest path)
    (λ A Among fits want. keeps_told path _ _ (keeps_reads path _ Among fits want)) (keeps_runs_child path _)

pub launch_keeps : (path root : List ℕ) (call : Call) (env : List Variable) → Preserves path (launches root call env)
launch_keeps path = launch_obeys (λ last. Keeps path) (λ last. keeps_then path) (keeps_rest path)
    (λ A Among fits want. keeps_told path _ _ (keeps_reads path _ Among fits want)) (keeps_runs_child path _)
