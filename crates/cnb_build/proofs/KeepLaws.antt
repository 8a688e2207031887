-- What builds leave alone: a path that they don't touch stands, where their children left what stood there.
use Rattle.std.proofs.Common.{◌≡◌, refl, ℕ, List, true, Result}
use Rattle.std.specs.List.{list_all}
use Rattle.std.proofs.lemmas.Bool.{and_parts}
use Rattle.run_docs.specs.declared.group.GroupRow.{GroupRow}
use Rattle.run_docs.specs.declared.plan.PlanEntry.{PlanEntry}
use Rattle.steps.specs.Keeping.{Keeps, folder_paths, is_free, touched}
use Rattle.steps.specs.Outside.{Seen}
use Rattle.steps.proofs.EndLaws.{Rests}
use Rattle.steps.proofs.KeepingLaws.{Preserves, keeps_makes_folder, keeps_reads, keeps_runs_child, keeps_same}
use Rattle.steps.proofs.KeepingLaws.{keeps_then}
use Rattle.steps.proofs.KeepingLaws.{keeps_writes}
use Rattle.cnb_build.specs.declared.fault.BuildFault.{BuildFault}
use Rattle.cnb_build.specs.declared.frame.BuildFrame.{BuildFrame}
use Rattle.cnb_build.specs.Builds.{builds}
use Rattle.cnb_build.specs.Outcome.{spares}
use Rattle.cnb_build.specs.Places.{places_of}
use Rattle.cnb_build.specs.Refusals.{cause_of}
use Rattle.cnb_build.proofs.ObeyLaws.{builds_obey}

keeps_rest : (path : List ℕ) → Rests {S = Seen} (λ last. Keeps path)
keeps_rest path =
    let same : (s : Seen) → Keeps path s s = λ s. keeps_same path s s refl refl in
    record { none = same; memory = same; decided = same }

free_of : (path : List ℕ) (frame : BuildFrame) (row : GroupRow) → spares path frame row ≡ true
    → (is_free (folder_paths (places_of frame row.key).layers) path ≡ true)
    × (is_free (touched (places_of frame row.key).plan) path ≡ true)
free_of path frame row is = and_parts (is_free (folder_paths (places_of frame row.key).layers) path)
    (is_free (touched (places_of frame row.key).plan) path) is

pub keeps_builds : (path : List ℕ) (frame : BuildFrame) (plan : List PlanEntry) (group : List GroupRow)
    → list_all (spares path frame) group ≡ true → Preserves path (builds frame plan group)
keeps_builds path frame plan group apart =
    builds_obey (λ last. Keeps path) (λ last. keeps_then path) (keeps_rest path)
    (λ A Among fits want. keeps_reads path cause_of Among fits want) (keeps_runs_child path cause_of) frame
    (spares path frame)
    (λ row is. keeps_makes_folder path cause_of _ (free_of path frame row is).0)
    (λ row Says is. keeps_writes path cause_of _ Says (free_of path frame row is).1) plan group apart

-- a path that none of the builds touches
pub kept_paths : (frame : BuildFrame) (plan : List PlanEntry) (group : List GroupRow) (old new : Seen)
    (result : Result (Unit {0}) BuildFault) → builds frame plan group old result new
    → (path : List ℕ) → list_all (spares path frame) group ≡ true → Keeps path old new
kept_paths frame plan group old new result h path apart = keeps_builds path frame plan group apart old new result h
