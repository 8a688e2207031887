-- What builds do to the counts, by what ended them.
use Rattle.std.proofs.Common.{◌≡◌, refl, List, [], ◌∷◌, true}
use Rattle.std.specs.List.{list_all}
use Rattle.cnb_words.specs.declared.build.BuildWords.{BuildWords}
use Rattle.cnb_world.specs.declared.env.Variable.{Variable}
use Rattle.run_docs.specs.declared.group.GroupRow.{GroupRow}
use Rattle.run_docs.specs.declared.plan.PlanEntry.{PlanEntry}
use Rattle.steps.specs.Counts.{AllCounts}
use Rattle.steps.proofs.EndLaws.{Obeys, all_link, all_rest, files_among, makes_folder_counts, reads_counts}
use Rattle.steps.proofs.EndLaws.{runs_child_counts, writes_counts}
use Rattle.cnb_build.specs.declared.frame.BuildFrame.{BuildFrame}
use Rattle.cnb_build.specs.Builds.{builds}
use Rattle.cnb_build.specs.Command.{commands_build}
use Rattle.cnb_build.specs.Refusals.{cause_of}
use Rattle.cnb_build.proofs.ObeyLaws.{builds_obey, command_obeys}

each_passes : (group : List GroupRow) → list_all (λ row. true) group ≡ true
each_passes [] = refl
each_passes (row ∷ group) = each_passes group

pub builds_counts : (frame : BuildFrame) (plan : List PlanEntry) (group : List GroupRow)
    → Obeys AllCounts cause_of (builds frame plan group)
builds_counts frame plan group =
    builds_obey AllCounts all_link all_rest (λ A Among fits want. files_among cause_of _
    (reads_counts cause_of Among fits want)) (runs_child_counts cause_of) frame (λ row. true)
    (λ row is. files_among cause_of _ (makes_folder_counts cause_of _))
    (λ row Says is. files_among cause_of _ (writes_counts cause_of _ Says)) plan group (each_passes group)

pub build_counts : (options : BuildWords) (env : List Variable) → Obeys AllCounts cause_of (commands_build options env)
build_counts options env = command_obeys AllCounts all_link all_rest
    (λ A Among fits want. files_among cause_of _ (reads_counts cause_of Among fits want)) builds_counts options env
