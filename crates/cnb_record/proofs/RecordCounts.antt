-- What the steps of `detect` do to the counts where a record is asked for, by what ended them.
use Rattle.std.proofs.Common.{ℕ, List}
use Rattle.cnb_world.specs.declared.env.Variable.{Variable}
use Rattle.cnb_words.specs.declared.choice.ChoiceWords.{ChoiceWords}
use Rattle.cnb_detect.specs.Choice.{choice_in}
use Rattle.cnb_detect.specs.Refusals.{cause_of}
use Rattle.cnb_detect.specs.declared.preparation.Prepared.{Prepared}
use Rattle.cnb_detect.specs.declared.target.TargetSource.{TargetSource}
use Rattle.cnb_detect.proofs.CountLaws.{prepares_counts, written_choice_counts}
use Rattle.detect_core.specs.declared.chosen.Recorded.{Recorded}
use Rattle.steps.specs.Counts.{FileCounts}
use Rattle.steps.specs.EitherCounts.{OutsideCounts}
use Rattle.steps.specs.Outside.{Outside}
use Rattle.steps.proofs.EndLaws.{Obeys, files_among, files_link, files_rest, obeys_bind, obeys_gives, obeys_yields}
use Rattle.steps.proofs.EndLaws.{writes_counts}
use Rattle.steps.proofs.OutsideLaws.{obeys_asks, obeys_over_world, outside_link, outside_rest}
use Rattle.cnb_record.specs.Choosing.{adds_record, chooses_recorded, finds, makes_record, record_in}
use Rattle.cnb_record.specs.DetectsRecorded.{detects_recorded, writes_recorded}
use Rattle.cnb_record.specs.declared.choosing.RecordedChoice.{RecordedChoice}

made_counts : (prepared : Prepared) (found : Recorded) → Obeys {S = Outside} OutsideCounts cause_of
    (makes_record prepared found)
unfolding makes_record
made_counts prepared found old new result h = obeys_gives OutsideCounts cause_of
    (record_in prepared found) outside_rest old new result h.0

added_counts : (prepared : Prepared) (found : Recorded)
    → Obeys {S = Outside} OutsideCounts cause_of (adds_record prepared found)
unfolding adds_record
added_counts prepared found = obeys_bind _ _ _ _ outside_link (made_counts prepared found)
    (λ bytes. obeys_yields _ _ _ outside_rest)

recorded_choice_counts : (source : TargetSource) (options : ChoiceWords) (env : List Variable)
    → Obeys OutsideCounts cause_of (chooses_recorded source options env)
unfolding chooses_recorded finds
recorded_choice_counts source options env =
    obeys_bind _ _ _ _ outside_link (obeys_over_world cause_of _
    (files_among cause_of _ (prepares_counts source options env)))
    (λ prepared. obeys_bind _ _ _ _ outside_link (obeys_asks cause_of _ _ _) (λ found. added_counts prepared found))

written_counts : (work path : List ℕ) (found : RecordedChoice)
    → Obeys FileCounts cause_of (writes_recorded work path found)
unfolding writes_recorded
written_counts work path found =
    obeys_bind _ _ _ _ files_link (obeys_gives _ _ _ files_rest)
    (λ text. obeys_bind _ _ _ _ files_link (written_choice_counts work (choice_in found.chosen))
    (λ written. obeys_bind _ _ _ _ files_link (writes_counts cause_of _ _) (λ kept. obeys_yields _ _ _ files_rest)))

pub detect_recorded_counts : (source : TargetSource) (options : ChoiceWords) (path : List ℕ) (env : List Variable)
    → Obeys OutsideCounts cause_of (detects_recorded source options path env)
unfolding detects_recorded
detect_recorded_counts source options path env =
    obeys_bind _ _ _ _ outside_link (recorded_choice_counts source options env)
    (λ found. obeys_over_world cause_of _ (files_among cause_of _ (written_counts options.work path found)))
