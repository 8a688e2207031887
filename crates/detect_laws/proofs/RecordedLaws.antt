-- A detection with sound documents and a record ends soundly.
use Rattle.std.proofs.Common.{◌≡◌, ap, subst, ℕ, ◌≤◌, cond, List, length, Some}
use Rattle.std.proofs.Common.{Result, Ok, Err, inl, inr}
use Rattle.std.proofs.lemmas.Bool.{le-leb}
use Rattle.std.specs.Prelude.{IfSome}
use Rattle.cnb_detect.specs.Outcome.{prepared_in}
use Rattle.cnb_detect.specs.Refusals.{cause_of}
use Rattle.cnb_detect.specs.declared.preparation.Prepared.{Prepared}
use Rattle.cnb_detect.specs.declared.refusal.DetectRefusal.{DetectRefusal}
use Rattle.cnb_detect.specs.declared.refusal.DetectRefusal.TheVariants.{File, Memory, Limit}
use Rattle.cnb_detect.specs.declared.target.TargetSource.{TargetSource}
use Rattle.cnb_record.proofs.RecordCounts.{detect_recorded_counts}
use Rattle.cnb_record.proofs.RecordLaws.{comes_to_recorded}
use Rattle.cnb_record.specs.Choosing.{of_record_fault, record_in}
use Rattle.cnb_record.specs.Outcome.{ComesToRecorded, IsTooLarge}
use Rattle.cnb_words.specs.declared.choice.ChoiceWords.{ChoiceWords}
use Rattle.cnb_world.specs.Tree.{Tree}
use Rattle.cnb_world.specs.declared.env.Variable.{Variable}
use Rattle.cnb_world.specs.declared.limits.LimitKind.TheVariants.{Record}
use Rattle.detect_core.specs.declared.chosen.Recorded.{Recorded}
use Rattle.detect_record.specs.Lines.{lines_text}
use Rattle.detect_record.specs.Making.{record_lines, record_of}
use Rattle.detect_record.specs.declared.outcome.RecordFault.TheVariants.{Large}
use Rattle.order_expand.specs.Groups.{listed_groups}
use Rattle.steps.specs.Causes.{IsWriteCause}
use Rattle.steps.specs.EitherCounts.{OutsideCounts}
use Rattle.steps.specs.Outside.{Outside}
use Rattle.steps.specs.Results.{with_fault}
use Rattle.detect_laws.specs.Recorded.{DetectsRecordedSoundly, FaultlessRecordedDetectionsEnd}
use Rattle.detect_laws.specs.Recorded.{SoundRecordedDetectionsEnd}
use Rattle.detect_laws.specs.Sound.{EndsSoundly}
use Rattle.detect_laws.proofs.SoundLaws.{ends_by, ends_well}

-- a record within its limit is made
made : (prepared : Prepared) (found : Recorded)
    → length (lines_text (record_lines prepared.frame.target found.answers
    (listed_groups prepared.catalog prepared.order))) ≤ 16777216
    → record_in prepared found ≡ Ok (lines_text (record_lines prepared.frame.target found.answers
    (listed_groups prepared.catalog prepared.order)))
unfolding record_of
made prepared found h =
    let bytes = lines_text (record_lines prepared.frame.target found.answers
    (listed_groups prepared.catalog prepared.order)) in
    ap (λ b. with_fault of_record_fault (cond b (Ok bytes) (Err Large))) (le-leb (length bytes) 16777216 h)

not_large : (made : Result (List ℕ) DetectRefusal) (bytes : List ℕ) → made ≡ Ok bytes → made ≡ Err (Limit Record) → ⊥
not_large made bytes e k = cc

-- a write is refused for a call that failed, or want of memory
write_ends : (path : List ℕ) (old new : Outside) (refusal : DetectRefusal) → IsWriteCause path (cause_of refusal)
    → OutsideCounts (Some (cause_of refusal)) old new → EndsSoundly old (Err refusal) new
write_ends path old new (File failed) h counts = counts.files
write_ends path old new Memory h counts = tt
write_ends path old new refusal h counts = absurd h

module _ (source : TargetSource) (options : ChoiceWords) (path : List ℕ) (env : List Variable) (files : Tree) where
  too_large : (old new : Outside) (refusal : DetectRefusal)
      → DetectsRecordedSoundly source options path env files old (Err refusal) new
      → IsTooLarge source options env old refusal new → ⊥
  too_large old new refusal h large =
      let one = large.is_found in
      let read : IfSome (Some files) (λ tree. prepared_in source options env tree ≡ Ok one.prepared) = subst
      (λ v. IfSome v (λ tree. prepared_in source options env tree ≡ Ok one.prepared)) h.told one.reads in
      not_large (record_in one.prepared large.found) _
      (made one.prepared large.found (h.small one.prepared one.answers read one.asked large.found one.finds)) one.makes

  refused_ends : (old new : Outside) (refusal : DetectRefusal)
      → DetectsRecordedSoundly source options path env files old (Err refusal) new
      → OutsideCounts (Some (cause_of refusal)) old new
      → ComesToRecorded source options path env old (Err refusal) new → EndsSoundly old (Err refusal) new
  refused_ends old new refusal h counts (inl comes) = ends_by source options env files h.sound old new (Err refusal)
      h.told h.trials comes counts
  refused_ends old new refusal h counts (inr (inl large)) = absurd (too_large old new refusal h large)
  refused_ends old new refusal h counts (inr (inr writes)) = write_ends path old new refusal writes.kept counts

  recorded_ends : (old new : Outside) (end : Result (List ℕ) DetectRefusal)
      → DetectsRecordedSoundly source options path env files old end new → EndsSoundly old end new
  recorded_ends old new (Ok text) h = tt
  recorded_ends old new (Err refusal) h = refused_ends old new refusal h
      (detect_recorded_counts source options path env old new (Err refusal) h.steps)
      (comes_to_recorded source options path env h.sound.work h.own_path old new (Err refusal) h.steps)

pub sound_recorded_detections_end : SoundRecordedDetectionsEnd
sound_recorded_detections_end source options path env files old end new h = recorded_ends
    source options path env files old new end h

pub faultless_recorded_detections_end : FaultlessRecordedDetectionsEnd
faultless_recorded_detections_end source options path env files old end new h faultless = ends_well old new end
    faultless (recorded_ends source options path env files old new end h)
