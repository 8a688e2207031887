-- What the calls of the layers below say, as steps of `detect` where a record is asked for.
use Rattle.std.proofs.Common.{◌≡◌, ◌∙◌, refl, sym, ap, subst, ℕ, ◌<◌, Bool, true, false, not, List, [], ◌∷◌, length}
use Rattle.std.proofs.Common.{codes, Option, Some, None, Result, Ok, Err}
use Rattle.std.specs.Prelude.{IfOk, IsTrue}
use Rattle.std.specs.Str.{bytes_eq}
use Rattle.std.proofs.lemmas.Bool.{and_parts}
use Rattle.cnb_world.specs.Path.{beside, is_path}
use Rattle.cnb_world.specs.Runs.{Ran}
use Rattle.cnb_world.specs.Tree.{is_root}
use Rattle.cnb_world.specs.declared.child.Probed.{Probed}
use Rattle.cnb_world.proofs.Folders.{second_byte}
use Rattle.cnb_toml.specs.declared.names.Key.{Key}
use Rattle.cnb_words.specs.RecordPath.{has_room_beside, is_of_choice, is_record_path}
use Rattle.order_expand.specs.declared.member.Member.{Member}
use Rattle.cnb_detect.specs.Choice.{Choice, choice_by, choice_in, choice_of, jobs_of, listed_jobs}
use Rattle.cnb_detect.specs.Refusals.{cause_of, of_detect_end}
use Rattle.cnb_detect.specs.declared.preparation.Prepared.{Prepared}
use Rattle.cnb_detect.specs.declared.refusal.DetectRefusal.{DetectRefusal}
use Rattle.cnb_detect.proofs.DetectSteps as detect
use Rattle.detect_core.specs.Answer.{build_plan, recorded, says}
use Rattle.detect_core.specs.Detection.{Ending, TooManyTrials, FirstTrial, asked_keys, first_trial, has_erred}
use Rattle.detect_core.specs.Recorded.{AreRecordedBy, IsRecorded, answered_keys}
use Rattle.detect_core.specs.Search.{DetectsAs, RunsAsked, end_cause}
use Rattle.detect_core.specs.declared.chosen.AnswerRow.{AnswerRow}
use Rattle.detect_core.specs.declared.chosen.Chosen.{Chosen}
use Rattle.detect_core.specs.declared.chosen.DetectEnd.{DetectEnd}
use Rattle.detect_core.specs.declared.chosen.Recorded.{Recorded}
use Rattle.detect_core.specs.declared.chosen.Verdict.{Verdict}
use Rattle.run_docs.specs.Group.{is_group_doc}
use Rattle.run_docs.specs.Plan.{is_plan_doc}
use Rattle.steps.specs.Asking.{Asks, AskedBy, AsksBy, SpawnersBy, asks}
use Rattle.steps.specs.Causes.{Cause, FileFailed, ChildFailed, OutOfMemory, Decided}
use Rattle.steps.specs.Outside.{SpawnerSeen, faults_of}
use Rattle.steps.specs.Results.{and_then}
use Rattle.cnb_record.specs.Choosing.{answers_of, asked_by, found_by, found_of, with_row}
use Rattle.cnb_record.specs.declared.choosing.RecordedChoice.{RecordedChoice}

-- ---- the choice is the one that is made without a record

abbrev pub choice_with : Result Recorded DetectRefusal → Result Choice DetectRefusal
choice_with found = and_then found (λ f. Ok (choice_in f.chosen))

same_choice_by : (erred : Bool) (keys : List Key) (rows : List AnswerRow) (ending : Option Ending)
    → choice_by erred ending ≡ choice_with (found_by erred keys rows ending)
same_choice_by erred keys rows (Some (FirstTrial place resolved kept)) = refl
same_choice_by erred keys rows (Some (TooManyTrials place)) = refl
same_choice_by erred keys rows None = refl

pub same_choice : (prepared : Prepared) (answers : List Ran)
    → choice_of prepared answers ≡ choice_with (found_of prepared answers)
unfolding choice_of found_of
same_choice prepared answers =
    same_choice_by (has_erred prepared.frame.target (says prepared.frame.target build_plan answers)
    prepared.catalog prepared.order) (asked_by prepared answers)
    (answers_of answers (asked_by prepared answers))
    (first_trial (says prepared.frame.target build_plan answers) prepared.catalog prepared.order)

refused_with : (found : Result Recorded DetectRefusal) (refusal : DetectRefusal) → choice_with found ≡ Err refusal
    → found ≡ Err refusal
refused_with (Ok found) refusal e = absurd (cc)
refused_with (Err other) refusal e = cc

pub asks_by_more : (cause : Cause) (Few P Q R : Type 0) → (Q → R) → AsksBy cause Few (P × Q) → AsksBy cause Few (P × R)
asks_by_more (FileFailed path) Few P Q R f h = absurd h
asks_by_more ChildFailed Few P Q R f h = h
asks_by_more OutOfMemory Few P Q R f h = h
asks_by_more Decided Few P Q R f h = (h.0, f h.1)

-- ---- children that were asked

-- rows of the recorded answers are the answers of their buildpacks
row_back : (rans : List Ran) (row : AnswerRow) (rows : List AnswerRow) (answer : Option Probed)
    → answer ≡ Some row.probed → with_row row.key answer rows ≡ row ∷ rows
row_back rans row rows answer is = subst (λ (a : Option Probed). with_row row.key a rows ≡ row ∷ rows) (sym is) refl

rows_back : (rans : List Ran) (rows : List AnswerRow) → AreRecordedBy rans rows
    → answers_of rans (answered_keys rows) ≡ rows
rows_back rans [] h = refl
rows_back rans (row ∷ rows) h = ap (λ rest. with_row row.key (recorded rans row.key) rest)
    (rows_back rans rows h.1) ∙ row_back rans row rows (recorded rans row.key) h.0

found_so : (found : Recorded) (ending : Option Ending) (asked : List Key) (erred : Bool) (rows : List AnswerRow)
    → rows ≡ found.answers → DetectsAs (Ok found.chosen) ending asked erred
    → found_by erred asked rows ending ≡ Ok found
found_so found (Some (FirstTrial place resolved kept)) asked erred rows same h =
    λ i. Ok (record {
      chosen = record {
        group = sym h.group i;
        plan = sym h.plan i;
        place = sym h.place i;
        trial = sym h.trial i;
        trials = sym h.trials i;
        asked = sym h.asked i;
      };
      answers = same i;
    })
found_so found (Some (TooManyTrials place)) asked erred rows same h = absurd h
found_so found None asked erred rows same h = absurd h

asked_so : (found : Recorded) (ending : Option Ending) (asked : List Key) (erred : Bool)
    → DetectsAs (Ok found.chosen) ending asked erred → found.chosen.asked ≡ asked
asked_so found (Some (FirstTrial place resolved kept)) asked erred h = h.asked
asked_so found (Some (TooManyTrials place)) asked erred h = absurd h
asked_so found None asked erred h = absurd h

module _ (prepared : Prepared) (old new : List SpawnerSeen) where
  abbrev said : List Ran → Member → Verdict
  said = says prepared.frame.target build_plan

  pub asked_found : (found : Recorded) → faults_of new ≡ faults_of old
      → RunsAsked prepared.frame prepared.catalog prepared.order old (Ok found.chosen) new
      → ((finished : List Ran) → AskedBy finished old new
      → DetectsAs (Ok found.chosen) (first_trial (said finished) prepared.catalog prepared.order)
      (asked_keys prepared.frame.target (said finished) prepared.catalog prepared.order)
      (has_erred prepared.frame.target (said finished) prepared.catalog prepared.order))
      → ((finished : List Ran) → AskedBy finished old new → AreRecordedBy finished found.answers)
      → IsRecorded prepared.order prepared.catalog prepared.frame.target found
      → asks cause_of (listed_jobs prepared) (jobs_of prepared) (found_of prepared) old (Ok found) new
  unfolding asks found_of
  asked_found found counts r detects answers is =
      let decided = detects r.answers r.asked in
      let keys : answered_keys found.answers ≡ asked_by prepared r.answers = is.keys ∙ sym is.choice.asked
      ∙ asked_so found _ _ _ decided in
      let rows : answers_of r.answers (asked_by prepared r.answers) ≡ found.answers =
      ap (answers_of r.answers) (sym keys) ∙ rows_back r.answers found.answers (answers r.answers r.asked) in
      record {
        answers = r.answers;
        asked = r.asked;
        meets = (r.exactly, found_so found _ _ _ _ rows decided);
        counts = counts;
      }

  pub asked_refused : (end : DetectEnd) → SpawnersBy (end_cause end) (faults_of old) (faults_of new)
      → RunsAsked prepared.frame prepared.catalog prepared.order old (Err end) new
      → ((finished : List Ran) → AskedBy finished old new
      → DetectsAs (Err end) (first_trial (said finished) prepared.catalog prepared.order)
      (asked_keys prepared.frame.target (said finished) prepared.catalog prepared.order)
      (has_erred prepared.frame.target (said finished) prepared.catalog prepared.order))
      → asks {A = Recorded} cause_of (listed_jobs prepared) (jobs_of prepared) (found_of prepared) old
      (Err (of_detect_end end)) new
  unfolding asks
  asked_refused end counts r detects =
      let h : Asks {A = Choice} cause_of (listed_jobs prepared) (jobs_of prepared) (choice_of prepared) old
      (Err (of_detect_end end)) new = detect.asked_refused prepared old new end counts r detects in
      record {
        answers = h.answers;
        asked = h.asked;
        meets = asks_by_more (cause_of (of_detect_end end)) _ _
            (choice_of prepared h.answers ≡ Err (of_detect_end end))
            (found_of prepared h.answers ≡ Err (of_detect_end end))
            (λ e. refused_with (found_of prepared h.answers) (of_detect_end end)
            (sym (same_choice prepared h.answers) ∙ e)) h.meets;
        counts = h.counts;
      }

-- what was chosen can be written, with its record too
pub written_with : (result : Result RecordedChoice DetectRefusal) (chosen : Chosen)
    → IfOk result (λ found. found.chosen ≡ chosen) → IsTrue (is_group_doc chosen.group)
    × IsTrue (is_plan_doc chosen.plan)
    → IfOk result (λ found. IsTrue (is_group_doc found.chosen.group) × IsTrue (is_plan_doc found.chosen.plan))
written_with (Ok found) chosen same h = subst
    (λ (c : Chosen). IsTrue (is_group_doc c.group) × IsTrue (is_plan_doc c.plan)) (sym same) h
written_with (Err refusal) chosen same h = tt

-- ---- where a record may be written

not_true : (b : Bool) → not b ≡ true → b ≡ false
not_true true h = absurd (cc)
not_true false h = refl

pub room_beside : (work path : List ℕ) → IsTrue (is_record_path work path) → IsTrue (is_path (beside path))
room_beside work path h =
    let room = (and_parts (has_room_beside path) (not (is_of_choice work path)) h).0 in
    (and_parts (not (bytes_eq path (codes "/"))) (is_path (beside path)) room).1

pub room_below : (work path : List ℕ) → IsTrue (is_record_path work path) → is_root path ≡ false
room_below work path h =
    let room = (and_parts (has_room_beside path) (not (is_of_choice work path)) h).0 in
    not_true (bytes_eq path (codes "/")) (and_parts (not (bytes_eq path (codes "/"))) (is_path (beside path)) room).0

pub long_path : (work path : List ℕ) → IsTrue (is_record_path work path) → 1 < length path
long_path work path h = second_byte path (room_beside work path h) (room_below work path h)
