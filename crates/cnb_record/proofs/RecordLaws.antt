-- What `detect` comes to where a record is asked for, by what it does.
use Rattle.std.proofs.Common.{◌≡◌, ◌∙◌, refl, sym, ap, subst, arith, ℕ, ◌+◌, ◌<◌, true, List, length, Option, Result}
use Rattle.std.proofs.Common.{Ok, Err, ◌⊎◌, inl, inr}
use Rattle.std.specs.Prelude.{IfOk, IfSome, IsTrue}
use Rattle.std.specs.Option.{option_map}
use Rattle.cnb_world.specs.Calls.{MayMisuse}
use Rattle.cnb_world.specs.Path.{is_path}
use Rattle.cnb_world.specs.Runs.{Ran}
use Rattle.cnb_world.specs.Tree.{Tree}
use Rattle.cnb_world.specs.Whole.{written}
use Rattle.cnb_world.specs.declared.env.Variable.{Variable}
use Rattle.cnb_world.specs.declared.limits.LimitKind.TheVariants.{Record}
use Rattle.cnb_world.proofs.Folders.{parent_shorter}
use Rattle.cnb_words.specs.RecordPath.{is_record_path}
use Rattle.cnb_words.specs.declared.choice.ChoiceWords.{ChoiceWords}
use Rattle.cnb_detect.specs.Choice.{Choice, choice_in, choice_of, jobs_of, listed_jobs}
use Rattle.cnb_detect.specs.Detects.{chooses, detects, text_of}
use Rattle.cnb_detect.specs.Documents.{group_document, plan_document, writes_choice}
use Rattle.cnb_detect.specs.Outcome.{ChoosesFirst, ComesTo, Decides, KeepsFiles}
use Rattle.cnb_detect.specs.Preparation.{is_fit_preparation, prepares}
use Rattle.cnb_detect.specs.Refusals.{cause_of}
use Rattle.cnb_detect.specs.declared.preparation.Prepared.{Prepared}
use Rattle.cnb_detect.specs.declared.refusal.DetectRefusal.{DetectRefusal}
use Rattle.cnb_detect.specs.declared.refusal.DetectRefusal.TheVariants.{File, Memory, Document, Child, Limit}
use Rattle.cnb_detect.specs.declared.refusal.DetectRefusal.TheVariants.{BuildpackApi, Order, NoGroup}
use Rattle.cnb_detect.specs.declared.target.TargetSource.{TargetSource}
use Rattle.cnb_detect.proofs.DetectLaws.{prepares_reads}
use Rattle.cnb_detect.proofs.DocumentLemmas.{left_standing, same_standing}
use Rattle.cnb_detect.proofs.FirstLaws.{chosen_first}
use Rattle.cnb_detect.proofs.OutcomeLaws.{comes_to}
use Rattle.detect_core.specs.declared.chosen.Recorded.{Recorded}
use Rattle.detect_record.specs.Making.{record_of}
use Rattle.detect_record.specs.declared.outcome.RecordFault.{RecordFault}
use Rattle.detect_record.specs.declared.outcome.RecordFault.TheVariants as fault
use Rattle.steps.specs.Asking.{Asks, AskedBy, asks}
use Rattle.steps.specs.Causes.{IsAnswer, IsGivenCause, IsWriteCause}
use Rattle.steps.specs.Outside.{Outside, Seen, SpawnerSeen}
use Rattle.steps.specs.Results.{with_fault}
use Rattle.steps.specs.Steps.{◌>>=◌, LeavesUnwritten, Writes, gives, in_spawners, in_world, writes, yields}
use Rattle.steps.proofs.KeepingLaws.{some_left, step_at, written_free}
use Rattle.steps.proofs.StepLemmas.{ended, given, went, within, yielded}
use Rattle.cnb_record.specs.Choosing.{Proves, adds_record, chooses_recorded, finds, found_of, makes_record}
use Rattle.cnb_record.specs.Choosing.{of_record_fault, over, record_in}
use Rattle.cnb_record.specs.DetectsRecorded.{detects_recorded, writes_recorded}
use Rattle.cnb_record.specs.Outcome.{ComesToRecorded, DecidesRecorded, IsFound, IsTooLarge, WritesRecord}
use Rattle.cnb_record.proofs.ChoosingLemmas.{asks_by_more, choice_with, long_path, same_choice}
use Rattle.cnb_record.proofs.StandLemmas.{IsThere, group_apart, group_beside, group_there, plan_apart, plan_beside}
use Rattle.cnb_record.proofs.StandLemmas.{plan_there, stands_refused, stands_written}

-- ---- the choice is the one that is made without a record

asked_chosen : (prepared : Prepared) (found : Recorded) (old new : List SpawnerSeen)
    → Asks cause_of (listed_jobs prepared) (jobs_of prepared) (found_of prepared) old (Ok found) new
    → asks cause_of (listed_jobs prepared) (jobs_of prepared) (choice_of prepared) old (Ok (choice_in found.chosen)) new
unfolding asks
asked_chosen prepared found old new h = record {
  answers = h.answers;
  asked = h.asked;
  meets = (h.meets.0, same_choice prepared h.answers ∙ ap choice_with h.meets.1);
  counts = h.counts;
}

asked_refused : (prepared : Prepared) (refusal : DetectRefusal) (old new : List SpawnerSeen)
    → Asks {A = Recorded} cause_of (listed_jobs prepared) (jobs_of prepared) (found_of prepared) old
    (Err refusal) new
    → asks {A = Choice} cause_of (listed_jobs prepared) (jobs_of prepared) (choice_of prepared) old (Err refusal) new
unfolding asks
asked_refused prepared refusal old new h = record {
  answers = h.answers;
  asked = h.asked;
  meets = asks_by_more (cause_of refusal) _ _ (found_of prepared h.answers ≡ Err refusal)
      (choice_of prepared h.answers ≡ Err refusal) (λ e. same_choice prepared h.answers ∙ ap choice_with e)
      h.meets;
  counts = h.counts;
}

-- ---- the writing of the record

module _ (source : TargetSource) (options : ChoiceWords) (path : List ℕ) (env : List Variable)
    (work : is_path options.work ≡ true) (free : IsTrue (is_record_path options.work path)) where
  long : 1 < length path
  long = long_path options.work path free

  not_longer_by : length path ≡ length path + 4 → ⊥
  not_longer_by e = omega arith

  -- both documents stand in the middle
  documents_there : (old middle : Outside) (text : List ℕ) → ComesTo source options env old (Ok text) middle
      → IfSome middle.world.files (IsThere (group_document options.work))
      × IfSome middle.world.files (IsThere (plan_document options.work))
  documents_there old middle text comes =
      let both = comes.written in (
        group_there options.work both.2.group both.2.plan work old.world.files middle.world.files both.2.files,
        plan_there options.work both.2.group both.2.plan work old.world.files middle.world.files both.2.files,
      )

  record_written : (old middle : Outside) (found : Recorded) (bytes text : List ℕ) (new : Seen)
      → ComesTo source options env old (Ok (text_of (choice_in found.chosen))) middle
      → IsFound source options env old middle found (Ok bytes)
      → text ≡ text_of (choice_in found.chosen) → Writes path (λ stored. stored ≡ bytes) middle.world new
      → WritesRecord source options path env old (Ok text) (over new middle.spawners)
  record_written old middle found bytes text new comes is_found printed h =
      let there = documents_there old middle (text_of (choice_in found.chosen)) comes in record {
        middle = middle;
        found = found;
        bytes = bytes;
        comes = comes;
        is_found = is_found;
        file = inr (h.bytes, h.says, same_standing middle.world.files new.files path h.bytes long h.files);
        kept = (printed, h.files ∙ ap (λ b. option_map (written path b) middle.world.files) h.says);
        group = stands_written path (group_document options.work) (group_apart options.work path free)
            (group_beside options.work path) middle.world.files new.files h.bytes there.0 h.fits h.files;
        plan = stands_written path (plan_document options.work) (plan_apart options.work path free)
            (plan_beside options.work path) middle.world.files new.files h.bytes there.1 h.fits h.files;
        others = λ other untouched. step_at middle.world.files new.files (written path h.bytes) other
            (λ t. written_free t path other h.bytes untouched) h.files;
        spawners = refl;
        runs = h.runs;
        misused = h.allows;
      }

  record_refused : (old middle : Outside) (found : Recorded) (bytes : List ℕ) (refusal : DetectRefusal)
      (new : Seen) → ComesTo source options env old (Ok (text_of (choice_in found.chosen))) middle
      → IsFound source options env old middle found (Ok bytes)
      → IsWriteCause path (cause_of refusal) → LeavesUnwritten path (λ stored. stored ≡ bytes) middle.world new
      → WritesRecord source options path env old (Err refusal) (over new middle.spawners)
  record_refused old middle found bytes refusal new comes is_found cause h =
      let there = documents_there old middle (text_of (choice_in found.chosen)) comes in record {
        middle = middle;
        found = found;
        bytes = bytes;
        comes = comes;
        is_found = is_found;
        file = inl (left_standing middle.world.files new.files path path (λ stored. stored ≡ bytes) not_longer_by
            (parent_shorter path long) h.files);
        kept = cause;
        group = stands_refused path (group_document options.work) (group_apart options.work path free)
            (group_beside options.work path) middle.world.files new.files
            (λ stored. stored ≡ bytes) there.0 h.files;
        plan = stands_refused path (plan_document options.work) (plan_apart options.work path free)
            (plan_beside options.work path) middle.world.files new.files
            (λ stored. stored ≡ bytes) there.1 h.files;
        others = λ other untouched. some_left middle.world.files new.files path other
            (λ stored. stored ≡ bytes) untouched h.files;
        spawners = refl;
        runs = h.runs;
        misused = h.allows;
      }

  -- ---- behind the choice

  chosen_so : (old first : Outside) (prepared : Prepared) (found : Recorded) (spawners : List SpawnerSeen)
      (world : Seen) → in_world (prepares source options env) old (Ok prepared) first
      → Asks cause_of (listed_jobs prepared) (jobs_of prepared) (found_of prepared) first.spawners
      (Ok found) spawners → world ≡ first.world → chooses source options env old (Ok (choice_in found.chosen))
      (over world spawners)
  unfolding chooses in_spawners
  chosen_so old first prepared found spawners world h asked same =
      went _ _ old first (over world spawners) prepared (Ok (choice_in found.chosen)) h
      (asked_chosen prepared found first.spawners spawners asked, same)

  detected : (old : Outside) (world middle : Seen) (spawners : List SpawnerSeen) (choice : Choice)
      (done : Unit {0}) → chooses source options env old (Ok choice) (over world spawners)
      → writes_choice options.work choice world (Ok done) middle
      → detects source options env old (Ok (text_of choice)) (over middle spawners)
  unfolding detects
  detected old world middle spawners choice done h k =
      went _ _ old (over world spawners) (over middle spawners) choice (Ok (text_of choice)) h
      (went _ _ (over world spawners) (over world spawners) (over middle spawners) (text_of choice)
      (Ok (text_of choice)) (given cause_of (Ok (text_of choice)) (over world spawners) (text_of choice) refl)
      (went _ _ (over world spawners) (over middle spawners) (over middle spawners) done (Ok (text_of choice))
      (within (writes_choice options.work choice) world middle spawners (Ok done) k)
      (yielded DetectRefusal (text_of choice) (over middle spawners))))

  text_refused : (old : Outside) (world : Seen) (spawners : List SpawnerSeen) (choice : Choice)
      (refusal : DetectRefusal) → chooses source options env old (Ok choice) (over world spawners)
      → gives {S = Outside} {A = List ℕ} cause_of (Ok (text_of choice)) (over world spawners) (Err refusal)
      (over world spawners) → detects source options env old (Err refusal) (over world spawners)
  unfolding detects
  text_refused old world spawners choice refusal h k =
      went _ _ old (over world spawners) (over world spawners) choice (Err refusal) h
      (ended _ _ (over world spawners) (over world spawners) refusal k)

  writing_refused : (old : Outside) (world new : Seen) (spawners : List SpawnerSeen) (choice : Choice)
      (refusal : DetectRefusal) → chooses source options env old (Ok choice) (over world spawners)
      → writes_choice options.work choice world (Err refusal) new
      → detects source options env old (Err refusal) (over new spawners)
  unfolding detects
  writing_refused old world new spawners choice refusal h k =
      went _ _ old (over world spawners) (over new spawners) choice (Err refusal) h
      (went _ _ (over world spawners) (over world spawners) (over new spawners) (text_of choice) (Err refusal)
      (given cause_of (Ok (text_of choice)) (over world spawners) (text_of choice) refl)
      (ended _ _ (over world spawners) (over new spawners) refusal
      (within (writes_choice options.work choice) world new spawners (Err refusal) k)))

  choice_refused : (old new : Outside) (refusal : DetectRefusal)
      → chooses source options env old (Err refusal) new → detects source options env old (Err refusal) new
  unfolding detects
  choice_refused old new refusal h = ended _ _ old new refusal h

  preparation_refused : (old new : Outside) (refusal : DetectRefusal)
      → in_world (prepares source options env) old (Err refusal) new
      → chooses source options env old (Err refusal) new
  unfolding chooses
  preparation_refused old new refusal h = ended _ _ old new refusal h

  asking_refused : (old first : Outside) (prepared : Prepared) (spawners : List SpawnerSeen) (world : Seen)
      (refusal : DetectRefusal) → in_world (prepares source options env) old (Ok prepared) first
      → Asks {A = Recorded} cause_of (listed_jobs prepared) (jobs_of prepared) (found_of prepared) first.spawners
      (Err refusal) spawners → world ≡ first.world → chooses source options env old (Err refusal)
      (over world spawners)
  unfolding chooses in_spawners
  asking_refused old first prepared spawners world refusal h asked same =
      went _ _ old first (over world spawners) prepared (Err refusal) h
      (asked_refused prepared refusal first.spawners spawners asked, same)

  refused : (old new : Outside) (refusal : DetectRefusal) → detects source options env old (Err refusal) new
      → ComesToRecorded source options path env old (Err refusal) new
  refused old new refusal h = inl (comes_to source options env work old new (Err refusal) h)

  asked_from : (answers : List Ran) (a b c : List SpawnerSeen) → b ≡ a → AskedBy answers b c → AskedBy answers a c
  asked_from answers a b c same h = subst (λ v. AskedBy answers v c) same h

  -- what was found, by the files and by what the children answered
  found_so : (old first : Outside) (prepared : Prepared) (found : Recorded)
      (canonical : Result (List ℕ) DetectRefusal) (spawners : List SpawnerSeen) (world : Seen)
      → in_world (prepares source options env) old (Ok prepared) first
      → Asks cause_of (listed_jobs prepared) (jobs_of prepared) (found_of prepared) first.spawners
      (Ok found) spawners → record_in prepared found ≡ canonical → IfOk canonical (Proves prepared found)
      → IsFound source options env old (over world spawners) found canonical
  unfolding in_world
  found_so old first prepared found canonical spawners world h asked makes proves =
      let read = prepares_reads source options env old.world first.world (Ok prepared) h.0 in
      record {
        prepared = prepared;
        answers = asked.answers;
        asked = asked_from asked.answers old.spawners first.spawners spawners h.1 asked.asked;
        reads = read.answer;
        finds = asked.meets.1;
        makes = makes;
        proves = proves;
      }

  same_text : (want text : List ℕ) → (let given : Result (List ℕ) DetectRefusal = Ok want in given) ≡ Ok text
      → text ≡ want
  same_text want text e = cc

  -- the record was made
  recorded : (old first : Outside) (prepared : Prepared) (found : Recorded) (bytes : List ℕ)
      (spawners : List SpawnerSeen) (world : Seen) (end : Result (List ℕ) DetectRefusal) (new : Seen)
      → in_world (prepares source options env) old (Ok prepared) first
      → Asks cause_of (listed_jobs prepared) (jobs_of prepared) (found_of prepared) first.spawners
      (Ok found) spawners → world ≡ first.world
      → record_in prepared found ≡ Ok bytes → Proves prepared found bytes
      → writes_recorded options.work path (record { chosen = found.chosen; bytes = bytes }) world end new
      → ComesToRecorded source options path env old end (over new spawners)
  unfolding writes_recorded writes gives yields ◌>>=◌
  recorded old first prepared found bytes spawners world (Ok text) new h asked same makes proves
      (t, w, ht, (u, m, hw, (k, n, hr, y))) =
      let choice = choice_in found.chosen in
      let middle = over m spawners in
      let chose = chosen_so old first prepared found spawners w h asked (ht.0 ∙ same) in
      let comes = comes_to source options env work old middle (Ok (text_of choice))
      (detected old w m spawners choice u chose hw) in
      record_written old middle found bytes text new comes
      (found_so old first prepared found (Ok bytes) spawners m h asked makes proves)
      (y.0 ∙ same_text (text_of choice) t ht.1) (subst (λ s. Writes path (λ stored. stored ≡ bytes) m s)
      (sym y.1) hr)
  recorded old first prepared found bytes spawners world (Err refusal) new h asked same makes proves (inl ht) =
      let choice = choice_in found.chosen in
      subst (λ s. ComesToRecorded source options path env old (Err refusal) (over s spawners)) (sym ht.0)
      (refused old (over world spawners) refusal (text_refused old world spawners choice refusal
      (chosen_so old first prepared found spawners world h asked same) (refl, ht.1, ht.2)))
  recorded old first prepared found bytes spawners world (Err refusal) new h asked same makes proves
      (inr (t, w, ht, inl hw)) =
      let choice = choice_in found.chosen in
      refused old (over new spawners) refusal (writing_refused old w new spawners choice refusal
      (chosen_so old first prepared found spawners w h asked (ht.0 ∙ same)) hw)
  recorded old first prepared found bytes spawners world (Err refusal) new h asked same makes proves
      (inr (t, w, ht, inr (u, m, hw, inl hr))) =
      let choice = choice_in found.chosen in
      let middle = over m spawners in
      let chose = chosen_so old first prepared found spawners w h asked (ht.0 ∙ same) in
      let comes = comes_to source options env work old middle (Ok (text_of choice))
      (detected old w m spawners choice u chose hw) in
      inr (inr (record_refused old middle found bytes refusal new comes
      (found_so old first prepared found (Ok bytes) spawners m h asked makes proves) hr.0 hr.1))
  recorded old first prepared found bytes spawners world (Err refusal) new h asked same makes proves
      (inr (t, w, ht, inr (u, m, hw, inr (k, n, hr, y)))) = absurd y

  -- ---- no record was made

  limit_or_memory : (made : Result (List ℕ) RecordFault) (refusal : DetectRefusal)
      → with_fault of_record_fault made ≡ Err refusal → (refusal ≡ Memory) ⊎ (refusal ≡ Limit Record)
  limit_or_memory (Ok bytes) refusal e = absurd (cc)
  limit_or_memory (Err fault.Large) refusal e = inr (cc)
  limit_or_memory (Err fault.Memory) refusal e = inl (cc)

  module _ (old first : Outside) (prepared : Prepared) (found : Recorded) (spawners : List SpawnerSeen)
      (world : Seen) (h : in_world (prepares source options env) old (Ok prepared) first)
      (asked : Asks cause_of (listed_jobs prepared) (jobs_of prepared) (found_of prepared) first.spawners
      (Ok found) spawners) (same : world ≡ first.world) where
    out_of_memory : ComesToRecorded source options path env old (Err Memory) (over world spawners)
    unfolding gives
    out_of_memory = refused old (over world spawners) Memory
        (text_refused old world spawners (choice_in found.chosen) Memory
        (chosen_so old first prepared found spawners world h asked same) (refl, tt, tt))

    too_large : (refusal : DetectRefusal) → record_in prepared found ≡ Err refusal → refusal ≡ Limit Record
        → IsTooLarge source options env old refusal (over world spawners)
    unfolding in_world
    too_large refusal e limit =
        let read = prepares_reads source options env old.world first.world (Ok prepared) h.0 in
        record {
          limit = limit;
          found = found;
          is_found = found_so old first prepared found (Err (Limit Record)) spawners world h asked
              (e ∙ ap Err limit) tt;
          first = chosen_first source options env old (over world spawners) (choice_in found.chosen)
              (chosen_so old first prepared found spawners world h asked same);
          same = record {
            files = ap (λ s. s.files) same ∙ read.same.files;
            runs = ap (λ s. s.runs) same
                ∙ read.same.runs;
          };
          misused = subst (λ s. MayMisuse (option_map (is_fit_preparation source options) old.world.files)
              old.world.misused s.misused) (sym same) read.allows;
        }

    decided : (refusal : DetectRefusal) → record_in prepared found ≡ Err refusal
        → ComesToRecorded source options path env old (Err refusal) (over world spawners)
    decided refusal e = by (limit_or_memory (record_of prepared.catalog prepared.order prepared.frame.target
        found) refusal e)
      where
        by : (refusal ≡ Memory) ⊎ (refusal ≡ Limit Record) → ComesToRecorded source options path env old
            (Err refusal) (over world spawners)
        by (inl memory) = subst (λ r. ComesToRecorded source options path env old (Err r) (over world spawners))
            (sym memory) out_of_memory
        by (inr limit) = inr (inl (too_large refusal e limit))

    not_made : (refusal : DetectRefusal) → IsAnswer {A = List ℕ} cause_of (Err refusal) (record_in prepared found)
        → IsGivenCause (cause_of refusal) → ComesToRecorded source options path env old (Err refusal)
        (over world spawners)
    not_made (File at) e cause = absurd cause
    not_made Memory e cause = out_of_memory
    not_made Child e cause = absurd cause
    not_made (Document at why) e cause = decided (Document at why) e
    not_made (Limit kind) e cause = decided (Limit kind) e
    not_made (BuildpackApi text) e cause = decided (BuildpackApi text) e
    not_made (Order id ambiguous) e cause = decided (Order id ambiguous) e
    not_made (NoGroup erred) e cause = decided (NoGroup erred) e

  -- ---- the command

  as_seen : (old new : Outside) (end : Result (List ℕ) DetectRefusal) (spawners : List SpawnerSeen)
      → new.spawners ≡ spawners → ComesToRecorded source options path env old end (over new.world spawners)
      → ComesToRecorded source options path env old end new
  as_seen old new end spawners same h = subst (λ v. ComesToRecorded source options path env old end
      (over new.world v)) (sym same) h

  -- by the files and by what the children answered the command comes to what it comes to without a record, and to the
  -- record
  pub comes_to_recorded : (old new : Outside) (end : Result (List ℕ) DetectRefusal)
      → detects_recorded source options path env old end new → ComesToRecorded source options path env old end new
  unfolding detects_recorded chooses_recorded finds adds_record makes_record in_world in_spawners asks gives yields ◌>>=◌
  comes_to_recorded old new (Ok text) (rc, s, (prepared, first, h, (found, mid, ha, (bytes, made, hb, hy))), hw) =
      let same = hy.1 ∙ hb.0.0 in
      as_seen old new (Ok text) mid.spawners (hw.1 ∙ ap (λ o. o.spawners) same)
      (recorded old first prepared found bytes mid.spawners s.world (Ok text) new.world h ha.0
      (ap (λ o. o.world) same ∙ ha.1) hb.0.1 hb.1 (subst
      (λ v. writes_recorded options.work path v s.world (Ok text) new.world) hy.0 hw.0))
  comes_to_recorded old new (Err refusal) (inl (inl h)) = refused old new refusal
      (choice_refused old new refusal (preparation_refused old new refusal h))
  comes_to_recorded old new (Err refusal) (inl (inr (prepared, first, h, inl ha))) =
      refused old new refusal (choice_refused old new refusal
      (asking_refused old first prepared new.spawners new.world refusal h ha.0 ha.1))
  comes_to_recorded old new (Err refusal) (inl (inr (prepared, first, h, inr (found, mid, ha, inl hb)))) =
      subst (λ o. ComesToRecorded source options path env old (Err refusal) o) (sym hb.0.0)
      (not_made old first prepared found mid.spawners mid.world h ha.0 ha.1 refusal hb.0.1 hb.0.2)
  comes_to_recorded old new (Err refusal) (inl (inr
      (prepared, first, h, inr (found, mid, ha, inr (bytes, made, hb, hy))))) = absurd hy
  comes_to_recorded old new (Err refusal) (inr (
    rc,
    s,
    (prepared, first, h, (found, mid, ha, (bytes, made, hb, hy))),
    hw,
  )) =
      let same = hy.1 ∙ hb.0.0 in
      as_seen old new (Err refusal) mid.spawners (hw.1 ∙ ap (λ o. o.spawners) same)
      (recorded old first prepared found bytes mid.spawners s.world (Err refusal) new.world h ha.0
      (ap (λ o. o.world) same ∙ ha.1) hb.0.1 hb.1 (subst
      (λ v. writes_recorded options.work path v s.world (Err refusal) new.world) hy.0 hw.0))

  -- a refusal leaves all files, unless a call failed or memory ran out
  large_kept : (refusal : DetectRefusal) (o n : Option Tree) → refusal ≡ Limit Record → n ≡ o
      → KeepsFiles (Err refusal) o n
  large_kept refusal o n limit same = subst (λ r. KeepsFiles (Err r) o n) (sym limit) same

  write_kept : (refusal : DetectRefusal) (o n : Option Tree) → IsWriteCause path (cause_of refusal)
      → KeepsFiles (Err refusal) o n
  write_kept (File at) o n h = tt
  write_kept Memory o n h = tt
  write_kept Child o n h = absurd h
  write_kept (Document at why) o n h = absurd h
  write_kept (Limit kind) o n h = absurd h
  write_kept (BuildpackApi text) o n h = absurd h
  write_kept (Order id ambiguous) o n h = absurd h
  write_kept (NoGroup erred) o n h = absurd h

  pub keeps_files : (old new : Outside) (end : Result (List ℕ) DetectRefusal)
      → ComesToRecorded source options path env old end new → KeepsFiles end old.world.files new.world.files
  keeps_files old new (Ok text) h = tt
  keeps_files old new (Err refusal) (inl comes) = comes.kept
  keeps_files old new (Err refusal) (inr (inl large)) = large_kept refusal old.world.files new.world.files
      large.limit large.same.files
  keeps_files old new (Err refusal) (inr (inr wrote)) = write_kept refusal old.world.files new.world.files wrote.kept

  -- ---- who was asked, and what was chosen

  write_decides : (files : Option Tree) (old new : List SpawnerSeen) (refusal : DetectRefusal)
      → IsWriteCause path (cause_of refusal) → Decides source options env files old new (Err refusal)
  write_decides files old new (File at) h = tt
  write_decides files old new Memory h = tt
  write_decides files old new Child h = absurd h
  write_decides files old new (Document at why) h = absurd h
  write_decides files old new (Limit kind) h = absurd h
  write_decides files old new (BuildpackApi text) h = absurd h
  write_decides files old new (Order id ambiguous) h = absurd h
  write_decides files old new (NoGroup erred) h = absurd h

  pub decides_recorded : (old new : Outside) (end : Result (List ℕ) DetectRefusal)
      → ComesToRecorded source options path env old end new
      → DecidesRecorded source options env old.world.files old.spawners new.spawners end
  decides_recorded old new (Ok text) wrote =
      let decided = wrote.comes.first in (
        decided.0,
        wrote.kept.0 ∙ decided.1,
        subst (λ v. ChoosesFirst source options env old.world.files old.spawners v (Ok decided.0))
            (sym wrote.spawners) decided.2,
      )
  decides_recorded old new (Err refusal) (inl comes) = inl comes.first
  decides_recorded old new (Err refusal) (inr (inl large)) =
      inr (large.limit, choice_in large.found.chosen, large.first)
  decides_recorded old new (Err refusal) (inr (inr wrote)) =
      inl (write_decides old.world.files old.spawners new.spawners refusal wrote.kept)
