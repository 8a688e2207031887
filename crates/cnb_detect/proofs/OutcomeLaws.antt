-- What `detect` comes to, by what it does.
use Rattle.std.proofs.Common.{◌≡◌, ◌∙◌, refl, sym, ap, subst, arith, ℕ, true, List, [], Option, Some, None, Result, Ok}
use Rattle.std.proofs.Common.{Err, inl, inr}
use Rattle.std.specs.Prelude.{IfSome, map}
use Rattle.std.specs.Option.{option_map}
use Rattle.cnb_world.specs.Calls.{MayMisuse}
use Rattle.cnb_world.specs.Path.{is_path}
use Rattle.cnb_world.specs.Runs.{Ran}
use Rattle.cnb_world.specs.Tree.{Tree}
use Rattle.cnb_world.specs.declared.env.Variable.{Variable}
use Rattle.cnb_words.specs.declared.choice.ChoiceWords.{ChoiceWords}
use Rattle.run_docs.specs.Group.{group_in}
use Rattle.run_docs.specs.Plan.{plan_in}
use Rattle.order_expand.specs.Groups.{listed_groups}
use Rattle.detect_core.specs.Detection.{fitting}
use Rattle.detect_core.proofs.OrderLemmas.{EachOnce, each_once, same_in_any_order}
use Rattle.steps.specs.Asking.{AreSome, Asks, AskedBy, AsksBy, asks}
use Rattle.steps.specs.Causes.{Cause, FileFailed, ChildFailed, OutOfMemory, Decided, IsAnswer, IsGivenCause}
use Rattle.steps.specs.Causes.{WhereDecided}
use Rattle.steps.specs.Keeping.{IsOldOrNew, standing}
use Rattle.steps.specs.Outside.{Outside, Seen, SpawnerSeen}
use Rattle.steps.specs.Results.{and_then}
use Rattle.steps.specs.Steps.{◌>>=◌, gives, in_spawners, in_world, yields}
use Rattle.steps.proofs.AskingLemmas.{asked_none}
use Rattle.steps.proofs.ReadingLaws.{IsRead, may_first, may_same, where_map}
use Rattle.cnb_detect.specs.declared.preparation.Prepared.{Prepared}
use Rattle.cnb_detect.specs.declared.refusal.DetectRefusal.{DetectRefusal}
use Rattle.cnb_detect.specs.declared.refusal.DetectRefusal.TheVariants.{Child, File, Memory}
use Rattle.cnb_detect.specs.declared.target.TargetSource.{TargetSource}
use Rattle.cnb_detect.specs.Choice.{Choice, choice_of, jobs_of, listed_jobs}
use Rattle.cnb_detect.specs.Detects.{chooses, detects, text_of}
use Rattle.cnb_detect.specs.Documents.{WritesChoice, can_write_choice, group_document, plan_document}
use Rattle.cnb_detect.specs.Outcome.{ComesTo, Decides, IsChoiceWith, KeepsFiles, WritesBoth, detect_choice}
use Rattle.cnb_detect.specs.Outcome.{outcome_of, prepared_in}
use Rattle.cnb_detect.specs.Preparation.{is_fit_preparation}
use Rattle.cnb_detect.specs.Refusals.{cause_of}
use Rattle.steps.proofs.StepLemmas.{allowed_by}
use Rattle.cnb_detect.proofs.DetectLaws.{prepares_reads}
use Rattle.cnb_detect.proofs.FirstLaws.{decides_asked, decides_chosen, decides_unasked, exactly_once, first_of}
use Rattle.cnb_detect.proofs.FirstLaws.{made_for}
use Rattle.cnb_detect.proofs.WritingLaws.{ChoiceWritten, IsWriteRefusal, choice_written}

old_or_new_as : (o n : Option Tree) (path : List ℕ) (P Q : List ℕ → Type 0)
    → ((bytes : List ℕ) → P bytes → Q bytes) → IsOldOrNew o n path P → IsOldOrNew o n path Q
old_or_new_as o n path P Q f (inl same) = inl same
old_or_new_as o n path P Q f (inr (bytes, says, stands)) = inr (bytes, f bytes says, stands)

asked_from : (answers : List Ran) (a a1 b b1 : List SpawnerSeen) → a1 ≡ a → b1 ≡ b → AskedBy answers a1 b
    → AskedBy answers a b1
asked_from answers a a1 b b1 first last h = subst (λ v. AskedBy answers v b1) first
    (subst (λ v. AskedBy answers a1 v) (sym last) h)

write_answer : {A : Type 0} (refusal : DetectRefusal) (want : Result A DetectRefusal) → IsWriteRefusal refusal
    → IsAnswer cause_of (Err refusal) want
write_answer (File path) want h = tt
write_answer Memory want h = tt
write_answer refusal want h = absurd h

-- a refusal behind the choice is told for a call that failed or want of memory, and then of nothing else
write_decides : (source : TargetSource) (options : ChoiceWords) (env : List Variable) (files : Option Tree)
    (old new : List SpawnerSeen) (refusal : DetectRefusal) → IsWriteRefusal refusal
    → Decides source options env files old new (Err refusal)
write_decides source options env files old new (File path) h = tt
write_decides source options env files old new Memory h = tt
write_decides source options env files old new refusal h = absurd h

text_refused : (refusal : DetectRefusal) (text : List ℕ) → IsAnswer cause_of (Err refusal) (Ok text)
    → IsGivenCause (cause_of refusal) → IsWriteRefusal refusal
text_refused (File path) text h given = tt
text_refused Memory text h given = tt
text_refused Child text h given = absurd given
text_refused refusal text h given = absurd (cc)

text_decides : (source : TargetSource) (options : ChoiceWords) (env : List Variable) (files : Option Tree)
    (old new : List SpawnerSeen) (refusal : DetectRefusal) (text : List ℕ)
    → IsAnswer cause_of (Err refusal) (Ok text) → IsGivenCause (cause_of refusal)
    → Decides source options env files old new (Err refusal)
text_decides source options env files old new refusal text h given =
    write_decides source options env files old new refusal (text_refused refusal text h given)

write_kept : (refusal : DetectRefusal) (o n : Option Tree) → IsWriteRefusal refusal → KeepsFiles (Err refusal) o n
write_kept (File path) o n h = tt
write_kept Memory o n h = tt
write_kept refusal o n h = absurd h

kept_same : (refusal : DetectRefusal) (o n : Option Tree) → n ≡ o → KeepsFiles (Err refusal) o n
kept_same (File path) o n e = tt
kept_same Memory o n e = tt
kept_same refusal o n e = e

asks_answer : (cause : Cause) (Few P Q : Type 0) → AsksBy cause Few (P × Q) → WhereDecided cause Q
asks_answer (FileFailed path) Few P Q h = tt
asks_answer ChildFailed Few P Q h = tt
asks_answer OutOfMemory Few P Q h = tt
asks_answer Decided Few P Q h = h.1

none_once : EachOnce []
none_once key = omega arith

once_by : (prepared : Prepared) (rans : List Ran) (cause : Cause) (P : Type 0)
    → AsksBy cause (AreSome (map (λ ran. ran.job) rans) (listed_jobs prepared))
    ((map (λ ran. ran.job) rans ≡ jobs_of prepared rans) × P) → EachOnce rans
once_by prepared rans (FileFailed path) P h = absurd h
once_by prepared rans ChildFailed P h = each_once prepared.frame
    (fitting prepared.frame.target (listed_groups prepared.catalog prepared.order)) rans h
once_by prepared rans OutOfMemory P h = each_once prepared.frame
    (fitting prepared.frame.target (listed_groups prepared.catalog prepared.order)) rans h
once_by prepared rans Decided P h = exactly_once prepared rans h.0

asks_once : (prepared : Prepared) (old new : List SpawnerSeen) (result : Result Choice DetectRefusal)
    (h : Asks cause_of (listed_jobs prepared) (jobs_of prepared) (choice_of prepared) old result new)
    → EachOnce h.answers
asks_once prepared old new (Ok choice) h = exactly_once prepared h.answers h.meets.0
asks_once prepared old new (Err refusal) h = once_by prepared h.answers (cause_of refusal)
    (choice_of prepared h.answers ≡ Err refusal) h.meets

module _ (source : TargetSource) (options : ChoiceWords) (env : List Variable) where
  choice_where : (o : Option Tree) (prepared : Prepared) (answers : List Ran) (want : Result Choice DetectRefusal)
      → IfSome o (λ files. prepared_in source options env files ≡ Ok prepared) → choice_of prepared answers ≡ want
      → IfSome o (λ files. detect_choice source options env answers files ≡ want)
  unfolding detect_choice
  choice_where None prepared answers want is e = tt
  choice_where (Some files) prepared answers want is e = ap (λ p. and_then p (λ q. choice_of q answers)) is ∙ e

  outcome_where : (o : Option Tree) (answers : List Ran) (want : Result Choice DetectRefusal)
      (end : Result (List ℕ) DetectRefusal) → IfSome o (λ files. detect_choice source options env answers files
      ≡ want)
      → IsAnswer cause_of end (outcome_of want) → IfSome o (λ files. IsAnswer cause_of end
      (outcome_of (detect_choice source options env answers files)))
  outcome_where None answers want end is h = tt
  outcome_where (Some files) answers want end is h = subst (λ c. IsAnswer cause_of end (outcome_of c)) (sym is) h

  refused_where : (o : Option Tree) (refusal : DetectRefusal)
      → IfSome o (λ files. IsAnswer cause_of (Err refusal) (prepared_in source options env files))
      → IfSome o (λ files. IsAnswer cause_of (Err refusal) (outcome_of (detect_choice source options env [] files)))
  unfolding detect_choice
  refused_where None refusal h = tt
  refused_where (Some files) refusal h =
      where_map (cause_of refusal) (prepared_in source options env files ≡ Err refusal)
      (outcome_of (and_then (prepared_in source options env files) (λ q. choice_of q [])) ≡ Err refusal)
      (λ e. ap (λ p. outcome_of (and_then p (λ q. choice_of q []))) e) h

  reads_choice : (o : Option Tree) (answers : List Ran) (choice : Choice) (P : Choice → Type 0)
      → IfSome o (λ files. detect_choice source options env answers files ≡ Ok choice) → P choice
      → IfSome o (λ files. IsChoiceWith (detect_choice source options env answers files) P)
  reads_choice None answers choice P is p = tt
  reads_choice (Some files) answers choice P is p = subst (λ c. IsChoiceWith c P) (sym is) p

  -- it was refused before anything was written
  unwritten : (old new : Outside) (refusal : DetectRefusal) (answers : List Ran)
      → AskedBy answers old.spawners new.spawners → EachOnce answers
      → Decides source options env old.world.files old.spawners new.spawners (Err refusal)
      → IfSome old.world.files (λ files. IsAnswer cause_of (Err refusal)
      (outcome_of (detect_choice source options env answers files)))
      → new.world.files ≡ old.world.files → new.world.runs ≡ old.world.runs
      → MayMisuse (option_map (is_fit_preparation source options) old.world.files) old.world.misused
      new.world.misused
      → ComesTo source options env old (Err refusal) new
  unwritten old new refusal answers asked once first comes files runs misused = record {
    answers = answers;
    asked = asked;
    any_order = λ target finished by. same_in_any_order target answers finished old.spawners new.spawners asked by once;
    first = first;
    comes = comes;
    group = inl (ap (λ o. standing o (group_document options.work)) files);
    plan = inl (ap (λ o. standing o (plan_document options.work)) files);
    written = tt;
    kept = kept_same refusal old.world.files new.world.files files;
    others = λ q g p. ap (λ o. standing o q) files;
    runs = runs;
    misused = may_first (is_fit_preparation source options)
        (can_write_choice options.work) old.world.files old.world.misused new.world.misused misused;
  }

  -- the choice was written, or its writing was refused
  wrote : (old : Outside) (mid : Seen) (new : Outside) (end : Result (List ℕ) DetectRefusal)
      (result : Result (Unit {0}) DetectRefusal) (prepared : Prepared) (choice : Choice) (answers : List Ran)
      → AskedBy answers old.spawners new.spawners → EachOnce answers
      → Decides source options env old.world.files old.spawners new.spawners end
      → IsRead cause_of (is_fit_preparation source options) (prepared_in source options env) old.world
      (Ok prepared) mid → choice_of prepared answers ≡ Ok choice
      → ChoiceWritten options.work choice mid result new.world → IsAnswer cause_of end (outcome_of (Ok choice))
      → WritesBoth end options.work (λ c. IfSome old.world.files
      (λ files. detect_choice source options env answers files ≡ Ok c)) old.world.files new.world.files
      → KeepsFiles end old.world.files new.world.files → ComesTo source options env old end new
  wrote old mid new end result prepared choice answers asked once first read chosen w comes both kept =
      let is = choice_where old.world.files prepared answers (Ok choice) read.answer chosen in
      let stood : (q : List ℕ) → standing mid.files q ≡ standing old.world.files q = λ q. ap
      (λ o. standing o q) read.same.files in
      record {
        answers = answers;
        asked = asked;
        any_order = λ target finished by. same_in_any_order target answers finished old.spawners new.spawners
            asked by once;
        first = first;
        comes = outcome_where old.world.files answers (Ok choice) end is comes;
        group = old_or_new_as old.world.files new.world.files (group_document options.work)
            (λ bytes. group_in bytes ≡ Ok choice.group) _
            (λ bytes says. reads_choice old.world.files answers choice (λ c. group_in bytes ≡ Ok c.group) is says)
            (subst (λ o. IsOldOrNew o new.world.files (group_document options.work)
            (λ bytes. group_in bytes ≡ Ok choice.group)) read.same.files w.group);
        plan = old_or_new_as old.world.files new.world.files (plan_document options.work)
            (λ bytes. plan_in bytes ≡ Ok choice.plan) _
            (λ bytes says. reads_choice old.world.files answers choice (λ c. plan_in bytes ≡ Ok c.plan) is says)
            (subst (λ o. IsOldOrNew o new.world.files (plan_document options.work)
            (λ bytes. plan_in bytes ≡ Ok choice.plan)) read.same.files w.plan);
        written = both;
        kept = kept;
        others = λ q g p. w.others q g p ∙ stood q;
        runs = w.runs ∙ read.same.runs;
        misused = may_same (is_fit_preparation source options) (can_write_choice options.work) old.world.files
            mid.files old.world.misused mid.misused new.world.misused read.same.files read.allows w.misused;
      }

  both_from : (o m n : Option Tree) (prepared : Prepared) (answers : List Ran) (choice : Choice) (text : List ℕ)
      → m ≡ o → IfSome o (λ files. detect_choice source options env answers files ≡ Ok choice)
      → WritesChoice options.work choice m n
      → WritesBoth (Ok text) options.work (λ c. IfSome o
      (λ files. detect_choice source options env answers files ≡ Ok c)) o n
  both_from o m n prepared answers choice text same is b =
      (choice, is, subst (λ v. WritesChoice options.work choice v n) same b)

  any_files : (o : Option Tree) → IfSome o (λ files. Unit {0})
  any_files None = tt
  any_files (Some files) = tt

  still : (o : Option Tree) (n : ℕ) → MayMisuse (option_map (is_fit_preparation source options) o) n n
  still o n = allowed_by (is_fit_preparation source options) o n n refl

  -- memory ran out before anything was done
  pub no_memory_outcome : (old : Outside) → ComesTo source options env old (Err Memory) old
  no_memory_outcome old = unwritten old old Memory [] (asked_none old.spawners) none_once
      tt (any_files old.world.files) refl refl (still old.world.files old.world.misused)

  pub comes_to : is_path options.work ≡ true → (old new : Outside) (end : Result (List ℕ) DetectRefusal)
      → detects source options env old end new → ComesTo source options env old end new
  unfolding detects chooses in_world in_spawners asks gives yields ◌>>=◌
  comes_to path old new (Ok text) (choice, s2, (prepared, s1, h1, h2), (t, s3, h3, (u, s4, h4, y))) =
      let read = prepares_reads source options env old.world s1.world (Ok prepared) h1.0 in
      let w : ChoiceWritten options.work choice s1.world (Ok u) new.world =
      subst (λ v. ChoiceWritten options.work choice v (Ok u) new.world) (ap (λ s. s.world) h3.0 ∙ h2.1)
      (subst (λ v. ChoiceWritten options.work choice s3.world (Ok u) v) (sym (ap (λ s. s.world) y.1))
      (choice_written options.work choice path s3.world s4.world (Ok u) h4.0)) in
      let asked = asked_from h2.0.answers old.spawners s1.spawners s2.spawners new.spawners h1.1
      (ap (λ s. s.spawners) y.1 ∙ h4.1 ∙ ap (λ s. s.spawners) h3.0) h2.0.asked in
      wrote old s1.world new (Ok text) (Ok u) prepared choice h2.0.answers asked
      (asks_once prepared s1.spawners s2.spawners (Ok choice) h2.0)
      (decides_chosen source options env old.world.files old.spawners new.spawners choice text
      (h3.1 ∙ ap Ok (sym y.0)) (first_of source options env old.world.files prepared h2.0.answers old.spawners
      new.spawners (Ok choice) (made_for source options env old.world s1.world prepared h1.0) read.answer asked
      h2.0.meets.0 h2.0.meets.1))
      read h2.0.meets.1 w (h3.1 ∙ ap Ok (sym y.0))
      (both_from old.world.files s1.world.files new.world.files prepared h2.0.answers choice text read.same.files
      (choice_where old.world.files prepared h2.0.answers (Ok choice) read.answer h2.0.meets.1) w.both) tt
  comes_to path old new (Err refusal) (inl (inl h1)) =
      let read = prepares_reads source options env old.world new.world (Err refusal) h1.0 in
      unwritten old new refusal [] (subst (λ v. AskedBy [] old.spawners v) (sym h1.1) (asked_none old.spawners))
      none_once (decides_unasked source options env old.world new.world old.world.files old.spawners new.spawners
      refusal h1.0 h1.1) (refused_where old.world.files refusal read.answer) read.same.files read.same.runs read.allows
  comes_to path old new (Err refusal) (inl (inr (prepared, s1, h1, h2))) =
      let read = prepares_reads source options env old.world s1.world (Ok prepared) h1.0 in
      let world : new.world ≡ s1.world = h2.1 in
      let asked = subst (λ v. AskedBy h2.0.answers v new.spawners) h1.1 h2.0.asked in
      unwritten old new refusal h2.0.answers asked
      (asks_once prepared s1.spawners new.spawners (Err refusal) h2.0)
      (decides_asked source options env old.world.files prepared old.spawners s1.spawners new.spawners refusal
      (made_for source options env old.world s1.world prepared h1.0) read.answer h2.0 asked)
      (outcome_where old.world.files h2.0.answers (choice_of prepared h2.0.answers) (Err refusal)
      (choice_where old.world.files prepared h2.0.answers (choice_of prepared h2.0.answers) read.answer refl)
      (where_map (cause_of refusal) (choice_of prepared h2.0.answers ≡ Err refusal)
      (outcome_of (choice_of prepared h2.0.answers) ≡ Err refusal) (λ e. ap outcome_of e)
      (asks_answer (cause_of refusal) _ _ _ h2.0.meets)))
      (ap (λ v. v.files) world ∙ read.same.files) (ap (λ v. v.runs) world ∙ read.same.runs)
      (subst (λ v. MayMisuse (option_map (is_fit_preparation source options) old.world.files) old.world.misused v)
      (sym (ap (λ v. v.misused) world)) read.allows)
  comes_to path old new (Err refusal) (inr (choice, s2, (prepared, s1, h1, h2), inl h3)) =
      let read = prepares_reads source options env old.world s1.world (Ok prepared) h1.0 in
      let world : new.world ≡ s1.world = ap (λ s. s.world) h3.0 ∙ h2.1 in
      unwritten old new refusal h2.0.answers (asked_from h2.0.answers old.spawners s1.spawners s2.spawners
      new.spawners h1.1 (ap (λ s. s.spawners) h3.0) h2.0.asked)
      (asks_once prepared s1.spawners s2.spawners (Ok choice) h2.0)
      (text_decides source options env old.world.files old.spawners new.spawners refusal (text_of choice) h3.1 h3.2)
      (outcome_where old.world.files h2.0.answers (Ok choice) (Err refusal)
      (choice_where old.world.files prepared h2.0.answers (Ok choice) read.answer h2.0.meets.1) h3.1)
      (ap (λ v. v.files) world ∙ read.same.files) (ap (λ v. v.runs) world ∙ read.same.runs)
      (subst (λ v. MayMisuse (option_map (is_fit_preparation source options) old.world.files) old.world.misused v)
      (sym (ap (λ v. v.misused) world)) read.allows)
  comes_to path old new (Err refusal) (inr (choice, s2, (prepared, s1, h1, h2), inr (t, s3, h3, inl h4))) =
      let read = prepares_reads source options env old.world s1.world (Ok prepared) h1.0 in
      let w : ChoiceWritten options.work choice s1.world (Err refusal) new.world =
      subst (λ v. ChoiceWritten options.work choice v (Err refusal) new.world) (ap (λ s. s.world) h3.0 ∙ h2.1)
      (choice_written options.work choice path s3.world new.world (Err refusal) h4.0) in
      wrote old s1.world new (Err refusal) (Err refusal) prepared choice h2.0.answers
      (asked_from h2.0.answers old.spawners s1.spawners s2.spawners new.spawners h1.1
      (h4.1 ∙ ap (λ s. s.spawners) h3.0) h2.0.asked)
      (asks_once prepared s1.spawners s2.spawners (Ok choice) h2.0)
      (write_decides source options env old.world.files old.spawners new.spawners refusal w.cause)
      read h2.0.meets.1 w (write_answer refusal (outcome_of (Ok choice)) w.cause) tt
      (write_kept refusal old.world.files new.world.files w.cause)
  comes_to path old new (Err refusal) (inr (
    choice,
    s2,
    (prepared, s1, h1, h2),
    inr
        (t, s3, h3, inr (u, s4, h4, y)),
  )) = absurd y
