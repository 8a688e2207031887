-- Who was asked, and that the first trial that passes decides, by the steps of a choice.
use Rattle.std.proofs.Common.{◌≡◌, ◌∙◌, sym, ap, subst, ℕ, Bool, List, map, Option, Some, None, Result, Ok, Err}
use Rattle.std.proofs.Common.{inl, inr}
use Rattle.std.specs.Prelude.{IfSome}
use Rattle.cnb_toml.specs.declared.target.Target.{Target}
use Rattle.cnb_words.specs.declared.choice.ChoiceWords.{ChoiceWords}
use Rattle.cnb_world.specs.Runs.{Ran}
use Rattle.cnb_world.specs.Tree.{Tree}
use Rattle.cnb_world.specs.declared.env.Variable.{Variable}
use Rattle.cnb_world.specs.declared.limits.LimitKind.TheVariants.{Trials}
use Rattle.doc_files.specs.declared.fault.ReadFault.{ReadFault}
use Rattle.doc_files.specs.declared.fault.ReadFault.TheVariants as read
use Rattle.order_expand.specs.Groups.{listed_groups}
use Rattle.order_expand.specs.declared.order.OrderFault.{OrderFault}
use Rattle.order_expand.specs.declared.order.OrderFault.TheVariants as order
use Rattle.detect_core.specs.Answer.{build_plan, says}
use Rattle.detect_core.specs.Detection.{Ending, FirstTrial, TooManyTrials, asked_members, first_trial, fitting}
use Rattle.detect_core.specs.Detection.{has_erred, reached}
use Rattle.detect_core.proofs.OrderLemmas.{EachOnce, all_once, same_in_any_order}
use Rattle.steps.specs.Asking.{Asks, AskedBy, asks}
use Rattle.steps.specs.Outside.{Outside, Seen, SpawnerSeen}
use Rattle.steps.specs.Steps.{◌>>=◌, Same, gives, in_spawners, in_world, map_err}
use Rattle.cnb_detect.specs.Choice.{Choice, choice_by, choice_of, jobs_of, listed_jobs}
use Rattle.cnb_detect.specs.Detects.{chooses, text_of}
use Rattle.cnb_detect.specs.Outcome.{ChoosesFirst, Decides, IsPreparedFor, IsTargetOf, prepared_in}
use Rattle.cnb_detect.specs.Preparation.{prepares}
use Rattle.cnb_detect.specs.Refusals.{cause_of, of_order_fault, of_read_fault}
use Rattle.cnb_detect.specs.Target.{takes_target}
use Rattle.cnb_detect.specs.declared.preparation.Prepared.{Prepared}
use Rattle.cnb_detect.specs.declared.refusal.DetectRefusal.{DetectRefusal}
use Rattle.cnb_detect.specs.declared.refusal.DetectRefusal.TheVariants.{File, Memory, Document, Child, Limit}
use Rattle.cnb_detect.specs.declared.refusal.DetectRefusal.TheVariants.{BuildpackApi, Order, NoGroup}
use Rattle.cnb_detect.specs.declared.target.TargetSource.{TargetSource}
use Rattle.cnb_detect.specs.declared.target.TargetSource.TheVariants as target
use Rattle.cnb_detect.proofs.DetectLaws.{prepares_reads}

-- no buildpack is asked twice
pub exactly_once : (prepared : Prepared) (rans : List Ran) → map (λ ran. ran.job) rans ≡ jobs_of prepared rans
    → EachOnce rans
unfolding asked_members
exactly_once prepared rans jobs = all_once prepared.frame
    (fitting prepared.frame.target (reached (says prepared.frame.target build_plan rans) 0
    (listed_groups prepared.catalog prepared.order))) rans jobs

-- ---- what is read is never refused for want of a group

no_group_read : (fault : ReadFault) (erred : Bool) → NoGroup erred ≡ of_read_fault fault → ⊥
no_group_read (read.File path) erred e = cc
no_group_read (read.Document path fault) erred e = cc
no_group_read (read.Limit kind) erred e = cc
no_group_read read.Memory erred e = cc

no_group_checked : (fault : OrderFault) (erred : Bool) → NoGroup erred ≡ of_order_fault fault → ⊥
no_group_checked (order.Absent id) erred e = cc
no_group_checked (order.Ambiguous id) erred e = cc
no_group_checked (order.Api id api) erred e = cc
no_group_checked (order.Deep id) erred e = cc
no_group_checked order.ManyGroups erred e = cc
no_group_checked order.LongGroup erred e = cc
no_group_checked order.Memory erred e = cc

not_refused : {E A : Type 0} (value : A) (refusal : E) → Ok value ≡ Err refusal → ⊥
not_refused value refusal e = cc

no_group_targeted : (source : TargetSource) (work : List ℕ) (old new : Seen) (erred : Bool)
    → takes_target source work old (Err (NoGroup erred)) new → ⊥
unfolding gives map_err
no_group_targeted target.Document work old new erred (fault, is, h) = no_group_read fault erred is
no_group_targeted (target.Given given) work old new erred h = not_refused (Some given) (NoGroup erred) h.1

no_group_prepared : (source : TargetSource) (options : ChoiceWords) (env : List Variable) (old new : Seen)
    (erred : Bool) → prepares source options env old (Err (NoGroup erred)) new → ⊥
unfolding prepares gives map_err ◌>>=◌
no_group_prepared source options env old new erred (inl (fault, is, h)) = no_group_read fault erred is
no_group_prepared source options env old new erred (inr (o, m1, h1, inl (fault, is, h))) = no_group_read fault erred is
no_group_prepared source options env old new erred (inr (o, m1, h1, inr (c, m2, h2, inl (fault, is, h)))) =
    no_group_checked fault erred is
no_group_prepared source options env old new erred (inr (o, m1, h1, inr (c, m2, h2, inr (g, m3, h3, inl h)))) =
    no_group_targeted source options.work m3 new erred h
no_group_prepared source options env old new erred (inr (
  o,
  m1,
  h1,
  inr
      (c, m2, h2, inr (g, m3, h3, inr (t, m4, h4, inl (fault, is, h)))),
)) = no_group_read fault erred is
no_group_prepared source options env old new erred (inr (
  o,
  m1,
  h1,
  inr
      (c, m2, h2, inr (g, m3, h3, inr (t, m4, h4, inr (f, m5, h5, h)))),
)) = not_refused _ (NoGroup erred) h.1

-- ---- what is prepared

same_value : {E A : Type 0} (one other : A) → (let made : Result A E = Ok one in made) ≡ Ok other → other ≡ one
same_value one other e = cc

targeted : (source : TargetSource) (work : List ℕ) (old new : Seen) (known : Option Target)
    → takes_target source work old (Ok known) new → IsTargetOf source known
unfolding gives
targeted target.Document work old new known h = tt
targeted (target.Given given) work old new known h = same_value {E = DetectRefusal} (Some given) known h.1

pub made_for : (source : TargetSource) (options : ChoiceWords) (env : List Variable) (old new : Seen)
    (prepared : Prepared) → prepares source options env old (Ok prepared) new
    → IsPreparedFor source options env prepared
unfolding prepares gives map_err ◌>>=◌
made_for source options env old new prepared (o, m1, h1, (c, m2, h2, (g, m3, h3, (t, m4, h4, (f, m5, h5, h))))) =
    record {
      target = t;
      variables = f;
      frame = ap (λ p. p.frame) (same_value {E = DetectRefusal} _ prepared h.1);
      given = targeted source options.work m3 m4 t h4;
    }

-- ---- what a search is refused for

abbrev IsOfSearch : DetectRefusal → Type 0
IsOfSearch (Limit kind) = Unit {0}
IsOfSearch (NoGroup erred) = Unit {0}
IsOfSearch refusal = ⊥

of_search : (erred : Bool) (ending : Option Ending) (refusal : DetectRefusal) → choice_by erred ending ≡ Err refusal
    → IsOfSearch refusal
of_search erred (Some (FirstTrial place resolved kept)) refusal e = absurd (cc)
of_search erred (Some (TooManyTrials place)) refusal e = subst IsOfSearch
    (let same : Limit Trials ≡ refusal = cc in same) tt
of_search erred None refusal e = subst IsOfSearch (let same : NoGroup erred ≡ refusal = cc in same) tt

searched : (prepared : Prepared) (answers : List Ran) (refusal : DetectRefusal)
    → choice_of prepared answers ≡ Err refusal → IsOfSearch refusal
unfolding choice_of
searched prepared answers refusal e =
    of_search (has_erred prepared.frame.target (says prepared.frame.target build_plan answers) prepared.catalog
    prepared.order) (first_trial (says prepared.frame.target build_plan answers) prepared.catalog prepared.order)
    refusal e

-- ---- who was asked, and what was chosen

module _ (source : TargetSource) (options : ChoiceWords) (env : List Variable) where
  pub first_of : (files : Option Tree) (prepared : Prepared) (answers : List Ran) (old new : List SpawnerSeen)
      (end : Result Choice DetectRefusal) → IsPreparedFor source options env prepared
      → IfSome files (λ tree. prepared_in source options env tree ≡ Ok prepared) → AskedBy answers old new
      → map (λ ran. ran.job) answers ≡ jobs_of prepared answers
      → choice_of prepared answers ≡ end → ChoosesFirst source options env files old new end
  first_of files prepared answers old new end made read asked exactly chosen = record {
    prepared = prepared;
    made_for = made;
    read = read;
    answers = answers;
    asked = asked;
    exactly = exactly;
    any_order = λ target finished by. same_in_any_order target answers finished old new asked by
        (exactly_once prepared answers exactly);
    first = sym chosen;
  }

  -- the refusal of what was read
  pub decides_unasked : (old new : Seen) (files : Option Tree) (spawners after : List SpawnerSeen)
      (refusal : DetectRefusal) → prepares source options env old (Err refusal) new → after ≡ spawners
      → Decides source options env files spawners after (Err refusal)
  decides_unasked old new files spawners after (File path) h same = tt
  decides_unasked old new files spawners after Memory h same = tt
  decides_unasked old new files spawners after Child h same = tt
  decides_unasked old new files spawners after (Document path fault) h same = same
  decides_unasked old new files spawners after (Limit kind) h same = inl same
  decides_unasked old new files spawners after (BuildpackApi text) h same = same
  decides_unasked old new files spawners after (Order id ambiguous) h same = same
  decides_unasked old new files spawners after (NoGroup erred) h same =
      absurd (no_group_prepared source options env old new erred h)

  -- the refusal of a search
  pub decides_asked : (files : Option Tree) (prepared : Prepared) (old mid new : List SpawnerSeen)
      (refusal : DetectRefusal) → IsPreparedFor source options env prepared
      → IfSome files (λ tree. prepared_in source options env tree ≡ Ok prepared)
      → (h : Asks {A = Choice} cause_of (listed_jobs prepared) (jobs_of prepared) (choice_of prepared) mid
      (Err refusal) new) → AskedBy h.answers old new
      → Decides source options env files old new (Err refusal)
  decides_asked files prepared old mid new (File path) made read h asked = tt
  decides_asked files prepared old mid new Memory made read h asked = tt
  decides_asked files prepared old mid new Child made read h asked = tt
  decides_asked files prepared old mid new (Document path fault) made read h asked =
      absurd (searched prepared h.answers (Document path fault) h.meets.1)
  decides_asked files prepared old mid new (Limit kind) made read h asked =
      inr (first_of files prepared h.answers old new (Err (Limit kind)) made read asked h.meets.0 h.meets.1)
  decides_asked files prepared old mid new (BuildpackApi text) made read h asked =
      absurd (searched prepared h.answers (BuildpackApi text) h.meets.1)
  decides_asked files prepared old mid new (Order id ambiguous) made read h asked =
      absurd (searched prepared h.answers (Order id ambiguous) h.meets.1)
  decides_asked files prepared old mid new (NoGroup erred) made read h asked =
      first_of files prepared h.answers old new (Err (NoGroup erred)) made read asked h.meets.0 h.meets.1

  -- a choice
  pub chosen_first : (old new : Outside) (choice : Choice) → chooses source options env old (Ok choice) new
      → ChoosesFirst source options env old.world.files old.spawners new.spawners (Ok choice)
  unfolding chooses in_world in_spawners asks ◌>>=◌
  chosen_first old new choice (prepared, s1, h1, h2) =
      first_of old.world.files prepared h2.0.answers old.spawners new.spawners (Ok choice)
      (made_for source options env old.world s1.world prepared h1.0)
      (prepares_reads source options env old.world s1.world (Ok prepared) h1.0).answer
      (subst (λ v. AskedBy h2.0.answers v new.spawners) h1.1 h2.0.asked) h2.0.meets.0 h2.0.meets.1

  -- which leaves the files and the children of the world
  pub chosen_same : (old new : Outside) (choice : Choice) → chooses source options env old (Ok choice) new
      → Same old.world new.world
  unfolding chooses in_world in_spawners ◌>>=◌
  chosen_same old new choice (prepared, s1, h1, h2) =
      let same = (prepares_reads source options env old.world s1.world (Ok prepared) h1.0).same in
      record {
        files = ap (λ s. s.files) h2.1 ∙ same.files;
        runs = ap (λ s. s.runs) h2.1 ∙ same.runs;
      }

-- a choice with its text
pub decides_chosen : (source : TargetSource) (options : ChoiceWords) (env : List Variable) (files : Option Tree)
    (old new : List SpawnerSeen) (choice : Choice) (text : List ℕ)
    → (let given : Result (List ℕ) DetectRefusal = Ok (text_of choice) in given) ≡ Ok text
    → ChoosesFirst source options env files old new (Ok choice)
    → Decides source options env files old new (Ok text)
decides_chosen source options env files old new choice text is first =
    (choice, (let same : text ≡ text_of choice = cc in same), first)
