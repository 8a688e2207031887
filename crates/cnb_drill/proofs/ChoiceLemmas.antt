-- What a detection over the drill's spawners answers, and which children it runs.
use Rattle.std.proofs.Common.{◌≡◌, ◌∙◌, refl, sym, ap, subst, inl, inr, ℕ, ◌<◌, Bool, List, [], ◌∷◌, ◌++◌, map, length}
use Rattle.std.proofs.Common.{arith}
use Rattle.std.specs.Prelude.{Option, Some, None, Result, Ok, Err, IsOk, IsTrue, OnErr}
use Rattle.std.specs.List.{AllByRecursion}
use Rattle.std.proofs.lemmas.List.{map-append, length-map}
use Rattle.cnb_world.specs.declared.child.DetectJob.{DetectJob}
use Rattle.cnb_world.specs.declared.child.Reply.{Reply}
use Rattle.cnb_world.specs.declared.values.Memory.{Memory}
use Rattle.cnb_world.specs.Runs.{Ran}
use Rattle.cnb_toml.specs.declared.names.Key.{Key}
use Rattle.bp_docs.specs.declared.descriptor.Entry.{Entry}
use Rattle.bp_docs.specs.declared.descriptor.Descriptor.{Descriptor}
use Rattle.order_expand.specs.declared.order.OrderFault.{OrderFault}
use Rattle.order_expand.specs.declared.order.OrderFault.TheVariants as order
use Rattle.order_expand.specs.Check.{checked, cause_of as order_cause}
use Rattle.order_expand.specs.declared.member.Member.{Member}
use Rattle.order_expand.specs.Groups.{listed_groups}
use Rattle.steps.specs.Asking.{AreSaid, AreSome, AskedBy, CountsSpawners, IsMadeOf, OneRose, RunShares}
use Rattle.steps.specs.Outside.{SpawnerSeen, faults_of}
use Rattle.steps.proofs.AskingLemmas.{asked_none}
use Rattle.detect_core.specs.declared.chosen.Chosen.{Chosen}
use Rattle.detect_core.specs.declared.chosen.DetectEnd.{DetectEnd}
use Rattle.detect_core.specs.declared.chosen.DetectEnd.TheVariants as end
use Rattle.detect_core.specs.declared.chosen.DetectFrame.{DetectFrame}
use Rattle.detect_core.specs.Answer.{build_plan, says}
use Rattle.detect_core.specs.Detection.{Ending, FirstTrial, first_trial, asked_members, asked_keys, has_erred}
use Rattle.detect_core.specs.Detection.{members_of, reached}
use Rattle.detect_core.specs.Job.{detect_job}
use Rattle.detect_core.specs.Search.{DetectsAs, IsChoice, OnDetected, RunsAsked, end_cause, is_short}
use Rattle.detect_core.specs.Asking.{unmet}
use Rattle.detect_core.proofs.FittingLemmas.{fitting-none}
use Rattle.detect_core.proofs.MemberLemmas.{flat, keys_of_members, members-front}
use Rattle.cnb_drill.specs.Digits.{asked_count}
use Rattle.cnb_drill.specs.Runs.{RunsDrill, said_by}
use Rattle.cnb_drill.specs.Spawners.{AnswerBy}
use Rattle.cnb_drill.specs.Frame.{drill_frame}
use Rattle.cnb_drill.specs.Law.{found_in, found_of}
use Rattle.cnb_drill.specs.Order.{drill_catalog, drill_order}
use Rattle.cnb_drill.specs.Replies.{drill_replies}
use Rattle.cnb_drill.proofs.Members.{IsDrilled, drill_resolved, group_keys}
use Rattle.steps.specs.Causes.{IsAnswer}
use Rattle.cnb_drill.proofs.CountLemmas.{each_append, each_first, each_second}
use Rattle.cnb_drill.proofs.CheckLemmas.{checked_drill}
use Rattle.cnb_drill.proofs.DrillLemmas.{asked_reached, drilled_by_runs, asked_by_runs, reached_by_replies}

-- ---- what `check` answers

pub checks : (result : Result ℕ OrderFault) (catalog : List Descriptor) (order : List (List Entry))
    → order ≡ drill_order → catalog ≡ drill_catalog → IsAnswer order_cause result (checked catalog order)
    → IsAnswer order_cause result (Ok 4096)
checks result catalog order o c h = subst (IsAnswer order_cause result) ((λ i. checked (c i) (o i)) ∙ checked_drill) h

pub checks_ok : (n : ℕ) → IsAnswer order_cause (Ok n) (Ok 4096) → n ≡ 4096
checks_ok n h = cc

pub checks_err : (fault : OrderFault) → IsAnswer {A = ℕ} order_cause (Err fault) (Ok 4096) → fault ≡ order.Memory
checks_err (order.Absent id) h = absurd cc
checks_err (order.Ambiguous id) h = absurd cc
checks_err (order.Api id api) h = absurd cc
checks_err (order.Deep id) h = absurd cc
checks_err order.ManyGroups h = absurd cc
checks_err order.LongGroup h = absurd cc
checks_err order.Memory h = refl

pub drill_is_ok : (catalog : List Descriptor) (order : List (List Entry)) → order ≡ drill_order
    → catalog ≡ drill_catalog → IsOk (checked catalog order)
drill_is_ok catalog order o c = subst IsOk (sym ((λ i. checked (c i) (o i)) ∙ checked_drill)) refl

-- ---- what the children that spawners ran said

said_made : (said : Option (List Reply)) (rans : List Ran) (shares : List (List Ran)) → IsMadeOf rans shares
    → AllByRecursion (AreSaid said) shares → AreSaid said rans
said_made said [] shares made all = tt
said_made said (ran ∷ rans) shares (front, rest, back, is, made) all =
    let parts = subst (AllByRecursion (AreSaid said)) is all in
    let own = each_second (AreSaid said) front ((ran ∷ rest) ∷ back) parts in (
      own.0.0,
      said_made said rans (front ++ rest ∷ back) made
          (each_append (AreSaid said) front (rest ∷ back)
          (each_first (AreSaid said) front ((ran ∷ rest) ∷ back) parts) (own.0.1, own.1)),
    )

said_shares : (said : Option (List Reply)) (shares : List (List Ran)) (old new : List SpawnerSeen)
    → RunShares shares old new → AllByRecursion (λ spawner. spawner.says ≡ said) old
    → AllByRecursion (AreSaid said) shares
said_shares said [] old new ran all = tt
said_shares said (share ∷ shares) [] new ran all = absurd ran
said_shares said (share ∷ shares) (o ∷ old) [] ran all = absurd ran
said_shares said (share ∷ shares) (o ∷ old) (n ∷ new) ran all =
    (subst (λ (s : Option (List Reply)). AreSaid s share) all.0 ran.0.said, said_shares said shares old new ran.1 all.1)

said_all : (number : ℕ) (rans : List Ran) (old new : List SpawnerSeen) → AskedBy rans old new
    → AnswerBy number old → AreSaid (Some (drill_replies number)) rans
said_all number rans old new asked all =
    said_made (Some (drill_replies number)) rans asked.shares asked.made
    (said_shares (Some (drill_replies number)) asked.shares old new asked.ran all)

-- ---- spawners that never fail

abbrev pub AreZero : List ℕ → Type 0
AreZero counts = AllByRecursion (λ count. count ≡ 0) counts

none_rose : (before now : List ℕ) → AreZero now → OneRose before now → ⊥
none_rose [] now zero rose = rose
none_rose (b ∷ before) [] zero rose = rose
none_rose (b ∷ before) (n ∷ now) zero rose = elim rose [
  | inl r ↦ let up = r.0.up in let none = zero.0 in omega arith
  | inr r ↦ none_rose before now zero.1 r.1
]

pub zero_all : {S : Type 0} (see : S → SpawnerSeen) → ((spawner : S) → (see spawner).faults ≡ 0)
    → (spawners : List S) → AreZero (faults_of (map see spawners))
zero_all see zero [] = tt
zero_all see zero (spawner ∷ spawners) = (zero spawner, zero_all see zero spawners)

short_frame : IsTrue (is_short drill_frame)
unfolding drill_frame
short_frame = refl

pub is_short_frame : (frame : DetectFrame) → frame ≡ drill_frame → IsTrue (is_short frame)
is_short_frame frame e = subst (λ (f : DetectFrame). IsTrue (is_short f)) (sym e) short_frame

-- ---- which children are asked

some_front : (xs ys : List DetectJob) → AreSome xs (xs ++ ys)
some_front [] ys = tt
some_front (x ∷ xs) ys = inl (refl, some_front xs ys)

-- those that are asked by the replies are some of those that the order lists
asked_some : (number : ℕ) → number < 4096 → (frame : DetectFrame) →
    AreSome (map (detect_job frame) (asked_members None (said_by (drill_replies number)) drill_catalog
    drill_order)) (map (detect_job frame) (members_of (listed_groups drill_catalog drill_order)))
asked_some number h frame =
    let split = reached_by_replies number h in
    let asked = members_of (reached (said_by (drill_replies number)) 0 (listed_groups drill_catalog drill_order)) in
    let others = unmet (keys_of_members asked) (flat split.0) in
    let all : members_of (listed_groups drill_catalog drill_order) ≡ asked ++ others =
    ap members_of split.1 ∙ members-front (reached (said_by (drill_replies number)) 0
    (listed_groups drill_catalog drill_order)) split.0 in
    subst (λ (p : List DetectJob × List DetectJob). AreSome p.0 p.1)
    (λ i. (
      ap (map (detect_job frame)) (sym (asked_reached (said_by (drill_replies number)))) i,
      sym
          (ap (map (detect_job frame)) all ∙ map-append (detect_job frame) asked others) i,
    ))
    (some_front (map (detect_job frame) asked) (map (detect_job frame) others))

-- no child ran
pub runs_none : {A : Type 0} (number : ℕ) (old : List SpawnerSeen) (memory : Memory)
    → RunsDrill {A = A} number old (Err memory) old
runs_none number old memory = record { answers = []; asked = asked_none old; exactly = tt; count = tt; some = tt }

-- memory ran out later
pub runs_later : {A B : Type 0} (number : ℕ) → number < 4096
    → (old new : List SpawnerSeen) (value : A) (memory : Memory) → RunsDrill number old (Ok value) new
    → RunsDrill {A = B} number old (Err memory) new
runs_later number h old new value memory r = record {
  answers = r.answers;
  asked = r.asked;
  exactly = tt;
  count = tt;
  some = subst (λ (jobs : List DetectJob). AreSome jobs
      (map (detect_job drill_frame) (members_of (listed_groups drill_catalog drill_order)))) (sym r.exactly)
      (asked_some number h drill_frame);
}

-- the same, for another answer
pub runs_ok : {A B : Type 0} (number : ℕ) (old new : List SpawnerSeen) (value : A) (other : B)
    → RunsDrill number old (Ok value) new → RunsDrill number old (Ok other) new
runs_ok number old new value other r = record
    { answers = r.answers; asked = r.asked; exactly = r.exactly; count = r.count; some = tt }

pub runs_err : {A B : Type 0} (number : ℕ) (old new : List SpawnerSeen) (fault memory : Memory)
    → RunsDrill {A = A} number old (Err fault) new → RunsDrill {A = B} number old (Err memory) new
runs_err number old new fault memory r = record
    { answers = r.answers; asked = r.asked; exactly = tt; count = tt; some = r.some }

pub runs_any : {A B : Type 0} (number : ℕ) → number < 4096
    → (old new : List SpawnerSeen) (value : A) (result : Result B Memory) → RunsDrill number old (Ok value) new
    → RunsDrill number old result new
runs_any number h old new value (Ok other) r = runs_ok number old new value other r
runs_any number h old new value (Err memory) r = runs_later number h old new value memory r

-- ---- what `detect` answers

-- what `detect` says of an answer
pub record Detected (frame : DetectFrame) (catalog : List Descriptor) (order : List (List Entry))
    (old : List SpawnerSeen) (result : Result Chosen DetectEnd) (new : List SpawnerSeen) : Type 0 where
  pub detects : (finished : List Ran) → AskedBy finished old new →
      DetectsAs result (first_trial (says frame.target build_plan finished) catalog order)
      (asked_keys frame.target (says frame.target build_plan finished) catalog order)
      (has_erred frame.target (says frame.target build_plan finished) catalog order)
  pub asked : RunsAsked frame catalog order old result new
  pub faults : CountsSpawners end_cause result (faults_of old) (faults_of new)

-- a detection of the drill's order, for no image that is known
pub record DrillDetected (old : List SpawnerSeen) (result : Result Chosen DetectEnd)
    (new : List SpawnerSeen) : Type 0 where
  pub detects : (finished : List Ran) → AskedBy finished old new →
      DetectsAs result (first_trial (says None build_plan finished) drill_catalog drill_order)
      (asked_keys None (says None build_plan finished) drill_catalog drill_order)
      (has_erred None (says None build_plan finished) drill_catalog drill_order)
  pub answers : List Ran
  pub asked : AskedBy answers old new
  pub exactly : OnDetected result (map (λ ran. ran.job) answers
      ≡ map (detect_job drill_frame) (asked_members None (says None build_plan answers) drill_catalog
      drill_order))
  pub some : OnErr result (AreSome (map (λ ran. ran.job) answers)
      (map (detect_job drill_frame) (members_of (listed_groups drill_catalog drill_order))))
  pub faults : CountsSpawners end_cause result (faults_of old) (faults_of new)

drill_detected : (old : List SpawnerSeen) (result : Result Chosen DetectEnd) (new : List SpawnerSeen)
    → Detected drill_frame drill_catalog drill_order old result new → DrillDetected old result new
unfolding drill_frame
drill_detected old result new d = record {
  detects = d.detects;
  answers = d.asked.answers;
  asked = d.asked.asked;
  exactly = d.asked.exactly;
  some = subst (λ (groups : List (List Member)). OnErr result
      (AreSome (map (λ (ran : Ran). ran.job) d.asked.answers) (map (detect_job drill_frame) (members_of groups))))
      (fitting-none (listed_groups drill_catalog drill_order)) d.asked.some;
  faults = d.faults;
}

pub of_drill : (frame : DetectFrame) (catalog : List Descriptor) (order : List (List Entry))
    (old : List SpawnerSeen) (result : Result Chosen DetectEnd) (new : List SpawnerSeen) →
    frame ≡ drill_frame → catalog ≡ drill_catalog → order ≡ drill_order
    → Detected frame catalog order old result new → DrillDetected old result new
of_drill frame catalog order old result new f c o d =
    drill_detected old result new
    (subst (λ (frm : DetectFrame). Detected frm drill_catalog drill_order old result new) f
    (subst (λ (cat : List Descriptor). Detected frame cat drill_order old result new) c
    (subst (λ (ord : List (List Entry)). Detected frame catalog ord old result new) o d)))

is_found : (number : ℕ) (chosen : Chosen) (first : Option Ending) (asked : List Key) (erred : Bool) (a b c d : ℕ)
    → first ≡ Some (FirstTrial number (drill_resolved a b c d) (group_keys a b c d)) →
    length asked ≡ asked_count number → DetectsAs (Ok chosen) first asked erred → found_in chosen ≡ found_of number
is_found number chosen first asked erred a b c d e n h =
    let is : IsChoice chosen number (drill_resolved a b c d) (group_keys a b c d) asked = subst
    (λ (o : Option Ending). DetectsAs (Ok chosen) o asked erred) e h in
    λ i. record {
      groups = 4096;
      place = is.place i;
      asked =
          (ap length is.asked ∙ n) i;
      trial = is.trial i;
      trials = is.trials i;
      entries = ap length is.plan i;
    }

no_group : (told : Bool) (o : Option Ending) (keys : List Key) (erred : Bool) (ending : Ending) → o ≡ Some ending
    → DetectsAs (Err (end.NoGroup told)) o keys erred → ⊥
no_group told o keys erred ending e d = subst
    (λ (x : Option Ending). DetectsAs (Err (end.NoGroup told)) x keys erred) e d

many_trials : (o : Option Ending) (keys : List Key) (erred : Bool) (place : ℕ) (a b c d : ℕ)
    → o ≡ Some (FirstTrial place (drill_resolved a b c d) (group_keys a b c d))
    → DetectsAs (Err end.ManyTrials) o keys erred → ⊥
many_trials o keys erred place a b c d e h = subst
    (λ (x : Option Ending). DetectsAs (Err end.ManyTrials) x keys erred) e h

module _ (number : ℕ) (h : number < 4096) (old new : List SpawnerSeen) (all : AnswerBy number old) where
  law_of : (rans : List Ran) → AskedBy rans old new → map (λ ran. ran.job) rans
      ≡ map (detect_job drill_frame) (asked_members None (says None build_plan rans) drill_catalog drill_order)
      → IsDrilled number (says None build_plan rans)
  law_of rans asked jobs = drilled_by_runs number h drill_frame rans (said_all number rans old new asked all) jobs

  pub chosen_is : (chosen : Chosen) → DrillDetected old (Ok chosen) new → found_in chosen ≡ found_of number
  chosen_is chosen d =
      let rans = d.answers in
      let law = law_of rans d.asked d.exactly in
      is_found number chosen (first_trial (says None build_plan rans) drill_catalog drill_order)
      (asked_keys None (says None build_plan rans) drill_catalog drill_order)
      (has_erred None (says None build_plan rans) drill_catalog drill_order)
      law.first.0 law.first.1 law.first.2 law.first.3 law.first.5 law.asked (d.detects rans d.asked)

  pub runs_are : (chosen : Chosen) → DrillDetected old (Ok chosen) new → RunsDrill number old (Ok chosen) new
  runs_are chosen d =
      let rans = d.answers in
      let law = law_of rans d.asked d.exactly in
      let same = asked_by_runs number h drill_frame rans (said_all number rans old new d.asked all) d.exactly in
      record {
        answers = rans;
        asked = d.asked;
        exactly = d.exactly ∙ ap (map (detect_job drill_frame)) same;
        count = sym (length-map rans (λ ran. ran.job))
            ∙ (ap length d.exactly
            ∙ (length-map (asked_members None (says None build_plan rans) drill_catalog drill_order)
            (detect_job drill_frame)
            ∙ (sym (length-map (asked_members None (says None build_plan rans) drill_catalog drill_order)
            (λ member. member.key)) ∙ law.asked)));
        some = tt;
      }

  pub runs_stopped : {A : Type 0} (fault : DetectEnd) (memory : Memory) → DrillDetected old (Err fault) new
      → RunsDrill {A = A} number old (Err memory) new
  runs_stopped fault memory d = record { answers = d.answers; asked = d.asked; exactly = tt; count = tt; some = d.some }

  pub end_is : (fault : DetectEnd) → DrillDetected old (Err fault) new → AreZero (faults_of new) → fault ≡ end.Memory
  end_is (end.NoGroup told) d zero =
      let rans = d.answers in
      let law = law_of rans d.asked d.exactly in
      absurd (no_group told (first_trial (says None build_plan rans) drill_catalog drill_order)
      (asked_keys None (says None build_plan rans) drill_catalog drill_order)
      (has_erred None (says None build_plan rans) drill_catalog drill_order)
      (FirstTrial number (drill_resolved law.first.0 law.first.1 law.first.2 law.first.3)
      (group_keys law.first.0 law.first.1 law.first.2 law.first.3)) law.first.5 (d.detects rans d.asked))
  end_is end.ManyTrials d zero =
      let rans = d.answers in
      let law = law_of rans d.asked d.exactly in
      absurd (many_trials (first_trial (says None build_plan rans) drill_catalog drill_order)
      (asked_keys None (says None build_plan rans) drill_catalog drill_order)
      (has_erred None (says None build_plan rans) drill_catalog drill_order)
      number law.first.0 law.first.1 law.first.2 law.first.3 law.first.5 (d.detects rans d.asked))
  end_is end.Child d zero = absurd (none_rose (faults_of old) (faults_of new) zero d.faults)
  end_is end.Memory d zero = refl
