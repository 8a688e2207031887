-- How a search goes on, group by group.
use Rattle.std.proofs.Common.{◌≡◌, ◌∙◌, inl, inr, refl, sym, ap, subst, ℕ, ◌+◌, Bool, false, List, [], ◌∷◌, ◌++◌, map}
use Rattle.std.proofs.Common.{length, append_assoc, append-nil, zero-add}
use Rattle.std.specs.Prelude.{◌||◌, Option, Some, None, Result, Ok, Err, OnOk}
use Rattle.std.specs.List.{filter, list_any}
use Rattle.std.proofs.lemmas.Grind.{flat_map-append}
use Rattle.std.proofs.lemmas.List.{map-append}
use Rattle.std.proofs.lemmas.List.Folds.{list_any-append}
use Rattle.cnb_world.specs.Runs.{Ran}
use Rattle.cnb_world.specs.declared.child.DetectJob.{DetectJob}
use Rattle.steps.specs.Asking.{AskedBy, AreSome}
use Rattle.steps.specs.Outside.{SpawnerSeen}
use Rattle.steps.proofs.AskingLemmas.{asked_none}
use Rattle.cnb_toml.specs.declared.names.Key.{Key}
use Rattle.order_expand.specs.declared.member.Member.{Member}
use Rattle.detect_core.specs.declared.chosen.AnswerRow.{AnswerRow}
use Rattle.detect_core.specs.declared.chosen.Chosen.{Chosen}
use Rattle.detect_core.specs.declared.chosen.DetectEnd.{DetectEnd}
use Rattle.detect_core.specs.declared.chosen.DetectEnd.TheVariants.{NoGroup, ManyTrials, Child, Memory}
use Rattle.detect_core.specs.declared.chosen.DetectFrame.{DetectFrame}
use Rattle.detect_core.specs.declared.chosen.Verdict.{Verdict}
use Rattle.detect_core.specs.declared.judging.Judged.{Judged}
use Rattle.detect_core.specs.Answer.{answer_row, is_error, is_fit, key_of, recorded, answer_or_error, build_plan, says}
use Rattle.detect_core.specs.Asking.{unmet, RunsAll, RunsSome}
use Rattle.detect_core.specs.Detection.{Ending, TooManyTrials, FirstTrial, ending_of_rows, ending_at, first_ending}
use Rattle.detect_core.specs.Detection.{fitting, reached, members_of}
use Rattle.detect_core.specs.Ending.{EndsGroup}
use Rattle.detect_core.specs.Job.{detect_job}
use Rattle.detect_core.specs.Judging.{IsJudged}
use Rattle.detect_core.specs.Kept.{KeptRow, row_of, keys_of, kept_says}
use Rattle.detect_core.specs.Search.{DetectsAs, OnDetected}
use Rattle.detect_core.specs.Searching.{IsSearch}
use Rattle.detect_core.proofs.AskedLemmas.{asked_then}
use Rattle.detect_core.proofs.AskingLemmas.{map-map, ran_keys}
use Rattle.detect_core.proofs.AnswerLemmas.{kept_says-says, agree_kept, any_same, first_ending_same, or_later}
use Rattle.detect_core.proofs.AnswerLemmas.{or_reached, first_ending-append, reached-append}
use Rattle.detect_core.proofs.FittingLemmas.{any_asked, fitting-append}
use Rattle.detect_core.proofs.OrderLemmas.{all_some}
use Rattle.detect_core.proofs.MemberLemmas.{keys_of_members, flat, members-push, members-front}

-- A search that has asked and judged some groups, the first of which do not end it.
pub record IsUnderWay (frame : DetectFrame) (asked done : List (List Member)) (old now : List SpawnerSeen)
    (kept : List KeptRow) (said : List AnswerRow) (erred : Bool) : Type 0 where
  pub ran : List Ran
  pub by : AskedBy ran old now
  pub rows : kept ≡ map row_of ran
  pub said_is : said ≡ map answer_row ran
  pub jobs : map (λ r. r.job) ran ≡ map (detect_job frame) (members_of (fitting frame.target asked))
  pub none : first_ending (says frame.target build_plan ran) 0 done ≡ None
  pub errs : erred ≡ list_any (λ member. is_error (says frame.target build_plan ran member)) (flat asked)

pub under_way_start : (frame : DetectFrame) (old : List SpawnerSeen) → IsUnderWay frame [] [] old old [] [] false
under_way_start frame old = record {
  ran = [];
  by = asked_none old;
  rows = refl;
  said_is = refl;
  jobs = refl;
  none = refl;
  errs = refl;
}

-- a search that stopped for a child without an answer or for want of memory: some of the members' children were run
abbrev pub IsStopped : DetectFrame → List (List Member) → List SpawnerSeen → List SpawnerSeen → Type 0
IsStopped frame groups old new = RunsSome (map (detect_job frame) (members_of (fitting frame.target groups))) old new

-- the first jobs of some, and some of those behind them
some_behind : (first some jobs : List DetectJob) → AreSome some jobs → AreSome (first ++ some) (first ++ jobs)
some_behind [] some jobs a = a
some_behind (job ∷ first) some jobs a = inl (refl, some_behind first some jobs a)

some_wider : (some jobs more : List DetectJob) → AreSome some jobs → AreSome some (jobs ++ more)
some_wider [] jobs more a = tt
some_wider (job ∷ some) [] more a = absurd a
some_wider (job ∷ some) (first ∷ jobs) more (inl (is, a)) = inl (is, some_wider some jobs more a)
some_wider (job ∷ some) (first ∷ jobs) more (inr a) = inr (some_wider (job ∷ some) jobs more a)

-- the children of the first members were run, and some of those of the members behind them
asks_some : (frame : DetectFrame) (groups : List (List Member)) (first next later : List Member) (ran more : List Ran) →
    members_of groups ≡ first ++ (next ++ later) → map (λ r. r.job) ran ≡ map (detect_job frame) first
    → AreSome (map (λ r. r.job) more) (map (detect_job frame) next) →
    AreSome (map (λ r. r.job) (ran ++ more)) (map (detect_job frame) (members_of groups))
asks_some frame groups first next later ran more parts jobs some =
    let job = λ (m : Member). detect_job frame m in
    let own : map (λ r. r.job) (ran ++ more) ≡ map job first
    ++ map (λ r. r.job) more = map-append (λ (r : Ran). r.job) ran more
    ∙ ap (λ js. js ++ map (λ (r : Ran). r.job) more) jobs in
    let all : map job (members_of groups) ≡ map job first ++ (map job next ++ map job later) =
    ap (map job) parts ∙ (map-append job first (next ++ later)
    ∙ ap (λ js. map job first ++ js) (map-append job next later)) in
    subst (λ (p : List DetectJob × List DetectJob). AreSome p.0 p.1) (λ i. (sym own i, sym all i))
    (some_behind (map job first) (map (λ r. r.job) more) (map job next ++ map job later)
    (some_wider (map (λ r. r.job) more) (map job next) (map job later) some))

asks_first : (frame : DetectFrame) (groups : List (List Member)) (first later : List Member) (ran : List Ran) →
    members_of groups ≡ first ++ later → map (λ r. r.job) ran ≡ map (detect_job frame) first
    → AreSome (map (λ r. r.job) ran) (map (detect_job frame) (members_of groups))
asks_first frame groups first later ran parts jobs =
    subst (λ rs. AreSome (map (λ r. r.job) rs) (map (detect_job frame) (members_of groups))) (append-nil ran)
    (asks_some frame groups first [] later ran [] parts jobs tt)

-- nothing more was asked
pub stopped_between : (frame : DetectFrame) (done left : List (List Member)) (old now : List SpawnerSeen)
    (kept : List KeptRow) (said : List AnswerRow) (erred : Bool) →
    IsUnderWay frame done done old now kept said erred → IsStopped frame (done ++ left) old now
stopped_between frame done left old now kept said erred s = record {
  answers = s.ran;
  asked = s.by;
  some = asks_first frame (fitting frame.target (done ++ left)) (members_of (fitting frame.target done))
      (unmet (keys_of_members (members_of (fitting frame.target done))) (flat (fitting frame.target left))) s.ran
      (ap members_of (fitting-append frame.target done left) ∙ members-front (fitting frame.target done)
      (fitting frame.target left)) s.jobs;
}

module _ (frame : DetectFrame) (done : List (List Member)) (group : List Member) (left : List (List Member))
    (r0 r1 : List SpawnerSeen) (k1 : List KeptRow) (a1 : List AnswerRow) (erred : Bool)
    (s : IsUnderWay frame done done r0 r1 k1 a1 erred) where
  abbrev fit_done : List (List Member)
  fit_done = fitting frame.target done

  abbrev own : List Member
  own = filter (is_fit frame.target) group

  abbrev met : List Member
  met = members_of fit_done

  met_keys : keys_of k1 ≡ keys_of_members met
  met_keys = ap keys_of s.rows ∙ ran_keys frame met s.ran s.jobs

  answered_keys : map key_of s.ran ≡ keys_of_members met
  answered_keys = sym (map-map (λ (row : KeptRow). row.0) row_of s.ran) ∙ ran_keys frame met s.ran s.jobs

  -- some of the group's members were asked
  pub stopped_in : (r2 : List SpawnerSeen) → RunsSome (map (detect_job frame) (unmet (keys_of k1) own)) r1 r2
      → IsStopped frame (done ++ group ∷ left) r0 r2
  stopped_in r2 a =
      let next = unmet (keys_of k1) own in
      let fit_left = fitting frame.target left in
      let behind = unmet (keys_of_members (members_of (fit_done ++ own ∷ []))) (flat fit_left) in
      let parts : members_of (fitting frame.target (done ++ group ∷ left)) ≡ met ++ (next ++ behind) =
      ap members_of (fitting-append frame.target done (group ∷ left) ∙ sym (append_assoc fit_done (own ∷ []) fit_left))
      ∙ (members-front (fit_done ++ own ∷ []) fit_left
      ∙ (ap (λ ms. ms ++ behind) (members-push fit_done own ∙ ap (λ ks. met ++ unmet ks own) (sym met_keys))
      ∙ append_assoc met next behind)) in
      record {
        answers = s.ran ++ a.answers;
        asked = asked_then s.ran a.answers r0 r1 r2 s.by a.asked;
        some = asks_some frame (fitting frame.target (done ++ group ∷ left)) met next behind s.ran a.answers parts
            s.jobs a.some;
      }

  pub stopped_behind : (r2 : List SpawnerSeen) (k2 : List KeptRow) (a2 : List AnswerRow)
      → RunsAll frame (unmet (keys_of k1) own) r1 r2 k1 k2 a1 a2 → IsStopped frame (done ++ group ∷ left) r0 r2
  stopped_behind r2 k2 a2 a = stopped_in r2 record {
    answers = a.answers;
    asked = a.asked;
    some = subst (λ (js : List DetectJob). AreSome (map (λ (r : Ran). r.job) a.answers) js) a.jobs
        (all_some (map (λ (r : Ran). r.job) a.answers));
  }

  -- the whole group was asked and judged
  pub asked_group : (r2 : List SpawnerSeen) (k2 : List KeptRow) (a2 : List AnswerRow) (judged : Judged)
      → RunsAll frame (unmet (keys_of k1) own) r1 r2 k1 k2 a1 a2
      → IsJudged (kept_says frame.target k2) group judged →
      IsUnderWay frame (done ++ group ∷ []) done r0 r2 k2 a2 (erred || judged.erred)
  asked_group r2 k2 a2 judged a j =
      let new = a.answers in
      let ran = s.ran ++ new in
      let rows : k2 ≡ map row_of ran = a.kept ∙ (ap (λ ks. ks ++ map row_of new) s.rows
      ∙ sym (map-append row_of s.ran new)) in
      let agree = agree_kept frame.target s.ran new done answered_keys in
      let says_now : kept_says frame.target k2 ≡ says frame.target build_plan ran = ap
      (kept_says frame.target) rows ∙ kept_says-says frame.target ran in
      record {
        ran = ran;
        by = asked_then s.ran new r0 r1 r2 s.by a.asked;
        rows = rows;
        said_is = a.rows ∙ (ap (λ ks. ks ++ map answer_row new) s.said_is ∙ sym (map-append answer_row s.ran new));
        jobs = map-append (λ (r : Ran). r.job) s.ran new ∙ ((λ i. s.jobs i ++ a.jobs i)
            ∙ (sym (map-append (detect_job frame) met (unmet (keys_of k1) own))
            ∙ ap (map (detect_job frame)) (ap (λ ks. met ++ unmet ks own) met_keys
            ∙ (sym (members-push fit_done own) ∙ ap members_of (sym
            (fitting-append frame.target done (group ∷ [])))))));
        none = first_ending_same (says frame.target build_plan ran)
            (says frame.target build_plan s.ran) 0 done agree ∙ s.none;
        errs = (λ i. (s.errs ∙ sym (any_same (λ m v. is_error v) (says frame.target build_plan ran)
            (says frame.target build_plan s.ran) (flat done) agree)) i
            || (j.erred ∙ ap (λ (t : Member → Verdict). list_any (λ (m : Member). is_error (t m)) group) says_now) i)
            ∙ (sym (list_any-append (λ (m : Member). is_error (says frame.target build_plan ran m)) (flat done) group)
            ∙ ap (list_any (λ (m : Member). is_error (says frame.target build_plan ran m)))
            (sym (flat_map-append (λ (g : List Member). g) done (group ∷ [])
            ∙ ap (λ ms. flat done ++ ms) (append-nil group))));
      }

on_detected : {P : Type 0} (r : Result Chosen DetectEnd) → P → OnDetected r P
on_detected (Ok chosen) p = p
on_detected (Err (NoGroup erred)) p = p
on_detected (Err ManyTrials) p = p
on_detected (Err Child) p = tt
on_detected (Err Memory) p = tt

on_ok : {P : Type 0} (r : Result Chosen DetectEnd) → P → OnOk r P
on_ok (Ok chosen) p = p
on_ok (Err end) p = tt

-- what a judged group leads to
abbrev pub GroupLeads : DetectFrame → List (List Member) → List Member → List (List Member) → List SpawnerSeen
    → List SpawnerSeen → List KeptRow → List AnswerRow → Bool → Result (Option Chosen) DetectEnd → Type 0
GroupLeads frame done group left r0 r2 k2 a2 erred (Ok None) = IsUnderWay frame (done ++ group ∷ [])
    (done ++ group ∷ []) r0 r2 k2 a2 erred
GroupLeads frame done group left r0 r2 k2 a2 erred (Ok (Some chosen)) = IsSearch frame
    (done ++ group ∷ left) r0 r2 a2 (Ok chosen)
GroupLeads frame done group left r0 r2 k2 a2 erred (Err end) = IsSearch frame (done ++ group ∷ left) r0 r2 a2 (Err end)

module _ (frame : DetectFrame) (done : List (List Member)) (group : List Member) (left : List (List Member))
    (r0 r2 : List SpawnerSeen) (k2 : List KeptRow) (a2 : List AnswerRow) (erred : Bool)
    (u : IsUnderWay frame (done ++ group ∷ []) done r0 r2 k2 a2 erred) where
  abbrev say : Member → Verdict
  say = says frame.target build_plan u.ran

  ending_after : (later : List (List Member)) → first_ending say 0 (done ++ group ∷ later)
      ≡ or_later (ending_at say (length done) group) (first_ending say (length done + 1) later)
  ending_after later = first_ending-append say 0 done (group ∷ later) u.none
      ∙ ap (λ p. first_ending say p (group ∷ later)) (zero-add (length done))

  reached_after : (later : List (List Member)) → reached say 0 (done ++ group ∷ later) ≡ done ++ group
      ∷ or_reached (ending_at say (length done) group) (reached say (length done + 1) later)
  reached_after later = reached-append say 0 done (group ∷ later) u.none
      ∙ ap (λ p. done ++ reached say p (group ∷ later)) (zero-add (length done))

  asked_so_far : AreSome (map (λ r. r.job) u.ran)
      (map (detect_job frame) (members_of (fitting frame.target (done ++ group ∷ left))))
  asked_so_far =
      let so_far = fitting frame.target (done ++ group ∷ []) in
      let fit_left = fitting frame.target left in
      asks_first frame (fitting frame.target (done ++ group ∷ left)) (members_of so_far)
      (unmet (keys_of_members (members_of so_far)) (flat fit_left)) u.ran
      (ap (λ gs. members_of (fitting frame.target gs)) (sym (append_assoc done (group ∷ []) left))
      ∙ (ap members_of (fitting-append frame.target (done ++ group ∷ []) left) ∙ members-front so_far fit_left)) u.jobs

  all_keys : keys_of k2 ≡ keys_of_members (members_of (fitting frame.target (done ++ group ∷ [])))
  all_keys = ap keys_of u.rows ∙ ran_keys frame (members_of (fitting frame.target (done ++ group ∷ []))) u.ran u.jobs

  ends_with : (r : Result Chosen DetectEnd) (ending : Ending) → ending_at say (length done) group ≡ Some ending →
      ((b : Bool) → DetectsAs r (Some ending) (keys_of k2) b) → IsSearch frame (done ++ group ∷ left) r0 r2 a2 r
  ends_with r ending e d =
      let whole : reached say 0 (done ++ group ∷ left) ≡ done ++ group ∷ [] =
      reached_after left ∙ ap (λ o. done ++ group ∷ or_reached o (reached say (length done + 1) left)) e in
      let first : first_ending say 0 (done ++ group ∷ left) ≡ Some ending =
      ending_after left ∙ ap (λ o. or_later o (first_ending say (length done + 1) left)) e in
      let keys : keys_of_members (members_of (fitting frame.target (reached say 0 (done ++ group ∷ left))))
      ≡ keys_of k2 =
      ap (λ gs. keys_of_members (members_of (fitting frame.target gs))) whole ∙ sym all_keys in
      let told = list_any (λ (m : Member). is_error (say m))
      (members_of (fitting frame.target (reached say 0 (done ++ group ∷ left)))) in
      record {
        answers = u.ran;
        asked_by = u.by;
        some = asked_so_far;
        asked = on_detected r (u.jobs ∙ ap (λ gs. map (detect_job frame) (members_of (fitting frame.target gs)))
            (sym whole));
        detects =
            subst (λ (o : Option Ending). DetectsAs r o (keys_of_members
            (members_of (fitting frame.target (reached say 0 (done ++ group ∷ left))))) told) (sym first)
            (subst (λ (ks : List Key). DetectsAs r (Some ending) ks told) (sym keys) (d told));
        rows_are = on_ok r u.said_is;
      }

  leads_by : (r : Result (Option Chosen) DetectEnd) (o : Option Ending) → ending_at say (length done) group ≡ o
      → EndsGroup r o (keys_of k2) → GroupLeads frame done group left r0 r2 k2 a2 erred r
  leads_by (Ok None) None e h = record {
    ran = u.ran;
    by = u.by;
    rows = u.rows;
    said_is = u.said_is;
    jobs = u.jobs;
    errs = u.errs;
    none = ending_after [] ∙ ap (λ x. or_later x None) e;
  }
  leads_by (Ok None) (Some ending) e h = absurd h
  leads_by (Ok (Some chosen)) None e h = absurd h
  leads_by (Ok (Some chosen)) (Some (TooManyTrials place)) e h = absurd h
  leads_by (Ok (Some chosen)) (Some (FirstTrial place resolved kept)) e h = ends_with (Ok chosen)
      (FirstTrial place resolved kept) e (λ b. h)
  leads_by (Err ManyTrials) None e h = absurd h
  leads_by (Err ManyTrials) (Some (TooManyTrials place)) e h = ends_with (Err ManyTrials) (TooManyTrials place) e
      (λ b. tt)
  leads_by (Err ManyTrials) (Some (FirstTrial place resolved kept)) e h = absurd h
  leads_by (Err Memory) o e h = record {
    answers = u.ran;
    asked_by = u.by;
    some = asked_so_far;
    asked = tt;
    detects = tt;
    rows_are = tt;
  }
  leads_by (Err (NoGroup told)) o e h = absurd h
  leads_by (Err Child) o e h = absurd h

  pub group_leads : (r : Result (Option Chosen) DetectEnd) (place : ℕ) (judged : Judged) → place ≡ length done
      → IsJudged (kept_says frame.target k2) group judged →
      EndsGroup r (ending_of_rows place judged.alive) (keys_of k2)
      → GroupLeads frame done group left r0 r2 k2 a2 erred r
  group_leads r place judged at j h =
      let is : ending_at say (length done) group ≡ ending_of_rows place judged.alive =
      sym (ap (ending_of_rows place) j.alive
      ∙ (λ i. ending_at ((ap (kept_says frame.target) u.rows ∙ kept_says-says frame.target u.ran) i) (at i) group)) in
      leads_by r (ending_of_rows place judged.alive) is h

-- all groups were gone through, and none ends the search
pub no_group : (frame : DetectFrame) (groups : List (List Member)) (r0 r1 : List SpawnerSeen)
    (kept : List KeptRow) (said : List AnswerRow) (erred : Bool) →
    IsUnderWay frame groups groups r0 r1 kept said erred → IsSearch frame groups r0 r1 said (Err (NoGroup erred))
no_group frame groups r0 r1 kept said erred u =
    let say = says frame.target build_plan u.ran in
    let whole : reached say 0 groups ≡ groups =
    subst (λ (gs : List (List Member)). reached say 0 gs ≡ gs) (append-nil groups)
    (reached-append say 0 groups [] u.none) in
    let told : erred ≡ list_any (λ m. is_error (say m)) (members_of (fitting frame.target (reached say 0 groups))) =
    u.errs ∙ (sym (any_asked frame.target (λ m. answer_or_error build_plan (recorded u.ran m.key))
    (λ a b e. ap (λ (key : Key). answer_or_error build_plan (recorded u.ran key)) e) groups)
    ∙ ap (λ gs. list_any (λ m. is_error (say m)) (members_of (fitting frame.target gs))) (sym whole)) in
    record {
      answers = u.ran;
      asked_by = u.by;
      some = asks_first frame (fitting frame.target groups) (members_of (fitting frame.target groups)) [] u.ran
          (sym (append-nil (members_of (fitting frame.target groups)))) u.jobs;
      asked = u.jobs ∙ ap (λ gs. map (detect_job frame) (members_of (fitting frame.target gs))) (sym whole);
      detects = subst (λ (o : Option Ending). DetectsAs (Err (NoGroup erred)) o
          (keys_of_members (members_of (fitting frame.target (reached say 0 groups))))
          (list_any (λ m. is_error (say m)) (members_of (fitting frame.target (reached say 0 groups)))))
          (sym u.none) told;
      rows_are = tt;
    }

-- a search between two groups, of which these are left
pub record IsAt (frame : DetectFrame) (listed left : List (List Member)) (place : ℕ) (old now : List SpawnerSeen)
    (kept : List KeptRow) (said : List AnswerRow) (erred : Bool) : Type 0 where
  pub done : List (List Member)
  pub parts : listed ≡ done ++ left
  pub at : place ≡ length done
  pub under_way : IsUnderWay frame done done old now kept said erred
