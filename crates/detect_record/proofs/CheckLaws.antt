-- A record that proves: by its target and its answers the first trial that passes is the one it gives.
use Rattle.std.proofs.Common.{◌≡◌, ℕ, ◌+◌, Bool, true, false, List, [], ◌∷◌, ◌++◌, map, refl, sym, ◌∙◌, ap, subst}
use Rattle.std.proofs.Common.{Option, Some, None, append_assoc, append-nil}
use Rattle.std.specs.Prelude.{if◌then◌else◌, IfOk, Result, Ok, Err}
use Rattle.std.specs.List.{filter_map}
use Rattle.steps.specs.Causes.{IsAnswer}
use Rattle.cnb_toml.specs.declared.names.Key.{Key}
use Rattle.cnb_toml.specs.declared.target.Target.{Target}
use Rattle.bp_docs.specs.declared.descriptor.Descriptor.{Descriptor}
use Rattle.bp_docs.specs.declared.descriptor.Entry.{Entry}
use Rattle.order_expand.specs.declared.member.Member.{Member}
use Rattle.order_expand.specs.Groups.{listed_groups}
use Rattle.plan_resolve.specs.declared.rows.AliveRow.{AliveRow}
use Rattle.plan_resolve.specs.declared.rows.TrialRow.{TrialRow}
use Rattle.plan_resolve.specs.Plan.{at_places}
use Rattle.plan_resolve.specs.Resolution.{resolved_at}
use Rattle.detect_core.specs.declared.chosen.Verdict.{Verdict}
use Rattle.detect_core.specs.Answer.{answer_of, build_plan}
use Rattle.detect_core.specs.Detection.{FirstTrial, first_trial, asked_keys, asked_members}
use Rattle.detect_core.specs.Kept.{has_key, keys_of, kept_says}
use Rattle.detect_record.specs.declared.outcome.Checked.{Checked}
use Rattle.detect_record.specs.declared.outcome.CheckFault.{CheckFault}
use Rattle.detect_record.specs.declared.outcome.CheckFault.TheVariants.{Bad}
use Rattle.detect_record.specs.declared.parts.GroupLine.{GroupLine}
use Rattle.detect_record.specs.declared.parts.Line.{Line}
use Rattle.detect_record.specs.declared.parts.Line.TheVariants.{Head, Target as TargetLine, Answer, Group}
use Rattle.detect_record.specs.Lines.{lines_in}
use Rattle.detect_record.specs.LinesLeft.{LinesLeft}
use Rattle.detect_record.specs.Following.{reads}
use Rattle.detect_record.specs.Record.{Stage, AtGroup, AtTrial, AtEnd, after, after_all}
use Rattle.detect_record.specs.Proving.{answered_by}
use Rattle.detect_record.specs.Checking.{Reading, cause_of, Untitled, Untargeted, Answering, Following, following}
use Rattle.detect_record.specs.Checking.{read_all, checked_at, end_at, check_of, answer_in, answers_in, target_of}
use Rattle.detect_record.specs.Checking.{target_in}
use Rattle.detect_record.specs.CheckLaws.{CheckedIsFirst, IsFirst}
use Rattle.detect_record.proofs.ProvingLaws.{proves_choice}

-- the lines of groups lead to an end
record LeadsTo (groups : List (List Member)) (target : Option Target) (answers : List (Key × Verdict))
    (stage : Stage) (checked : Checked) : Type 0 where
  lines : List GroupLine
  place : ℕ
  rows : List AliveRow
  number : ℕ
  trial : List TrialRow
  set : List ℕ
  leads : after_all (answered_by target answers groups) (Some stage) lines ≡ Some (AtEnd place rows number trial set)
  is : checked_at place rows number trial set ≡ checked

abbrev on : List (List Member) → ℕ → List (Option Line) → Option Reading → Result Checked CheckFault
on groups taken pieces next = elim next [
  | Some reading ↦ read_all groups (taken + 1) reading pieces
  | None
      ↦ Err (Bad (taken + 1))
]

ok_same : (a b : Checked) → (let one : Result Checked CheckFault = Ok a in one) ≡ Ok b → a ≡ b
ok_same a b e = cc

ends_now : (groups : List (List Member)) (target : Option Target) (answers : List (Key × Verdict)) (stage : Stage)
    (taken : ℕ) (checked : Checked) →
    end_at taken stage ≡ Ok checked → LeadsTo groups target answers stage checked
ends_now groups target answers (AtGroup place left) taken checked e = absurd cc
ends_now groups target answers (AtTrial chosen place rows left number trials) taken checked e = absurd cc
ends_now groups target answers (AtEnd place rows number trial set) taken checked e = record {
  lines = [];
  place = place;
  rows = rows;
  number = number;
  trial = trial;
  set = set;
  leads = refl;
  is = ok_same (checked_at place rows number trial set) checked e;
}

abbrev Later : List (List Member) → Option Target → List (Key × Verdict) → Stage → List (Option Line) → Checked → Type 0
Later groups target answers stage pieces checked = LeadsTo groups target answers stage checked
    × (filter_map answer_in pieces ≡ [])

line_first : (groups : List (List Member)) (target : Option Target) (answers : List (Key × Verdict))
    (stage : Stage) (taken : ℕ) (line : GroupLine) (next : Option Stage) (pieces : List (Option Line))
    (checked : Checked) →
    ((s : Stage) → read_all groups (taken + 1) (Following target answers s) pieces ≡ Ok checked
    → Later groups target answers s pieces checked) →
    after (answered_by target answers groups) stage line ≡ next
    → on groups taken pieces (following target answers next) ≡ Ok checked →
    Later groups target answers stage pieces checked
line_first groups target answers stage taken line None pieces checked later is e = absurd cc
line_first groups target answers stage taken line (Some next) pieces checked later is e =
    let found = later next e in
    let to = found.0 in (
      record {
        lines = line ∷ to.lines;
        place = to.place;
        rows = to.rows;
        number = to.number;
        trial = to.trial;
        set = to.set;
        leads = ap (λ (s : Option Stage). after_all (answered_by target answers groups) s to.lines) is ∙ to.leads;
        is = to.is;
      },
      found.1,
    )

-- behind the answers come lines of groups alone
follows_on : (groups : List (List Member)) (target : Option Target) (answers : List (Key × Verdict))
    (stage : Stage) (taken : ℕ) (pieces : List (Option Line)) (checked : Checked) →
    read_all groups taken (Following target answers stage) pieces ≡ Ok checked
    → Later groups target answers stage pieces checked
follows_on groups target answers stage taken [] checked e = (ends_now groups target answers stage taken checked e, refl)
follows_on groups target answers stage taken (None ∷ pieces) checked e = absurd cc
follows_on groups target answers stage taken (Some Head ∷ pieces) checked e = absurd cc
follows_on groups target answers stage taken (Some (TargetLine other) ∷ pieces) checked e = absurd cc
follows_on groups target answers stage taken (Some (Answer key probed) ∷ pieces) checked e = absurd cc
follows_on groups target answers stage taken (Some (Group line) ∷ pieces) checked e =
    line_first groups target answers stage taken line (after (answered_by target answers groups) stage line)
    pieces checked
    (λ s f. follows_on groups target answers s (taken + 1) pieces checked f) refl e

-- the answers that stand in lines come behind those that were read
abbrev Answers : List (List Member) → Option Target → List (Key × Verdict) → Checked → Type 0
Answers groups target answers checked = LeadsTo groups target answers (AtGroup 0 groups) checked

answer_first : (groups : List (List Member)) (target : Option Target) (answers : List (Key × Verdict)) (taken : ℕ)
    (key : Key) (verdict : Verdict) (has : Bool) (pieces : List (Option Line)) (checked : Checked) →
    ((more : List (Key × Verdict)) → read_all groups (taken + 1) (Answering target more) pieces ≡ Ok checked
    → Answers groups target (more ++ filter_map answer_in pieces) checked) →
    on groups taken pieces (if has then None else Some (Answering target (answers ++ (key, verdict) ∷ [])))
    ≡ Ok checked →
    Answers groups target (answers ++ (key, verdict) ∷ filter_map answer_in pieces) checked
answer_first groups target answers taken key verdict true pieces checked later e = absurd cc
answer_first groups target answers taken key verdict false pieces checked later e =
    subst (λ (all : List (Key × Verdict)). Answers groups target all checked)
    (append_assoc answers ((key, verdict) ∷ []) (filter_map answer_in pieces))
    (later (answers ++ (key, verdict) ∷ []) e)

answers_on : (groups : List (List Member)) (target : Option Target) (answers : List (Key × Verdict)) (taken : ℕ)
    (pieces : List (Option Line)) (checked : Checked) →
    read_all groups taken (Answering target answers) pieces ≡ Ok checked
    → Answers groups target (answers ++ filter_map answer_in pieces) checked
answers_on groups target answers taken [] checked e = absurd cc
answers_on groups target answers taken (None ∷ pieces) checked e = absurd cc
answers_on groups target answers taken (Some Head ∷ pieces) checked e = absurd cc
answers_on groups target answers taken (Some (TargetLine other) ∷ pieces) checked e = absurd cc
answers_on groups target answers taken (Some (Answer key probed) ∷ pieces) checked e =
    answer_first groups target answers taken key (answer_of build_plan probed) (has_key answers key) pieces checked
    (λ more f. answers_on groups target more (taken + 1) pieces checked f) e
answers_on groups target answers taken (Some (Group line) ∷ pieces) checked e =
    let found = follows_on groups target answers (AtGroup 0 groups) taken (Some (Group line) ∷ pieces) checked e in
    subst (λ (all : List (Key × Verdict)). Answers groups target all checked)
    (sym (ap (λ (more : List (Key × Verdict)). answers ++ more) found.1 ∙ append-nil answers)) found.0

-- the lines before the answers
target_first : (groups : List (List Member)) (first : Line) (pieces : List (Option Line)) (checked : Checked) →
    read_all groups 1 Untargeted pieces ≡ Ok checked →
    Answers groups (target_of (Some first ∷ pieces)) (filter_map answer_in pieces) checked
target_first groups first [] checked e = absurd cc
target_first groups first (None ∷ pieces) checked e = absurd cc
target_first groups first (Some Head ∷ pieces) checked e = absurd cc
target_first groups first (Some (TargetLine target) ∷ pieces) checked e = answers_on groups target []
    (1 + 1) pieces checked e
target_first groups first (Some (Answer key probed) ∷ pieces) checked e = absurd cc
target_first groups first (Some (Group line) ∷ pieces) checked e = absurd cc

head_first : (groups : List (List Member)) (pieces : List (Option Line)) (checked : Checked)
    → read_all groups 0 Untitled pieces ≡ Ok checked →
    Answers groups (target_of pieces) (filter_map answer_in pieces) checked
head_first groups [] checked e = absurd cc
head_first groups (None ∷ pieces) checked e = absurd cc
head_first groups (Some Head ∷ pieces) checked e = target_first groups Head pieces checked e
head_first groups (Some (TargetLine target) ∷ pieces) checked e = absurd cc
head_first groups (Some (Answer key probed) ∷ pieces) checked e = absurd cc
head_first groups (Some (Group line) ∷ pieces) checked e = absurd cc

is_first : (place : ℕ) (rows : List AliveRow) (number : ℕ) (trial : List TrialRow) (set : List ℕ)
    (checked : Checked) → checked_at place rows number trial set ≡ checked →
    IsFirst checked (Some (FirstTrial place (resolved_at rows number trial set)
    (map (λ row. row.key) (at_places rows set))))
is_first place rows number trial set checked is =
    (λ i. (sym is i).group, λ i. (sym is i).plan, λ i. (sym is i).place, λ i. (sym is i).trial)

pub checked_is_first : CheckedIsFirst
unfolding check_of first_trial asked_members
checked_is_first catalog order bytes checked e =
    let groups = listed_groups catalog order in
    let target = target_in bytes in
    let answers = answers_in bytes in
    let to : LeadsTo groups target answers (AtGroup 0 groups) checked = head_first groups (lines_in bytes) checked e in
    let proved = proves_choice target answers groups to.lines to.place to.rows to.number to.trial to.set to.leads in (
      subst (IsFirst checked) (sym proved.0) (is_first to.place to.rows to.number to.trial to.set checked to.is),
      proved.1,
    )

-- what a call answers
pub first_of : (catalog : List Descriptor) (order : List (List Entry)) (bytes : List ℕ)
    (result : Result Checked CheckFault) → IsAnswer cause_of result (check_of catalog order bytes) →
    IfOk result (λ checked. IsFirst checked (first_trial (kept_says (target_in bytes) (answers_in bytes)) catalog
    order))
first_of catalog order bytes (Ok checked) is = (checked_is_first catalog order bytes checked is).0
first_of catalog order bytes (Err fault) is = tt

pub asked_of : (catalog : List Descriptor) (order : List (List Entry)) (bytes : List ℕ)
    (result : Result Checked CheckFault) → IsAnswer cause_of result (check_of catalog order bytes) →
    IfOk result (λ checked. keys_of (answers_in bytes) ≡ asked_keys (target_in bytes)
    (kept_says (target_in bytes) (answers_in bytes)) catalog order)
asked_of catalog order bytes (Ok checked) is = (checked_is_first catalog order bytes checked is).1
asked_of catalog order bytes (Err fault) is = tt

pub answer_of_lines : (catalog : List Descriptor) (order : List (List Entry)) (bytes : List ℕ) (lines : LinesLeft)
    (result : Result Checked CheckFault) →
    lines.taken ≡ 0 → lines.left ≡ lines_in bytes → IsAnswer cause_of result
    (reads (listed_groups catalog order) Untitled lines) → IsAnswer cause_of result
    (check_of catalog order bytes)
unfolding check_of
answer_of_lines catalog order bytes lines result taken left is =
    subst (IsAnswer cause_of result) (λ i. read_all (listed_groups catalog order) (taken i) Untitled (left i)) is
