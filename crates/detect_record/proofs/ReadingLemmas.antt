-- The lines before those of groups.
use Rattle.std.proofs.Common.{◌≡◌, ℕ, ◌+◌, Bool, true, false, List, [], ◌∷◌, ◌++◌, refl, sym, ◌∙◌, ap, Option, Some}
use Rattle.std.proofs.Common.{None}
use Rattle.std.specs.Prelude.{if◌then◌else◌, Result, Ok, Err}
use Rattle.cnb_toml.specs.declared.names.Key.{Key}
use Rattle.cnb_toml.specs.declared.target.Target.{Target}
use Rattle.order_expand.specs.declared.member.Member.{Member}
use Rattle.detect_core.specs.declared.chosen.AnswerRow.{AnswerRow}
use Rattle.detect_core.specs.declared.chosen.Verdict.{Verdict}
use Rattle.detect_core.specs.Answer.{answer_of, build_plan}
use Rattle.detect_record.specs.declared.outcome.Checked.{Checked}
use Rattle.detect_record.specs.declared.outcome.CheckFault.{CheckFault}
use Rattle.detect_record.specs.declared.outcome.CheckFault.TheVariants.{Bad, Memory}
use Rattle.detect_record.specs.declared.parts.Line.{Line}
use Rattle.detect_record.specs.declared.parts.Line.TheVariants.{Head, Target as TargetLine, Answer, Group}
use Rattle.detect_record.specs.LinesLeft.{LinesLeft, IsBadFirst, HasNoNext}
use Rattle.detect_record.specs.Record.{AtGroup}
use Rattle.detect_record.specs.Checking.{Reading, Untitled, Untargeted, Answering, Following, end_of, read_all}
use Rattle.detect_record.specs.Checking.{read_piece, with_answer}
use Rattle.detect_record.specs.Following.{GoesOn, IsAdded, answer_row_of, answered_or_behind, is_head, reads, reads_on}
use Rattle.detect_record.specs.Following.{target_line}

abbrev refused_at : ℕ → Result Checked CheckFault
refused_at number = Err (Bad number)

abbrev on : List (List Member) → ℕ → List (Option Line) → Option Reading → Result Checked CheckFault
on groups taken pieces next = elim next [
  | Some reading ↦ read_all groups (taken + 1) reading pieces
  | None
      ↦ Err (Bad (taken + 1))
]

on_next : (groups : List (List Member)) (taken : ℕ) (new : LinesLeft) (next : Option Reading)
    → new.taken ≡ taken + 1 → on groups taken new.left next ≡ reads_on groups next new
on_next groups taken new None n = ap refused_at (sym n)
on_next groups taken new (Some reading) n = ap (λ k. read_all groups k reading new.left) (sym n)

-- a line was taken
line_reads : (groups : List (List Member)) (reading : Reading) (old new : LinesLeft) (line : Line)
    → old.left ≡ Some line ∷ new.left → new.taken ≡ old.taken + 1 →
    reads groups reading old ≡ reads_on groups (read_piece groups reading (Some line)) new
line_reads groups reading old new line e n =
    ap (read_all groups old.taken reading) e ∙ on_next groups old.taken new (read_piece groups reading (Some line)) n

none_next : (groups : List (List Member)) (reading : Reading) (taken : ℕ) (pieces : List (Option Line))
    → end_of taken reading ≡ Err (Bad (taken + 1)) → HasNoNext pieces →
    read_all groups taken reading pieces ≡ Err (Bad (taken + 1))
none_next groups reading taken [] w none = w
none_next groups reading taken (piece ∷ pieces) w none = ap (λ p. read_all groups taken reading (p ∷ pieces)) none

-- no line was taken
pub bad_reads : {A : Type 0} (groups : List (List Member)) (reading : Reading) (old : LinesLeft)
    (fault : CheckFault) (to : A → Result Checked CheckFault) →
    end_of old.taken reading ≡ Err (Bad (old.taken + 1)) → IsBadFirst old fault
    → GoesOn {A = A} (Err fault) (reads groups reading old) to
bad_reads groups reading old (Bad number) to w bad = none_next groups reading old.taken old.left w bad.1
    ∙ ap refused_at (sym bad.0)
bad_reads groups reading old Memory to w bad = tt

-- ---- the first line

head_piece : (groups : List (List Member)) (line : Line) → is_head line ≡ true
    → read_piece groups Untitled (Some line) ≡ Some Untargeted
head_piece groups Head e = refl
head_piece groups (TargetLine target) e = absurd cc
head_piece groups (Answer key probed) e = absurd cc
head_piece groups (Group line) e = absurd cc

other_piece : (groups : List (List Member)) (line : Line) → is_head line ≡ false
    → read_piece groups Untitled (Some line) ≡ None
other_piece groups Head e = absurd cc
other_piece groups (TargetLine target) e = refl
other_piece groups (Answer key probed) e = refl
other_piece groups (Group line) e = refl

pub head_reads : (groups : List (List Member)) (old new : LinesLeft) (line : Line) (is : Bool)
    → old.left ≡ Some line ∷ new.left → new.taken ≡ old.taken + 1 →
    is ≡ is_head line → is ≡ true → reads groups Untitled old ≡ reads groups Untargeted new
head_reads groups old new line is e n h met =
    line_reads groups Untitled old new line e n ∙ ap (λ p. reads_on groups p new) (head_piece groups line (sym h ∙ met))

pub no_head : (groups : List (List Member)) (old new : LinesLeft) (line : Line) (is : Bool)
    → old.left ≡ Some line ∷ new.left → new.taken ≡ old.taken + 1 →
    is ≡ is_head line → is ≡ false → reads groups Untitled old ≡ Err (Bad new.taken)
no_head groups old new line is e n h none =
    line_reads groups Untitled old new line e n ∙ ap (λ p. reads_on groups p new)
    (other_piece groups line (sym h ∙ none))

-- ---- the target

target_piece : (groups : List (List Member)) (line : Line) (target : Option Target)
    → Some target ≡ target_line line → read_piece groups Untargeted (Some line) ≡ Some (Answering target [])
target_piece groups Head target e = absurd cc
target_piece groups (TargetLine other) target e = let is : target ≡ other = cc
    in ap (λ t. Some (Answering t [])) (sym is)
target_piece groups (Answer key probed) target e = absurd cc
target_piece groups (Group line) target e = absurd cc

no_target_piece : (groups : List (List Member)) (line : Line) → None ≡ target_line line
    → read_piece groups Untargeted (Some line) ≡ None
no_target_piece groups Head e = refl
no_target_piece groups (TargetLine other) e = absurd cc
no_target_piece groups (Answer key probed) e = refl
no_target_piece groups (Group line) e = refl

pub target_reads : (groups : List (List Member)) (old new : LinesLeft) (line : Line) (target : Option Target)
    → old.left ≡ Some line ∷ new.left → new.taken ≡ old.taken + 1 →
    Some target ≡ target_line line → reads groups Untargeted old ≡ reads groups (Answering target []) new
target_reads groups old new line target e n is =
    line_reads groups Untargeted old new line e n ∙ ap (λ p. reads_on groups p new) (target_piece groups line target is)

pub no_target : (groups : List (List Member)) (old new : LinesLeft) (line : Line)
    → old.left ≡ Some line ∷ new.left → new.taken ≡ old.taken + 1 →
    None ≡ target_line line → reads groups Untargeted old ≡ Err (Bad new.taken)
no_target groups old new line e n none =
    line_reads groups Untargeted old new line e n ∙ ap (λ p. reads_on groups p new) (no_target_piece groups line none)

-- ---- answers

answer_piece : (groups : List (List Member)) (target : Option Target) (answers : List (Key × Verdict))
    (line : Line) (row : AnswerRow) → Some row ≡ answer_row_of line →
    read_piece groups (Answering target answers) (Some line)
    ≡ with_answer target answers row.key (answer_of build_plan row.probed)
answer_piece groups target answers Head row e = absurd cc
answer_piece groups target answers (TargetLine other) row e = absurd cc
answer_piece groups target answers (Answer key probed) row e =
    let same : row ≡ (let made : AnswerRow = record { key = key; probed = probed } in made) = cc in
    ap (λ (r : AnswerRow). with_answer target answers r.key (answer_of build_plan r.probed)) (sym same)
answer_piece groups target answers (Group line) row e = absurd cc

pub answer_reads : (groups : List (List Member)) (target : Option Target) (answers : List (Key × Verdict))
    (old new : LinesLeft) (line : Line) (row : AnswerRow) →
    old.left ≡ Some line ∷ new.left → new.taken ≡ old.taken + 1 → Some row ≡ answer_row_of line →
    reads groups (Answering target answers) old ≡ answered_or_behind groups target answers new (Some row)
answer_reads groups target answers old new line row e n is =
    line_reads groups (Answering target answers) old new line e n
    ∙ ap (λ p. reads_on groups p new) (answer_piece groups target answers line row is)

behind_by : (groups : List (List Member)) (target : Option Target) (answers : List (Key × Verdict)) (taken : ℕ)
    (line : Line) (pieces : List (Option Line)) → None ≡ answer_row_of line →
    read_all groups taken (Answering target answers) (Some line ∷ pieces)
    ≡ read_all groups taken (Following target answers (AtGroup 0 groups)) (Some line ∷ pieces)
behind_by groups target answers taken Head pieces e = refl
behind_by groups target answers taken (TargetLine other) pieces e = refl
behind_by groups target answers taken (Answer key probed) pieces e = absurd cc
behind_by groups target answers taken (Group line) pieces e = refl

pub behind_reads : (groups : List (List Member)) (target : Option Target) (answers : List (Key × Verdict))
    (old : LinesLeft) (line : Line) (pieces : List (Option Line)) →
    old.left ≡ Some line ∷ pieces → None ≡ answer_row_of line →
    reads groups (Answering target answers) old ≡ answered_or_behind groups target answers old None
behind_reads groups target answers old line pieces e none =
    ap (read_all groups old.taken (Answering target answers)) e
    ∙ (behind_by groups target answers old.taken line pieces none
    ∙ ap (read_all groups old.taken (Following target answers (AtGroup 0 groups))) (sym e))

abbrev answer_if : Option Target → List (Key × Verdict) → Key → Verdict → Bool → Option Reading
answer_if target answers key verdict has = if has then None else Some
    (Answering target (answers ++ (key, verdict) ∷ []))

-- an answer was added, or the buildpack has one
pub added_reads : {A : Type 0} (result : Result A CheckFault) (groups : List (List Member))
    (target : Option Target) (old new : List (Key × Verdict)) (lines : LinesLeft) (row : AnswerRow) (taken : ℕ)
    (start : Result Checked CheckFault) →
    start ≡ answered_or_behind groups target old lines (Some row) → taken ≡ lines.taken
    → IsAdded result taken row.key row.probed old new →
    GoesOn result start (λ _. reads groups (Answering target new) lines)
added_reads (Ok value) groups target old new lines row taken start e t is =
    e ∙ (ap (λ b. reads_on groups (answer_if target old row.key (answer_of build_plan row.probed) b) lines) is.0
    ∙ ap (λ a. reads groups (Answering target a) lines) (sym is.1))
added_reads (Err (Bad line)) groups target old new lines row taken start e t is =
    e ∙ (ap (λ b. reads_on groups (answer_if target old row.key (answer_of build_plan row.probed) b) lines) is.0
    ∙ ap refused_at (sym (is.1 ∙ t)))
added_reads (Err Memory) groups target old new lines row taken start e t is = tt
