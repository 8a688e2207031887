-- Lines that meet their rules stand for groups and trials that are passed over.
use Rattle.std.proofs.Common.{◌≡◌, ℕ, ◌+◌, Bool, true, false, cond, ◌&&◌, ◌||◌, not, List, [], ◌∷◌, ◌++◌, map, length}
use Rattle.std.proofs.Common.{take, refl, sym, ◌∙◌, ap, subst, Option, Some, None, zero, suc, arith, append_assoc}
use Rattle.std.proofs.Common.{length-append}
use Rattle.std.specs.Prelude.{slice_get, nat_lt, nat_le, ◌==◌}
use Rattle.std.proofs.Math.Seq.{take-append-add}
use Rattle.std.specs.List.{list_all, list_any, filter_map}
use Rattle.std.proofs.lemmas.Bool.{false≢true, and_parts, eqb-true, leb-true, le-ltb}
use Rattle.order_expand.specs.declared.member.Member.{Member}
use Rattle.plan_resolve.specs.declared.rows.TrialRow.{TrialRow}
use Rattle.plan_resolve.specs.declared.rows.AliveRow.{AliveRow}
use Rattle.plan_resolve.specs.declared.rows.Resolved.{Resolved}
use Rattle.plan_resolve.specs.Trials.{places, kept_of, is_closed}
use Rattle.plan_resolve.specs.Choices.{choices_of, choice_count}
use Rattle.plan_resolve.specs.Plan.{at_places}
use Rattle.plan_resolve.specs.Resolution.{TooMany, resolution, resolved_at, first_passing, passes_or_fails}
use Rattle.detect_core.specs.declared.chosen.Verdict.{Verdict}
use Rattle.detect_core.specs.Answer.{is_pass, alive_of, alive_row}
use Rattle.detect_core.specs.Detection.{Ending, FirstTrial, first_ending, ending_at, ending_of_rows, ending_by, reached}
use Rattle.detect_record.specs.declared.parts.GroupLine.{GroupLine}
use Rattle.detect_record.specs.declared.parts.GroupLine.TheVariants.{Fails, Idle, Trials, Chosen, Drop, Keep}
use Rattle.detect_record.specs.declared.parts.Step.{Step}
use Rattle.detect_record.specs.Record.{Answered, Stage, AtGroup, AtTrial, AtEnd, stage_if, trying, fails_at, begun}
use Rattle.detect_record.specs.Record.{begun_if, after_group, kept_stage, kept_if_chosen, after_trial, after, after_all}
use Rattle.detect_record.specs.Record.{drops, left_after, is_empty}
use Rattle.detect_record.specs.RecordLaws.{RecordsFirstTrial}
use Rattle.detect_record.proofs.DropLemmas.{drops_fail, keeps_pass}

-- ---- groups

-- the groups before a place ended nothing, and the search is to go on with these
record IsAt (says : Member → Verdict) (groups : List (List Member)) (place : ℕ)
    (left : List (List Member)) : Type 0 where
  passed : List (List Member)
  whole : groups ≡ passed ++ left
  count : length passed ≡ place
  ending : first_ending says 0 groups ≡ first_ending says place left
  reach : reached says 0 groups ≡ passed ++ reached says place left

at_start : (says : Member → Verdict) (groups : List (List Member)) → IsAt says groups 0 groups
at_start says groups = record { passed = []; whole = refl; count = refl; ending = refl; reach = refl }

abbrev ending_or : Option Ending → Option Ending → Option Ending
ending_or found later = elim found [ Some ending ↦ Some ending | None ↦ later ]

abbrev reached_or : Option Ending → List (List Member) → List (List Member)
reached_or found later = elim found [ Some ending ↦ [] | None ↦ later ]

push_whole : {X : Type 0} (xs : List X) (x : X) (ys : List X) → xs ++ x ∷ ys ≡ (xs ++ x ∷ []) ++ ys
push_whole xs x ys = sym (append_assoc xs (x ∷ []) ys)

-- a group that doesn't end the search
at_next : (says : Member → Verdict) (groups : List (List Member)) (place : ℕ) (group : List Member)
    (left : List (List Member)) →
    IsAt says groups place (group ∷ left) → ending_at says place group ≡ None → IsAt says groups (place + 1) left
at_next says groups place group left at none = record {
  passed = at.passed ++ group ∷ [];
  whole = at.whole ∙ push_whole at.passed group left;
  count = length-append at.passed (group ∷ []) ∙ ap (λ n. n + 1) at.count;
  ending = at.ending ∙ ap (λ e. ending_or e (first_ending says (place + 1) left)) none;
  reach = at.reach ∙ (ap (λ e. at.passed ++ group ∷ reached_or e (reached says (place + 1) left)) none
      ∙ push_whole at.passed group (reached says (place + 1) left));
}

-- a member that is required and doesn't pass
all_not : {X : Type 0} (p : X → Bool) (xs : List X) (k : ℕ) (x : X) → slice_get xs k ≡ Some x → p x ≡ false
    → list_all p xs ≡ false
all_not p [] k x e f = absurd cc
all_not p (y ∷ ys) zero x e f = let same : x ≡ y = cc in ap (λ b. b && list_all p ys) (subst (λ z. p z ≡ false) same f)
all_not p (y ∷ ys) (suc k) x e f = elim (p y) as (λ b. (b && list_all p ys) ≡ false)
    [ true ↦ all_not p ys k x e f | false ↦ refl ]

neither : (a b : Bool) → (not a && not b) ≡ true → (a || b) ≡ false
neither true true e = absurd cc
neither true false e = absurd cc
neither false true e = absurd cc
neither false false e = refl

and_false_left : (a b : Bool) → a ≡ false → (a && b) ≡ false
and_false_left a b e = ap (λ c. c && b) e

and_false_right : (a b : Bool) → b ≡ false → (a && b) ≡ false
and_false_right true b e = e
and_false_right false b e = refl

abbrev stands : (Member → Verdict) → Member → Bool
stands says member = member.optional || is_pass (says member)

abbrev alive_if : Bool → List AliveRow → Option (List AliveRow)
alive_if b rows = cond b (Some rows) None

fails_dead : (says : Member → Verdict) (place : ℕ) (group : List Member) (k : ℕ) (found : Option Member)
    → slice_get group k ≡ found →
    fails_at says found ≡ true → ending_at says place group ≡ None
fails_dead says place group k None e f = absurd (false≢true f)
fails_dead says place group k (Some member) e f =
    ap (λ b. ending_of_rows place (alive_if b (filter_map (λ m. alive_row m (says m)) group)))
    (and_false_left (list_all (stands says) group) (list_any (λ m. is_pass (says m)) group)
    (all_not (stands says) group k member e (neither member.optional (is_pass (says member)) f)))

not_is : (b : Bool) → not b ≡ true → b ≡ false
not_is true n = absurd cc
not_is false n = refl

idle_dead : (says : Member → Verdict) (place : ℕ) (group : List Member)
    → not (list_any (λ m. is_pass (says m)) group) ≡ true → ending_at says place group ≡ None
idle_dead says place group n =
    ap (λ b. ending_of_rows place (alive_if b (filter_map (λ m. alive_row m (says m)) group)))
    (and_false_right (list_all (stands says) group) (list_any (λ m. is_pass (says m)) group)
    (not_is (list_any (λ m. is_pass (says m)) group) n))

-- ---- trials

-- a group's trials before a number fail, and these are left
record IsTrying (says : Member → Verdict) (groups : List (List Member)) (place : ℕ) (rows : List AliveRow)
    (left : List (List Member)) (number : ℕ) (trials : List (List TrialRow)) : Type 0 where
  group : List Member
  at : IsAt says groups place (group ∷ left)
  alive : alive_of says group ≡ Some rows
  few : nat_lt 65536 (choice_count rows) ≡ false
  trying : first_passing rows 0 (choices_of rows) ≡ first_passing rows number trials

resolution_few : (rows : List AliveRow) → nat_lt 65536 (choice_count rows) ≡ false
    → resolution rows ≡ passes_or_fails (first_passing rows 0 (choices_of rows))
unfolding resolution
resolution_few rows few = ap (λ b. elim b [
  | true ↦ TooMany
  | false
      ↦ passes_or_fails (first_passing rows 0 (choices_of rows))
]) few

group_ending : (says : Member → Verdict) (groups : List (List Member)) (place : ℕ) (rows : List AliveRow)
    (left : List (List Member)) (number : ℕ) (trials : List (List TrialRow)) →
    (t : IsTrying says groups place rows left number trials)
    → ending_at says place t.group ≡ ending_by place rows (passes_or_fails (first_passing rows number trials))
group_ending says groups place rows left number trials t =
    ap (ending_of_rows place) t.alive
    ∙ (ap (ending_by place rows) (resolution_few rows t.few)
    ∙ ap (λ p. ending_by place rows (passes_or_fails p)) t.trying)

abbrev passing_or : List AliveRow → ℕ → List TrialRow → Option Resolved → Option (List ℕ) → Option Resolved
passing_or rows number trial later kept = elim kept
    [ Some set ↦ Some (resolved_at rows number trial set) | None ↦ later ]

trial_passed : (says : Member → Verdict) (groups : List (List Member)) (place : ℕ) (rows : List AliveRow)
    (left : List (List Member)) (number : ℕ) (trial : List TrialRow) (trials : List (List TrialRow)) →
    IsTrying says groups place rows left number (trial ∷ trials) → kept_of trial ≡ None
    → IsTrying says groups place rows left (number + 1) trials
trial_passed says groups place rows left number trial trials t fails = record {
  group = t.group;
  at = t.at;
  alive = t.alive;
  few = t.few;
  trying = t.trying ∙ ap (passing_or rows number trial (first_passing rows (number + 1) trials)) fails;
}

-- ---- stages

record IsEnded (answered : Answered) (groups : List (List Member)) (place : ℕ) (rows : List AliveRow) (number : ℕ)
    (trial : List TrialRow) (set : List ℕ) : Type 0 where
  left : List (List Member)
  trials : List (List TrialRow)
  tried : IsTrying answered.says groups place rows left number (trial ∷ trials)
  kept : kept_of trial ≡ Some set
  keys : answered.keys_right place ≡ true

-- what holds where a reader of the lines stands
abbrev IsRight : Answered → List (List Member) → Stage → Type 0
IsRight answered groups (AtGroup place left) = IsAt answered.says groups place left
IsRight answered groups (AtTrial chosen place rows left number trials) =
    IsTrying answered.says groups place rows left number trials × (chosen ≡ true → answered.keys_right place ≡ true)
IsRight answered groups (AtEnd place rows number trial set) = IsEnded answered groups place rows number trial set

stage_parts : (b : Bool) (stage next : Stage) → stage_if b stage ≡ Some next → (b ≡ true) × (stage ≡ next)
stage_parts true stage next e = (refl, cc)
stage_parts false stage next e = absurd cc

begun_parts : (b : Bool) (stage : Option Stage) (next : Stage) → begun_if b stage ≡ Some next → (b ≡ true)
    × (stage ≡ Some next)
begun_parts true stage next e = (refl, e)
begun_parts false stage next e = absurd cc

chosen_parts : (b : Bool) (stage : Option Stage) (next : Stage) → kept_if_chosen b stage ≡ Some next → (b ≡ true)
    × (stage ≡ Some next)
chosen_parts true stage next e = (refl, e)
chosen_parts false stage next e = absurd cc

-- behind trials that all fail comes the next group
trying_right : (answered : Answered) (groups : List (List Member)) (chosen : Bool) (place : ℕ)
    (rows : List AliveRow) (left : List (List Member)) (number : ℕ) (trials : List (List TrialRow)) →
    IsTrying answered.says groups place rows left number trials → (chosen ≡ true → answered.keys_right place ≡ true) →
    IsRight answered groups (trying chosen place rows left number trials)
trying_right answered groups false place rows left number [] t keys =
    at_next answered.says groups place t.group left t.at (group_ending answered.says groups place rows left number [] t)
trying_right answered groups true place rows left number [] t keys = (t, keys)
trying_right answered groups false place rows left number (trial ∷ trials) t keys = (t, keys)
trying_right answered groups true place rows left number (trial ∷ trials) t keys = (t, keys)

few_of : (count choices : ℕ) → (nat_le count 65536 && choices == count) ≡ true → nat_lt 65536 choices ≡ false
few_of count choices e =
    let parts = and_parts (nat_le count 65536) (choices == count) e in
    let most = leb-true count 65536 parts.0 in
    let same = eqb-true choices count parts.1 in
    le-ltb 65536 choices (omega (arith, most, same))

begun_right : (answered : Answered) (groups : List (List Member)) (chosen : Bool) (place : ℕ)
    (group : List Member) (alive : Option (List AliveRow)) (left : List (List Member)) (count : ℕ) (next : Stage)
    →
    IsAt answered.says groups place (group ∷ left) → alive_of answered.says group ≡ alive
    → (chosen ≡ true → answered.keys_right place ≡ true) →
    begun chosen place alive left count ≡ Some next → IsRight answered groups next
begun_right answered groups chosen place group None left count next at alive keys e = absurd cc
begun_right answered groups chosen place group (Some rows) left count next at alive keys e =
    let parts = stage_parts (nat_le count 65536 && choice_count rows == count)
    (trying chosen place rows left 0 (choices_of rows)) next e in
    subst (IsRight answered groups) parts.1 (trying_right answered groups chosen place rows left 0
    (choices_of rows) record {
      group = group;
      at = at;
      alive = alive;
      few = few_of count (choice_count rows) parts.0;
      trying = refl;
    } keys)

group_right : (answered : Answered) (groups : List (List Member)) (place : ℕ) (group : List Member)
    (left : List (List Member)) (line : GroupLine) (next : Stage) →
    IsAt answered.says groups place (group ∷ left) → after_group answered place group left line ≡ Some next
    → IsRight answered groups next
group_right answered groups place group left (Fails member) next at e =
    let parts = stage_parts (fails_at answered.says (slice_get group member)) (AtGroup (place + 1) left) next e in
    subst (IsRight answered groups) parts.1 (at_next answered.says groups place group left at
    (fails_dead answered.says place group member (slice_get group member) refl parts.0))
group_right answered groups place group left Idle next at e =
    let parts = stage_parts (not (list_any (λ m. is_pass (answered.says m)) group)) (AtGroup (place + 1) left) next e in
    subst (IsRight answered groups) parts.1 (at_next answered.says groups place group left at
    (idle_dead answered.says place group parts.0))
group_right answered groups place group left (Trials count) next at e =
    begun_right answered groups false place group (alive_of answered.says group) left count next at refl
    (λ no. absurd (false≢true no)) e
group_right answered groups place group left (Chosen count) next at e =
    let parts = begun_parts (answered.keys_right place)
    (begun true place (alive_of answered.says group) left count) next e in
    begun_right answered groups true place group (alive_of answered.says group) left count next at refl
    (λ yes. parts.0) parts.1
group_right answered groups place group left (Drop steps) next at e = absurd cc
group_right answered groups place group left (Keep steps) next at e = absurd cc

kept_right : (answered : Answered) (groups : List (List Member)) (place : ℕ) (rows : List AliveRow)
    (left : List (List Member)) (number : ℕ) (trial : List TrialRow) (trials : List (List TrialRow))
    (steps : List Step) (set : Option (List ℕ)) (next : Stage) →
    IsTrying answered.says groups place rows left number (trial ∷ trials) → answered.keys_right place ≡ true
    → left_after trial (places trial) steps ≡ set →
    kept_stage place rows number trial set ≡ Some next → IsRight answered groups next
kept_right answered groups place rows left number trial trials steps None next t keys from e = absurd cc
kept_right answered groups place rows left number trial trials steps (Some set) next t keys from e =
    let parts = stage_parts (nat_lt 0 (length set) && is_closed trial set) (AtEnd place rows number trial set) next e in
    let both = and_parts (nat_lt 0 (length set)) (is_closed trial set) parts.0 in
    subst (IsRight answered groups) parts.1 (record {
      left = left;
      trials = trials;
      tried = t;
      kept = keeps_pass trial steps set from both.0 both.1;
      keys =
          keys;
    })

trial_right : (answered : Answered) (groups : List (List Member)) (chosen : Bool) (place : ℕ)
    (rows : List AliveRow) (left : List (List Member)) (number : ℕ) (trial : List TrialRow)
    (trials : List (List TrialRow)) (line : GroupLine) (next : Stage) →
    IsTrying answered.says groups place rows left number (trial ∷ trials)
    → (chosen ≡ true → answered.keys_right place ≡ true) →
    after_trial chosen place rows left number trial trials line ≡ Some next → IsRight answered groups next
trial_right answered groups chosen place rows left number trial trials (Drop steps) next t keys e =
    let parts = stage_parts (drops trial (places trial) steps && not (chosen && is_empty trials))
    (trying chosen place rows left (number + 1) trials) next e in
    let both = and_parts (drops trial (places trial) steps) (not (chosen && is_empty trials)) parts.0 in
    subst (IsRight answered groups) parts.1 (trying_right answered groups chosen place rows left (number + 1) trials
    (trial_passed answered.says groups place rows left number trial trials t (drops_fail trial steps both.0)) keys)
trial_right answered groups chosen place rows left number trial trials (Keep steps) next t keys e =
    let parts = chosen_parts chosen (kept_stage place rows number trial (left_after trial (places trial) steps))
    next e in
    kept_right answered groups place rows left number trial trials steps
    (left_after trial (places trial) steps) next t (keys parts.0) refl parts.1
trial_right answered groups chosen place rows left number trial trials (Fails member) next t keys e = absurd cc
trial_right answered groups chosen place rows left number trial trials Idle next t keys e = absurd cc
trial_right answered groups chosen place rows left number trial trials (Trials count) next t keys e = absurd cc
trial_right answered groups chosen place rows left number trial trials (Chosen count) next t keys e = absurd cc

after_right : (answered : Answered) (groups : List (List Member)) (stage : Stage) (line : GroupLine)
    (next : Stage) → IsRight answered groups stage →
    after answered stage line ≡ Some next → IsRight answered groups next
after_right answered groups (AtGroup place []) line next right e = absurd cc
after_right answered groups (AtGroup place (group ∷ left)) line next right e =
    let parts = begun_parts (list_all answered.has_answer group) (after_group answered place group left line) next e in
    group_right answered groups place group left line next right parts.1
after_right answered groups (AtTrial chosen place rows left number []) line next right e = absurd cc
after_right answered groups (AtTrial chosen place rows left number (trial ∷ trials)) line next right e =
    trial_right answered groups chosen place rows left number trial trials line next right.0 right.1 e
after_right answered groups (AtEnd place rows number trial set) line next right e = absurd cc

all_right : (answered : Answered) (groups : List (List Member)) (stage : Option Stage) (lines : List GroupLine)
    (end : Stage) →
    ((next : Stage) → stage ≡ Some next → IsRight answered groups next)
    → after_all answered stage lines ≡ Some end → IsRight answered groups end
all_right answered groups None lines end right e = absurd cc
all_right answered groups (Some stage) [] end right e = right end e
all_right answered groups (Some stage) (line ∷ lines) end right e =
    all_right answered groups (after answered stage line) lines end
    (λ next f. after_right answered groups stage line next (right stage refl) f) e

-- ---- the end

abbrev from_kept : List AliveRow → ℕ → List TrialRow → Option Resolved → Option (List ℕ) → Option Resolved
from_kept rows number trial later kept = elim kept
    [ Some set ↦ Some (resolved_at rows number trial set) | None ↦ later ]

end_at : (answered : Answered) (groups : List (List Member)) (place : ℕ) (rows : List AliveRow) (number : ℕ)
    (trial : List TrialRow) (set : List ℕ) →
    (end : IsEnded answered groups place rows number trial set) →
    ending_at answered.says place end.tried.group
    ≡ Some (FirstTrial place (resolved_at rows number trial set) (map (λ row. row.key) (at_places rows set)))
end_at answered groups place rows number trial set end =
    group_ending answered.says groups place rows end.left number (trial ∷ end.trials) end.tried
    ∙ ap (λ kept. ending_by place rows (passes_or_fails
    (from_kept rows number trial (first_passing rows (number + 1) end.trials) kept))) end.kept

take_passed : {X : Type 0} (xs : List X) (x : X) (ys zs : List X) (n : ℕ) → zs ≡ xs ++ x ∷ ys → length xs ≡ n
    → take (n + 1) zs ≡ xs ++ x ∷ []
take_passed xs x ys zs n e len =
    ap (take (n + 1)) e
    ∙ (ap (λ k. take (k + 1) (xs ++ x ∷ ys)) (sym len)
    ∙ (take-append-add xs (x ∷ ys) 1))

pub record_proves : RecordsFirstTrial
record_proves answered groups lines place rows number trial set e =
    let end : IsEnded answered groups place rows number trial set =
    all_right answered groups (Some (AtGroup 0 groups)) lines (AtEnd place rows number trial set)
    (λ next f. let same : AtGroup 0 groups ≡ next = cc in subst (IsRight answered groups) same
    (at_start answered.says groups)) e in
    let at = end.tried.at in
    let found = end_at answered groups place rows number trial set end in
    let later = first_ending answered.says (place + 1) end.left in (
      at.ending ∙ ap (λ x. ending_or x later) found,
      at.reach ∙ (ap (λ x. at.passed ++ end.tried.group ∷ reached_or x
          (reached answered.says (place + 1) end.left)) found
          ∙ sym (take_passed at.passed end.tried.group end.left groups place at.whole at.count)),
      end.keys,
    )
