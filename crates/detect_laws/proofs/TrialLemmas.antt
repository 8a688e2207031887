-- Where no group that is reached has too many trials, the search doesn't end for that.
use Rattle.std.proofs.Common.{◌≡◌, ◌∙◌, refl, sym, ap, ℕ, ◌+◌, ◌≤◌, Bool, true, false, List, [], ◌∷◌, Option, Some}
use Rattle.std.proofs.Common.{None}
use Rattle.std.proofs.lemmas.Bool.{le-ltb}
use Rattle.std.specs.List.{AllByRecursion}
use Rattle.detect_core.specs.Answer.{alive_of}
use Rattle.detect_core.specs.Detection.{Ending, TooManyTrials, ending_at, ending_by, ending_of_rows}
use Rattle.detect_core.specs.Detection.{first_ending, reached}
use Rattle.detect_core.specs.declared.chosen.Verdict.{Verdict}
use Rattle.order_expand.specs.declared.member.Member.{Member}
use Rattle.plan_resolve.specs.Choices.{choice_count, choices_of}
use Rattle.plan_resolve.specs.Resolution.{Fails, Passes, Resolution, TooMany, first_passing, passes_or_fails}
use Rattle.plan_resolve.specs.Resolution.{resolution}
use Rattle.plan_resolve.specs.declared.rows.AliveRow.{AliveRow}
use Rattle.plan_resolve.specs.declared.rows.Resolved.{Resolved}
use Rattle.detect_laws.specs.Trials.{HasFewTrials}

some_end : (found : Option Resolved) → passes_or_fails found ≡ TooMany → ⊥
some_end (Some resolved) e = cc
some_end None e = cc

few : (rows : List AliveRow) → choice_count rows ≤ 65536 → resolution rows ≡ TooMany → ⊥
unfolding resolution
few rows h e =
    let tried : Bool → Resolution = λ b. elim b [
      | true ↦ TooMany
      | false ↦ passes_or_fails (first_passing rows 0 (choices_of rows))
    ] in
    some_end (first_passing rows 0 (choices_of rows)) (sym (ap tried (le-ltb 65536 (choice_count rows) h)) ∙ e)

too_many : (place at : ℕ) (rows : List AliveRow) (found : Resolution)
    → ending_by place rows found ≡ Some (TooManyTrials at) → found ≡ TooMany
too_many place at rows TooMany e = refl
too_many place at rows (Passes resolved) e = absurd (cc)
too_many place at rows Fails e = absurd (cc)

by_rows : (place at : ℕ) (alive : Option (List AliveRow))
    → ((rows : List AliveRow) → alive ≡ Some rows → choice_count rows ≤ 65536)
    → ending_of_rows place alive ≡ Some (TooManyTrials at) → ⊥
by_rows place at None h e = cc
by_rows place at (Some rows) h e = few rows (h rows refl) (too_many place at rows (resolution rows) e)

-- a group doesn't end the search so, and if it goes on, the others don't
go_on : (at : ℕ) (ends later : Option Ending) → (ends ≡ Some (TooManyTrials at) → ⊥)
    → (ends ≡ None → later ≡ Some (TooManyTrials at) → ⊥)
    → elim ends [ Some ending ↦ Some ending | None ↦ later ] ≡ Some (TooManyTrials at) → ⊥
go_on at (Some ending) later h k e = h e
go_on at None later h k e = k refl e

reached_later : (P : List Member → Type 0) (ends : Option Ending) (groups : List (List Member))
    → AllByRecursion P (elim ends [ Some ending ↦ [] | None ↦ groups ]) → ends ≡ None → AllByRecursion P groups
reached_later P (Some ending) groups h e = absurd (cc)
reached_later P None groups h e = h

pub never_too_many : (says : Member → Verdict) (place at : ℕ) (groups : List (List Member))
    → AllByRecursion (HasFewTrials says) (reached says place groups)
    → first_ending says place groups ≡ Some (TooManyTrials at) → ⊥
never_too_many says place at [] h e = cc
never_too_many says place at (group ∷ groups) (first, rest) e =
    go_on at (ending_at says place group) (first_ending says (place + 1) groups)
    (by_rows place at (alive_of says group) first)
    (λ none. never_too_many says (place + 1) at groups
    (reached_later (HasFewTrials says) (ending_at says place group) (reached says (place + 1) groups) rest none)) e
