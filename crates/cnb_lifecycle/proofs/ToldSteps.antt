-- What steps come to where contracts see the files.
use Rattle.std.proofs.Common.{◌≡◌, ◌∙◌, sym, ap, subst, ℕ, Bool}
use Rattle.std.proofs.Common.{List, [], ◌∷◌, ◌++◌, append_assoc, Option}
use Rattle.std.proofs.Common.{Some, Result, Ok, Err, inl, inr}
use Rattle.std.specs.Prelude.{IfOk, IfSome, IsTrue}
use Rattle.std.specs.Option.{option_map}
use Rattle.cnb_world.specs.Runs.{Run}
use Rattle.cnb_world.specs.Tree.{Tree}
use Rattle.cnb_world.specs.Whole.{can_write, written}
use Rattle.steps.specs.Causes.{Cause}
use Rattle.steps.specs.Outside.{Seen}
use Rattle.steps.specs.Steps as steps
use Rattle.steps.specs.Steps.{◌>>=◌, gives, map_err, reads, writes, yields}
use Rattle.cnb_lifecycle.specs.Fitting.{LeaveTold}
use Rattle.cnb_lifecycle.proofs.LeadingSteps.{itself}
use Rattle.cnb_lifecycle.proofs.ServeLaws.{allowed, no_runs}

-- files are told, and are as this says
pub record IsTold (Q : Tree → Type 0) (files : Option Tree) : Type 0 where
  pub tree : Tree
  pub is : files ≡ Some tree
  pub fit : Q tree

-- What steps come to where the files are told and are as `P` says, and each child leaves files as `Left` says, which
-- are told: no such call, and files that are told and are as `Q` says of the value.
pub record Came {E A : Type 0} (Left P : Tree → Type 0) (Good : A → Type 0) (Q : A → Tree → Type 0) (old : Seen)
    (result : Result A E) (new : Seen) : Type 0 where
  pub rows : List Run
  pub runs : new.runs ≡ old.runs ++ rows
  pub good : IfOk result Good
  pub minds : (t : Tree) → old.files ≡ Some t → P t → LeaveTold Left rows → (new.misused ≡ old.misused)
      × IfOk result (λ a. IsTold (Q a) new.files)

-- the same of the last steps, behind which the files don't matter
pub record Ended (Left P : Tree → Type 0) (old new : Seen) : Type 0 where
  pub rows : List Run
  pub runs : new.runs ≡ old.runs ++ rows
  pub minds : (t : Tree) → old.files ≡ Some t → P t → LeaveTold Left rows → new.misused ≡ old.misused

told_both : (Left : Tree → Type 0) (first second : List Run) → LeaveTold Left (first ++ second)
    → LeaveTold Left first × LeaveTold Left second
told_both Left [] second h = (tt, h)
told_both Left (run ∷ first) second h = let rest = told_both Left first second h.1 in ((h.0, rest.0), rest.1)

pub runs_on : (a b c first second : List Run) → b ≡ a ++ first → c ≡ b ++ second → c ≡ a ++ (first ++ second)
runs_on a b c first second one two = two ∙ ap (λ rs. rs ++ second) one ∙ append_assoc a first second

module _ (Left : Tree → Type 0) where
  came_then : {E A B : Type 0} (P : Tree → Type 0) (Good : A → Type 0) (Q : A → Tree → Type 0) (Last : B → Type 0)
      (R : B → Tree → Type 0) (old mid new : Seen) (a : A) (result : Result B E)
      → Came {E = E} {A = A} Left P Good Q old (Ok a) mid → Came {E = E} {A = B} Left (Q a) Last R mid result new
      → Came {E = E} {A = B} Left P Last R old result new
  came_then P Good Q Last R old mid new a result h k = record {
    rows = h.rows ++ k.rows;
    runs = runs_on old.runs mid.runs new.runs h.rows k.rows h.runs k.runs;
    good = k.good;
    minds = λ t is fit left.
        let parts = told_both Left h.rows k.rows left in
        let one = h.minds t is fit parts.0 in
        let two = k.minds one.1.tree one.1.is one.1.fit parts.1 in
        (two.0 ∙ one.0, two.1);
  }

  ended_then : {E A : Type 0} (P : Tree → Type 0) (Good : A → Type 0) (Q : A → Tree → Type 0) (old mid new : Seen)
      (a : A) → Came {E = E} {A = A} Left P Good Q old (Ok a) mid → Ended Left (Q a) mid new
      → Ended Left P old new
  ended_then P Good Q old mid new a h k = record {
    rows = h.rows ++ k.rows;
    runs = runs_on old.runs mid.runs new.runs h.rows k.rows h.runs k.runs;
    minds = λ t is fit left.
        let parts = told_both Left h.rows k.rows left in
        let one = h.minds t is fit parts.0 in
        k.minds one.1.tree one.1.is one.1.fit parts.1 ∙ one.0;
  }

  ended_refused : {E A : Type 0} (P : Tree → Type 0) (Good : A → Type 0) (Q : A → Tree → Type 0) (old new : Seen)
      (fault : E) → Came {E = E} {A = A} Left P Good Q old (Err fault) new → Ended Left P old new
  ended_refused P Good Q old new fault h = record
      { rows = h.rows; runs = h.runs; minds = λ t is fit left. (h.minds t is fit left).0 }

  came_refused : {E F A B : Type 0} (P : Tree → Type 0) (Good : A → Type 0) (Q : A → Tree → Type 0)
      (Last : B → Type 0) (R : B → Tree → Type 0) (old new : Seen) (fault : E) (other : F)
      → Came {E = E} {A = A} Left P Good Q old (Err fault) new
      → Came {E = F} {A = B} Left P Last R old (Err other) new
  came_refused P Good Q Last R old new fault other h = record
      { rows = h.rows; runs = h.runs; good = tt; minds = λ t is fit left. ((h.minds t is fit left).0, tt) }

  module _ {S : Type 0} (view : S → Seen) where
    abbrev pub Comes : {E A : Type 0} → (S → Tree → Type 0) → (A → Type 0) → (A → S → Tree → Type 0)
        → (S → Result A E → S → Type 0) → Type 0
    Comes {E} {A} P Good Q step = (old new : S) (result : Result A E) → step old result new
        → Came {E = E} {A = A} Left (P old) Good (λ a. Q a new) (view old) result (view new)

    abbrev pub Ends : {E A : Type 0} → (S → Tree → Type 0) → (S → Result A E → S → Type 0) → Type 0
    Ends {E} {A} P step = (old new : S) (result : Result A E) → step old result new
        → Ended Left (P old) (view old) (view new)

    pub comes_bind : {E A B : Type 0} (P : S → Tree → Type 0) (Good : A → Type 0) (Q : A → S → Tree → Type 0)
        (Last : B → Type 0) (R : B → S → Tree → Type 0) (first : S → Result A E → S → Type 0)
        (next : A → S → Result B E → S → Type 0)
        → Comes P Good Q first → ((a : A) → Good a → Comes (Q a) Last R (next a)) → Comes P Last R (first >>= next)
    unfolding ◌>>=◌
    comes_bind P Good Q Last R first next p q old new (Ok value) (a, mid, h, k) =
        let one = p old mid (Ok a) h in
        came_then (P old) Good (λ a. Q a mid) Last (λ b. R b new) (view old) (view mid) (view new) a
        (Ok value) one (q a one.good mid new (Ok value) k)
    comes_bind P Good Q Last R first next p q old new (Err fault) (inl h) = came_refused (P old) Good
        (λ a. Q a new) Last (λ b. R b new) (view old) (view new) fault fault (p old new (Err fault) h)
    comes_bind P Good Q Last R first next p q old new (Err fault) (inr (a, mid, h, k)) =
        let one = p old mid (Ok a) h in
        came_then (P old) Good (λ a. Q a mid) Last (λ b. R b new) (view old) (view mid) (view new) a
        (Err fault) one (q a one.good mid new (Err fault) k)

    pub ends_bind : {E A B : Type 0} (P : S → Tree → Type 0) (Good : A → Type 0) (Q : A → S → Tree → Type 0)
        (first : S → Result A E → S → Type 0) (next : A → S → Result B E → S → Type 0)
        → Comes P Good Q first → ((a : A) → Good a → Ends (Q a) (next a)) → Ends P (first >>= next)
    unfolding ◌>>=◌
    ends_bind P Good Q first next p q old new (Ok value) (a, mid, h, k) =
        let one = p old mid (Ok a) h in
        ended_then (P old) Good (λ a. Q a mid) (view old) (view mid) (view new) a one
        (q a one.good mid new (Ok value) k)
    ends_bind P Good Q first next p q old new (Err fault) (inl h) = ended_refused (P old) Good (λ a. Q a new)
        (view old) (view new) fault (p old new (Err fault) h)
    ends_bind P Good Q first next p q old new (Err fault) (inr (a, mid, h, k)) =
        let one = p old mid (Ok a) h in
        ended_then (P old) Good (λ a. Q a mid) (view old) (view mid) (view new) a one
        (q a one.good mid new (Err fault) k)

    pub comes_told : {E F A : Type 0} (P : S → Tree → Type 0) (Good : A → Type 0) (Q : A → S → Tree → Type 0)
        (of : E → F) (step : S → Result A E → S → Type 0) → Comes P Good Q step → Comes P Good Q (map_err of step)
    unfolding map_err
    comes_told P Good Q of step p old new (Ok value) h = let one = p old new (Ok value) h
        in record { rows = one.rows; runs = one.runs; good = one.good; minds = one.minds }
    comes_told P Good Q of step p old new (Err refusal) (fault, is, h) = came_refused (P old) Good
        (λ a. Q a new) Good (λ a. Q a new) (view old) (view new) fault refusal (p old new (Err fault) h)

    -- what is seen of the world stays
    pub came_same : {E A : Type 0} (P : Tree → Type 0) (Good : A → Type 0) (old new : S) (result : Result A E)
        → IfOk result Good → view new ≡ view old → Came {E = E} {A = A} Left P Good (λ a. P) (view old) result
        (view new)
    came_same P Good old new (Ok a) good same = record {
      rows = [];
      runs = no_runs Left (view old) (view new) (ap (λ (s : Seen). s.runs) same);
      good = good;
      minds = λ t is fit left. (
        ap (λ (s : Seen). s.misused) same,
        record
            { tree = t; is = ap (λ (s : Seen). s.files) same ∙ is; fit = fit },
      );
    }
    came_same P Good old new (Err fault) good same = record {
      rows = [];
      runs = no_runs Left (view old) (view new) (ap (λ (s : Seen). s.runs) same);
      good = tt;
      minds = λ t is fit left. (ap (λ (s : Seen). s.misused) same, tt);
    }

    pub comes_gives : {E A : Type 0} (P : Tree → Type 0) (cause : E → Cause) (want : Result A E)
        → Comes (λ s. P) (λ a. want ≡ Ok a) (λ a s. P) (gives cause want)
    unfolding gives
    comes_gives P cause want old new (Ok a) h = came_same P (λ a. want ≡ Ok a) old new (Ok a) h.1 (ap view h.0)
    comes_gives P cause want old new (Err fault) h = came_same P (λ a. want ≡ Ok a) old new (Err fault) tt (ap view h.0)

    pub comes_yields : {E A : Type 0} (P : Tree → Type 0) (want : A)
        → Comes {E = E} {A = A} (λ s. P) (λ a. Unit {0}) (λ a s. P) (yields want)
    unfolding yields
    comes_yields {E = E} P want old new (Ok a) h = came_same {E = E} P (λ a. Unit {0}) old new (Ok a) tt (ap view h.1)
    comes_yields P want old new (Err fault) h = absurd h

  -- ---- one step

  at_told : (P : Tree → Type 0) (fits : Tree → Bool) (o : Option Tree) (t : Tree) → o ≡ Some t
      → ((t : Tree) → P t → IsTrue (fits t)) → P t → IfSome o (λ t. IsTrue (fits t))
  at_told P fits o t is so fit = subst (λ o. IfSome o (λ t. IsTrue (fits t))) (sym is) (so t fit)

  pub came_looks : {E A : Type 0} (P : Tree → Type 0) (fits : Tree → Bool) (old new : Seen) (result : Result A E)
      → ((t : Tree) → P t → IsTrue (fits t)) → new.runs ≡ old.runs → new.files ≡ old.files
      → steps.Allows fits old new
      → Came {E = E} {A = A} Left P (λ a. Unit {0}) (λ a. P) old result new
  came_looks P fits old new (Ok a) so runs files allows = record {
    rows = [];
    runs = no_runs Left old new runs;
    good = tt;
    minds = λ t is fit left. (
      allowed fits old.files old.misused new.misused
          (at_told P fits old.files t is so fit) allows,
      record { tree = t; is = files ∙ is; fit = fit },
    );
  }
  came_looks P fits old new (Err fault) so runs files allows = record {
    rows = [];
    runs = no_runs Left old new runs;
    good = tt;
    minds = λ t is fit left. (
      allowed fits old.files old.misused new.misused
          (at_told P fits old.files t is so fit) allows,
      tt,
    );
  }

  pub comes_reads : {E A : Type 0} (P : Tree → Type 0) (cause : E → Cause)
      (Among : List ℕ → Type 0) (fits : Tree → Bool)
      (want : Tree → Result A E) → ((t : Tree) → P t → IsTrue (fits t))
      → Comes itself (λ s. P) (λ a. Unit {0}) (λ a s. P) (reads cause Among fits want)
  unfolding reads
  comes_reads P cause Among fits want so old new result h = came_looks P fits old new result so h.same.runs h.same.files
      h.allows

  pub comes_writes : {E : Type 0} (P R : Tree → Type 0) (cause : E → Cause) (path : List ℕ) (Says : List ℕ → Type 0)
      → ((t : Tree) → P t → IsTrue (can_write path t))
      → ((bytes : List ℕ) (t : Tree) → P t → R (written path bytes t))
      → Comes itself (λ s. P) (λ done. Unit {0}) (λ done s. R) (writes cause path Says)
  unfolding writes
  comes_writes P R cause path Says so after old new (Ok done) h = record {
    rows = [];
    runs = no_runs Left old new h.runs;
    good = tt;
    minds = λ t is fit left. (
      allowed (can_write path) old.files old.misused new.misused
          (at_told P (can_write path) old.files t is so fit) h.allows,
      record {
        tree = written path h.bytes t;
        is = h.files ∙ ap (option_map (written path h.bytes)) is;
        fit = after
            h.bytes t fit;
      },
    );
  }
  comes_writes P R cause path Says so after old new (Err fault) h = record {
    rows = [];
    runs = no_runs Left old new h.1.runs;
    good = tt;
    minds = λ t is fit left. (
      allowed (can_write path) old.files old.misused new.misused
          (at_told P (can_write path) old.files t is so fit) h.1.allows,
      tt,
    );
  }

  -- whatever the value is
  pub any_came : {E A : Type 0} {Good : A → Type 0} (P : Tree → Type 0) (old new : Seen) (result : Result A E)
      → Came {E = E} {A = A} Left P Good (λ a. P) old result new
      → Came {E = E} {A = A} Left P (λ a. Unit {0}) (λ a. P) old result new
  any_came P old new (Ok a) h = record { rows = h.rows; runs = h.runs; good = tt; minds = h.minds }
  any_came P old new (Err fault) h = record { rows = h.rows; runs = h.runs; good = tt; minds = h.minds }
