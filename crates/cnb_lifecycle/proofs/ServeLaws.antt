-- Steps that run children: where the files fit, and each child leaves files that fit, they make no call on a path of
-- the wrong kind, and leave files that fit.
use Rattle.std.proofs.Common.{◌≡◌, ◌∙◌, sym, ap, subst, ℕ, Bool, List, [], ◌∷◌, ◌++◌, append-nil, append_assoc, Option}
use Rattle.std.proofs.Common.{Some, None, Result, Ok, Err, inl, inr}
use Rattle.std.specs.Prelude.{IfOk, IfSome, IsTrue}
use Rattle.std.specs.List.{AllByRecursion}
use Rattle.std.specs.Option.{option_map}
use Rattle.cnb_world.specs.Calls.{MayMisuse}
use Rattle.cnb_world.specs.Runs.{Run}
use Rattle.cnb_world.specs.Tree.{Tree, can_make_folder, folder_made}
use Rattle.cnb_world.specs.Whole.{can_write, written}
use Rattle.cnb_world.specs.declared.child.ChildJob.{ChildJob}
use Rattle.cnb_world.specs.declared.child.End.{End}
use Rattle.steps.specs.Causes.{Cause}
use Rattle.steps.specs.Each.{for_each}
use Rattle.steps.specs.Outside.{Seen}
use Rattle.steps.specs.Steps.{◌>>=◌, gives, makes_folder, reads, runs_child, writes, yields}
use Rattle.cnb_lifecycle.specs.Fitting.{LeaveFit}

-- ---- files that may not be told

pub allowed : (fits : Tree → Bool) (o : Option Tree) (a b : ℕ) → IfSome o (λ t. IsTrue (fits t))
    → MayMisuse (option_map fits o) a b → b ≡ a
allowed fits None a b fit h = h
allowed fits (Some t) a b fit h = subst (λ v. MayMisuse (Some v) a b) fit h

pub where_so : (P R : Tree → Type 0) (o : Option Tree) → ((t : Tree) → P t → R t) → IfSome o P → IfSome o R
where_so P R None so h = tt
where_so P R (Some t) so h = so t h

with_both : (P R : Tree → Type 0) (o : Option Tree) → IfSome o P → IfSome o R → IfSome o (λ t. P t × R t)
with_both P R None h k = tt
with_both P R (Some t) h k = (h, k)

mapped : (P R : Tree → Type 0) (step : Tree → Tree) (o o1 : Option Tree) → o1 ≡ option_map step o
    → ((t : Tree) → P t → R (step t)) → IfSome o P → IfSome o1 R
mapped P R step None o1 is so h = subst (λ o. IfSome o R) (sym is) tt
mapped P R step (Some t) o1 is so h = subst (λ o. IfSome o R) (sym is) (so t h)

pub both_left : (Left : Tree → Type 0) (first second : List Run) → LeaveFit Left (first ++ second)
    → LeaveFit Left first × LeaveFit Left second
both_left Left [] second h = (tt, h)
both_left Left (run ∷ first) second h = let rest = both_left Left first second h.1 in ((h.0, rest.0), rest.1)

-- ---- steps, one after another

-- What steps come to where the files are as `P` says, and each child leaves files as `Left` says: no such call, and
-- files as `Q` says of the value. `Good` holds of the value in any case.
pub record Served {E A : Type 0} (Left P : Tree → Type 0) (Good : A → Type 0) (Q : A → Tree → Type 0) (old : Seen)
    (result : Result A E) (new : Seen) : Type 0 where
  pub rows : List Run
  pub runs : new.runs ≡ old.runs ++ rows
  pub good : IfOk result Good
  pub minds : IfSome old.files P → LeaveFit Left rows → (new.misused ≡ old.misused)
      × IfOk result (λ a. IfSome new.files (Q a))

abbrev pub Serves : {E A : Type 0} → (Tree → Type 0) → (Tree → Type 0) → (A → Type 0) → (A → Tree → Type 0)
    → (Seen → Result A E → Seen → Type 0) → Type 0
Serves {E} {A} Left P Good Q step = (old new : Seen) (result : Result A E) → step old result new
    → Served Left P Good Q old result new

module _ (Left : Tree → Type 0) where
  pub served_then : {E A B : Type 0} (P : Tree → Type 0) (Good : A → Type 0) (Q : A → Tree → Type 0)
      (Last : B → Type 0) (R : B → Tree → Type 0) (old mid new : Seen) (a : A) (result : Result B E)
      → Served {E = E} {A = A} Left P Good Q old (Ok a) mid → Served {E = E} {A = B} Left
      (Q a) Last R mid result new → Served {E = E} {A = B} Left P Last R old result new
  served_then P Good Q Last R old mid new a result h k = record {
    rows = h.rows ++ k.rows;
    runs = k.runs ∙ ap (λ rs. rs ++ k.rows) h.runs ∙ append_assoc old.runs h.rows k.rows;
    good = k.good;
    minds = λ fit left.
        let parts = both_left Left h.rows k.rows left in
        let one = h.minds fit parts.0 in
        let two = k.minds one.1 parts.1 in
        (two.0 ∙ one.0, two.1);
  }

  pub serves_bind : {E A B : Type 0} (P : Tree → Type 0) (Good : A → Type 0) (Q : A → Tree → Type 0)
      (Last : B → Type 0) (R : B → Tree → Type 0) (first : Seen → Result A E → Seen → Type 0)
      (next : A → Seen → Result B E → Seen → Type 0)
      → Serves Left P Good Q first → ((a : A) → Good a → Serves Left (Q a) Last R (next a))
      → Serves Left P Last R (first >>= next)
  unfolding ◌>>=◌
  serves_bind P Good Q Last R first next p q old new (Ok value) (a, mid, h, k) = let one = p old mid (Ok a) h
      in served_then P Good Q Last R old mid new a (Ok value) one (q a one.good mid new (Ok value) k)
  serves_bind P Good Q Last R first next p q old new (Err fault) (inl h) =
      let one = p old new (Err fault) h in
      record { rows = one.rows; runs = one.runs; good = tt; minds = λ fit left. ((one.minds fit left).0, tt) }
  serves_bind P Good Q Last R first next p q old new (Err fault) (inr (a, mid, h, k)) = let one = p old mid
      (Ok a) h in served_then P Good Q Last R old mid new a (Err fault) one (q a one.good mid new (Err fault) k)

  -- less is known of the files behind them, and more before them
  pub serves_less : {E A : Type 0} (P P1 : Tree → Type 0) (Good Good1 : A → Type 0) (Q Q1 : A → Tree → Type 0)
      (step : Seen → Result A E → Seen → Type 0)
      → ((t : Tree) → P1 t → P t) → ((a : A) → Good a → Good1 a) → ((a : A) (t : Tree) → Q a t → Q1 a t)
      → Serves Left P Good Q step → Serves Left P1 Good1 Q1 step
  serves_less P P1 Good Good1 Q Q1 step before value behind p old new (Ok a) h =
      let one = p old new (Ok a) h in
      record {
        rows = one.rows;
        runs = one.runs;
        good = value a one.good;
        minds = λ fit left. let two = one.minds
            (where_so P1 P old.files before fit) left in (two.0, where_so (Q a) (Q1 a) new.files (behind a) two.1);
      }
  serves_less P P1 Good Good1 Q Q1 step before value behind p old new (Err fault) h =
      let one = p old new (Err fault) h in
      record {
        rows = one.rows;
        runs = one.runs;
        good = tt;
        minds = λ fit left.
            ((one.minds (where_so P1 P old.files before fit) left).0, tt);
      }

  -- ---- one step

  pub no_runs : (old new : Seen) → new.runs ≡ old.runs → new.runs ≡ old.runs ++ []
  no_runs old new same = same ∙ sym (append-nil old.runs)

  -- files are read, and the next steps know what was read of them
  pub serves_known : {E A : Type 0} (P : Tree → Type 0) (cause : E → Cause)
      (Among : List ℕ → Type 0) (fits : Tree → Bool)
      (want : Tree → Result A E) → ((t : Tree) → P t → IsTrue (fits t))
      → Serves Left P (λ (a : A). Unit {0}) (λ a t. P t × (want t ≡ Ok a)) (reads cause Among fits want)
  unfolding reads
  serves_known P cause Among fits want so old new (Ok a) h = record {
    rows = [];
    runs = no_runs old new h.same.runs;
    good = tt;
    minds = λ fit left. (
      allowed fits old.files old.misused new.misused (where_so P (λ t. IsTrue (fits t)) old.files so fit) h.allows,
      subst (λ o. IfSome o (λ t. P t × (want t ≡ Ok a))) (sym h.same.files)
          (with_both P (λ t. want t ≡ Ok a) old.files fit h.answer),
    );
  }
  serves_known P cause Among fits want so old new (Err fault) h = record {
    rows = [];
    runs = no_runs old new h.same.runs;
    good = tt;
    minds = λ fit left. (
      allowed fits old.files old.misused new.misused
          (where_so P (λ t. IsTrue (fits t)) old.files so fit) h.allows,
      tt,
    );
  }

  pub serves_reads : {E A : Type 0} (P : Tree → Type 0) (cause : E → Cause)
      (Among : List ℕ → Type 0) (fits : Tree → Bool)
      (want : Tree → Result A E) → ((t : Tree) → P t → IsTrue (fits t))
      → Serves Left P (λ (a : A). Unit {0}) (λ a. P) (reads cause Among fits want)
  serves_reads P cause Among fits want so = serves_less P P (λ a. Unit {0}) (λ a. Unit {0})
      (λ a t. P t × (want t ≡ Ok a)) (λ a. P) (reads cause Among fits want) (λ t fit. fit) (λ a good. tt)
      (λ a t known. known.0) (serves_known P cause Among fits want so)

  pub serves_gives : {E A : Type 0} (P : Tree → Type 0) (cause : E → Cause) (want : Result A E)
      → Serves Left P (λ a. want ≡ Ok a) (λ a. P) (gives cause want)
  unfolding gives
  serves_gives P cause want old new (Ok a) h = record {
    rows = [];
    runs = no_runs old new (ap (λ (s : Seen). s.runs) h.0);
    good = h.1;
    minds = λ fit left. (ap (λ (s : Seen). s.misused) h.0, subst (λ (s : Seen). IfSome s.files P) (sym h.0) fit);
  }
  serves_gives P cause want old new (Err fault) h = record {
    rows = [];
    runs = no_runs old new (ap (λ (s : Seen). s.runs) h.0);
    good = tt;
    minds = λ fit left. (ap (λ (s : Seen). s.misused) h.0, tt);
  }

  pub serves_yields : {E A : Type 0} (P : Tree → Type 0) (want : A)
      → Serves {E = E} {A = A} Left P (λ a. a ≡ want) (λ a. P) (yields want)
  unfolding yields
  serves_yields P want old new (Ok a) h = record {
    rows = [];
    runs = no_runs old new (ap (λ (s : Seen). s.runs) h.1);
    good = h.0;
    minds = λ fit left. (ap (λ (s : Seen). s.misused) h.1, subst (λ (s : Seen). IfSome s.files P) (sym h.1) fit);
  }
  serves_yields P want old new (Err fault) h = absurd h

  pub serves_folder : {E : Type 0} (P R : Tree → Type 0) (cause : E → Cause) (path : List ℕ)
      → ((t : Tree) → P t → IsTrue (can_make_folder t path)) → ((t : Tree) → P t → R (folder_made path t))
      → Serves Left P (λ (done : Unit {0}). Unit {0}) (λ done. R) (makes_folder cause path)
  unfolding makes_folder
  serves_folder P R cause path so after old new (Ok done) h = record {
    rows = [];
    runs = no_runs old new h.0.runs;
    good = tt;
    minds = λ fit left. (
      allowed (λ t. can_make_folder t path) old.files old.misused new.misused
          (where_so P (λ t. IsTrue (can_make_folder t path)) old.files so fit) h.1,
      mapped P R (folder_made path) old.files new.files h.0.files after fit,
    );
  }
  serves_folder P R cause path so after old new (Err fault) h = record {
    rows = [];
    runs = no_runs old new h.1.runs;
    good = tt;
    minds = λ fit left. (
      allowed (λ t. can_make_folder t path) old.files old.misused new.misused
          (where_so P (λ t. IsTrue (can_make_folder t path)) old.files so fit) h.2,
      tt,
    );
  }

  pub serves_writes : {E : Type 0} (P R : Tree → Type 0) (cause : E → Cause) (path : List ℕ)
      (Says : List ℕ → Type 0) → ((t : Tree) → P t → IsTrue (can_write path t))
      → ((bytes : List ℕ) (t : Tree) → P t → R (written path bytes t))
      → Serves Left P (λ (done : Unit {0}). Unit {0}) (λ done. R) (writes cause path Says)
  unfolding writes
  serves_writes P R cause path Says so after old new (Ok done) h = record {
    rows = [];
    runs = no_runs old new h.runs;
    good = tt;
    minds = λ fit left. (
      allowed (can_write path) old.files old.misused new.misused
          (where_so P (λ t. IsTrue (can_write path t)) old.files so fit) h.allows,
      mapped P R (written path h.bytes) old.files new.files h.files (after h.bytes) fit,
    );
  }
  serves_writes P R cause path Says so after old new (Err fault) h = record {
    rows = [];
    runs = no_runs old new h.1.runs;
    good = tt;
    minds = λ fit left. (
      allowed (can_write path) old.files old.misused new.misused
          (where_so P (λ t. IsTrue (can_write path t)) old.files so fit) h.1.allows,
      tt,
    );
  }

  -- a child leaves files that fit
  pub serves_child : {E : Type 0} (P : Tree → Type 0) (cause : E → Cause) (job : ChildJob)
      → Serves Left P (λ (end : End). Unit {0}) (λ end. Left) (runs_child cause job)
  unfolding runs_child
  serves_child P cause job old new (Ok end) h = record {
    rows = record { job = job; end = end; found = old.files; left = new.files } ∷ [];
    runs = h.1;
    good = tt;
    minds = λ fit left. (h.0, left.0);
  }
  serves_child P cause job old new (Err fault) h = record {
    rows = [];
    runs = no_runs old new h.1.runs;
    good = tt;
    minds = λ fit left. (h.2, tt);
  }

  pub serves_each : {E A X : Type 0} (P : Tree → Type 0) (Good : A → Type 0) (Each : X → Type 0)
      (step : X → A → Seen → Result A E → Seen → Type 0) (xs : List X) (so_far : A)
      → AllByRecursion Each xs → ((x : X) → Each x → (a : A) → Good a → Serves Left P Good (λ a. P) (step x a))
      → Good so_far → Serves Left P Good (λ a. P) (for_each step xs so_far)
  unfolding for_each
  serves_each P Good Each step [] so_far each p good =
      serves_less P P (λ a. a ≡ so_far) Good (λ a. P) (λ a. P) (yields so_far) (λ t fit. fit)
      (λ a is. subst Good (sym is) good) (λ a t fit. fit) (serves_yields P so_far)
  serves_each P Good Each step (x ∷ xs) so_far each p good =
      serves_bind P Good (λ a. P) Good (λ a. P) (step x so_far) (for_each step xs) (p x each.0 so_far good)
      (λ a more. serves_each P Good Each step xs a each.1 p more)
