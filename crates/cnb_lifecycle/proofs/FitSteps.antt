-- Steps that make no call on a path of the wrong kind where the files fit, one after another.
use Rattle.std.proofs.Common.{◌≡◌, ◌∙◌, sym, ap, subst, ℕ, Bool, List, [], ◌∷◌, Option, Some, None, Result, Ok, Err}
use Rattle.std.proofs.Common.{inl, inr}
use Rattle.std.specs.Prelude.{IfSome, IsTrue}
use Rattle.std.specs.Option.{option_map}
use Rattle.cnb_launch.specs.Exec.{exec_job, runs_exec}
use Rattle.cnb_launch.specs.Faults as launching
use Rattle.cnb_world.specs.Calls.{MayMisuse}
use Rattle.cnb_world.specs.Tree.{Tree}
use Rattle.cnb_world.specs.Whole.{can_write}
use Rattle.cnb_world.specs.declared.child.ChildJob.{ChildJob}
use Rattle.cnb_world.specs.declared.env.Variable.{Variable}
use Rattle.steps.specs.Causes.{Cause}
use Rattle.steps.specs.Each.{for_each}
use Rattle.steps.specs.Outside.{Seen}
use Rattle.steps.specs.Steps.{◌>>=◌, gives, map_err, reads, runs_child, writes, yields}
use Rattle.cnb_lifecycle.specs.Fitting.{NoMisuse}

-- ---- steps, one after another

-- steps that make no such call where the files fit
abbrev pub Minds : {E A : Type 0} → (Tree → Type 0) → (Seen → Result A E → Seen → Type 0) → Type 0
Minds {E} {A} Fit step = (old new : Seen) (result : Result A E) → step old result new → NoMisuse Fit old new

-- and leave the files
abbrev pub Looks : {E A : Type 0} → (Tree → Type 0) → (Seen → Result A E → Seen → Type 0) → Type 0
Looks {E} {A} Fit step = (old new : Seen) (result : Result A E) → step old result new → (new.files ≡ old.files)
    × NoMisuse Fit old new

pub by_allows : (fits : Tree → Bool) (o : Option Tree) (a b : ℕ) → MayMisuse (option_map fits o) a b
    → IfSome o (λ files. IsTrue (fits files) → b ≡ a)
by_allows fits None a b h = tt
by_allows fits (Some t) a b h = λ fit. subst (λ v. MayMisuse (Some v) a b) fit h

pub narrow : (P Q : Tree → Type 0) (o : Option Tree) (a b : ℕ) → ((t : Tree) → Q t → P t)
    → IfSome o (λ files. P files → b ≡ a) → IfSome o (λ files. Q files → b ≡ a)
narrow P Q None a b so h = tt
narrow P Q (Some t) a b so h = λ q. h (so t q)

pub join : (P : Tree → Type 0) (o o1 : Option Tree) (a b c : ℕ) → o1 ≡ o → IfSome o (λ t. P t → b ≡ a)
    → IfSome o1 (λ t. P t → c ≡ b) → IfSome o (λ t. P t → c ≡ a)
join P None o1 a b c same first second = tt
join P (Some t) o1 a b c same first second = λ p. let next : IfSome (Some t) (λ t. P t → c ≡ b) = subst
    (λ v. IfSome v (λ t. P t → c ≡ b)) same second in next p ∙ first p

pub minds_looks : {E A : Type 0} (Fit : Tree → Type 0) (step : Seen → Result A E → Seen → Type 0) → Looks Fit step
    → Minds Fit step
minds_looks Fit step looks old new result h = (looks old new result h).1

pub looks_bind : {E A B : Type 0} (Fit : Tree → Type 0) (first : Seen → Result A E → Seen → Type 0)
    (next : A → Seen → Result B E → Seen → Type 0) → Looks Fit first → ((a : A) → Looks Fit (next a))
    → Looks Fit (first >>= next)
unfolding ◌>>=◌
looks_bind Fit first next p q old new (Ok value) (a, mid, h, k) =
    let one = p old mid (Ok a) h in
    let two = q a mid new (Ok value) k in
    (two.0 ∙ one.0, join Fit old.files mid.files old.misused mid.misused new.misused one.0 one.1 two.1)
looks_bind Fit first next p q old new (Err fault) (inl h) = p old new (Err fault) h
looks_bind Fit first next p q old new (Err fault) (inr (a, mid, h, k)) =
    let one = p old mid (Ok a) h in
    let two = q a mid new (Err fault) k in
    (two.0 ∙ one.0, join Fit old.files mid.files old.misused mid.misused new.misused one.0 one.1 two.1)

pub minds_bind : {E A B : Type 0} (Fit : Tree → Type 0) (first : Seen → Result A E → Seen → Type 0)
    (next : A → Seen → Result B E → Seen → Type 0) → Looks Fit first → ((a : A) → Minds Fit (next a))
    → Minds Fit (first >>= next)
unfolding ◌>>=◌
minds_bind Fit first next p q old new (Ok value) (a, mid, h, k) =
    let one = p old mid (Ok a) h in join Fit old.files mid.files old.misused mid.misused new.misused one.0 one.1
    (q a mid new (Ok value) k)
minds_bind Fit first next p q old new (Err fault) (inl h) = (p old new (Err fault) h).1
minds_bind Fit first next p q old new (Err fault) (inr (a, mid, h, k)) =
    let one = p old mid (Ok a) h in join Fit old.files mid.files old.misused mid.misused new.misused one.0 one.1
    (q a mid new (Err fault) k)

pub looks_told : {E F A : Type 0} (Fit : Tree → Type 0) (of : E → F) (step : Seen → Result A E → Seen → Type 0)
    → Looks Fit step → Looks Fit (map_err of step)
unfolding map_err
looks_told Fit of step p old new (Ok value) h = p old new (Ok value) h
looks_told Fit of step p old new (Err refusal) (fault, is, h) = p old new (Err fault) h

pub minds_told : {E F A : Type 0} (Fit : Tree → Type 0) (of : E → F) (step : Seen → Result A E → Seen → Type 0)
    → Minds Fit step → Minds Fit (map_err of step)
unfolding map_err
minds_told Fit of step p old new (Ok value) h = p old new (Ok value) h
minds_told Fit of step p old new (Err refusal) (fault, is, h) = p old new (Err fault) h

pub looks_reads : {E A : Type 0} (Fit : Tree → Type 0) (cause : E → Cause)
    (Among : List ℕ → Type 0) (fits : Tree → Bool)
    (want : Tree → Result A E) → ((t : Tree) → Fit t → IsTrue (fits t)) → Looks Fit (reads cause Among fits want)
unfolding reads
looks_reads Fit cause Among fits want so old new result h = (
  h.same.files,
  narrow (λ t. IsTrue (fits t)) Fit old.files old.misused new.misused so
      (by_allows fits old.files old.misused new.misused h.allows),
)

pub still : (Fit : Tree → Type 0) (o : Option Tree) (a b : ℕ) → b ≡ a → IfSome o (λ files. Fit files → b ≡ a)
still Fit None a b same = tt
still Fit (Some t) a b same = λ fit. same

pub unmoved : (Fit : Tree → Type 0) (old new : Seen) → new ≡ old → (new.files ≡ old.files) × NoMisuse Fit old new
unmoved Fit old new same = (
  ap (λ (s : Seen). s.files) same,
  still Fit old.files old.misused new.misused
      (ap (λ (s : Seen). s.misused) same),
)

pub looks_gives : {E A : Type 0} (Fit : Tree → Type 0) (cause : E → Cause) (want : Result A E)
    → Looks Fit (gives cause want)
unfolding gives
looks_gives Fit cause want old new result h = unmoved Fit old new h.0

pub looks_yields : {E A : Type 0} (Fit : Tree → Type 0) (want : A) → Looks {E = E} {A = A} Fit (yields want)
unfolding yields
looks_yields Fit want old new (Ok value) h = unmoved Fit old new h.1
looks_yields Fit want old new (Err fault) h = absurd h

pub looks_each : {E A X : Type 0} (Fit : Tree → Type 0) (step : X → A → Seen → Result A E → Seen → Type 0)
    (xs : List X) (so_far : A) → ((x : X) (a : A) → Looks Fit (step x a)) → Looks Fit (for_each step xs so_far)
unfolding for_each
looks_each Fit step [] so_far p = looks_yields Fit so_far
looks_each Fit step (x ∷ xs) so_far p = looks_bind Fit (step x so_far) (for_each step xs) (p x so_far)
    (λ a. looks_each Fit step xs a p)

pub minds_writes : {E : Type 0} (Fit : Tree → Type 0) (cause : E → Cause) (path : List ℕ) (Says : List ℕ → Type 0)
    → ((t : Tree) → Fit t → IsTrue (can_write path t)) → Minds Fit (writes cause path Says)
unfolding writes
minds_writes Fit cause path Says so old new (Ok done) h = narrow
    (λ t. IsTrue (can_write path t)) Fit old.files old.misused new.misused so
    (by_allows (can_write path) old.files old.misused new.misused h.allows)
minds_writes Fit cause path Says so old new (Err fault) h = narrow
    (λ t. IsTrue (can_write path t)) Fit old.files old.misused new.misused so
    (by_allows (can_write path) old.files old.misused new.misused h.1.allows)

-- a write, and a value that is known
pub minds_yields : {E A B : Type 0} (Fit : Tree → Type 0) (first : Seen → Result A E → Seen → Type 0) (value : B)
    → Minds Fit first → Minds Fit (first >>= (λ done. yields value))
unfolding ◌>>=◌ yields
minds_yields Fit first value p old new (Ok told) (a, mid, h, k) = subst (λ (s : Seen). NoMisuse Fit old s)
    (sym k.1) (p old mid (Ok a) h)
minds_yields Fit first value p old new (Err fault) (inl h) = p old new (Err fault) h
minds_yields Fit first value p old new (Err fault) (inr (a, mid, h, k)) = absurd k

-- ---- steps of which the next ones know what was read

-- where what was read is known of the files
pub with_known : (P Q : Tree → Type 0) (o o1 : Option Tree) (b c : ℕ) → o1 ≡ o → IfSome o Q
    → IfSome o1 (λ t. P t × Q t → c ≡ b) → IfSome o1 (λ t. P t → c ≡ b)
with_known P Q None o1 b c same q h = subst (λ v. IfSome v (λ t. P t → c ≡ b)) (sym same) tt
with_known P Q (Some t) o1 b c same q h =
    let at : IfSome (Some t) (λ t. P t × Q t → c ≡ b) = subst (λ v. IfSome v (λ t. P t × Q t → c ≡ b)) same h in
    subst (λ v. IfSome v (λ t. P t → c ≡ b)) (sym same) (λ p. at (p, q))

pub reads_then : {E A B : Type 0} (Fit : Tree → Type 0) (cause : E → Cause)
    (Among : List ℕ → Type 0) (fits : Tree → Bool)
    (want : Tree → Result A E) (next : A → Seen → Result B E → Seen → Type 0)
    → ((t : Tree) → Fit t → IsTrue (fits t))
    → ((a : A) → Looks (λ t. Fit t × (want t ≡ Ok a)) (next a)) → Looks Fit (reads cause Among fits want >>= next)
unfolding ◌>>=◌ reads
reads_then {E = E} {A = A} {B = B} Fit cause Among fits want next so later old new result h = by result h
  where
    behind : (result : Result B E) (a : A) (mid : Seen) → reads cause Among fits want old (Ok a) mid
        → next a mid result new → (new.files ≡ old.files) × NoMisuse Fit old new
    behind result a mid h k =
        let one = looks_reads Fit cause Among fits want so old mid (Ok a) h in
        let two = later a mid new result k in (
          two.0 ∙ one.0,
          join Fit old.files mid.files old.misused mid.misused new.misused one.0 one.1
              (with_known Fit (λ t. want t ≡ Ok a) old.files mid.files mid.misused new.misused one.0 h.answer
              two.1),
        )

    by : (result : Result B E) → (reads cause Among fits want >>= next) old result new → (new.files ≡ old.files)
        × NoMisuse Fit old new
    by (Ok value) (a, mid, h, k) = behind (Ok value) a mid h k
    by (Err fault) (inl h) = looks_reads Fit cause Among fits want so old new (Err fault) h
    by (Err fault) (inr (a, mid, h, k)) = behind (Err fault) a mid h k

-- the same where the fault is told as another
pub told_then : {E F A B : Type 0} (Fit : Tree → Type 0) (of : E → F)
    (cause : E → Cause) (Among : List ℕ → Type 0) (fits : Tree → Bool)
    (want : Tree → Result A E) (next : A → Seen → Result B F → Seen → Type 0)
    → ((t : Tree) → Fit t → IsTrue (fits t))
    → ((a : A) → Looks (λ t. Fit t × (want t ≡ Ok a)) (next a))
    → Looks Fit (map_err of (reads cause Among fits want) >>= next)
unfolding ◌>>=◌ map_err reads
told_then {F = F} {A = A} {B = B} Fit of cause Among fits want next so later old new result h = by result h
  where
    behind : (result : Result B F) (a : A) (mid : Seen) → reads cause Among fits want old (Ok a) mid
        → next a mid result new → (new.files ≡ old.files) × NoMisuse Fit old new
    behind result a mid h k =
        let one = looks_reads Fit cause Among fits want so old mid (Ok a) h in
        let two = later a mid new result k in (
          two.0 ∙ one.0,
          join Fit old.files mid.files old.misused mid.misused new.misused one.0 one.1
              (with_known Fit (λ t. want t ≡ Ok a) old.files mid.files mid.misused new.misused one.0 h.answer
              two.1),
        )

    by : (result : Result B F) → (map_err of (reads cause Among fits want) >>= next) old result new
        → (new.files ≡ old.files) × NoMisuse Fit old new
    by (Ok value) (a, mid, h, k) = behind (Ok value) a mid h k
    by (Err refusal) (inl (fault, is, h)) = looks_reads Fit cause Among fits want so old new (Err fault) h
    by (Err refusal) (inr (a, mid, h, k)) = behind (Err refusal) a mid h k

pub given_then : {E A B : Type 0} (Fit : Tree → Type 0) (cause : E → Cause) (want : Result A E)
    (next : A → Seen → Result B E → Seen → Type 0) → ((a : A) → want ≡ Ok a → Looks Fit (next a))
    → Looks Fit (gives cause want >>= next)
unfolding ◌>>=◌ gives
given_then Fit cause want next later old new (Ok value) (a, mid, h, k) =
    let one = unmoved Fit old mid h.0 in
    let two = later a h.1 mid new (Ok value) k in
    (two.0 ∙ one.0, join Fit old.files mid.files old.misused mid.misused new.misused one.0 one.1 two.1)
given_then Fit cause want next later old new (Err fault) (inl h) = unmoved Fit old new h.0
given_then Fit cause want next later old new (Err fault) (inr (a, mid, h, k)) =
    let one = unmoved Fit old mid h.0 in
    let two = later a h.1 mid new (Err fault) k in
    (two.0 ∙ one.0, join Fit old.files mid.files old.misused mid.misused new.misused one.0 one.1 two.1)

-- steps that count none, whatever the files are
abbrev pub Counts : {E A : Type 0} → (Seen → Result A E → Seen → Type 0) → Type 0
Counts {E} {A} step = (old new : Seen) (result : Result A E) → step old result new → new.misused ≡ old.misused

pub counts_bind : {E A B : Type 0} (first : Seen → Result A E → Seen → Type 0)
    (next : A → Seen → Result B E → Seen → Type 0) → Counts first → ((a : A) → Counts (next a))
    → Counts (first >>= next)
unfolding ◌>>=◌
counts_bind first next p q old new (Ok value) (a, mid, h, k) = q a mid new (Ok value) k ∙ p old mid (Ok a) h
counts_bind first next p q old new (Err fault) (inl h) = p old new (Err fault) h
counts_bind first next p q old new (Err fault) (inr (a, mid, h, k)) = q a mid new (Err fault) k ∙ p old mid (Ok a) h

pub counts_each : {E A X : Type 0} (step : X → A → Seen → Result A E → Seen → Type 0) (xs : List X) (so_far : A)
    → ((x : X) (a : A) → Counts (step x a)) → Counts (for_each step xs so_far)
unfolding for_each yields
counts_each step [] so_far p old new (Ok value) h = ap (λ (s : Seen). s.misused) h.1
counts_each step [] so_far p old new (Err fault) h = absurd h
counts_each step (x ∷ xs) so_far p old new result h = counts_bind (step x so_far) (for_each step xs) (p x so_far)
    (λ a. counts_each step xs a p) old new result h

pub counts_child : {E : Type 0} (cause : E → Cause) (job : ChildJob) → Counts (runs_child cause job)
unfolding runs_child
counts_child cause job old new (Ok end) h = h.0
counts_child cause job old new (Err fault) h = h.2

pub counts_exec : (dir path : List ℕ) (env : List Variable) → Counts (runs_exec dir path env)
unfolding runs_exec gives
counts_exec dir path env = counts_bind _ _ (counts_child launching.cause_of (exec_job dir path env))
    (λ end old new result h. ap (λ (s : Seen). s.misused) h.0)

-- what is looked at, and steps that count none
pub minds_counts : {E A B : Type 0} (Fit : Tree → Type 0) (first : Seen → Result A E → Seen → Type 0)
    (next : A → Seen → Result B E → Seen → Type 0) → Minds Fit first → ((a : A) → Counts (next a))
    → Minds Fit (first >>= next)
unfolding ◌>>=◌
minds_counts Fit first next p q old new (Ok value) (a, mid, h, k) = subst
    (λ n. IfSome old.files (λ t. Fit t → n ≡ old.misused)) (sym (q a mid new (Ok value) k)) (p old mid (Ok a) h)
minds_counts Fit first next p q old new (Err fault) (inl h) = p old new (Err fault) h
minds_counts Fit first next p q old new (Err fault) (inr (a, mid, h, k)) = subst
    (λ n. IfSome old.files (λ t. Fit t → n ≡ old.misused)) (sym (q a mid new (Err fault) k)) (p old mid (Ok a) h)
