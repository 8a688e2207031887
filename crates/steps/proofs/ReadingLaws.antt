-- Steps that only read come to what the files say, and make no call on a path of the wrong kind where the files fit.
use Rattle.std.proofs.Common.{◌≡◌, ◌∙◌, sym, ap, subst, ℕ, Bool, true, false, ◌&&◌, Option, Some, None, Result, Ok, Err}
use Rattle.std.proofs.Common.{inl, inr, arith}
use Rattle.std.specs.Prelude.{IfErr, IfSome, List}
use Rattle.std.specs.Option.{option_map}
use Rattle.cnb_world.specs.Calls.{MayMisuse}
use Rattle.cnb_world.specs.Tree.{Tree}
use Rattle.steps.specs.Causes.{Cause, FileFailed, ChildFailed, OutOfMemory, Decided, IsAnswer, NamesOne, WhereDecided}
use Rattle.steps.specs.Causes.{ended_by}
use Rattle.steps.specs.Counts.{FileCounts}
use Rattle.steps.specs.Outside.{Seen}
use Rattle.steps.specs.Reading.{LeavesUnchanged}
use Rattle.steps.specs.Results as results
use Rattle.steps.specs.Steps.{◌>>=◌, Allows, Same, gives, map_err, reads}
use Rattle.steps.proofs.EndLaws.{read_ends}

-- what follows a step that only reads
pub record IsRead {E A : Type 0} (cause_of : E → Cause) (fits : Tree → Bool) (want : Tree → Result A E)
    (old : Seen) (result : Result A E) (new : Seen) : Type 0 where
  pub same : Same old new
  pub answer : IfSome old.files (λ files. IsAnswer cause_of result (want files))
  pub allows : Allows fits old new

abbrev pub OnlyReads : {E A : Type 0} → (E → Cause) → (Tree → Bool) → (Tree → Result A E)
    → (Seen → Result A E → Seen → Type 0) → Type 0
OnlyReads {E} {A} cause_of fits want step = (old new : Seen) (result : Result A E) → step old result new
    → IsRead cause_of fits want old result new

pub where_map : (cause : Cause) (P Q : Type 0) → (P → Q) → WhereDecided cause P → WhereDecided cause Q
where_map (FileFailed path) P Q f h = tt
where_map ChildFailed P Q f h = tt
where_map OutOfMemory P Q f h = tt
where_map Decided P Q f h = f h

may_by : (x y : Bool) (a b c : ℕ) → MayMisuse (Some x) a b → MayMisuse (Some y) b c → MayMisuse (Some (x && y)) a c
may_by true true a b c first second = second ∙ first
may_by true false a b c first second = omega (arith, first, second)
may_by false true a b c first second = omega (arith, first, second)
may_by false false a b c first second = omega (arith, first, second)

-- one call after another, where the first leaves the files: what both allow counts no misuse
pub may_same : (F G : Tree → Bool) (o o1 : Option Tree) (a b c : ℕ) → o1 ≡ o → MayMisuse (option_map F o) a b
    → MayMisuse (option_map G o1) b c → MayMisuse (option_map (λ t. F t && G t) o) a c
may_same F G None o1 a b c e first second = subst (λ v. MayMisuse (option_map G v) b c) e second ∙ first
may_same F G (Some t) o1 a b c e first second = may_by (F t) (G t) a b c first
    (subst (λ v. MayMisuse (option_map G v) b c) e second)

first_alone : (x y : Bool) (a b : ℕ) → MayMisuse (Some x) a b → MayMisuse (Some (x && y)) a b
first_alone true true a b h = h
first_alone true false a b h = omega (arith, h)
first_alone false y a b h = h

pub may_first : (F G : Tree → Bool) (o : Option Tree) (a b : ℕ) → MayMisuse (option_map F o) a b
    → MayMisuse (option_map (λ t. F t && G t) o) a b
may_first F G None a b h = h
may_first F G (Some t) a b h = first_alone (F t) (G t) a b h

-- where a test is told otherwise
pub may_as : (F G : Tree → Bool) → ((t : Tree) → F t ≡ G t) → (o : Option Tree) (a b : ℕ)
    → MayMisuse (option_map F o) a b → MayMisuse (option_map G o) a b
may_as F G same None a b h = h
may_as F G same (Some t) a b h = subst (λ v. MayMisuse (Some v) a b) (same t) h

answers : {E A B : Type 0} (cause_of : E → Cause) (first : Result A E) (next : A → Result B E) (a : A)
    (result : Result B E) → first ≡ Ok a → IsAnswer cause_of result (next a)
    → IsAnswer cause_of result (results.and_then (first) next)
answers cause_of first next a result is h = subst (λ f. IsAnswer cause_of result (results.and_then (f) next)) (sym is) h

refused : {E A B : Type 0} (cause_of : E → Cause) (first : Result A E) (next : A → Result B E) (fault : E)
    → IsAnswer cause_of (Err fault) first → IsAnswer cause_of (Err fault) (results.and_then (first) next)
refused cause_of first next fault h = where_map (cause_of fault) (first ≡ Err fault)
    ((results.and_then (first) next) ≡ Err fault) (λ e. ap (λ f. results.and_then f next) e) h

pub answers_where : {E A B : Type 0} (cause_of : E → Cause) (o o1 : Option Tree) (first : Tree → Result A E)
    (next : A → Tree → Result B E) (a : A) (result : Result B E) → o1 ≡ o
    → IfSome o (λ t. IsAnswer cause_of (Ok a) (first t)) → IfSome o1 (λ t. IsAnswer cause_of result (next a t))
    → IfSome o (λ t. IsAnswer cause_of result (results.and_then (first t) (λ b. next b t)))
answers_where cause_of None o1 first next a result e h k = tt
answers_where cause_of (Some t) o1 first next a result e h k = answers cause_of (first t)
    (λ b. next b t) a result h (subst (λ v. IfSome v (λ t. IsAnswer cause_of result (next a t))) e k)

pub refused_where : {E A B : Type 0} (cause_of : E → Cause) (o : Option Tree) (first : Tree → Result A E)
    (next : A → Tree → Result B E) (fault : E)
    → IfSome o (λ t. IsAnswer cause_of (Err fault) (first t))
    → IfSome o (λ t. IsAnswer cause_of (Err fault) (results.and_then (first t) (λ b. next b t)))
refused_where cause_of None first next fault h = tt
refused_where cause_of (Some t) first next fault h = refused cause_of (first t) (λ b. next b t) fault h

then_read : {E A B : Type 0} (cause_of : E → Cause) (F G : Tree → Bool) (first : Tree → Result A E)
    (next : A → Tree → Result B E) (old mid new : Seen) (a : A) (result : Result B E)
    → IsRead cause_of F first old (Ok a) mid → IsRead cause_of G (next a) mid result new
    → IsRead cause_of (λ t. F t && G t) (λ t. results.and_then (first t) (λ b. next b t)) old result new
then_read cause_of F G first next old mid new a result h k = record {
  same = record { files = k.same.files ∙ h.same.files; runs = k.same.runs ∙ h.same.runs };
  answer = answers_where cause_of old.files mid.files first next a result h.same.files h.answer k.answer;
  allows = may_same F G old.files mid.files old.misused mid.misused new.misused h.same.files h.allows k.allows;
}

pub reads_then : {E A B : Type 0} (cause_of : E → Cause) (F G : Tree → Bool) (want : Tree → Result A E)
    (later : A → Tree → Result B E) (first : Seen → Result A E → Seen → Type 0)
    (next : A → Seen → Result B E → Seen → Type 0)
    → OnlyReads cause_of F want first → ((a : A) → OnlyReads cause_of G (later a) (next a))
    → OnlyReads cause_of (λ t. F t && G t) (λ t. results.and_then (want t) (λ a. later a t)) (first >>= next)
unfolding ◌>>=◌
reads_then cause_of F G want later first next p q old new (Ok value)
    (a, mid, h, k) = then_read cause_of F G want later old mid new a (Ok value) (p old mid (Ok a) h)
    (q a mid new (Ok value) k)
reads_then cause_of F G want later first next p q old new (Err fault) (inl h) =
    let one = p old new (Err fault) h in
    record {
      same = one.same;
      answer = refused_where cause_of old.files want later fault one.answer;
      allows =
          may_first F G old.files old.misused new.misused one.allows;
    }
reads_then cause_of F G want later first next p q old new (Err fault)
    (inr (a, mid, h, k)) = then_read cause_of F G want later old mid new a (Err fault) (p old mid (Ok a) h)
    (q a mid new (Err fault) k)

-- reading itself
pub reads_files : {E A : Type 0} (cause_of : E → Cause) (Among : List ℕ → Type 0) (fits : Tree → Bool)
    (want : Tree → Result A E) → OnlyReads cause_of fits want (reads cause_of Among fits want)
unfolding reads
reads_files cause_of Among fits want old new result h = record { same = h.same; answer = h.answer; allows = h.allows }

given_where : {E A : Type 0} (cause_of : E → Cause) (want : Result A E) (o : Option Tree) (result : Result A E)
    → IsAnswer cause_of result want → IfSome o (λ files. IsAnswer cause_of result want)
given_where cause_of want None result h = tt
given_where cause_of want (Some t) result h = h

unmoved : (o : Option Tree) (a b : ℕ) → b ≡ a → MayMisuse (option_map (λ (t : Tree). true) o) a b
unmoved None a b e = e
unmoved (Some t) a b e = e

pub gives_known : {E A : Type 0} (cause_of : E → Cause) (want : Result A E)
    → OnlyReads cause_of (λ t. true) (λ t. want) (gives cause_of want)
unfolding gives
gives_known cause_of want old new result h = record {
  same = record { files = ap (λ s. s.files) h.0; runs = ap (λ s. s.runs) h.0 };
  answer = given_where cause_of want old.files result h.1;
  allows = unmoved old.files old.misused new.misused (ap (λ s. s.misused) h.0);
}

-- with a fault that is told as another, whose cause is the same
told_as : {E F A : Type 0} (cause_of : E → Cause) (cause_of' : F → Cause) (of : E → F) (fault : E)
    (want : Result A E) → cause_of' (of fault) ≡ cause_of fault → IsAnswer cause_of (Err fault) want
    → IsAnswer cause_of' (Err (of fault)) (results.with_fault of want)
told_as cause_of cause_of' of fault want same h =
    subst (λ cause. WhereDecided cause (results.with_fault of want ≡ Err (of fault))) (sym same)
    (where_map (cause_of fault) (want ≡ Err fault) (results.with_fault of want ≡ Err (of fault))
    (λ e. ap (results.with_fault of) e) h)

told_where : {E F A : Type 0} (cause_of : E → Cause) (cause_of' : F → Cause) (of : E → F) (fault : E)
    (o : Option Tree) (want : Tree → Result A E) → cause_of' (of fault) ≡ cause_of fault
    → IfSome o (λ t. IsAnswer cause_of (Err fault) (want t))
    → IfSome o (λ t. IsAnswer cause_of' (Err (of fault)) (results.with_fault of (want t)))
told_where cause_of cause_of' of fault None want same h = tt
told_where cause_of cause_of' of fault (Some t) want same h = told_as cause_of cause_of' of fault (want t) same h

went_where : {E F A : Type 0} (cause_of : E → Cause) (cause_of' : F → Cause) (of : E → F) (value : A)
    (o : Option Tree) (want : Tree → Result A E)
    → IfSome o (λ t. IsAnswer cause_of (Ok value) (want t))
    → IfSome o (λ t. IsAnswer cause_of' (Ok value) (results.with_fault of (want t)))
went_where cause_of cause_of' of value None want h = tt
went_where cause_of cause_of' of value (Some t) want h = ap (results.with_fault of) h

pub reads_told : {E F A : Type 0} (cause_of : E → Cause) (cause_of' : F → Cause) (of : E → F) (fits : Tree → Bool)
    (want : Tree → Result A E) (step : Seen → Result A E → Seen → Type 0)
    → ((fault : E) → cause_of' (of fault) ≡ cause_of fault)
    → OnlyReads cause_of fits want step → OnlyReads cause_of' fits (λ t. results.with_fault of (want t))
    (map_err of step)
unfolding map_err
reads_told cause_of cause_of' of fits want step causes p old new (Ok value) h =
    let one = p old new (Ok value) h in
    record {
      same = one.same;
      answer = went_where cause_of cause_of' of value old.files want one.answer;
      allows =
          one.allows;
    }
reads_told cause_of cause_of' of fits want step causes p old new (Err refusal) (fault, is, h) =
    let one = p old new (Err fault) h in
    subst (λ r. IsRead cause_of' fits (λ t. results.with_fault of (want t)) old (Err r) new) (sym is)
    (record {
      same = one.same;
      answer = told_where cause_of cause_of' of fault old.files want
          (causes fault) one.answer;
      allows = one.allows;
    })

-- what a call that only reads does to the counts
pub unchanged_counts : {E A : Type 0} (cause_of : E → Cause) (result : Result A E) (old new : Seen)
    → LeavesUnchanged cause_of result old new → FileCounts (ended_by cause_of result) old new
unchanged_counts cause_of (Ok value) old new left = record { ends = tt; files = left.counts; children = left.children }
unchanged_counts cause_of (Err fault) old new left = record {
  ends = read_ends new.failed_at (cause_of fault) left.cause;
  files = left.counts;
  children =
      left.children;
}

-- files that were read by a call that leaves all as it was
pub read_unchanged : {E A : Type 0} (cause_of : E → Cause) (Among : List ℕ → Type 0) (fits : Tree → Bool)
    (want : Tree → Result A E) (result : Result A E) {old new : Seen}
    → IfSome old.files (λ files. IsAnswer cause_of result (want files)) → LeavesUnchanged cause_of result old new
    → IfErr result (λ fault. NamesOne Among (cause_of fault))
    → Allows fits old new → reads cause_of Among fits want old result new
unfolding reads
read_unchanged cause_of Among fits want result {old} {new} answer left named allows = record {
  same = record { files = left.files; runs = left.runs };
  answer = answer;
  cause = left.cause;
  named = named;
  allows = allows;
  counts = unchanged_counts cause_of result old new left;
}
