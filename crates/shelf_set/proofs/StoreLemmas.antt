-- Storing trees on several shelves at once.
use Rattle.std.proofs.Common.{◌≡◌, ℕ, ◌≤◌, Bool, true, false, List, [], ◌∷◌, ◌++◌, length, refl, sym, ap}
use Rattle.std.proofs.Common.{suc, subst, ◌∙◌, arith, append-nil, Option, inl, inr}
use Rattle.std.specs.Prelude.{Some, None}
use Rattle.std.specs.List.{AllByRecursion}
use Rattle.std.specs.Option.{option_map}
use Rattle.std.specs.FinMap.{insert}
use Rattle.std.proofs.lemmas.List.{length-append, take-append-le}
use Rattle.std.proofs.Math.Seq.{take-append_seam}
use Rattle.cnb_world.specs.Calls.{Rose}
use Rattle.cnb_world.specs.Shelf.{Held}
use Rattle.tree_store.specs.Caching.{HasPut, HasRows, KeepsTold, MayHavePut, MayHaveRows, OnEach, OnShelf}
use Rattle.shelf_set.specs.ShelfState.{ShelfState}
use Rattle.shelf_set.specs.Storing.{with_trees, HasSome, TreeBytes}
use Rattle.shelf_set.specs.StoringEach.{EachBy, HasNotFailed, Holds, HoldsSome, MaybeStored, Stored}

-- ---- trees of one shelf

with_trees-last : (ts : List TreeBytes) (t : TreeBytes) (held : Held)
    → with_trees (ts ++ t ∷ []) held ≡ insert (with_trees ts held) t.digest t.bytes
with_trees-last [] t held = refl
with_trees-last (x ∷ ts) t held = with_trees-last ts t (insert held x.digest x.bytes)

none_put : (o : Option Held) → o ≡ option_map (with_trees []) o
none_put None = refl
none_put (Some h) = refl

one_put : (trees : List TreeBytes) (t : TreeBytes) (o : Option Held)
    → option_map (λ h. insert h t.digest t.bytes) (option_map (with_trees trees) o)
    ≡ option_map (with_trees (trees ++ t ∷ [])) o
one_put trees t None = refl
one_put trees t (Some h) = ap Some (sym (with_trees-last trees t h))

-- some of the trees are some of more
some_more : (trees more : List TreeBytes) (before now : ShelfState) → HasSome trees before now
    → HasSome (trees ++ more) before now
some_more trees more before now ((n, le, held), rows) = (
  (
    n,
    let size = length-append trees more in omega (arith, le, size),
    held ∙ ap (λ l. option_map (with_trees l) before.held) (sym (take-append-le n trees more le)),
  ),
  rows,
)

-- all trees so far are some of more
all_some : (trees more : List TreeBytes) (before now : ShelfState)
    → now.held ≡ option_map (with_trees trees) before.held → now.rows ≡ before.rows
    → HasSome (trees ++ more) before now
all_some trees more before now held rows = (
  (
    length trees,
    let size = length-append trees more in omega (arith, size),
    held ∙ ap (λ l. option_map (with_trees l) before.held) (sym (take-append_seam trees more)),
  ),
  rows,
)

all_so_far : (trees : List TreeBytes) (before now : ShelfState)
    → now.held ≡ option_map (with_trees trees) before.held → now.rows ≡ before.rows → HasSome trees before now
all_so_far trees before now held rows = subst (λ l. HasSome l before now) (append-nil trees)
    (all_some trees [] before now held rows)

rose_from : (a b c : ℕ) → b ≡ a → Rose b c → Rose a c
rose_from a b c e rose = subst (λ n. Rose n c) e rose

-- ---- one shelf in a call

-- a tree is put
pub put_step : (trees : List TreeBytes) (t : TreeBytes) (digest bytes : List ℕ) → digest ≡ t.digest → bytes ≡ t.bytes
    → (was fails : Bool) (a b c : ShelfState) → Holds trees was a b → OnShelf (HasPut digest bytes) was fails b c
    → Holds (trees ++ t ∷ []) fails a c
put_step trees t digest bytes d e true true a b c (has, rose) same = subst (Holds (trees ++ t ∷ []) true a) (sym same)
    (some_more trees (t ∷ []) a b has, rose)
put_step trees t digest bytes d e true false a b c has on = absurd on
put_step trees t digest bytes d e false true a b c ((held, rows), faults) ((told, kept), rose) = (
  all_some trees (t ∷ []) a c (told ∙ held) (kept ∙ rows),
  rose_from a.faults b.faults c.faults faults rose,
)
put_step trees t digest bytes d e false false a b c ((held, rows), faults) ((put, kept), same) = (
  (
    put ∙ ap (λ x. option_map (λ h. insert h x bytes) b.held) d
        ∙ ap (λ x. option_map (λ h. insert h t.digest x) b.held) e
        ∙ ap (option_map (λ h. insert h t.digest t.bytes)) held ∙ one_put trees t a.held,
    kept ∙ rows,
  ),
  same ∙ faults,
)

-- the tree of a refused folder isn't
pub told_step : (trees : List TreeBytes) (was fails : Bool) (a b c : ShelfState) → Holds trees was a b
    → OnShelf KeepsTold was fails b c → HoldsSome trees fails a c
told_step trees true true a b c has same = subst (HoldsSome trees true a) (sym same) has
told_step trees true false a b c has on = absurd on
told_step trees false true a b c ((held, rows), faults) ((told, kept), rose) = (
  all_so_far trees a c (told ∙ held) (kept ∙ rows),
  rose_from a.faults b.faults c.faults faults rose,
)
told_step trees false false a b c ((held, rows), faults) ((told, kept), same) = (
  all_so_far trees a c (told ∙ held) (kept ∙ rows),
  same ∙ faults,
)

-- or it is on some, where memory ran out
pub may_put_step : (trees : List TreeBytes) (t : TreeBytes) (digest bytes : List ℕ) → digest ≡ t.digest
    → bytes ≡ t.bytes → (was fails : Bool) (a b c : ShelfState) → Holds trees was a b
    → OnShelf (MayHavePut digest bytes) was fails b c → HoldsSome (trees ++ t ∷ []) fails a c
may_put_step trees t digest bytes d e true true a b c (has, rose) same =
    subst (HoldsSome (trees ++ t ∷ []) true a) (sym same) (some_more trees (t ∷ []) a b has, rose)
may_put_step trees t digest bytes d e true false a b c has on = absurd on
may_put_step trees t digest bytes d e false true a b c ((held, rows), faults) ((told, kept), rose) = (
  all_some trees (t ∷ []) a c (told ∙ held) (kept ∙ rows),
  rose_from a.faults b.faults c.faults faults rose,
)
may_put_step trees t digest bytes d e false false a b c ((held, rows), faults) (inl (told, kept), same) = (
  all_some trees (t ∷ []) a c (told ∙ held) (kept ∙ rows),
  same ∙ faults,
)
may_put_step trees t digest bytes d e false false a b c has (inr put, same) =
    let ((held, rows), faults) = put_step trees t digest bytes d e false false a b c has (put, same) in
    (all_so_far (trees ++ t ∷ []) a c held rows, faults)

-- the rows are set
pub rows_step : (trees : List TreeBytes) (document : List ℕ) (was fails : Bool) (a b c : ShelfState)
    → Holds trees was a b → OnShelf (HasRows document) was fails b c → Stored trees document fails a c
rows_step trees document true true a b c has same = subst (Stored trees document true a) (sym same) has
rows_step trees document true false a b c has on = absurd on
rows_step trees document false true a b c ((held, rows), faults) ((told, kept), rose) = (
  all_so_far trees a c (told ∙ held) (kept ∙ rows),
  rose_from a.faults b.faults c.faults faults rose,
)
rows_step trees document false false a b c ((held, rows), faults) ((set, kept), same) = (
  (kept ∙ held, set ∙ ap (option_map (λ _. document)) rows),
  same ∙ faults,
)

pub may_step : (trees : List TreeBytes) (document : List ℕ) (was fails : Bool) (a b c : ShelfState)
    → Holds trees was a b → OnShelf (MayHaveRows document) was fails b c → MaybeStored trees document fails a c
may_step trees document true true a b c (has, rose) same = subst (MaybeStored trees document true a) (sym same)
    (inl has, rose)
may_step trees document true false a b c has on = absurd on
may_step trees document false true a b c ((held, rows), faults) ((told, kept), rose) = (
  inl (all_so_far trees a c (told ∙ held) (kept ∙ rows)),
  rose_from a.faults b.faults c.faults faults rose,
)
may_step trees document false false a b c ((held, rows), faults) (inl (told, kept), same) = (
  inl (all_so_far trees a c (told ∙ held) (kept ∙ rows)),
  same ∙ faults,
)
may_step trees document false false a b c ((held, rows), faults) (inr (set, kept), same) = (
  inr (kept ∙ held, set ∙ ap (option_map (λ _. document)) rows),
  same ∙ faults,
)

-- where the rows weren't set
pub no_rows : (trees : List TreeBytes) (document : List ℕ) (fails : Bool) (a b : ShelfState)
    → HoldsSome trees fails a b → MaybeStored trees document fails a b
no_rows trees document fails a b (has, counted) = (inl has, counted)

-- ---- all shelves

pub each_begun : (failed : List Bool) (shelves : List ShelfState) → AllByRecursion HasNotFailed failed
    → length failed ≤ length shelves → EachBy (Holds []) failed shelves shelves
each_begun [] shelves none le = refl
each_begun (f ∷ failed) [] none le = absurd (omega (arith, le))
each_begun (true ∷ failed) (s ∷ shelves) none le = absurd (cc (none.0))
each_begun (false ∷ failed) (s ∷ shelves) none le = (
  ((none_put s.held, refl), refl),
  each_begun failed shelves none.1 (omega (arith, le)),
)

-- a call on each shelf
pub each_then : (Has Gets : Bool → ShelfState → ShelfState → Type 0) (Does : ShelfState → ShelfState → Type 0)
    → ((was fails : Bool) (a b c : ShelfState) → Has was a b → OnShelf Does was fails b c → Gets fails a c)
    → (before after : List Bool) (old mid new : List ShelfState) → EachBy Has before old mid
    → OnEach Does before after mid new → EachBy Gets after old new
each_then Has Gets Does step [] [] old mid new each on = on ∙ each
each_then Has Gets Does step [] (g ∷ after) old mid new each on = absurd on
each_then Has Gets Does step (f ∷ before) [] old mid new each on = absurd on
each_then Has Gets Does step (f ∷ before) (g ∷ after) [] mid new each on = absurd each
each_then Has Gets Does step (f ∷ before) (g ∷ after) (a ∷ old) [] new each on = absurd each
each_then Has Gets Does step (f ∷ before) (g ∷ after) (a ∷ old) (b ∷ mid) [] each on = absurd on
each_then Has Gets Does step (f ∷ before) (g ∷ after) (a ∷ old) (b ∷ mid) (c ∷ new) each on = (
  step f g a b c each.0 on.0,
  each_then Has Gets Does step before after old mid new each.1 on.1,
)

-- what follows of each shelf
pub each_so : (Has Gets : Bool → ShelfState → ShelfState → Type 0)
    → ((fails : Bool) (a b : ShelfState) → Has fails a b → Gets fails a b)
    → (failed : List Bool) (old new : List ShelfState) → EachBy Has failed old new → EachBy Gets failed old new
each_so Has Gets step [] old new each = each
each_so Has Gets step (f ∷ failed) [] new each = absurd each
each_so Has Gets step (f ∷ failed) (a ∷ old) [] each = absurd each
each_so Has Gets step (f ∷ failed) (a ∷ old) (b ∷ new) each = (
  step f a b each.0,
  each_so Has Gets step failed old new each.1,
)

pub each_paired : (Does : ShelfState → ShelfState → Type 0) (before after : List Bool) (old new : List ShelfState)
    → OnEach Does before after old new → length after ≡ length before
each_paired Does [] [] old new on = refl
each_paired Does [] (g ∷ after) old new on = absurd on
each_paired Does (f ∷ before) [] old new on = absurd on
each_paired Does (f ∷ before) (g ∷ after) [] new on = absurd on
each_paired Does (f ∷ before) (g ∷ after) (a ∷ old) [] on = absurd on
each_paired Does (f ∷ before) (g ∷ after) (a ∷ old) (b ∷ new) on = ap (λ n. suc n)
    (each_paired Does before after old new on.1)

pub each_within : (Has : Bool → ShelfState → ShelfState → Type 0) (failed : List Bool) (old new : List ShelfState)
    → EachBy Has failed old new → length failed ≤ length new
each_within Has [] old new each = omega arith
each_within Has (f ∷ failed) [] new each = absurd each
each_within Has (f ∷ failed) (a ∷ old) [] each = absurd each
each_within Has (f ∷ failed) (a ∷ old) (b ∷ new) each =
    let rest = each_within Has failed old new each.1 in
    omega (arith, rest)

-- as many shelves as before
pub each_many : (Has : Bool → ShelfState → ShelfState → Type 0) (failed : List Bool) (old new : List ShelfState)
    → EachBy Has failed old new → length new ≡ length old
each_many Has [] old new each = ap length each
each_many Has (f ∷ failed) [] new each = absurd each
each_many Has (f ∷ failed) (a ∷ old) [] each = absurd each
each_many Has (f ∷ failed) (a ∷ old) (b ∷ new) each = ap (λ n. suc n) (each_many Has failed old new each.1)
