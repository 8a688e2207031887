-- A tree's bytes in a file: written there, or compared with what it has, a piece after another.
use Rattle.std.proofs.Common.{◌≡◌, ◌≢◌, ℕ, ◌+◌, ◌≤◌, ◌∙◌, ◌⊎◌, inl, inr, Bool, true, false, cond, List, [], ◌++◌}
use Rattle.std.proofs.Common.{length, take, drop, refl, sym, ap, subst, arith, Option, Some, None, Result, Ok, Err}
use Rattle.std.proofs.Common.{append_assoc, append-nil, length-append}
use Rattle.std.specs.Prelude.{IfOk, IfSome, IsTrue, ◌↔◌}
use Rattle.std.specs.Option.{option_map}
use Rattle.std.proofs.Math.Seq.{take-append_seam, take-append-add}
use Rattle.std.proofs.lemmas.List.{drop-drop, drop_at, length-take, take_all, take-append-drop, take-append-le}
use Rattle.cnb_world.specs.Calls.{AppendsSome, CountsMisuse, MayMisuse}
use Rattle.cnb_world.specs.Path.{beside}
use Rattle.cnb_world.specs.Tree.{Tree, appended, bytes_of, can_read, created, is_exec, is_file, is_root}
use Rattle.cnb_world.specs.declared.world.FileFault.{FileFault}
use Rattle.cnb_world.specs.declared.world.Item.TheVariants as item
use Rattle.std.specs.FinMap.{get, insert}
use Rattle.cnb_world.proofs.Folders.{allows_append}
use Rattle.cnb_world.proofs.Trees.{get-insert_same, insert-insert}
use Rattle.tree_canon.specs.Spelling.{spelling_of}
use Rattle.tree_canon.specs.declared.node.Node.{Node}
use Rattle.tree_store.specs.declared.fault.StoreFault.{StoreFault}
use Rattle.tree_store.proofs.Kept.{contents}
use Rattle.tree_store.proofs.Right.{right}

-- ---- written

appended-appended : (path a b : List ℕ) (files : Tree)
    → appended path b (appended path a files) ≡ appended path (a ++ b) files
appended-appended path a b files =
    rw (get-insert_same files path (item.File (is_exec (get files path)) (bytes_of (get files path) ++ a)))
    (insert-insert files path _ _ ∙ ap (λ m. insert files path (item.File (is_exec (get files path)) m))
    (append_assoc (bytes_of (get files path)) a b))

-- no bytes were added, or these
abbrev pub Grown : Option Tree → Option Tree → List ℕ → List ℕ → Type 0
Grown o o1 path taken = ((o1 ≡ o) × (taken ≡ [])) ⊎ (o1 ≡ option_map (appended path taken) o)

grown_more : (o o1 o2 : Option Tree) (path taken more : List ℕ) → Grown o o1 path taken
    → o2 ≡ option_map (appended path more) o1 → o2 ≡ option_map (appended path (taken ++ more)) o
grown_more o o1 o2 path taken more (inl (same, none)) now = now ∙ ap (option_map (appended path more)) same
    ∙ ap (λ t. option_map (appended path (t ++ more)) o) (sym none)
grown_more o o1 o2 path taken more (inr before) now = now ∙ ap (option_map (appended path more)) before ∙ by o
  where
    by : (o : Option Tree) → option_map (appended path more) (option_map (appended path taken) o)
        ≡ option_map (appended path (taken ++ more)) o
    by None = refl
    by (Some files) = ap Some (appended-appended path taken more files)

-- Some of the bytes were added, the piece and what is left are the others, and an empty piece is the last one.
pub record HasAppended (o o1 : Option Tree) (path piece left bytes : List ℕ) : Type 0 where
  pub taken : List ℕ
  pub all : taken ++ (piece ++ left) ≡ bytes
  pub end : piece ≡ [] → left ≡ []
  pub files : Grown o o1 path taken

pub none_appended : (o : Option Tree) (path all piece left bytes : List ℕ) → all ≡ bytes → all ≡ piece ++ left
    → (piece ≡ [] → left ≡ []) → HasAppended o o path piece left bytes
none_appended o path all piece left bytes whole first end = record
    { taken = []; all = sym first ∙ whole; end = end; files = inl (refl, refl) }

pub appended_on : (o o1 o2 : Option Tree) (path piece left next rest bytes slice : List ℕ) → slice ≡ piece
    → HasAppended o o1 path piece left bytes → o2 ≡ option_map (appended path slice) o1 → left ≡ next ++ rest
    → (next ≡ [] → rest ≡ []) → HasAppended o o2 path next rest bytes
appended_on o o1 o2 path piece left next rest bytes slice of h now is end = record {
  taken = h.taken ++ piece;
  all = append_assoc h.taken piece (next ++ rest) ∙ ap (λ l. h.taken ++ (piece ++ l)) (sym is) ∙ h.all;
  end = end;
  files = inr (grown_more o o1 o2 path h.taken piece h.files
      (subst (λ p. o2 ≡ option_map (appended path p) o1) of now));
}

pub all_appended : (o o1 : Option Tree) (path piece left : List ℕ) (root : Node)
    → HasAppended o o1 path piece left (spelling_of root) → piece ≡ []
    → o1 ≡ option_map (appended path (spelling_of root)) o
all_appended o o1 path piece left root h none = by h.files
  where
    all : h.taken ≡ spelling_of root
    all = sym (append-nil h.taken) ∙ ap (λ l. h.taken ++ l) (sym (ap (λ p. p ++ left) none ∙ h.end none)) ∙ h.all

    by : Grown o o1 path h.taken → o1 ≡ option_map (appended path (spelling_of root)) o
    by (inl (same, nothing)) = absurd (let no : spelling_of root ≡ [] = sym all ∙ nothing in cc)
    by (inr is) = is ∙ ap (λ t. option_map (appended path t) o) all

-- a refusal between two pieces
pub some_appended : (o o1 : Option Tree) (path piece left bytes : List ℕ) → HasAppended o o1 path piece left bytes
    → IfSome o (λ files. IsTrue (can_read files path)) → AppendsSome o o1 path bytes
some_appended o o1 path piece left bytes h can = by h.files
  where
    first : h.taken ≡ take (length h.taken) bytes
    first = sym (ap (take (length h.taken)) (sym h.all) ∙ take-append_seam h.taken (piece ++ left))

    by : Grown o o1 path h.taken → AppendsSome o o1 path bytes
    by (inl (same, nothing)) = inl same
    by (inr is) = inr (
      can,
      length h.taken,
      omega (arith, ap length h.all, length-append h.taken (piece ++ left)),
      is ∙ ap (λ t. option_map (appended path t) o) first,
    )

-- and one of the call that adds a piece, or its first bytes
pub part_appended : (o o1 o2 : Option Tree) (path piece left bytes slice : List ℕ) → slice ≡ piece
    → HasAppended o o1 path piece left bytes → IfSome o (λ files. IsTrue (can_read files path))
    → AppendsSome o1 o2 path slice → AppendsSome o o2 path bytes
part_appended o o1 o2 path piece left bytes slice of h can part =
    by (subst (AppendsSome o1 o2 path) of part)
  where
    first : (n : ℕ) → n ≤ length piece → h.taken ++ take n piece ≡ take (length h.taken + n) bytes
    first n le = ap (λ t. h.taken ++ t) (sym (take-append-le n piece left le))
        ∙ sym (take-append-add h.taken (piece ++ left) n) ∙ ap (take (length h.taken + n)) h.all

    by : AppendsSome o1 o2 path piece → AppendsSome o o2 path bytes
    by (inl same) = subst (λ x. AppendsSome o x path bytes) (sym same)
        (some_appended o o1 path piece left bytes h can)
    by (inr (reads, n, le, now)) = inr (
      can,
      length h.taken + n,
      omega (arith, le, ap length h.all, length-append h.taken (piece ++ left), length-append piece left),
      grown_more o o1 o2 path h.taken (take n piece) h.files now
          ∙ ap (λ t. option_map (appended path t) o) (first n le),
    )

pub whole_appended : (o o1 o2 : Option Tree) (path piece left bytes slice : List ℕ) → slice ≡ piece
    → HasAppended o o1 path piece left bytes → IfSome o (λ files. IsTrue (can_read files path))
    → o2 ≡ option_map (appended path slice) o1 → AppendsSome o o2 path bytes
whole_appended o o1 o2 path piece left bytes slice of h can now = some_appended o o2 path left [] bytes
    (appended_on o o1 o2 path piece left left [] bytes slice of h now (sym (append-nil left)) (λ _. refl)) can

reads_grown : (path taken : List ℕ) (files : Tree) → IsTrue (can_read files path)
    → IsTrue (can_read (appended path taken files) path)
reads_grown path taken files h = by (is_root path) h
  where
    by : (v : Bool) → is_file (cond v (Some item.Folder) (get files path)) ≡ true
        → is_file (cond v (Some item.Folder) (get (appended path taken files) path)) ≡ true
    by true h = h
    by false h = ap is_file (get-insert_same files path _)

still_reads : (o o1 : Option Tree) (path taken : List ℕ) → Grown o o1 path taken
    → IfSome o (λ files. IsTrue (can_read files path)) → IfSome o1 (λ files. IsTrue (can_read files path))
still_reads o o1 path taken (inl (same, none)) can = subst (λ x. IfSome x (λ files. IsTrue (can_read files path)))
    (sym same) can
still_reads o o1 path taken (inr is) can = subst (λ x. IfSome x (λ files. IsTrue (can_read files path))) (sym is)
    (by o can)
  where
    by : (o : Option Tree) → IfSome o (λ files. IsTrue (can_read files path))
        → IfSome (option_map (appended path taken) o) (λ files. IsTrue (can_read files path))
    by None can = tt
    by (Some files) can = reads_grown path taken files can

-- a call that adds a piece is of the right kind
pub append_right : {T : Type 0} (o o1 : Option Tree) (path piece left bytes : List ℕ) (result : Result T FileFault)
    (a b c : ℕ) → HasAppended o o1 path piece left bytes → IfSome o (λ files. IsTrue (can_read files path)) → b ≡ a
    → CountsMisuse (option_map (λ files. can_read files path) o1) result b c → c ≡ a
append_right o o1 path piece left bytes result a b c h can before counts =
    right (λ files. can_read files path) o1 result b c (still_reads o o1 path h.taken h.files can) counts ∙ before

-- a file that was made beside a path can be added to
pub made_reads : (p u : List ℕ) (o o1 : Option Tree) → u ≡ beside p → o1 ≡ option_map (created u false) o
    → IfSome o1 (λ files. IsTrue (can_read files u))
made_reads p u o o1 at is = subst (λ x. IfSome x (λ files. IsTrue (can_read files u))) (sym is) (by o)
  where
    by : (o : Option Tree) → IfSome (option_map (created u false) o) (λ files. IsTrue (can_read files u))
    by None = tt
    by (Some files) = subst (λ v. IsTrue (can_read (created v false files) v)) (sym at) (allows_append p files)

pub may_stay : (o : Option Bool) (a b c : ℕ) → MayMisuse o a b → c ≡ b → MayMisuse o a c
may_stay o a b c before same = subst (MayMisuse o a) (sym same) before

-- ---- compared

-- The file has these bytes if it has, from a place on, the pieces that are still to come. An empty one is the last.
pub record IsAlike (o : Option Tree) (path bytes : List ℕ) (at : ℕ) (piece next left : List ℕ) : Type 0 where
  pub same : IfSome o (λ files. (contents files path ≡ bytes)
      ↔ (drop at (contents files path) ≡ piece ++ (next ++ left)))
  pub few : at + (length piece + length (next ++ left)) ≤ 1073741824
  pub end : next ≡ [] → left ≡ []

pub alike_first : (o : Option Tree) (path bytes all more piece next left : List ℕ) → all ≡ bytes
    → length bytes ≤ 1073741824 → all ≡ piece ++ more → more ≡ next ++ left → (next ≡ [] → left ≡ [])
    → IsAlike o path bytes 0 piece next left
alike_first o path bytes all more piece next left whole few first second end = record
    { same = by o; few = omega (arith, few, ap length is, length-append piece (next ++ left)); end = end }
  where
    is : bytes ≡ piece ++ (next ++ left)
    is = sym whole ∙ first ∙ ap (λ m. piece ++ m) second

    by : (o : Option Tree) → IfSome o (λ files. (contents files path ≡ bytes)
        ↔ (drop 0 (contents files path) ≡ piece ++ (next ++ left)))
    by None = tt
    by (Some files) = (λ e. e ∙ is, λ e. e ∙ sym is)

-- what is told of a piece
abbrev pub SaysPiece : Option Tree → List ℕ → ℕ → ℕ → List ℕ → Bool → Type 0
SaysPiece o path at max piece same = IfSome o (λ files. IsTrue same
    ↔ (take max (drop at (contents files path)) ≡ piece))

pub alike_on : (o o1 : Option Tree) (path bytes : List ℕ) (at len : ℕ) (piece next left after rest : List ℕ)
    (same : Bool) → IsAlike o path bytes at piece next left → o1 ≡ o → len ≡ length piece → same ≡ true
    → SaysPiece o1 path at len piece same → left ≡ after ++ rest → (after ≡ [] → rest ≡ [])
    → IsAlike o path bytes (at + len) next after rest
alike_on o o1 path bytes at len piece next left after rest same h stays size says told is end = record {
  same = by o h.same (subst (λ x. SaysPiece x path at len piece same) stays told);
  few = omega (arith, h.few, size, ap length is, length-append next left, length-append next (after ++ rest));
  end = end;
}
  where
    on : (xs : List ℕ) → take len (drop at xs) ≡ piece → ((xs ≡ bytes) ↔ (drop at xs ≡ piece ++ (next ++ left)))
        → ((xs ≡ bytes) ↔ (drop (at + len) xs ≡ next ++ (after ++ rest)))
    on xs here whole = (
      λ e. sym (drop-drop len at xs) ∙ ap (drop len) (whole.0 e) ∙ drop_at piece (next ++ left) len (sym size)
          ∙ ap (λ l. next ++ l) is,
      λ e. whole.1 (sym (take-append-drop len (drop at xs)) ∙ ap (λ p. p ++ drop len (drop at xs)) here
          ∙ ap (λ m. piece ++ m) (drop-drop len at xs ∙ e ∙ ap (λ l. next ++ l) (sym is))),
    )

    by : (o : Option Tree) → IfSome o (λ files. (contents files path ≡ bytes)
        ↔ (drop at (contents files path) ≡ piece ++ (next ++ left))) → SaysPiece o path at len piece same
        → IfSome o (λ files. (contents files path ≡ bytes)
        ↔ (drop (at + len) (contents files path) ≡ next ++ (after ++ rest)))
    by None whole said = tt
    by (Some files) whole said = on (contents files path) (said.0 says) whole

-- a piece that differs
pub alike_not : (o o1 : Option Tree) (path bytes : List ℕ) (at len : ℕ) (piece next left : List ℕ) (same : Bool)
    → IsAlike o path bytes at piece next left → o1 ≡ o → len ≡ length piece → same ≡ false
    → SaysPiece o1 path at len piece same → IfSome o (λ files. IsTrue false ↔ (contents files path ≡ bytes))
alike_not o o1 path bytes at len piece next left same h stays size says told =
    by o h.same (subst (λ x. SaysPiece x path at len piece same) stays told)
  where
    differs : (xs : List ℕ) → ((xs ≡ bytes) ↔ (drop at xs ≡ piece ++ (next ++ left)))
        → (IsTrue same ↔ (take len (drop at xs) ≡ piece)) → xs ≢ bytes
    differs xs whole said e =
        let agrees : same ≡ true = said.1 (ap (take len) (whole.0 e) ∙ ap (λ n. take n (piece ++ (next ++ left))) size
        ∙ take-append_seam piece (next ++ left)) in let both : true ≡ false = sym agrees ∙ says in cc

    by : (o : Option Tree) → IfSome o (λ files. (contents files path ≡ bytes)
        ↔ (drop at (contents files path) ≡ piece ++ (next ++ left))) → SaysPiece o path at len piece same
        → IfSome o (λ files. IsTrue false ↔ (contents files path ≡ bytes))
    by None whole said = tt
    by (Some files) whole said = (λ h. absurd (cc), λ e. absurd (differs (contents files path) whole said e))

-- the last piece, of which one byte more was asked for
pub alike_to_end : (o o1 : Option Tree) (path bytes : List ℕ) (at : ℕ) (piece next left : List ℕ)
    (result : Result Bool StoreFault) → IsAlike o path bytes at piece next left → o1 ≡ o → next ≡ []
    → IfSome o1 (λ files. IfOk result (λ same. IsTrue same
    ↔ (take (length piece + 1) (drop at (contents files path)) ≡ piece)))
    → IfSome o (λ files. IfOk result (λ same. IsTrue same ↔ (contents files path ≡ bytes)))
alike_to_end o o1 path bytes at piece next left (Err fault) h stays none told = by o
  where
    by : (o : Option Tree) → IfSome o (λ files. Unit {0})
    by None = tt
    by (Some files) = tt
alike_to_end o o1 path bytes at piece next left (Ok same) h stays none told =
    by o h.same (subst (λ x. SaysPiece x path at (length piece + 1) piece same) stays told)
  where
    last : piece ++ (next ++ left) ≡ piece
    last = ap (λ m. piece ++ m) (ap (λ n. n ++ left) none ∙ h.end none) ∙ append-nil piece

    ends : (rest : List ℕ) → take (length piece + 1) rest ≡ piece → rest ≡ piece
    ends rest e = sym (take_all (length piece + 1) rest
        (omega (arith, ap length e, length-take (length piece + 1) rest))) ∙ e

    by : (o : Option Tree) → IfSome o (λ files. (contents files path ≡ bytes)
        ↔ (drop at (contents files path) ≡ piece ++ (next ++ left)))
        → SaysPiece o path at (length piece + 1) piece same
        → IfSome o (λ files. IsTrue same ↔ (contents files path ≡ bytes))
    by None whole said = tt
    by (Some files) whole said = (
      λ e. whole.1 (ends (drop at (contents files path)) (said.0 e) ∙ sym last),
      λ e. said.1 (ap (take (length piece + 1)) (whole.0 e ∙ last) ∙ take_all (length piece + 1) piece (omega arith)),
    )
