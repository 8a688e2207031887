-- The names of layers, each once, and none like a document's.
use Rattle.std.proofs.Common.{◌≡◌, ◌≢◌, ◌∙◌, refl, sym, ap, ℕ, ◌-◌, Bool, true, false}
use Rattle.std.proofs.Common.{cond, List, [], ◌∷◌, ◌++◌, append_assoc, codes, map}
use Rattle.std.proofs.Common.{Option, Some, None, ◌+◌}
use Rattle.std.proofs.lemmas.Bool.{and_parts}
use Rattle.std.proofs.lemmas.Cmp.{nat_list_cmp_total}
use Rattle.std.specs.Cmp.{nat_cmp_is}
use Rattle.std.specs.Cmp.Lexicographic.{slice_cmp}
use Rattle.std.specs.List.{AllByRecursion, filter, list_all}
use Rattle.std.specs.Ordering.{nat_cmp, ordering_reverse, ordering_then}
use Rattle.std.specs.Prelude.{IfSome}
use Rattle.std.specs.Str.{bytes_eq}
use Rattle.std.specs.declared.cmp.Ordering.{Ordering}
use Rattle.std.specs.declared.cmp.Ordering.TheVariants.{Equal, Greater, Less}
use Rattle.cnb_restore.specs.Rows.{layer_names, row_of, source_of}
use Rattle.cnb_world.proofs.EffectLemmas.{same_path}
use Rattle.cnb_world.specs.Path.{beside}
use Rattle.image_docs.specs.declared.layer_row.LayerRow.{LayerRow}
use Rattle.image_files.specs.Paths.{document_name}
use Rattle.cnb_toml.specs.Ascending.{ascending, put_name, put_name_by}
use Rattle.cnb_lifecycle.proofs.KeptFolders.{AreOnce, IsOther, IsPlain}

-- ---- all of a list

pub all_append : {X : Type 0} (P : X → Type 0) (xs ys : List X) → AllByRecursion P xs → AllByRecursion P ys
    → AllByRecursion P (xs ++ ys)
all_append P [] ys p q = q
all_append P (x ∷ xs) ys p q = (p.0, all_append P xs ys p.1 q)

pub all_filter : {X : Type 0} (P : X → Type 0) (test : X → Bool) (xs : List X) → AllByRecursion P xs
    → AllByRecursion P (filter test xs)
all_filter P test [] p = tt
all_filter P test (x ∷ xs) p = by (test x) (all_filter P test xs p.1)
  where
    by : (v : Bool) → AllByRecursion P (filter test xs) → AllByRecursion P
        (cond v (x ∷ filter test xs) (filter test xs))
    by true rest = (p.0, rest)
    by false rest = rest

all_map : {X Y : Type 0} (P : Y → Type 0) (f : X → Y) (xs : List X) → AllByRecursion (λ x. P (f x)) xs
    → AllByRecursion P (map f xs)
all_map P f [] p = tt
all_map P f (x ∷ xs) p = (p.0, all_map P f xs p.1)

all_both : {X : Type 0} (P : X → Type 0) (test : X → Bool) (xs : List X) → AllByRecursion P xs
    → list_all test xs ≡ true → AllByRecursion (λ x. P x × (test x ≡ true)) xs
all_both P test [] p h = tt
all_both P test (x ∷ xs) p h = let parts = and_parts (test x) (list_all test xs) h
    in ((p.0, parts.0), all_both P test xs p.1 parts.1)

-- ---- the names of layers

abbrev order : List ℕ → List ℕ → Ordering
order a b = slice_cmp nat_cmp a b

abbrev IsBefore : List ℕ → List (List ℕ) → Type 0
IsBefore name names = AllByRecursion (λ other. order name other ≡ Less) names

abbrev AreSorted : List (List ℕ) → Type 0
AreSorted [] = Unit {0}
AreSorted (name ∷ names) = IsBefore name names × AreSorted names

before_more : (a b : List ℕ) (names : List (List ℕ)) → order a b ≡ Less → IsBefore b names → IsBefore a names
before_more a b [] less before = tt
before_more a b (name ∷ names) less before = (
  nat_list_cmp_total.trans a b name less before.0,
  before_more a b
      names less before.1,
)

before_put : (low name : List ℕ) (names : List (List ℕ)) → order low name ≡ Less → IsBefore low names
    → IsBefore low (put_name name names)
before_put low name [] less before = (less, tt)
before_put low name (x ∷ xs) less before = by (order name x) (before_put low name xs less before.1)
  where
    by : (o : Ordering) → IsBefore low (put_name name xs) → IsBefore low (put_name_by o name x xs (put_name name xs))
    by Less later = (less, before)
    by Equal later = before
    by Greater later = (before.0, later)

sorted_put : (name : List ℕ) (names : List (List ℕ)) → AreSorted names → AreSorted (put_name name names)
sorted_put name [] sorted = (tt, tt)
sorted_put name (x ∷ xs) sorted = by (order name x) refl (sorted_put name xs sorted.1)
  where
    by : (o : Ordering) → order name x ≡ o → AreSorted (put_name name xs)
        → AreSorted (put_name_by o name x xs (put_name name xs))
    by Less is later = ((is, before_more name x xs is sorted.0), sorted)
    by Equal is later = sorted
    by Greater is later = (
      before_put x name xs (nat_list_cmp_total.antisymm x name ∙ ap ordering_reverse is)
          sorted.0,
      later,
    )

all_put : (P : List ℕ → Type 0) (name : List ℕ) (names : List (List ℕ)) → P name → AllByRecursion P names
    → AllByRecursion P (put_name name names)
all_put P name [] p all = (p, tt)
all_put P name (x ∷ xs) p all = by (order name x) (all_put P name xs p all.1)
  where
    by : (o : Ordering) → AllByRecursion P (put_name name xs)
        → AllByRecursion P (put_name_by o name x xs (put_name name xs))
    by Less later = (p, all)
    by Equal later = all
    by Greater later = (all.0, later)

never_before : (a b : List ℕ) → order a b ≡ Less → a ≢ b
never_before a b less is = by (order b b) (nat_list_cmp_total.antisymm b b) (sym (ap (λ n. order n b) is) ∙ less)
  where
    by : (o : Ordering) → o ≡ ordering_reverse o → o ≡ Less → ⊥
    by Less e f = cc
    by Equal e f = cc
    by Greater e f = cc

-- a name is before those that begin with it
before_longer : (name : List ℕ) (c : ℕ) (rest : List ℕ) → order name (name ++ c ∷ rest) ≡ Less
before_longer [] c rest = refl
before_longer (x ∷ xs) c rest = ap (λ o. ordering_then o (order xs (xs ++ c ∷ rest)))
    (sym (nat_cmp_is x x Equal refl)) ∙ before_longer xs c rest

never_near : (name other : List ℕ) → order name other ≡ Less → name ≢ beside (document_name other)
never_near name other less is =
    let near : beside (document_name other) ≡ other ++ codes ".toml.new" = append_assoc other (codes ".toml")
    (46 ∷ 110 ∷ 101 ∷ 119 ∷ []) in
    let more : order other name ≡ Less = ap (order other) (is ∙ near) ∙ before_longer other 46 (codes "toml.new") in
    never_before name name (nat_list_cmp_total.trans name other name less more) refl

others_of : (name : List ℕ) (names : List (List ℕ)) → IsBefore name names → AllByRecursion (IsOther name) names
others_of name [] before = tt
others_of name (x ∷ xs) before = (
  (never_before name x before.0, never_near name x before.0),
  others_of name xs
      before.1,
)

once_sorted : (names : List (List ℕ)) → AreSorted names → AllByRecursion IsPlain names → AreOnce names
once_sorted [] sorted plain = tt
once_sorted (name ∷ names) sorted plain = (plain.0, others_of name names sorted.0, once_sorted names sorted.1 plain.1)

ascending_sorted : (names : List (List ℕ)) → AreSorted (ascending names)
ascending_sorted [] = tt
ascending_sorted (name ∷ names) = sorted_put name (ascending names) (ascending_sorted names)

ascending_plain : (names : List (List ℕ)) → AllByRecursion IsPlain names → AllByRecursion IsPlain (ascending names)
ascending_plain [] plain = tt
ascending_plain (name ∷ names) plain = all_put IsPlain name (ascending names) plain.0 (ascending_plain names plain.1)

abbrev pub IsPlainRow : LayerRow → Type 0
IsPlainRow row = IsPlain row.layer

pub names_once : (app cache : List LayerRow) → AllByRecursion IsPlainRow app → AllByRecursion IsPlainRow cache
    → AreOnce (layer_names app cache)
names_once app cache p q =
    let names : List (List ℕ) = map (λ (row : LayerRow). row.layer) app ++ map (λ (row : LayerRow). row.layer) cache in
    let plain : AllByRecursion IsPlain names = all_append IsPlain _ _
    (all_map IsPlain (λ (row : LayerRow). row.layer) app p)
    (all_map IsPlain (λ (row : LayerRow). row.layer) cache q) in
    once_sorted (ascending names) (ascending_sorted names) (ascending_plain names plain)

-- the row of a layer has its name
pub row_named : (name : List ℕ) (rows : List LayerRow) → IfSome (row_of name rows) (λ row. row.layer ≡ name)
row_named name [] = tt
row_named name (row ∷ rows) = by (bytes_eq row.layer name) refl (row_named name rows)
  where
    by : (v : Bool) → bytes_eq row.layer name ≡ v → IfSome (row_of name rows)
        (λ (row : LayerRow). row.layer ≡ name) → IfSome (cond v (Some row) (row_of name rows))
        (λ (row : LayerRow). row.layer ≡ name)
    by true is later = same_path row.layer name is
    by false is later = later

pub source_named : (name : List ℕ) (app cache : Option LayerRow) → IfSome app (λ row. row.layer ≡ name)
    → IfSome cache (λ row. row.layer ≡ name) → IfSome (source_of app cache) (λ row. row.layer ≡ name)
source_named name None cache p q = q
source_named name (Some app) cache p q = by app.flags.launch
  where
    by : (v : Bool) → IfSome (cond v (Some app) cache) (λ (row : LayerRow). row.layer ≡ name)
    by true = p
    by false = q
