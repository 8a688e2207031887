-- The files of named trees are as before, whatever a prune answers.
use Rattle.std.proofs.Common.{◌≡◌, ◌≢◌, ◌∙◌, refl, sym, ap, subst, ℕ, Bool, true, false, not, cond, List, [], ◌∷◌, ◌++◌}
use Rattle.std.proofs.Common.{map, Option, Some, None, Result, Ok, Err}
use Rattle.std.specs.Prelude.{IfOk, IsTrue}
use Rattle.std.specs.List.{AllByRecursion, list_any}
use Rattle.std.specs.Str.{bytes_eq}
use Rattle.std.proofs.lemmas.Bool.{or_from}
use Rattle.cnb_world.specs.Path.{is_part}
use Rattle.cnb_world.specs.Tree.{Tree, is_file, is_within, item_at}
use Rattle.hex.specs.Hex.{encode_lower}
use Rattle.steps.specs.Keeping.{standing}
use Rattle.steps.specs.Results.{and_then}
use Rattle.tree_canon.specs.Digest.{is_digest_text}
use Rattle.tree_store.specs.Store.{tree_path}
use Rattle.tree_store.specs.Writing.{trees_of}
use Rattle.tree_store.proofs.Apart.{siblings_apart}
use Rattle.store_prune.specs.Digests.{is_among, tree_digest, unnamed}
use Rattle.store_prune.specs.Pruning.{KeepsNamed, KeepsNamedTrees, KeepsWhere, StandNamed, digest_at, each_in}
use Rattle.store_prune.specs.Pruning.{listed_in, named_in, pruned_in, trees_in}
use Rattle.store_prune.specs.Surveys.{pruned_of}
use Rattle.store_prune.specs.Trees.{with_tree}
use Rattle.store_prune.specs.declared.fault.PruneFault.{PruneFault}
use Rattle.store_prune.specs.declared.surveying.Pruned.{Pruned}
use Rattle.store_prune.proofs.NamedDigests.{named_names}
use Rattle.store_prune.proofs.ReadDigests.{named_so}

-- a digest whose digits can be the name of a file
abbrev pub IsName : List ℕ → Type 0
IsName digest = IsTrue (is_part (encode_lower digest))

-- ---- the digests of tree files are names

one_more : (P : List ℕ → Type 0) (xs : List (List ℕ)) (x : List ℕ) → AllByRecursion P xs → P x
    → AllByRecursion P (xs ++ x ∷ [])
one_more P [] x h k = (k, tt)
one_more P (y ∷ ys) x h k = (h.0, one_more P ys x h.1 k)

names_with : (trees : List (List ℕ)) (digest : List ℕ) (there : Bool) → AllByRecursion IsName trees
    → IsName digest → AllByRecursion IsName (with_tree trees digest there)
names_with trees digest true h k = one_more IsName trees digest h k
names_with trees digest false h k = h

-- an answer has one value
one_value : (xs ys : List (List ℕ)) (found : Result (List (List ℕ)) PruneFault) → Ok xs ≡ found → found ≡ Ok ys
    → xs ≡ ys
one_value xs ys found e f = let both : Ok xs ≡ Ok ys = e ∙ f in cc

no_value : (fault : PruneFault) (xs : List (List ℕ)) → Err fault ≡ Ok xs → ⊥
no_value fault xs e = cc

module _ (store : List ℕ) (files : Tree) where
  names_at : (name : List ℕ) (found : Option (List ℕ)) (trees next : List (List ℕ)) → tree_digest name ≡ found
      → AllByRecursion IsName trees → digest_at store files found trees ≡ Ok next → AllByRecursion IsName next
  names_at name None trees next is h e = let same : trees ≡ next = one_value trees next (Ok next) e refl
      in subst (AllByRecursion IsName) same h
  names_at name (Some digest) trees next is h e =
      let there = is_file (item_at files (tree_path store digest)) in
      let same : with_tree trees digest there ≡ next = one_value (with_tree trees digest there) next (Ok next) e refl in
      subst (AllByRecursion IsName) same (names_with trees digest there h
      (named_so name digest (is_digest_text name) refl is))

  names_in_all : (names trees last : List (List ℕ)) → AllByRecursion IsName trees
      → each_in (λ name more. digest_at store files (tree_digest name) more) names trees ≡ Ok last
      → AllByRecursion IsName last
  names_in_all [] trees last h e = let same : trees ≡ last = one_value trees last (Ok last) e refl
      in subst (AllByRecursion IsName) same h
  names_in_all (name ∷ names) trees last h e = by (λ next k f. names_in_all names next last k f)
      (digest_at store files (tree_digest name) trees) refl
    where
      step : List (List ℕ) → Result (List (List ℕ)) PruneFault
      step = each_in (λ name more. digest_at store files (tree_digest name) more) names

      by : ((next : List (List ℕ)) → AllByRecursion IsName next → step next ≡ Ok last
          → AllByRecursion IsName last) → (first : Result (List (List ℕ)) PruneFault)
          → digest_at store files (tree_digest name) trees ≡ first → AllByRecursion IsName last
      by rest (Ok next) is = rest next (names_at name (tree_digest name) trees next refl h is)
          (sym (ap (λ r. and_then r step) is) ∙ e)
      by rest (Err fault) is = absurd (no_value fault last (sym (ap (λ r. and_then r step) is) ∙ e))

  trees_are_names : (trees : List (List ℕ)) → trees_in store files ≡ Ok trees → AllByRecursion IsName trees
  trees_are_names trees e = by (listed_in (trees_of store) files) refl
    where
      step : List (List ℕ) → Result (List (List ℕ)) PruneFault
      step names = each_in (λ name more. digest_at store files (tree_digest name) more) names []

      by : (listed : Result (List (List ℕ)) PruneFault) → listed_in (trees_of store) files ≡ listed
          → AllByRecursion IsName trees
      by (Ok names) is = names_in_all names [] trees tt (sym (ap (λ r. and_then r step) is) ∙ e)
      by (Err fault) is = absurd (no_value fault trees (sym (ap (λ r. and_then r step) is) ∙ e))

-- ---- no file of an unnamed tree is that of a named one, or above it

apart_digits : (named : List (List ℕ)) (one other : List ℕ) → is_among named one ≡ false
    → is_among named other ≡ true → encode_lower one ≢ encode_lower other
apart_digits named one other away among e =
    let same : is_among named one ≡ is_among named other = ap
    (λ digits. list_any (λ row. bytes_eq (encode_lower row) digits) named) e in
    cc

module _ (store : List ℕ) (named : List (List ℕ)) (digest : List ℕ) (among : is_among named digest ≡ true)
    (name : IsName digest) where
  named_free : (trees : List (List ℕ)) → AllByRecursion IsName trees
      → list_any (λ removed. is_within removed (tree_path store digest))
      (map (tree_path store) (unnamed named trees)) ≡ false
  named_free [] names = refl
  named_free (one ∷ trees) names = by (named_free trees names.1) (is_among named one) refl
    where
      by : list_any (λ removed. is_within removed (tree_path store digest))
          (map (tree_path store) (unnamed named trees)) ≡ false → (b : Bool) → is_among named one ≡ b
          → list_any (λ removed. is_within removed (tree_path store digest))
          (map (tree_path store) (cond (not b) (one ∷ unnamed named trees) (unnamed named trees))) ≡ false
      by rest true e = rest
      by rest false e = or_from _ _ (siblings_apart (trees_of store) (encode_lower one)
          (encode_lower digest) names.0 name (apart_digits named one digest e among)).beside rest

-- what no file of an unnamed tree is, or is above
pub path_stands : (store : List ℕ) (files : Tree) (named : List (List ℕ)) (o o1 : Option Tree) (path : List ℕ)
    → named_in store files ≡ Ok named → KeepsWhere store (pruned_in store files) o o1
    → ((trees : List (List ℕ)) → AllByRecursion IsName trees
    → list_any (λ removed. is_within removed path) (map (tree_path store) (unnamed named trees)) ≡ false)
    → standing o1 path ≡ standing o path
path_stands store files named o o1 path is kept free = by (trees_in store files) refl
  where
    pruned : List (List ℕ) → Result Pruned PruneFault
    pruned found = and_then (trees_in store files) (λ trees. Ok (pruned_of found trees))

    all : KeepsWhere store (and_then (trees_in store files) (λ trees. Ok (pruned_of named trees))) o o1
    all = subst (λ r. KeepsWhere store r o o1) (ap (λ r. and_then r pruned) is) kept

    by : (trees : Result (List (List ℕ)) PruneFault) → trees_in store files ≡ trees → standing o1 path ≡ standing o path
    by (Ok trees) e =
        let others = subst (λ r. KeepsWhere store (and_then r (λ found. Ok (pruned_of named found))) o o1) e all in
        others path (free trees (trees_are_names store files trees e))
    by (Err fault) e =
        let same = subst (λ r. KeepsWhere store (and_then r (λ found. Ok (pruned_of named found))) o o1) e all in
        ap (λ t. standing t path) same

pub stand_where : (store : List ℕ) (files : Tree) (named : List (List ℕ)) (o o1 : Option Tree)
    → named_in store files ≡ Ok named → KeepsWhere store (pruned_in store files) o o1
    → StandNamed store named o o1
stand_where store files named o o1 is kept digest among =
    path_stands store files named o o1 (tree_path store digest) is kept
    (named_free store named digest among (named_names store files named digest is among))

if_ok : (found : Result (List (List ℕ)) PruneFault) (P : List (List ℕ) → Type 0)
    → ((named : List (List ℕ)) → found ≡ Ok named → P named) → IfOk found P
if_ok (Ok named) P f = f named refl
if_ok (Err fault) P f = tt

-- each tree that a document names has the file that it had
pub named_stand : (store : List ℕ) (old new : Option Tree) → KeepsNamed store old new → KeepsNamedTrees store old new
named_stand store None new kept = tt
named_stand store (Some files) new kept = if_ok (named_in store files)
    (λ named. StandNamed store named (Some files) new)
    (λ named is. stand_where store files named (Some files) new is kept)
