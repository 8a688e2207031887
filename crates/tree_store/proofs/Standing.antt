-- Where all that stands has a folder above it, nothing stands below anything but a folder.
use Rattle.std.proofs.Common.{◌≡◌, ℕ, zero, suc, ◌+◌, ◌≤◌, ◌<◌, ◌∙◌, ◌==◌, ◌&&◌, ◌||◌, Bool, true, false, cond, not}
use Rattle.std.proofs.Common.{List, [], ◌∷◌, ◌++◌, length, drop, nat_eq, refl, sym, ap, arith, Option, Some, None}
use Rattle.std.proofs.Common.{is_some, ◌⊎◌, inl, inr, append-nil, append_assoc}
use Rattle.std.specs.Prelude.{IfSome, IsTrue}
use Rattle.std.specs.List.{list_any, starts_with}
use Rattle.std.specs.Str.{bytes_eq}
use Rattle.std.specs.FinMap.{get}
use Rattle.std.proofs.lemmas.List.Folds.{list_any-append}
use Rattle.cnb_world.specs.Path.{is_path, front_of, parent_of}
use Rattle.cnb_world.specs.Tree.{Tree, IsTree, StandsRight, item_at, is_folder, is_root}
use Rattle.cnb_world.specs.declared.world.Item.{Item}
use Rattle.cnb_world.specs.declared.world.Item.TheVariants as item
use Rattle.cnb_world.proofs.Folders.{not_longer, parent_shorter}
use Rattle.tree_store.proofs.Places.{below_length, starts_itself, starts_split}

-- neither nothing nor a folder
abbrev pub is_other : Option Item → Bool
is_other found = is_some found && not (is_folder found)

-- below anything but a folder is nothing
pub record IsStanding (files : Tree) : Type 0 where
  pub clean : (r q : List ℕ) → is_other (get files r) ≡ true → starts_with nat_eq q (r ++ 47 ∷ []) ≡ true
      → get files q ≡ None

or_true : (v w : Bool) → w ≡ true → (v || w) ≡ true
or_true true w h = refl
or_true false w h = h

front_split : (r s : List ℕ) → front_of (r ++ 47 ∷ s) ≡ r ++ cond (list_any (λ b. b == 47) s) (47 ∷ front_of s) []
front_split [] s = refl
front_split (c ∷ r) s = ap (λ v. cond v (c ∷ front_of (r ++ 47 ∷ s)) [])
    (list_any-append (λ b. b == 47) r (47 ∷ s) ∙ or_true (list_any (λ b. b == 47) r) true refl)
    ∙ ap (λ f. c ∷ f) (front_split r s)

-- the folder of what is below a path is that path or below it
pub parent_below : (r s : List ℕ) → bytes_eq r [] ≡ false → (parent_of (r ++ 47 ∷ s) ≡ r)
    ⊎ (starts_with nat_eq (parent_of (r ++ 47 ∷ s)) (r ++ 47 ∷ []) ≡ true)
parent_below [] s some = absurd (cc)
parent_below (c ∷ r) s some = by (list_any (λ b. b == 47) s) (front_split (c ∷ r) s)
  where
    by : (v : Bool) → front_of ((c ∷ r) ++ 47 ∷ s) ≡ (c ∷ r) ++ cond v (47 ∷ front_of s) []
        → (parent_of ((c ∷ r) ++ 47 ∷ s) ≡ c ∷ r) ⊎ (starts_with nat_eq (parent_of ((c ∷ r) ++ 47 ∷ s))
        ((c ∷ r) ++ 47 ∷ []) ≡ true)
    by true e = inr (ap (λ f. starts_with nat_eq (cond (bytes_eq f []) (47 ∷ []) f) ((c ∷ r) ++ 47 ∷ []))
        (e ∙ sym (append_assoc (c ∷ r) (47 ∷ []) (front_of s))) ∙ starts_itself ((c ∷ r) ++ 47 ∷ []) (front_of s))
    by false e = inl (ap (λ f. cond (bytes_eq f []) (47 ∷ []) f) (e ∙ append-nil (c ∷ r)))

pub below_is : (r q : List ℕ) → starts_with nat_eq q (r ++ 47 ∷ []) ≡ true
    → q ≡ r ++ 47 ∷ drop (length (r ++ 47 ∷ [])) q
below_is r q h = starts_split q (r ++ 47 ∷ []) h ∙ append_assoc r (47 ∷ []) (drop (length (r ++ 47 ∷ [])) q)

abbrev pub InFolders : Tree → Type 0
InFolders files = (path : List ℕ) → IsTrue (is_some (get files path)) → StandsRight files path

other_plain : (o : Option Item) → is_other o ≡ true → is_folder o ≡ false
other_plain None h = absurd (cc)
other_plain (Some item.Folder) h = absurd (cc)
other_plain (Some (item.File exec bytes)) h = refl
other_plain (Some (item.Link target)) h = refl
other_plain (Some item.Odd) h = refl

other_some : (o : Option Item) → is_other o ≡ true → IsTrue (is_some o)
other_some None h = absurd (cc)
other_some (Some x) h = refl

pub filled : (r : List ℕ) → IsTrue (is_path r) → bytes_eq r [] ≡ false
filled [] h = absurd (cc)
filled (c ∷ r) h = refl

nonempty : (r : List ℕ) → bytes_eq r [] ≡ false → 0 < length r
nonempty [] h = absurd (cc)
nonempty (c ∷ r) h = omega arith

-- Below a path where no folder stands is nothing.
pub nothing_below : (files : Tree) → InFolders files → (r : List ℕ) → bytes_eq r [] ≡ false
    → is_folder (item_at files r) ≡ false → (q : List ℕ) → starts_with nat_eq q (r ++ 47 ∷ []) ≡ true
    → get files q ≡ None
nothing_below files all r some_r other q below = go (length q) q (omega arith) below
  where
    plain : (r p : List ℕ) → starts_with nat_eq p (r ++ 47 ∷ []) ≡ true → bytes_eq r [] ≡ false → is_root p ≡ false
    plain [] p h some = absurd (cc)
    plain (c ∷ r) p h some = not_longer p (47 ∷ [])
        (let long : length (c ∷ r) + 1 ≤ length p = below_length p (c ∷ r) h in omega arith)

    go : (n : ℕ) (q : List ℕ) → length q ≤ n → starts_with nat_eq q (r ++ 47 ∷ []) ≡ true → get files q ≡ None
    go zero q short below = absurd (let long : length r + 1 ≤ length q = below_length q r below in omega arith)
    go (suc n) q short below = by (get files q) refl (go n)
      where
        by : (found : Option Item) → get files q ≡ found
            → ((p : List ℕ) → length p ≤ n → starts_with nat_eq p (r ++ 47 ∷ []) ≡ true → get files p ≡ None)
            → found ≡ None
        by None e shorter = refl
        by (Some x) e shorter = absurd (cases (parent_below r (drop (length (r ++ 47 ∷ [])) q) some_r))
          where
            folder : is_folder (item_at files (parent_of q)) ≡ true
            folder = (all q (ap is_some e)).1.1

            parent : parent_of q ≡ parent_of (r ++ 47 ∷ drop (length (r ++ 47 ∷ [])) q)
            parent = ap parent_of (below_is r q below)

            less : length (parent_of q) ≤ n
            less = let lt : length (parent_of q) < length q = parent_shorter q
                (let long : length r + 1 ≤ length q = below_length q r below
                in let more : 0 < length r = nonempty r some_r in omega arith) in omega arith

            cases : (parent_of (r ++ 47 ∷ drop (length (r ++ 47 ∷ [])) q) ≡ r)
                ⊎ (starts_with nat_eq (parent_of (r ++ 47 ∷ drop (length (r ++ 47 ∷ [])) q)) (r ++ 47 ∷ [])
                ≡ true) → ⊥
            cases (inl is) = let no : false ≡ true = sym other ∙ ap (λ p. is_folder (item_at files p))
                (sym (parent ∙ is)) ∙ folder in cc
            cases (inr is) =
                let under : starts_with nat_eq (parent_of q) (r ++ 47 ∷ [])
                ≡ true = ap (λ p. starts_with nat_eq p (r ++ 47 ∷ [])) parent ∙ is in
                let gone : get files (parent_of q) ≡ None = shorter (parent_of q) less under in
                let no : false ≡ true = sym (ap (λ v. is_folder
                (cond v (Some item.Folder) (get files (parent_of q)))) (plain r (parent_of q) under some_r)
                ∙ ap is_folder gone) ∙ folder in cc

standing_from : (files : Tree) → InFolders files → IsStanding files
standing_from files all = record {
  clean = λ r q other below. nothing_below files all r
      (filled r (right r other).0) (no_folder r other) q below;
}
  where
    right : (r : List ℕ) → is_other (get files r) ≡ true → StandsRight files r
    right r other = all r (other_some (get files r) other)

    no_folder : (r : List ℕ) → is_other (get files r) ≡ true → is_folder (item_at files r) ≡ false
    no_folder r other = ap (λ v. is_folder (cond v (Some item.Folder) (get files r))) (right r other).1.0
        ∙ other_plain (get files r) other

pub tree_stands : (o : Option Tree) → IfSome o IsTree → IfSome o IsStanding
tree_stands None is = tt
tree_stands (Some files) is = standing_from files is.standing
