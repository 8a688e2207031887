-- Paths of which neither lies in the other, and what a file that is written leaves of the others.
use Rattle.std.proofs.Common.{◌≡◌, ◌≢◌, ◌<◌, ◌∙◌, refl, sym, ap, subst, arith, ℕ, Bool, true, false, not, cond, ◌||◌}
use Rattle.std.proofs.Common.{◌&&◌, ◌==◌, ◌⊎◌, inl, inr, ◌++◌, List, [], ◌∷◌, append-nil, append_assoc, length, nat_eq}
use Rattle.std.proofs.Common.{Option, Some, None, is_some}
use Rattle.std.specs.Prelude.{IfSome, IsTrue}
use Rattle.std.specs.List.{list_any, starts_with}
use Rattle.std.specs.Str.{bytes_eq}
use Rattle.std.specs.FinMap.{get}
use Rattle.std.proofs.lemmas.Bool.{eqb-true, false_from_ne_true}
use Rattle.std.proofs.lemmas.List.Folds.{list_any-append}
use Rattle.std.proofs.lemmas.Slice.Eq.{bytes_eq-Decides}
use Rattle.cnb_world.specs.Path.{is_part, joined}
use Rattle.cnb_world.specs.Tree.{Tree, can_make_folder, folder_made, folders_above, folders_from, is_folder, is_root}
use Rattle.cnb_world.specs.Tree.{is_under, is_within, item_at}
use Rattle.cnb_world.specs.declared.world.Item.{Item}
use Rattle.cnb_world.specs.declared.world.Item.TheVariants as item
use Rattle.cnb_world.proofs.Folders.{get-with_folders}
use Rattle.cnb_world.proofs.Parents.{has_slash}
use Rattle.cnb_world.proofs.Trees.{bytes_eq-same}
use Rattle.tree_store.specs.Around.{IsMadeAbove, KeepsAround, KeptAround}
use Rattle.tree_store.specs.Writing.{AreApart}
use Rattle.tree_store.proofs.Around.{at_one}
use Rattle.tree_store.proofs.Blames.{within_child, within_itself}
use Rattle.tree_store.proofs.Places.{above_child, child_not_root, is_at_or_below, named, not_below, or_from, or_parts}
use Rattle.tree_store.proofs.Places.{or_right, part_form, starts_itself, starts_split}

-- ---- the folders above a path

-- a path lies in each of them
pub above_begins : (front rest q : List ℕ) → list_any (bytes_eq q) (folders_from front rest) ≡ true
    → starts_with nat_eq (front ++ rest) (q ++ 47 ∷ []) ≡ true
above_begins front [] q h = absurd (cc)
above_begins front (c ∷ cs) q h = by (c == 47) refl (not (bytes_eq front [])) h (above_begins (front ++ c ∷ []) cs q)
  where
    later : (list_any (bytes_eq q) (folders_from (front ++ c ∷ []) cs) ≡ true
        → starts_with nat_eq ((front ++ c ∷ []) ++ cs) (q ++ 47 ∷ []) ≡ true)
        → list_any (bytes_eq q) (folders_from (front ++ c ∷ []) cs) ≡ true
        → starts_with nat_eq (front ++ c ∷ cs) (q ++ 47 ∷ []) ≡ true
    later more h = ap (λ p. starts_with nat_eq p (q ++ 47 ∷ [])) (sym (append_assoc front (c ∷ []) cs)) ∙ more h

    slash : nat_eq c 47 ≡ true → c ≡ 47
    slash e = eqb-true c 47 e

    here : c ≡ 47 → (v : Bool) → bytes_eq q front ≡ v
        → (v || list_any (bytes_eq q) (folders_from (front ++ c ∷ []) cs)) ≡ true
        → (list_any (bytes_eq q) (folders_from (front ++ c ∷ []) cs) ≡ true
        → starts_with nat_eq ((front ++ c ∷ []) ++ cs) (q ++ 47 ∷ []) ≡ true)
        → starts_with nat_eq (front ++ c ∷ cs) (q ++ 47 ∷ []) ≡ true
    here is true e h more = ap (λ p. starts_with nat_eq (front ++ c ∷ cs) (p ++ 47 ∷ []))
        ((bytes_eq-Decides q front).0 e) ∙ ap (λ d. starts_with nat_eq (front ++ d ∷ cs) (front ++ 47 ∷ [])) is
        ∙ ap (λ p. starts_with nat_eq p (front ++ 47 ∷ [])) (sym (append_assoc front (47 ∷ []) cs))
        ∙ starts_itself (front ++ 47 ∷ []) cs
    here is false e h more = later more h

    by : (s : Bool) → nat_eq c 47 ≡ s → (v : Bool) → list_any (bytes_eq q)
        (cond (s && v) (front ∷ folders_from (front ++ c ∷ []) cs) (folders_from (front ++ c ∷ []) cs)) ≡ true
        → (list_any (bytes_eq q) (folders_from (front ++ c ∷ []) cs) ≡ true
        → starts_with nat_eq ((front ++ c ∷ []) ++ cs) (q ++ 47 ∷ []) ≡ true)
        → starts_with nat_eq (front ++ c ∷ cs) (q ++ 47 ∷ []) ≡ true
    by true e true h more = here (slash e) (bytes_eq q front) refl h more
    by true e false h more = later more h
    by false e v h more = later more h

pub above_within : (path q : List ℕ) → list_any (bytes_eq q) (folders_above path) ≡ true → is_within q path ≡ true
above_within path q h = or_right (is_root q) _ (or_right (bytes_eq path q) _ (above_begins [] path q h))

-- a folder that isn't empty is above a name behind it
above_itself : (front xs n q : List ℕ) → bytes_eq q (front ++ xs) ≡ true → 0 < length (front ++ xs)
    → list_any (bytes_eq q) (folders_from front (xs ++ 47 ∷ n)) ≡ true
above_itself front [] n q e some = by (bytes_eq front []) refl
  where
    is : front ++ [] ≡ front
    is = append-nil front

    at : bytes_eq q front ≡ true
    at = ap (bytes_eq q) (sym is) ∙ e

    by : (v : Bool) → bytes_eq front [] ≡ v → list_any (bytes_eq q)
        (cond (not v) (front ∷ folders_from (front ++ 47 ∷ []) n) (folders_from (front ++ 47 ∷ []) n)) ≡ true
    by true none = let zero : length front ≡ 0 = ap length ((bytes_eq-Decides front []).0 none)
        in let same : length (front ++ []) ≡ length front = ap length is in absurd (omega arith)
    by false none = ap (λ v. v || list_any (bytes_eq q) (folders_from (front ++ 47 ∷ []) n)) at
above_itself front (c ∷ cs) n q e some = by (c == 47 && not (bytes_eq front []))
    (above_itself (front ++ c ∷ []) cs n q (ap (bytes_eq q) (append_assoc front (c ∷ []) cs) ∙ e)
    (let same : length ((front ++ c ∷ []) ++ cs) ≡ length (front ++ c ∷ cs) = ap length
    (append_assoc front (c ∷ []) cs) in omega arith))
  where
    by : (v : Bool) → list_any (bytes_eq q) (folders_from (front ++ c ∷ []) (cs ++ 47 ∷ n)) ≡ true
        → list_any (bytes_eq q) (cond v (front ∷ folders_from (front ++ c ∷ []) (cs ++ 47 ∷ n))
        (folders_from (front ++ c ∷ []) (cs ++ 47 ∷ n))) ≡ true
    by true h = or_right (bytes_eq q front) _ h
    by false h = h

-- and so are those above it
above_more : (front xs n q : List ℕ) → list_any (bytes_eq q) (folders_from front xs) ≡ true
    → list_any (bytes_eq q) (folders_from front (xs ++ 47 ∷ n)) ≡ true
above_more front [] n q h = absurd (cc)
above_more front (c ∷ cs) n q h = by (c == 47 && not (bytes_eq front [])) h (above_more (front ++ c ∷ []) cs n q)
  where
    by : (v : Bool) → list_any (bytes_eq q) (cond v (front ∷ folders_from (front ++ c ∷ []) cs)
        (folders_from (front ++ c ∷ []) cs)) ≡ true → (list_any (bytes_eq q) (folders_from (front ++ c ∷ []) cs)
        ≡ true → list_any (bytes_eq q) (folders_from (front ++ c ∷ []) (cs ++ 47 ∷ n)) ≡ true)
        → list_any (bytes_eq q) (cond v (front ∷ folders_from (front ++ c ∷ []) (cs ++ 47 ∷ n))
        (folders_from (front ++ c ∷ []) (cs ++ 47 ∷ n))) ≡ true
    by true h later = here (bytes_eq q front) h later
      where
        here : (v : Bool) → (v || list_any (bytes_eq q) (folders_from (front ++ c ∷ []) cs)) ≡ true
            → (list_any (bytes_eq q) (folders_from (front ++ c ∷ []) cs) ≡ true
            → list_any (bytes_eq q) (folders_from (front ++ c ∷ []) (cs ++ 47 ∷ n)) ≡ true)
            → (v || list_any (bytes_eq q) (folders_from (front ++ c ∷ []) (cs ++ 47 ∷ n))) ≡ true
        here true h later = refl
        here false h later = later h
    by false h later = later h

-- a folder and those above it are above a name in it
pub made_above : (folder name q : List ℕ) → 0 < length folder
    → list_any (bytes_eq q) (folders_above folder ++ folder ∷ []) ≡ true → is_root q ≡ false
    → list_any (bytes_eq q) (folders_above (joined folder name)) ≡ true
made_above folder name q some h plain = by (bytes_eq folder (47 ∷ [])) refl
  where
    split : (a s : Bool) → list_any (bytes_eq q) (folders_above folder) ≡ a → bytes_eq q folder ≡ s
        → (a || (s || false)) ≡ true → list_any (bytes_eq q) (folders_above (folder ++ 47 ∷ name)) ≡ true
    split true s e f h = above_more [] folder name q e
    split false true e f h = above_itself [] folder name q f some
    split false false e f h = absurd (cc)

    parts : (list_any (bytes_eq q) (folders_above folder) || (bytes_eq q folder || false)) ≡ true
    parts = sym (list_any-append (bytes_eq q) (folders_above folder) (folder ∷ [])) ∙ h

    none : (s : Bool) → bytes_eq q (47 ∷ []) ≡ s → s ≡ false → (s || false) ≡ true
        → list_any (bytes_eq q) (folders_above (joined folder name)) ≡ true
    none true e f h = absurd (cc)
    none false e f h = absurd (cc)

    by : (v : Bool) → bytes_eq folder (47 ∷ []) ≡ v → list_any (bytes_eq q)
        (folders_above (cond v folder (folder ++ 47 ∷ []) ++ name)) ≡ true
    by true is = absurd (let at : folder ≡ 47 ∷ [] = (bytes_eq-Decides folder (47 ∷ [])).0 is
        in root (bytes_eq q (47 ∷ [])) plain (ap (λ f. list_any (bytes_eq q) (folders_above f)
        || (bytes_eq q f || false)) (sym at) ∙ parts))
      where
        root : (s : Bool) → s ≡ false → (s || false) ≡ true → ⊥
        root true e h = cc
        root false e h = cc
    by false is = ap (λ p. list_any (bytes_eq q) (folders_above p)) (append_assoc folder (47 ∷ []) name)
        ∙ split (list_any (bytes_eq q) (folders_above folder)) (bytes_eq q folder) refl refl parts

-- what lies behind a folder has it above
below_above : (path q : List ℕ) → 0 < length q → starts_with nat_eq path (q ++ 47 ∷ []) ≡ true
    → list_any (bytes_eq q) (folders_above path) ≡ true
below_above path q some h = ap (λ p. list_any (bytes_eq q) (folders_above p))
    (starts_split path (q ++ 47 ∷ []) h ∙ append_assoc q (47 ∷ []) _)
    ∙ above_itself [] q _ q (bytes_eq-same q) some

-- ---- paths apart

root_within : (path q : List ℕ) → is_root path ≡ true → is_within path q ≡ true
root_within path q e = ap (λ v. v || is_under path q) e

pub apart_child : (file path name : List ℕ) → 0 < length file → 0 < length name → has_slash name ≡ false
    → AreApart file path → AreApart file (joined path name)
apart_child file path name long some plain h = record {
  outside = false_from_ne_true _ (λ e. let no : true ≡ false = sym (within_child path name file some e)
      ∙ h.outside in cc);
  beside = or_from _ _ file_root (or_from _ _ other behind);
}
  where
    file_root : is_root file ≡ false
    file_root = (or_parts (is_root file) (is_under file path) h.beside).0

    apart : (bytes_eq path file ≡ false) × (starts_with nat_eq path (file ++ 47 ∷ []) ≡ false)
    apart = or_parts (bytes_eq path file) _ (or_parts (is_root file) (is_under file path) h.beside).1

    other : bytes_eq (joined path name) file ≡ false
    other = false_from_ne_true _ (λ e. let at : joined path name
        ≡ file = (bytes_eq-Decides (joined path name) file).0 e
        in let no : true ≡ false = sym (within_child path name (joined path name) some
        (within_itself (joined path name))) ∙ ap (is_within path) at ∙ h.outside in cc)

    same_test : bytes_eq file path ≡ false
    same_test = false_from_ne_true _ (λ e. let no : true ≡ false = sym (bytes_eq-same path)
        ∙ ap (bytes_eq path) (sym ((bytes_eq-Decides file path).0 e)) ∙ apart.0 in cc)

    above : list_any (bytes_eq file) (folders_above path) ≡ false
    above = false_from_ne_true _ (λ e. let no : true ≡ false = sym (above_within path file e) ∙ h.beside in cc)

    behind : starts_with nat_eq (joined path name) (file ++ 47 ∷ []) ≡ false
    behind = false_from_ne_true _ (λ e. let no : true ≡ false = sym (below_above (joined path name) file long e)
        ∙ above_child path name file plain same_test above in cc)

-- two names of a folder
not_in_other : (folder a b : List ℕ) → 0 < length a → has_slash a ≡ false → 0 < length b → has_slash b ≡ false
    → a ≢ b → is_within (joined folder a) (joined folder b) ≡ false
not_in_other folder a b some plain more other ne = or_from _ _ (child_not_root folder a some)
    (or_from _ _ (or_parts _ _ away).0 (not_below (joined folder a) (joined folder b) away))
  where
    itself : is_at_or_below (joined folder b) (joined folder b) ≡ true
    itself = ap (λ v. v || starts_with nat_eq (joined folder b) (joined (joined folder b) []))
        (bytes_eq-same (joined folder b))

    away : is_at_or_below (joined folder a) (joined folder b) ≡ false
    away = false_from_ne_true _ (λ e. absurd (ne (sym (named folder a (joined folder b) some plain e)
        ∙ named folder b (joined folder b) more other itself)))

pub siblings_apart : (folder a b : List ℕ) → IsTrue (is_part a) → IsTrue (is_part b) → a ≢ b
    → AreApart (joined folder a) (joined folder b)
siblings_apart folder a b p q ne = record {
  outside = not_in_other folder b a (part_form b q).0 (part_form b q).1 (part_form a p).0 (part_form a p).1
      (λ e. ne (sym e));
  beside = not_in_other folder a b (part_form a p).0 (part_form a p).1 (part_form b q).0 (part_form b q).1 ne;
}

-- ---- what stands apart from a file stays

pub item_kept : (file path : List ℕ) (a b : Tree) → AreApart file path → KeepsAround file a b
    → item_at b path ≡ item_at a path
item_kept file path a b h kept = by (kept path h.beside)
  where
    by : (item_at b path ≡ item_at a path) ⊎ IsMadeAbove file path a b → item_at b path ≡ item_at a path
    by (inl same) = same
    by (inr made) = absurd (let no : true ≡ false = sym (above_within file path made.above) ∙ h.outside in cc)

-- so what holds of it still holds
pub still : (P : Option Item → Type 0) (file path : List ℕ) (before now : Option Tree) → AreApart file path
    → KeptAround file before now → IfSome now (λ files. P (item_at files path))
    → IfSome before (λ files. P (item_at files path))
unfolding KeptAround
still P file path None None h kept told = tt
still P file path None (Some b) h kept told = absurd kept
still P file path (Some a) None h kept told = absurd kept
still P file path (Some a) (Some b) h kept told = subst P (item_kept file path a b h kept) told

pub again : (P : Option Item → Type 0) (file path : List ℕ) (before now : Option Tree) → AreApart file path
    → KeptAround file before now → IfSome before (λ files. P (item_at files path))
    → IfSome now (λ files. P (item_at files path))
unfolding KeptAround
again P file path None None h kept told = tt
again P file path None (Some b) h kept told = absurd kept
again P file path (Some a) None h kept told = absurd kept
again P file path (Some a) (Some b) h kept told = subst P (sym (item_kept file path a b h kept)) told

-- ---- the folder that is made for a file

item_by : (folder other : List ℕ) (files : Tree) → item_at (folder_made folder files) other
    ≡ cond (is_root other) (Some item.Folder) (cond
    (list_any (bytes_eq other) (folders_above folder ++ folder ∷ []) && not (is_root other)) (Some item.Folder)
    (get files other))
item_by folder other files = ap (cond (is_root other) (Some item.Folder))
    (get-with_folders (folders_above folder ++ folder ∷ []) files other)

pub keeps_made_above : (folder name : List ℕ) (files : Tree) → 0 < length folder
    → can_make_folder files folder ≡ true → KeepsAround (joined folder name) files (folder_made folder files)
keeps_made_above folder name files some can other away = by (is_root other) refl
    (list_any (bytes_eq other) (folders_above folder ++ folder ∷ [])) refl
  where
    at : (r v : Bool) → is_root other ≡ r → list_any (bytes_eq other) (folders_above folder ++ folder ∷ []) ≡ v
        → item_at (folder_made folder files) other ≡ cond r (Some item.Folder)
        (cond (v && not r) (Some item.Folder) (get files other))
    at r v e f = item_by folder other files ∙ ap (λ w. cond (is_root other) (Some item.Folder)
        (cond (w && not (is_root other)) (Some item.Folder) (get files other))) f
        ∙ ap (λ w. cond w (Some item.Folder) (cond (v && not w) (Some item.Folder) (get files other))) e

    before : (r : Bool) → is_root other ≡ r → item_at files other ≡ cond r (Some item.Folder) (get files other)
    before r e = ap (λ w. cond w (Some item.Folder) (get files other)) e

    one : (found : Option Item) → item_at files other ≡ found → (is_folder found || not (is_some found)) ≡ true
        → list_any (bytes_eq other) (folders_above (joined folder name)) ≡ true
        → item_at (folder_made folder files) other ≡ Some item.Folder
        → (item_at (folder_made folder files) other ≡ item_at files other)
        ⊎ IsMadeAbove (joined folder name) other files (folder_made folder files)
    one None e h above now = inr (record { above = above; before = e; after = now })
    one (Some item.Folder) e h above now = inl (now ∙ sym e)
    one (Some (item.File exec bytes)) e h above now = absurd (cc)
    one (Some (item.Link target)) e h above now = absurd (cc)
    one (Some item.Odd) e h above now = absurd (cc)

    by : (r : Bool) → is_root other ≡ r → (v : Bool) → list_any (bytes_eq other)
        (folders_above folder ++ folder ∷ []) ≡ v
        → (item_at (folder_made folder files) other ≡ item_at files other)
        ⊎ IsMadeAbove (joined folder name) other files (folder_made folder files)
    by true e v f = inl (at true v e f ∙ sym (before true e))
    by false e false f = inl (at false false e f ∙ sym (before false e))
    by false e true f = one (item_at files other) refl
        (at_one (λ p. is_folder (item_at files p) || not (is_some (item_at files p)))
        (folders_above folder ++ folder ∷ []) other can f)
        (made_above folder name other some f e) (at false true e f)
