-- The tree that is read of a folder is what the files hold at each path.
use Rattle.std.proofs.Common.{◌≡◌, ℕ, zero, suc, ◌+◌, ◌<◌, ◌==◌, ◌&&◌, ◌||◌, Bool, true, false, cond, List, [], ◌∷◌}
use Rattle.std.proofs.Common.{◌++◌, length, drop, nat_eq, refl, sym, ap, ◌∙◌, arith, Option, Some, None, is_some}
use Rattle.std.proofs.Common.{Result, Ok, Err, ◌⊎◌, inl, inr, append-nil, append_assoc}
use Rattle.std.specs.Prelude.{IsTrue, IfOk, IfSome, nat_le}
use Rattle.std.specs.Option.{option_or}
use Rattle.std.specs.Cmp.Lexicographic.{slice_cmp}
use Rattle.std.specs.FinMap.{entries, find, get, get-entries}
use Rattle.std.specs.List.{cons_option, filter_map, list_all, list_any, onto_first, starts_with}
use Rattle.std.specs.Ordering.{is_eq, nat_cmp}
use Rattle.std.specs.Str.{bytes_eq}
use Rattle.std.proofs.lemmas.Bool.{eqb-true, or_left, or_right}
use Rattle.std.proofs.lemmas.List.Folds.{list_all-append}
use Rattle.std.proofs.lemmas.Map.Text.{is_eq-slice_cmp}
use Rattle.std.proofs.lemmas.Slice.Eq.{bytes_eq-Decides}
use Rattle.std.proofs.Math.Seq.{drop-append_seam, take-append_seam}
use Rattle.cnb_world.specs.Listing.{name_below, names_in}
use Rattle.cnb_world.specs.Path.{are_parts, is_part, is_path, joined}
use Rattle.cnb_world.specs.Tree.{IsTree, StandsRight, Tree, is_folder, is_root, is_under, is_within, item_at}
use Rattle.cnb_world.specs.declared.world.Item.{Item}
use Rattle.cnb_world.specs.declared.world.Item.TheVariants as item
use Rattle.cnb_world.proofs.Parents.{both_true, parts_of, some_part}
use Rattle.cnb_world.proofs.Trees.{bytes_eq-same}
use Rattle.steps.specs.Causes.{IsAnswer}
use Rattle.tree_canon.specs.Names.{is_target}
use Rattle.tree_canon.specs.declared.node.Named.{Named}
use Rattle.tree_canon.specs.declared.node.Node.{Node}
use Rattle.tree_canon.specs.declared.node.Node.TheVariants as node
use Rattle.tree_store.specs.Answers.{cause_of}
use Rattle.tree_store.specs.Matching.{Matches, ReadTreesMatch}
use Rattle.tree_store.specs.Overlay.{folder_at, given_at, items_of, items_of_entry}
use Rattle.tree_store.specs.Reading.{◌>>=◌, Sized, entry_in_front, folder_of, folder_root, in_order, node_at, node_of}
use Rattle.tree_store.specs.Reading.{room, sized, too_deep, tree_in}
use Rattle.tree_store.specs.declared.fault.StoreFault.{StoreFault}
use Rattle.tree_store.proofs.Overlays.{given-append, items_entry, items_file, items_folder, items_in, items_link}
use Rattle.tree_store.proofs.Overlays.{node_away}
use Rattle.tree_store.proofs.Places.{child_not_root, is_at_or_below, joined_front, longer_child, name_in, part_form}
use Rattle.tree_store.proofs.Places.{slash_front, starts_itself, starts_split, until_slash}
use Rattle.tree_store.proofs.Standing.{InFolders, filled, nothing_below}

-- ---- the name of what is below a folder

parts_of-both : (a b : List ℕ) → parts_of (a ++ 47 ∷ b) ≡ parts_of a ++ parts_of b
parts_of-both [] b = refl
parts_of-both (c ∷ cs) b = by (c == 47) (parts_of-both cs b)
  where
    onto : parts_of (cs ++ 47 ∷ b) ≡ parts_of cs ++ parts_of b
        → onto_first c (parts_of (cs ++ 47 ∷ b)) ≡ onto_first c (parts_of cs) ++ parts_of b
    onto e = let some = some_part cs in ap (onto_first c) e
        ∙ ap (λ parts. onto_first c (parts ++ parts_of b)) some.2
        ∙ sym (ap (λ parts. onto_first c parts ++ parts_of b) some.2)

    by : (v : Bool) → parts_of (cs ++ 47 ∷ b) ≡ parts_of cs ++ parts_of b
        → cond v ([] ∷ parts_of (cs ++ 47 ∷ b)) (onto_first c (parts_of (cs ++ 47 ∷ b)))
        ≡ cond v ([] ∷ parts_of cs) (onto_first c (parts_of cs)) ++ parts_of b
    by true e = ap (λ parts. [] ∷ parts) e
    by false e = onto e

first_part : (rest : List ℕ) → (more : List (List ℕ)) × (parts_of rest ≡ until_slash rest ∷ more)
first_part [] = ([], refl)
first_part (c ∷ cs) = by (c == 47) (first_part cs)
  where
    by : (v : Bool) → ((more : List (List ℕ)) × (parts_of cs ≡ until_slash cs ∷ more)) → (more : List (List ℕ))
        × (cond v ([] ∷ parts_of cs) (onto_first c (parts_of cs)) ≡ cond v [] (c ∷ until_slash cs) ∷ more)
    by true h = (parts_of cs, refl)
    by false h = (h.0, ap (onto_first c) h.1)

cut_name : (rest : List ℕ) → (rest ≡ until_slash rest) ⊎ ((more : List ℕ) × (rest ≡ until_slash rest ++ 47 ∷ more))
cut_name [] = inl refl
cut_name (c ∷ cs) = by (c == 47) refl (cut_name cs)
  where
    by : (v : Bool) → (c == 47) ≡ v → (cs ≡ until_slash cs) ⊎ ((more : List ℕ) × (cs ≡ until_slash cs ++ 47 ∷ more))
        → (c ∷ cs ≡ cond v [] (c ∷ until_slash cs)) ⊎ ((more : List ℕ)
        × (c ∷ cs ≡ cond v [] (c ∷ until_slash cs) ++ 47 ∷ more))
    by true e h = inr (cs, ap (λ x. x ∷ cs) (eqb-true c 47 e))
    by false e (inl same) = inl (ap (λ x. c ∷ x) same)
    by false e (inr more) = inr (more.0, ap (λ x. c ∷ x) more.1)

slash_last : (path : List ℕ) → (front : List ℕ) × (joined path [] ≡ front ++ 47 ∷ [])
slash_last path = by (bytes_eq path (47 ∷ [])) refl
  where
    by : (v : Bool) → bytes_eq path (47 ∷ []) ≡ v → (front : List ℕ)
        × ((cond v path (path ++ 47 ∷ [])) ++ [] ≡ front ++ 47 ∷ [])
    by true e = ([], append-nil path ∙ (bytes_eq-Decides path (47 ∷ [])).0 e)
    by false e = (path, append-nil (path ++ 47 ∷ []))

-- the parts of a path behind a slash
parts_behind : (front rest : List ℕ) → is_path (front ++ 47 ∷ rest) ≡ true → is_root (front ++ 47 ∷ rest) ≡ false
    → list_all is_part (parts_of rest) ≡ true
parts_behind front rest fits plain = by front
    (ap (λ v. v || are_parts (front ++ 47 ∷ rest)) (sym plain)
    ∙ (both_true _ (is_root (front ++ 47 ∷ rest) || are_parts (front ++ 47 ∷ rest)) fits).1)
  where
    by : (front : List ℕ) → are_parts (front ++ 47 ∷ rest) ≡ true → list_all is_part (parts_of rest) ≡ true
    by [] are = are
    by (c ∷ f) are =
        let all : list_all is_part (parts_of (f ++ 47 ∷ rest)) ≡ true = (both_true (c == 47) _ are).1 in
        (both_true (list_all is_part (parts_of f)) (list_all is_part (parts_of rest))
        (sym (ap (list_all is_part) (parts_of-both f rest) ∙ list_all-append is_part (parts_of f)
        (parts_of rest)) ∙ all)).1

below_whole : (path q : List ℕ) → starts_with nat_eq q (joined path []) ≡ true
    → q ≡ joined path [] ++ drop (length (joined path [])) q
below_whole path q below = starts_split q (joined path []) below

name_fits : (path q : List ℕ) → is_path q ≡ true → is_root q ≡ false
    → starts_with nat_eq q (joined path []) ≡ true → is_part (name_in path q) ≡ true
name_fits path q fits plain below =
    let front = slash_last path in
    let rest : List ℕ = drop (length (joined path [])) q in
    let whole : q ≡ front.0 ++ 47 ∷ rest = starts_split q (joined path []) below ∙ ap (λ f. f ++ rest) front.1
    ∙ append_assoc front.0 (47 ∷ []) rest in
    let all : list_all is_part (parts_of rest) ≡ true = parts_behind front.0 rest (sym (ap is_path whole) ∙ fits)
    (sym (ap is_root whole) ∙ plain) in
    let first = first_part rest in
    (both_true (is_part (until_slash rest)) (list_all is_part first.0) (sym (ap (list_all is_part) first.1) ∙ all)).0

-- ---- what stands in a folder is among its names

below_joined : (folder name : List ℕ) → IsTrue (is_part name) → name_below folder (joined folder [] ++ name) ≡ Some name
below_joined folder name part =
    let front = joined folder [] in
    ap (λ f. cond (bytes_eq front f && is_part (drop (length front) (front ++ name)))
    (Some (drop (length front) (front ++ name))) None) (take-append_seam front name)
    ∙ ap (λ r. cond (bytes_eq front front && is_part r) (Some r) None) (drop-append_seam front name)
    ∙ ap (λ v. cond (v && is_part name) (Some name) None) (bytes_eq-same front)
    ∙ ap (λ v. cond v (Some name) None) part

module _ (folder name : List ℕ) (part : IsTrue (is_part name)) where
  found_name : (es : List (List ℕ × Item)) → is_some (find (slice_cmp nat_cmp) (joined folder [] ++ name) es)
      ≡ true → list_any (bytes_eq name) (filter_map (λ entry. name_below folder entry.0) es) ≡ true
  found_name [] h = absurd (cc)
  found_name (e ∷ es) h = by (λ later. found_name es later)
      (is_eq (slice_cmp nat_cmp (joined folder [] ++ name) e.0)) refl h
    where
      others : List (List ℕ)
      others = filter_map (λ entry. name_below folder entry.0) es

      more : (o : Option (List ℕ)) → list_any (bytes_eq name) others ≡ true
          → list_any (bytes_eq name) (cons_option o others) ≡ true
      more None there = there
      more (Some other) there = or_right (bytes_eq name other) (list_any (bytes_eq name) others) there

      by : (is_some (find (slice_cmp nat_cmp) (joined folder [] ++ name) es) ≡ true
          → list_any (bytes_eq name) others ≡ true) → (v : Bool) → is_eq
          (slice_cmp nat_cmp (joined folder [] ++ name) e.0) ≡ v
          → is_some (cond v (Some e.1) (find (slice_cmp nat_cmp) (joined folder [] ++ name) es)) ≡ true
          → list_any (bytes_eq name) (cons_option (name_below folder e.0) others) ≡ true
      by rest true is there =
          let same : joined folder [] ++ name ≡ e.0 = (bytes_eq-Decides (joined folder [] ++ name) e.0).0
          (sym (is_eq-slice_cmp (joined folder [] ++ name) e.0) ∙ is) in
          ap (λ o. list_any (bytes_eq name) (cons_option o others))
          (ap (name_below folder) (sym same) ∙ below_joined folder name part)
          ∙ or_left (bytes_eq name name) (list_any (bytes_eq name) others) (bytes_eq-same name)
      by rest false is there = more (name_below folder e.0) (rest there)

at_key : (files : Tree) (folder name : List ℕ) → IsTrue (is_part name)
    → item_at files (joined folder name) ≡ get files (joined folder name)
at_key files folder name part = ap (λ v. cond v (Some item.Folder) (get files (joined folder name)))
    (child_not_root folder name (part_form name part).0)

pub name_listed : (files : Tree) (folder name : List ℕ) → IsTrue (is_part name)
    → is_some (get files (joined folder name)) ≡ true → list_any (bytes_eq name) (names_in files folder) ≡ true
name_listed files folder name part there =
    found_name folder name part (entries files) (ap is_some
    (sym (ap (get files) (joined_front folder name) ∙ get-entries files (joined folder [] ++ name))) ∙ there)

-- ---- what stands below a folder is at the path of one of its names, or below it

-- a path is at one of these names in a folder, or below it
abbrev is_named : List ℕ → List ℕ → List (List ℕ) → Bool
is_named path q names = list_any (λ name. is_at_or_below (joined path name) q) names

named_by : (path q name : List ℕ) (names : List (List ℕ)) → is_at_or_below (joined path name) q ≡ true
    → list_any (bytes_eq name) names ≡ true → is_named path q names ≡ true
named_by path q name [] at there = absurd (cc)
named_by path q name (n ∷ names) at there = by (bytes_eq name n) refl (named_by path q name names at) there
  where
    by : (v : Bool) → bytes_eq name n ≡ v → (list_any (bytes_eq name) names ≡ true → is_named path q names ≡ true)
        → (v || list_any (bytes_eq name) names) ≡ true
        → (is_at_or_below (joined path n) q || is_named path q names) ≡ true
    by true e later h = or_left (is_at_or_below (joined path n) q) (is_named path q names)
        (ap (λ x. is_at_or_below (joined path x) q) (sym ((bytes_eq-Decides name n).0 e)) ∙ at)
    by false e later h = or_right (is_at_or_below (joined path n) q) (is_named path q names) (later h)

folder_some : (o : Option Item) → is_folder o ≡ true → is_some o ≡ true
folder_some None h = absurd (cc)
folder_some (Some x) h = refl

module _ (files : Tree) (all : InFolders files) where
  stands_named : (path q : List ℕ) → starts_with nat_eq q (joined path []) ≡ true → is_some (get files q) ≡ true
      → is_named path q (names_in files path) ≡ true
  stands_named path q below stands = by (cut_name (drop (length (joined path [])) q))
    where
      name : List ℕ
      name = name_in path q

      right : StandsRight files q
      right = all q stands

      part : IsTrue (is_part name)
      part = name_fits path q right.0 right.1.0 below

      by : (drop (length (joined path [])) q ≡ name)
          ⊎ ((more : List ℕ) × (drop (length (joined path [])) q ≡ name ++ 47 ∷ more))
          → is_named path q (names_in files path) ≡ true
      by (inl same) =
          let whole : q ≡ joined path name = below_whole path q below ∙ ap (λ r. joined path [] ++ r) same
          ∙ sym (joined_front path name) in
          named_by path q name (names_in files path)
          (ap (is_at_or_below (joined path name)) whole ∙ or_left (bytes_eq (joined path name) (joined path name))
          (starts_with nat_eq (joined path name) (joined (joined path name) []))
          (bytes_eq-same (joined path name)))
          (name_listed files path name part (ap (λ p. is_some (get files p)) (sym whole) ∙ stands))
      by (inr more) =
          let whole : q ≡ (joined path name ++ 47 ∷ []) ++ more.0 = below_whole path q below
          ∙ ap (λ r. joined path [] ++ r) more.1 ∙ sym (append_assoc (joined path []) name (47 ∷ more.0))
          ∙ ap (λ f. f ++ 47 ∷ more.0) (sym (joined_front path name))
          ∙ sym (append_assoc (joined path name) (47 ∷ []) more.0) in
          let begins : starts_with nat_eq q (joined path name ++ 47 ∷ [])
          ≡ true = ap (λ x. starts_with nat_eq x (joined path name ++ 47 ∷ [])) whole
          ∙ starts_itself (joined path name ++ 47 ∷ []) more.0 in
          named_by path q name (names_in files path)
          (or_right (bytes_eq q (joined path name)) (starts_with nat_eq q (joined (joined path name) []))
          (slash_front (joined path name) q begins))
          (name_listed files path name part (ap is_some (sym (at_key files path name part))
          ∙ folder_some (item_at files (joined path name))
          (is_there (is_folder (item_at files (joined path name))) refl begins)))
        where
          filled_name : bytes_eq (joined path name) [] ≡ false
          filled_name = some_text (joined path name) (let longer : length path
              < length (joined path name) = longer_child path name (part_form name part).0 in omega arith)
            where
              some_text : (text : List ℕ) → 0 < length text → bytes_eq text [] ≡ false
              some_text [] h = absurd (omega arith)
              some_text (c ∷ cs) h = refl

          is_there : (v : Bool) → is_folder (item_at files (joined path name)) ≡ v
              → starts_with nat_eq q (joined path name ++ 47 ∷ []) ≡ true
              → is_folder (item_at files (joined path name)) ≡ true
          is_there true e begins = e
          is_there false e begins = absurd (let no : false ≡ true = sym
              (ap is_some (nothing_below files all (joined path name) filled_name e q begins)) ∙ stands in cc)

-- ---- what is read

abbrev root_read : Result Node StoreFault → Node → Node
root_read (Ok root) other = root
root_read (Err fault) other = other

sized_is : (r : Result ℕ StoreFault) (root tree : Node) (now : ℕ) → (r >>= sized root) ≡ Ok (tree, now) → root ≡ tree
sized_is (Ok size) root tree now h = ap (λ (x : Result Sized StoreFault). node_in x root) h
  where
    node_in : Result Sized StoreFault → Node → Node
    node_in (Ok read) other = read.0
    node_in (Err fault) other = other
sized_is (Err fault) root tree now h = absurd (cc)

abbrev entries_read : Result (List Named × ℕ) StoreFault → List Named
entries_read (Ok all) = all.0
entries_read (Err fault) = []

-- a folder that was read is its entries
record IsOfEntries (reading : ℕ → Result (List Named × ℕ) StoreFault) (tree : Node) : Type 0 where
  es : List Named
  size : ℕ
  now : ℕ
  read : reading size ≡ Ok (es, now)
  tree_is : tree ≡ node.Folder es

folder_read : (r : Result ℕ StoreFault) (reading : ℕ → Result (List Named × ℕ) StoreFault) (tree : Node) (now : ℕ)
    → (r >>= (λ s. reading s >>= folder_of)) ≡ Ok (tree, now) → IsOfEntries reading tree
folder_read (Err fault) reading tree now h = absurd (cc)
folder_read (Ok size) reading tree now h = by (reading size) refl h
  where
    by : (found : Result (List Named × ℕ) StoreFault) → reading size ≡ found
        → (found >>= folder_of) ≡ Ok (tree, now) → IsOfEntries reading tree
    by (Err fault) e h = absurd (cc)
    by (Ok all) e h = record {
      es = all.0;
      size = size;
      now = all.1;
      read = e;
      tree_is = sym
          (sized_is (Ok all.1) (node.Folder all.0) tree now h);
    }

-- an entry that was read is the first of the entries
record IsFirstOf (below : List ℕ → ℕ → Result Sized StoreFault) (name : List ℕ) (names : List (List ℕ)) (at : ℕ)
    (es : List Named) : Type 0 where
  first : Node
  next : ℕ
  read : below name at ≡ Ok (first, next)
  rest : List Named
  now : ℕ
  others : in_order below names next ≡ Ok (rest, now)
  all : es ≡ record { name = name; node = first } ∷ rest

entry_read : (below : List ℕ → ℕ → Result Sized StoreFault) (name : List ℕ) (names : List (List ℕ)) (size now : ℕ)
    (es : List Named) → in_order below (name ∷ names) size ≡ Ok (es, now)
    → IsFirstOf below name names (size + (2 + length name)) es
entry_read below name names size now es h = by (below name (size + (2 + length name))) refl h
  where
    by : (r : Result Sized StoreFault) → below name (size + (2 + length name)) ≡ r
        → (r >>= (λ one. in_order below names one.1 >>= entry_in_front name one.0)) ≡ Ok (es, now)
        → IsFirstOf below name names (size + (2 + length name)) es
    by (Err fault) e h = absurd (cc)
    by (Ok one) e h = inner (in_order below names one.1) refl h
      where
        inner : (r : Result (List Named × ℕ) StoreFault) → in_order below names one.1 ≡ r
            → (r >>= entry_in_front name one.0) ≡ Ok (es, now) → IsFirstOf below name names
            (size + (2 + length name)) es
        inner (Err fault) f h = absurd (cc)
        inner (Ok rest) f h = record {
          first = one.0;
          next = one.1;
          read = e;
          rest = rest.0;
          now = rest.1;
          others = f;
          all = sym (ap entries_read h);
        }

not_deep : (path : List ℕ) (o : Option Item) (read : Sized) → too_deep path o ≡ Ok read → ⊥
not_deep path None read h = cc
not_deep path (Some item.Odd) read h = cc
not_deep path (Some item.Folder) read h = cc
not_deep path (Some (item.File exec bytes)) read h = cc
not_deep path (Some (item.Link target)) read h = by (is_target target) h
  where
    by : (v : Bool) → cond v (too_deep path (Some item.Folder)) (too_deep path None) ≡ Ok read → ⊥
    by true h = cc
    by false h = cc

once_or_twice : (found : Option Item) (again : Bool) → option_or found (cond again found None) ≡ found
once_or_twice None true = refl
once_or_twice None false = refl
once_or_twice (Some x) again = refl

none_either : (v : Bool) (o : Option Item) → o ≡ None → cond v o None ≡ o
none_either true o e = refl
none_either false o e = sym e

module _ (files : Tree) (all : InFolders files) (q : List ℕ) where
  -- a node that was read at a path has at this path what the files have
  abbrev Holds : (List ℕ → ℕ → Result Sized StoreFault) → (List ℕ → List ℕ) → Type 0
  Holds below place = (name : List ℕ) (size now : ℕ) (tree : Node) → below name size ≡ Ok (tree, now)
      → is_at_or_below (place name) q ≡ true → given_at (items_of tree (place name)) q ≡ get files q

  entries_hold : (below : List ℕ → ℕ → Result Sized StoreFault) (path : List ℕ) → Holds below (joined path)
      → (names : List (List ℕ)) (size now : ℕ) (es : List Named) → in_order below names size ≡ Ok (es, now)
      → given_at (items_in es path) q ≡ cond (is_named path q names) (get files q) None
  entries_hold below path holds [] size now es h = ap (λ l. given_at (items_in l path) q) (sym (ap entries_read h))
  entries_hold below path holds (name ∷ names) size now es h = by (entry_read below name names size now es h)
      (λ size now es. entries_hold below path holds names size now es)
    where
      by : IsFirstOf below name names (size + (2 + length name)) es
          → ((size now : ℕ) (es : List Named) → in_order below names size ≡ Ok (es, now)
          → given_at (items_in es path) q ≡ cond (is_named path q names) (get files q) None)
          → given_at (items_in es path) q ≡ cond (is_named path q (name ∷ names)) (get files q) None
      by f later =
          ap (λ l. given_at (items_in l path) q) f.all
          ∙ given-append (items_of_entry (record { name = name; node = f.first }) path) (items_in f.rest path) q
          ∙ ap (λ g. option_or (given_at g q) (given_at (items_in f.rest path) q))
          (items_entry (record { name = name; node = f.first }) path)
          ∙ ap (option_or (given_at (items_of f.first (joined path name)) q)) (later f.next f.now f.rest f.others)
          ∙ at (is_at_or_below (joined path name) q) refl
        where
          at : (v : Bool) → is_at_or_below (joined path name) q ≡ v
              → option_or (given_at (items_of f.first (joined path name)) q)
              (cond (is_named path q names) (get files q) None) ≡ cond (v || is_named path q names)
              (get files q) None
          at true e = ap (λ o. option_or o (cond (is_named path q names) (get files q) None))
              (holds name (size + (2 + length name)) f.next f.first f.read e)
              ∙ once_or_twice (get files q) (is_named path q names)
          at false e = ap (λ o. option_or o (cond (is_named path q names) (get files q) None))
              (node_away f.first (joined path name) q e).none

  -- what stands at a path that is no folder
  item_holds : (path : List ℕ) (x : Item) → item_at files path ≡ Some x → is_folder (Some x) ≡ false
      → is_at_or_below path q ≡ true → given_at ((path, x) ∷ []) q ≡ get files q
  item_holds path x e other at = by (bytes_eq q path) refl at
    where
      plain : (v : Bool) → is_root path ≡ v → v ≡ false
      plain true r = absurd (let no : true ≡ false = ap (λ v. is_folder
          (cond v (Some item.Folder) (get files path))) (sym r) ∙ ap is_folder e ∙ other in cc)
      plain false r = refl

      not_root : is_root path ≡ false
      not_root = plain (is_root path) refl

      here : get files path ≡ Some x
      here = ap (λ v. cond v (Some item.Folder) (get files path)) (sym not_root) ∙ e

      by : (v : Bool) → bytes_eq q path ≡ v → (v || starts_with nat_eq q (joined path [])) ≡ true
          → cond v (Some x) None ≡ get files q
      by true same h = sym here ∙ ap (get files) (sym ((bytes_eq-Decides q path).0 same))
      by false same h =
          let below : starts_with nat_eq q (path ++ 47 ∷ []) ≡ true = ap (starts_with nat_eq q)
          (sym (ap (λ v. (cond v path (path ++ 47 ∷ [])) ++ []) not_root ∙ append-nil (path ++ 47 ∷ []))) ∙ h
          in
          sym (nothing_below files all path (filled path (all path (ap is_some here)).0)
          (ap is_folder e ∙ other) q below)

  -- a folder and the entries in it
  folder_holds : (path : List ℕ) (es : List Named) → item_at files path ≡ Some item.Folder
      → is_at_or_below path q ≡ true → given_at (items_in es path) q
      ≡ cond (is_named path q (names_in files path)) (get files q) None
      → given_at (items_of (node.Folder es) path) q ≡ get files q
  folder_holds path es e at entries =
      ap (λ g. given_at g q) (items_folder es path) ∙ given-append (folder_at path) (items_in es path) q
      ∙ ap (option_or (given_at (folder_at path) q)) entries ∙ by (is_root path) refl
      (bytes_eq q path) refl at
    where
      found : Option Item
      found = cond (is_named path q (names_in files path)) (get files q) None

      below_found : starts_with nat_eq q (joined path []) ≡ true → found ≡ get files q
      below_found below = there (get files q) refl
        where
          there : (o : Option Item) → get files q ≡ o → cond (is_named path q (names_in files path)) o None ≡ o
          there None s = none_either (is_named path q (names_in files path)) None refl
          there (Some x) s = ap (λ v. cond v (Some x) None) (stands_named files all path q below (ap is_some s))

      -- nothing stands at `/` but the folder that is always there
      root_none : (o : Option Item) → get files q ≡ o → is_root q ≡ true → o ≡ None
      root_none None s r = refl
      root_none (Some x) s r = absurd (let no : true ≡ false = sym r ∙ (all q (ap is_some s)).1.0 in cc)

      by : (r : Bool) → is_root path ≡ r → (v : Bool) → bytes_eq q path ≡ v
          → (v || starts_with nat_eq q (joined path [])) ≡ true → option_or
          (given_at (cond r [] ((path, item.Folder) ∷ [])) q) found ≡ get files q
      by true r true same h =
          none_either (is_named path q (names_in files path)) (get files q)
          (root_none (get files q) refl (ap is_root ((bytes_eq-Decides q path).0 same) ∙ r))
      by true r false same h = below_found h
      by false r true same h = ap (λ v. option_or (cond v (Some item.Folder) None) found) same ∙ sym e
          ∙ ap (λ v. cond v (Some item.Folder) (get files path)) r
          ∙ ap (get files) (sym ((bytes_eq-Decides q path).0 same))
      by false r false same h = ap (λ v. option_or (cond v (Some item.Folder) None) found) same ∙ below_found h

  node_holds : (levels : ℕ) (path : List ℕ) (size now : ℕ) (tree : Node)
      → node_at levels files path size ≡ Ok (tree, now) → is_at_or_below path q ≡ true
      → given_at (items_of tree path) q ≡ get files q
  node_holds zero path size now tree read at = absurd (not_deep path (item_at files path) (tree, now) read)
  node_holds (suc levels) path size now tree read at = by (item_at files path) refl
      (λ name size now tree. node_holds levels (joined path name) size now tree) read
    where
      below : List ℕ → ℕ → Result Sized StoreFault
      below name = node_at levels files (joined path name)

      by : (found : Option Item) → item_at files path ≡ found → Holds below (joined path)
          → node_of files path below size found ≡ Ok (tree, now) → given_at (items_of tree path) q ≡ get files q
      by None e holds h = absurd (cc)
      by (Some item.Odd) e holds h = absurd (cc)
      by (Some item.Folder) e holds h =
          let is = folder_read (room (size + 5)) (λ s. in_order below (names_in files path) s) tree now h in
          ap (λ t. given_at (items_of t path) q) is.tree_is ∙ folder_holds path is.es e at
          (entries_hold below path holds (names_in files path) is.size is.now is.es is.read)
      by (Some (item.File exec bytes)) e holds h =
          ap (λ t. given_at (items_of t path) q) (sym (sized_is (room (size + (10 + length bytes)))
          (node.File exec bytes) tree now h)) ∙ ap (λ g. given_at g q) (items_file exec bytes path)
          ∙ item_holds path (item.File exec bytes) e refl at
      by (Some (item.Link target)) e holds h = link (is_target target) h
        where
          link : (v : Bool) → cond v (room (size + (3 + length target)) >>= sized (node.Link target))
              (node_of files path below size None) ≡ Ok (tree, now) → given_at (items_of tree path) q
              ≡ get files q
          link true h = ap (λ t. given_at (items_of t path) q)
              (sym (sized_is (room (size + (3 + length target))) (node.Link target) tree now h))
              ∙ ap (λ g. given_at g q) (items_link target path) ∙ item_holds path (item.Link target) e refl at
          link false h = absurd (cc)

  -- the same of each path that is within the root
  root_holds : (root : List ℕ) (size now : ℕ) (tree : Node) → node_at 65 files root size ≡ Ok (tree, now)
      → is_within root q ≡ true → given_at (items_of tree root) q ≡ get files q
  root_holds root size now tree read within = by (is_at_or_below root q) refl
    where
      starts_slash : (o : Option Item) → get files q ≡ o → is_root root ≡ true → is_at_or_below root q ≡ false
          → o ≡ None
      starts_slash None s r away = refl
      starts_slash (Some x) s r away = absurd (let no : true ≡ false = sym (at_root q (all q (ap is_some s)).0)
          ∙ ap (λ p. is_at_or_below p q) (sym ((bytes_eq-Decides root (47 ∷ [])).0 r)) ∙ away in cc)
        where
          at_root : (path : List ℕ) → is_path path ≡ true → is_at_or_below (47 ∷ []) path ≡ true
          at_root [] h = absurd (cc)
          at_root (c ∷ cs) h = or_right (bytes_eq (c ∷ cs) (47 ∷ [])) (starts_with nat_eq (c ∷ cs) (47 ∷ []))
              (first (c == 47) refl (both_true (nat_le (length (c ∷ cs)) 32768) _ h).1)
            where
              first : (v : Bool) → (c == 47) ≡ v → ((v && bytes_eq cs [])
                  || (v && list_all is_part (parts_of cs))) ≡ true → starts_with nat_eq (c ∷ cs) (47 ∷ []) ≡ true
              first true e h = ap (λ x. starts_with nat_eq (x ∷ cs) (47 ∷ [])) (eqb-true c 47 e)
              first false e h = absurd (cc)

      in_root : (r : Bool) → is_root root ≡ r → is_at_or_below root q ≡ false → (r || is_under root q) ≡ true
          → given_at (items_of tree root) q ≡ get files q
      in_root true r away h = (node_away tree root q away).none ∙ sym (starts_slash (get files q) refl r away)
      in_root false r away h = absurd (let no : true ≡ false = sym h
          ∙ ap (λ f. bytes_eq q root || starts_with nat_eq q f)
          (sym (ap (λ v. (cond v root (root ++ 47 ∷ [])) ++ []) r ∙ append-nil (root ++ 47 ∷ []))) ∙ away in cc)

      by : (v : Bool) → is_at_or_below root q ≡ v → given_at (items_of tree root) q ≡ get files q
      by true e = node_holds 65 root size now tree read e
      by false e = in_root (is_root root) refl e within

-- ---- the tree of a folder

root_of_read : (o : Option Item) (root : List ℕ) (read : Result Sized StoreFault) (tree : Node)
    → folder_root root o read ≡ Ok tree → (now : ℕ) × (read ≡ Ok (tree, now))
root_of_read None root read tree h = absurd (cc)
root_of_read (Some item.Odd) root read tree h = absurd (cc)
root_of_read (Some (item.File exec bytes)) root read tree h = absurd (cc)
root_of_read (Some (item.Link target)) root read tree h = absurd (cc)
root_of_read (Some item.Folder) root (Err fault) tree h = absurd (cc)
root_of_read (Some item.Folder) root (Ok read) tree h =
    (read.1, ap (λ (r : Result Node StoreFault). Ok (root_read r tree, read.1)) h)

pub read_matches : ReadTreesMatch
unfolding tree_in
read_matches root tree files standing read path within =
    let is = root_of_read (item_at files root) root (node_at 65 files root 5) tree read in
    ap (cond (is_root path) (Some item.Folder)) (sym
    (root_holds files standing.standing path root 5 is.0 tree is.1 within))

-- the same of a call, where the files are told
pub told_matches : (o : Option Tree) (root : List ℕ) (result : Result Node StoreFault) → IfSome o IsTree
    → IfSome o (λ files. IsAnswer cause_of result (tree_in root files))
    → IfSome o (λ files. IfOk result (λ tree. Matches root tree files))
told_matches None root result standing read = tt
told_matches (Some files) root (Err fault) standing read = tt
told_matches (Some files) root (Ok tree) standing read = read_matches root tree files standing read
