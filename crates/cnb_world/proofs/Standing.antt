-- What the calls make of a tree is a tree again: all stands at paths other than `/`, in folders.
use Rattle.std.proofs.Common.{◌≡◌, ℕ, ◌≤◌, ◌<◌, Bool, true, false, not, cond, List, [], ◌∷◌, ◌++◌, ◌&&◌, ◌||◌, ◌==◌}
use Rattle.std.proofs.Common.{◌⊎◌, inl, inr, zero, suc, refl, sym, ap, subst, ◌∙◌, Option, Some, None, is_some, Result}
use Rattle.std.proofs.Common.{Ok, Err, OnOk, OnErr, length, drop, append_assoc, append-nil, length-append, arith}
use Rattle.std.specs.Prelude.{nat_eq, nat_le}
use Rattle.std.specs.List.{list_all, starts_with}
use Rattle.std.specs.Str.{bytes_eq}
use Rattle.std.specs.Option.{option_map}
use Rattle.std.specs.Ordering.{nat_cmp}
use Rattle.std.specs.Cmp.Lexicographic.{slice_cmp}
use Rattle.std.specs.FinMap.{empty, get, insert, remove, get-empty}
use Rattle.std.proofs.lemmas.Slice.Eq.{bytes_eq-Decides, starts_is}
use Rattle.std.proofs.lemmas.Bool.{eqb-true, false_from_ne_true}
use Rattle.std.proofs.lemmas.Bool.Decides.{Decides-eqb}
use Rattle.cnb_world.specs.declared.world.Item.{Item}
use Rattle.cnb_world.specs.declared.world.Item.TheVariants.{Folder, File, Link, Odd}
use Rattle.cnb_world.specs.declared.world.Placed.{Placed}
use Rattle.cnb_world.specs.Path.{is_path, is_part, front_of, parent_of}
use Rattle.cnb_world.specs.Tree.{Tree, IsTree, StandsRight, item_at, is_root, is_folder, is_file, is_file_or_absent}
use Rattle.cnb_world.specs.Tree.{is_exec, bytes_of, is_under, is_within, without, folders_from, folders_above}
use Rattle.cnb_world.specs.Tree.{with_folders, folder_made, created, appended, renamed, moved, linked, can_create}
use Rattle.cnb_world.specs.Tree.{can_read, can_rename, can_make_link}
use Rattle.cnb_world.specs.declared.memory.change.Change.{Change}
use Rattle.cnb_world.specs.declared.memory.change.Change.TheVariants.{Ran}
use Rattle.cnb_world.specs.declared.memory.play.ChildRun.{ChildRun}
use Rattle.cnb_world.specs.Memory.{HavePaths, tree_of, laid, placed, all_placed, all_without}
use Rattle.cnb_world.specs.Effects.{is_slashed}
use Rattle.cnb_world.proofs.Parents.{has_slash, both_true, parent_is_path}
use Rattle.cnb_world.proofs.Trees.{get-insert_bytes, get-remove_bytes}
use Rattle.cnb_world.proofs.Folders.{get-without, folder_stands}
use Rattle.cnb_world.proofs.EffectLemmas.{within_more}
use Rattle.cnb_world.proofs.ChangeLemmas.{tree_after_last}
use Rattle.cnb_world.proofs.FolderLemmas.{with_folders-append}

same_bytes : (a b : List ℕ) → bytes_eq a b ≡ true → a ≡ b
same_bytes a b h = (bytes_eq-Decides a b).0 h

-- ---- a path, what is before its last slash, and its last part

record IsCut (path front name : List ℕ) : Type 0 where
  whole : path ≡ front ++ 47 ∷ name
  last : has_slash name ≡ false

cut_at : (path : List ℕ) → has_slash path ≡ true → (name : List ℕ) × IsCut path (front_of path) name
cut_at [] h = absurd (cc)
cut_at (c ∷ cs) h = by (has_slash cs) refl (cut_at cs)
  where
    is_slash : (v w : Bool) → w ≡ false → (v || w) ≡ true → v ≡ true
    is_slash true w e h = refl
    is_slash false w e h = absurd (let no : false ≡ true = sym e ∙ h in cc)

    by : (v : Bool) → has_slash cs ≡ v → (has_slash cs ≡ true → (name : List ℕ) × IsCut cs (front_of cs) name)
        → (name : List ℕ) × IsCut (c ∷ cs) (cond v (c ∷ front_of cs) []) name
    by true e more = let found = more e in (
      found.0,
      record
          { whole = ap (λ r. c ∷ r) found.1.whole; last = found.1.last },
    )
    by false e more = (
      cs,
      record {
        whole = ap (λ b. b ∷ cs)
            (eqb-true c 47 (is_slash (c == 47) (has_slash cs) e h));
        last = e;
      },
    )

begins_with_slash : (path : List ℕ) → is_path path ≡ true → has_slash path ≡ true
begins_with_slash [] h = absurd (cc)
begins_with_slash (c ∷ cs) h = by (c == 47) (both_true (nat_le (length (c ∷ cs)) 32768) _ h).1
  where
    by : (v : Bool) → ((v && bytes_eq cs []) || (v && list_all is_part
        (Rattle.std.specs.List.slice_split (λ b. b == 47) cs))) ≡ true → (v || has_slash cs) ≡ true
    by true e = refl
    by false e = absurd (cc)

cut_path : (path : List ℕ) → is_path path ≡ true → (name : List ℕ) × IsCut path (front_of path) name
cut_path path h = cut_at path (begins_with_slash path h)

-- the parent is shorter, where the path isn't `/`
longer_than_one : (path : List ℕ) → is_path path ≡ true → is_root path ≡ false → 1 < length path
longer_than_one [] h e = absurd (cc)
longer_than_one (c ∷ d ∷ cs) h e = omega arith
longer_than_one (c ∷ []) h e = absurd (by (c == 47) e (both_true (nat_le (length (c ∷ [])) 32768) _ h).1)
  where
    by : (v : Bool) → (v && true) ≡ false → ((v && true) || (v && false)) ≡ true → ⊥
    by true x y = cc
    by false x y = cc

parent_shorter : (path : List ℕ) → is_path path ≡ true → is_root path ≡ false → length (parent_of path) < length path
parent_shorter path h e = by (bytes_eq (front_of path) [])
  where
    cut : (name : List ℕ) × IsCut path (front_of path) name
    cut = cut_path path h

    by : (v : Bool) → length (cond v (47 ∷ []) (front_of path)) < length path
    by true = longer_than_one path h e
    by false = let all : length path ≡ length (front_of path ++ 47 ∷ cut.0) = ap length cut.1.whole
        in omega (arith, length-append (front_of path) (47 ∷ cut.0))

not_itself : (path : List ℕ) → is_path path ≡ true → is_root path ≡ false → bytes_eq (parent_of path) path ≡ false
not_itself path h e = false_from_ne_true _ (λ same. let is : length (parent_of path)
    ≡ length path = ap length (same_bytes _ _ same) in let less : length (parent_of path)
    < length path = parent_shorter path h e in absurd (omega arith))

-- ---- what is within a folder

or_either : (a b : Bool) → (a || b) ≡ true → (a ≡ true) ⊎ (b ≡ true)
or_either true b h = inl refl
or_either false b h = inr h

under_is : (folder path : List ℕ) → is_under folder path ≡ true → (rest : List ℕ)
    × ((path ≡ folder ++ rest) × (is_slashed rest ≡ true))
under_is folder path h = by (or_either _ _ h)
  where
    by : (bytes_eq path folder ≡ true) ⊎ (starts_with nat_eq path (folder ++ 47 ∷ []) ≡ true) → (rest : List ℕ)
        × ((path ≡ folder ++ rest) × (is_slashed rest ≡ true))
    by (inl same) = ([], (same_bytes path folder same ∙ sym (append-nil folder), refl))
    by (inr begins) = (
      47 ∷ drop (length (folder ++ 47 ∷ [])) path,
      (
        (starts_is Decides-eqb path (folder ++ 47 ∷ []) _ refl).0 begins
            ∙ append_assoc folder (47 ∷ []) _,
        refl,
      ),
    )

slashed_more : (rest name : List ℕ) → is_slashed rest ≡ true → is_slashed (rest ++ 47 ∷ name) ≡ true
slashed_more [] name h = refl
slashed_more (c ∷ cs) name h = h

-- what is in a folder within another is within that one
within_further : (folder path : List ℕ) → is_path path ≡ true → is_root (parent_of path) ≡ false
    → is_within folder (parent_of path) ≡ true → is_within folder path ≡ true
within_further folder path h other within = by (is_root folder) within
  where
    cut : (name : List ℕ) × IsCut path (front_of path) name
    cut = cut_path path h

    is_front : (v : Bool) → is_root (cond v (47 ∷ []) (front_of path)) ≡ false
        → cond v (47 ∷ []) (front_of path) ≡ front_of path
    is_front true e = absurd (cc)
    is_front false e = refl

    under : is_under folder (parent_of path) ≡ true → is_under folder path ≡ true
    under h =
        let found = under_is folder (parent_of path) h in
        let whole : path ≡ folder ++ (found.0 ++ 47 ∷ cut.0) = cut.1.whole
        ∙ ap (λ f. f ++ 47 ∷ cut.0) (sym (is_front (bytes_eq (front_of path) []) other) ∙ found.1.0)
        ∙ append_assoc folder found.0 (47 ∷ cut.0) in
        ap (is_under folder) whole ∙ within_more folder (found.0 ++ 47 ∷ cut.0) ∙ slashed_more found.0 cut.0 found.1.1

    by : (v : Bool) → (v || is_under folder (parent_of path)) ≡ true → (v || is_under folder path) ≡ true
    by true e = refl
    by false e = under e

-- what is in a folder is within it
within_parent : (path : List ℕ) → is_path path ≡ true → is_within (parent_of path) path ≡ true
within_parent path h = by (bytes_eq (front_of path) [])
  where
    cut : (name : List ℕ) × IsCut path (front_of path) name
    cut = cut_path path h

    or_true : (v : Bool) → (v || true) ≡ true
    or_true true = refl
    or_true false = refl

    by : (v : Bool) → is_within (cond v (47 ∷ []) (front_of path)) path ≡ true
    by true = refl
    by false = ap (λ v. is_root (front_of path) || v)
        (ap (is_under (front_of path)) cut.1.whole ∙ within_more (front_of path) (47 ∷ cut.0))
        ∙ or_true (is_root (front_of path))

-- nothing is within what is longer
not_within_longer : (folder path : List ℕ) → is_root folder ≡ false → length path < length folder
    → is_within folder path ≡ false
not_within_longer folder path other less = ap (λ v. v || is_under folder path) other
    ∙ false_from_ne_true (is_under folder path) (λ h. let found = under_is folder path h
    in let all : length path ≡ length (folder ++ found.0) = ap length found.1.0
    in absurd (omega (arith, length-append folder found.0)))

-- ---- trees

abbrev AllStand : Tree → Type 0
AllStand tree = (path : List ℕ) → is_some (get tree path) ≡ true → StandsRight tree path

nothing_stands : (found : Option Item) → found ≡ None → is_some found ≡ true → ⊥
nothing_stands found none some = let no : false ≡ true = sym (ap is_some none) ∙ some in cc

tree_empty : AllStand empty
tree_empty path stands = absurd (nothing_stands _ (get-empty (slice_cmp nat_cmp) path) stands)

not_both : (found : Option Item) → is_folder found ≡ true → is_file_or_absent found ≡ true → ⊥
not_both None a b = cc
not_both (Some Folder) a b = cc
not_both (Some (File exec bytes)) a b = cc
not_both (Some (Link target)) a b = cc
not_both (Some Odd) a b = cc

file_fits : (found : Option Item) → is_file found ≡ true → is_file_or_absent found ≡ true
file_fits None h = absurd (cc)
file_fits (Some Folder) h = absurd (cc)
file_fits (Some (File exec bytes)) h = refl
file_fits (Some (Link target)) h = absurd (cc)
file_fits (Some Odd) h = absurd (cc)

-- where nothing stands in what is at a path, or a folder comes to stand there
abbrev IsClear : Tree → List ℕ → Item → Type 0
IsClear tree path item = (q : List ℕ) → is_some (get tree q) ≡ true → parent_of q ≡ path → is_folder (Some item) ≡ true

root_test : (v : Bool) (found : Option Item) → v ≡ true → is_folder (cond v (Some Folder) found) ≡ true
root_test true found e = refl
root_test false found e = absurd (cc)

-- a folder stays where another path gets an item
stays_folder : (tree : Tree) (path q : List ℕ) (item : Item)
    → (bytes_eq q path ≡ true → is_folder (Some item) ≡ true) → is_folder (item_at tree q) ≡ true
    → is_folder (item_at (insert tree path item) q) ≡ true
stays_folder tree path q item here h = by (is_root q) h
  where
    inner : (v : Bool) → bytes_eq q path ≡ v → is_folder (get tree q) ≡ true
        → is_folder (cond v (Some item) (get tree q)) ≡ true
    inner true e g = here e
    inner false e g = g

    by : (v : Bool) → is_folder (cond v (Some Folder) (get tree q)) ≡ true
        → is_folder (cond v (Some Folder) (get (insert tree path item) q)) ≡ true
    by true g = refl
    by false g = ap is_folder (get-insert_bytes tree path item q) ∙ inner (bytes_eq q path) refl g

tree_insert : (tree : Tree) (path : List ℕ) (item : Item) → AllStand tree → is_path path ≡ true
    → is_root path ≡ false → is_folder (item_at tree (parent_of path)) ≡ true → IsClear tree path item
    → AllStand (insert tree path item)
tree_insert tree path item is fits other folder clear q stands = by (bytes_eq q path) refl
    (sym (ap is_some (get-insert_bytes tree path item q)) ∙ stands)
  where
    by : (v : Bool) → bytes_eq q path ≡ v → is_some (cond v (Some item) (get tree q)) ≡ true
        → StandsRight (insert tree path item) q
    by true e h =
        let same : q ≡ path = same_bytes q path e in
        subst (StandsRight (insert tree path item)) (sym same) (
          fits,
          (
            other,
            stays_folder tree path (parent_of path) item
                (λ is. absurd (let no : true ≡ false = sym is ∙ not_itself path fits other in cc)) folder,
          ),
        )
    by false e h =
        let old = is q h in
        (old.0, (old.1.0, stays_folder tree path (parent_of q) item (λ same. clear q h (same_bytes _ _ same)) old.1.1))

-- a file, or nothing, has nothing below it
clear_file : (tree : Tree) (path : List ℕ) (item : Item) → AllStand tree
    → is_file_or_absent (item_at tree path) ≡ true → IsClear tree path item
clear_file tree path item is fits q stands at = absurd
    (not_both (item_at tree path) (subst (λ p. is_folder (item_at tree p) ≡ true) at (is q stands).1.1) fits)

not_root : (tree : Tree) (path : List ℕ) → is_file_or_absent (item_at tree path) ≡ true → is_root path ≡ false
not_root tree path h = by (is_root path) h
  where
    by : (v : Bool) → is_file_or_absent (cond v (Some Folder) (get tree path)) ≡ true → v ≡ false
    by true e = absurd (cc)
    by false e = refl

tree_created : (path : List ℕ) (exec : Bool) (tree : Tree) → is_path path ≡ true → can_create tree path ≡ true
    → AllStand tree → AllStand (created path exec tree)
tree_created path exec tree fits can is =
    let tests = both_true (is_file_or_absent (item_at tree path)) (is_folder (item_at tree (parent_of path))) can in
    tree_insert tree path (File exec []) is fits (not_root tree path tests.0) tests.1
    (clear_file tree path (File exec []) is tests.0)

absent_fits : (found : Option Item) → not (is_some found) ≡ true → is_file_or_absent found ≡ true
absent_fits None h = refl
absent_fits (Some item) h = absurd (cc)

tree_linked : (path target : List ℕ) (tree : Tree) → is_path path ≡ true → can_make_link tree path ≡ true
    → AllStand tree → AllStand (linked path target tree)
tree_linked path target tree fits can is =
    let tests = both_true (not (is_some (item_at tree path))) (is_folder (item_at tree (parent_of path))) can in
    let absent = absent_fits (item_at tree path) tests.0 in
    tree_insert tree path (Link target) is fits (not_root tree path absent) tests.1
    (clear_file tree path (Link target) is absent)

file_stands : (tree : Tree) (path : List ℕ) → is_file (item_at tree path) ≡ true → is_some (get tree path) ≡ true
file_stands tree path h = by (is_root path) h
  where
    some : (found : Option Item) → is_file found ≡ true → is_some found ≡ true
    some None e = absurd (cc)
    some (Some item) e = refl

    by : (v : Bool) → is_file (cond v (Some Folder) (get tree path)) ≡ true → is_some (get tree path) ≡ true
    by true e = absurd (cc)
    by false e = some (get tree path) e

tree_appended : (path bytes : List ℕ) (tree : Tree) → can_read tree path ≡ true → AllStand tree
    → AllStand (appended path bytes tree)
tree_appended path bytes tree can is =
    let here = is path (file_stands tree path can) in
    let item = File (is_exec (get tree path)) (bytes_of (get tree path) ++ bytes) in
    tree_insert tree path item is here.0 here.1.0 here.1.1
    (clear_file tree path item is (file_fits (item_at tree path) can))

-- a file may go
tree_removed : (tree : Tree) (path : List ℕ) → is_file (item_at tree path) ≡ true → AllStand tree
    → AllStand (remove tree path)
tree_removed tree path file is q stands = by (bytes_eq q path) refl
    (sym (ap is_some (get-remove_bytes tree path q)) ∙ stands)
  where
    away : (q : List ℕ) → is_folder (item_at tree q) ≡ true → bytes_eq q path ≡ false
    away q folder = false_from_ne_true _ (λ same. not_both (item_at tree path)
        (subst (λ p. is_folder (item_at tree p) ≡ true) (same_bytes q path same) folder) (file_fits _ file))

    stays : (q : List ℕ) → is_folder (item_at tree q) ≡ true → is_folder (item_at (remove tree path) q) ≡ true
    stays q folder = ap (λ found. is_folder (cond (is_root q) (Some Folder) found))
        (get-remove_bytes tree path q ∙ ap (λ v. cond v None (get tree q)) (away q folder)) ∙ folder

    by : (v : Bool) → bytes_eq q path ≡ v → is_some (cond v None (get tree q)) ≡ true → StandsRight (remove tree path) q
    by true e h = absurd (cc)
    by false e h = let old = is q h in (old.0, (old.1.0, stays (parent_of q) old.1.1))

tree_renamed : (old new : List ℕ) (tree : Tree) → is_path new ≡ true → can_rename tree old new ≡ true
    → AllStand tree → AllStand (renamed old new tree)
tree_renamed old new tree fits can is = by (get tree old)
  where
    tests : ((is_file (item_at tree old) && is_file_or_absent (item_at tree new)) ≡ true)
        × (is_folder (item_at tree (parent_of new)) ≡ true)
    tests = both_true (is_file (item_at tree old) && is_file_or_absent (item_at tree new))
        (is_folder (item_at tree (parent_of new))) can

    files : (is_file (item_at tree old) ≡ true) × (is_file_or_absent (item_at tree new) ≡ true)
    files = both_true (is_file (item_at tree old)) (is_file_or_absent (item_at tree new)) tests.0

    left : AllStand (remove tree old)
    left = tree_removed tree old files.0 is

    gone : (v w : Bool) (found : Option Item) → is_file_or_absent (cond w (Some Folder) found) ≡ true
        → is_file_or_absent (cond w (Some Folder) (cond v None found)) ≡ true
    gone true true found h = h
    gone true false found h = refl
    gone false w found h = h

    still : is_file_or_absent (item_at (remove tree old) new) ≡ true
    still = ap (λ found. is_file_or_absent (cond (is_root new) (Some Folder) found))
        (get-remove_bytes tree old new) ∙ gone (bytes_eq new old) (is_root new) (get tree new) files.1

    away : bytes_eq (parent_of new) old ≡ false
    away = false_from_ne_true (bytes_eq (parent_of new) old)
        (λ same. not_both (item_at tree old) (subst (λ p. is_folder (item_at tree p) ≡ true)
        (same_bytes (parent_of new) old same) tests.1) (file_fits (item_at tree old) files.0))

    folder : is_folder (item_at (remove tree old) (parent_of new)) ≡ true
    folder = ap (λ found. is_folder (cond (is_root (parent_of new)) (Some Folder) found))
        (get-remove_bytes tree old (parent_of new) ∙ ap (λ v. cond v None (get tree (parent_of new))) away)
        ∙ tests.1

    by : (found : Option Item) → AllStand (moved found new (remove tree old))
    by None = left
    by (Some item) = tree_insert (remove tree old) new item left fits (not_root tree new files.1) folder
        (clear_file (remove tree old) new item left still)

tree_without : (path : List ℕ) (tree : Tree) → AllStand tree → AllStand (without path tree)
tree_without path tree is q stands = by (is_within path q) refl (sym (ap is_some (get-without path tree q)) ∙ stands)
  where
    folder : is_within path q ≡ false → is_path q ≡ true → is_folder (item_at tree (parent_of q)) ≡ true
        → is_folder (item_at (without path tree) (parent_of q)) ≡ true
    folder far fits h = at (is_root (parent_of q)) refl h
      where
        near : is_root (parent_of q) ≡ false → is_within path (parent_of q) ≡ false
        near other = false_from_ne_true _ (λ within. let no : true
            ≡ false = sym (within_further path q fits other within) ∙ far in cc)

        at : (v : Bool) → is_root (parent_of q) ≡ v → is_folder (cond v (Some Folder) (get tree (parent_of q)))
            ≡ true → is_folder (cond v (Some Folder) (get (without path tree) (parent_of q))) ≡ true
        at true e g = refl
        at false e g = ap is_folder (get-without path tree (parent_of q)
            ∙ ap (λ v. cond (not v) (get tree (parent_of q)) None) (near e)) ∙ g

    by : (v : Bool) → is_within path q ≡ v → is_some (cond (not v) (get tree q) None) ≡ true
        → StandsRight (without path tree) q
    by true e h = absurd (cc)
    by false e h = let old = is q h in (old.0, (old.1.0, folder e old.0 old.1.1))

-- ---- folders with those above them

none_from : (front name : List ℕ) → has_slash name ≡ false → folders_from front name ≡ []
none_from front [] h = refl
none_from front (c ∷ cs) h = by (c == 47) (has_slash cs) (none_from (front ++ c ∷ []) cs) h
  where
    by : (v w : Bool) → (w ≡ false → folders_from (front ++ c ∷ []) cs ≡ []) → (v || w) ≡ false
        → cond (v && not (bytes_eq front [])) (front ∷ folders_from (front ++ c ∷ []) cs)
        (folders_from (front ++ c ∷ []) cs) ≡ []
    by true w later e = absurd (cc)
    by false w later e = later e

abbrev some_folder : List ℕ → List (List ℕ)
some_folder path = cond (bytes_eq path []) [] (path ∷ [])

folders_from-last : (front rest name : List ℕ) → has_slash name ≡ false
    → folders_from front (rest ++ 47 ∷ name) ≡ folders_from front rest ++ some_folder (front ++ rest)
folders_from-last front [] name h = by (bytes_eq front []) ∙ ap some_folder (sym (append-nil front))
  where
    by : (v : Bool) → cond (not v) (front ∷ folders_from (front ++ 47 ∷ []) name)
        (folders_from (front ++ 47 ∷ []) name) ≡ cond v [] (front ∷ [])
    by true = none_from (front ++ 47 ∷ []) name h
    by false = ap (λ r. front ∷ r) (none_from (front ++ 47 ∷ []) name h)
folders_from-last front (c ∷ cs) name h = by (c == 47 && not (bytes_eq front []))
    (folders_from-last (front ++ c ∷ []) cs name h ∙ ap (λ p. folders_from (front ++ c ∷ []) cs ++ some_folder p)
    (append_assoc front (c ∷ []) cs))
  where
    by : (v : Bool) → folders_from (front ++ c ∷ []) (cs ++ 47 ∷ name) ≡ folders_from (front ++ c ∷ []) cs
        ++ some_folder (front ++ c ∷ cs) → cond v (front ∷ folders_from (front ++ c ∷ []) (cs ++ 47 ∷ name))
        (folders_from (front ++ c ∷ []) (cs ++ 47 ∷ name)) ≡ cond v (front ∷ folders_from (front ++ c ∷ []) cs)
        (folders_from (front ++ c ∷ []) cs) ++ some_folder (front ++ c ∷ cs)
    by true e = ap (λ r. front ∷ r) e
    by false e = e

-- the folders above a path are its parent with those above that
above_parent : (path : List ℕ) (tree : Tree) → is_path path ≡ true
    → with_folders (folders_above path) tree ≡ folder_made (parent_of path) tree
above_parent path tree h = ap (λ ps. with_folders ps tree)
    (ap (folders_from []) cut.1.whole ∙ folders_from-last [] (front_of path) cut.0 cut.1.last)
    ∙ by (bytes_eq (front_of path) []) refl
  where
    cut : (name : List ℕ) × IsCut path (front_of path) name
    cut = cut_path path h

    by : (v : Bool) → bytes_eq (front_of path) [] ≡ v → with_folders
        (folders_from [] (front_of path) ++ cond v [] (front_of path ∷ [])) tree
        ≡ folder_made (cond v (47 ∷ []) (front_of path)) tree
    by true e = ap (λ f. with_folders (folders_from [] f ++ []) tree) (same_bytes (front_of path) [] e)
    by false e = refl

made_step : (path : List ℕ) (tree : Tree) → is_path path ≡ true → is_root path ≡ false
    → folder_made path tree ≡ insert (folder_made (parent_of path) tree) path Folder
made_step path tree h other = with_folders-append (folders_above path) (path ∷ []) tree
    ∙ ap (λ v. cond v (with_folders (folders_above path) tree)
    (insert (with_folders (folders_above path) tree) path Folder)) other
    ∙ ap (λ t. insert t path Folder) (above_parent path tree h)

tree_made_within : (n : ℕ) (path : List ℕ) (tree : Tree) → length path ≤ n → is_path path ≡ true → AllStand tree
    → AllStand (folder_made path tree)
tree_made_within zero [] tree less h is = absurd (cc)
tree_made_within zero (c ∷ cs) tree less h is = absurd (omega arith)
tree_made_within (suc n) path tree less h is = by (is_root path) refl
    (λ above. tree_made_within n (parent_of path) tree above (parent_is_path path h) is)
  where
    by : (v : Bool) → is_root path ≡ v → (length (parent_of path) ≤ n
        → AllStand (folder_made (parent_of path) tree)) → AllStand (folder_made path tree)
    by true e above = subst (λ p. AllStand (folder_made p tree)) (sym (same_bytes path (47 ∷ []) e)) is
    by false e above =
        let shorter : length (parent_of path) < length path = parent_shorter path h e in
        subst AllStand (sym (made_step path tree h e))
        (tree_insert (folder_made (parent_of path) tree) path Folder (above (omega arith)) h e
        (folder_stands (parent_of path) tree) (λ q stands at. refl))

tree_folder_made : (path : List ℕ) (tree : Tree) → is_path path ≡ true → AllStand tree
    → AllStand (folder_made path tree)
tree_folder_made path tree h is = tree_made_within (length path) path tree (omega arith) h is

-- ---- items placed

tree_over : (tree : Tree) (path : List ℕ) (item : Item) → AllStand tree → is_path path ≡ true
    → is_root path ≡ false → is_folder (item_at tree (parent_of path)) ≡ true
    → AllStand (insert (without path tree) path item)
tree_over tree path item is fits other folder = tree_insert (without path tree) path item
    (tree_without path tree is) fits other above clear
  where
    far : is_within path (parent_of path) ≡ false
    far = not_within_longer path (parent_of path) other (parent_shorter path fits other)

    above : is_folder (item_at (without path tree) (parent_of path)) ≡ true
    above = ap (λ found. is_folder (cond (is_root (parent_of path)) (Some Folder) found))
        (get-without path tree (parent_of path) ∙ ap (λ v. cond (not v) (get tree (parent_of path)) None) far)
        ∙ folder

    clear : IsClear (without path tree) path item
    clear q stands at =
        let here = tree_without path tree is q stands in
        let within : is_within path q ≡ true = subst (λ p. is_within p q ≡ true) at (within_parent q here.0) in
        absurd (nothing_stands (get (without path tree) q)
        (get-without path tree q ∙ ap (λ v. cond (not v) (get tree q) None) within) stands)

tree_laid : (item : Item) (path : List ℕ) (tree : Tree) → AllStand tree → is_path path ≡ true
    → is_root path ≡ false → is_folder (item_at tree (parent_of path)) ≡ true → AllStand (laid item path tree)
tree_laid Folder path tree is fits other folder = tree_insert tree path Folder is fits other folder
    (λ q stands at. refl)
tree_laid (File exec bytes) path tree is fits other folder = tree_over tree path (File exec bytes) is fits other folder
tree_laid (Link target) path tree is fits other folder = tree_over tree path (Link target) is fits other folder
tree_laid Odd path tree is fits other folder = tree_over tree path Odd is fits other folder

tree_placed : (p : Placed) (tree : Tree) → is_path p.path ≡ true → AllStand tree → AllStand (placed p tree)
tree_placed p tree fits is = by (is_root p.path) refl
  where
    made : AllStand (folder_made (parent_of p.path) tree)
    made = tree_folder_made (parent_of p.path) tree (parent_is_path p.path fits) is

    by : (v : Bool) → is_root p.path ≡ v → AllStand (cond v tree
        (laid p.item p.path (with_folders (folders_above p.path) tree)))
    by true e = is
    by false e = subst (λ t. AllStand (laid p.item p.path t)) (sym (above_parent p.path tree fits))
        (tree_laid p.item p.path (folder_made (parent_of p.path) tree) made fits e
        (folder_stands (parent_of p.path) tree))

all_without_stand : (paths : List (List ℕ)) (tree : Tree) → AllStand tree → AllStand (all_without paths tree)
all_without_stand [] tree is = is
all_without_stand (p ∷ ps) tree is = all_without_stand ps (without p tree) (tree_without p tree is)

-- ---- what calls make of a tree, and what refused calls leave

made_of : (step old : Tree) → step ≡ old → AllStand old → IsTree step
made_of step old e is = record { standing = subst AllStand (sym e) is }

pub nothing_stands_yet : (changes : List Change) → changes ≡ [] → IsTree (tree_of changes)
nothing_stands_yet changes none = made_of (tree_of changes) empty (ap tree_of none) tree_empty

pub placed_keeps : (p : Placed) (old new : Tree) → is_path p.path ≡ true → new ≡ placed p old → IsTree old → IsTree new
placed_keeps p old new fits e is = made_of new (placed p old) e (tree_placed p old fits is.standing)

all_placed_stand : (ps : List Placed) (tree : Tree) → HavePaths ps → AllStand tree → AllStand (all_placed ps tree)
all_placed_stand [] tree fits is = is
all_placed_stand (p ∷ ps) tree fits is = all_placed_stand ps (placed p tree) fits.1 (tree_placed p tree fits.0 is)

pub played_keeps : (old new : List Change) (run : ChildRun) → new ≡ old ++ Ran run ∷ [] → HavePaths run.leaves
    → IsTree (tree_of old) → IsTree (tree_of new)
played_keeps old new run e fits is =
    made_of (tree_of new) (all_placed run.leaves (all_without run.removes (tree_of old)))
    (tree_after_last new old (Ran run) e) (all_placed_stand run.leaves _ fits
    (all_without_stand run.removes (tree_of old) is.standing))

either : {T E : Type 0} (r : Result T E) (a b : List Change) (step : Tree) → OnOk r (tree_of b ≡ step)
    → OnErr r (b ≡ a) → IsTree (tree_of a) → AllStand step → IsTree (tree_of b)
either (Ok x) a b step ok err is steps = made_of (tree_of b) step ok steps
either (Err e) a b step ok err is steps = made_of (tree_of b) (tree_of a) (ap tree_of err) is.standing

pub created_keeps : {T E : Type 0} (r : Result T E) (path : List ℕ) (exec : Bool) (a b : List Change)
    → is_path path ≡ true → can_create (tree_of a) path ≡ true
    → OnOk r (tree_of b ≡ created path exec (tree_of a)) → OnErr r (b ≡ a) → IsTree (tree_of a)
    → IsTree (tree_of b)
created_keeps r path exec a b fits can ok err is = either r a b _ ok err is
    (tree_created path exec (tree_of a) fits can is.standing)

pub linked_keeps : {T E : Type 0} (r : Result T E) (path target : List ℕ) (a b : List Change)
    → is_path path ≡ true → can_make_link (tree_of a) path ≡ true
    → OnOk r (tree_of b ≡ linked path target (tree_of a)) → OnErr r (b ≡ a) → IsTree (tree_of a)
    → IsTree (tree_of b)
linked_keeps r path target a b fits can ok err is = either r a b _ ok err is
    (tree_linked path target (tree_of a) fits can is.standing)

pub appended_keeps : {T E : Type 0} (r : Result T E) (path bytes : List ℕ) (a b : List Change)
    → can_read (tree_of a) path ≡ true → OnOk r (tree_of b ≡ appended path bytes (tree_of a)) → OnErr r (b ≡ a)
    → IsTree (tree_of a) → IsTree (tree_of b)
appended_keeps r path bytes a b can ok err is = either r a b _ ok err is
    (tree_appended path bytes (tree_of a) can is.standing)

pub renamed_keeps : {T E : Type 0} (r : Result T E) (from to : List ℕ) (a b : List Change) → is_path to ≡ true
    → can_rename (tree_of a) from to ≡ true → OnOk r (tree_of b ≡ renamed from to (tree_of a)) → OnErr r (b ≡ a)
    → IsTree (tree_of a) → IsTree (tree_of b)
renamed_keeps r from to a b fits can ok err is = either r a b _ ok err is
    (tree_renamed from to (tree_of a) fits can is.standing)

pub without_keeps : {T E : Type 0} (r : Result T E) (path : List ℕ) (a b : List Change)
    → OnOk r (tree_of b ≡ without path (tree_of a)) → OnErr r (b ≡ a) → IsTree (tree_of a) → IsTree (tree_of b)
without_keeps r path a b ok err is = either r a b _ ok err is (tree_without path (tree_of a) is.standing)

pub folder_made_keeps : {T E : Type 0} (r : Result T E) (path : List ℕ) (a b : List Change) → is_path path ≡ true
    → OnOk r (tree_of b ≡ folder_made path (tree_of a)) → OnErr r (b ≡ a) → IsTree (tree_of a)
    → IsTree (tree_of b)
folder_made_keeps r path a b fits ok err is = either r a b _ ok err is
    (tree_folder_made path (tree_of a) fits is.standing)

pub ruleset keeps = (created_keeps, linked_keeps, appended_keeps, renamed_keeps, without_keeps, folder_made_keeps)
