-- Why laying makes calls of the right kind.
use Rattle.std.proofs.Common.{◌≡◌, ◌≤◌, ◌<◌, ◌+◌, ◌∙◌, refl, sym, ap, subst, arith, ℕ, Bool, true, false, not, cond}
use Rattle.std.proofs.Common.{◌||◌, ◌&&◌, ◌==◌, ◌⊎◌, inl, inr, ◌++◌, List, [], ◌∷◌, length, length-append, append_assoc}
use Rattle.std.proofs.Common.{nat_eq, Option, Some, None, is_some, Result}
use Rattle.std.specs.Prelude.{IfSome, IsTrue}
use Rattle.std.specs.List.{list_all, list_any, starts_with}
use Rattle.std.specs.Option.{option_map}
use Rattle.std.specs.Str.{bytes_eq}
use Rattle.std.specs.FinMap.{get}
use Rattle.std.proofs.lemmas.Bool.{and_parts, false_from_ne_true}
use Rattle.std.proofs.lemmas.List.Folds.{list_any-append}
use Rattle.std.proofs.lemmas.Slice.Eq.{bytes_eq-Decides}
use Rattle.cnb_world.specs.Calls.{CountsMisuse, MayMisuse}
use Rattle.cnb_world.specs.Path.{front_of, is_part, is_path, joined, parent_of}
use Rattle.cnb_world.specs.Tree.{Tree, IsTree, can_create, can_make_folder, can_make_link, can_read, folder_made}
use Rattle.cnb_world.specs.Tree.{folders_above, folders_from, is_file, is_file_or_absent, is_folder, is_root, is_under}
use Rattle.cnb_world.specs.Tree.{is_within, item_at, kind_of, without}
use Rattle.cnb_world.specs.declared.world.FileFault.{FileFault}
use Rattle.cnb_world.specs.declared.world.Item.{Item}
use Rattle.cnb_world.specs.declared.world.Item.TheVariants as item
use Rattle.cnb_world.specs.declared.world.Kind.{Kind}
use Rattle.cnb_world.specs.declared.world.Kind.TheVariants as kind
use Rattle.cnb_world.proofs.Folders.{folder_stands, get-with_folders, get-without, parent_shorter}
use Rattle.cnb_world.proofs.Parents.{has_slash}
use Rattle.cnb_world.proofs.Trees.{bytes_eq-other, bytes_eq-same, get-insert_bytes}
use Rattle.tree_canon.specs.Names.{is_name}
use Rattle.tree_canon.specs.declared.node.Node.{Node}
use Rattle.tree_store.specs.Around.{IsMadeAbove, KeptAround}
use Rattle.tree_store.specs.Laying.{file_set, folder_laid, folder_over}
use Rattle.tree_store.specs.Right.{AreFolders, way_into, way_to}
use Rattle.tree_store.specs.Overlay.{can_stand, parts_of}
use Rattle.tree_store.specs.Steps.{can_lay, can_place}
use Rattle.tree_store.proofs.Around.{never_falls}
use Rattle.tree_store.proofs.Blames.{within_itself}
use Rattle.tree_store.proofs.Overlays.{plain_placed}
use Rattle.tree_store.proofs.Places.{above_child, below_length, child_not_root, longer_child, name_form, part_form}

-- a call that the files allow is of the right kind
pub right : {T : Type 0} (allows : Tree → Bool) (o : Option Tree) (result : Result T FileFault) (before now : ℕ)
    → IfSome o (λ files. IsTrue (allows files)) → CountsMisuse (option_map allows o) result before now
    → now ≡ before
right allows None result before now can h = h
right allows (Some files) result before now can h = subst (λ v. CountsMisuse (Some v) result before now) can h

-- ---- folders that stay

shorter : (path other : List ℕ) → length other < length path → bytes_eq other path ≡ false
shorter path other h = bytes_eq-other other path
    (λ e. let same : length other ≡ length path = ap length e in absurd (omega arith))

away_shorter : (path other : List ℕ) → is_root path ≡ false → length other < length path → is_within path other ≡ false
away_shorter path other plain h =
    ap (λ v. v || is_under path other) plain
    ∙ ap (λ v. v || starts_with nat_eq other (path ++ 47 ∷ [])) (shorter path other h)
    ∙ false_from_ne_true _ (λ e. let long : length path + 1 ≤ length other = below_length other path e
    in absurd (omega arith))

above_shorter : (front rest other : List ℕ) → list_any (bytes_eq other) (folders_from front rest) ≡ true
    → length other < length front + length rest
above_shorter front [] other h = absurd (cc)
above_shorter front (c ∷ cs) other h = by (c == 47 && not (bytes_eq front [])) h
    (above_shorter (front ++ c ∷ []) cs other)
  where
    one : length (front ++ c ∷ []) ≡ length front + 1
    one = length-append front (c ∷ [])

    here : (v : Bool) → bytes_eq other front ≡ v → (v || list_any (bytes_eq other)
        (folders_from (front ++ c ∷ []) cs)) ≡ true → (list_any (bytes_eq other)
        (folders_from (front ++ c ∷ []) cs) ≡ true → length other < length (front ++ c ∷ []) + length cs)
        → length other < length front + length (c ∷ cs)
    here true e h later = let same : length other ≡ length front = ap length ((bytes_eq-Decides other front).0 e)
        in omega arith
    here false e h later = let less : length other < length (front ++ c ∷ []) + length cs = later h
        in let one : length (front ++ c ∷ []) ≡ length front + 1 = one in omega arith

    by : (v : Bool) → list_any (bytes_eq other) (cond v (front ∷ folders_from (front ++ c ∷ []) cs)
        (folders_from (front ++ c ∷ []) cs)) ≡ true → (list_any (bytes_eq other)
        (folders_from (front ++ c ∷ []) cs) ≡ true → length other < length (front ++ c ∷ []) + length cs)
        → length other < length front + length (c ∷ cs)
    by true h later = here (bytes_eq other front) refl h later
    by false h later = let less : length other < length (front ++ c ∷ []) + length cs = later h
        in let one : length (front ++ c ∷ []) ≡ length front + 1 = one in omega arith

-- one of the first path and the others
first_or : (first : List ℕ) (others : List (List ℕ)) (P : List ℕ → Type 0) (q : List ℕ)
    → list_any (bytes_eq q) (first ∷ others) ≡ true → P first → (list_any (bytes_eq q) others ≡ true → P q) → P q
first_or first others P q h one rest = by (bytes_eq q first) refl h
  where
    by : (v : Bool) → bytes_eq q first ≡ v → (v || list_any (bytes_eq q) others) ≡ true → P q
    by true e h = subst P (sym ((bytes_eq-Decides q first).0 e)) one
    by false e h = rest h

-- `/`, or away from a path
abbrev IsApart : List ℕ → List ℕ → Type 0
IsApart path other = (is_root other ≡ true) ⊎ (is_within path other ≡ false)

short_parent : (path : List ℕ) → length path ≤ 1 → is_root (parent_of path) ≡ true
short_parent [] h = refl
short_parent (c ∷ []) h = refl
short_parent (c ∷ d ∷ rest) h = absurd (omega arith)

parent_apart : (path : List ℕ) → is_root path ≡ false → IsApart path (parent_of path)
parent_apart [] plain = inl (short_parent [] (omega arith))
parent_apart (c ∷ []) plain = inl (short_parent (c ∷ []) (omega arith))
parent_apart (c ∷ d ∷ rest) plain = inr (away_shorter (c ∷ d ∷ rest) (parent_of (c ∷ d ∷ rest)) plain
    (parent_shorter (c ∷ d ∷ rest) (omega arith)))

way_apart : (path other : List ℕ) → is_root path ≡ false → list_any (bytes_eq other) (way_to path) ≡ true
    → IsApart path other
way_apart path other plain h = first_or (parent_of path) (folders_above path) (IsApart path) other h
    (parent_apart path plain) (λ above. inr (away_shorter path other plain
    (let less : length other < 0 + length path = above_shorter [] path other above in omega arith)))

root_folder : (files : Tree) (other : List ℕ) → is_root other ≡ true → is_folder (item_at files other) ≡ true
root_folder files other e = ap (λ v. is_folder (cond v (Some item.Folder) (get files other))) e

folders_kept : (path : List ℕ) (paths : List (List ℕ)) (o o1 : Option Tree)
    → ((other : List ℕ) → list_any (bytes_eq other) paths ≡ true → IsApart path other) → KeptAround path o o1
    → AreFolders paths o → AreFolders paths o1
unfolding KeptAround AreFolders
folders_kept path paths None None apart kept all = tt
folders_kept path paths None (Some b) apart kept all = absurd kept
folders_kept path paths (Some a) None apart kept all = absurd kept
folders_kept path paths (Some a) (Some b) apart kept all = λ other h. by other (apart other h) (all other h)
  where
    one : (other : List ℕ) → (item_at b other ≡ item_at a other) ⊎ IsMadeAbove path other a b
        → is_folder (item_at a other) ≡ true → is_folder (item_at b other) ≡ true
    one other (inl same) was = ap is_folder same ∙ was
    one other (inr made) was = ap is_folder made.after

    by : (other : List ℕ) → IsApart path other → is_folder (item_at a other) ≡ true → is_folder (item_at b other) ≡ true
    by other (inl root) was = root_folder b other root
    by other (inr away) was = one other (kept other away) was

pub way_kept : (path : List ℕ) (o o1 : Option Tree) → IfSome o (λ _. is_root path ≡ false) → KeptAround path o o1
    → AreFolders (way_to path) o → AreFolders (way_to path) o1
unfolding KeptAround AreFolders
way_kept path None None plain kept all = tt
way_kept path None (Some b) plain kept all = absurd kept
way_kept path (Some a) o1 plain kept all = folders_kept path (way_to path) (Some a) o1
    (λ other h. way_apart path other plain h) kept all

pub inside_kept : (path name : List ℕ) (o o1 : Option Tree) → 0 < length name → KeptAround (joined path name) o o1
    → AreFolders (way_into path) o → AreFolders (way_into path) o1
inside_kept path name o o1 some kept all = folders_kept (joined path name) (way_into path) o o1 apart kept all
  where
    longer : length path < length (joined path name)
    longer = longer_child path name some

    apart : (other : List ℕ) → list_any (bytes_eq other) (way_into path) ≡ true → IsApart (joined path name) other
    apart other h = first_or path (folders_above path) (IsApart (joined path name)) other h
        (inr (away_shorter (joined path name) path (child_not_root path name some) longer))
        (λ above. inr (away_shorter (joined path name) other (child_not_root path name some)
        (let less : length other < 0 + length path = above_shorter [] path other above
        in let long : length path < length (joined path name) = longer in omega arith)))

are_among : (paths others : List (List ℕ)) (o : Option Tree)
    → ((q : List ℕ) → list_any (bytes_eq q) others ≡ true → list_any (bytes_eq q) paths ≡ true)
    → AreFolders paths o → AreFolders others o
unfolding AreFolders
are_among paths others None all h = tt
are_among paths others (Some files) all h = λ q at. h q (all q at)

or_left : (a b : Bool) → a ≡ true → (a || b) ≡ true
or_left true b h = refl
or_left false b h = absurd (cc)

or_second : (a b : Bool) → b ≡ true → (a || b) ≡ true
or_second true b h = refl
or_second false b h = h

front_of-more : (bytes name : List ℕ) → has_slash name ≡ false → front_of (bytes ++ 47 ∷ name) ≡ bytes
front_of-more [] name h = ap (λ v. cond v (47 ∷ front_of name) []) h
front_of-more (c ∷ cs) name h = ap (λ v. cond v (c ∷ front_of (cs ++ 47 ∷ name)) [])
    (list_any-append (λ b. b == 47) cs (47 ∷ name) ∙ or_second (list_any (λ b. b == 47) cs) true refl)
    ∙ ap (λ r. c ∷ r) (front_of-more cs name h)

parent_joined : (path name : List ℕ) → IsTrue (is_path path) → has_slash name ≡ false
    → parent_of (joined path name) ≡ path
parent_joined [] name path_is plain = absurd (cc)
parent_joined (c ∷ cs) name path_is plain = by (bytes_eq (c ∷ cs) (47 ∷ [])) refl
  where
    by : (v : Bool) → bytes_eq (c ∷ cs) (47 ∷ []) ≡ v → parent_of
        ((cond v (c ∷ cs) ((c ∷ cs) ++ 47 ∷ [])) ++ name) ≡ c ∷ cs
    by true e = let same : c ∷ cs ≡ 47 ∷ [] = (bytes_eq-Decides (c ∷ cs) (47 ∷ [])).0 e
        in ap (λ f. parent_of (f ++ name)) same ∙ ap (λ front. cond (bytes_eq front []) (47 ∷ []) front)
        (front_of-more [] name plain) ∙ sym same
    by false e = ap parent_of (append_assoc (c ∷ cs) (47 ∷ []) name)
        ∙ ap (λ front. cond (bytes_eq front []) (47 ∷ []) front) (front_of-more (c ∷ cs) name plain)

-- in a folder with those above it, a name has its way
child_way : (path name : List ℕ) (o : Option Tree) → IsTrue (is_path path) → has_slash name ≡ false
    → AreFolders (way_into path) o → AreFolders (way_to (joined path name)) o
child_way path name o path_is plain all = are_among (way_into path) (way_to (joined path name)) o among all
  where
    at_path : list_any (bytes_eq (parent_of (joined path name))) (way_into path) ≡ true
    at_path = ap (λ q. list_any (bytes_eq q) (way_into path)) (parent_joined path name path_is plain)
        ∙ or_left (bytes_eq path path) _ (bytes_eq-same path)

    above : (q : List ℕ) (v w : Bool) → bytes_eq q path ≡ v → list_any (bytes_eq q) (folders_above path) ≡ w
        → list_any (bytes_eq q) (folders_above (joined path name)) ≡ true → (v || w) ≡ true
    above q true w e f h = refl
    above q false true e f h = refl
    above q false false e f h = let no : true ≡ false = sym h ∙ above_child path name q plain e f in absurd (cc)

    among : (q : List ℕ) → list_any (bytes_eq q) (way_to (joined path name)) ≡ true
        → list_any (bytes_eq q) (way_into path) ≡ true
    among q h = first_or (parent_of (joined path name)) (folders_above (joined path name))
        (λ q. list_any (bytes_eq q) (way_into path) ≡ true) q h at_path
        (above q (bytes_eq q path) (list_any (bytes_eq q) (folders_above path)) refl refl)

pub name_way : (path name at : List ℕ) (o : Option Tree) → at ≡ joined path name → IsTrue (is_path path)
    → is_name name ≡ true → AreFolders (way_into path) o → AreFolders (way_to at) o
name_way path name at o is path_is name_is all = subst (λ p. AreFolders (way_to p) o) (sym is)
    (child_way path name o path_is (name_form name name_is).1 all)

pub part_way : (path name at : List ℕ) (o : Option Tree) → at ≡ joined path name → IsTrue (is_path path)
    → IsTrue (is_part name) → AreFolders (way_into path) o → AreFolders (way_to at) o
part_way path name at o is path_is part all = subst (λ p. AreFolders (way_to p) o) (sym is)
    (child_way path name o path_is (part_form name part).1 all)

-- ---- calls after others

first_folder : (first : List ℕ) (others : List (List ℕ)) (files : Tree) → AreFolders (first ∷ others) (Some files)
    → is_folder (item_at files first) ≡ true
unfolding AreFolders
first_folder first others files all = all first (or_left (bytes_eq first first) _ (bytes_eq-same first))

other_folders : (first : List ℕ) (others : List (List ℕ)) (o : Option Tree) → AreFolders (first ∷ others) o
    → AreFolders others o
other_folders first others o all = are_among (first ∷ others) others o (λ q h. or_second (bytes_eq q first) _ h) all

none_cleared : (path : List ℕ) (files : Tree) → is_root path ≡ false → item_at (without path files) path ≡ None
none_cleared path files plain =
    ap (λ v. cond v (Some item.Folder) (get (without path files) path)) plain
    ∙ get-without path files path ∙ ap (λ v. cond (not v) (get files path) None) (within_itself path)

pub can_create_cleared : (path : List ℕ) (o o1 : Option Tree) → o1 ≡ option_map (without path) o
    → IfSome o (λ _. is_root path ≡ false) → AreFolders (way_to path) o1
    → IfSome o1 (λ files. IsTrue (can_create files path))
can_create_cleared path None o1 is plain all = subst (λ x. IfSome x (λ files. IsTrue (can_create files path)))
    (sym is) tt
can_create_cleared path (Some files) o1 is plain all = subst
    (λ x. IfSome x (λ files. IsTrue (can_create files path))) (sym is)
    (ap (λ found. is_file_or_absent found && is_folder (item_at (without path files) (parent_of path)))
    (none_cleared path files plain)
    ∙ first_folder (parent_of path) (folders_above path) (without path files) (subst (AreFolders (way_to path)) is all))

pub can_link_cleared : (path : List ℕ) (o o1 : Option Tree) → o1 ≡ option_map (without path) o
    → IfSome o (λ _. is_root path ≡ false) → AreFolders (way_to path) o1
    → IfSome o1 (λ files. IsTrue (can_make_link files path))
can_link_cleared path None o1 is plain all = subst (λ x. IfSome x (λ files. IsTrue (can_make_link files path)))
    (sym is) tt
can_link_cleared path (Some files) o1 is plain all = subst
    (λ x. IfSome x (λ files. IsTrue (can_make_link files path))) (sym is)
    (ap (λ found. not (is_some found) && is_folder (item_at (without path files) (parent_of path)))
    (none_cleared path files plain)
    ∙ first_folder (parent_of path) (folders_above path) (without path files) (subst (AreFolders (way_to path)) is all))

all_of : (P : List ℕ → Bool) (ps : List (List ℕ)) → ((q : List ℕ) → list_any (bytes_eq q) ps ≡ true → P q ≡ true)
    → list_all P ps ≡ true
all_of P [] h = refl
all_of P (p ∷ ps) h =
    ap (λ v. v && list_all P ps) (h p (or_left (bytes_eq p p) _ (bytes_eq-same p)))
    ∙ all_of P ps (λ q at. h q (or_second (bytes_eq q p) _ at))

-- a folder may be made where nothing or a folder stands, in folders
can_make : (path : List ℕ) (files : Tree) → (is_folder (item_at files path) || not (is_some (item_at files path)))
    ≡ true → AreFolders (folders_above path) (Some files) → can_make_folder files path ≡ true
unfolding AreFolders
can_make path files here all = all_of (λ p. is_folder (item_at files p) || not (is_some (item_at files p)))
    (folders_above path ++ path ∷ []) one
  where
    by : (q : List ℕ) (v : Bool) → list_any (bytes_eq q) (folders_above path) ≡ v
        → (v || (bytes_eq q path || false)) ≡ true → (is_folder (item_at files q)
        || not (is_some (item_at files q))) ≡ true
    by q true e h = or_left (is_folder (item_at files q)) _ (all q e)
    by q false e h = last (bytes_eq q path) refl h
      where
        last : (w : Bool) → bytes_eq q path ≡ w → (w || false) ≡ true
            → (is_folder (item_at files q) || not (is_some (item_at files q))) ≡ true
        last true f h = ap (λ p. is_folder (item_at files p) || not (is_some (item_at files p)))
            ((bytes_eq-Decides q path).0 f) ∙ here
        last false f h = absurd (cc)

    one : (q : List ℕ) → list_any (bytes_eq q) (folders_above path ++ path ∷ []) ≡ true
        → (is_folder (item_at files q) || not (is_some (item_at files q))) ≡ true
    one q h = by q (list_any (bytes_eq q) (folders_above path)) refl
        (sym (list_any-append (bytes_eq q) (folders_above path) (path ∷ [])) ∙ h)

pub can_make_cleared : (path : List ℕ) (o o1 : Option Tree) → o1 ≡ option_map (without path) o
    → IfSome o (λ _. is_root path ≡ false) → AreFolders (way_to path) o1
    → IfSome o1 (λ files. IsTrue (can_make_folder files path))
can_make_cleared path None o1 is plain all = subst (λ x. IfSome x (λ files. IsTrue (can_make_folder files path)))
    (sym is) tt
can_make_cleared path (Some files) o1 is plain all = subst
    (λ x. IfSome x (λ files. IsTrue (can_make_folder files path))) (sym is)
    (can_make path (without path files) (ap (λ found. is_folder found || not (is_some found))
    (none_cleared path files plain)) (other_folders (parent_of path) (folders_above path)
    (Some (without path files)) (subst (AreFolders (way_to path)) is all)))

pub can_make_absent : (path : List ℕ) (o : Option Tree) (k : Kind) → k ≡ kind.Absent
    → IfSome o (λ files. k ≡ kind_of (item_at files path)) → AreFolders (way_to path) o
    → IfSome o (λ files. IsTrue (can_make_folder files path))
can_make_absent path None k e told all = tt
can_make_absent path (Some files) k e told all = can_make path files (by (item_at files path) (sym e ∙ told))
    (other_folders (parent_of path) (folders_above path) (Some files) all)
  where
    by : (found : Option Item) → kind.Absent ≡ kind_of found → (is_folder found || not (is_some found)) ≡ true
    by None h = refl
    by (Some item.Folder) h = refl
    by (Some (item.File exec bytes)) h = absurd (cc)
    by (Some (item.Link target)) h = absurd (cc)
    by (Some item.Odd) h = absurd (cc)

-- what is neither nothing nor a folder isn't at `/`
pub kind_not_root : (path : List ℕ) (o : Option Tree) (k : Kind) → (k ≡ kind.Folder → ⊥)
    → IfSome o (λ files. k ≡ kind_of (item_at files path)) → IfSome o (λ _. is_root path ≡ false)
kind_not_root path None k other told = tt
kind_not_root path (Some files) k other told = by (is_root path) told
  where
    by : (v : Bool) → k ≡ kind_of (cond v (Some item.Folder) (get files path)) → v ≡ false
    by false h = refl
    by true h = absurd (other h)

pub link_not_root : (path : List ℕ) (o : Option Tree) (k : Kind) → k ≡ kind.Link
    → IfSome o (λ files. k ≡ kind_of (item_at files path)) → IfSome o (λ _. is_root path ≡ false)
link_not_root path o k is told = kind_not_root path o k (λ e. let no : kind.Link ≡ kind.Folder = sym is ∙ e in cc) told

-- a file that was created takes bytes
pub can_append : (path : List ℕ) (exec : Bool) (bytes : List ℕ) (o o1 : Option Tree)
    → o1 ≡ option_map (file_set path exec bytes) o → IfSome o (λ files. IsTrue (can_create files path))
    → IfSome o1 (λ files. IsTrue (can_read files path))
can_append path exec bytes None o1 is can = subst (λ x. IfSome x (λ files. IsTrue (can_read files path))) (sym is) tt
can_append path exec bytes (Some files) o1 is can = subst (λ x. IfSome x (λ files. IsTrue (can_read files path)))
    (sym is) (by (is_root path) (and_parts (is_file_or_absent (item_at files path)) _ can).0)
  where
    stands : get (file_set path exec bytes files) path ≡ Some (item.File exec bytes)
    stands = get-insert_bytes files path (item.File exec bytes) path
        ∙ ap (λ v. cond v (Some (item.File exec bytes)) (get files path)) (bytes_eq-same path)

    by : (v : Bool) → is_file_or_absent (cond v (Some item.Folder) (get files path)) ≡ true
        → is_file (cond v (Some item.Folder) (get (file_set path exec bytes files) path)) ≡ true
    by true h = absurd (cc)
    by false h = ap is_file stands

-- ---- folders that were laid

over_stands : (path : List ℕ) (files : Tree) → is_folder (item_at (folder_laid path files) path) ≡ true
unfolding folder_laid
over_stands path files = by (item_at files path) refl
  where
    by : (found : Option Item) → item_at files path ≡ found
        → is_folder (item_at (folder_over found path files) path) ≡ true
    by None e = folder_stands path files
    by (Some item.Folder) e = ap is_folder e
    by (Some (item.File exec bytes)) e = folder_stands path (without path files)
    by (Some (item.Link target)) e = folder_stands path (without path files)
    by (Some item.Odd) e = folder_stands path (without path files)

put_first : (first : List ℕ) (others : List (List ℕ)) (files : Tree) → is_folder (item_at files first) ≡ true
    → AreFolders others (Some files) → AreFolders (first ∷ others) (Some files)
unfolding AreFolders
put_first first others files one all = λ q h. first_or first others
    (λ p. is_folder (item_at files p) ≡ true) q h one (all q)

none_above_root : (o : Option Tree) → AreFolders (folders_above (47 ∷ [])) o
unfolding AreFolders
none_above_root None = tt
none_above_root (Some files) = λ q h. absurd (cc)

-- those above a path stay, whether it is `/` or not
above_kept : (path : List ℕ) (o o1 : Option Tree) → KeptAround path o o1 → AreFolders (folders_above path) o
    → AreFolders (folders_above path) o1
above_kept path o o1 kept all = by (is_root path) refl
  where
    by : (v : Bool) → is_root path ≡ v → AreFolders (folders_above path) o1
    by false e = folders_kept path (folders_above path) o o1
        (λ other h. inr (away_shorter path other e (let less : length other
        < 0 + length path = above_shorter [] path other h in omega arith))) kept all
    by true e = subst (λ p. AreFolders (folders_above p) o1) (sym ((bytes_eq-Decides path (47 ∷ [])).0 e))
        (none_above_root o1)

pub inside_laid : (path : List ℕ) (o o1 : Option Tree) → o1 ≡ option_map (folder_laid path) o
    → KeptAround path o o1 → AreFolders (way_to path) o → AreFolders (way_into path) o1
unfolding AreFolders
inside_laid path None o1 is kept all = subst (AreFolders (way_into path)) (sym is) tt
inside_laid path (Some files) o1 is kept all = subst (AreFolders (way_into path)) (sym is)
    (put_first path (folders_above path) (folder_laid path files) (over_stands path files)
    (subst (AreFolders (folders_above path)) is (above_kept path (Some files) o1 kept
    (other_folders (parent_of path) (folders_above path) (Some files) all))))

-- a folder that was made, with those above it
pub way_made : (path : List ℕ) (o o1 : Option Tree) → o1 ≡ option_map (folder_made path) o → IfSome o1 IsTree
    → AreFolders (way_to path) o1
unfolding AreFolders
way_made path None o1 is standing = subst (AreFolders (way_to path)) (sym is) tt
way_made path (Some files) o1 is standing = subst (AreFolders (way_to path)) (sym is)
    (put_first (parent_of path) (folders_above path) (folder_made path files) (parent (is_root path) refl) above)
  where
    now : Tree
    now = folder_made path files

    tree : IsTree now
    tree = subst (λ x. IfSome x IsTree) is standing

    at : (q : List ℕ) → get now q ≡ cond (list_any (bytes_eq q) (folders_above path ++ path ∷ [])
        && not (is_root q)) (Some item.Folder) (get files q)
    at q = get-with_folders (folders_above path ++ path ∷ []) files q

    above : AreFolders (folders_above path) (Some now)
    above = λ q h. by q (is_root q) refl (list_any-append (bytes_eq q) (folders_above path) (path ∷ []) ∙ or_left _ _ h)
      where
        by : (q : List ℕ) (r : Bool) → is_root q ≡ r → list_any (bytes_eq q) (folders_above path ++ path ∷ [])
            ≡ true → is_folder (item_at now q) ≡ true
        by q true e h = root_folder now q e
        by q false e h = ap (λ v. is_folder (cond v (Some item.Folder) (get now q))) e
            ∙ ap is_folder (at q ∙ ap (λ v. cond (v && not (is_root q)) (Some item.Folder) (get files q)) h
            ∙ ap (λ v. cond (true && not v) (Some item.Folder) (get files q)) e)

    stands : is_root path ≡ false → get now path ≡ Some item.Folder
    stands e = at path ∙ ap (λ v. cond (v && not (is_root path)) (Some item.Folder) (get files path))
        (list_any-append (bytes_eq path) (folders_above path) (path ∷ [])
        ∙ or_second (list_any (bytes_eq path) (folders_above path)) _
        (or_left (bytes_eq path path) false (bytes_eq-same path)))
        ∙ ap (λ v. cond (true && not v) (Some item.Folder) (get files path)) e

    parent : (r : Bool) → is_root path ≡ r → is_folder (item_at now (parent_of path)) ≡ true
    parent false e = (tree.standing path (ap is_some (stands e))).1.1
    parent true e = root_folder now (parent_of path)
        (ap (λ p. is_root (parent_of p)) ((bytes_eq-Decides path (47 ∷ [])).0 e))

-- ---- what is laid

none_told : (o : Option Tree) (P : Type 0) → P → IfSome o (λ _. P)
none_told None P h = tt
none_told (Some files) P h = h

pub name_placed : (path name at : List ℕ) (o : Option Tree) (node : Node) → at ≡ joined path name
    → is_name name ≡ true → IfSome o (λ _. can_stand node at ≡ true)
name_placed path name at o node is name_is = none_told o _
    (ap (can_stand node) is ∙ plain_placed node (joined path name)
    (child_not_root path name (name_form name name_is).0))

pub part_placed : (path name at : List ℕ) (o : Option Tree) (node : Node) → at ≡ joined path name
    → IsTrue (is_part name) → IfSome o (λ _. can_stand node at ≡ true)
part_placed path name at o node is part = none_told o _
    (ap (can_stand node) is ∙ plain_placed node (joined path name)
    (child_not_root path name (part_form name part).0))

-- where a tree may be laid at its root, its node may stand there
pub root_placed : (o o1 : Option Tree) (root place : List ℕ) (node : Node) → o1 ≡ option_map (folder_made root) o
    → parts_of place ≡ [] → IfSome o (λ files. can_lay root place node files ≡ true)
    → IfSome o1 (λ _. can_stand node root ≡ true)
root_placed None o1 root place node is none can = subst (λ x. IfSome x (λ _. can_stand node root ≡ true)) (sym is) tt
root_placed (Some files) o1 root place node is none can = subst (λ x. IfSome x (λ _. can_stand node root ≡ true))
    (sym is)
    (sym (ap (λ parts. can_place node parts root) none)
    ∙ (and_parts (can_make_folder files root) (can_place node (parts_of place) root) can).1)

allowed : (v w : Bool) → (w ≡ true → v ≡ true) → (result : Result (Unit {0}) FileFault) (a b : ℕ)
    → CountsMisuse (Some v) result a b → MayMisuse (Some w) a b
allowed true true h result a b counts = counts
allowed true false h result a b counts = omega (arith, counts)
allowed false true h result a b counts = absurd (let no : false ≡ true = h refl in cc)
allowed false false h result a b counts = never_falls (Some false) result a b counts

-- the folder that is made first
pub made_right : (o : Option Tree) (root place : List ℕ) (node : Node) (result : Result (Unit {0}) FileFault)
    (a b : ℕ) → CountsMisuse (option_map (λ files. can_make_folder files root) o) result a b
    → MayMisuse (option_map (can_lay root place node) o) a b
made_right None root place node result a b counts = counts
made_right (Some files) root place node result a b counts = allowed (can_make_folder files root)
    (can_lay root place node files) (λ can. (and_parts (can_make_folder files root)
    (can_place node (parts_of place) root) can).0) result a b counts

after_right : (w : Bool) (a b c : ℕ) → MayMisuse (Some w) a b → b ≤ c → (w ≡ true → c ≡ b) → MayMisuse (Some w) a c
after_right true a b c before later same = same refl ∙ before
after_right false a b c before later same = omega (arith, before, later)

-- and all behind it
pub laid_right : (o : Option Tree) (root place : List ℕ) (node : Node) (result : Result (Unit {0}) FileFault)
    (a b c : ℕ) → CountsMisuse (option_map (λ files. can_make_folder files root) o) result a b
    → b ≤ c → (IfSome o (λ files. can_lay root place node files ≡ true) → c ≡ b)
    → MayMisuse (option_map (can_lay root place node) o) a c
laid_right None root place node result a b c counts later same = same tt ∙ counts
laid_right (Some files) root place node result a b c counts later same = after_right
    (can_lay root place node files) a b c (made_right (Some files) root place node result a b counts) later same
