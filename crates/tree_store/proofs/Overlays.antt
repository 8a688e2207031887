-- Laying a node one item after another lays its items over the files.
use Rattle.std.proofs.Common.{◌≡◌, ◌≢◌, ℕ, suc, ◌+◌, ◌^◌, ◌≤◌, ◌<◌, Bool, true, false, cond, not, List, [], ◌∷◌, ◌++◌}
use Rattle.std.proofs.Common.{◌&&◌, ◌||◌, refl, sym, ap, subst, ◌∙◌, arith, Option, Some, None, Result, Ok, Err, length}
use Rattle.std.proofs.Common.{nat_eq, map}
use Rattle.std.specs.Prelude.{nat_le, nat_lt, IsTrue, IfSome, OnOk}
use Rattle.std.specs.Option.{option_or, option_map}
use Rattle.std.specs.List.{list_all, list_any, starts_with, AllByRecursion}
use Rattle.std.specs.Str.{bytes_eq}
use Rattle.std.specs.Ordering.{nat_cmp, is_lt}
use Rattle.std.specs.declared.cmp.Ordering.{Ordering}
use Rattle.std.specs.declared.cmp.Ordering.TheVariants.{Less, Equal, Greater}
use Rattle.std.specs.Cmp.Lexicographic.{slice_cmp}
use Rattle.std.specs.FinMap.{get, insert, retain_keys, get-retain_keys, slice_cmp-IsAntisymmetric}
use Rattle.std.specs.FinMap.{nat_cmp-IsAntisymmetric}
use Rattle.std.proofs.lemmas.Cmp.{nat_list_cmp_total, tied_itself}
use Rattle.std.proofs.lemmas.Slice.Eq.{bytes_eq-Decides}
use Rattle.std.proofs.lemmas.List.Folds.{list_any-append}
use Rattle.std.proofs.lemmas.Bool.{and_parts, false_from_ne_true}
use Rattle.cnb_world.specs.Path.{is_part, joined}
use Rattle.cnb_world.specs.Tree.{Tree, IsTree, item_at, is_folder, is_root, folders_above, folder_made, without}
use Rattle.cnb_world.specs.declared.world.Item.{Item}
use Rattle.cnb_world.specs.declared.world.Item.TheVariants as item
use Rattle.cnb_world.proofs.Trees.{get-insert_bytes, same_tree}
use Rattle.cnb_world.proofs.Folders.{get-with_folders, get-without}
use Rattle.cnb_world.proofs.Parents.{has_slash}
use Rattle.tree_canon.specs.declared.node.Node.{Node}
use Rattle.tree_canon.specs.declared.node.Named.{Named}
use Rattle.tree_canon.specs.declared.node.Node.TheVariants.{Folder, File, Link, rolls-Folder, rolls-File, rolls-Link}
use Rattle.tree_canon.specs.declared.node.Node.TheOpen as layer
use Rattle.tree_canon.specs.declared.node.Node.TheViews.{roll-Node, roll-Named}
use Rattle.tree_canon.specs.declared.node.Node.TheFolds.{map-Node, ind-Node, fold-roll-Node, fold_out-Named}
use Rattle.tree_canon.specs.Fits.{fits, entries_fit}
use Rattle.tree_canon.specs.Names.{is_name, is_below, follows}
use Rattle.tree_canon.proofs.Equations.{fits_folder}
use Rattle.tree_canon.proofs.Nodes.{fits_cons}
use Rattle.tree_store.specs.Laying.{node_laid, entry_laid, entries_laid, folder_laid, folder_over, laid_under}
use Rattle.tree_store.specs.Laying.{tree_steps}
use Rattle.tree_store.specs.Overlay.{Given, Giving, folder_at, all_given, give_step, give_entry_step, items_of}
use Rattle.tree_store.specs.Overlay.{items_of_entry, items_under, given_at, is_replaced, stands, with_items, lay}
use Rattle.tree_store.specs.Overlay.{parts_of, tree_laid, IsPlaced, IsOverlay, can_stand, folder_step as is_folder_step}
use Rattle.tree_store.specs.Overlay.{is_folder_node}
use Rattle.tree_store.proofs.Laid.{laid_folder, laid_file, laid_link, laid_entry}
use Rattle.tree_store.proofs.Standing.{is_other, IsStanding, tree_stands}
use Rattle.tree_store.proofs.Ways.{all_parts}
use Rattle.tree_store.proofs.Places.{is_at_or_below, or_parts, above_child, below_child, child_not_root, not_below}
use Rattle.tree_store.proofs.Places.{below_below, longer_child, shorter_away, below_length, made_length, name_form}
use Rattle.tree_store.proofs.Places.{name_in, named, part_form}

-- ---- the items of a node

abbrev pub items_in : List Named → List ℕ → List Given
items_in es path = all_given (map items_of_entry es) path

pub items_folder : (es : List Named) (path : List ℕ) → items_of (Folder es) path ≡ folder_at path ++ items_in es path
items_folder es path = ap (λ (f : Giving). f path)
    (ap items_of (sym (rolls-Folder es)) ∙ fold-roll-Node Giving Giving give_step give_entry_step
    (layer.Folder es))

pub items_file : (exec : Bool) (bytes path : List ℕ) → items_of (File exec bytes) path
    ≡ (path, item.File exec bytes) ∷ []
items_file exec bytes path = ap (λ (f : Giving). f path)
    (ap items_of (sym (rolls-File exec bytes)) ∙ fold-roll-Node Giving Giving give_step give_entry_step
    (layer.File exec bytes))

pub items_link : (target path : List ℕ) → items_of (Link target) path ≡ (path, item.Link target) ∷ []
items_link target path = ap (λ (f : Giving). f path)
    (ap items_of (sym (rolls-Link target)) ∙ fold-roll-Node Giving Giving give_step give_entry_step
    (layer.Link target))

pub items_entry : (e : Named) (path : List ℕ) → items_of_entry e path ≡ items_of e.node (joined path e.name)
items_entry e path = ap (λ (f : Giving). f path) (fold_out-Named Giving Giving give_step give_entry_step e)

-- ---- items behind items

-- what stands at a path after items are laid
abbrev pub laid_at : List Given → List ℕ → Option Item → Option Item
laid_at given q old = stands (given_at given q) (is_replaced given q) old

-- items that say nothing of a path
pub record IsAway (given : List Given) (q : List ℕ) : Type 0 where
  pub none : given_at given q ≡ None
  pub stays : is_replaced given q ≡ false

pub given-append : (xs ys : List Given) (q : List ℕ) → given_at (xs ++ ys) q ≡ option_or (given_at xs q) (given_at ys q)
given-append [] ys q = refl
given-append (x ∷ xs) ys q = ap (λ o. cond (bytes_eq q x.0) (Some x.1) o) (given-append xs ys q) ∙ by (bytes_eq q x.0)
  where
    by : (v : Bool) → cond v (Some x.1) (option_or (given_at xs q) (given_at ys q))
        ≡ option_or (cond v (Some x.1) (given_at xs q)) (given_at ys q)
    by true = refl
    by false = refl

replaced-append : (xs ys : List Given) (q : List ℕ) → is_replaced (xs ++ ys) q ≡ (is_replaced xs q || is_replaced ys q)
replaced-append xs ys q = list_any-append (λ g. not (is_folder (Some g.1))
    && starts_with nat_eq q (g.0 ++ 47 ∷ [])) xs ys

away_none : (q : List ℕ) → IsAway [] q
away_none q = record { none = refl; stays = refl }

away_append : (xs ys : List Given) (q : List ℕ) → IsAway xs q → IsAway ys q → IsAway (xs ++ ys) q
away_append xs ys q x y = record {
  none = given-append xs ys q ∙ ap (λ o. option_or o (given_at ys q)) x.none ∙ y.none;
  stays = replaced-append xs ys q ∙ ap (λ v. v || is_replaced ys q) x.stays ∙ y.stays;
}

nothing_laid : (given : List Given) (q : List ℕ) (old : Option Item) → IsAway given q → laid_at given q old ≡ old
nothing_laid given q old a = ap (λ o. stands o (is_replaced given q) old) a.none ∙ ap (λ v. stands None v old) a.stays

or_none : (o : Option Item) → option_or o None ≡ o
or_none None = refl
or_none (Some x) = refl

or_false : (v : Bool) → (v || false) ≡ v
or_false true = refl
or_false false = refl

-- the later items say nothing of the path
laid_first : (xs ys : List Given) (q : List ℕ) (old : Option Item) → IsAway ys q
    → laid_at xs q old ≡ laid_at (xs ++ ys) q old
laid_first xs ys q old a = sym (
    ap (λ o. stands o (is_replaced (xs ++ ys) q) old)
    (given-append xs ys q ∙ ap (option_or (given_at xs q)) a.none ∙ or_none (given_at xs q))
    ∙ ap (λ v. stands (given_at xs q) v old) (replaced-append xs ys q ∙ ap (λ v. is_replaced xs q || v) a.stays
    ∙ or_false (is_replaced xs q)))

-- the earlier items say nothing of the path
laid_later : (xs ys : List Given) (q : List ℕ) (old : Option Item) → IsAway xs q
    → laid_at ys q old ≡ laid_at (xs ++ ys) q old
laid_later xs ys q old a = sym (
    ap (λ o. stands o (is_replaced (xs ++ ys) q) old)
    (given-append xs ys q ∙ ap (λ o. option_or o (given_at ys q)) a.none)
    ∙ ap (λ v. stands (given_at ys q) v old) (replaced-append xs ys q ∙ ap (λ v. v || is_replaced ys q) a.stays))

-- ---- a node says nothing of what is neither at its path nor below it

and_false : (v : Bool) → (v && false) ≡ false
and_false true = refl
and_false false = refl

item_away : (path q : List ℕ) (x : Item) → is_at_or_below path q ≡ false → IsAway ((path, x) ∷ []) q
item_away path q x h = record {
  none = ap (λ v. cond v (Some x) None) (or_parts (bytes_eq q path) (starts_with nat_eq q (joined path [])) h).0;
  stays = ap (λ v. (not (is_folder (Some x)) && v) || false) (not_below path q h)
      ∙ ap (λ v. v || false) (and_false (not (is_folder (Some x))));
}

folder_away : (path q : List ℕ) → is_at_or_below path q ≡ false → IsAway (folder_at path) q
folder_away path q h = by (is_root path)
  where
    by : (v : Bool) → IsAway (cond v [] ((path, item.Folder) ∷ [])) q
    by true = away_none q
    by false = item_away path q item.Folder h

abbrev StaysAway : Node → Type 0
StaysAway node = (path q : List ℕ) → is_at_or_below path q ≡ false → IsAway (items_of node path) q

abbrev Away : Type 0
Away = (e : Named) × StaysAway e.node

abbrev bare_away : List Away → List Named
bare_away es = map (λ e. e.0) es

entries_stay_away : (es : List Away) (path q : List ℕ) → is_at_or_below path q ≡ false
    → IsAway (items_in (bare_away es) path) q
entries_stay_away [] path q h = away_none q
entries_stay_away (e ∷ es) path q h = away_append (items_of_entry e.0 path) (items_in (bare_away es) path) q
    (subst (λ g. IsAway g q) (sym (items_entry e.0 path))
    (e.1 (joined path e.0.name) q (below_child path e.0.name q h)))
    (entries_stay_away es path q h)

away_layer : (x : layer.Node-F Node Named) (y : layer.Node-F ((n : Node) × StaysAway n) Away)
    → map-Node ((n : Node) × StaysAway n) Away Node Named (λ e. e.0) (λ e. e.0) y ≡ x → StaysAway (roll-Node x)
away_layer x (layer.Folder es) is = subst (λ z. StaysAway (roll-Node z)) is
    (subst StaysAway (sym (rolls-Folder (bare_away es))) (λ path q h.
    subst (λ g. IsAway g q) (sym (items_folder (bare_away es) path))
    (away_append (folder_at path) (items_in (bare_away es) path) q (folder_away path q h)
    (entries_stay_away es path q h))))
away_layer x (layer.File exec bytes) is = subst (λ z. StaysAway (roll-Node z)) is
    (subst StaysAway (sym (rolls-File exec bytes)) (λ path q h.
    subst (λ g. IsAway g q) (sym (items_file exec bytes path)) (item_away path q (item.File exec bytes) h)))
away_layer x (layer.Link target) is = subst (λ z. StaysAway (roll-Node z)) is
    (subst StaysAway (sym (rolls-Link target)) (λ path q h.
    subst (λ g. IsAway g q) (sym (items_link target path)) (item_away path q (item.Link target) h)))

pub node_away : (node : Node) → StaysAway node
node_away = ind-Node StaysAway (λ e. StaysAway e.node) away_layer
    (λ x y is. subst (λ (z : layer.Named-F Node Named). StaysAway (roll-Named z).node) is y.node.1)

-- ---- names

less_is : (o : Ordering) → is_lt o ≡ true → o ≡ Less
less_is Less h = refl
less_is Equal h = absurd (cc)
less_is Greater h = absurd (cc)

below_trans : (a b c : List ℕ) → is_below a b ≡ true → is_below b c ≡ true → is_below a c ≡ true
below_trans a b c x y = ap is_lt (nat_list_cmp_total.trans a b c (less_is (slice_cmp nat_cmp a b) x)
    (less_is (slice_cmp nat_cmp b c) y))

below_apart : (a b : List ℕ) → is_below a b ≡ true → a ≢ b
below_apart a b h e = let no : true ≡ false = sym h ∙ ap (λ x. is_below a x) (sym e)
    ∙ ap is_lt (tied_itself nat_list_cmp_total a) in cc

-- The entries behind a name say nothing of what is below it.
entries_away : (es : List Named) (last : List ℕ) (depth : ℕ) (path q : List ℕ)
    → ((m : List ℕ) → is_below last m ≡ true → name_in path q ≢ m) → entries_fit (Some last) es depth ≡ true
    → IsAway (items_in es path) q
entries_away [] last depth path q apart fit = away_none q
entries_away (e ∷ es) last depth path q apart fit =
    let p = fits_cons (Some last) e es depth fit in
    let n = and_parts (is_name e.name) (is_below last e.name) p.0 in
    let form = name_form e.name n.0 in
    away_append (items_of_entry e path) (items_in es path) q
    (subst (λ g. IsAway g q) (sym (items_entry e path))
    (node_away e.node (joined path e.name) q (false_from_ne_true _
    (λ h. apart e.name n.1 (named path e.name q form.0 form.1 h)))))
    (entries_away es e.name depth path q (λ m b. apart m (below_trans last e.name m n.1 b)) p.2)

-- ---- where a node can be laid

-- below anything at a path or below it but folders nothing stands
abbrev pub IsClean : List ℕ → Tree → Type 0
IsClean path files = (r q : List ℕ) → is_at_or_below path r ≡ true → is_other (get files r) ≡ true
    → starts_with nat_eq q (r ++ 47 ∷ []) ≡ true → get files q ≡ None

-- folders above a path
pub record IsReady (path : List ℕ) (files : Tree) : Type 0 where
  pub above : (f : List ℕ) → list_any (bytes_eq f) (folders_above path) ≡ true → is_folder (item_at files f) ≡ true
  pub clean : IsClean path files

-- the same at what is at a path or below it
abbrev IsSame : List ℕ → Tree → Tree → Type 0
IsSame path files now = (q : List ℕ) → is_at_or_below path q ≡ true → get now q ≡ get files q

clean_same : (path : List ℕ) (files now : Tree) → IsSame path files now → IsClean path files → IsClean path now
clean_same path files now same clean r q at other below = same q (below_below path r q at below)
    ∙ clean r q at (sym (ap is_other (same r at)) ∙ other) below

clean_child : (path n : List ℕ) (files : Tree) → IsClean path files → IsClean (joined path n) files
clean_child path n files clean r q at other below = clean r q (by (is_at_or_below path r) refl) other below
  where
    by : (v : Bool) → is_at_or_below path r ≡ v → v ≡ true
    by true e = refl
    by false e = let no : true ≡ false = sym at ∙ below_child path n r e in cc

-- ---- a folder

folder_is : (o : Option Item) → is_folder o ≡ true → o ≡ Some item.Folder
folder_is None h = absurd (cc)
folder_is (Some item.Folder) h = refl
folder_is (Some (item.File exec bytes)) h = absurd (cc)
folder_is (Some (item.Link target)) h = absurd (cc)
folder_is (Some item.Odd) h = absurd (cc)

by_tests : (above same root : Bool) (old : Option Item) → (root ≡ true → same ≡ false)
    → (above ≡ true → root ≡ false → old ≡ Some item.Folder)
    → cond ((above || (same || false)) && not root) (Some item.Folder) old ≡ cond same (Some item.Folder) old
by_tests above true true old r a = absurd (let no : true ≡ false = r refl in cc)
by_tests true true false old r a = refl
by_tests false true false old r a = refl
by_tests true false true old r a = refl
by_tests false false true old r a = refl
by_tests true false false old r a = sym (a refl refl)
by_tests false false false old r a = refl

by_tests_below : (above same below root : Bool) (old : Option Item) → (root ≡ true → same ≡ false)
    → (above ≡ true → root ≡ false → old ≡ Some item.Folder) → (below ≡ true → old ≡ None)
    → cond ((above || (same || false)) && not root) (Some item.Folder) (cond (not (same || below)) old None)
    ≡ cond same (Some item.Folder) old
by_tests_below above true below true old r a b = absurd (let no : true ≡ false = r refl in cc)
by_tests_below true true below false old r a b = refl
by_tests_below false true below false old r a b = refl
by_tests_below above false true root old r a b = ap (cond ((above || false) && not root) (Some item.Folder))
    (sym (b refl)) ∙ by_tests above false root old r a
by_tests_below above false false root old r a b = by_tests above false root old r a

folder_given : (path q : List ℕ) (old : Option Item) → is_root path ≡ false
    → cond (bytes_eq q path) (Some item.Folder) old ≡ laid_at (folder_at path) q old
folder_given path q old h = by (bytes_eq q path) ∙ ap (λ v. laid_at (cond v [] ((path, item.Folder) ∷ [])) q old)
    (sym h)
  where
    by : (v : Bool) → cond v (Some item.Folder) old ≡ stands (cond v (Some item.Folder) None) false old
    by true = refl
    by false = refl

folder_step : (path : List ℕ) (files : Tree) → IsReady path files → (q : List ℕ)
    → get (folder_laid path files) q ≡ laid_at (folder_at path) q (get files q)
unfolding folder_laid
folder_step path files ready q = by (item_at files path) refl
  where
    root_folder : (v : Bool) → is_root path ≡ v → is_folder (item_at files path) ≡ false → v ≡ false
    root_folder true e h = let no : true ≡ false = sym (ap
        (λ w. is_folder (cond w (Some item.Folder) (get files path))) e) ∙ h in cc
    root_folder false e h = refl

    not_root : (found : Option Item) → item_at files path ≡ found → is_folder found ≡ false → is_root path ≡ false
    not_root found e h = root_folder (is_root path) refl (ap is_folder e ∙ h)

    root : is_root path ≡ false → is_root q ≡ true → bytes_eq q path ≡ false
    root plain e = false_from_ne_true (bytes_eq q path)
        (λ s. let no : true ≡ false = sym e ∙ ap is_root ((bytes_eq-Decides q path).0 s) ∙ plain in cc)

    above : list_any (bytes_eq q) (folders_above path) ≡ true → is_root q ≡ false → get files q ≡ Some item.Folder
    above e plain = ap (λ v. cond v (Some item.Folder) (get files q)) (sym plain)
        ∙ folder_is (item_at files q) (ready.above q e)

    split : list_any (bytes_eq q) (folders_above path ++ path ∷ [])
        ≡ (list_any (bytes_eq q) (folders_above path) || (bytes_eq q path || false))
    split = list_any-append (bytes_eq q) (folders_above path) (path ∷ [])

    at_path : (found : Option Item) → item_at files path ≡ found → is_other found ≡ true → get files path ≡ found
    at_path found e other = inner (is_root path) refl
      where
        inner : (v : Bool) → is_root path ≡ v → get files path ≡ found
        inner true r = let f : Some item.Folder ≡ found = ap (λ v. cond v (Some item.Folder) (get files path))
            (sym r) ∙ e in let no : true ≡ false = sym other ∙ ap is_other (sym f) in absurd (cc)
        inner false r = ap (λ v. cond v (Some item.Folder) (get files path)) (sym r) ∙ e

    over_other : (found : Option Item) → item_at files path ≡ found → is_other found ≡ true
        → is_folder found ≡ false → get (folder_made path (without path files)) q
        ≡ laid_at (folder_at path) q (get files q)
    over_other found e other plain =
        get-with_folders (folders_above path ++ path ∷ []) (without path files) q
        ∙ ap (λ v. cond (v && not (is_root q)) (Some item.Folder) (get (without path files) q)) split
        ∙ ap (cond ((list_any (bytes_eq q) (folders_above path) || (bytes_eq q path || false)) && not (is_root q))
        (Some item.Folder)) (get-without path files q
        ∙ ap (λ v. cond (not (v || (bytes_eq q path || starts_with nat_eq q (path ++ 47 ∷ []))))
        (get files q) None) (not_root found e plain))
        ∙ by_tests_below (list_any (bytes_eq q) (folders_above path)) (bytes_eq q path)
        (starts_with nat_eq q (path ++ 47 ∷ [])) (is_root q) (get files q)
        (root (not_root found e plain)) above
        (λ below. ready.clean path q (at_itself path) (ap is_other (at_path found e other) ∙ other) below)
        ∙ folder_given path q (get files q) (not_root found e plain)
      where
        at_itself : (p : List ℕ) → is_at_or_below p p ≡ true
        at_itself p = ap (λ v. v || starts_with nat_eq p (joined p [])) ((bytes_eq-Decides p p).1 refl)

    kept : item_at files path ≡ Some item.Folder → get files q ≡ laid_at (folder_at path) q (get files q)
    kept e = inner (is_root path) refl
      where
        inner : (v : Bool) → is_root path ≡ v → get files q ≡ laid_at (folder_at path) q (get files q)
        inner true r = ap (λ v. laid_at (cond v [] ((path, item.Folder) ∷ [])) q (get files q)) (sym r)
        inner false r = same (bytes_eq q path) refl ∙ folder_given path q (get files q) r
          where
            same : (v : Bool) → bytes_eq q path ≡ v → get files q ≡ cond v (Some item.Folder) (get files q)
            same true s = ap (get files) ((bytes_eq-Decides q path).0 s)
                ∙ ap (λ v. cond v (Some item.Folder) (get files path)) (sym r) ∙ e
            same false s = refl

    by : (found : Option Item) → item_at files path ≡ found
        → get (folder_over found path files) q ≡ laid_at (folder_at path) q (get files q)
    by (Some item.Folder) e = kept e
    by None e =
        get-with_folders (folders_above path ++ path ∷ []) files q
        ∙ ap (λ v. cond (v && not (is_root q)) (Some item.Folder) (get files q)) split
        ∙ by_tests (list_any (bytes_eq q) (folders_above path)) (bytes_eq q path) (is_root q) (get files q)
        (root (not_root None e refl)) above
        ∙ folder_given path q (get files q) (not_root None e refl)
    by (Some (item.File exec bytes)) e = over_other (Some (item.File exec bytes)) e refl refl
    by (Some (item.Link target)) e = over_other (Some (item.Link target)) e refl refl
    by (Some item.Odd) e = over_other (Some item.Odd) e refl refl

-- ---- entries

or_true : (a b : Bool) → (a || (b || false)) ≡ true → (a ≡ true → b ≡ true) → b ≡ true
or_true true b h f = f refl
or_true false true h f = refl
or_true false false h f = absurd (cc)

-- A folder stands at a path, with folders above it.
pub record IsInside (path : List ℕ) (files : Tree) : Type 0 where
  pub folders : (f : List ℕ) → list_any (bytes_eq f) (folders_above path ++ path ∷ []) ≡ true
      → is_folder (item_at files f) ≡ true

-- the paths above a name in a folder are the folder and those above it
among : (path n f : List ℕ) → has_slash n ≡ false → list_any (bytes_eq f) (folders_above (joined path n)) ≡ true
    → list_any (bytes_eq f) (folders_above path ++ path ∷ []) ≡ true
among path n f plain h = list_any-append (bytes_eq f) (folders_above path) (path ∷ [])
    ∙ by (list_any (bytes_eq f) (folders_above path)) refl (bytes_eq f path) refl
  where
    by : (a : Bool) → list_any (bytes_eq f) (folders_above path) ≡ a → (s : Bool) → bytes_eq f path ≡ s
        → (a || (s || false)) ≡ true
    by true e s i = refl
    by false e true i = refl
    by false e false i = absurd (let no : true ≡ false = sym h ∙ above_child path n f plain i e in cc)

above_inside : (path n : List ℕ) (files : Tree) → has_slash n ≡ false → IsInside path files → (f : List ℕ)
    → list_any (bytes_eq f) (folders_above (joined path n)) ≡ true → is_folder (item_at files f) ≡ true
above_inside path n files plain inside f h = inside.folders f (among path n f plain h)

-- what is at a folder's path or above it is neither at a name in it nor below that
pub above_away : (path n f : List ℕ) → 0 < length n → list_any (bytes_eq f) (folders_above path ++ path ∷ [])
    ≡ true → is_at_or_below (joined path n) f ≡ false
above_away path n f some h = shorter_away (joined path n) f
    (let le : length f ≤ length path = made_length path f h
    in let more : length path < length (joined path n) = longer_child path n some in omega arith)

-- the names behind this one are those of what can still be laid
abbrev IsCleanBehind : Option (List ℕ) → List ℕ → Tree → Type 0
IsCleanBehind last path files = (n : List ℕ) → 0 < length n → has_slash n ≡ false → follows last n ≡ true
    → IsClean (joined path n) files

abbrev LaysItems : Node → Type 0
LaysItems node = (depth : ℕ) (path : List ℕ) (files : Tree) → fits node depth ≡ true → can_stand node path ≡ true
    → IsReady path files → (q : List ℕ) → get (node_laid node path files) q
    ≡ laid_at (items_of node path) q (get files q)

abbrev Laid : Type 0
Laid = (e : Named) × LaysItems e.node

file_plain : (exec : Bool) (bytes : List ℕ) → is_folder_node (File exec bytes) ≡ false
file_plain exec bytes = ap is_folder_node (sym (rolls-File exec bytes))
    ∙ fold-roll-Node Bool Bool is_folder_step (λ e. e.node) (layer.File exec bytes)

link_plain : (target : List ℕ) → is_folder_node (Link target) ≡ false
link_plain target = ap is_folder_node (sym (rolls-Link target))
    ∙ fold-roll-Node Bool Bool is_folder_step (λ e. e.node) (layer.Link target)

folder_is_one : (es : List Named) → is_folder_node (Folder es) ≡ true
folder_is_one es = ap is_folder_node (sym (rolls-Folder es))
    ∙ fold-roll-Node Bool Bool is_folder_step (λ e. e.node) (layer.Folder es)

-- a folder stands anywhere, and anything but at `/`
pub folder_placed : (node : Node) (es : List Named) (path : List ℕ) → node ≡ Folder es → can_stand node path ≡ true
folder_placed node es path is = ap (λ n. can_stand n path) is
    ∙ by (not (is_root path)) (is_folder_node (Folder es)) (folder_is_one es)
  where
    by : (v w : Bool) → w ≡ true → (v || w) ≡ true
    by true w h = refl
    by false w h = h

pub plain_placed : (node : Node) (path : List ℕ) → is_root path ≡ false → can_stand node path ≡ true
plain_placed node path h = ap (λ v. not v || is_folder_node node) h

stands_below : (node : Node) (path n : List ℕ) → 0 < length n → can_stand node (joined path n) ≡ true
stands_below node path n some = plain_placed node (joined path n) (child_not_root path n some)

plain_root : (path : List ℕ) (folder : Bool) → folder ≡ false → (not (is_root path) || folder) ≡ true
    → is_root path ≡ false
plain_root path folder is h = by (is_root path) folder is h
  where
    by : (v w : Bool) → w ≡ false → (not v || w) ≡ true → v ≡ false
    by false w e h = refl
    by true true e h = absurd (cc)
    by true false e h = absurd (cc)

abbrev bare : List Laid → List Named
bare es = map (λ e. e.0) es

item_same : (files now : Tree) (f : List ℕ) → get now f ≡ get files f → item_at now f ≡ item_at files f
item_same files now f e = ap (cond (is_root f) (Some item.Folder)) e

one_laid : (e : Laid) (depth : ℕ) (path : List ℕ) (files : Tree) → is_name e.0.name ≡ true
    → fits e.0.node depth ≡ true → IsInside path files → IsClean (joined path e.0.name) files → (q : List ℕ)
    → get (entry_laid e.0 path files) q ≡ laid_at (items_of_entry e.0 path) q (get files q)
one_laid e depth path files name fit inside clean q =
    ap (λ t. get t q) (laid_entry e.0 path files)
    ∙ e.1 depth (joined path e.0.name) files fit (stands_below e.0.node path e.0.name (name_form e.0.name name).0)
    (record { above = above_inside path e.0.name files (name_form e.0.name name).1 inside; clean = clean }) q
    ∙ ap (λ g. laid_at g q (get files q)) (sym (items_entry e.0 path))

entry_is_away : (e : Named) (path q : List ℕ) → is_at_or_below (joined path e.name) q ≡ false
    → IsAway (items_of_entry e path) q
entry_is_away e path q h = subst (λ g. IsAway g q) (sym (items_entry e path))
    (node_away e.node (joined path e.name) q h)

entries_lay : (es : List Laid) (last : Option (List ℕ)) (depth : ℕ) (path : List ℕ) (files : Tree)
    → entries_fit last (bare es) depth ≡ true → IsInside path files → IsCleanBehind last path files → (q : List ℕ)
    → get (entries_laid (bare es) path files) q ≡ laid_at (items_in (bare es) path) q (get files q)
entries_lay [] last depth path files fit inside clean q = refl
entries_lay (e ∷ es) last depth path files fit inside clean q = by
    (entries_lay es (Some e.0.name) depth path now p.2 inside_now clean_now q)
    (is_at_or_below (joined path e.0.name) q) refl
  where
    p : (_ : (is_name e.0.name && follows last e.0.name) ≡ true) × (fits e.0.node depth ≡ true)
        × (entries_fit (Some e.0.name) (bare es) depth ≡ true)
    p = let all = fits_cons last e.0 (bare es) depth fit in (all.0, all.1, all.2)

    name : (is_name e.0.name ≡ true) × (follows last e.0.name ≡ true)
    name = and_parts (is_name e.0.name) (follows last e.0.name) p.0

    form : (0 < length e.0.name) × (has_slash e.0.name ≡ false)
    form = name_form e.0.name name.0

    now : Tree
    now = entry_laid e.0 path files

    one : (r : List ℕ) → get now r ≡ laid_at (items_of_entry e.0 path) r (get files r)
    one r = one_laid e depth path files name.0 p.1 inside (clean e.0.name form.0 form.1 name.1) r

    other : (r : List ℕ) → is_at_or_below (joined path e.0.name) r ≡ false → get now r ≡ get files r
    other r h = one r ∙ nothing_laid (items_of_entry e.0 path) r (get files r) (entry_is_away e.0 path r h)

    inside_now : IsInside path now
    inside_now = record {
      folders = λ f h. ap is_folder
          (item_same files now f (other f (above_away path e.0.name f form.0 h))) ∙ inside.folders f h;
    }

    follows_on : (l : Option (List ℕ)) (n : List ℕ) → follows l e.0.name ≡ true → is_below e.0.name n ≡ true
        → follows l n ≡ true
    follows_on None n a b = refl
    follows_on (Some l) n a b = below_trans l e.0.name n a b

    clean_now : IsCleanBehind (Some e.0.name) path now
    clean_now n some plain behind = clean_same (joined path n) files now
        (λ r at. other r (false_from_ne_true _ (λ h. below_apart e.0.name n behind
        (sym (named path e.0.name r form.0 form.1 h) ∙ named path n r some plain at))))
        (clean n some plain (follows_on last n name.1 behind))

    by : get (entries_laid (bare es) path now) q ≡ laid_at (items_in (bare es) path) q (get now q) → (v : Bool)
        → is_at_or_below (joined path e.0.name) q ≡ v → get (entries_laid (bare es) path now) q
        ≡ laid_at (items_of_entry e.0 path ++ items_in (bare es) path) q (get files q)
    by rest true at = rest ∙ nothing_laid (items_in (bare es) path) q (get now q) behind ∙ one q
        ∙ laid_first (items_of_entry e.0 path) (items_in (bare es) path) q (get files q) behind
      where
        behind : IsAway (items_in (bare es) path) q
        behind = entries_away (bare es) e.0.name depth path q
            (λ m b same. below_apart e.0.name m b (sym (named path e.0.name q form.0 form.1 at) ∙ same)) p.2
    by rest false at = rest ∙ ap (laid_at (items_in (bare es) path) q) (other q at)
        ∙ laid_later (items_of_entry e.0 path) (items_in (bare es) path) q (get files q)
        (entry_is_away e.0 path q at)

-- ---- nodes

folder_elsewhere : (path q : List ℕ) (old : Option Item) → bytes_eq q path ≡ false → IsAway (folder_at path) q
folder_elsewhere path q old h = by (is_root path)
  where
    by : (v : Bool) → IsAway (cond v [] ((path, item.Folder) ∷ [])) q
    by true = away_none q
    by false = record { none = ap (λ v. cond v (Some item.Folder) None) h; stays = refl }

folder_kept : (path q : List ℕ) (files : Tree) → IsReady path files → bytes_eq q path ≡ false
    → get (folder_laid path files) q ≡ get files q
folder_kept path q files ready h = folder_step path files ready q
    ∙ nothing_laid (folder_at path) q (get files q) (folder_elsewhere path q (get files q) h)

folder_stands : (path : List ℕ) (files : Tree) → IsReady path files → (v : Bool) → is_root path ≡ v
    → is_folder (item_at (folder_laid path files) path) ≡ true
folder_stands path files ready true r = ap (λ v. is_folder
    (cond v (Some item.Folder) (get (folder_laid path files) path))) r
folder_stands path files ready false r =
    ap (λ v. is_folder (cond v (Some item.Folder) (get (folder_laid path files) path))) r
    ∙ ap is_folder (folder_step path files ready path ∙ sym (folder_given path path (get files path) r)
    ∙ ap (λ v. cond v (Some item.Folder) (get files path)) ((bytes_eq-Decides path path).1 refl))

folder_inside : (path : List ℕ) (files : Tree) → IsReady path files → IsInside path (folder_laid path files)
folder_inside path files ready = record {
  folders = λ f h. by f (bytes_eq f path) refl
      (sym (list_any-append (bytes_eq f) (folders_above path) (path ∷ [])) ∙ h);
}
  where
    by : (f : List ℕ) (s : Bool) → bytes_eq f path ≡ s
        → (list_any (bytes_eq f) (folders_above path) || (bytes_eq f path || false)) ≡ true
        → is_folder (item_at (folder_laid path files) f) ≡ true
    by f true i h = ap (λ x. is_folder (item_at (folder_laid path files) x)) ((bytes_eq-Decides f path).0 i)
        ∙ folder_stands path files ready (is_root path) refl
    by f false i h = ap is_folder (item_same files (folder_laid path files) f (folder_kept path f files ready i))
        ∙ ready.above f (only (list_any (bytes_eq f) (folders_above path))
        (ap (λ v. list_any (bytes_eq f) (folders_above path) || (v || false)) (sym i) ∙ h))
      where
        only : (a : Bool) → (a || (false || false)) ≡ true → a ≡ true
        only true h = refl
        only false h = absurd (cc)

not_at_child : (path n q : List ℕ) → 0 < length n → is_at_or_below (joined path n) q ≡ true → bytes_eq q path ≡ false
not_at_child path n q some at = false_from_ne_true (bytes_eq q path) (λ h.
    let no : true ≡ false = sym at ∙ ap (is_at_or_below (joined path n)) ((bytes_eq-Decides q path).0 h)
    ∙ shorter_away (joined path n) path (longer_child path n some) in cc)

folder_same : (path n : List ℕ) (files : Tree) → 0 < length n → IsReady path files
    → IsSame (joined path n) files (folder_laid path files)
folder_same path n files some ready q at = folder_kept path q files ready (not_at_child path n q some at)

folder_clean : (path n : List ℕ) (files : Tree) → 0 < length n → IsReady path files
    → IsClean (joined path n) (folder_laid path files)
folder_clean path n files some ready = clean_same (joined path n) files (folder_laid path files)
    (folder_same path n files some ready) (clean_child path n files ready.clean)

-- entries say nothing of their folder's path
entries_below : (es : List Named) (last : Option (List ℕ)) (depth : ℕ) (path : List ℕ)
    → entries_fit last es depth ≡ true → IsAway (items_in es path) path
entries_below [] last depth path fit = away_none path
entries_below (e ∷ es) last depth path fit =
    let p = fits_cons last e es depth fit in
    let form = name_form e.name (and_parts (is_name e.name) (follows last e.name) p.0).0 in
    away_append (items_of_entry e path) (items_in es path) path
    (entry_is_away e path path (shorter_away (joined path e.name) path (longer_child path e.name form.0)))
    (entries_below es (Some e.name) depth path p.2)

-- a folder, and then what says nothing of its path
behind_folder : (path q : List ℕ) (rest : List Given) (old : Option Item) → IsAway rest path
    → laid_at rest q (laid_at (folder_at path) q old) ≡ laid_at (folder_at path ++ rest) q old
behind_folder path q rest old away = by (bytes_eq q path) refl
  where
    by : (v : Bool) → bytes_eq q path ≡ v → laid_at rest q (laid_at (folder_at path) q old)
        ≡ laid_at (folder_at path ++ rest) q old
    by true h = nothing_laid rest q (laid_at (folder_at path) q old) here ∙ laid_first (folder_at path) rest q old here
      where
        here : IsAway rest q
        here = subst (IsAway rest) (sym ((bytes_eq-Decides q path).0 h)) away
    by false h = ap (laid_at rest q) (nothing_laid (folder_at path) q old (folder_elsewhere path q old h))
        ∙ laid_later (folder_at path) rest q old (folder_elsewhere path q old h)

folder_lays : (es : List Laid) → LaysItems (Folder (bare es))
folder_lays es depth path files fit placed ready q =
    ap (λ t. get t q) (laid_folder (bare es) path files)
    ∙ entries_lay es None (suc depth) path (folder_laid path files) entries (folder_inside path files ready)
    (λ n some plain after. folder_clean path n files some ready) q
    ∙ ap (laid_at (items_in (bare es) path) q) (folder_step path files ready q)
    ∙ behind_folder path q (items_in (bare es) path) (get files q)
    (entries_below (bare es) None (suc depth) path entries)
    ∙ ap (λ g. laid_at g q (get files q)) (sym (items_folder (bare es) path))
  where
    entries : entries_fit None (bare es) (suc depth) ≡ true
    entries = (and_parts (nat_lt (length (bare es)) (2 ^ 32)) (entries_fit None (bare es) (suc depth))
        (and_parts (nat_le depth 64) _ (sym (fits_folder (bare es) depth) ∙ fit)).1).1

-- a file or a link in place of what stands at a path and below it
item_laid : (path q : List ℕ) (files : Tree) (x : Item) → is_folder (Some x) ≡ false → is_root path ≡ false
    → get (insert (without path files) path x) q ≡ laid_at ((path, x) ∷ []) q (get files q)
item_laid path q files x plain placed =
    get-insert_bytes (without path files) path x q
    ∙ ap (cond (bytes_eq q path) (Some x)) (get-without path files q
    ∙ ap (λ v. cond (not (v || (bytes_eq q path || starts_with nat_eq q (path ++ 47 ∷ []))))
    (get files q) None) placed)
    ∙ by (bytes_eq q path) (starts_with nat_eq q (path ++ 47 ∷ []))
    ∙ ap (λ v. stands (cond (bytes_eq q path) (Some x) None)
    ((not v && starts_with nat_eq q (path ++ 47 ∷ [])) || false) (get files q)) (sym plain)
  where
    by : (same below : Bool) → cond same (Some x) (cond (not (same || below)) (get files q) None)
        ≡ stands (cond same (Some x) None) ((true && below) || false) (get files q)
    by true below = refl
    by false true = refl
    by false false = refl

lays_layer : (x : layer.Node-F Node Named) (y : layer.Node-F ((n : Node) × LaysItems n) Laid)
    → map-Node ((n : Node) × LaysItems n) Laid Node Named (λ e. e.0) (λ e. e.0) y ≡ x → LaysItems (roll-Node x)
lays_layer x (layer.Folder es) is = subst (λ z. LaysItems (roll-Node z)) is
    (subst LaysItems (sym (rolls-Folder (bare es))) (folder_lays es))
lays_layer x (layer.File exec bytes) is = subst (λ z. LaysItems (roll-Node z)) is
    (subst LaysItems (sym (rolls-File exec bytes)) (λ depth path files fit placed ready q.
    ap (λ t. get t q) (laid_file exec bytes path files) ∙ item_laid path q files (item.File exec bytes) refl
    (plain_root path (is_folder_node (File exec bytes)) (file_plain exec bytes) placed)
    ∙ ap (λ g. laid_at g q (get files q)) (sym (items_file exec bytes path))))
lays_layer x (layer.Link target) is = subst (λ z. LaysItems (roll-Node z)) is
    (subst LaysItems (sym (rolls-Link target)) (λ depth path files fit placed ready q.
    ap (λ t. get t q) (laid_link target path files) ∙ item_laid path q files (item.Link target) refl
    (plain_root path (is_folder_node (Link target)) (link_plain target) placed)
    ∙ ap (λ g. laid_at g q (get files q)) (sym (items_link target path))))

pub node_lays : (node : Node) → LaysItems node
node_lays = ind-Node LaysItems (λ e. LaysItems e.node) lays_layer
    (λ x y is. subst (λ (z : layer.Named-F Node Named). LaysItems (roll-Named z).node) is y.node.1)

-- ---- the way to a place

-- parts that are names of entries
abbrev pub AreParts : List (List ℕ) → Type 0
AreParts parts = AllByRecursion (λ part. IsTrue (is_part part)) parts

under_away : (parts : List (List ℕ)) (node : Node) (path q : List ℕ) → is_at_or_below path q ≡ false
    → IsAway (items_under node parts path) q
under_away [] node path q h = node_away node path q h
under_away (part ∷ parts) node path q h = away_append (folder_at path)
    (items_under node parts (joined path part)) q (folder_away path q h)
    (under_away parts node (joined path part) q (below_child path part q h))

never_root : (node : Node) (parts : List (List ℕ)) (path part : List ℕ) → 0 < length part
    → IsPlaced node parts (joined path part)
never_root node [] path part some = stands_below node path part some
never_root node (p ∷ ps) path part some = tt

pub under_lays : (parts : List (List ℕ)) (node : Node) (path : List ℕ) (files : Tree) → AreParts parts
    → fits node 0 ≡ true → IsPlaced node parts path → IsReady path files → (q : List ℕ)
    → get (laid_under node parts path files) q ≡ laid_at (items_under node parts path) q (get files q)
under_lays [] node path files are fit placed ready q = node_lays node 0 path files fit placed ready q
under_lays (part ∷ parts) node path files are fit placed ready q =
    under_lays parts node (joined path part) (folder_laid path files) are.1 fit
    (never_root node parts path part form.0) (record {
      above = above_inside path part (folder_laid path files) form.1
          (folder_inside path files ready);
      clean = folder_clean path part files form.0 ready;
    }) q
    ∙ ap (laid_at (items_under node parts (joined path part)) q) (folder_step path files ready q)
    ∙ behind_folder path q (items_under node parts (joined path part)) (get files q)
    (under_away parts node (joined path part) path
    (shorter_away (joined path part) path (longer_child path part form.0)))
  where
    form : (0 < length part) × (has_slash part ≡ false)
    form = part_form part are.0

-- ---- the overlay

get-with_items : (given : List Given) (files : Tree) (q : List ℕ)
    → get (with_items given files) q ≡ option_or (given_at given q) (get files q)
get-with_items [] files q = refl
get-with_items (g ∷ gs) files q = get-insert_bytes (with_items gs files) g.0 g.1 q
    ∙ ap (cond (bytes_eq q g.0) (Some g.1)) (get-with_items gs files q) ∙ by (bytes_eq q g.0)
  where
    by : (v : Bool) → cond v (Some g.1) (option_or (given_at gs q) (get files q))
        ≡ option_or (cond v (Some g.1) (given_at gs q)) (get files q)
    by true = refl
    by false = refl

-- what stands at a path after items are laid: what is given there, else the old item unless it is replaced
pub get-lay : (given : List Given) (files : Tree) (q : List ℕ)
    → get (lay given files) q ≡ stands (given_at given q) (is_replaced given q) (get files q)
get-lay given files q =
    get-with_items given (retain_keys files (λ r. not (is_replaced given r))) q
    ∙ ap (option_or (given_at given q)) (get-retain_keys files (λ r. not (is_replaced given r)) q
    (λ x tied. ap (λ r. not (is_replaced given r))
    (sym (slice_cmp-IsAntisymmetric nat_cmp-IsAntisymmetric q x tied))))
    ∙ by (given_at given q) (is_replaced given q)
  where
    by : (o : Option Item) (v : Bool) → option_or o (cond (not v) (get files q) None) ≡ stands o v (get files q)
    by (Some x) v = refl
    by None true = refl
    by None false = refl

made_at : (root : List ℕ) (files : Tree) (q : List ℕ) → get (folder_made root files) q
    ≡ cond (list_any (bytes_eq q) (folders_above root ++ root ∷ []) && not (is_root q)) (Some item.Folder)
    (get files q)
made_at root files q = get-with_folders (folders_above root ++ root ∷ []) files q

made_ready : (root : List ℕ) (files : Tree) → IsStanding files → IsReady root (folder_made root files)
made_ready root files standing = record { above = above; clean = clean }
  where
    any_true : (a b : Bool) → a ≡ true → (a || b) ≡ true
    any_true true b h = refl
    any_true false b h = absurd (cc)

    folder_by : (v any : Bool) (old : Option Item) → any ≡ true
        → is_folder (cond v (Some item.Folder) (cond (any && not v) (Some item.Folder) old)) ≡ true
    folder_by true any old h = refl
    folder_by false any old h = ap (λ a. is_folder (cond (a && true) (Some item.Folder) old)) h

    above : (f : List ℕ) → list_any (bytes_eq f) (folders_above root) ≡ true
        → is_folder (item_at (folder_made root files) f) ≡ true
    above f h = ap (λ o. is_folder (cond (is_root f) (Some item.Folder) o)) (made_at root files f)
        ∙ folder_by (is_root f) (list_any (bytes_eq f) (folders_above root ++ root ∷ [])) (get files f)
        (list_any-append (bytes_eq f) (folders_above root) (root ∷ []) ∙ any_true _ _ h)

    longer : (r q : List ℕ) → is_at_or_below root r ≡ true → starts_with nat_eq q (r ++ 47 ∷ []) ≡ true
        → list_any (bytes_eq q) (folders_above root ++ root ∷ []) ≡ false
    longer r q at below = false_from_ne_true _ (λ h.
        let short : length q ≤ length root = made_length root q h in
        let long : length r + 1 ≤ length q = below_length q r below in
        let out : is_at_or_below root r ≡ false = shorter_away root r (omega arith) in
        let no : true ≡ false = sym at ∙ out in cc)

    clean : (r q : List ℕ) → is_at_or_below root r ≡ true → is_other (get (folder_made root files) r) ≡ true
        → starts_with nat_eq q (r ++ 47 ∷ []) ≡ true → get (folder_made root files) q ≡ None
    clean r q at other below =
        made_at root files q ∙ ap (λ v. cond (v && not (is_root q)) (Some item.Folder) (get files q))
        (longer r q at below)
        ∙ standing.clean r q (by (list_any (bytes_eq r) (folders_above root ++ root ∷ []) && not (is_root r))
        (sym (ap is_other (made_at root files r)) ∙ other)) below
      where
        by : (v : Bool) → is_other (cond v (Some item.Folder) (get files r)) ≡ true → is_other (get files r) ≡ true
        by true h = absurd (cc)
        by false h = h

-- laying one item after another, where the folder was made
pub tree_lays : (root : List ℕ) (parts : List (List ℕ)) (node : Node) (files : Tree) → AreParts parts
    → fits node 0 ≡ true → IsPlaced node parts root → IsStanding files
    → laid_under node parts root (folder_made root files) ≡ lay (items_under node parts root)
    (folder_made root files)
tree_lays root parts node files are fit placed standing = same_tree _ _ (λ q.
    under_lays parts node root (folder_made root files) are fit placed (made_ready root files standing) q
    ∙ sym (get-lay (items_under node parts root) (folder_made root files) q))

-- the same with the parts of a place, where the files are told
pub steps_laid : (o : Option Tree) (root place : List ℕ) (node : Node) → AreParts (parts_of place)
    → fits node 0 ≡ true → IfSome o (λ _. IsPlaced node (parts_of place) root) → IfSome o IsTree
    → option_map (tree_steps root place node) o ≡ option_map (tree_laid root place node) o
unfolding tree_steps tree_laid
steps_laid None root place node are fit placed standing = refl
steps_laid (Some files) root place node are fit placed standing = ap Some
    (tree_lays root (parts_of place) node files are fit placed (tree_stands (Some files) standing))

pub overlaid : (o o1 : Option Tree) (root place : List ℕ) (node : Node)
    → o1 ≡ option_map (tree_laid root place node) o → IfSome o
    (λ old. IfSome o1 (IsOverlay (items_under node (parts_of place) root) (folder_made root old)))
unfolding tree_laid
overlaid None o1 root place node is = tt
overlaid (Some files) o1 root place node is = subst
    (λ o. IfSome o (IsOverlay (items_under node (parts_of place) root) (folder_made root files))) (sym is)
    (get-lay (items_under node (parts_of place) root) (folder_made root files))

-- the same of a call, whose answer may be a refusal
pub laid_where : {E : Type 0} (result : Result (Unit {0}) E) (o o1 : Option Tree) (root place : List ℕ)
    (node given : Node) → given ≡ node → fits node 0 ≡ true
    → OnOk result (o1 ≡ option_map (tree_steps root place given) o)
    → OnOk result (IsTrue (list_all is_part (parts_of place)))
    → IfSome o (λ _. OnOk result (IsPlaced given (parts_of place) root)) → IfSome o IsTree
    → OnOk result (o1 ≡ option_map (tree_laid root place node) o)
laid_where (Ok done) o o1 root place node given is fit steps names placed standing =
    steps ∙ ap (λ n. option_map (tree_steps root place n) o) is
    ∙ steps_laid o root place node (all_parts (parts_of place) names) fit (by o placed) standing
  where
    by : (o : Option Tree) → IfSome o (λ _. IsPlaced given (parts_of place) root)
        → IfSome o (λ _. IsPlaced node (parts_of place) root)
    by None h = tt
    by (Some files) h = subst (λ n. IsPlaced n (parts_of place) root) is h
laid_where (Err fault) o o1 root place node given is fit steps names placed standing = tt

pub overlaid_where : {E : Type 0} (result : Result (Unit {0}) E) (o o1 : Option Tree) (root place : List ℕ)
    (node : Node) → OnOk result (o1 ≡ option_map (tree_laid root place node) o)
    → OnOk result (IfSome o (λ old. IfSome o1 (IsOverlay (items_under node (parts_of place) root)
    (folder_made root old))))
overlaid_where (Ok done) o o1 root place node is = overlaid o o1 root place node is
overlaid_where (Err fault) o o1 root place node is = tt

-- a file or a link that is placed isn't at `/`
pub file_placed : (o : Option Tree) (node : Node) (exec : Bool) (bytes path : List ℕ) → node ≡ File exec bytes
    → IfSome o (λ _. can_stand node path ≡ true) → IfSome o (λ _. is_root path ≡ false)
file_placed None node exec bytes path is h = tt
file_placed (Some files) node exec bytes path is h = plain_root path (is_folder_node node)
    (ap is_folder_node is ∙ file_plain exec bytes) h

pub link_placed : (o : Option Tree) (node : Node) (target path : List ℕ) → node ≡ Link target
    → IfSome o (λ _. can_stand node path ≡ true) → IfSome o (λ _. is_root path ≡ false)
link_placed None node target path is h = tt
link_placed (Some files) node target path is h = plain_root path (is_folder_node node)
    (ap is_folder_node is ∙ link_plain target) h
