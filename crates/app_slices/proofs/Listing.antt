-- The tree of a slot has the items of the slot and the folders above them.
use Rattle.std.proofs.Common.{◌≡◌, ◌≢◌, ℕ, suc, ◌∙◌, Bool, true, false, cond, ◌&&◌, ◌||◌, List, [], ◌∷◌, ◌++◌, map}
use Rattle.std.proofs.Common.{Option, Some, None, is_some, refl, sym, ap, subst, append_assoc, append-nil}
use Rattle.std.specs.Prelude.{IfSome}
use Rattle.std.specs.List.{filter, flat_map, list_any, starts_with, cons_option, AllByRecursion}
use Rattle.std.specs.Option.{option_map}
use Rattle.std.specs.Str.{bytes_eq}
use Rattle.std.specs.Ordering.{is_lt}
use Rattle.std.proofs.lemmas.Bool.{and_parts}
use Rattle.std.proofs.lemmas.Cmp.{nat_list_cmp_total, tied_itself}
use Rattle.std.proofs.lemmas.List.{append_cancel_left}
use Rattle.std.proofs.lemmas.List.Elements.{filter-append}
use Rattle.std.proofs.lemmas.List.Folds.{list_any-append}
use Rattle.cnb_world.specs.declared.world.Item.{Item}
use Rattle.cnb_world.specs.declared.world.Item.TheVariants as item
use Rattle.cnb_world.proofs.Trees.{bytes_eq-same, bytes_eq-other}
use Rattle.tree_canon.specs.declared.node.Node.{Node}
use Rattle.tree_canon.specs.declared.node.Named.{Named}
use Rattle.tree_canon.specs.declared.node.Node.TheVariants.{Folder, File, Link, rolls-Folder, rolls-File, rolls-Link}
use Rattle.tree_canon.specs.declared.node.Node.TheOpen as layer
use Rattle.tree_canon.specs.declared.node.Node.TheViews.{roll-Node, roll-Named}
use Rattle.tree_canon.specs.declared.node.Node.TheFolds.{map-Node, ind-Node, fold-roll-Node, fold_out-Named}
use Rattle.tree_canon.specs.Fits.{fits, entries_fit}
use Rattle.tree_canon.specs.Names.{is_name, is_below, follows}
use Rattle.tree_canon.proofs.Nodes.{fits_cons}
use Rattle.app_slices.specs.Slots.{Slices, Slot, below, slot_in, slot_along, same_slot}
use Rattle.app_slices.specs.Slices.{folder_part, named, part, tree_of}
use Rattle.app_slices.specs.Listing.{Listed, Listing, list_step, list_entry_step, listed, listed_entry, is_of, of_slot}
use Rattle.app_slices.specs.Listing.{listing_of, AreOfSlots}
use Rattle.app_slices.proofs.Parts.{kept, part_folder, part_file, part_link, folder_entries_fit, below_trans}

-- ---- what is listed

-- an entry, and what is in it
abbrev entry_in : Named → Listing
entry_in e paths path = (paths ++ below path e.name ∷ [], (listed e.node).0)
    ∷ (listed e.node).1 (paths ++ below path e.name ∷ []) (below path e.name)

abbrev entries_in : List Named → Listing
entries_in [] paths path = []
entries_in (e ∷ es) paths path = entry_in e paths path ++ entries_in es paths path

flat_is : (es : List Named) (paths : List (List ℕ)) (path : List ℕ)
    → flat_map (λ (e : Listing). e paths path) (map listed_entry es) ≡ entries_in es paths path
flat_is [] paths path = refl
flat_is (e ∷ es) paths path = λ i. fold_out-Named (Item × Listing) Listing list_step list_entry_step e i paths
    path ++ flat_is es paths path i

list_folder : (es : List Named) (paths : List (List ℕ)) (path : List ℕ)
    → (listed (Folder es)).1 paths path ≡ entries_in es paths path
list_folder es paths path = ap (λ (l : Item × Listing). l.1 paths path)
    (ap listed (sym (rolls-Folder es)) ∙ fold-roll-Node (Item × Listing) Listing list_step list_entry_step
    (layer.Folder es)) ∙ flat_is es paths path

item_folder : (es : List Named) → (listed (Folder es)).0 ≡ item.Folder
item_folder es = ap (λ (l : Item × Listing). l.0)
    (ap listed (sym (rolls-Folder es)) ∙ fold-roll-Node (Item × Listing) Listing list_step list_entry_step
    (layer.Folder es))

list_file : (exec : Bool) (bytes : List ℕ) (paths : List (List ℕ)) (path : List ℕ)
    → (listed (File exec bytes)).1 paths path ≡ []
list_file exec bytes paths path = ap (λ (l : Item × Listing). l.1 paths path)
    (ap listed (sym (rolls-File exec bytes)) ∙ fold-roll-Node (Item × Listing) Listing list_step list_entry_step
    (layer.File exec bytes))

list_link : (target : List ℕ) (paths : List (List ℕ)) (path : List ℕ) → (listed (Link target)).1 paths path ≡ []
list_link target paths path = ap (λ (l : Item × Listing). l.1 paths path)
    (ap listed (sym (rolls-Link target)) ∙ fold-roll-Node (Item × Listing) Listing list_step list_entry_step
    (layer.Link target))

-- ---- where what is listed lies

-- all of these lie below the last of these paths
abbrev LiesBelow : List (List ℕ) → Listed → Type 0
LiesBelow paths x = (path : List ℕ) × (more : List (List ℕ)) × (x.0 ≡ paths ++ path ∷ more)

-- at this path or below it
abbrev LiesAt : List (List ℕ) → List ℕ → Listed → Type 0
LiesAt paths path x = (more : List (List ℕ)) × (x.0 ≡ paths ++ path ∷ more)

all_append : {X : Type 0} (P : X → Type 0) (xs ys : List X) → AllByRecursion P xs → AllByRecursion P ys
    → AllByRecursion P (xs ++ ys)
all_append P [] ys a b = b
all_append P (x ∷ xs) ys a b = (a.0, all_append P xs ys a.1 b)

all_map : {X : Type 0} (P R : X → Type 0) (xs : List X) → ((x : X) → P x → R x) → AllByRecursion P xs
    → AllByRecursion R xs
all_map P R [] f a = tt
all_map P R (x ∷ xs) f a = (f x a.0, all_map P R xs f a.1)

abbrev IsListed : Node → Type 0
IsListed node = (paths : List (List ℕ)) (path : List ℕ) → AllByRecursion (LiesBelow paths) ((listed node).1 paths path)

entry_lies : (e : Named) → IsListed e.node → (paths : List (List ℕ)) (path : List ℕ)
    → AllByRecursion (LiesAt paths (below path e.name)) (entry_in e paths path)
entry_lies e lies paths path = (
  ([], refl),
  all_map (LiesBelow (paths ++ below path e.name ∷ [])) (LiesAt paths (below path e.name))
      ((listed e.node).1 (paths ++ below path e.name ∷ []) (below path e.name))
      (λ x l. (l.0 ∷ l.1, l.2 ∙ append_assoc paths (below path e.name ∷ []) (l.0 ∷ l.1)))
      (lies (paths ++ below path e.name ∷ []) (below path e.name)),
)

abbrev Lying : Type 0
Lying = (e : Named) × IsListed e.node

abbrev bare_lying : List Lying → List Named
bare_lying es = map (λ e. e.0) es

entries_lie : (es : List Lying) (paths : List (List ℕ)) (path : List ℕ)
    → AllByRecursion (LiesBelow paths) (entries_in (bare_lying es) paths path)
entries_lie [] paths path = tt
entries_lie (e ∷ es) paths path = all_append (LiesBelow paths) (entry_in e.0 paths path)
    (entries_in (bare_lying es) paths path)
    (all_map (LiesAt paths (below path e.0.name)) (LiesBelow paths) (entry_in e.0 paths path)
    (λ x l. (below path e.0.name, l.0, l.1)) (entry_lies e.0 e.1 paths path))
    (entries_lie es paths path)

lying_layer : (x : layer.Node-F Node Named) (y : layer.Node-F ((n : Node) × IsListed n) Lying)
    → map-Node ((n : Node) × IsListed n) Lying Node Named (λ e. e.0) (λ e. e.0) y ≡ x → IsListed (roll-Node x)
lying_layer x (layer.Folder es) is = subst (λ z. IsListed (roll-Node z)) is
    (subst IsListed (sym (rolls-Folder (bare_lying es)))
    (λ paths path. subst (AllByRecursion (LiesBelow paths)) (sym (list_folder (bare_lying es) paths path))
    (entries_lie es paths path)))
lying_layer x (layer.File exec bytes) is = subst (λ z. IsListed (roll-Node z)) is
    (subst IsListed (sym (rolls-File exec bytes))
    (λ paths path. subst (AllByRecursion (LiesBelow paths)) (sym (list_file exec bytes paths path)) tt))
lying_layer x (layer.Link target) is = subst (λ z. IsListed (roll-Node z)) is
    (subst IsListed (sym (rolls-Link target)) (λ paths path. subst (AllByRecursion (LiesBelow paths))
    (sym (list_link target paths path)) tt))

node_lies : (node : Node) → IsListed node
node_lies = ind-Node IsListed (λ e. IsListed e.node) lying_layer
    (λ x y is. subst (λ (z : layer.Named-F Node Named). IsListed (roll-Named z).node) is y.node.1)

-- behind a name lie entries of other names
abbrev LiesBehind : List (List ℕ) → List ℕ → List ℕ → Listed → Type 0
LiesBehind paths path last x = (m : List ℕ) × (is_below last m ≡ true) × LiesAt paths (below path m) x

entries_behind : (es : List Named) (last : List ℕ) (depth : ℕ) (paths : List (List ℕ)) (path : List ℕ)
    → entries_fit (Some last) es depth ≡ true → AllByRecursion (LiesBehind paths path last)
    (entries_in es paths path)
entries_behind [] last depth paths path fit = tt
entries_behind (e ∷ es) last depth paths path fit =
    let p = fits_cons (Some last) e es depth fit in
    let n = and_parts (is_name e.name) (is_below last e.name) p.0 in
    all_append (LiesBehind paths path last) (entry_in e paths path) (entries_in es paths path)
    (all_map (LiesAt paths (below path e.name)) (LiesBehind paths path last) (entry_in e paths path)
    (λ x l. (e.name, n.1, l)) (entry_lies e (node_lies e.node) paths path))
    (all_map (LiesBehind paths path e.name) (LiesBehind paths path last) (entries_in es paths path)
    (λ x l. (l.0, below_trans last e.name l.0 n.1 l.1, l.2)) (entries_behind es e.name depth paths path p.2))

-- ---- beginnings

and_false : (v : Bool) → (v && false) ≡ false
and_false true = refl
and_false false = refl

begins_itself : (paths more : List (List ℕ)) → starts_with bytes_eq (paths ++ more) paths ≡ true
begins_itself [] more = refl
begins_itself (c ∷ paths) more = ap (λ v. v && starts_with bytes_eq (paths ++ more) paths) (bytes_eq-same c)
    ∙ begins_itself paths more

begins_longer : (paths more : List (List ℕ)) (path : List ℕ) → starts_with bytes_eq paths (paths ++ path ∷ more) ≡ false
begins_longer [] more path = refl
begins_longer (c ∷ paths) more path = ap (λ v. bytes_eq c c && v) (begins_longer paths more path)
    ∙ and_false (bytes_eq c c)

begins_other : (paths : List (List ℕ)) (p q : List ℕ) (more rest : List (List ℕ)) → p ≢ q
    → starts_with bytes_eq (paths ++ q ∷ rest) (paths ++ p ∷ more) ≡ false
begins_other [] p q more rest other = ap (λ v. v && starts_with bytes_eq rest more) (bytes_eq-other p q other)
begins_other (c ∷ paths) p q more rest other = ap (λ v. bytes_eq c c && v)
    (begins_other paths p q more rest other) ∙ and_false (bytes_eq c c)

below_same : (path a b : List ℕ) → below path a ≡ below path b → a ≡ b
below_same [] a b e = e
below_same (c ∷ path) a b e = append_cancel_left ((c ∷ path) ++ 47 ∷ []) a b
    (append_assoc (c ∷ path) (47 ∷ []) a ∙ e ∙ sym (append_assoc (c ∷ path) (47 ∷ []) b))

below_other : (path a b : List ℕ) → is_below a b ≡ true → below path a ≢ below path b
below_other path a b h e = let no : true ≡ false = sym h ∙ ap (λ x. is_below a x) (sym (below_same path a b e))
    ∙ ap is_lt (tied_itself nat_list_cmp_total a) in cc

-- ---- filters

filter_same : {X : Type 0} (P : X → Type 0) (t u : X → Bool) (xs : List X) → ((x : X) → P x → t x ≡ u x)
    → AllByRecursion P xs → filter t xs ≡ filter u xs
filter_same P t u [] same a = refl
filter_same P t u (x ∷ xs) same a = λ i. cond (same x a.0 i) (x ∷ filter_same P t u xs same a.1 i)
    (filter_same P t u xs same a.1 i)

any_none : {X : Type 0} (P : X → Type 0) (t : X → Bool) (xs : List X) → ((x : X) → P x → t x ≡ false)
    → AllByRecursion P xs → list_any t xs ≡ false
any_none P t [] none a = refl
any_none P t (x ∷ xs) none a = ap (λ v. v || list_any t xs) (none x a.0) ∙ any_none P t xs none a.1

any_same : {X : Type 0} (P : X → Type 0) (t u : X → Bool) (xs : List X) → ((x : X) → P x → t x ≡ u x)
    → AllByRecursion P xs → list_any t xs ≡ list_any u xs
any_same P t u [] same a = refl
any_same P t u (x ∷ xs) same a = λ i. same x a.0 i || any_same P t u xs same a.1 i

or_false : (v : Bool) → (v || false) ≡ v
or_false true = refl
or_false false = refl

along-append : (slices : Slices) (above : Slot) (paths : List (List ℕ)) (path : List ℕ)
    → slot_along slices above (paths ++ path ∷ []) ≡ slot_in slices (slot_along slices above paths) path
along-append slices above [] path = refl
along-append slices above (p ∷ paths) path = along-append slices (slot_in slices above p) paths path

module _ (slices : Slices) (wanted : Slot) where
  -- an item of the slot is at this one or below it
  abbrev holds : List Listed → Listed → Bool
  holds all x = list_any (λ y. is_of slices wanted y && starts_with bytes_eq y.0 x.0) all

  -- the entries of one name and those behind them keep apart
  apart : (paths : List (List ℕ)) (path name : List ℕ) (xs ys : List Listed)
      → AllByRecursion (LiesAt paths (below path name)) xs → AllByRecursion (LiesBehind paths path name) ys
      → of_slot slices wanted (xs ++ ys) ≡ of_slot slices wanted xs ++ of_slot slices wanted ys
  apart paths path name xs ys first rest =
      filter-append (holds (xs ++ ys)) xs ys
      ∙ (λ i. filter_same (LiesAt paths (below path name)) (holds (xs ++ ys)) (holds xs) xs none_later first i
      ++ filter_same (LiesBehind paths path name) (holds (xs ++ ys)) (holds ys) ys none_before rest i)
    where
      none_later : (x : Listed) → LiesAt paths (below path name) x → holds (xs ++ ys) x ≡ holds xs x
      none_later x at =
          list_any-append (λ y. is_of slices wanted y && starts_with bytes_eq y.0 x.0) xs ys
          ∙ ap (λ v. holds xs x || v) (any_none (LiesBehind paths path name)
          (λ y. is_of slices wanted y && starts_with bytes_eq y.0 x.0) ys
          (λ y behind. ap (λ v. is_of slices wanted y && v)
          ((λ i. starts_with bytes_eq (behind.2.1 i) (at.1 i)) ∙ begins_other paths (below path name)
          (below path behind.0) at.0 behind.2.0 (below_other path name behind.0 behind.1))
          ∙ and_false (is_of slices wanted y)) rest)
          ∙ or_false (holds xs x)

      none_before : (x : Listed) → LiesBehind paths path name x → holds (xs ++ ys) x ≡ holds ys x
      none_before x behind =
          list_any-append (λ y. is_of slices wanted y && starts_with bytes_eq y.0 x.0) xs ys
          ∙ ap (λ v. v || holds ys x) (any_none (LiesAt paths (below path name))
          (λ y. is_of slices wanted y && starts_with bytes_eq y.0 x.0) xs
          (λ y at. ap (λ v. is_of slices wanted y && v)
          ((λ i. starts_with bytes_eq (at.1 i) (behind.2.1 i)) ∙ begins_other paths (below path behind.0)
          (below path name) behind.2.0 at.0 (λ e. below_other path name behind.0 behind.1 (sym e)))
          ∙ and_false (is_of slices wanted y)) first)

  -- an item and what is below it
  abbrev or_within : Bool → Listed → List Listed → List Listed
  or_within v h xs = cond v (h ∷ of_slot slices wanted xs) (of_slot slices wanted xs)

  with_head : (paths : List (List ℕ)) (x : Item) (xs : List Listed) → AllByRecursion (LiesBelow paths) xs
      → of_slot slices wanted ((paths, x) ∷ xs) ≡ or_within (is_of slices wanted (paths, x)
      || list_any (is_of slices wanted) xs) (paths, x) xs
  with_head paths x xs below_all = λ i. cond (at_head i) ((paths, x) ∷ rest i) (rest i)
    where
      and_true : (v w : Bool) → w ≡ true → (v && w) ≡ v
      and_true true w e = e
      and_true false w e = refl

      here : starts_with bytes_eq paths paths ≡ true
      here = ap (λ p. starts_with bytes_eq p paths) (sym (append-nil paths)) ∙ begins_itself paths []

      at_head : holds ((paths, x) ∷ xs) (paths, x) ≡ (is_of slices wanted (paths, x)
          || list_any (is_of slices wanted) xs)
      at_head = λ i. and_true (is_of slices wanted (paths, x)) (starts_with bytes_eq paths paths) here i
          || any_same (LiesBelow paths) (λ y. is_of slices wanted y && starts_with bytes_eq y.0 paths)
          (is_of slices wanted) xs
          (λ y l. and_true (is_of slices wanted y) (starts_with bytes_eq y.0 paths)
          (ap (λ p. starts_with bytes_eq p paths) l.2 ∙ begins_itself paths (l.0 ∷ l.1))) below_all i

      rest : filter (holds ((paths, x) ∷ xs)) xs ≡ of_slot slices wanted xs
      rest = filter_same (LiesBelow paths) (holds ((paths, x) ∷ xs)) (holds xs) xs
          (λ y l. ap (λ v. v || holds xs y) (ap (λ v. is_of slices wanted (paths, x) && v)
          (ap (starts_with bytes_eq paths) l.2 ∙ begins_longer paths l.1 l.0)
          ∙ and_false (is_of slices wanted (paths, x)))) below_all

  -- ---- the parts of a node

  abbrev part_in : Option Node → Listing
  part_in None paths path = []
  part_in (Some n) paths path = (listed n).1 paths path

  pub record IsSorted (node : Node) (own : Slot) (paths : List (List ℕ)) (path : List ℕ)
      (o : Option Node) : Type 0 where
    pub there : is_some o ≡ (same_slot own wanted || list_any (is_of slices wanted) ((listed node).1 paths path))
    pub same : part_in o paths path ≡ of_slot slices wanted ((listed node).1 paths path)
    pub item : IfSome o (λ n. (listed n).0 ≡ (listed node).0)

  abbrev AreSorted : Node → Type 0
  AreSorted node = (own : Slot) (paths : List (List ℕ)) (path : List ℕ) (depth : ℕ)
      → own ≡ slot_along slices None paths → fits node depth ≡ true
      → IsSorted node own paths path (part slices wanted node own path)

  abbrev Sorting : Type 0
  Sorting = (e : Named) × AreSorted e.node

  abbrev bare : List Sorting → List Named
  bare es = map (λ e. e.0) es

  abbrev has : List Named → Bool
  has [] = false
  has (k ∷ ks) = true

  abbrev one_in : List ℕ → Option Node → Listing
  one_in name None paths path = []
  one_in name (Some n) paths path = entry_in (named name n) paths path

  entry_there : (e : Named) (own : Slot) (paths : List (List ℕ)) (path : List ℕ) (o : Option Node)
      → own ≡ slot_along slices None (paths ++ below path e.name ∷ [])
      → IsSorted e.node own (paths ++ below path e.name ∷ []) (below path e.name) o
      → is_some o ≡ list_any (is_of slices wanted) (entry_in e paths path)
  entry_there e own paths path o is s = s.there
      ∙ ap (λ k. same_slot k wanted || list_any (is_of slices wanted)
      ((listed e.node).1 (paths ++ below path e.name ∷ []) (below path e.name))) is

  entry_sorted : (e : Named) (own : Slot) (paths : List (List ℕ)) (path : List ℕ) (o : Option Node)
      → own ≡ slot_along slices None (paths ++ below path e.name ∷ [])
      → IsSorted e.node own (paths ++ below path e.name ∷ []) (below path e.name) o
      → one_in e.name o paths path ≡ of_slot slices wanted (entry_in e paths path)
  entry_sorted e own paths path o is s =
      by o s.same s.item
      ∙ ap (λ v. or_within v (paths ++ below path e.name ∷ [], (listed e.node).0)
      ((listed e.node).1 (paths ++ below path e.name ∷ []) (below path e.name)))
      (entry_there e own paths path o is s)
      ∙ sym (with_head (paths ++ below path e.name ∷ []) (listed e.node).0
      ((listed e.node).1 (paths ++ below path e.name ∷ []) (below path e.name))
      (node_lies e.node (paths ++ below path e.name ∷ []) (below path e.name)))
    where
      by : (o : Option Node) → part_in o (paths ++ below path e.name ∷ []) (below path e.name)
          ≡ of_slot slices wanted ((listed e.node).1 (paths ++ below path e.name ∷ []) (below path e.name))
          → IfSome o (λ n. (listed n).0 ≡ (listed e.node).0)
          → one_in e.name o paths path ≡ or_within (is_some o)
          (paths ++ below path e.name ∷ [], (listed e.node).0)
          ((listed e.node).1 (paths ++ below path e.name ∷ []) (below path e.name))
      by None same item = same
      by (Some n) same item = λ i. (paths ++ below path e.name ∷ [], item i) ∷ same i

  kept_in : (name : List ℕ) (o : Option Node) (ks : List Named) (paths : List (List ℕ)) (path : List ℕ)
      → entries_in (cons_option (option_map (named name) o) ks) paths path ≡ one_in name o paths path
      ++ entries_in ks paths path
  kept_in name None ks paths path = refl
  kept_in name (Some n) ks paths path = refl

  kept_has : (name : List ℕ) (o : Option Node) (ks : List Named)
      → has (cons_option (option_map (named name) o) ks) ≡ (is_some o || has ks)
  kept_has name None ks = refl
  kept_has name (Some n) ks = refl

  entries_sorted : (es : List Sorting) (own : Slot) (paths : List (List ℕ)) (path : List ℕ)
      (last : Option (List ℕ)) (depth : ℕ) → own ≡ slot_along slices None paths
      → entries_fit last (bare es) depth ≡ true
      → (entries_in (kept slices wanted own path (bare es)) paths path
      ≡ of_slot slices wanted (entries_in (bare es) paths path))
      × (has (kept slices wanted own path (bare es)) ≡ list_any (is_of slices wanted)
      (entries_in (bare es) paths path))
  entries_sorted [] own paths path last depth is fit = (refl, refl)
  entries_sorted (e ∷ es) own paths path last depth is fit = by
      (entries_sorted es own paths path (Some e.0.name) depth is p.2)
    where
      p : (_ : (is_name e.0.name && follows last e.0.name) ≡ true) × (fits e.0.node depth ≡ true)
          × (entries_fit (Some e.0.name) (bare es) depth ≡ true)
      p = let all = fits_cons last e.0 (bare es) depth fit in (all.0, all.1, all.2)

      slot : slot_in slices own (below path e.0.name) ≡ slot_along slices None (paths ++ below path e.0.name ∷ [])
      slot = ap (λ k. slot_in slices k (below path e.0.name)) is
          ∙ sym (along-append slices None paths (below path e.0.name))

      one : IsSorted e.0.node (slot_in slices own (below path e.0.name)) (paths ++ below path e.0.name ∷ [])
          (below path e.0.name) (part slices wanted e.0.node (slot_in slices own (below path e.0.name))
          (below path e.0.name))
      one = e.1 (slot_in slices own (below path e.0.name)) (paths ++ below path e.0.name ∷ [])
          (below path e.0.name) depth slot p.1

      by : (entries_in (kept slices wanted own path (bare es)) paths path
          ≡ of_slot slices wanted (entries_in (bare es) paths path))
          × (has (kept slices wanted own path (bare es)) ≡ list_any (is_of slices wanted)
          (entries_in (bare es) paths path))
          → (entries_in (kept slices wanted own path (bare (e ∷ es))) paths path
          ≡ of_slot slices wanted (entries_in (bare (e ∷ es)) paths path))
          × (has (kept slices wanted own path (bare (e ∷ es))) ≡ list_any (is_of slices wanted)
          (entries_in (bare (e ∷ es)) paths path))
      by rest = (
        kept_in e.0.name (part slices wanted e.0.node (slot_in slices own (below path e.0.name))
            (below path e.0.name)) (kept slices wanted own path (bare es)) paths path
            ∙ (λ i. entry_sorted e.0 (slot_in slices own (below path e.0.name)) paths path
            (part slices wanted e.0.node (slot_in slices own (below path e.0.name)) (below path e.0.name))
            slot one i ++ rest.0 i)
            ∙ sym (apart paths path e.0.name (entry_in e.0 paths path) (entries_in (bare es) paths path)
            (entry_lies e.0 (node_lies e.0.node) paths path)
            (entries_behind (bare es) e.0.name depth paths path p.2)),
        kept_has e.0.name (part slices wanted e.0.node (slot_in slices own (below path e.0.name))
            (below path e.0.name)) (kept slices wanted own path (bare es))
            ∙ (λ i. entry_there e.0 (slot_in slices own (below path e.0.name)) paths path
            (part slices wanted e.0.node (slot_in slices own (below path e.0.name)) (below path e.0.name))
            slot one i || rest.1 i)
            ∙ sym (list_any-append (is_of slices wanted) (entry_in e.0 paths path) (entries_in (bare es) paths path)),
      )

  folder_sorted : (es : List Sorting) → AreSorted (Folder (bare es))
  folder_sorted es own paths path depth is fit = subst (IsSorted (Folder (bare es)) own paths path)
      (sym (part_folder slices wanted own path (bare es)))
      (record {
        there = there;
        same = same;
        item = item (same_slot own wanted)
            (kept slices wanted own path (bare es));
      })
    where
      sorted : (entries_in (kept slices wanted own path (bare es)) paths path
          ≡ of_slot slices wanted (entries_in (bare es) paths path))
          × (has (kept slices wanted own path (bare es)) ≡ list_any (is_of slices wanted)
          (entries_in (bare es) paths path))
      sorted = entries_sorted es own paths path None (suc depth) is (folder_entries_fit (bare es) depth fit)

      some : (v : Bool) (ks : List Named) → is_some (folder_part v ks) ≡ (v || has ks)
      some true [] = refl
      some false [] = refl
      some true (k ∷ ks) = refl
      some false (k ∷ ks) = refl

      there : is_some (folder_part (same_slot own wanted) (kept slices wanted own path (bare es)))
          ≡ (same_slot own wanted || list_any (is_of slices wanted) ((listed (Folder (bare es))).1 paths path))
      there = some (same_slot own wanted) (kept slices wanted own path (bare es))
          ∙ ap (λ v. same_slot own wanted || v) (sorted.1 ∙ ap (list_any (is_of slices wanted))
          (sym (list_folder (bare es) paths path)))

      inside : (v : Bool) (ks : List Named) → part_in (folder_part v ks) paths path ≡ entries_in ks paths path
      inside false [] = refl
      inside true [] = list_folder [] paths path
      inside v (k ∷ ks) = list_folder (k ∷ ks) paths path

      same : part_in (folder_part (same_slot own wanted) (kept slices wanted own path (bare es))) paths path
          ≡ of_slot slices wanted ((listed (Folder (bare es))).1 paths path)
      same = inside (same_slot own wanted) (kept slices wanted own path (bare es)) ∙ sorted.0
          ∙ ap (of_slot slices wanted) (sym (list_folder (bare es) paths path))

      item : (v : Bool) (ks : List Named) → IfSome (folder_part v ks)
          (λ n. (listed n).0 ≡ (listed (Folder (bare es))).0)
      item false [] = tt
      item true [] = item_folder [] ∙ sym (item_folder (bare es))
      item v (k ∷ ks) = item_folder (k ∷ ks) ∙ sym (item_folder (bare es))

  -- a file or a link, in which nothing is listed
  plain_sorted : (node : Node) (own : Slot) (paths : List (List ℕ)) (path : List ℕ)
      → (listed node).1 paths path ≡ [] → IsSorted node own paths path
      (cond (same_slot own wanted) (Some node) None)
  plain_sorted node own paths path none = record {
    there = by (same_slot own wanted) ∙ ap (λ xs. same_slot own wanted || list_any (is_of slices wanted) xs) (sym none);
    same = inside (same_slot own wanted) ∙ ap (of_slot slices wanted) (sym none);
    item = same_item (same_slot own wanted);
  }
    where
      by : (v : Bool) → is_some (cond v (Some node) None) ≡ (v || false)
      by true = refl
      by false = refl

      inside : (v : Bool) → part_in (cond v (Some node) None) paths path ≡ []
      inside true = none
      inside false = refl

      same_item : (v : Bool) → IfSome (cond v (Some node) None) (λ n. (listed n).0 ≡ (listed node).0)
      same_item true = refl
      same_item false = tt

  sorted_layer : (x : layer.Node-F Node Named) (y : layer.Node-F ((n : Node) × AreSorted n) Sorting)
      → map-Node ((n : Node) × AreSorted n) Sorting Node Named (λ e. e.0) (λ e. e.0) y ≡ x
      → AreSorted (roll-Node x)
  sorted_layer x (layer.Folder es) is = subst (λ z. AreSorted (roll-Node z)) is
      (subst AreSorted (sym (rolls-Folder (bare es))) (folder_sorted es))
  sorted_layer x (layer.File exec bytes) is = subst (λ z. AreSorted (roll-Node z)) is
      (subst AreSorted (sym (rolls-File exec bytes)) (λ own paths path depth slot fit.
      subst (IsSorted (File exec bytes) own paths path) (sym (part_file slices wanted own path exec bytes))
      (plain_sorted (File exec bytes) own paths path (list_file exec bytes paths path))))
  sorted_layer x (layer.Link target) is = subst (λ z. AreSorted (roll-Node z)) is
      (subst AreSorted (sym (rolls-Link target)) (λ own paths path depth slot fit.
      subst (IsSorted (Link target) own paths path) (sym (part_link slices wanted own path target))
      (plain_sorted (Link target) own paths path (list_link target paths path))))

  node_sorted : (node : Node) → AreSorted node
  node_sorted = ind-Node AreSorted (λ e. AreSorted e.node) sorted_layer
      (λ x y is. subst (λ (z : layer.Named-F Node Named). AreSorted (roll-Named z).node) is y.node.1)

  app_sorted : (app : Node) → fits app 0 ≡ true → IsSorted app None [] [] (tree_of slices app wanted)
  app_sorted app fit = node_sorted app None [] [] 0 refl fit

pub are_of_slots : (slices : Slices) (app : Node) → fits app 0 ≡ true → AreOfSlots slices app
are_of_slots slices app fit = record {
  items = λ wanted. by wanted (tree_of slices app wanted) ∙ (app_sorted slices wanted app fit).same;
  trees = λ k. (app_sorted slices (Some k) app fit).there;
  rest = (app_sorted slices None app fit).there;
}
  where
    by : (wanted : Slot) (o : Option Node) → listing_of o ≡ part_in slices wanted o [] []
    by wanted None = refl
    by wanted (Some tree) = refl
