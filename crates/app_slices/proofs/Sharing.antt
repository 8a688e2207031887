-- The parts of a node share what it gives where it is laid, path by path.
use Rattle.std.proofs.Common.{◌≡◌, ℕ, suc, ◌+◌, ◌<◌, ◌≤◌, ◌∙◌, Bool, true, false, cond, not, ◌&&◌, ◌||◌, List, [], ◌∷◌}
use Rattle.std.proofs.Common.{◌++◌, map, length, Option, Some, None, refl, sym, ap, subst, arith, ◌⊎◌, inl, inr, nat_eq}
use Rattle.std.proofs.Common.{◌≢◌}
use Rattle.std.specs.List.{starts_with, cons_option}
use Rattle.std.specs.Option.{option_or, option_map}
use Rattle.std.specs.Str.{bytes_eq}
use Rattle.std.specs.Ordering.{is_lt}
use Rattle.std.proofs.lemmas.Bool.{and_parts, eq-eqb, false_from_ne_true}
use Rattle.std.proofs.lemmas.Cmp.{nat_list_cmp_total, tied_itself}
use Rattle.std.proofs.lemmas.List.Folds.{list_any-append}
use Rattle.std.proofs.lemmas.Slice.Eq.{bytes_eq-Decides}
use Rattle.cnb_world.proofs.Parents.{has_slash}
use Rattle.cnb_world.specs.Path.{joined}
use Rattle.cnb_world.specs.Tree.{is_folder, is_root}
use Rattle.cnb_world.specs.declared.world.Item.{Item}
use Rattle.cnb_world.specs.declared.world.Item.TheVariants as item
use Rattle.tree_canon.specs.declared.node.Node.{Node}
use Rattle.tree_canon.specs.declared.node.Named.{Named}
use Rattle.tree_canon.specs.declared.node.Node.TheVariants.{Folder, File, Link, rolls-Folder, rolls-File, rolls-Link}
use Rattle.tree_canon.specs.declared.node.Node.TheOpen as layer
use Rattle.tree_canon.specs.declared.node.Node.TheViews.{roll-Node, roll-Named}
use Rattle.tree_canon.specs.declared.node.Node.TheFolds.{map-Node, ind-Node}
use Rattle.tree_canon.specs.Fits.{fits, entries_fit}
use Rattle.tree_canon.specs.Names.{is_name, is_below, follows}
use Rattle.tree_canon.proofs.Nodes.{fits_cons}
use Rattle.tree_store.specs.Overlay.{Given, folder_at, items_of, items_of_entry, given_at, is_replaced}
use Rattle.tree_store.proofs.Overlays.{IsAway, items_in, items_folder, items_file, items_link, items_entry, node_away}
use Rattle.tree_store.proofs.Places.{is_at_or_below, below_length, longer_child, shorter_away, name_form, name_in}
use Rattle.tree_store.proofs.Places.{named as name_is}
use Rattle.app_slices.specs.Slots.{Slices, Slot, below, earlier, first_taking, slot_in, same_slot}
use Rattle.app_slices.specs.Slices.{folder_part, named, part}
use Rattle.app_slices.proofs.Slots.{taking_within}
use Rattle.app_slices.proofs.Parts.{kept, part_folder, part_file, part_link, kept_fits, folder_entries_fit, below_trans}

-- ---- slots

-- the number of a slice, or the rest
abbrev pub IsSlotOf : Slices → Slot → Type 0
IsSlotOf slices None = Unit {0}
IsSlotOf slices (Some k) = k < length slices

slot_stays : (slices : Slices) (above : Slot) (path : List ℕ) → IsSlotOf slices above
    → IsSlotOf slices (slot_in slices above path)
slot_stays slices above path is = by above is (first_taking slices path) refl
  where
    by : (a : Slot) → IsSlotOf slices a → (o : Slot) → first_taking slices path ≡ o → IsSlotOf slices (earlier a o)
    by None is None e = tt
    by None is (Some k) e = taking_within slices path k e
    by (Some a) is None e = is
    by (Some a) is (Some k) e = let less : a < length slices = is in omega arith

pub same_itself : (k : Slot) → same_slot k k ≡ true
same_itself None = refl
same_itself (Some k) = (eq-eqb k k refl)

-- ---- what is given at a path

-- Two lists of items say the same of a path.
abbrev pub SaySame : List ℕ → List Given → List Given → Type 0
SaySame q xs ys = (given_at xs q ≡ given_at ys q) × (is_replaced xs q ≡ is_replaced ys q)

say_itself : (q : List ℕ) (xs : List Given) → SaySame q xs xs
say_itself q xs = (refl, refl)

given-append : (xs ys : List Given) (q : List ℕ) → given_at (xs ++ ys) q ≡ option_or (given_at xs q) (given_at ys q)
given-append [] ys q = refl
given-append (x ∷ xs) ys q = ap (λ o. cond (bytes_eq q x.0) (Some x.1) o) (given-append xs ys q) ∙ by (bytes_eq q x.0)
  where
    by : (v : Bool) → cond v (Some x.1) (option_or (given_at xs q) (given_at ys q))
        ≡ option_or (cond v (Some x.1) (given_at xs q)) (given_at ys q)
    by true = refl
    by false = refl

replaced-append : (xs ys : List Given) (q : List ℕ) → is_replaced (xs ++ ys) q ≡ (is_replaced xs q || is_replaced ys q)
replaced-append xs ys q = list_any-append (λ g. not (is_folder (Some g.1))
    && starts_with nat_eq q (g.0 ++ 47 ∷ [])) xs ys

or_none : (o : Option Item) → option_or o None ≡ o
or_none None = refl
or_none (Some x) = refl

or_false : (v : Bool) → (v || false) ≡ v
or_false true = refl
or_false false = refl

pub away_none : (q : List ℕ) → IsAway [] q
away_none q = record { none = refl; stays = refl }

-- the later items say nothing of the path
pub say_first : (q : List ℕ) (xs ys : List Given) → IsAway ys q → SaySame q xs (xs ++ ys)
say_first q xs ys a = (
  sym (given-append xs ys q ∙ ap (option_or (given_at xs q)) a.none ∙ or_none (given_at xs q)),
  sym (replaced-append xs ys q ∙ ap (λ v. is_replaced xs q || v) a.stays ∙ or_false (is_replaced xs q)),
)

-- the earlier items say nothing of the path
pub say_later : (q : List ℕ) (xs ys : List Given) → IsAway xs q → SaySame q ys (xs ++ ys)
say_later q xs ys a = (
  sym (given-append xs ys q ∙ ap (λ o. option_or o (given_at ys q)) a.none),
  sym (replaced-append xs ys q ∙ ap (λ v. v || is_replaced ys q) a.stays),
)

pub away_append : (xs ys : List Given) (q : List ℕ) → IsAway xs q → IsAway ys q → IsAway (xs ++ ys) q
away_append xs ys q x y = record {
  none = sym (say_later q xs ys x).0 ∙ y.none;
  stays = sym (say_later q xs ys x).1 ∙ y.stays;
}

pub folder_elsewhere : (path q : List ℕ) → bytes_eq q path ≡ false → IsAway (folder_at path) q
folder_elsewhere path q h = by (is_root path)
  where
    by : (v : Bool) → IsAway (cond v [] ((path, item.Folder) ∷ [])) q
    by true = away_none q
    by false = record { none = ap (λ v. cond v (Some item.Folder) None) h; stays = refl }

say_nothing : (q : List ℕ) (xs : List Given) → IsAway xs q → SaySame q [] xs
say_nothing q xs a = (sym a.none, sym a.stays)

-- ---- sharing

-- A file or a link is given by the part of one slot; a folder may be given by several.
abbrev pub SharesItem : Slices → Bool → Item → (Slot → Option Item) → Type 0
SharesItem slices true x parts = ((w : Slot) → (parts w ≡ None) ⊎ (parts w ≡ Some x))
    × ((k : Slot) × IsSlotOf slices k × (parts k ≡ Some x))
SharesItem slices false x parts = (k : Slot) × IsSlotOf slices k
    × ((w : Slot) → parts w ≡ cond (same_slot k w) (Some x) None)

abbrev pub SharesGiven : Slices → Option Item → (Slot → Option Item) → Type 0
SharesGiven slices None parts = (w : Slot) → parts w ≡ None
SharesGiven slices (Some x) parts = SharesItem slices (is_folder (Some x)) x parts

abbrev pub SharesReplaced : Slices → Bool → (Slot → Bool) → Type 0
SharesReplaced slices true parts = (k : Slot) × IsSlotOf slices k × (parts k ≡ true)
SharesReplaced slices false parts = (w : Slot) → parts w ≡ false

-- The items of all parts say of a path what the whole says of it; and where it gives something, nothing above is a file
-- or a link.
pub record Shares (slices : Slices) (whole : List Given) (parts : Slot → List Given) (q : List ℕ) : Type 0 where
  pub given : SharesGiven slices (given_at whole q) (λ w. given_at (parts w) q)
  pub replaced : SharesReplaced slices (is_replaced whole q) (λ w. is_replaced (parts w) q)
  pub clean : (x : Item) → given_at whole q ≡ Some x → is_replaced whole q ≡ false

pub shares_same : (slices : Slices) (whole now : List Given) (parts ours : Slot → List Given) (q : List ℕ)
    → SaySame q whole now → ((w : Slot) → SaySame q (parts w) (ours w)) → Shares slices whole parts q
    → Shares slices now ours q
shares_same slices whole now parts ours q same each s = record {
  given = subst (λ o. SharesGiven slices o (λ w. given_at (ours w) q)) same.0
      (subst (SharesGiven slices (given_at whole q)) (λ i. λ w. (each w).0 i) s.given);
  replaced = subst (λ v. SharesReplaced slices v (λ w. is_replaced (ours w) q)) same.1
      (subst (SharesReplaced slices (is_replaced whole q)) (λ i. λ w. (each w).1 i) s.replaced);
  clean = λ x e. sym same.1 ∙ s.clean x (same.0 ∙ e);
}

shares_nothing : (slices : Slices) (q : List ℕ) → Shares slices [] (λ w. []) q
shares_nothing slices q = record { given = λ w. refl; replaced = λ w. refl; clean = λ x e. refl }

-- ---- one item

and_false : (v : Bool) → (v && false) ≡ false
and_false true = refl
and_false false = refl

-- nothing is below itself
not_below_itself : (path : List ℕ) → starts_with nat_eq path (path ++ 47 ∷ []) ≡ false
not_below_itself path = false_from_ne_true _ (λ h. let more : length path + 1
    ≤ length path = below_length path path h in absurd (omega arith))

item_shares : (slices : Slices) (own : Slot) (path q : List ℕ) (x : Item) → IsSlotOf slices own
    → is_folder (Some x) ≡ false → Shares slices ((path, x) ∷ [])
    (λ w. cond (same_slot own w) ((path, x) ∷ []) []) q
item_shares slices own path q x is plain = record {
  given = given (bytes_eq q path) refl;
  replaced = replaced
      (is_replaced ((path, x) ∷ []) q) refl;
  clean = clean (bytes_eq q path) refl;
}
  where
    each : (v same : Bool) → bytes_eq q path ≡ v → given_at (cond same ((path, x) ∷ []) []) q
        ≡ cond same (cond v (Some x) None) None
    each v true e = ap (λ b. cond b (Some x) None) e
    each v false e = refl

    none : (same : Bool) → cond {A = Option Item} same None None ≡ None
    none true = refl
    none false = refl

    given : (v : Bool) → bytes_eq q path ≡ v → SharesGiven slices (cond (bytes_eq q path) (Some x) None)
        (λ w. given_at (cond (same_slot own w) ((path, x) ∷ []) []) q)
    given true e = subst (λ o. SharesGiven slices o
        (λ w. given_at (cond (same_slot own w) ((path, x) ∷ []) []) q)) (ap (λ b. cond b (Some x) None) (sym e))
        (subst (λ b. SharesItem slices b x (λ w. given_at (cond (same_slot own w) ((path, x) ∷ []) []) q))
        (sym plain) (own, is, λ w. each true (same_slot own w) e))
    given false e = subst (λ o. SharesGiven slices o
        (λ w. given_at (cond (same_slot own w) ((path, x) ∷ []) []) q)) (ap (λ b. cond b (Some x) None) (sym e))
        (λ w. each false (same_slot own w) e ∙ none (same_slot own w))

    replaced_each : (same v : Bool) → is_replaced ((path, x) ∷ []) q ≡ v
        → is_replaced (cond same ((path, x) ∷ []) []) q ≡ cond same v false
    replaced_each true v e = e
    replaced_each false v e = refl

    never : (same : Bool) → cond same false false ≡ false
    never true = refl
    never false = refl

    replaced : (v : Bool) → is_replaced ((path, x) ∷ []) q ≡ v
        → SharesReplaced slices (is_replaced ((path, x) ∷ []) q)
        (λ w. is_replaced (cond (same_slot own w) ((path, x) ∷ []) []) q)
    replaced true e = subst (λ b. SharesReplaced slices b
        (λ w. is_replaced (cond (same_slot own w) ((path, x) ∷ []) []) q)) (sym e)
        (own, is, replaced_each (same_slot own own) true e ∙ ap (λ b. cond b true false) (same_itself own))
    replaced false e = subst (λ b. SharesReplaced slices b
        (λ w. is_replaced (cond (same_slot own w) ((path, x) ∷ []) []) q)) (sym e)
        (λ w. replaced_each (same_slot own w) false e ∙ never (same_slot own w))

    clean : (v : Bool) → bytes_eq q path ≡ v → (y : Item) → cond (bytes_eq q path) (Some x) None ≡ Some y
        → is_replaced ((path, x) ∷ []) q ≡ false
    clean true e y h =
        ap (λ r. (not (is_folder (Some x)) && starts_with nat_eq r (path ++ 47 ∷ [])) || false)
        ((bytes_eq-Decides q path).0 e)
        ∙ ap (λ v. (not (is_folder (Some x)) && v) || false) (not_below_itself path)
        ∙ ap (λ v. v || false) (and_false (not (is_folder (Some x))))
    clean false e y h = let no : None ≡ Some y = ap (λ b. cond b (Some x) None) (sym e) ∙ h in absurd (cc)

-- ---- the parts of a node

-- the items of a part, which may not be
abbrev pub part_items : Option Node → List ℕ → List Given
part_items None path = []
part_items (Some n) path = items_of n path

abbrev pub IsShared : Slices → Node → Type 0
IsShared slices node = (own : Slot) (path at q : List ℕ) (depth : ℕ) → IsSlotOf slices own → fits node depth ≡ true
    → Shares slices (items_of node at) (λ w. part_items (part slices w node own path) at) q

abbrev Sharing : Slices → Type 0
Sharing slices = (e : Named) × IsShared slices e.node

abbrev bare : (slices : Slices) → List (Sharing slices) → List Named
bare slices es = map (λ e. e.0) es

plain_shares : (slices : Slices) (node : Node) (x : Item) (own : Slot) (path at q : List ℕ)
    → items_of node at ≡ (at, x) ∷ [] → ((w : Slot) → part slices w node own path
    ≡ cond (same_slot own w) (Some node) None)
    → IsSlotOf slices own → is_folder (Some x) ≡ false → Shares slices (items_of node at)
    (λ w. part_items (part slices w node own path) at) q
plain_shares slices node x own path at q items each is plain =
    subst (λ whole. Shares slices whole (λ w. part_items (part slices w node own path) at) q) (sym items)
    (subst (λ parts. Shares slices ((at, x) ∷ []) parts q) (λ i. λ w. sym (ours w) i)
    (item_shares slices own at q x is plain))
  where
    by : (v : Bool) → part_items (cond v (Some node) None) at ≡ cond v ((at, x) ∷ []) []
    by true = items
    by false = refl

    ours : (w : Slot) → part_items (part slices w node own path) at ≡ cond (same_slot own w) ((at, x) ∷ []) []
    ours w = ap (λ o. part_items o at) (each w) ∙ by (same_slot own w)

-- ---- entries

below_apart : (a b : List ℕ) → is_below a b ≡ true → a ≢ b
below_apart a b h e = let no : true ≡ false = sym h ∙ ap (λ x. is_below a x) (sym e)
    ∙ ap is_lt (tied_itself nat_list_cmp_total a) in cc

entry_away : (e : Named) (path q : List ℕ) → is_at_or_below (joined path e.name) q ≡ false
    → IsAway (items_of_entry e path) q
entry_away e path q h = subst (λ g. IsAway g q) (sym (items_entry e path)) (node_away e.node (joined path e.name) q h)

-- The entries behind a name say nothing of what is at it or below it.
entries_away : (es : List Named) (last : List ℕ) (depth : ℕ) (path q : List ℕ)
    → ((m : List ℕ) → is_below last m ≡ true → name_in path q ≢ m) → entries_fit (Some last) es depth ≡ true
    → IsAway (items_in es path) q
entries_away [] last depth path q apart fit = away_none q
entries_away (e ∷ es) last depth path q apart fit =
    let p = fits_cons (Some last) e es depth fit in
    let n = and_parts (is_name e.name) (is_below last e.name) p.0 in
    let form = name_form e.name n.0 in
    away_append (items_of_entry e path) (items_in es path) q
    (entry_away e path q (false_from_ne_true _ (λ h. apart e.name n.1 (name_is path e.name q form.0 form.1 h))))
    (entries_away es e.name depth path q (λ m b. apart m (below_trans last e.name m n.1 b)) p.2)

-- nor of their folder's path
pub entries_below : (es : List Named) (last : Option (List ℕ)) (depth : ℕ) (path : List ℕ)
    → entries_fit last es depth ≡ true → IsAway (items_in es path) path
entries_below [] last depth path fit = away_none path
entries_below (e ∷ es) last depth path fit =
    let p = fits_cons last e es depth fit in
    let form = name_form e.name (and_parts (is_name e.name) (follows last e.name) p.0).0 in
    away_append (items_of_entry e path) (items_in es path) path
    (entry_away e path path (shorter_away (joined path e.name) path (longer_child path e.name form.0)))
    (entries_below es (Some e.name) depth path p.2)

module _ (slices : Slices) (own : Slot) (path at q : List ℕ) (is : IsSlotOf slices own) where
  -- the items of what is kept of entries
  abbrev kept_items : List Named → Slot → List Given
  kept_items es w = items_in (kept slices w own path es) at

  entries_share : (es : List (Sharing slices)) (last : Option (List ℕ)) (depth : ℕ)
      → entries_fit last (bare slices es) depth ≡ true → Shares slices (items_in (bare slices es) at)
      (kept_items (bare slices es)) q
  entries_share [] last depth fit = shares_nothing slices q
  entries_share (e ∷ es) last depth fit = by (is_at_or_below (joined at e.0.name) q) refl
      (entries_share es (Some e.0.name) depth p.2)
    where
      p : (_ : (is_name e.0.name && follows last e.0.name) ≡ true) × (fits e.0.node depth ≡ true)
          × (entries_fit (Some e.0.name) (bare slices es) depth ≡ true)
      p = let all = fits_cons last e.0 (bare slices es) depth fit in (all.0, all.1, all.2)

      form : (0 < length e.0.name) × (has_slash e.0.name ≡ false)
      form = name_form e.0.name (and_parts (is_name e.0.name) (follows last e.0.name) p.0).0

      -- what a part gives of the entry, and then of those behind it
      behind : (o : Option Node) (ks : List Named) → is_at_or_below (joined at e.0.name) q ≡ true
          → IsAway (items_in ks at) q → SaySame q (part_items o (joined at e.0.name))
          (items_in (cons_option (option_map (named e.0.name) o) ks) at)
      behind None ks lies away = say_nothing q (items_in ks at) away
      behind (Some n) ks lies away = subst (λ g. SaySame q g
          (items_of_entry (named e.0.name n) at ++ items_in ks at)) (items_entry (named e.0.name n) at)
          (say_first q (items_of_entry (named e.0.name n) at) (items_in ks at) away)

      past : (o : Option Node) (ks : List Named) → is_at_or_below (joined at e.0.name) q ≡ false
          → SaySame q (items_in ks at) (items_in (cons_option (option_map (named e.0.name) o) ks) at)
      past None ks other = say_itself q (items_in ks at)
      past (Some n) ks other = say_later q (items_of_entry (named e.0.name n) at) (items_in ks at)
          (entry_away (named e.0.name n) at q other)

      others_away : (ks : List Named) → entries_fit (Some e.0.name) ks depth ≡ true
          → is_at_or_below (joined at e.0.name) q ≡ true → IsAway (items_in ks at) q
      others_away ks fit lies = entries_away ks e.0.name depth at q
          (λ m b same. below_apart e.0.name m b (sym (name_is at e.0.name q form.0 form.1 lies) ∙ same)) fit

      by : (v : Bool) → is_at_or_below (joined at e.0.name) q ≡ v
          → Shares slices (items_in (bare slices es) at) (kept_items (bare slices es)) q
          → Shares slices (items_in (bare slices (e ∷ es)) at) (kept_items (bare slices (e ∷ es))) q
      by true lies rest = shares_same slices (items_of e.0.node (joined at e.0.name))
          (items_in (bare slices (e ∷ es)) at) (λ w. part_items
          (part slices w e.0.node (slot_in slices own below_name) below_name) (joined at e.0.name))
          (kept_items (bare slices (e ∷ es))) q
          (subst (λ g. SaySame q g (items_of_entry e.0 at ++ items_in (bare slices es) at)) (items_entry e.0 at)
          (say_first q (items_of_entry e.0 at) (items_in (bare slices es) at)
          (others_away (bare slices es) p.2 lies)))
          (λ w. behind (part slices w e.0.node (slot_in slices own below_name) below_name)
          (kept slices w own path (bare slices es)) lies
          (others_away (kept slices w own path (bare slices es))
          (kept_fits slices w own path (bare slices es) (Some e.0.name) depth p.2) lies))
          (e.1 (slot_in slices own below_name) below_name (joined at e.0.name) q depth
          (slot_stays slices own below_name is) p.1)
        where
          below_name : List ℕ
          below_name = below path e.0.name
      by false other rest = shares_same slices (items_in (bare slices es) at) (items_in (bare slices (e ∷ es)) at)
          (kept_items (bare slices es)) (kept_items (bare slices (e ∷ es))) q
          (say_later q (items_of_entry e.0 at) (items_in (bare slices es) at) (entry_away e.0 at q other))
          (λ w. past (part slices w e.0.node (slot_in slices own (below path e.0.name)) (below path e.0.name))
          (kept slices w own path (bare slices es)) other)
          rest

  -- ---- folders

  -- what a part gives of the folder itself
  abbrev top : List Given → Bool → List Named → List Given
  top given false [] = []
  top given true [] = given
  top given v (k ∷ ks) = given

  top_nothing : (v : Bool) (ks : List Named) → [] ≡ top [] v ks
  top_nothing false [] = refl
  top_nothing true [] = refl
  top_nothing v (k ∷ ks) = refl

  top_own : (given : List Given) (ks : List Named) → top given true ks ≡ given
  top_own given [] = refl
  top_own given (k ∷ ks) = refl

  of_folder : (xs : List Given) (es : List Named) → SaySame q xs (folder_at at ++ items_in es at)
      → SaySame q xs (items_of (Folder es) at)
  of_folder xs es same = subst (SaySame q xs) (sym (items_folder es at)) same

  part_top : (v : Bool) (ks : List Named) → IsAway (items_in ks at) q
      → SaySame q (top (folder_at at) v ks) (part_items (folder_part v ks) at)
  part_top false [] away = say_itself q []
  part_top true [] away = of_folder (folder_at at) [] (say_first q (folder_at at) (items_in [] at) away)
  part_top v (k ∷ ks) away = of_folder (folder_at at) (k ∷ ks) (say_first q (folder_at at) (items_in (k ∷ ks) at) away)

  part_inside : (v : Bool) (ks : List Named) → IsAway (folder_at at) q
      → SaySame q (items_in ks at) (part_items (folder_part v ks) at)
  part_inside false [] away = say_itself q []
  part_inside true [] away = of_folder (items_in [] at) [] (say_later q (folder_at at) (items_in [] at) away)
  part_inside v (k ∷ ks) away = of_folder (items_in (k ∷ ks) at) (k ∷ ks)
      (say_later q (folder_at at) (items_in (k ∷ ks) at) away)

  top_shares : (kept : Slot → List Named) → bytes_eq q at ≡ true
      → Shares slices (folder_at at) (λ w. top (folder_at at) (same_slot own w) (kept w)) q
  top_shares kept here = by (is_root at)
    where
      one : List Given
      one = (at, item.Folder) ∷ []

      given_here : given_at one q ≡ Some item.Folder
      given_here = ap (λ b. cond b (Some item.Folder) None) here

      each : (v : Bool) (ks : List Named) → (given_at (top one v ks) q ≡ None)
          ⊎ (given_at (top one v ks) q ≡ Some item.Folder)
      each false [] = inl refl
      each true [] = inr given_here
      each v (k ∷ ks) = inr given_here

      never : (v : Bool) (ks : List Named) → is_replaced (top one v ks) q ≡ false
      never false [] = refl
      never true [] = refl
      never v (k ∷ ks) = refl

      by : (v : Bool) → Shares slices (cond v [] one) (λ w. top (cond v [] one) (same_slot own w) (kept w)) q
      by true = subst (λ parts. Shares slices [] parts q) (λ i. λ w. top_nothing (same_slot own w) (kept w) i)
          (shares_nothing slices q)
      by false = record {
        given = subst (λ o. SharesGiven slices o (λ w. given_at (top one (same_slot own w) (kept w)) q))
            (sym given_here) (
              (λ w. each (same_slot own w) (kept w)),
              (
                own,
                is,
                ap (λ v. given_at (top one v (kept own)) q) (same_itself own)
                    ∙ ap (λ g. given_at g q) (top_own one (kept own)) ∙ given_here,
              ),
            );
        replaced = λ w. never (same_slot own w) (kept w);
        clean = λ x e. refl;
      }

  folder_shares : (es : List (Sharing slices)) (depth : ℕ) → fits (Folder (bare slices es)) depth ≡ true
      → Shares slices (items_of (Folder (bare slices es)) at)
      (λ w. part_items (part slices w (Folder (bare slices es)) own path) at) q
  folder_shares es depth fit =
      subst (λ parts. Shares slices (items_of (Folder (bare slices es)) at) parts q)
      (λ i. λ w. part_items (sym (part_folder slices w own path (bare slices es)) i) at)
      (by (bytes_eq q at) refl)
    where
      entries : entries_fit None (bare slices es) (suc depth) ≡ true
      entries = folder_entries_fit (bare slices es) depth fit

      no_entries : (ks : List Named) → entries_fit None ks (suc depth) ≡ true → bytes_eq q at ≡ true
          → IsAway (items_in ks at) q
      no_entries ks fit here = subst (IsAway (items_in ks at)) (sym ((bytes_eq-Decides q at).0 here))
          (entries_below ks None (suc depth) at fit)

      by : (v : Bool) → bytes_eq q at ≡ v → Shares slices (items_of (Folder (bare slices es)) at)
          (λ w. part_items (folder_part (same_slot own w) (kept slices w own path (bare slices es))) at) q
      by true here = shares_same slices (folder_at at) (items_of (Folder (bare slices es)) at)
          (λ w. top (folder_at at) (same_slot own w) (kept slices w own path (bare slices es)))
          (λ w. part_items (folder_part (same_slot own w) (kept slices w own path (bare slices es))) at) q
          (of_folder (folder_at at) (bare slices es) (say_first q (folder_at at) (items_in (bare slices es) at)
          (no_entries (bare slices es) entries here)))
          (λ w. part_top (same_slot own w) (kept slices w own path (bare slices es))
          (no_entries (kept slices w own path (bare slices es))
          (kept_fits slices w own path (bare slices es) None (suc depth) entries) here))
          (top_shares (λ w. kept slices w own path (bare slices es)) here)
      by false other = shares_same slices (items_in (bare slices es) at) (items_of (Folder (bare slices es)) at)
          (kept_items (bare slices es))
          (λ w. part_items (folder_part (same_slot own w) (kept slices w own path (bare slices es))) at) q
          (of_folder (items_in (bare slices es) at) (bare slices es)
          (say_later q (folder_at at) (items_in (bare slices es) at) (folder_elsewhere at q other)))
          (λ w. part_inside (same_slot own w) (kept slices w own path (bare slices es)) (folder_elsewhere at q other))
          (entries_share es None (suc depth) entries)

-- ---- nodes

share_layer : (slices : Slices) (x : layer.Node-F Node Named)
    (y : layer.Node-F ((n : Node) × IsShared slices n) (Sharing slices))
    → map-Node ((n : Node) × IsShared slices n) (Sharing slices) Node Named (λ e. e.0) (λ e. e.0) y ≡ x
    → IsShared slices (roll-Node x)
share_layer slices x (layer.Folder es) is = subst (λ z. IsShared slices (roll-Node z)) is
    (subst (IsShared slices) (sym (rolls-Folder (bare slices es)))
    (λ own path at q depth of fit. folder_shares slices own path at q of es depth fit))
share_layer slices x (layer.File exec bytes) is = subst (λ z. IsShared slices (roll-Node z)) is
    (subst (IsShared slices) (sym (rolls-File exec bytes)) (λ own path at q depth of fit.
    plain_shares slices (File exec bytes) (item.File exec bytes) own path at q (items_file exec bytes at)
    (λ w. part_file slices w own path exec bytes) of refl))
share_layer slices x (layer.Link target) is = subst (λ z. IsShared slices (roll-Node z)) is
    (subst (IsShared slices) (sym (rolls-Link target)) (λ own path at q depth of fit.
    plain_shares slices (Link target) (item.Link target) own path at q (items_link target at)
    (λ w. part_link slices w own path target) of refl))

pub node_shares : (slices : Slices) (node : Node) → IsShared slices node
node_shares slices = ind-Node (IsShared slices) (λ e. IsShared slices e.node) (share_layer slices)
    (λ x y is. subst (λ (z : layer.Named-F Node Named). IsShared slices (roll-Named z).node) is y.node.1)
