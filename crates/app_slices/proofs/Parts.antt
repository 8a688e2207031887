-- The parts of a node: what they are made of, and that each is a tree.
use Rattle.std.proofs.Common.{◌≡◌, ℕ, suc, ◌+◌, ◌^◌, ◌≤◌, ◌<◌, ◌∙◌, Bool, true, false, cond, ◌&&◌, List, [], ◌∷◌, map}
use Rattle.std.proofs.Common.{length, Option, Some, None, refl, sym, ap, subst, arith, length-append}
use Rattle.std.specs.Prelude.{IfSome, nat_lt, nat_le}
use Rattle.std.specs.List.{filter_map, cons_option}
use Rattle.std.specs.Option.{option_map}
use Rattle.std.specs.Ordering.{nat_cmp, is_lt}
use Rattle.std.specs.declared.cmp.Ordering.{Ordering}
use Rattle.std.specs.declared.cmp.Ordering.TheVariants.{Less, Equal, Greater}
use Rattle.std.specs.Cmp.Lexicographic.{slice_cmp}
use Rattle.std.proofs.lemmas.Bool.{and_parts, and_from, ltb-true, lt-ltb, leb-true, le-leb}
use Rattle.std.proofs.lemmas.Cmp.{nat_list_cmp_total}
use Rattle.tree_canon.specs.declared.node.Node.{Node}
use Rattle.tree_canon.specs.declared.node.Named.{Named}
use Rattle.tree_canon.specs.declared.node.Node.TheVariants.{Folder, File, Link, rolls-Folder, rolls-File, rolls-Link}
use Rattle.tree_canon.specs.declared.node.Node.TheOpen as layer
use Rattle.tree_canon.specs.declared.node.Node.TheViews.{roll-Node, roll-Named}
use Rattle.tree_canon.specs.declared.node.Node.TheFolds.{map-Node, ind-Node, fold-roll-Node, fold_out-Named}
use Rattle.tree_canon.specs.Fits.{Fitting, fits, entries_fit, name_fits, is_tree}
use Rattle.tree_canon.specs.Names.{is_name, is_below, follows}
use Rattle.tree_canon.specs.Spelling.{limit, magic, folder_head, name_bytes, node_bytes, entry_bytes, entries_bytes}
use Rattle.tree_canon.specs.Spelling.{spelling_of}
use Rattle.tree_canon.proofs.Equations.{fits_folder, fits_named, node_bytes_folder, entry_bytes_is}
use Rattle.tree_canon.proofs.Nodes.{fits_cons}
use Rattle.app_slices.specs.Slots.{Slices, Slot, below, slot_in, same_slot}
use Rattle.app_slices.specs.Slices.{Part, EntryPart, folder_part, part_step, named, entry_part_step, part, entry_part}
use Rattle.app_slices.specs.Slices.{entries_part, tree_of}

-- ---- what they are made of

-- an entry's part, by the part of its node
abbrev pub kept_entry : Slices → Slot → Slot → List ℕ → Named → Option Named
kept_entry slices wanted own path e = option_map (named e.name)
    (part slices wanted e.node (slot_in slices own (below path e.name)) (below path e.name))

abbrev pub kept : Slices → Slot → Slot → List ℕ → List Named → List Named
kept slices wanted own path es = filter_map (kept_entry slices wanted own path) es

pub entry_part_is : (slices : Slices) (wanted own : Slot) (path : List ℕ) (e : Named)
    → entry_part slices wanted e own path ≡ kept_entry slices wanted own path e
entry_part_is slices wanted own path e = ap (λ (f : EntryPart). f own path)
    (fold_out-Named Part EntryPart (part_step wanted) (entry_part_step slices) e)

pub entries_part_is : (slices : Slices) (wanted own : Slot) (path : List ℕ) (es : List Named)
    → entries_part slices wanted es own path ≡ kept slices wanted own path es
entries_part_is slices wanted own path [] = refl
entries_part_is slices wanted own path (e ∷ es) = λ i. cons_option (entry_part_is slices wanted own path e i)
    (entries_part_is slices wanted own path es i)

filter_map-map : {X Y Z : Type 0} (h : Y → Option Z) (f : X → Y) (xs : List X)
    → filter_map h (map f xs) ≡ filter_map (λ x. h (f x)) xs
filter_map-map h f [] = refl
filter_map-map h f (x ∷ xs) = ap (cons_option (h (f x))) (filter_map-map h f xs)

pub part_folder : (slices : Slices) (wanted own : Slot) (path : List ℕ) (es : List Named)
    → part slices wanted (Folder es) own path ≡ folder_part (same_slot own wanted)
    (kept slices wanted own path es)
part_folder slices wanted own path es =
    ap (λ (f : Part). f own path) (ap (part slices wanted) (sym (rolls-Folder es))
    ∙ fold-roll-Node Part EntryPart (part_step wanted) (entry_part_step slices) (layer.Folder es))
    ∙ ap (folder_part (same_slot own wanted)) (filter_map-map (λ (e : EntryPart). e own path)
    (entry_part slices wanted) es ∙ entries_part_is slices wanted own path es)

pub part_file : (slices : Slices) (wanted own : Slot) (path : List ℕ) (exec : Bool) (bytes : List ℕ)
    → part slices wanted (File exec bytes) own path ≡ cond (same_slot own wanted) (Some (File exec bytes)) None
part_file slices wanted own path exec bytes = ap (λ (f : Part). f own path)
    (ap (part slices wanted) (sym (rolls-File exec bytes)) ∙ fold-roll-Node Part EntryPart (part_step wanted)
    (entry_part_step slices) (layer.File exec bytes))

pub part_link : (slices : Slices) (wanted own : Slot) (path target : List ℕ)
    → part slices wanted (Link target) own path ≡ cond (same_slot own wanted) (Some (Link target)) None
part_link slices wanted own path target = ap (λ (f : Part). f own path)
    (ap (part slices wanted) (sym (rolls-Link target)) ∙ fold-roll-Node Part EntryPart (part_step wanted)
    (entry_part_step slices) (layer.Link target))

-- ---- names

less_is : (o : Ordering) → is_lt o ≡ true → o ≡ Less
less_is Less h = refl
less_is Equal h = absurd (cc)
less_is Greater h = absurd (cc)

pub below_trans : (a b c : List ℕ) → is_below a b ≡ true → is_below b c ≡ true → is_below a c ≡ true
below_trans a b c x y = ap is_lt (nat_list_cmp_total.trans a b c (less_is (slice_cmp nat_cmp a b) x)
    (less_is (slice_cmp nat_cmp b c) y))

follows_on : (last : Option (List ℕ)) (m n : List ℕ) → follows last m ≡ true → is_below m n ≡ true
    → follows last n ≡ true
follows_on None m n a b = refl
follows_on (Some l) m n a b = below_trans l m n a b

fits_more : (last : Option (List ℕ)) (e : Named) (es : List Named) (depth : ℕ) → name_fits last e.name ≡ true
    → fits e.node depth ≡ true → entries_fit (Some e.name) es depth ≡ true
    → entries_fit last (e ∷ es) depth ≡ true
fits_more last e es depth name node rest =
    ap (λ (f : Fitting). name_fits last f.0 && (f.1 depth && entries_fit (Some f.0) es depth)) (fits_named e)
    ∙ and_from (name_fits last e.name) _ name (and_from (fits e.node depth) _ node rest)

-- entries that fit behind a name fit behind an earlier one
fits_earlier : (es : List Named) (last : Option (List ℕ)) (m : List ℕ) (depth : ℕ) → follows last m ≡ true
    → entries_fit (Some m) es depth ≡ true → entries_fit last es depth ≡ true
fits_earlier [] last m depth behind h = refl
fits_earlier (e ∷ es) last m depth behind h =
    let p = fits_cons (Some m) e es depth h in
    let n = and_parts (is_name e.name) (is_below m e.name) p.0 in
    fits_more last e es depth (and_from (is_name e.name) (follows last e.name) n.0
    (follows_on last m e.name behind n.1)) p.1 p.2

-- ---- each part is a tree

-- a node fits where another does, and isn't longer
pub record IsWithin (n whole : Node) : Type 0 where
  pub fit : (depth : ℕ) → fits whole depth ≡ true → fits n depth ≡ true
  pub short : length (node_bytes n) ≤ length (node_bytes whole)

within_itself : (n : Node) → IsWithin n n
within_itself n = record { fit = λ depth h. h; short = omega arith }

abbrev IsCut : Slices → Node → Type 0
IsCut slices node = (wanted own : Slot) (path : List ℕ)
    → IfSome (part slices wanted node own path) (λ n. IsWithin n node)

abbrev Cut : Slices → Type 0
Cut slices = (e : Named) × IsCut slices e.node

abbrev bare : (slices : Slices) → List (Cut slices) → List Named
bare slices es = map (λ e. e.0) es

module _ (slices : Slices) (wanted own : Slot) (path : List ℕ) where
  kept_fit : (es : List (Cut slices)) (last : Option (List ℕ)) (depth : ℕ)
      → entries_fit last (bare slices es) depth ≡ true → entries_fit last
      (kept slices wanted own path (bare slices es)) depth ≡ true
  kept_fit [] last depth h = refl
  kept_fit (e ∷ es) last depth h = by (part slices wanted e.0.node (slot_in slices own (below path e.0.name))
      (below path e.0.name)) (e.1 wanted (slot_in slices own (below path e.0.name)) (below path e.0.name))
      (kept_fit es (Some e.0.name) depth p.2)
    where
      p : (_ : name_fits last e.0.name ≡ true) × (fits e.0.node depth ≡ true)
          × (entries_fit (Some e.0.name) (bare slices es) depth ≡ true)
      p = let all = fits_cons last e.0 (bare slices es) depth h in (all.0, all.1, all.2)

      by : (o : Option Node) → IfSome o (λ n. IsWithin n e.0.node)
          → entries_fit (Some e.0.name) (kept slices wanted own path (bare slices es)) depth ≡ true
          → entries_fit last (cons_option (option_map (named e.0.name) o)
          (kept slices wanted own path (bare slices es))) depth ≡ true
      by None w rest = fits_earlier (kept slices wanted own path (bare slices es)) last e.0.name depth
          (and_parts (is_name e.0.name) (follows last e.0.name) p.0).1 rest
      by (Some n) w rest = fits_more last (named e.0.name n) (kept slices wanted own path (bare slices es)) depth
          p.0 (w.fit depth p.1) rest

  kept_few : (es : List Named) → length (kept slices wanted own path es) ≤ length es
  kept_few [] = omega arith
  kept_few (e ∷ es) = by (kept_entry slices wanted own path e) (kept_few es)
    where
      by : (o : Option Named) → length (kept slices wanted own path es) ≤ length es
          → length (cons_option o (kept slices wanted own path es)) ≤ length (e ∷ es)
      by None few = omega arith
      by (Some x) few = omega arith

  kept_short : (es : List (Cut slices)) → length (entries_bytes (kept slices wanted own path (bare slices es)))
      ≤ length (entries_bytes (bare slices es))
  kept_short [] = omega arith
  kept_short (e ∷ es) = by (part slices wanted e.0.node (slot_in slices own (below path e.0.name))
      (below path e.0.name)) (e.1 wanted (slot_in slices own (below path e.0.name)) (below path e.0.name))
      (kept_short es)
    where
      one : (n : Named) (ns : List Named) → length (entries_bytes (n ∷ ns))
          ≡ length (name_bytes n.name) + length (node_bytes n.node) + length (entries_bytes ns)
      one n ns = length-append (entry_bytes n) (entries_bytes ns)
          ∙ ap (λ k. k + length (entries_bytes ns)) (ap length (entry_bytes_is n)
          ∙ length-append (name_bytes n.name) (node_bytes n.node))

      by : (o : Option Node) → IfSome o (λ n. IsWithin n e.0.node)
          → length (entries_bytes (kept slices wanted own path (bare slices es)))
          ≤ length (entries_bytes (bare slices es))
          → length (entries_bytes (cons_option (option_map (named e.0.name) o)
          (kept slices wanted own path (bare slices es)))) ≤ length (entries_bytes (bare slices (e ∷ es)))
      by None w few = let whole : length (entries_bytes (bare slices (e ∷ es)))
          ≡ length (name_bytes e.0.name) + length (node_bytes e.0.node) + length
          (entries_bytes (bare slices es)) = one e.0 (bare slices es) in omega arith
      by (Some n) w few =
          let whole : length (entries_bytes (bare slices (e ∷ es)))
          ≡ length (name_bytes e.0.name) + length (node_bytes e.0.node) + length
          (entries_bytes (bare slices es)) = one e.0 (bare slices es) in
          let now : length (entries_bytes (named e.0.name n ∷ kept slices wanted own path (bare slices es)))
          ≡ length (name_bytes e.0.name) + length (node_bytes n) + length
          (entries_bytes (kept slices wanted own path (bare slices es))) = one (named e.0.name n)
          (kept slices wanted own path (bare slices es)) in
          let less : length (node_bytes n) ≤ length (node_bytes e.0.node) = w.short in
          omega arith

  folder_fit : (es : List (Cut slices)) (depth : ℕ) → fits (Folder (bare slices es)) depth ≡ true
      → fits (Folder (kept slices wanted own path (bare slices es))) depth ≡ true
  folder_fit es depth h =
      let whole = and_parts (nat_le depth 64) _ (sym (fits_folder (bare slices es) depth) ∙ h) in
      let both = and_parts (nat_lt (length (bare slices es)) (2 ^ 32))
      (entries_fit None (bare slices es) (suc depth)) whole.1 in
      let most : length (bare slices es) < 2 ^ 32 = ltb-true (length (bare slices es)) (2 ^ 32) both.0 in
      let few : length (kept slices wanted own path (bare slices es))
      ≤ length (bare slices es) = kept_few (bare slices es) in
      fits_folder (kept slices wanted own path (bare slices es)) depth
      ∙ and_from (nat_le depth 64) _ whole.0 (and_from
      (nat_lt (length (kept slices wanted own path (bare slices es))) (2 ^ 32)) _
      (lt-ltb (length (kept slices wanted own path (bare slices es))) (2 ^ 32) (omega arith))
      (kept_fit es None (suc depth) both.1))

  folder_length : (es : List Named) → length (node_bytes (Folder es)) ≡ 5 + length (entries_bytes es)
  folder_length es = ap length (node_bytes_folder es) ∙ length-append (folder_head (length es)) (entries_bytes es)

  folder_within : (es : List (Cut slices)) → IsWithin (Folder (kept slices wanted own path (bare slices es)))
      (Folder (bare slices es))
  folder_within es = record {
    fit = folder_fit es;
    short = let whole : length (node_bytes (Folder (bare slices es)))
        ≡ 5 + length (entries_bytes (bare slices es)) = folder_length (bare slices es) in
        let now : length (node_bytes (Folder (kept slices wanted own path (bare slices es))))
        ≡ 5 + length (entries_bytes (kept slices wanted own path (bare slices es))) = folder_length
        (kept slices wanted own path (bare slices es)) in
        let less : length (entries_bytes (kept slices wanted own path (bare slices es)))
        ≤ length (entries_bytes (bare slices es)) = kept_short es in
        omega arith;
  }

  folder_cut : (es : List (Cut slices)) → IfSome (part slices wanted (Folder (bare slices es)) own path)
      (λ n. IsWithin n (Folder (bare slices es)))
  folder_cut es = subst (λ o. IfSome o (λ n. IsWithin n (Folder (bare slices es))))
      (sym (part_folder slices wanted own path (bare slices es)))
      (by (same_slot own wanted) (kept slices wanted own path (bare slices es)) (folder_within es))
    where
      by : (v : Bool) (ks : List Named) → IsWithin (Folder ks) (Folder (bare slices es))
          → IfSome (folder_part v ks) (λ n. IsWithin n (Folder (bare slices es)))
      by true [] w = w
      by false [] w = tt
      by v (k ∷ ks) w = w

  one_cut : (n : Node) (v : Bool) → IfSome (cond v (Some n) None) (λ m. IsWithin m n)
  one_cut n true = within_itself n
  one_cut n false = tt

cut_layer : (slices : Slices) (x : layer.Node-F Node Named)
    (y : layer.Node-F ((n : Node) × IsCut slices n) (Cut slices))
    → map-Node ((n : Node) × IsCut slices n) (Cut slices) Node Named (λ e. e.0) (λ e. e.0) y ≡ x
    → IsCut slices (roll-Node x)
cut_layer slices x (layer.Folder es) is = subst (λ z. IsCut slices (roll-Node z)) is
    (subst (IsCut slices) (sym (rolls-Folder (bare slices es)))
    (λ wanted own path. folder_cut slices wanted own path es))
cut_layer slices x (layer.File exec bytes) is = subst (λ z. IsCut slices (roll-Node z)) is
    (subst (IsCut slices) (sym (rolls-File exec bytes)) (λ wanted own path.
    subst (λ o. IfSome o (λ n. IsWithin n (File exec bytes))) (sym (part_file slices wanted own path exec bytes))
    (one_cut slices wanted own path (File exec bytes) (same_slot own wanted))))
cut_layer slices x (layer.Link target) is = subst (λ z. IsCut slices (roll-Node z)) is
    (subst (IsCut slices) (sym (rolls-Link target)) (λ wanted own path.
    subst (λ o. IfSome o (λ n. IsWithin n (Link target))) (sym (part_link slices wanted own path target))
    (one_cut slices wanted own path (Link target) (same_slot own wanted))))

pub node_cut : (slices : Slices) (node : Node) → IsCut slices node
node_cut slices = ind-Node (IsCut slices) (λ e. IsCut slices e.node) (cut_layer slices)
    (λ x y is. subst (λ (z : layer.Named-F Node Named). IsCut slices (roll-Named z).node) is y.node.1)

-- each part fits at the depth of the whole
pub part_fits : (slices : Slices) (wanted own : Slot) (path : List ℕ) (node : Node) (depth : ℕ)
    → fits node depth ≡ true → IfSome (part slices wanted node own path) (λ n. fits n depth ≡ true)
part_fits slices wanted own path node depth h = by (part slices wanted node own path)
    (node_cut slices node wanted own path)
  where
    by : (o : Option Node) → IfSome o (λ n. IsWithin n node) → IfSome o (λ n. fits n depth ≡ true)
    by None w = tt
    by (Some n) w = w.fit depth h

-- each part of a tree is one
pub part_tree : (slices : Slices) (wanted : Slot) (app : Node) → is_tree app ≡ true
    → IfSome (tree_of slices app wanted) (λ tree. is_tree tree ≡ true)
part_tree slices wanted app h = by (tree_of slices app wanted) (node_cut slices app wanted None [])
  where
    p : (fits app 0 ≡ true) × (nat_le (length (spelling_of app)) limit ≡ true)
    p = and_parts (fits app 0) (nat_le (length (spelling_of app)) limit) h

    spelled : (n : Node) → length (spelling_of n) ≡ 5 + length (node_bytes n)
    spelled n = length-append magic (node_bytes n)

    by : (o : Option Node) → IfSome o (λ n. IsWithin n app) → IfSome o (λ n. is_tree n ≡ true)
    by None w = tt
    by (Some n) w =
        let most : length (spelling_of app) ≤ limit = leb-true (length (spelling_of app)) limit p.1 in
        let whole : length (spelling_of app) ≡ 5 + length (node_bytes app) = spelled app in
        let now : length (spelling_of n) ≡ 5 + length (node_bytes n) = spelled n in
        let less : length (node_bytes n) ≤ length (node_bytes app) = w.short in
        and_from (fits n 0) _ (w.fit 0 p.0) (le-leb (length (spelling_of n)) limit (omega arith))

-- ---- what is kept of entries

abbrev cuts : (slices : Slices) → List Named → List (Cut slices)
cuts slices [] = []
cuts slices (e ∷ es) = (e, node_cut slices e.node) ∷ cuts slices es

bare_cuts : (slices : Slices) (es : List Named) → bare slices (cuts slices es) ≡ es
bare_cuts slices [] = refl
bare_cuts slices (e ∷ es) = ap (λ xs. e ∷ xs) (bare_cuts slices es)

pub kept_fits : (slices : Slices) (wanted own : Slot) (path : List ℕ) (es : List Named) (last : Option (List ℕ))
    (depth : ℕ) → entries_fit last es depth ≡ true → entries_fit last (kept slices wanted own path es) depth
    ≡ true
kept_fits slices wanted own path es last depth h =
    subst (λ xs. entries_fit last (kept slices wanted own path xs) depth ≡ true) (bare_cuts slices es)
    (kept_fit slices wanted own path (cuts slices es) last depth
    (ap (λ xs. entries_fit last xs depth) (bare_cuts slices es) ∙ h))

pub folder_entries_fit : (es : List Named) (depth : ℕ) → fits (Folder es) depth ≡ true
    → entries_fit None es (suc depth) ≡ true
folder_entries_fit es depth h = (and_parts (nat_lt (length es) (2 ^ 32)) (entries_fit None es (suc depth))
    (and_parts (nat_le depth 64) _ (sym (fits_folder es depth) ∙ h)).1).1
