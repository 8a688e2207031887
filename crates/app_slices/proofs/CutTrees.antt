-- What is known of the trees that an application is cut into.
use Rattle.std.proofs.Common.{◌≡◌, ℕ, ◌∙◌, Bool, true, refl, List, [], ◌∷◌, Option, Some, None, sym, ap, subst}
use Rattle.std.specs.Prelude.{IfSome, nat_le, length}
use Rattle.std.specs.List.{filter_map, cons_option, AllByRecursion}
use Rattle.std.proofs.lemmas.Bool.{and_parts}
use Rattle.tree_canon.specs.declared.node.Node.{Node}
use Rattle.tree_canon.specs.declared.node.Named.{Named}
use Rattle.tree_canon.specs.declared.node.Node.TheVariants.{File, Link, rolls-Folder, rolls-File, rolls-Link}
use Rattle.tree_canon.specs.declared.node.Node.TheOpen as layer
use Rattle.tree_canon.specs.declared.node.Node.TheViews.{roll-Node}
use Rattle.tree_canon.specs.declared.node.Node.TheFolds.{map-Node, ind-Node}
use Rattle.tree_canon.specs.Fits.{fits, is_tree}
use Rattle.tree_canon.specs.Spelling.{limit, spelling_of}
use Rattle.app_slices.specs.Slots.{Slices, Slot, slots}
use Rattle.app_slices.specs.Slices.{tree_of, slices_of}
use Rattle.app_slices.specs.Laying.{LaysAs, InOne}
use Rattle.app_slices.specs.Listing.{AreOfSlots}
use Rattle.app_slices.proofs.Parts.{part_file, part_link, part_tree}
use Rattle.app_slices.proofs.Laying.{slices_lay}
use Rattle.app_slices.proofs.Listing.{are_of_slots}
use Rattle.app_slices.proofs.InOne.{one_slot, in_one}

tree_fits : (app : Node) → is_tree app ≡ true → fits app 0 ≡ true
tree_fits app h = (and_parts (fits app 0) (nat_le (length (spelling_of app)) limit) h).0

-- each is a tree
pub cut_trees : (slices : Slices) (app : Node) → is_tree app ≡ true
    → AllByRecursion (λ tree. is_tree tree ≡ true) (slices_of slices app)
unfolding slices_of
cut_trees slices app h = all (slots slices)
  where
    by : (o : Option Node) (trees : List Node) → IfSome o (λ tree. is_tree tree ≡ true)
        → AllByRecursion (λ tree. is_tree tree ≡ true) trees → AllByRecursion (λ tree. is_tree tree ≡ true)
        (cons_option o trees)
    by None trees one rest = rest
    by (Some tree) trees one rest = (one, rest)

    all : (ws : List Slot) → AllByRecursion (λ tree. is_tree tree ≡ true) (filter_map (tree_of slices app) ws)
    all [] = tt
    all (w ∷ ws) = by (tree_of slices app w) (filter_map (tree_of slices app) ws) (part_tree slices w app h) (all ws)

-- a file or a link is the one tree
pub file_uncut : (slices : Slices) (exec : Bool) (bytes : List ℕ)
    → slices_of slices (File exec bytes) ≡ File exec bytes ∷ []
unfolding slices_of
file_uncut slices exec bytes = ap (λ f. filter_map f (slots slices))
    (λ i. λ w. part_file slices w None [] exec bytes i) ∙ one_slot slices (File exec bytes) None tt

pub link_uncut : (slices : Slices) (target : List ℕ) → slices_of slices (Link target) ≡ Link target ∷ []
unfolding slices_of
link_uncut slices target = ap (λ f. filter_map f (slots slices)) (λ i. λ w. part_link slices w None [] target i)
    ∙ one_slot slices (Link target) None tt

-- laid in order they leave what the application leaves
abbrev Lays : Slices → Node → Type 0
Lays slices app = fits app 0 ≡ true → LaysAs (slices_of slices app) app

whole_lays : (slices : Slices) (app : Node) → slices_of slices app ≡ app ∷ [] → Lays slices app
whole_lays slices app is fit = subst (λ trees. LaysAs trees app) (sym is) (λ root place files. refl)

lays_layer : (slices : Slices) (x : layer.Node-F Node Named)
    (y : layer.Node-F ((n : Node) × Lays slices n) ((e : Named) × Unit {0}))
    → map-Node ((n : Node) × Lays slices n) ((e : Named) × Unit {0}) Node Named (λ e. e.0) (λ e. e.0) y ≡ x
    → Lays slices (roll-Node x)
lays_layer slices (layer.Folder es) y is = subst (Lays slices) (sym (rolls-Folder es)) (slices_lay slices es)
lays_layer slices (layer.File exec bytes) y is = subst (Lays slices) (sym (rolls-File exec bytes))
    (whole_lays slices (File exec bytes) (file_uncut slices exec bytes))
lays_layer slices (layer.Link target) y is = subst (Lays slices) (sym (rolls-Link target))
    (whole_lays slices (Link target) (link_uncut slices target))

pub cut_lays : (slices : Slices) (app : Node) (trees : List Node) → is_tree app ≡ true
    → trees ≡ slices_of slices app → LaysAs trees app
cut_lays slices app trees tree is = subst (λ ts. LaysAs ts app) (sym is)
    (ind-Node (Lays slices) (λ e. Unit {0}) (lays_layer slices) (λ x y e. tt) app (tree_fits app tree))

-- each file and each link of the application is in one of them
pub cut_once : (slices : Slices) (app : Node) (trees : List Node) → is_tree app ≡ true
    → trees ≡ slices_of slices app → InOne trees app
cut_once slices app trees tree is = subst (λ ts. InOne ts app) (sym is) (in_one slices app (tree_fits app tree))

-- each has the items of its slot and the folders above them
pub cut_sorted : (slices : Slices) (app : Node) → is_tree app ≡ true → AreOfSlots slices app
cut_sorted slices app tree = are_of_slots slices app (tree_fits app tree)
