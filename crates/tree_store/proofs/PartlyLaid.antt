-- What stands where the calls that lay a tree were cut off.
use Rattle.std.proofs.Common.{◌≡◌, ◌+◌, ◌-◌, ◌∙◌, refl, sym, ap, subst, arith, ℕ, zero, suc, Bool, true, false, not}
use Rattle.std.proofs.Common.{cond, ◌==◌, ◌&&◌, inl, inr, ◌++◌, List, [], ◌∷◌, length, take, drop, Option, Some, None}
use Rattle.std.proofs.Common.{is_some, Result}
use Rattle.std.specs.Prelude.{Contains, IfSome, IsTrue, OnErr, OnOk, min}
use Rattle.std.specs.List.{onto_first}
use Rattle.std.specs.Option.{option_map}
use Rattle.std.proofs.lemmas.List.{length-take, take-take}
use Rattle.std.proofs.lemmas.List.Elements.{Contains-append_left, Contains-append_right}
use Rattle.cnb_world.specs.Calls.{AppendsSome}
use Rattle.cnb_world.specs.Path.{is_part, joined}
use Rattle.cnb_world.specs.Tree.{Tree, folder_made, is_folder, item_at, kind_of}
use Rattle.cnb_world.specs.declared.world.FileFault.{FileFault}
use Rattle.cnb_world.specs.declared.world.Item.{Item}
use Rattle.cnb_world.specs.declared.world.Item.TheVariants as item
use Rattle.cnb_world.specs.declared.world.Kind.{Kind}
use Rattle.cnb_world.specs.declared.world.Kind.TheVariants as kind
use Rattle.tree_canon.specs.Names.{is_name}
use Rattle.tree_canon.specs.declared.node.Named.{Named}
use Rattle.tree_canon.specs.declared.node.Node.{Node}
use Rattle.tree_canon.specs.declared.node.Node.TheVariants.{Folder, File, Link}
use Rattle.tree_store.specs.Around.{KeptAround}
use Rattle.tree_store.specs.Laying.{file_set}
use Rattle.tree_store.specs.Overlay.{Given, folder_at, items_of, items_of_entry, items_under, parts_of, way_parts}
use Rattle.tree_store.specs.Partly.{LaidPartly, items_placed}
use Rattle.tree_store.proofs.Overlays.{items_entry, items_file, items_folder, items_in, items_link}
use Rattle.tree_store.proofs.Partly.{AreAmong, folder_has, made_partly, partly_more, partly_then, partly_wider}
use Rattle.tree_store.proofs.Partly.{written_partly}
use Rattle.tree_store.proofs.Pieces.{one_piece}
use Rattle.tree_store.proofs.Places.{name_form, part_form}

-- ---- a file

-- a piece, of which a call may have added the first bytes alone
pub cut_partly : (o o1 o2 : Option Tree) (path bytes piece : List ℕ) (exec : Bool) (done end : ℕ)
    → piece ≡ take (end - done) (drop done bytes) → o1 ≡ option_map (file_set path exec (take done bytes)) o
    → AppendsSome o1 o2 path piece → LaidPartly path ((path, item.File exec bytes) ∷ []) o o2
cut_partly o o1 o2 path bytes piece exec done end is before (inl same) = written_partly path exec bytes done o o2
    (same ∙ before)
cut_partly o o1 o2 path bytes piece exec done end is before
    (inr (can, count, le, now)) = written_partly path exec bytes (done + count) o o2
    (one_piece o o1 o2 path bytes (take count piece) exec done (done + count) (omega arith) first before now)
  where
    most : length piece ≡ min (end - done) (length (drop done bytes))
    most = ap length is ∙ length-take (end - done) (drop done bytes)

    first : take count piece ≡ take ((done + count) - done) (drop done bytes)
    first = ap (take count) is ∙ take-take count (end - done) (drop done bytes) (omega (arith, most, le))
        ∙ ap (λ n. take n (drop done bytes)) (let e : count ≡ (done + count) - done = omega arith in e)

-- ---- the kind that was told

pub kind_other : (path : List ℕ) (o : Option Tree) (k : Kind) → (k ≡ kind.Folder → ⊥) → (k ≡ kind.Absent → ⊥)
    → IfSome o (λ files. k ≡ kind_of (item_at files path)) → IfSome o
    (λ files. IsTrue (is_some (item_at files path) && not (is_folder (item_at files path))))
kind_other path None k folder absent told = tt
kind_other path (Some files) k folder absent told = by (item_at files path) told
  where
    by : (found : Option Item) → k ≡ kind_of found → IsTrue (is_some found && not (is_folder found))
    by None h = absurd (absent h)
    by (Some item.Folder) h = absurd (folder h)
    by (Some (item.File exec bytes)) h = refl
    by (Some (item.Link target)) h = refl
    by (Some item.Odd) h = refl

-- ---- nodes

pub file_partly : (node : Node) (path : List ℕ) (exec : Bool) (bytes : List ℕ) (o o1 : Option Tree)
    → node ≡ File exec bytes → LaidPartly path ((path, item.File exec bytes) ∷ []) o o1
    → LaidPartly path (items_of node path) o o1
file_partly node path exec bytes o o1 is h = subst (λ g. LaidPartly path g o o1)
    (sym (ap (λ n. items_of n path) is ∙ items_file exec bytes path)) h

pub link_partly : (node : Node) (path target : List ℕ) (o o1 : Option Tree) → node ≡ Link target
    → LaidPartly path ((path, item.Link target) ∷ []) o o1 → LaidPartly path (items_of node path) o o1
link_partly node path target o o1 is h = subst (λ g. LaidPartly path g o o1)
    (sym (ap (λ n. items_of n path) is ∙ items_link target path)) h

-- what is among the items of a folder
pub folder_among : (all : List Named) (path : List ℕ) → AreAmong (folder_at path) (items_of (Folder all) path)
folder_among all path one has = subst (λ g. Contains {X = Given} g one) (sym (items_folder all path))
    (Contains-append_left (folder_at path) (items_in all path) one has)

entry_in : (all : List Named) (i : ℕ) (e : Named) (rest : List Named) (path : List ℕ) → drop i all ≡ e ∷ rest
    → AreAmong (items_of e.node (joined path e.name)) (items_in all path)
entry_in [] zero e rest path is = absurd (cc)
entry_in [] (suc i) e rest path is = absurd (cc)
entry_in (x ∷ xs) zero e rest path is = λ one has. Contains-append_left (items_of_entry x path)
    (items_in xs path) one (subst (λ g. Contains {X = Given} g one)
    (sym (items_entry x path ∙ ap (λ n. items_of n.node (joined path n.name)) (let same : x ≡ e = cc in same)))
    has)
entry_in (x ∷ xs) (suc i) e rest path is = λ one has. Contains-append_right (items_of_entry x path)
    (items_in xs path) one (entry_in xs i e rest path is one has)

pub folder_partly : (all : List Named) (path : List ℕ) (o o1 : Option Tree)
    → LaidPartly path (folder_at path) o o1 → LaidPartly path (items_of (Folder all) path) o o1
folder_partly all path o o1 h = partly_more path (folder_at path) (items_of (Folder all) path) o o1
    (folder_among all path) h

pub entry_partly : (all : List Named) (path : List ℕ) (i : ℕ) (e : Named) (rest : List Named) (o o1 : Option Tree)
    → drop i all ≡ e ∷ rest → is_name e.name ≡ true → KeptAround (joined path e.name) o o1
    → LaidPartly (joined path e.name) (items_of e.node (joined path e.name)) o o1
    → LaidPartly path (items_of (Folder all) path) o o1
entry_partly all path i e rest o o1 is name kept h =
    partly_wider path e.name (joined path e.name) (items_of e.node (joined path e.name))
    (items_of (Folder all) path) o o1 refl (name_form e.name name).1
    (λ one has. subst (λ g. Contains {X = Given} g one) (sym (items_folder all path))
    (Contains-append_right (folder_at path) (items_in all path) one (entry_in all i e rest path is one has)))
    (λ plain. folder_among all path (path, item.Folder) (folder_has path plain)) kept h

-- the same at a path that is another's name
pub name_partly : (node : Node) (path other : List ℕ) (a b : Option Tree) → path ≡ other
    → LaidPartly path (items_of node path) a b → LaidPartly other (items_of node other) a b
name_partly node path other a b is h = subst (λ p. LaidPartly p (items_of node p) a b) is h

-- the folder, and its entries
pub node_partly : (node : Node) (all : List Named) (path : List ℕ) (a b c : Option Tree) → node ≡ Folder all
    → LaidPartly path (folder_at path) a b → LaidPartly path (items_of (Folder all) path) b c
    → LaidPartly path (items_of node path) a c
node_partly node all path a b c is first next = subst (λ n. LaidPartly path (items_of n path) a c) (sym is)
    (partly_then path (items_of (Folder all) path) a b c (folder_partly all path a b first) next)

pub node_folder : (node : Node) (all : List Named) (path : List ℕ) (a b : Option Tree) → node ≡ Folder all
    → LaidPartly path (folder_at path) a b → LaidPartly path (items_of node path) a b
node_folder node all path a b is first = subst (λ n. LaidPartly path (items_of n path) a b) (sym is)
    (folder_partly all path a b first)

-- ---- a way

-- a way has a part
some_parts : (way : List ℕ) → (part : List ℕ) × (parts : List (List ℕ)) × (way_parts way ≡ part ∷ parts)
some_parts [] = ([], [], refl)
some_parts (c ∷ cs) = by (c == 47) (some_parts cs)
  where
    by : (v : Bool) → (part : List ℕ) × (parts : List (List ℕ)) × (way_parts cs ≡ part ∷ parts) → (part : List ℕ)
        × (parts : List (List ℕ)) × (cond v ([] ∷ way_parts cs) (onto_first c (way_parts cs)) ≡ part ∷ parts)
    by true some = ([], way_parts cs, refl)
    by false (part, parts, is) = (c ∷ part, parts, ap (onto_first c) is)

-- a folder on the way, and what is laid behind it
pub way_folder : (node : Node) (way parts : List (List ℕ)) (folder part : List ℕ) (a b : Option Tree)
    → way ≡ part ∷ parts → LaidPartly folder (folder_at folder) a b
    → LaidPartly folder (items_under node way folder) a b
way_folder node way parts folder part a b cut h = subst (λ w. LaidPartly folder (items_under node w folder) a b)
    (sym cut)
    (partly_more folder (folder_at folder) (folder_at folder ++ items_under node parts (joined folder part)) a b
    (λ one has. Contains-append_left (folder_at folder) (items_under node parts (joined folder part)) one has)
    h)

pub way_partly : (node : Node) (way parts : List (List ℕ)) (folder part path : List ℕ) (a b c : Option Tree)
    → way ≡ part ∷ parts → path ≡ joined folder part → IsTrue (is_part part)
    → LaidPartly folder (folder_at folder) a b → KeptAround path b c
    → LaidPartly path (items_under node parts path) b c → LaidPartly folder (items_under node way folder) a c
way_partly node way parts folder part path a b c cut is name first kept next = partly_then folder
    (items_under node way folder) a b c (way_folder node way parts folder part a b cut first)
    (subst (λ w. LaidPartly folder (items_under node w folder) b c) (sym cut)
    (partly_wider folder part path (items_under node parts path)
    (folder_at folder ++ items_under node parts (joined folder part)) b c is (part_form part name).1
    (λ one has. Contains-append_right (folder_at folder) (items_under node parts (joined folder part)) one
    (subst (λ p. Contains {X = Given} (items_under node parts p) one) is has))
    (λ plain. Contains-append_left (folder_at folder) (items_under node parts (joined folder part))
    (folder, item.Folder) (folder_has folder plain)) kept next))

pub way_begun : (node : Node) (way folder : List ℕ) (a b : Option Tree) → LaidPartly folder (folder_at folder) a b
    → LaidPartly folder (items_under node (way_parts way) folder) a b
way_begun node way folder a b h = let some = some_parts way
    in way_folder node (way_parts way) some.1 folder some.0 a b some.2 h

-- ---- the root

pub root_made : (root place : List ℕ) (node : Node) (result : Result (Unit {0}) FileFault) (o o1 : Option Tree)
    → OnOk result (o1 ≡ option_map (folder_made root) o) → OnErr result (o1 ≡ o)
    → LaidPartly root (items_placed root place node) o o1
root_made root place node result o o1 ok err = made_partly root (items_placed root place node) result o o1
    (λ plain. Contains-append_left (folder_at root) (items_under node (parts_of place) root) (root, item.Folder)
    (folder_has root plain)) ok err

pub root_partly : (root place : List ℕ) (node : Node) (parts : List (List ℕ)) (a b c : Option Tree)
    → parts_of place ≡ parts → LaidPartly root (items_placed root place node) a b
    → LaidPartly root (items_under node parts root) b c → LaidPartly root (items_placed root place node) a c
root_partly root place node parts a b c is first next = partly_then root (items_placed root place node) a b c first
    (partly_more root (items_under node parts root) (items_placed root place node) b c
    (λ one has. Contains-append_right (folder_at root) (items_under node (parts_of place) root) one
    (subst (λ p. Contains {X = Given} (items_under node p root) one) (sym is) has)) next)
