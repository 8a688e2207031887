-- Images that have an application in slices, or whole, are unpacked to the same files.
use Rattle.std.proofs.Common.{◌≡◌, ◌∙◌, refl, sym, ap, subst, ℕ, List, [], ◌∷◌, ◌++◌, Option, Some, None, Ok}
use Rattle.std.specs.Prelude.{IsTrue}
use Rattle.std.specs.List.{AllByRecursion, fold}
use Rattle.app_slices.proofs.CutTrees.{cut_lays}
use Rattle.app_slices.specs.Slices.{slices_of}
use Rattle.cnb_launch.specs.Unpacking.{unpacks}
use Rattle.cnb_world.specs.Path.{is_path}
use Rattle.cnb_world.specs.Tree.{Tree, item_at}
use Rattle.cnb_world.specs.declared.world.Item.{Item}
use Rattle.cnb_world.specs.declared.world.Item.TheVariants as item
use Rattle.image_docs.specs.declared.image.ImageDoc.{ImageDoc}
use Rattle.image_docs.specs.declared.row.Row.{Row}
use Rattle.image_files.specs.Images.{image_at}
use Rattle.steps.specs.Outside.{Seen}
use Rattle.tree_canon.specs.declared.node.Node.{Node}
use Rattle.tree_canon.proofs.CutMoves.{one_tree}
use Rattle.tree_store.specs.Overlay.{tree_laid}
use Rattle.tree_store.specs.Store.{Gets, tree_path}
use Rattle.tree_store.specs.Writing.{AreApart, trees_of}
use Rattle.unpack_laws.specs.Sliced.{DifferInSlices, HaveTrees}
use Rattle.unpack_laws.specs.Unpacked.{AreLaid, HasLaunch}
use Rattle.unpack_laws.proofs.UnpackedLaws.{unpacked}
use Rattle.unpack_laws.proofs.VerifiedLaws.{same_image}

-- ---- a digest has one tree

gets_one : (digest : List ℕ) (found : Option Item) (one other : Node) → Gets digest found (Ok one)
    → Gets digest found (Ok other) → one ≡ other
gets_one digest None one other h k = absurd h
gets_one digest (Some (item.File exec bytes)) one other h k = one_tree bytes one other h.1 k.1
gets_one digest (Some item.Folder) one other h k = absurd h
gets_one digest (Some (item.Link target)) one other h k = absurd h
gets_one digest (Some item.Odd) one other h k = absurd h

module _ (store root : List ℕ) (path : IsTrue (is_path root)) (apart : AreApart root (trees_of store))
    (files : Tree) where
  abbrev Laid : List Row → Tree → Tree → Type 0
  Laid = AreLaid store root files

  record ImageLaid (image : ImageDoc) (new : Seen) : Type 0 where
    laid : Tree
    rows : Laid image.rows files laid
    launch : HasLaunch root image.launch laid new.files

  image_unpacked : (name : List ℕ) (image : ImageDoc) (old new : Seen) → image_at store name files ≡ Ok image
      → old.files ≡ Some files → unpacks store name root old (Ok tt) new → ImageLaid image new
  image_unpacked name image old new is told h =
      let all = unpacked store root path apart files name old new told h in
      subst (λ (d : ImageDoc). ImageLaid d new) (same_image store root path apart all.image image
      (image_at store name files) all.read is) (record { laid = all.laid; rows = all.rows; launch = all.launch })

  -- ---- what rows that were laid leave

  -- one thing,
  one_laid : (rows : List Row) (a b c : Tree) → Laid rows a b → Laid rows a c → b ≡ c
  one_laid [] a b c h k = h ∙ sym k
  one_laid (row ∷ rows) a b c (one, h, more) (other, k, others) =
      let same : other ≡ one = gets_one row.digest (item_at files (tree_path store row.digest)) other one k h in
      one_laid rows (tree_laid root row.place one a) b c more
      (subst (λ tree. Laid rows (tree_laid root row.place tree a) c) same others)

  record Between (xs ys : List Row) (a c : Tree) : Type 0 where
    mid : Tree
    first : Laid xs a mid
    second : Laid ys mid c

  -- which those in front leave to those behind,
  parts_laid : (xs ys : List Row) (a c : Tree) → Laid (xs ++ ys) a c → Between xs ys a c
  parts_laid [] ys a c h = record { mid = a; first = refl; second = h }
  parts_laid (x ∷ xs) ys a c (tree, has, h) =
      let rest = parts_laid xs ys (tree_laid root x.place tree a) c h in
      record { mid = rest.mid; first = (tree, has, rest.first); second = rest.second }

  -- and which is that of their trees
  trees_laid : (rows : List Row) (trees : List Node) (place : List ℕ) (a b : Tree)
      → HaveTrees store files rows trees → AllByRecursion (λ row. row.place ≡ place) rows → Laid rows a b
      → b ≡ fold (λ left tree. tree_laid root place tree left) a trees
  trees_laid [] [] place a b have places h = h
  trees_laid [] (tree ∷ trees) place a b have places h = absurd have
  trees_laid (row ∷ rows) [] place a b have places h = absurd have
  trees_laid (row ∷ rows) (tree ∷ trees) place a b have places (one, has, h) =
      let same : one ≡ tree = gets_one row.digest (item_at files (tree_path store row.digest)) one tree has have.0 in
      trees_laid rows trees place (tree_laid root place tree a) b have.1 places.1
      (subst (λ at. Laid rows (tree_laid root at tree a) b) places.0
      (subst (λ node. Laid rows (tree_laid root row.place node a) b) same h))

  module _ (sliced whole : ImageDoc) (differ : DifferInSlices store files sliced whole) where
    same_laid : (a b c : Tree) → Laid differ.parts a b → Laid (differ.app ∷ []) a c → b ≡ c
    same_laid a b c h (tree, has, is) =
        let cut = cut_lays differ.slices differ.tree (slices_of differ.slices differ.tree) differ.is_tree refl in
        let same : tree ≡ differ.tree = gets_one differ.app.digest
        (item_at files (tree_path store differ.app.digest)) tree differ.tree has differ.app_tree in
        trees_laid differ.parts (slices_of differ.slices differ.tree) differ.app.place a b differ.part_trees
        differ.place h
        ∙ cut root differ.app.place a
        ∙ ap (λ node. tree_laid root differ.app.place node a) (sym same)
        ∙ sym is

    same_after : (b c : Tree) → Laid sliced.rows files b → Laid whole.rows files c → b ≡ c
    same_after b c h k =
        let one = parts_laid differ.front (differ.parts ++ differ.back) files b
        (subst (λ rows. Laid rows files b) differ.sliced_rows h) in
        let two = parts_laid differ.parts differ.back one.mid b one.second in
        let other = parts_laid differ.front (differ.app ∷ differ.back) files c
        (subst (λ rows. Laid rows files c) differ.whole_rows k) in
        let last = parts_laid (differ.app ∷ []) differ.back other.mid c other.second in
        let begun : other.mid ≡ one.mid = one_laid differ.front files other.mid one.mid other.first one.first in
        let met : two.mid ≡ last.mid = same_laid one.mid two.mid last.mid two.first
        (subst (λ at. Laid (differ.app ∷ []) at last.mid) begun last.first) in
        one_laid differ.back two.mid b c two.second (subst (λ at. Laid differ.back at c) (sym met) last.second)

  pub alike : (one other : List ℕ) (sliced whole : ImageDoc) → image_at store one files ≡ Ok sliced
      → image_at store other files ≡ Ok whole → DifferInSlices store files sliced whole
      → (old new before after : Seen) → old.files ≡ Some files → before.files ≡ Some files
      → unpacks store one root old (Ok tt) new → unpacks store other root before (Ok tt) after
      → (laid : Tree) × HasLaunch root sliced.launch laid new.files × HasLaunch root sliced.launch laid after.files
  alike one other sliced whole first second differ old new before after told also h k =
      let one_image = image_unpacked one sliced old new first told h in
      let other_image = image_unpacked other whole before after second also k in
      let same : other_image.laid ≡ one_image.laid = sym
      (same_after sliced whole differ one_image.laid other_image.laid one_image.rows other_image.rows) in (
        one_image.laid,
        one_image.launch,
        subst (λ laid. HasLaunch root sliced.launch laid after.files) same
            (subst (λ launch. HasLaunch root launch other_image.laid after.files) differ.launch
            other_image.launch),
      )
