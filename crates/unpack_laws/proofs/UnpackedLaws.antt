-- What unpacking an image leaves.
use Rattle.std.proofs.Common.{◌≡◌, ◌∙◌, refl, sym, ap, subst, ℕ, true, List, [], ◌∷◌, map, Some, Result, Ok}
use Rattle.std.specs.Prelude.{IfOk, IsTrue}
use Rattle.std.specs.List.{AllByRecursion, list_all}
use Rattle.std.specs.Option.{option_map}
use Rattle.std.proofs.lemmas.Bool.{and_parts}
use Rattle.std.proofs.lemmas.List.Folds.{list_all-append}
use Rattle.cnb_launch.specs.Unpacking.{file_of, launch_doc_place, lays_image, lays_launch, lays_row, makes, unpacks}
use Rattle.cnb_world.specs.Path.{is_path}
use Rattle.cnb_world.specs.Tree.{Tree, item_at}
use Rattle.hex.specs.Hex.{encode_lower}
use Rattle.image_docs.specs.Image.{image_table_in}
use Rattle.image_docs.specs.declared.image.ImageDoc.{ImageDoc}
use Rattle.image_docs.specs.declared.launch_doc.LaunchDoc.{LaunchDoc}
use Rattle.image_docs.specs.declared.row.Row.{Row}
use Rattle.image_files.specs.Faults as image_files
use Rattle.image_files.specs.Images.{image_at, reads_image}
use Rattle.image_files.specs.Paths.{image_path}
use Rattle.steps.specs.Causes.{IsAnswer}
use Rattle.steps.specs.Each.{for_each}
use Rattle.steps.specs.Outside.{Seen}
use Rattle.steps.specs.Steps.{◌>>=◌, gives, map_err, reads, yields}
use Rattle.store_prune.specs.Named.{digests_of_image}
use Rattle.store_prune.specs.declared.fault.PruneFault.{PruneFault}
use Rattle.store_prune.proofs.ImageNamed.{image_names_of}
use Rattle.store_prune.proofs.NamedDigests.{document_sound}
use Rattle.store_prune.proofs.ReadDigests.{image_digests, names_file, text_names}
use Rattle.tree_canon.specs.declared.node.Node.{Node}
use Rattle.tree_store.specs.Around.{KeepsAround}
use Rattle.tree_store.specs.Overlay.{tree_laid}
use Rattle.tree_store.specs.Steps.{gets_tree, lays_kept, lays_stored, lays_tree}
use Rattle.tree_store.specs.Store.{Gets, tree_path}
use Rattle.tree_store.specs.Writing.{AreApart, trees_of}
use Rattle.tree_store.proofs.Apart.{apart_child, item_kept}
use Rattle.tree_store.proofs.Places.{part_form}
use Rattle.unpack_laws.specs.Unpacked.{AreLaid, HasLaunch, HasTree, IsUnpacked}
use Rattle.unpack_laws.proofs.VerifiedLaws.{around, filled, on_told}

-- ---- each digest of an image that was read can be the name of a file

each_so : (rows : List Row) → list_all names_file (map (λ row. row.digest) rows) ≡ true
    → AllByRecursion (λ row. names_file row.digest ≡ true) rows
each_so [] h = tt
each_so (row ∷ rows) h = let parts = and_parts (names_file row.digest)
    (list_all names_file (map (λ row. row.digest) rows)) h in (parts.0, each_so rows parts.1)

rows_named : (store name : List ℕ) (files : Tree) (image : ImageDoc) → image_at store name files ≡ Ok image
    → AllByRecursion (λ row. names_file row.digest ≡ true) image.rows
rows_named store name files image h =
    let all : list_all names_file (digests_of_image image) ≡ true =
    subst (λ (r : Result (List (List ℕ)) PruneFault). IfOk r (λ named. list_all names_file named ≡ true))
    (image_names_of store name files image h) (document_sound names_file image_table_in digests_of_image
    (image_digests names_file text_names) (image_path store name) files)
    in
    each_so image.rows (and_parts (list_all names_file (map (λ row. row.digest) image.rows))
    (list_all names_file (map (λ row. row.digest) image.layers))
    (sym (list_all-append names_file (map (λ row. row.digest) image.rows)
    (map (λ row. row.digest) image.layers)) ∙ all)).0

-- ---- the document of the launch

launch_laid : (root : List ℕ) (launch : LaunchDoc) (laid : Tree) (old new : Seen) (done : Unit {0})
    → lays_launch root launch old (Ok done) new → old.files ≡ Some laid → HasLaunch root launch laid new.files
unfolding lays_launch makes map_err lays_tree ◌>>=◌
launch_laid root launch laid old new done (bytes, mid, made, lays) told =
    let at : mid.files ≡ Some laid = ap (λ (s : Seen). s.files) made.0 ∙ told in
    record {
      bytes = bytes;
      reads = made.1;
      left = lays.0 ∙ ap
          (option_map (tree_laid root launch_doc_place (file_of bytes))) at;
    }

module _ (store root : List ℕ) (path : IsTrue (is_path root)) (apart : AreApart root (trees_of store))
    (files : Tree) where
  -- the trees' files are as they were
  abbrev Kept : Tree → Type 0
  Kept now = (digest : List ℕ) → names_file digest ≡ true
      → item_at now (tree_path store digest) ≡ item_at files (tree_path store digest)

  abbrev Laid : List Row → Tree → Tree → Type 0
  Laid = AreLaid store root files

  -- ---- steps

  kept_item : (a b : Tree) (digest : List ℕ) → names_file digest ≡ true → KeepsAround root a b
      → item_at b (tree_path store digest) ≡ item_at a (tree_path store digest)
  kept_item a b digest named kept =
      let form = part_form (encode_lower digest) named in
      item_kept root (tree_path store digest) a b (apart_child root (trees_of store) (encode_lower digest)
      (filled root path) form.0 form.1 apart) kept

  record RowLaid (row : Row) (a : Tree) (new : Seen) : Type 0 where
    tree : Node
    has : HasTree store files row tree
    left : new.files ≡ Some (tree_laid root row.place tree a)
    kept : Kept (tree_laid root row.place tree a)

  row_laid : (row : Row) (a : Tree) (old new : Seen) (done laid : Unit {0}) → names_file row.digest ≡ true
      → lays_row store root row done old (Ok laid) new → old.files ≡ Some a → Kept a → RowLaid row a new
  unfolding map_err lays_stored gets_tree lays_kept ◌>>=◌
  row_laid row a old new done laid named (tree, mid, gets, lays) told before =
      let at : mid.files ≡ Some a = gets.same.files ∙ told in
      let next : new.files ≡ Some (tree_laid root row.place tree a) = lays.0
      ∙ ap (option_map (tree_laid root row.place tree)) at in
      let got : Gets row.digest (item_at a (tree_path store row.digest)) (Ok tree) = on_told old.files a
      (λ now. Gets row.digest (item_at now (tree_path store row.digest)) (Ok tree)) told gets.answer in
      record {
        tree = tree;
        has = subst (λ found. Gets row.digest found (Ok tree)) (before row.digest named) got;
        left = next;
        kept = λ digest name. kept_item a (tree_laid root row.place tree a) digest name
            (around store root path apart a (tree_laid root row.place tree a) mid.files new.files at next
            lays.1.files) ∙ before digest name;
      }

  record RowsLaid (rows : List Row) (a : Tree) (new : Seen) : Type 0 where
    after : Tree
    left : new.files ≡ Some after
    laid : Laid rows a after

  rows_laid : (rows : List Row) (a : Tree) (old new : Seen) (done laid : Unit {0})
      → AllByRecursion (λ row. names_file row.digest ≡ true) rows
      → for_each (lays_row store root) rows done old (Ok laid) new → old.files ≡ Some a → Kept a
      → RowsLaid rows a new
  unfolding for_each yields ◌>>=◌
  rows_laid [] a old new done laid named h told kept = record
      { after = a; left = ap (λ (s : Seen). s.files) h.1 ∙ told; laid = refl }
  rows_laid (row ∷ rows) a old new done laid named (one, mid, h, k) told kept =
      let first = row_laid row a old mid done one named.0 h told kept in
      let rest = rows_laid rows (tree_laid root row.place first.tree a) mid new one laid named.1 k first.left
      first.kept in
      record { after = rest.after; left = rest.left; laid = (first.tree, first.has, rest.laid) }

  record ImageLaid (doc : ImageDoc) (new : Seen) : Type 0 where
    after : Tree
    laid : Laid doc.rows files after
    launch : HasLaunch root doc.launch after new.files

  image_laid : (doc : ImageDoc) (old new : Seen) (done : Unit {0})
      → AllByRecursion (λ row. names_file row.digest ≡ true) doc.rows
      → lays_image store root doc old (Ok done) new → old.files ≡ Some files → ImageLaid doc new
  unfolding lays_image map_err reads gives ◌>>=◌
  image_laid doc old new done named (absent, mid, looked, (free, next, given, (laid, last, rows, launched))) told =
      let at : next.files ≡ Some files = ap (λ (s : Seen). s.files) given.0 ∙ looked.same.files ∙ told in
      let all = rows_laid doc.rows files next last tt laid named rows at (λ digest name. refl) in
      record {
        after = all.after;
        laid = all.laid;
        launch = launch_laid root doc.launch all.after last new done
            launched all.left;
      }

  pub unpacked : (name : List ℕ) (old new : Seen) → old.files ≡ Some files
      → unpacks store name root old (Ok tt) new → IsUnpacked store name root files new.files
  unfolding unpacks map_err reads_image reads ◌>>=◌
  unpacked name old new told (doc, mid, looked, laid) =
      let read : image_at store name files ≡ Ok doc = on_told old.files files
      (λ now. IsAnswer image_files.cause_of (Ok doc) (image_at store name now)) told looked.answer in
      let all = image_laid doc mid new tt (rows_named store name files doc read) laid (looked.same.files ∙ told) in
      record { image = doc; read = read; laid = all.after; rows = all.laid; launch = all.launch }
