-- An image that is whole is unpacked without a tree that is missing or damaged.
use Rattle.std.proofs.Common.{◌≡◌, ◌∙◌, refl, sym, ap, subst, arith, ℕ, ◌<◌, Bool, true, false, List, [], ◌∷◌, length}
use Rattle.std.proofs.Common.{Option, Some, None, Result, Ok, Err, inl, inr}
use Rattle.std.specs.Prelude.{IfErr, IfSome, IsTrue}
use Rattle.std.specs.List.{AllByRecursion}
use Rattle.std.specs.Option.{option_map}
use Rattle.cnb_launch.specs.Faults.{cause_of, of_image_fault, of_read_fault, of_store_fault}
use Rattle.cnb_launch.specs.Unpacking.{if_absent, lays_image, lays_launch, lays_row, makes, unpacks}
use Rattle.cnb_launch.specs.declared.fault.LaunchFault.{LaunchFault}
use Rattle.cnb_launch.specs.declared.fault.LaunchFault.TheVariants.{Exists, Store}
use Rattle.cnb_world.specs.Path.{is_path}
use Rattle.cnb_world.specs.Tree.{Tree, item_at}
use Rattle.doc_files.specs.declared.fault.ReadFault.{ReadFault}
use Rattle.doc_files.specs.declared.fault.ReadFault.TheVariants as read
use Rattle.hex.specs.Hex.{encode_lower}
use Rattle.image_docs.specs.declared.image.ImageDoc.{ImageDoc}
use Rattle.image_docs.specs.declared.launch_doc.LaunchDoc.{LaunchDoc}
use Rattle.image_docs.specs.declared.row.Row.{Row}
use Rattle.image_files.specs.Faults as image_files
use Rattle.image_files.specs.Images.{image_at, reads_image}
use Rattle.image_files.specs.declared.fault.ImageFault.{ImageFault}
use Rattle.image_files.specs.declared.fault.ImageFault.TheVariants as image
use Rattle.steps.specs.Causes.{Decided, IsAnswer, OutOfMemory, WhereDecided}
use Rattle.steps.specs.Each.{for_each}
use Rattle.steps.specs.Outside.{Seen}
use Rattle.steps.specs.Steps.{◌>>=◌, gives, map_err, reads, yields}
use Rattle.store_prune.specs.Verifying.{IsWhole}
use Rattle.store_prune.proofs.RowsWhole.{HasTree, rows_have}
use Rattle.store_prune.proofs.VerifyLaws.{gets_not}
use Rattle.tree_canon.specs.declared.node.Node.{Node}
use Rattle.tree_store.specs.Answers as tree_store
use Rattle.tree_store.specs.Around.{KeepsAround, KeptAround}
use Rattle.tree_store.specs.Overlay.{tree_laid}
use Rattle.tree_store.specs.Steps.{IsCauseWithin, IsKeptCause, gets_tree, lays_kept, lays_stored, lays_tree}
use Rattle.tree_store.specs.Store.{Gets, tree_path}
use Rattle.tree_store.specs.Writing.{AreApart, trees_of}
use Rattle.tree_store.specs.declared.fault.StoreFault.{StoreFault}
use Rattle.tree_store.specs.declared.fault.StoreFault.TheVariants as store_fault
use Rattle.tree_store.proofs.Apart.{apart_child, item_kept}
use Rattle.tree_store.proofs.Places.{part_form}
use Rattle.unpack_laws.specs.Verified.{lacks_tree}

-- ---- refusals that are for no tree

store_not : (fault : StoreFault) → (tree_store.cause_of fault ≡ Decided → ⊥) → lacks_tree (of_store_fault fault) ≡ false
store_not (store_fault.OddFile path) h = refl
store_not (store_fault.Limit kind) h = refl
store_not (store_fault.File path) h = refl
store_not (store_fault.NoTree digest) h = absurd (h refl)
store_not (store_fault.Damaged asked found bad) h = absurd (h refl)
store_not (store_fault.Clash digest) h = refl
store_not store_fault.Memory h = refl

read_not : (fault : ReadFault) → lacks_tree (of_read_fault fault) ≡ false
read_not (read.File path) = refl
read_not (read.Document path fault) = refl
read_not (read.Limit kind) = refl
read_not read.Memory = refl

image_not : (fault : ImageFault) → lacks_tree (of_image_fault fault) ≡ false
image_not (image.NoImage name) = refl
image_not (image.Document path fault) = refl
image_not (image.Limit kind) = refl
image_not (image.File path) = refl
image_not image.Memory = refl

memory_not : (fault : LaunchFault) → cause_of fault ≡ OutOfMemory → lacks_tree fault ≡ false
memory_not (Store (store_fault.NoTree digest)) h = absurd (cc)
memory_not (Store (store_fault.Damaged asked found bad)) h = absurd (cc)
memory_not fault h = refl

answer_not : {A : Type 0} (fault : LaunchFault) (want : Result A LaunchFault)
    → ((other : LaunchFault) → want ≡ Err other → lacks_tree other ≡ false) → IsAnswer cause_of (Err fault) want
    → lacks_tree fault ≡ false
answer_not (Store (store_fault.NoTree digest)) want h is = h (Store (store_fault.NoTree digest)) is
answer_not (Store (store_fault.Damaged asked found bad)) want h is = h (Store (store_fault.Damaged asked found bad)) is
answer_not fault want h is = refl

same_fault : {A : Type 0} (one other : LaunchFault) → ◌≡◌ {A = Result A LaunchFault} (Err one) (Err other) → one ≡ other
same_fault one other e = cc

no_fault : {A : Type 0} (value : A) (fault : LaunchFault) → ◌≡◌ {A = Result A LaunchFault} (Ok value) (Err fault) → ⊥
no_fault value fault e = cc

absent_not : (root : List ℕ) (absent : Bool) (fault : LaunchFault) → if_absent root absent ≡ Err fault
    → lacks_tree fault ≡ false
absent_not root true fault h = absurd (no_fault tt fault h)
absent_not root false fault h = ap lacks_tree (sym (same_fault (Exists root) fault h))

not_told : (o : Option Tree) (files : Tree) → o ≡ Some files → o ≡ None → ⊥
not_told o files is none = let no : Some files ≡ None = sym is ∙ none in cc

pub on_told : (o : Option Tree) (files : Tree) (P : Tree → Type 0) → o ≡ Some files → IfSome o P → P files
on_told o files P is h = let at : IfSome (Some files) P = subst (λ (p : Option Tree). IfSome p P) is h in at

-- ---- the document of the launch

launch_so : (root : List ℕ) (launch : LaunchDoc) (old new : Seen) (fault : LaunchFault)
    → lays_launch root launch old (Err fault) new → lacks_tree fault ≡ false
unfolding lays_launch makes map_err lays_tree ◌>>=◌
launch_so root launch old new fault (inl made) = memory_not fault made.1
launch_so root launch old new fault (inr (bytes, mid, made, (why, is, laid))) =
    ap lacks_tree is ∙ store_not why (λ e. let no : IsCauseWithin root Decided = subst
    (IsCauseWithin root) e laid.0 in no)

-- ---- rows

pub filled : (root : List ℕ) → IsTrue (is_path root) → 0 < length root
filled [] h = absurd (cc)
filled (c ∷ root) h = omega arith

module _ (store root : List ℕ) (path : IsTrue (is_path root)) (apart : AreApart root (trees_of store)) where
  -- the files are told, and each row's tree is there
  record Ready (rows : List Row) (now : Seen) : Type 0 where
    files : Tree
    told : now.files ≡ Some files
    trees : AllByRecursion (λ row. HasTree store files row.digest) rows

  tree_kept : (a b : Tree) (digest : List ℕ) → KeepsAround root a b → HasTree store a digest → HasTree store b digest
  tree_kept a b digest kept has =
      let form = part_form (encode_lower digest) has.name in
      let same : item_at b (tree_path store digest) ≡ item_at a (tree_path store digest) = item_kept root
      (tree_path store digest) a b (apart_child root (trees_of store) (encode_lower digest)
      (filled root path) form.0 form.1 apart) kept in
      record {
        file = record {
          tree = has.file.tree;
          gets = subst (λ found. Gets digest found (Ok has.file.tree))
              (sym same) has.file.gets;
        };
        name = has.name;
      }

  trees_kept : (a b : Tree) (rows : List Row) → KeepsAround root a b
      → AllByRecursion (λ row. HasTree store a row.digest) rows
      → AllByRecursion (λ row. HasTree store b row.digest) rows
  trees_kept a b [] kept all = tt
  trees_kept a b (row ∷ rows) kept all = (tree_kept a b row.digest kept all.0, trees_kept a b rows kept all.1)

  pub around : (a b : Tree) (o o1 : Option Tree) → o ≡ Some a → o1 ≡ Some b → KeptAround root o o1
      → KeepsAround root a b
  unfolding KeptAround
  around a b o o1 e f h = let at : KeptAround root (Some a) (Some b) = subst
      (λ (p : Option Tree). KeptAround root (Some a) p) f (subst (λ (p : Option Tree). KeptAround root p o1) e h)
      in at

  row_ready : (row : Row) (rows : List Row) (old new : Seen) (done laid : Unit {0})
      → lays_row store root row done old (Ok laid) new → Ready (row ∷ rows) old → Ready rows new
  unfolding map_err lays_stored gets_tree lays_kept ◌>>=◌
  row_ready row rows old new done laid (tree, mid, gets, kept) ready =
      let told : mid.files ≡ Some ready.files = gets.same.files ∙ ready.told in
      let next : new.files ≡ Some (tree_laid root row.place tree ready.files) = kept.0
      ∙ ap (option_map (tree_laid root row.place tree)) told in
      record {
        files = tree_laid root row.place tree ready.files;
        told = next;
        trees = trees_kept ready.files (tree_laid root row.place tree ready.files) rows
            (around ready.files (tree_laid root row.place tree ready.files) mid.files new.files told next
            kept.1.files) ready.trees.1;
      }

  row_so : (row : Row) (rows : List Row) (old new : Seen) (done : Unit {0}) (fault : LaunchFault)
      → lays_row store root row done old (Err fault) new → Ready (row ∷ rows) old → lacks_tree fault ≡ false
  unfolding map_err lays_stored gets_tree lays_kept ◌>>=◌
  row_so row rows old new done fault (why, is, inl gets) ready =
      let has = ready.trees.0.file in
      let found = item_at ready.files (tree_path store row.digest) in
      let refused : Gets row.digest found (Err why) = on_told old.files ready.files
      (λ files. Gets row.digest (item_at files (tree_path store row.digest)) (Err why)) ready.told gets.answer
      in
      ap lacks_tree is ∙ store_not why (λ e. let no : WhereDecided Decided
      ((tree : Node) → Gets row.digest found (Ok tree) → ⊥) = subst
      (λ cause. WhereDecided cause ((tree : Node) → Gets row.digest found (Ok tree) → ⊥)) e
      (gets_not row.digest found why refused) in no has.tree has.gets)
  row_so row rows old new done fault (why, is, inr (tree, mid, gets, kept)) ready =
      let told : mid.files ≡ Some ready.files = gets.same.files ∙ ready.told in
      ap lacks_tree is ∙ store_not why (λ e. let none : IsKeptCause root
      (tree_path store row.digest) mid.files Decided = subst
      (IsKeptCause root (tree_path store row.digest) mid.files) e kept.0
      in not_told mid.files ready.files told none)

  rows_so : (rows : List Row) (done : Unit {0}) (old new : Seen) (fault : LaunchFault)
      → for_each (lays_row store root) rows done old (Err fault) new → Ready rows old → lacks_tree fault ≡ false
  unfolding for_each yields ◌>>=◌
  rows_so [] done old new fault h ready = absurd h
  rows_so (row ∷ rows) done old new fault (inl h) ready = row_so row rows old new done fault h ready
  rows_so (row ∷ rows) done old new fault (inr (laid, mid, h, k)) ready = rows_so rows laid mid new fault k
      (row_ready row rows old mid done laid h ready)

  -- ---- an image

  ready_at : (rows : List Row) (old new : Seen) → new.files ≡ old.files → Ready rows old → Ready rows new
  ready_at rows old new same ready = record { files = ready.files; told = same ∙ ready.told; trees = ready.trees }

  image_so : (doc : ImageDoc) (old new : Seen) (fault : LaunchFault)
      → lays_image store root doc old (Err fault) new → Ready doc.rows old → lacks_tree fault ≡ false
  unfolding lays_image map_err reads gives ◌>>=◌
  image_so doc old new fault (inl (why, is, looked)) ready = ap lacks_tree is ∙ read_not why
  image_so doc old new fault (inr (absent, mid, looked, inl given)) ready = answer_not fault
      (if_absent root absent) (absent_not root absent) given.1
  image_so doc old new fault (inr (absent, mid, looked, inr (free, next, given, inl rows))) ready = rows_so
      doc.rows tt next new fault rows (ready_at doc.rows old next
      (ap (λ s. s.files) given.0 ∙ looked.same.files) ready)
  image_so doc old new fault (inr (
    absent,
    mid,
    looked,
    inr
        (free, next, given, inr (laid, last, rows, launched)),
  )) ready = launch_so root doc.launch last new fault
      launched

  pub same_image : (one other : ImageDoc) (found : Result ImageDoc ImageFault) → found ≡ Ok one → found ≡ Ok other
      → one ≡ other
  same_image one other found e f = cc

  module _ (name : List ℕ) (files : Tree) (count : ℕ) (whole : IsWhole store name files count) where
    read_ready : (doc : ImageDoc) (mid : Seen) → mid.files ≡ Some files → image_at store name files ≡ Ok doc
        → Ready doc.rows mid
    read_ready doc mid told is =
        record {
          files = files;
          told = told;
          trees = subst
              (λ (d : ImageDoc). AllByRecursion (λ row. HasTree store files row.digest) d.rows)
              (same_image whole.image doc (image_at store name files) whole.read is)
              (rows_have store name files count whole);
        }

    pub unpacked_so : (old new : Seen) (result : Result (Unit {0}) LaunchFault) → old.files ≡ Some files
        → unpacks store name root old result new → IfErr result (λ fault. lacks_tree fault ≡ false)
    unfolding unpacks map_err reads_image reads ◌>>=◌
    unpacked_so old new (Ok done) told h = tt
    unpacked_so old new (Err fault) told (inl (why, is, looked)) = ap lacks_tree is ∙ image_not why
    unpacked_so old new (Err fault) told (inr (doc, mid, looked, laid)) =
        image_so doc mid new fault laid (read_ready doc mid (looked.same.files ∙ told)
        (on_told old.files files (λ t. IsAnswer image_files.cause_of (Ok doc) (image_at store name t)) told
        looked.answer))
