-- An image that was written with bytes that read as it stands in the store.
use Rattle.std.proofs.Common.{◌≡◌, ◌∙◌, ap, refl, subst, sym, ℕ, ◌<◌, false, cond, List, length, Option, Some, None}
use Rattle.std.proofs.Common.{Result, Ok, arith}
use Rattle.std.specs.Option.{option_map}
use Rattle.std.specs.Prelude.{IsOk}
use Rattle.std.specs.FinMap.{get}
use Rattle.cnb_world.specs.Path.{joined}
use Rattle.cnb_world.specs.Tree.{Tree, bytes_of, item_at}
use Rattle.cnb_world.specs.Whole.{written}
use Rattle.cnb_world.specs.declared.world.Item.TheVariants.{File, Folder}
use Rattle.cnb_world.proofs.Trees.{get-insert_same}
use Rattle.cnb_toml.specs.declared.fault.DocFault.{DocFault}
use Rattle.image_docs.specs.Image.{image_in}
use Rattle.image_docs.specs.RunImage.{run_in}
use Rattle.image_docs.specs.declared.image.ImageDoc.{ImageDoc}
use Rattle.image_docs.specs.declared.run_image.RunDoc.{RunDoc}
use Rattle.steps.specs.Outside.{Seen}
use Rattle.steps.specs.Steps.{Writes, writes}
use Rattle.image_files.specs.Images.{ImageStands, ReadsAs, RunImageStands, Stands, writes_readable_image}
use Rattle.image_files.specs.Images.{writes_readable_run_image}
use Rattle.image_files.specs.Paths.{document_name, image_path, images_folder, runs_folder}
use Rattle.doc_files.proofs.Written.{no_root_below}
use Rattle.image_files.proofs.PathLemmas.{document_length}

written_at : (folder name bytes : List ℕ) (tree : Tree) → 1 < length name
    → bytes_of (item_at (written (joined folder name) bytes tree) (joined folder name)) ≡ bytes
written_at folder name bytes tree long =
    ap bytes_of (ap (λ b. cond b (Some Folder) (get (written (joined folder name) bytes tree)
    (joined folder name))) (no_root_below folder name long)
    ∙ get-insert_same _ (joined folder name) (File false bytes))

module _ {A : Type 0} (form : List ℕ → Result A DocFault) (folder name : List ℕ) (value : A)
    (long : 1 < length name) where
  reads_by : (bytes : List ℕ) (old new : Option Tree) → form bytes ≡ Ok value
      → new ≡ option_map (written (joined folder name) bytes) old → ReadsAs form (joined folder name) value new
  reads_by bytes None new says e = subst (ReadsAs form (joined folder name) value) (sym e) tt
  reads_by bytes (Some tree) new says e =
      subst (ReadsAs form (joined folder name) value) (sym e) (ap form (written_at folder name bytes tree long) ∙ says)

  reads_as : (old new : Seen) → Writes (joined folder name) (λ bytes. form bytes ≡ Ok value) old new
      → ReadsAs form (joined folder name) value new.files
  reads_as old new h = reads_by h.bytes old.files new.files h.says h.files

  -- a document that reads as a value stands
  stands : (files : Option Tree) → ReadsAs form (joined folder name) value files
      → Stands form (joined folder name) files
  stands None is = tt
  stands (Some tree) is = subst IsOk (sym is) refl

long_name : (name : List ℕ) → 1 < length (document_name name)
long_name name = omega (arith, document_length name)

pub image_reads : (store name : List ℕ) (image : ImageDoc) (old new : Seen) (done : Unit {0})
    → writes_readable_image store name image old (Ok done) new
    → ReadsAs image_in (image_path store name) image new.files
unfolding writes_readable_image writes
image_reads store name image old new done h = reads_as image_in (images_folder store) (document_name name) image
    (long_name name) old new h

pub image_stands : (store name : List ℕ) (image : ImageDoc) (old new : Seen) (done : Unit {0})
    → writes_readable_image store name image old (Ok done) new → ImageStands store name new.files
image_stands store name image old new done h =
    stands image_in (images_folder store) (document_name name) image (long_name name) new.files
    (image_reads store name image old new done h)

pub run_image_stands : (store name : List ℕ) (image : RunDoc) (old new : Seen) (done : Unit {0})
    → writes_readable_run_image store name image old (Ok done) new → RunImageStands store name new.files
unfolding writes_readable_run_image writes
run_image_stands store name image old new done h =
    stands run_in (runs_folder store) (document_name name) image (long_name name) new.files
    (reads_as run_in (runs_folder store) (document_name name) image (long_name name) old new h)
