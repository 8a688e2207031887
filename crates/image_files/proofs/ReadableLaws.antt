-- Images that were read can be read again, and what is written of one that can be read reads as it.
use Rattle.std.proofs.Common.{◌≡◌, ℕ, List, IsTrue, Option, Result, Ok, Err, inl, inr}
use Rattle.cnb_world.specs.Tree.{Tree}
use Rattle.cnb_toml.specs.Document.{document_of}
use Rattle.image_docs.specs.Image.{image_in, image_table_in, is_image_doc}
use Rattle.image_docs.specs.RunImage.{is_run_doc, run_in, table_in}
use Rattle.image_docs.specs.declared.image.ImageDoc.{ImageDoc}
use Rattle.image_docs.specs.declared.run_image.RunDoc.{RunDoc}
use Rattle.image_docs.proofs.Answered.{holds_of, in_document}
use Rattle.image_docs.proofs.ReadLaws.{image_holds, run_holds}
use Rattle.steps.specs.Outside.{Seen}
use Rattle.steps.specs.Steps.{LeavesSome, writes}
use Rattle.image_files.specs.Documents.{IsRead}
use Rattle.image_files.specs.Faults.{cause_of}
use Rattle.image_files.specs.Images.{ReadsAsImage, ReadsAsRunImage, writes_image, writes_readable_image}
use Rattle.image_files.specs.Images.{writes_readable_run_image, writes_run_image}
use Rattle.image_files.specs.Paths.{image_path, run_path}
use Rattle.image_files.specs.declared.fault.ImageFault.{ImageFault}

pub image_readable : (image : ImageDoc) → IsRead image_table_in image → IsTrue (is_image_doc image)
image_readable image (bytes, h) = holds_of is_image_doc (document_of image_table_in bytes) image
    (in_document image_table_in is_image_doc image_holds bytes) h

pub run_image_readable : (image : RunDoc) → IsRead table_in image → IsTrue (is_run_doc image)
run_image_readable image (bytes, h) = holds_of is_run_doc (document_of table_in bytes) image
    (in_document table_in is_run_doc run_holds bytes) h

more_left : (path : List ℕ) (Says Means : List ℕ → Type 0) → ((bytes : List ℕ) → Says bytes → Means bytes)
    → (old new : Option Tree) → LeavesSome path Says old new → LeavesSome path Means old new
more_left path Says Means means old new (inl same) = inl same
more_left path Says Means means old new (inr (bytes, says, part)) = inr (bytes, means bytes says, part)

-- bytes that were written, and of which more is known
writes_as : (path : List ℕ) (Says Means : List ℕ → Type 0) → ((bytes : List ℕ) → Says bytes → Means bytes)
    → (old : Seen) (result : Result (Unit {0}) ImageFault) (new : Seen)
    → writes cause_of path Says old result new → writes cause_of path Means old result new
unfolding writes
writes_as path Says Means means old (Ok done) new h = record {
  bytes = h.bytes;
  says = means h.bytes h.says;
  files = h.files;
  fits = h.fits;
  runs = h.runs;
  allows =
      h.allows;
  counts = h.counts;
}
writes_as path Says Means means old (Err fault) new h = (
  h.0,
  record {
    files = more_left path Says Means means old.files new.files h.1.files;
    runs = h.1.runs;
    allows = h.1.allows;
  },
  h.2,
)

pub written_readable : (store name : List ℕ) (image : ImageDoc) (old : Seen)
    (result : Result (Unit {0}) ImageFault) (new : Seen) → IsTrue (is_image_doc image)
    → writes_image store name image old result new → writes_readable_image store name image old result new
unfolding writes_image writes_readable_image
written_readable store name image old result new readable h = writes_as (image_path store name)
    (ReadsAsImage image) (λ bytes. image_in bytes ≡ Ok image) (λ bytes says. says readable) old result new h

pub written_readable_run : (store name : List ℕ) (image : RunDoc) (old : Seen)
    (result : Result (Unit {0}) ImageFault) (new : Seen) → IsTrue (is_run_doc image)
    → writes_run_image store name image old result new → writes_readable_run_image store name image old result new
unfolding writes_run_image writes_readable_run_image
written_readable_run store name image old result new readable h = writes_as (run_path store name)
    (ReadsAsRunImage image) (λ bytes. run_in bytes ≡ Ok image) (λ bytes says. says readable) old result new h
