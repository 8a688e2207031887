-- The images of a store, as steps that read and write them.
use Rattle.std.specs.Prelude.{ℕ, ◌≡◌, List, IfSome, IsOk, IsTrue, Option, Some, None, Result, Ok, Err}
use Rattle.cnb_world.specs.Tree.{Tree, bytes_of, item_at}
use Rattle.cnb_toml.specs.declared.fault.DocFault.{DocFault}
use Rattle.image_docs.specs.Image.{image_in, image_table_in, is_image_doc}
use Rattle.image_docs.specs.RunImage.{is_run_doc, run_in, table_in}
use Rattle.image_docs.specs.declared.image.ImageDoc.{ImageDoc}
use Rattle.image_docs.specs.declared.run_image.RunDoc.{RunDoc}
use Rattle.steps.specs.Causes.{Only}
use Rattle.steps.specs.Outside.{Seen}
use Rattle.steps.specs.Results.{and_then, with_fault}
use Rattle.steps.specs.Steps.{reads, writes}
use Rattle.image_files.specs.declared.fault.ImageFault.{ImageFault}
use Rattle.image_files.specs.declared.fault.ImageFault.TheVariants.{NoImage}
use Rattle.image_files.specs.Documents.{document_in, is_fit_document}
use Rattle.image_files.specs.Faults.{cause_of, of_read_fault}
use Rattle.image_files.specs.Paths.{image_path, run_path}

-- an image that must be there
abbrev pub named : {A : Type 0} → List ℕ → Option A → Result A ImageFault
named name None = Err (NoImage name)
named name (Some image) = Ok image

-- the image of a name
abbrev pub image_at : List ℕ → List ℕ → Tree → Result ImageDoc ImageFault
image_at store name files = and_then (with_fault of_read_fault
    (document_in image_table_in (image_path store name) files)) (named name)

-- the run image of a name
abbrev pub run_image_at : List ℕ → List ℕ → Tree → Result RunDoc ImageFault
run_image_at store name files = and_then (with_fault of_read_fault
    (document_in table_in (run_path store name) files)) (named name)

unfoldable pub reads_image : List ℕ → List ℕ → Seen → Result ImageDoc ImageFault → Seen → Type 0
reads_image store name = reads cause_of (Only (image_path store name)) (is_fit_document (image_path store name))
    (image_at store name)

unfoldable pub reads_run_image : List ℕ → List ℕ → Seen → Result RunDoc ImageFault → Seen → Type 0
reads_run_image store name = reads cause_of (Only (run_path store name)) (is_fit_document (run_path store name))
    (run_image_at store name)

-- bytes that read as an image, where it is one that can be read
abbrev pub ReadsAsImage : ImageDoc → List ℕ → Type 0
ReadsAsImage image bytes = IsTrue (is_image_doc image) → image_in bytes ≡ Ok image

abbrev pub ReadsAsRunImage : RunDoc → List ℕ → Type 0
ReadsAsRunImage image bytes = IsTrue (is_run_doc image) → run_in bytes ≡ Ok image

-- an image is written whole
unfoldable pub writes_image : List ℕ → List ℕ → ImageDoc → Seen → Result (Unit {0}) ImageFault → Seen → Type 0
writes_image store name image = writes cause_of (image_path store name) (ReadsAsImage image)

unfoldable pub writes_run_image : List ℕ → List ℕ → RunDoc → Seen → Result (Unit {0}) ImageFault → Seen → Type 0
writes_run_image store name image = writes cause_of (run_path store name) (ReadsAsRunImage image)

-- an image that can be read is written whole, with bytes that read as it
unfoldable pub writes_readable_image : List ℕ → List ℕ → ImageDoc → Seen → Result (Unit {0}) ImageFault → Seen → Type 0
writes_readable_image store name image = writes cause_of (image_path store name) (λ bytes. image_in bytes ≡ Ok image)

unfoldable pub writes_readable_run_image : List ℕ → List ℕ → RunDoc → Seen → Result (Unit {0}) ImageFault → Seen
    → Type 0
writes_readable_run_image store name image = writes cause_of (run_path store name) (λ bytes. run_in bytes ≡ Ok image)

-- where the files are told, the document at a path reads as this value
abbrev pub ReadsAs : {A : Type 0} → (List ℕ → Result A DocFault) → List ℕ → A → Option Tree → Type 0
ReadsAs form path value files = IfSome files (λ tree. form (bytes_of (item_at tree path)) ≡ Ok value)

-- where the files are told, the document at a path reads as one of this form
abbrev pub Stands : {A : Type 0} → (List ℕ → Result A DocFault) → List ℕ → Option Tree → Type 0
Stands form path files = IfSome files (λ tree. IsOk (form (bytes_of (item_at tree path))))

-- an image, or a run image, of a name stands in the store, and can be read
abbrev pub ImageStands : List ℕ → List ℕ → Option Tree → Type 0
ImageStands store name = Stands image_in (image_path store name)

abbrev pub RunImageStands : List ℕ → List ℕ → Option Tree → Type 0
RunImageStands store name = Stands run_in (run_path store name)
