-- What `analyze` looks at (platform.md, "analyzer").
use Rattle.std.specs.Prelude.{ℕ, Bool, true, List, Option, Some, None, Result, Ok, Err}
use Rattle.cnb_world.specs.Tree.{Tree}
use Rattle.image_docs.specs.Image.{image_table_in}
use Rattle.image_docs.specs.RunImage.{table_in}
use Rattle.image_docs.specs.declared.analyzed.Analyzed.{Analyzed}
use Rattle.image_docs.specs.declared.image.ImageDoc.{ImageDoc}
use Rattle.image_docs.specs.declared.run_image.RunDoc.{RunDoc}
use Rattle.steps.specs.Causes.{Only}
use Rattle.steps.specs.Outside.{Seen}
use Rattle.steps.specs.Results.{and_then, with_fault}
use Rattle.steps.specs.Steps.{◌>>=◌, gives, reads}
use Rattle.cnb_restore.specs.declared.fault.RestoreFault.{RestoreFault}
use Rattle.cnb_restore.specs.declared.fault.RestoreFault.TheVariants.{NoImage}
use Rattle.image_files.specs.Documents.{document_in, is_fit_document}
use Rattle.cnb_restore.specs.Faults.{cause_of, of_read_fault}
use Rattle.image_files.specs.Paths.{image_path, run_path}

-- an image that must be there
abbrev pub named : {A : Type 0} → List ℕ → Option A → Result A RestoreFault
named name None = Err (NoImage name)
named name (Some image) = Ok image

-- the run image of a name
abbrev pub run_image_in : List ℕ → List ℕ → Tree → Result RunDoc RestoreFault
run_image_in store name files =
    and_then (with_fault of_read_fault (document_in table_in (run_path store name) files)) (named name)

-- the image of a name, where there is one
abbrev pub image_found : List ℕ → List ℕ → Tree → Result (Option ImageDoc) RestoreFault
image_found store name files = with_fault of_read_fault (document_in image_table_in (image_path store name) files)

-- an image that need not be there
abbrev pub is_fit_image : List ℕ → Option (List ℕ) → Tree → Bool
is_fit_image store None files = true
is_fit_image store (Some name) files = is_fit_document (image_path store name) files

-- the document of such an image is asked for alone, and nothing where none is named
abbrev pub OnlyImage : List ℕ → Option (List ℕ) → List ℕ → Type 0
OnlyImage store None path = ⊥
OnlyImage store (Some name) path = Only (image_path store name) path

abbrev pub name_of : {A : Type 0} → List ℕ → Option A → Result (Option (List ℕ)) RestoreFault
name_of name None = Ok None
name_of name (Some image) = Ok (Some name)

-- the name of the previous image, where that is there
abbrev pub known_in : List ℕ → Option (List ℕ) → Tree → Result (Option (List ℕ)) RestoreFault
known_in store None files = Ok None
known_in store (Some name) files = and_then (image_found store name files) (name_of name)

-- the run image, and then the previous image
unfoldable pub analyzes : List ℕ → List ℕ → Option (List ℕ) → Seen → Result Analyzed RestoreFault → Seen → Type 0
analyzes store run previous = do
  image ← reads cause_of (Only (run_path store run)) (is_fit_document (run_path store run)) (run_image_in store run)
  known ← reads cause_of (OnlyImage store previous) (is_fit_image store previous) (known_in store previous)
  gives cause_of (Ok (record { run = run; os = image.os; arch = image.arch; previous = known }))

abbrev pub some_named : List ℕ → Option ImageDoc → Result (Option ImageDoc) RestoreFault
some_named name None = Err (NoImage name)
some_named name (Some image) = Ok (Some image)

-- the previous image that was analyzed, which must be there
abbrev pub previous_in : List ℕ → Option (List ℕ) → Tree → Result (Option ImageDoc) RestoreFault
previous_in store None files = Ok None
previous_in store (Some name) files = and_then (image_found store name files) (some_named name)
