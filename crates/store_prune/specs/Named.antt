-- What the documents of a store name, as steps that read them.
use Rattle.std.specs.Prelude.{ℕ, ◌-◌, ◌++◌, ◌&&◌, Bool, true, false, List, [], codes, length, map, nat_eq, take, Option}
use Rattle.std.specs.Prelude.{Some, None, Result, Ok, Err}
use Rattle.std.specs.List.{ends_with}
use Rattle.cnb_world.specs.Path.{joined}
use Rattle.cnb_world.specs.Tree.{Tree}
use Rattle.cnb_toml.specs.Form.{TableForm}
use Rattle.cnb_toml.specs.Names.{is_image_name}
use Rattle.cnb_toml.specs.declared.fault.DocFault.TheVariants.{Absent}
use Rattle.image_docs.specs.Image.{image_table_in}
use Rattle.image_docs.specs.RunImage.{table_in}
use Rattle.image_docs.specs.declared.image.ImageDoc.{ImageDoc}
use Rattle.image_docs.specs.declared.run_image.RunDoc.{RunDoc}
use Rattle.image_files.specs.Documents.{document_in, is_fit_document}
use Rattle.image_files.specs.Paths.{images_folder, runs_folder}
use Rattle.steps.specs.Causes.{Only}
use Rattle.steps.specs.Each.{for_each}
use Rattle.steps.specs.Outside.{Seen}
use Rattle.steps.specs.Results.{and_then, with_fault}
use Rattle.steps.specs.Steps.{◌>>=◌, gives, reads, yields}
use Rattle.store_prune.specs.Faults.{cause_of, of_read_fault}
use Rattle.store_prune.specs.Listing.{lists, looks_for_file}
use Rattle.store_prune.specs.declared.fault.PruneFault.{PruneFault}
use Rattle.store_prune.specs.declared.fault.PruneFault.TheVariants.{Document}

-- the name of a document: an image's name, and `.toml`
abbrev pub is_document_name : List ℕ → Bool
is_document_name name = ends_with nat_eq name (codes ".toml") && is_image_name (take (length name - 5) name)

-- the trees that an image names: those of its rows, and those of its layers
abbrev pub digests_of_image : ImageDoc → List (List ℕ)
digests_of_image image = map (λ row. row.digest) image.rows ++ map (λ row. row.digest) image.layers

-- the trees that a run image names
abbrev pub digests_of_run : RunDoc → List (List ℕ)
digests_of_run run = run.rows

-- what a document names that must be there
abbrev pub named_by : {A : Type 0} → (A → List (List ℕ)) → List ℕ → Option A → Result (List (List ℕ)) PruneFault
named_by digests path None = Err (Document path Absent)
named_by digests path (Some value) = Ok (digests value)

module _ {A : Type 0} (form : TableForm A) (digests : A → List (List ℕ)) where
  -- what the document at a path names
  abbrev pub names_of_document : List ℕ → Tree → Result (List (List ℕ)) PruneFault
  names_of_document path files = and_then (with_fault of_read_fault (document_in form path files))
      (named_by digests path)

  unfoldable pub reads_names : List ℕ → Seen → Result (List (List ℕ)) PruneFault → Seen → Type 0
  reads_names path = reads cause_of (Only path) (is_fit_document path) (names_of_document path)

  -- what it names comes behind what was named before, if it is a regular file
  unfoldable pub adds_where : List ℕ → List (List ℕ) → Bool → Seen → Result (List (List ℕ)) PruneFault → Seen → Type 0
  adds_where path named true = reads_names path >>= (λ more. gives cause_of (Ok (named ++ more)))
  adds_where path named false = yields named

  unfoldable pub adds_document : List ℕ → List (List ℕ) → Seen → Result (List (List ℕ)) PruneFault → Seen → Type 0
  adds_document path named = looks_for_file path >>= adds_where path named

  -- the same of a path whose name may be none of a document
  unfoldable pub adds_if : List ℕ → List (List ℕ) → Bool → Seen → Result (List (List ℕ)) PruneFault → Seen → Type 0
  adds_if path named true = adds_document path named
  adds_if path named false = yields named

  -- what a name in a folder of documents gives
  unfoldable pub adds_name : List ℕ → List ℕ → List (List ℕ) → Seen → Result (List (List ℕ)) PruneFault → Seen → Type 0
  adds_name folder name named = adds_if (joined folder name) named (is_document_name name)

  -- what the documents of a folder name, by file name ascending
  unfoldable pub adds_folder : List ℕ → List (List ℕ) → Seen → Result (List (List ℕ)) PruneFault → Seen → Type 0
  adds_folder folder named = lists folder >>= (λ names. for_each (adds_name folder) names named)

-- what the images of a store name, and then its run images
unfoldable pub reads_named : List ℕ → Seen → Result (List (List ℕ)) PruneFault → Seen → Type 0
reads_named store = do
  named ← adds_folder image_table_in digests_of_image (images_folder store) []
  adds_folder table_in digests_of_run (runs_folder store) named
