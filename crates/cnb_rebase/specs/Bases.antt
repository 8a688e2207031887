-- What `base` does, in the order of its work: a run image is made of folders.
use Rattle.std.specs.Prelude.{ℕ, List, [], ◌∷◌, ◌++◌, Result, Ok}
use Rattle.cnb_words.specs.declared.base.BaseWords.{BaseWords}
use Rattle.image_docs.specs.declared.run_image.RunDoc.{RunDoc}
use Rattle.image_files.specs.Images.{writes_readable_run_image}
use Rattle.steps.specs.Each.{for_each}
use Rattle.steps.specs.Outside.{Seen}
use Rattle.steps.specs.Steps.{◌>>=◌, gives, map_err, yields}
use Rattle.tree_store.specs.Answers.{cause_of}
use Rattle.tree_store.specs.Steps.{puts_folder}
use Rattle.tree_store.specs.declared.fault.StoreFault.{StoreFault}
use Rattle.cnb_rebase.specs.declared.refusal.BaseFault.{BaseFault}
use Rattle.cnb_rebase.specs.declared.refusal.BaseFault.TheVariants.{Store, Image}
use Rattle.cnb_rebase.specs.Refusals.{base_cause}
use Rattle.cnb_rebase.specs.Report.{base_text}

-- a folder's tree is put, behind those of the folders before
unfoldable pub puts_next : List ℕ → List ℕ → List (List ℕ) → Seen → Result (List (List ℕ)) StoreFault → Seen → Type 0
puts_next store folder digests = do
  digest ← puts_folder store folder
  gives cause_of (Ok (digests ++ digest ∷ []))

-- the trees of folders are put in their order
unfoldable pub puts_folders : List ℕ → List (List ℕ) → Seen → Result (List (List ℕ)) StoreFault → Seen → Type 0
puts_folders store folders = for_each (puts_next store) folders []

-- a run image of the folders' trees, with an empty environment
unfoldable pub makes_base : List ℕ → List ℕ → List ℕ → List (List ℕ) → Seen → Result RunDoc StoreFault → Seen → Type 0
makes_base store os arch folders = do
  rows ← puts_folders store folders
  gives cause_of (Ok (record { os = os; arch = arch; rows = rows; env = [] }))

-- the command: the text is made, and the run image's document is written last, with bytes that read as the run image
unfoldable pub bases_command : BaseWords → Seen → Result (List ℕ) BaseFault → Seen → Type 0
bases_command words = do
  image ← map_err Store (makes_base words.store words.os words.arch words.trees)
  text ← gives base_cause (Ok (base_text words.run image))
  written ← map_err Image (writes_readable_run_image words.store words.run image)
  yields text
