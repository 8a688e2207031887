-- What `verify` does, in the order of its work.
use Rattle.std.specs.Prelude.{ℕ, List, length, map, Result, Ok}
use Rattle.cnb_words.specs.declared.verify.VerifyWords.{VerifyWords}
use Rattle.image_docs.specs.declared.image.ImageDoc.{ImageDoc}
use Rattle.image_files.specs.Images.{reads_image}
use Rattle.steps.specs.Each.{for_each}
use Rattle.steps.specs.Outside.{Seen}
use Rattle.steps.specs.Steps.{◌>>=◌, gives, map_err, yields}
use Rattle.tree_store.specs.Steps.{checks_tree}
use Rattle.store_prune.specs.Digests.{distinct}
use Rattle.store_prune.specs.Faults.{of_image_fault, verify_cause}
use Rattle.store_prune.specs.Report.{verified_text}
use Rattle.store_prune.specs.declared.fault.VerifyFault.{VerifyFault}
use Rattle.store_prune.specs.declared.fault.VerifyFault.TheVariants.{Store}

-- the trees of an image's rows, each once, at its first place
abbrev pub trees_of_rows : ImageDoc → List (List ℕ)
trees_of_rows image = distinct (map (λ row. row.digest) image.rows)

abbrev pub checks_next : List ℕ → List ℕ → Unit {0} → Seen → Result (Unit {0}) VerifyFault → Seen → Type 0
checks_next store digest done = map_err Store (checks_tree store digest)

-- the files of these trees are checked, one after another
unfoldable pub checks_all : List ℕ → List (List ℕ) → Seen → Result (Unit {0}) VerifyFault → Seen → Type 0
checks_all store digests = for_each (checks_next store) digests tt

-- the trees of an image are checked, and counted
unfoldable pub checks_image : List ℕ → ImageDoc → Seen → Result ℕ VerifyFault → Seen → Type 0
checks_image store image = do
  digests ← gives verify_cause (Ok (trees_of_rows image))
  checked ← checks_all store digests
  yields (length digests)

unfoldable pub verifies : List ℕ → List ℕ → Seen → Result ℕ VerifyFault → Seen → Type 0
verifies store name = do
  image ← map_err of_image_fault (reads_image store name)
  checks_image store image

-- the command
unfoldable pub verifies_command : VerifyWords → Seen → Result (List ℕ) VerifyFault → Seen → Type 0
verifies_command words = do
  count ← verifies words.store words.image
  gives verify_cause (Ok (verified_text words.image count))
