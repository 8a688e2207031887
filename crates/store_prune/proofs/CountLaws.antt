-- What the commands do to the counts, by what ended them.
use Rattle.std.proofs.Common.{◌≡◌, refl, ℕ, Bool, true, false, List, [], Option, Some, None}
use Rattle.cnb_toml.specs.Form.{TableForm}
use Rattle.cnb_world.specs.Path.{joined}
use Rattle.cnb_words.specs.declared.prune.PruneWords.{PruneWords}
use Rattle.cnb_words.specs.declared.verify.VerifyWords.{VerifyWords}
use Rattle.image_docs.specs.Image.{image_table_in}
use Rattle.image_docs.specs.RunImage.{table_in}
use Rattle.image_docs.specs.declared.image.ImageDoc.{ImageDoc}
use Rattle.image_files.proofs.CountLaws.{image_counts}
use Rattle.image_files.specs.Faults as image_files
use Rattle.image_files.specs.Paths.{images_folder, runs_folder}
use Rattle.image_files.specs.declared.fault.ImageFault.{ImageFault}
use Rattle.image_files.specs.declared.fault.ImageFault.TheVariants as image
use Rattle.steps.specs.Counts.{FileCounts}
use Rattle.steps.proofs.EndLaws.{Obeys, files_link, files_rest, obeys_bind, obeys_each, obeys_gives, obeys_told}
use Rattle.steps.proofs.EndLaws.{obeys_yields, reads_counts, removes_counts}
use Rattle.tree_store.proofs.CountLaws.{check_tree_counts}
use Rattle.tree_store.specs.Answers as tree_store
use Rattle.tree_store.specs.Writing.{trees_of}
use Rattle.store_prune.specs.Digests.{tree_digest}
use Rattle.store_prune.specs.Faults.{cause_of, of_image_fault, verify_cause}
use Rattle.store_prune.specs.Listing.{lists, lists_where, looks_for, looks_for_file}
use Rattle.store_prune.specs.Named.{adds_document, adds_folder, adds_if, adds_name, adds_where, digests_of_image}
use Rattle.store_prune.specs.Named.{digests_of_run, is_document_name, reads_named, reads_names}
use Rattle.store_prune.specs.Prunes.{prunes_command, removes_all, removes_trees}
use Rattle.store_prune.specs.Surveys.{surveys}
use Rattle.store_prune.specs.Trees.{adds_digest, adds_tree, reads_trees}
use Rattle.store_prune.specs.Verifies.{checks_all, checks_image, checks_next, verifies, verifies_command}
use Rattle.store_prune.specs.declared.fault.VerifyFault.TheVariants.{Store}

looked_counts : (path : List ℕ) → Obeys FileCounts cause_of (looks_for_file path)
unfolding looks_for_file
looked_counts path = reads_counts cause_of _ _ _

there_counts : (path : List ℕ) → Obeys FileCounts cause_of (looks_for path)
unfolding looks_for
there_counts path = reads_counts cause_of _ _ _

list_where_counts : (folder : List ℕ) (there : Bool) → Obeys FileCounts cause_of (lists_where folder there)
unfolding lists_where
list_where_counts folder true = reads_counts cause_of _ _ _
list_where_counts folder false = obeys_yields _ _ _ files_rest

list_counts : (folder : List ℕ) → Obeys FileCounts cause_of (lists folder)
unfolding lists
list_counts folder = obeys_bind _ _ _ _ files_link (there_counts folder) (list_where_counts folder)

module _ {A : Type 0} (form : TableForm A) (digests : A → List (List ℕ)) where
  where_counts : (path : List ℕ) (named : List (List ℕ)) (there : Bool)
      → Obeys FileCounts cause_of (adds_where form digests path named there)
  unfolding adds_where reads_names
  where_counts path named true = obeys_bind _ _ _ _ files_link (reads_counts cause_of _ _ _)
      (λ more. obeys_gives _ _ _ files_rest)
  where_counts path named false = obeys_yields _ _ _ files_rest

  document_counts : (path : List ℕ) (named : List (List ℕ))
      → Obeys FileCounts cause_of (adds_document form digests path named)
  unfolding adds_document
  document_counts path named = obeys_bind _ _ _ _ files_link (looked_counts path) (where_counts path named)

  if_counts : (path : List ℕ) (named : List (List ℕ)) (is : Bool)
      → Obeys FileCounts cause_of (adds_if form digests path named is)
  unfolding adds_if
  if_counts path named true = document_counts path named
  if_counts path named false = obeys_yields _ _ _ files_rest

  name_counts : (folder name : List ℕ) (named : List (List ℕ))
      → Obeys FileCounts cause_of (adds_name form digests folder name named)
  unfolding adds_name
  name_counts folder name named = if_counts (joined folder name) named (is_document_name name)

  folder_counts : (folder : List ℕ) (named : List (List ℕ))
      → Obeys FileCounts cause_of (adds_folder form digests folder named)
  unfolding adds_folder
  folder_counts folder named = obeys_bind _ _ _ _ files_link (list_counts folder)
      (λ names. obeys_each _ _ _ files_link files_rest (name_counts folder) names named)

named_counts : (store : List ℕ) → Obeys FileCounts cause_of (reads_named store)
unfolding reads_named
named_counts store = obeys_bind _ _ _ _ files_link
    (folder_counts image_table_in digests_of_image (images_folder store) [])
    (λ named. folder_counts table_in digests_of_run (runs_folder store) named)

digest_counts : (store : List ℕ) (digest : Option (List ℕ)) (trees : List (List ℕ))
    → Obeys FileCounts cause_of (adds_digest store digest trees)
unfolding adds_digest
digest_counts store None trees = obeys_yields _ _ _ files_rest
digest_counts store (Some digest) trees = obeys_bind _ _ _ _ files_link (looked_counts _)
    (λ there. obeys_gives _ _ _ files_rest)

tree_counts : (store name : List ℕ) (trees : List (List ℕ)) → Obeys FileCounts cause_of (adds_tree store name trees)
unfolding adds_tree
tree_counts store name trees = digest_counts store (tree_digest name) trees

trees_counts : (store : List ℕ) → Obeys FileCounts cause_of (reads_trees store)
unfolding reads_trees
trees_counts store = obeys_bind _ _ _ _ files_link (list_counts (trees_of store))
    (λ names. obeys_each _ _ _ files_link files_rest (tree_counts store) names [])

survey_counts : (store : List ℕ) → Obeys FileCounts cause_of (surveys store)
unfolding surveys
survey_counts store =
    obeys_bind _ _ _ _ files_link (named_counts store)
    (λ named. obeys_bind _ _ _ _ files_link (trees_counts store) (λ trees. obeys_gives _ _ _ files_rest))

remove_counts : (store : List ℕ) (digests : List (List ℕ)) → Obeys FileCounts cause_of (removes_trees store digests)
unfolding removes_trees removes_all
remove_counts store digests =
    obeys_bind _ _ _ _ files_link (obeys_gives _ _ _ files_rest)
    (λ paths. obeys_each _ _ _ files_link files_rest (λ path done. removes_counts cause_of path) paths tt)

pub prune_counts : (words : PruneWords) → Obeys FileCounts cause_of (prunes_command words)
unfolding prunes_command
prune_counts words =
    obeys_bind _ _ _ _ files_link (survey_counts words.store)
    (λ pruned. obeys_bind _ _ _ _ files_link (obeys_gives _ _ _ files_rest)
    (λ text. obeys_bind _ _ _ _ files_link (remove_counts words.store pruned.removed)
    (λ gone. obeys_yields _ _ _ files_rest)))

-- ---- `verify`

pub image_cause : (fault : ImageFault) → verify_cause (of_image_fault fault) ≡ image_files.cause_of fault
image_cause (image.NoImage name) = refl
image_cause (image.Document path fault) = refl
image_cause (image.Limit kind) = refl
image_cause (image.File path) = refl
image_cause image.Memory = refl

next_counts : (store digest : List ℕ) (done : Unit {0}) → Obeys FileCounts verify_cause (checks_next store digest done)
next_counts store digest done = obeys_told FileCounts tree_store.cause_of verify_cause Store _ (λ fault. refl)
    (check_tree_counts store digest)

check_image_counts : (store : List ℕ) (image : ImageDoc) → Obeys FileCounts verify_cause (checks_image store image)
unfolding checks_image checks_all
check_image_counts store image =
    obeys_bind _ _ _ _ files_link (obeys_gives _ _ _ files_rest)
    (λ digests. obeys_bind _ _ _ _ files_link (obeys_each _ _ _ files_link files_rest
    (next_counts store) digests tt) (λ checked. obeys_yields _ _ _ files_rest))

verifies_counts : (store name : List ℕ) → Obeys FileCounts verify_cause (verifies store name)
unfolding verifies
verifies_counts store name =
    obeys_bind _ _ _ _ files_link (obeys_told FileCounts image_files.cause_of verify_cause of_image_fault _
    image_cause (image_counts store name))
    (λ image. check_image_counts store image)

pub verify_counts : (words : VerifyWords) → Obeys FileCounts verify_cause (verifies_command words)
unfolding verifies_command
verify_counts words = obeys_bind _ _ _ _ files_link (verifies_counts words.store words.image)
    (λ count. obeys_gives _ _ _ files_rest)
