-- Folders of documents, however they are told, and where memory runs out before they are read.
use Rattle.std.proofs.Common.{◌≡◌, refl, subst, ℕ, true, List, Result, Err}
use Rattle.cnb_toml.specs.Form.{TableForm}
use Rattle.cnb_world.specs.Path.{joined}
use Rattle.image_files.proofs.ToldReads.{nothing_read}
use Rattle.steps.specs.Each.{for_each}
use Rattle.steps.specs.Outside.{Seen}
use Rattle.steps.proofs.StepLemmas.{ended}
use Rattle.store_prune.specs.Listing.{lists, looks_for, looks_for_file}
use Rattle.store_prune.specs.Named.{adds_document, adds_folder, adds_name, is_document_name}
use Rattle.store_prune.specs.declared.fault.PruneFault.{PruneFault}
use Rattle.store_prune.specs.declared.fault.PruneFault.TheVariants.{Memory}
use Rattle.store_prune.proofs.ListLemmas.{name_added}

-- memory ran out before a file was looked for
pub not_looked : (path : List ℕ) (old : Seen) → looks_for_file path old (Err Memory) old
unfolding looks_for_file
not_looked path old = nothing_read _ _ _ _ Memory _ refl

-- and before a folder was listed
pub not_listed : (folder : List ℕ) (old : Seen) → lists folder old (Err Memory) old
unfolding lists looks_for
not_listed folder old = ended _ _ _ _ _ (nothing_read _ _ _ _ Memory _ refl)

module _ {A : Type 0} (form : TableForm A) (digests : A → List (List ℕ)) where
  -- and before the name of a document was gone to
  pub name_refused : (folder name : List ℕ) (named : List (List ℕ)) (old : Seen) → is_document_name name ≡ true
      → adds_name form digests folder name named old (Err Memory) old
  unfolding adds_document
  name_refused folder name named old is = name_added form digests folder name (joined folder name) named old old
      (Err Memory) is refl (ended _ _ _ _ _ (not_looked (joined folder name) old))

  -- and before a folder of documents was read
  pub folder_refused : (folder : List ℕ) (named : List (List ℕ)) (old : Seen)
      → adds_folder form digests folder named old (Err Memory) old
  unfolding adds_folder
  folder_refused folder named old = ended _ _ _ _ _ (not_listed folder old)

  pub folder_at : (folder other : List ℕ) (named : List (List ℕ)) (old new : Seen)
      (result : Result (List (List ℕ)) PruneFault) → folder ≡ other
      → adds_folder form digests folder named old result new → adds_folder form digests other named old result new
  folder_at folder other named old new result same h = subst
      (λ f. adds_folder form digests f named old result new) same h

  pub named_at : (folder : List ℕ) (before named : List (List ℕ)) (old new : Seen)
      (result : Result (List (List ℕ)) PruneFault) → before ≡ named
      → adds_folder form digests folder before old result new
      → adds_folder form digests folder named old result new
  named_at folder before named old new result same h = subst
      (λ n. adds_folder form digests folder n old result new) same h

  pub names_at : (folder : List ℕ) (names others named : List (List ℕ)) (old new : Seen)
      (result : Result (List (List ℕ)) PruneFault) → names ≡ others
      → for_each (adds_name form digests folder) names named old result new
      → for_each (adds_name form digests folder) others named old result new
  names_at folder names others named old new result same h = subst
      (λ ns. for_each (adds_name form digests folder) ns named old result new) same h
