-- Each digest that a document of a store names can be the name of a file.
use Rattle.std.proofs.Common.{◌≡◌, ◌∙◌, ap, subst, ℕ, ◌++◌, ◌||◌, Bool, true, false, List, [], ◌∷◌, Option, Some, None}
use Rattle.std.proofs.Common.{Result, Ok, Err, refl, sym}
use Rattle.std.specs.Prelude.{IfOk, if◌then◌else◌}
use Rattle.std.specs.List.{list_all}
use Rattle.std.specs.Str.{bytes_eq}
use Rattle.std.proofs.lemmas.Bool.{and_from, and_parts}
use Rattle.std.proofs.lemmas.List.Folds.{list_all-append}
use Rattle.std.proofs.lemmas.Slice.Eq.{bytes_eq-Decides}
use Rattle.cnb_toml.specs.declared.fault.DocFault.{DocFault}
use Rattle.cnb_toml.specs.declared.fault.DocFault.TheVariants as doc_fault
use Rattle.cnb_toml.specs.Document.{document_of}
use Rattle.cnb_toml.specs.Form.{TableForm}
use Rattle.cnb_world.specs.Path.{is_part, joined}
use Rattle.cnb_world.specs.Tree.{Tree, is_file, item_at}
use Rattle.doc_files.specs.Reading.{document_at, read_at}
use Rattle.doc_files.specs.declared.fault.ReadFault.{ReadFault}
use Rattle.hex.specs.Hex.{encode_lower}
use Rattle.image_docs.specs.Image.{image_table_in}
use Rattle.image_docs.specs.RunImage.{table_in}
use Rattle.image_files.specs.Documents.{found_of, some_of}
use Rattle.image_files.specs.Paths.{images_folder, runs_folder}
use Rattle.steps.specs.Results.{and_then, with_fault}
use Rattle.store_prune.specs.Digests.{is_among}
use Rattle.store_prune.specs.Faults.{of_read_fault}
use Rattle.store_prune.specs.Named.{digests_of_image, digests_of_run, is_document_name, named_by, names_of_document}
use Rattle.store_prune.specs.Pruning.{each_in, folder_in, found_in, listed_in, name_in, named_in}
use Rattle.store_prune.specs.declared.fault.PruneFault.{PruneFault}
use Rattle.store_prune.proofs.ReadDigests.{AllOf, image_digests, names_file, run_digests, text_names}

abbrev AllNames : List (List ℕ) → Type 0
AllNames named = list_all names_file named ≡ true

pub then_holds : {A B : Type 0} (P : A → Type 0) (Q : B → Type 0) (r : Result A PruneFault)
    (next : A → Result B PruneFault) → IfOk r P → ((a : A) → P a → IfOk (next a) Q) → IfOk (and_then r next) Q
then_holds P Q (Ok a) next h k = k a h
then_holds P Q (Err fault) next h k = tt

pub each_holds : {A X : Type 0} (P : A → Type 0) (step : X → A → Result A PruneFault)
    → ((x : X) (a : A) → P a → IfOk (step x a) P) → (xs : List X) (a : A) → P a → IfOk (each_in step xs a) P
each_holds P step f [] a h = h
each_holds P step f (x ∷ xs) a h = then_holds P P (step x a) (each_in step xs) (f x a h)
    (λ b k. each_holds P step f xs b k)

pub whatever : {A : Type 0} (r : Result A PruneFault) → IfOk r (λ a. Unit {0})
whatever (Ok a) = tt
whatever (Err fault) = tt

-- what holds of each digest of a document that was read holds of all that it names
module _ {A : Type 0} (sound : List ℕ → Bool) (form : TableForm A) (digests : A → List (List ℕ))
    (each : (bytes : List ℕ) → AllOf sound digests (document_of form bytes)) where
  abbrev AllSound : List (List ℕ) → Type 0
  AllSound named = list_all sound named ≡ true

  read_sound : (path : List ℕ) (read : Result A DocFault) → AllOf sound digests read
      → IfOk (and_then (with_fault of_read_fault (some_of (read_at path read))) (named_by digests path)) AllSound
  read_sound path (Ok value) h = h
  read_sound path (Err doc_fault.Memory) h = tt
  read_sound path (Err fault) h = tt

  bytes_sound : (path : List ℕ) (found : Result (Option (List ℕ)) ReadFault)
      → IfOk (and_then (with_fault of_read_fault (and_then found (found_of form path))) (named_by digests path))
      AllSound
  bytes_sound path (Ok None) = tt
  bytes_sound path (Ok (Some bytes)) = read_sound path (document_of form bytes) (each bytes)
  bytes_sound path (Err fault) = tt

  pub document_sound : (path : List ℕ) (files : Tree) → IfOk (names_of_document form digests path files)
      (λ named. list_all sound named ≡ true)
  document_sound path files = bytes_sound path (document_at files path)

module _ {A : Type 0} (form : TableForm A) (digests : A → List (List ℕ))
    (each : (bytes : List ℕ) → AllOf names_file digests (document_of form bytes)) where
  found_names : (path : List ℕ) (files : Tree) (named : List (List ℕ)) (there : Bool) → AllNames named
      → IfOk (found_in form digests path files named there) AllNames
  found_names path files named true h =
      then_holds AllNames AllNames (names_of_document form digests path files) (λ more. Ok (named ++ more))
      (document_sound names_file form digests each path files)
      (λ more k. list_all-append names_file named more ∙ and_from (list_all names_file named)
      (list_all names_file more) h k)
  found_names path files named false h = h

  name_names : (folder : List ℕ) (files : Tree) (name : List ℕ) (named : List (List ℕ)) → AllNames named
      → IfOk (name_in form digests folder files name named) AllNames
  name_names folder files name named h = by (is_document_name name)
    where
      by : (b : Bool) → IfOk (if b then found_in form digests (joined folder name) files named
          (is_file (item_at files (joined folder name))) else Ok named) AllNames
      by true = found_names (joined folder name) files named (is_file (item_at files (joined folder name))) h
      by false = h

  folder_names : (folder : List ℕ) (files : Tree) (named : List (List ℕ)) → AllNames named
      → IfOk (folder_in form digests folder files named) AllNames
  folder_names folder files named h =
      then_holds (λ (names : List (List ℕ)). Unit {0}) AllNames (listed_in folder files)
      (λ names. each_in (name_in form digests folder files) names named) (whatever (listed_in folder files))
      (λ names any. each_holds AllNames (name_in form digests folder files) (name_names folder files) names named h)

all_names : (store : List ℕ) (files : Tree) → IfOk (named_in store files) AllNames
all_names store files =
    then_holds AllNames AllNames (folder_in image_table_in digests_of_image (images_folder store) files [])
    (λ named. folder_in table_in digests_of_run (runs_folder store) files named)
    (folder_names image_table_in digests_of_image (image_digests names_file text_names)
    (images_folder store) files [] refl) (folder_names table_in digests_of_run
    (run_digests names_file text_names) (runs_folder store) files)

among_names : (named : List (List ℕ)) (digest : List ℕ) → AllNames named → is_among named digest ≡ true
    → names_file digest ≡ true
among_names [] digest h among = absurd (cc)
among_names (one ∷ named) digest h among =
    by (λ others. among_names named digest (and_parts (names_file one) (list_all names_file named) h).1 others)
    (bytes_eq (encode_lower one) (encode_lower digest)) refl
  where
    by : (is_among named digest ≡ true → names_file digest ≡ true) → (b : Bool)
        → bytes_eq (encode_lower one) (encode_lower digest) ≡ b → names_file digest ≡ true
    by rest true e = ap is_part (sym ((bytes_eq-Decides (encode_lower one) (encode_lower digest)).0 e))
        ∙ (and_parts (names_file one) (list_all names_file named) h).0
    by rest false e = rest (sym (ap (λ b. b || is_among named digest) e) ∙ among)

-- a digest that a document names
pub named_names : (store : List ℕ) (files : Tree) (named : List (List ℕ)) (digest : List ℕ)
    → named_in store files ≡ Ok named → is_among named digest ≡ true → names_file digest ≡ true
named_names store files named digest is among =
    let all : AllNames named = subst (λ (r : Result (List (List ℕ)) PruneFault). IfOk r AllNames) is
    (all_names store files) in
    among_names named digest all among
