-- What the steps that read a store come to, by the files at one moment.
use Rattle.std.proofs.Common.{◌≡◌, ◌∙◌, sym, ap, ℕ, ◌++◌, Bool, true, false, List, [], ◌∷◌, Option, Some, None, Result}
use Rattle.std.proofs.Common.{Ok, Err, inl, inr}
use Rattle.std.specs.Prelude.{IfSome, is_some, if◌then◌else◌}
use Rattle.cnb_toml.specs.Form.{TableForm}
use Rattle.cnb_world.specs.Path.{joined}
use Rattle.cnb_world.specs.Tree.{Tree, is_file, item_at}
use Rattle.image_docs.specs.Image.{image_table_in}
use Rattle.image_docs.specs.RunImage.{table_in}
use Rattle.image_files.specs.Paths.{images_folder, runs_folder}
use Rattle.steps.specs.Causes.{IsAnswer}
use Rattle.steps.specs.Each.{for_each}
use Rattle.steps.specs.Outside.{Seen}
use Rattle.steps.specs.Results as results
use Rattle.steps.specs.Steps.{◌>>=◌, gives, reads, yields}
use Rattle.steps.proofs.ReadingLaws.{answers_where, refused_where}
use Rattle.tree_store.specs.Store.{tree_path}
use Rattle.tree_store.specs.Writing.{trees_of}
use Rattle.store_prune.specs.Digests.{tree_digest}
use Rattle.store_prune.specs.Faults.{cause_of}
use Rattle.store_prune.specs.Listing.{lists, lists_where, looks_for, looks_for_file}
use Rattle.store_prune.specs.Named.{adds_document, adds_folder, adds_if, adds_name, adds_where, digests_of_image}
use Rattle.store_prune.specs.Named.{digests_of_run, is_document_name, names_of_document, reads_named, reads_names}
use Rattle.store_prune.specs.Pruning.{digest_at, each_in, folder_in, found_in, listed_in, listed_where, name_in}
use Rattle.store_prune.specs.Pruning.{named_in, pruned_in, trees_in}
use Rattle.store_prune.specs.Surveys.{pruned_of, surveys}
use Rattle.store_prune.specs.Trees.{adds_digest, adds_tree, reads_trees, with_tree}
use Rattle.store_prune.specs.declared.fault.PruneFault.{PruneFault}

-- a step that leaves the files, and comes to what they say
pub record Tells {A : Type 0} (want : Tree → Result A PruneFault) (old : Seen) (result : Result A PruneFault)
    (new : Seen) : Type 0 where
  pub files : new.files ≡ old.files
  pub answer : IfSome old.files (λ files. IsAnswer cause_of result (want files))

abbrev pub OnlyTells : {A : Type 0} → (Tree → Result A PruneFault) → (Seen → Result A PruneFault → Seen → Type 0)
    → Type 0
OnlyTells {A} want step = (old new : Seen) (result : Result A PruneFault) → step old result new
    → Tells want old result new

tells_reads : {A : Type 0} (Among : List ℕ → Type 0) (fits : Tree → Bool) (want : Tree → Result A PruneFault)
    → OnlyTells want (reads cause_of Among fits want)
unfolding reads
tells_reads Among fits want old new result h = record { files = h.same.files; answer = h.answer }

wherever : (o : Option Tree) (P : Type 0) → P → IfSome o (λ files. P)
wherever None P h = tt
wherever (Some files) P h = h

tells_gives : {A : Type 0} (want : Result A PruneFault) → OnlyTells (λ files. want) (gives cause_of want)
unfolding gives
tells_gives want old new result h = record {
  files = ap (λ s. s.files) h.0;
  answer = wherever old.files
      (IsAnswer cause_of result want) h.1;
}

tells_yields : {A : Type 0} (want : A) → OnlyTells (λ files. Ok want) (yields want)
unfolding yields
tells_yields {A} want old new (Ok value) h = record {
  files = ap (λ s. s.files) h.1;
  answer = wherever old.files (IsAnswer {A = A} cause_of (Ok value) (Ok want))
      (ap Ok (sym h.0));
}
tells_yields want old new (Err fault) h = absurd h

tells_then : {A B : Type 0} (want : Tree → Result A PruneFault) (later : A → Tree → Result B PruneFault)
    (first : Seen → Result A PruneFault → Seen → Type 0) (next : A → Seen → Result B PruneFault → Seen → Type 0)
    → OnlyTells want first → ((a : A) → OnlyTells (later a) (next a))
    → OnlyTells (λ t. results.and_then (want t) (λ a. later a t)) (first >>= next)
unfolding ◌>>=◌
tells_then want later first next p q old new (Ok value) (a, mid, h, k) =
    let one = p old mid (Ok a) h in
    let two = q a mid new (Ok value) k in
    record {
      files = two.files ∙ one.files;
      answer = answers_where cause_of old.files mid.files want later a
          (Ok value) one.files one.answer two.answer;
    }
tells_then want later first next p q old new (Err fault) (inl h) =
    let one = p old new (Err fault) h in
    record { files = one.files; answer = refused_where cause_of old.files want later fault one.answer }
tells_then want later first next p q old new (Err fault) (inr (a, mid, h, k)) =
    let one = p old mid (Ok a) h in
    let two = q a mid new (Err fault) k in
    record {
      files = two.files ∙ one.files;
      answer = answers_where cause_of old.files mid.files want later a
          (Err fault) one.files one.answer two.answer;
    }

tells_each : {A X : Type 0} (want : Tree → X → A → Result A PruneFault)
    (step : X → A → Seen → Result A PruneFault → Seen → Type 0)
    → ((x : X) (a : A) → OnlyTells (λ t. want t x a) (step x a)) → (xs : List X) (a : A)
    → OnlyTells (λ t. each_in (want t) xs a) (for_each step xs a)
unfolding for_each
tells_each want step p [] a = tells_yields a
tells_each want step p (x ∷ xs) a = tells_then (λ t. want t x a) (λ b t. each_in (want t) xs b) (step x a)
    (for_each step xs) (p x a) (λ b. tells_each want step p xs b)

-- ---- folders

looked_tells : (path : List ℕ) → OnlyTells (λ t. Ok (is_file (item_at t path))) (looks_for_file path)
unfolding looks_for_file
looked_tells path = tells_reads _ (λ t. true) (λ t. Ok (is_file (item_at t path)))

there_tells : (path : List ℕ) → OnlyTells (λ t. Ok (is_some (item_at t path))) (looks_for path)
unfolding looks_for
there_tells path = tells_reads _ (λ t. true) (λ t. Ok (is_some (item_at t path)))

where_tells : (folder : List ℕ) (there : Bool) → OnlyTells (λ t. listed_where folder t there) (lists_where folder there)
unfolding lists_where
where_tells folder true = tells_reads _ _ _
where_tells folder false = tells_yields []

list_tells : (folder : List ℕ) → OnlyTells (listed_in folder) (lists folder)
unfolding lists
list_tells folder = tells_then (λ t. Ok (is_some (item_at t folder))) (λ there t. listed_where folder t there)
    (looks_for folder) (lists_where folder) (there_tells folder) (where_tells folder)

-- ---- documents

module _ {A : Type 0} (form : TableForm A) (digests : A → List (List ℕ)) where
  found_tells : (path : List ℕ) (named : List (List ℕ)) (there : Bool)
      → OnlyTells (λ t. found_in form digests path t named there) (adds_where form digests path named there)
  unfolding adds_where reads_names
  found_tells path named true = tells_then (names_of_document form digests path)
      (λ more t. Ok (named ++ more)) _ _ (tells_reads _ _ _) (λ more. tells_gives (Ok (named ++ more)))
  found_tells path named false = tells_yields named

  document_tells : (path : List ℕ) (named : List (List ℕ))
      → OnlyTells (λ t. found_in form digests path t named (is_file (item_at t path)))
      (adds_document form digests path named)
  unfolding adds_document
  document_tells path named = tells_then (λ t. Ok (is_file (item_at t path)))
      (λ there t. found_in form digests path t named there) _ _ (looked_tells path) (found_tells path named)

  if_tells : (path : List ℕ) (named : List (List ℕ)) (is : Bool)
      → OnlyTells (λ t. if is then found_in form digests path t named (is_file (item_at t path)) else Ok named)
      (adds_if form digests path named is)
  unfolding adds_if
  if_tells path named true = document_tells path named
  if_tells path named false = tells_yields named

  name_tells : (folder name : List ℕ) (named : List (List ℕ))
      → OnlyTells (λ t. name_in form digests folder t name named) (adds_name form digests folder name named)
  unfolding adds_name
  name_tells folder name named = if_tells (joined folder name) named (is_document_name name)

  folder_tells : (folder : List ℕ) (named : List (List ℕ))
      → OnlyTells (λ t. folder_in form digests folder t named) (adds_folder form digests folder named)
  unfolding adds_folder
  folder_tells folder named = tells_then (listed_in folder)
      (λ names t. each_in (name_in form digests folder t) names named) _ _ (list_tells folder)
      (λ names. tells_each (name_in form digests folder) (adds_name form digests folder)
      (name_tells folder) names named)

named_tells : (store : List ℕ) → OnlyTells (named_in store) (reads_named store)
unfolding reads_named
named_tells store = tells_then (λ t. folder_in image_table_in digests_of_image (images_folder store) t [])
    (λ named t. folder_in table_in digests_of_run (runs_folder store) t named) _ _
    (folder_tells image_table_in digests_of_image (images_folder store) [])
    (λ named. folder_tells table_in digests_of_run (runs_folder store) named)

-- ---- tree files

digest_tells : (store : List ℕ) (digest : Option (List ℕ)) (trees : List (List ℕ))
    → OnlyTells (λ t. digest_at store t digest trees) (adds_digest store digest trees)
unfolding adds_digest
digest_tells store None trees = tells_yields trees
digest_tells store (Some digest) trees = tells_then (λ t. Ok (is_file (item_at t (tree_path store digest))))
    (λ there t. Ok (with_tree trees digest there)) _ _ (looked_tells (tree_path store digest))
    (λ there. tells_gives (Ok (with_tree trees digest there)))

tree_tells : (store name : List ℕ) (trees : List (List ℕ))
    → OnlyTells (λ t. digest_at store t (tree_digest name) trees) (adds_tree store name trees)
unfolding adds_tree
tree_tells store name trees = digest_tells store (tree_digest name) trees

trees_tells : (store : List ℕ) → OnlyTells (trees_in store) (reads_trees store)
unfolding reads_trees
trees_tells store = tells_then (listed_in (trees_of store))
    (λ names t. each_in (λ name trees. digest_at store t (tree_digest name) trees) names []) _ _
    (list_tells (trees_of store)) (λ names. tells_each
    (λ t name trees. digest_at store t (tree_digest name) trees) (adds_tree store) (tree_tells store) names [])

-- a survey comes to what the files say, and leaves them
pub survey_tells : (store : List ℕ) → OnlyTells (pruned_in store) (surveys store)
unfolding surveys
survey_tells store =
    tells_then (named_in store) (λ named t. results.and_then (trees_in store t)
    (λ trees. Ok (pruned_of named trees))) _ _ (named_tells store)
    (λ named. tells_then (trees_in store) (λ trees t. Ok (pruned_of named trees)) _ _ (trees_tells store)
    (λ trees. tells_gives (Ok (pruned_of named trees))))
