-- The files of a folder's names: how far a loop over them has come.
use Rattle.std.proofs.Common.{◌≡◌, ◌∙◌, refl, sym, ap, subst, ℕ, true, false, List, [], ◌∷◌, ◌++◌, append_assoc, Option}
use Rattle.std.proofs.Common.{Some, None, Result, Ok, Err}
use Rattle.std.specs.Prelude.{IfSome}
use Rattle.cnb_world.specs.Tree.{Tree, item_at, kind_of}
use Rattle.cnb_world.specs.declared.world.Item.{Item}
use Rattle.cnb_world.specs.declared.world.Item.TheVariants as item
use Rattle.cnb_world.specs.declared.world.Kind.{Kind}
use Rattle.steps.specs.Causes.{IsAnswer}
use Rattle.doc_files.specs.Faults.{read_cause}
use Rattle.doc_files.specs.declared.fault.ReadFault.{ReadFault}
use Rattle.doc_files.specs.declared.fault.ReadFault.TheVariants.{File, Document, Limit, Memory}
use Rattle.cnb_env.specs.Contents.{file_at, with_found}
use Rattle.cnb_env.specs.Files.{file_before, files_of, files_in_folder, folder_files_in, is_absent, listed_files}
use Rattle.cnb_env.specs.declared.files.EnvFile.{EnvFile}
use Rattle.cnb_env.specs.declared.names.Naming.{Naming}

abbrev Files : Type 0
Files = Result (List EnvFile) ReadFault

-- files in front of others
abbrev pub behind : List EnvFile → Files → Files
behind done (Ok rest) = Ok (done ++ rest)
behind done (Err fault) = Err fault

-- with these files done, what is left gives the whole
abbrev pub Leaves : Naming → Option Tree → List ℕ → List EnvFile → List (List ℕ) → List (List ℕ) → Type 0
Leaves naming told folder done rest all = IfSome told
    (λ files. behind done (files_of naming files folder rest) ≡ files_of naming files folder all)

behind_one : (done : List EnvFile) (file : EnvFile) (x : Files)
    → behind done (file_before (Ok (Some file)) x) ≡ behind (done ++ file ∷ []) x
behind_one done file (Ok rest) = ap Ok (sym (append_assoc done (file ∷ []) rest))
behind_one done file (Err fault) = refl

module _ (naming : Naming) (folder name : List ℕ) (names all : List (List ℕ)) (done : List EnvFile) where
  abbrev whole_of : Tree → Files
  whole_of files = files_of naming files folder all

  abbrev rest_of : Tree → Files
  rest_of files = files_of naming files folder names

  step : (files : Tree) (one : Result (Option EnvFile) ReadFault) → file_at naming files folder name ≡ one
      → behind done (file_before (file_at naming files folder name) (rest_of files)) ≡ whole_of files
      → behind done (file_before one (rest_of files)) ≡ whole_of files
  step files one e left = ap (λ x. behind done (file_before x (rest_of files))) (sym e) ∙ left

  moves_at : (files : Tree) (found : Option EnvFile) → file_at naming files folder name ≡ Ok found
      → behind done (file_before (file_at naming files folder name) (rest_of files)) ≡ whole_of files
      → behind (with_found done found) (rest_of files) ≡ whole_of files
  moves_at files None read left = step files (Ok None) read left
  moves_at files (Some file) read left = sym (behind_one done file (rest_of files))
      ∙ step files (Ok (Some file)) read left

  pub moves : (o o1 : Option Tree) (whole : List (List ℕ)) (found : Option EnvFile) → o1 ≡ o
      → whole ≡ name ∷ names → IfSome o1 (λ files. file_at naming files folder name ≡ Ok found)
      → Leaves naming o folder done whole all → Leaves naming o folder (with_found done found) names all
  moves None o1 whole found e w read left = tt
  moves (Some files) o1 whole found e w read left =
      let P : Option Tree → Type 0 = λ x. IfSome x (λ t. file_at naming t folder name ≡ Ok found) in
      let Q : List (List ℕ) → Type 0 = λ x. behind done (files_of naming files folder x) ≡ whole_of files in
      moves_at files found (subst P e read) (subst Q w left)

  stops_at : (files : Tree) (fault : ReadFault) → IsAnswer {A = Option EnvFile} read_cause (Err fault)
      (file_at naming files folder name) → behind done (file_before (file_at naming files folder name)
      (rest_of files)) ≡ whole_of files → IsAnswer {A = List EnvFile} read_cause (Err fault) (whole_of files)
  stops_at files (File path) read left = tt
  stops_at files Memory read left = tt
  stops_at files (Document path fault) read left = sym (step files (Err (Document path fault)) read left)
  stops_at files (Limit kind) read left = sym (step files (Err (Limit kind)) read left)

  pub stops : (o o1 : Option Tree) (whole : List (List ℕ)) (fault : ReadFault) → o1 ≡ o → whole ≡ name ∷ names
      → IfSome o1 (λ files. IsAnswer {A = Option EnvFile} read_cause (Err fault)
      (file_at naming files folder name)) → Leaves naming o folder done whole all
      → IfSome o (λ files. IsAnswer {A = List EnvFile} read_cause (Err fault) (whole_of files))
  stops None o1 whole fault e w read left = tt
  stops (Some files) o1 whole fault e w read left =
      let P : Option Tree → Type 0 = λ x. IfSome x (λ t. IsAnswer {A = Option EnvFile} read_cause (Err fault)
      (file_at naming t folder name)) in
      let Q : List (List ℕ) → Type 0 = λ x. behind done (files_of naming files folder x) ≡ whole_of files in
      stops_at files fault (subst P e read) (subst Q w left)

module _ (naming : Naming) (folder : List ℕ) where
  absent_is : (files : Tree) (found : Option Item) (k : Kind) → is_absent k ≡ true → k ≡ kind_of found
      → files_in_folder naming files folder found ≡ Ok []
  absent_is files None k h e = refl
  absent_is files (Some (item.File exec bytes)) k h e = let other : is_absent k ≡ false = ap is_absent e in absurd (cc)
  absent_is files (Some item.Folder) k h e = let other : is_absent k ≡ false = ap is_absent e in absurd (cc)
  absent_is files (Some (item.Link target)) k h e = let other : is_absent k ≡ false = ap is_absent e in absurd (cc)
  absent_is files (Some item.Odd) k h e = let other : is_absent k ≡ false = ap is_absent e in absurd (cc)

  pub absent_folder : (o : Option Tree) (k : Kind) (none : List EnvFile) → none ≡ [] → is_absent k ≡ true
      → IfSome o (λ files. k ≡ kind_of (item_at files folder))
      → IfSome o (λ files. folder_files_in naming folder files ≡ Ok none)
  absent_folder None k none n h told = tt
  absent_folder (Some files) k none n h told = absent_is files (item_at files folder) k h told ∙ ap Ok (sym n)

  standing_is : (files : Tree) (found : Option Item) (k : Kind) → is_absent k ≡ false → k ≡ kind_of found
      → files_in_folder naming files folder found ≡ listed_files naming files folder
  standing_is files None k h e = let other : is_absent k ≡ true = ap is_absent e in absurd (cc)
  standing_is files (Some found) k h e = refl

  -- what stands there is read as a folder
  standing_at : (files : Tree) (k : Kind) (result : Files) → is_absent k ≡ false
      → k ≡ kind_of (item_at files folder) → IsAnswer read_cause result (listed_files naming files folder)
      → IsAnswer read_cause result (folder_files_in naming folder files)
  standing_at files k result h told read = let Q : Files → Type 0 = λ x. IsAnswer read_cause result x
      in subst Q (sym (standing_is files (item_at files folder) k h told)) read

  pub standing_refused : (o o1 : Option Tree) (k : Kind) (fault : ReadFault) → o1 ≡ o → is_absent k ≡ false
      → IfSome o (λ files. k ≡ kind_of (item_at files folder))
      → IfSome o1 (λ files. IsAnswer {A = List EnvFile} read_cause (Err fault) (listed_files naming files folder))
      → IfSome o (λ files. IsAnswer {A = List EnvFile} read_cause (Err fault)
      (folder_files_in naming folder files))
  standing_refused None o1 k fault e h told read = tt
  standing_refused (Some files) o1 k fault e h told read =
      let P : Option Tree → Type 0 = λ x. IfSome x (λ t. IsAnswer {A = List EnvFile} read_cause (Err fault)
      (listed_files naming t folder)) in
      standing_at files k (Err fault) h told (subst P e read)

  pub standing_folder : (o o1 : Option Tree) (k : Kind) (found : List EnvFile) → o1 ≡ o → is_absent k ≡ false
      → IfSome o (λ files. k ≡ kind_of (item_at files folder))
      → IfSome o1 (λ files. (listed_files naming files folder) ≡ Ok found)
      → IfSome o (λ files. folder_files_in naming folder files ≡ Ok found)
  standing_folder None o1 k found e h told read = tt
  standing_folder (Some files) o1 k found e h told read =
      let P : Option Tree → Type 0 = λ x. IfSome x (λ t. listed_files naming t folder ≡ Ok found) in
      standing_at files k (Ok found) h told (subst P e read)
