-- Descriptors behind those of a catalog: how far a loop over names has come.
use Rattle.std.proofs.Common.{◌≡◌, ◌∙◌, refl, sym, ap, subst, ℕ, Bool, true, false, cond, List, [], append_assoc}
use Rattle.std.proofs.Common.{append-nil, Option, Some, None, Result, Ok, Err}
use Rattle.std.specs.Prelude.{IfSome}
use Rattle.cnb_world.specs.Tree.{Tree, is_folder, item_at}
use Rattle.bp_docs.specs.declared.descriptor.Descriptor.{Descriptor}
use Rattle.order_files.specs.Catalog.{followed_by, listed}
use Rattle.steps.specs.Causes.{IsAnswer}
use Rattle.steps.proofs.ReadingLaws.{where_map}
use Rattle.doc_files.specs.Faults.{read_cause}
use Rattle.doc_files.proofs.NamesRead.{told}
use Rattle.doc_files.specs.declared.fault.ReadFault.{ReadFault}

abbrev pub Found : Type 0
Found = Result (List Descriptor) ReadFault

followed_by-followed_by : (a b c : Found) → followed_by (followed_by a b) c ≡ followed_by a (followed_by b c)
followed_by-followed_by (Ok x) (Ok y) (Ok z) = ap Ok (append_assoc x y z)
followed_by-followed_by (Ok x) (Ok y) (Err fault) = refl
followed_by-followed_by (Ok x) (Err fault) c = refl
followed_by-followed_by (Err fault) b c = refl

-- nothing behind a catalog leaves it
nothing_behind : (done : List Descriptor) → followed_by (Ok done) (Ok []) ≡ Ok done
nothing_behind done = ap Ok (append-nil done)

nothing_before : (found : Found) → followed_by (Ok []) found ≡ found
nothing_before (Ok found) = refl
nothing_before (Err fault) = refl

-- with these descriptors done, what is left gives the whole
abbrev pub Leaves : Option Tree → List Descriptor → (Tree → Found) → (Tree → Found) → Type 0
Leaves o done rest all = IfSome o (λ files. followed_by (Ok done) (rest files) ≡ all files)

module _ (one rest all : Tree → Found) (done : List Descriptor) where
  pub moves : (o o1 : Option Tree) (new : List Descriptor) → o1 ≡ o
      → IfSome o1 (λ files. followed_by (Ok done) (one files) ≡ Ok new)
      → Leaves o done (λ files. followed_by (one files) (rest files)) all → Leaves o new rest all
  moves None o1 new e read left = tt
  moves (Some files) o1 new e read left =
      let P : Option Tree → Type 0 = λ x. IfSome x (λ t. followed_by (Ok done) (one t) ≡ Ok new) in
      ap (λ x. followed_by x (rest files)) (sym (subst P e read))
      ∙ followed_by-followed_by (Ok done) (one files) (rest files) ∙ left

  refused_all : (files : Tree) (fault : ReadFault) → followed_by (Ok done) (one files) ≡ Err fault
      → followed_by (Ok done) (followed_by (one files) (rest files)) ≡ all files → all files ≡ Err fault
  refused_all files fault read left = sym left ∙ sym (followed_by-followed_by (Ok done) (one files) (rest files))
      ∙ ap (λ x. followed_by x (rest files)) read

  stops_at : (files : Tree) (fault : ReadFault) → IsAnswer {A = List Descriptor} read_cause (Err fault)
      (followed_by (Ok done) (one files)) → followed_by (Ok done) (followed_by (one files) (rest files))
      ≡ all files → IsAnswer {A = List Descriptor} read_cause (Err fault) (all files)
  stops_at files fault read left = where_map (read_cause fault) _ _
      (λ refused. refused_all files fault refused left) read

  pub stops : (o o1 : Option Tree) (fault : ReadFault) → o1 ≡ o
      → IfSome o1 (λ files. IsAnswer {A = List Descriptor} read_cause (Err fault)
      (followed_by (Ok done) (one files))) → Leaves o done (λ files. followed_by (one files) (rest files)) all
      → IfSome o (λ files. IsAnswer {A = List Descriptor} read_cause (Err fault) (all files))
  stops None o1 fault e read left = tt
  stops (Some files) o1 fault e read left =
      let P : Option Tree → Type 0 = λ x. IfSome x (λ t. IsAnswer {A = List Descriptor} read_cause (Err fault)
      (followed_by (Ok done) (one t))) in
      stops_at files fault (subst P e read) left

-- what a loop over all has done is the whole
pub all_done : (o : Option Tree) (done : List Descriptor) (rest all : Tree → Found)
    → ((files : Tree) → rest files ≡ Ok []) → Leaves o done rest all → IfSome o (λ files. all files ≡ Ok done)
all_done None done rest all none left = tt
all_done (Some files) done rest all none left = sym left ∙ ap (followed_by (Ok done)) (none files) ∙ nothing_behind done

-- before anything is done, all is left
pub nothing_done : (o : Option Tree) (done : List Descriptor) (all : Tree → Found) → done ≡ [] → Leaves o done all all
nothing_done None done all e = tt
nothing_done (Some files) done all e = ap (λ d. followed_by (Ok d) (all files)) e ∙ nothing_before (all files)

-- what is found in a path, where that is a folder
abbrev pub when_folder : Tree → List ℕ → Found → Found
when_folder files path found = cond (is_folder (item_at files path)) found (Ok [])

abbrev pub IsFolder : Option Tree → List ℕ → Bool → Type 0
IsFolder o path is = IfSome o (λ files. IsAnswer read_cause (Ok is) (Ok (is_folder (item_at files path))))

-- what was told is one
pub told_same : {A : Type 0} (a b : A) → told a ≡ told b → a ≡ b
told_same a b e = cc

module _ (path : List ℕ) (inside : Tree → Found) (done : List Descriptor) where
  pub passed_over : (o : Option Tree) → IsFolder o path false
      → IfSome o (λ files. followed_by (Ok done) (when_folder files path (inside files)) ≡ Ok done)
  passed_over None h = tt
  passed_over (Some files) h = ap (λ is. followed_by (Ok done) (cond is (inside files) (Ok [])))
      (told_same (is_folder (item_at files path)) false h) ∙ nothing_behind done

  pub folder_read : (o o1 : Option Tree) (result : Found) → o1 ≡ o → IsFolder o path true
      → IfSome o1 (λ files. IsAnswer read_cause result (followed_by (Ok done) (inside files)))
      → IfSome o (λ files. IsAnswer read_cause result
      (followed_by (Ok done) (when_folder files path (inside files))))
  folder_read None o1 result e h read = tt
  folder_read (Some files) o1 result e h read =
      let P : Option Tree → Type 0 = λ x. IfSome x (λ t. IsAnswer read_cause result
      (followed_by (Ok done) (inside t))) in
      let Q : Bool → Type 0 = λ is. IsAnswer read_cause result
      (followed_by (Ok done) (cond is (inside files) (Ok []))) in
      subst Q (sym (told_same (is_folder (item_at files path)) true h)) (subst P e read)

  pub folder_refused : (o o1 : Option Tree) (fault : ReadFault) → o1 ≡ o → IsFolder o path true
      → IfSome o1 (λ files. IsAnswer {A = List Descriptor} read_cause (Err fault)
      (followed_by (Ok done) (inside files)))
      → IfSome o (λ files. IsAnswer {A = List Descriptor} read_cause (Err fault)
      (followed_by (Ok done) (when_folder files path (inside files))))
  folder_refused o o1 fault e h read = folder_read o o1 (Err fault) e h read

-- a refused descriptor refuses the whole
module _ (read : Tree → Result (Option Descriptor) ReadFault) (done : List Descriptor) where
  pub descriptor_refused : (o : Option Tree) (fault : ReadFault)
      → IfSome o (λ files. IsAnswer {A = Option Descriptor} read_cause (Err fault) (read files))
      → IfSome o (λ files. IsAnswer {A = List Descriptor} read_cause (Err fault)
      (followed_by (Ok done) (listed (read files))))
  descriptor_refused None fault h = tt
  descriptor_refused (Some files) fault h = where_map (read_cause fault) _ _
      (λ refused. ap (λ x. followed_by (Ok done) (listed x)) refused) h

  pub descriptor_added : (o : Option Tree) (found : Option Descriptor) (new : List Descriptor)
      → IfSome o (λ files. read files ≡ Ok found) → followed_by (Ok done) (listed (Ok found)) ≡ Ok new
      → IfSome o (λ files. followed_by (Ok done) (listed (read files)) ≡ Ok new)
  descriptor_added None found new h added = tt
  descriptor_added (Some files) found new h added = ap (λ x. followed_by (Ok done) (listed x)) h ∙ added
