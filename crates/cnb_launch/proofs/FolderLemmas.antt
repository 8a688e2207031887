-- What is wanted of folders: lengths, and how far a loop has come.
use Rattle.std.proofs.Common.{◌≡◌, ◌≢◌, ◌∙◌, refl, sym, ap, subst, ℕ, ◌+◌, ◌≤◌, ◌<◌, nat_le, nat_lt, Bool, true, false}
use Rattle.std.proofs.Common.{not, IsTrue, List, [], ◌∷◌, ◌++◌, append_assoc, append-nil, length, codes, get_or, arith}
use Rattle.std.proofs.Common.{length-append, Option, Some, None, Result, Ok, Err, inl, inr}
use Rattle.std.specs.Prelude.{◌&&◌, if◌then◌else◌, IfSome}
use Rattle.std.specs.List.{All, list_all}
use Rattle.std.specs.Str.{bytes_eq}
use Rattle.std.proofs.lemmas.Bool.{and_parts, leb-true}
use Rattle.std.proofs.lemmas.List.Elements.{All-push}
use Rattle.cnb_world.specs.Path.{is_part, is_part_byte, joined}
use Rattle.cnb_world.specs.Tree.{Tree}
use Rattle.cnb_world.specs.declared.world.FileFault.{FileFault}
use Rattle.cnb_world.specs.declared.world.FileFault.TheVariants as file_fault
use Rattle.cnb_toml.specs.Names.{is_process_type}
use Rattle.cnb_env.specs.Files.{IsOfFolder}
use Rattle.cnb_env.proofs.TypeLemmas.{type_is_part}
use Rattle.steps.specs.Causes.{Decided, IsAnswer}
use Rattle.doc_files.specs.Faults.{read_cause}
use Rattle.doc_files.specs.Reading.{Blames, BlamesOne, FailsAt}
use Rattle.doc_files.specs.declared.fault.ReadFault.{ReadFault}
use Rattle.doc_files.specs.declared.fault.ReadFault.TheVariants.{File, Document, Limit, Memory}
use Rattle.doc_files.proofs.Blame.{blames_among, blames_more, fails_among}
use Rattle.cnb_launch.specs.Folders.{AreWithin, IsOfFolders, all_in, in_front, wanted_in}
use Rattle.cnb_launch.specs.declared.folders.Wanted.{Wanted}

joined_by : (root : Bool) (path name : List ℕ) → length ((if root then path else path ++ 47 ∷ []) ++ name)
    ≤ length path + 1 + length name
joined_by true path name = omega (arith, length-append path name)
joined_by false path name = omega (arith, length-append (path ++ 47 ∷ []) name, length-append path (47 ∷ []))

part_within : (name : List ℕ) → IsTrue (is_part name) → length name ≤ 255
part_within name h =
    let (most, bytes) = and_parts (nat_lt 0 (length name) && nat_le (length name) 255
    && not (bytes_eq name (46 ∷ [])) && not (bytes_eq name (46 ∷ 46 ∷ []))) (list_all is_part_byte name) h in
    let (more, dots) = and_parts (nat_lt 0 (length name) && nat_le (length name) 255
    && not (bytes_eq name (46 ∷ []))) (not (bytes_eq name (46 ∷ 46 ∷ []))) most in
    let (sized, dot) = and_parts (nat_lt 0 (length name) && nat_le (length name) 255)
    (not (bytes_eq name (46 ∷ []))) more in
    let (some, few) = and_parts (nat_lt 0 (length name)) (nat_le (length name) 255) sized in
    leb-true (length name) 255 few

-- a path below a folder that leaves room for it
pub below_fits : (folder name other : List ℕ) → other ≡ name → IsTrue (is_part name) → length folder ≤ 8448
    → length (joined folder other) ≤ 32768
below_fits folder name other same part short =
    let by : length (joined folder other) ≤ length folder + 1 + length other = joined_by
    (bytes_eq folder (47 ∷ [])) folder other in
    let is : length other ≡ length name = ap length same in
    omega (arith, part_within name part)

-- a name adds at most a slash and 255 bytes
pub below_within : (folder name : List ℕ) → IsTrue (is_part name) → length (joined folder name) ≤ length folder + 256
below_within folder name part =
    let by : length (joined folder name) ≤ length folder + 1 + length name = joined_by
    (bytes_eq folder (47 ∷ [])) folder name in
    omega (arith, part_within name part)

pub push_within : (room : ℕ) (paths : List (List ℕ)) (path : List ℕ) → AreWithin room paths → length path ≤ room
    → AreWithin room (paths ++ path ∷ [])
push_within room paths path h k = All-push (λ p. length p ≤ room) paths path h k

pub pushed_within : (room : ℕ) (paths new : List (List ℕ)) (path : List ℕ) → new ≡ paths ++ path ∷ []
    → length path ≤ room → AreWithin room paths → AreWithin room new
pushed_within room paths new path is fits h = subst (AreWithin room) (sym is) (push_within room paths path h fits)

pub exec_folder_short : (layer folder : List ℕ) → folder ≡ joined layer (codes "exec.d") → length layer ≤ 4615
    → length folder ≤ 8448
exec_folder_short layer folder is short =
    let by : length (joined layer (codes "exec.d")) ≤ length layer + 1 + 6 = joined_by
    (bytes_eq layer (47 ∷ [])) layer (codes "exec.d") in
    let same : length folder ≡ length (joined layer (codes "exec.d")) = ap length is in
    omega arith

pub type_folder_short : (layer folder kind text path : List ℕ) → folder ≡ joined layer (codes "exec.d")
    → path ≡ joined folder text → IsTrue (is_process_type kind) → text ≡ kind → length layer ≤ 4615
    → length path ≤ 8448
type_folder_short layer folder kind text path is below typed same short =
    let first : length (joined layer (codes "exec.d")) ≤ length layer + 1 + 6 = joined_by
    (bytes_eq layer (47 ∷ [])) layer (codes "exec.d") in
    let second : length (joined folder kind) ≤ length folder + 256 = below_within folder kind
    (type_is_part kind typed) in
    let one : length folder ≡ length (joined layer (codes "exec.d")) = ap length is in
    let two : length path ≡ length (joined folder kind) = ap length (below ∙ ap (joined folder) same) in
    omega arith

-- what is found in one folder more
pub within_more : (room : ℕ) (folders : List (List ℕ)) (i : ℕ) (folder : List ℕ) → i < length folders
    → folder ≡ get_or folders i folder → (all : List (List (List ℕ))) (paths : List (List ℕ))
    (new : List (List (List ℕ))) → new ≡ all ++ paths ∷ []
    → AreWithin room folders → AreWithin (length folder + 256) paths → All (AreWithin (room + 256)) all
    → All (AreWithin (room + 256)) new
within_more room folders i folder lt is all paths new pushed fit here before =
    let short : length folder ≤ room = subst (λ f. length f ≤ room) (sym is) (fit i folder lt) in
    let wider : AreWithin (room + 256) paths = λ k d h. let fits = here k d h in omega arith in
    subst (All (AreWithin (room + 256))) (sym pushed) (All-push (AreWithin (room + 256)) all paths before wider)

-- ---- a call that failed

pub blamed_fails : (path : List ℕ) (fault : FileFault) (refusal : ReadFault) → Blames path fault refusal
    → read_cause refusal ≢ Decided
blamed_fails path fault Memory h = λ is. absurd (cc)
blamed_fails path fault (File blamed) h = λ is. absurd (cc)
blamed_fails path file_fault.Failed (Document blamed why) h = absurd h
blamed_fails path file_fault.Memory (Document blamed why) h = absurd h
blamed_fails path file_fault.Failed (Limit kind) h = absurd h
blamed_fails path file_fault.Memory (Limit kind) h = absurd h

-- it may come in place of any answer
pub fails_free : {T : Type 0} (fault : ReadFault) (want : Result T ReadFault) → read_cause fault ≢ Decided
    → IsAnswer {A = T} read_cause (Err fault) want
fails_free (File path) want h = tt
fails_free Memory want h = tt
fails_free (Document path fault) want h = absurd (h refl)
fails_free (Limit kind) want h = absurd (h refl)

-- which path it names: the folder, one right in it, or one of a folder among others
pub blamed_itself : (folder : List ℕ) (fault : FileFault) (refusal : ReadFault) → Blames folder fault refusal
    → BlamesOne (IsOfFolder folder) refusal
blamed_itself folder fault refusal h = blames_among folder (IsOfFolder folder) (λ blamed is. inl is) fault refusal h

pub fails_itself : (folder : List ℕ) (fault : ReadFault) → FailsAt folder fault → BlamesOne (IsOfFolder folder) fault
fails_itself folder fault h = fails_among folder (IsOfFolder folder) (λ blamed is. inl is) fault h

pub blamed_below : (folder name other path : List ℕ) (fault : FileFault) (refusal : ReadFault)
    → path ≡ joined folder other → other ≡ name → IsTrue (is_part name) → Blames path fault refusal
    → BlamesOne (IsOfFolder folder) refusal
blamed_below folder name other path fault refusal below same part h = blames_among path (IsOfFolder folder)
    (λ blamed is. inr (name, part, is ∙ below ∙ ap (joined folder) same)) fault refusal h

pub among_folders : (folders : List (List ℕ)) (i : ℕ) (folder : List ℕ) → i < length folders
    → folder ≡ get_or folders i folder → (fault : ReadFault) → BlamesOne (IsOfFolder folder) fault
    → BlamesOne (IsOfFolders folders) fault
among_folders folders i folder lt is fault h = blames_more (IsOfFolder folder) (IsOfFolders folders)
    (λ path of. (folder, (i, (lt, is)), of)) fault h

pub folders_as : (folders other : List (List ℕ)) → folders ≡ other → (fault : ReadFault)
    → BlamesOne (IsOfFolders folders) fault → BlamesOne (IsOfFolders other) fault
folders_as folders other same fault h = subst (λ fs. BlamesOne (IsOfFolders fs) fault) same h

-- ---- one folder after another

abbrev Found : Type 0
Found = Result (List (List (List ℕ))) ReadFault

-- with these found, what is left gives the whole
abbrev behind : List (List (List ℕ)) → Found → Found
behind done (Ok rest) = Ok (done ++ rest)
behind done (Err fault) = Err fault

abbrev pub Leaves : Wanted → Option Tree → List (List (List ℕ)) → List (List ℕ) → List (List ℕ) → Type 0
Leaves wanted told done rest all = IfSome told
    (λ files. behind done (all_in wanted rest files) ≡ all_in wanted all files)

behind_one : (done : List (List (List ℕ))) (paths : List (List ℕ)) (x : Found)
    → behind done (in_front (Ok paths) x) ≡ behind (done ++ paths ∷ []) x
behind_one done paths (Ok rest) = ap Ok (sym (append_assoc done (paths ∷ []) rest))
behind_one done paths (Err fault) = refl

behind_none : (x : Found) → behind [] x ≡ x
behind_none (Ok rest) = refl
behind_none (Err fault) = refl

module _ (wanted : Wanted) (folder : List ℕ) (later whole all : List (List ℕ)) (next : whole ≡ folder ∷ later)
    (done : List (List (List ℕ))) where
  left_as : (files : Tree) → behind done (all_in wanted whole files) ≡ all_in wanted all files
      → behind done (in_front (wanted_in wanted files folder) (all_in wanted later files))
      ≡ all_in wanted all files
  unfolding all_in
  left_as files left = ap (λ folders. behind done (all_in wanted folders files)) (sym next) ∙ left

  pub moves : (o o1 : Option Tree) (paths : List (List ℕ)) → o1 ≡ o
      → IfSome o1 (λ files. wanted_in wanted files folder ≡ Ok paths) → Leaves wanted o done whole all
      → Leaves wanted o (done ++ paths ∷ []) later all
  moves None o1 paths e read left = tt
  moves (Some files) o1 paths e read left =
      let P : Option Tree → Type 0 = λ x. IfSome x (λ t. wanted_in wanted t folder ≡ Ok paths) in
      sym (behind_one done paths (all_in wanted later files))
      ∙ ap (λ x. behind done (in_front x (all_in wanted later files))) (sym (subst P e read))
      ∙ left_as files left

  stops_at : (files : Tree) (fault : ReadFault) → IsAnswer {A = List (List ℕ)} read_cause (Err fault)
      (wanted_in wanted files folder) → behind done (in_front (wanted_in wanted files folder)
      (all_in wanted later files)) ≡ all_in wanted all files
      → IsAnswer {A = List (List (List ℕ))} read_cause (Err fault) (all_in wanted all files)
  stops_at files (File path) read left = tt
  stops_at files Memory read left = tt
  stops_at files (Document path fault) read left = sym left
      ∙ ap (λ x. behind done (in_front x (all_in wanted later files))) read
  stops_at files (Limit kind) read left = sym left ∙ ap (λ x. behind done (in_front x (all_in wanted later files))) read

  pub stops : (o o1 : Option Tree) (fault : ReadFault) → o1 ≡ o
      → IfSome o1 (λ files. IsAnswer {A = List (List ℕ)} read_cause (Err fault) (wanted_in wanted files folder))
      → Leaves wanted o done whole all
      → IfSome o (λ files. IsAnswer {A = List (List (List ℕ))} read_cause (Err fault) (all_in wanted all files))
  stops None o1 fault e read left = tt
  stops (Some files) o1 fault e read left =
      let P : Option Tree → Type 0 = λ x. IfSome x (λ t. IsAnswer {A = List (List ℕ)} read_cause (Err fault)
      (wanted_in wanted t folder)) in
      stops_at files fault (subst P e read) (left_as files left)

pub nothing_found : (wanted : Wanted) (o : Option Tree) (done : List (List (List ℕ))) (all : List (List ℕ))
    → done ≡ [] → Leaves wanted o done all all
nothing_found wanted None done all none = tt
nothing_found wanted (Some files) done all none = ap (λ d. behind d (all_in wanted all files)) none
    ∙ behind_none (all_in wanted all files)

pub all_found : (wanted : Wanted) (o : Option Tree) (done : List (List (List ℕ))) (rest all : List (List ℕ))
    → rest ≡ [] → Leaves wanted o done rest all → IfSome o (λ files. all_in wanted all files ≡ Ok done)
unfolding all_in
all_found wanted None done rest all none left = tt
all_found wanted (Some files) done rest all none left = sym left
    ∙ ap (λ folders. behind done (all_in wanted folders files)) none ∙ ap Ok (append-nil done)
