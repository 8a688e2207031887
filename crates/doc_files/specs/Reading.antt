-- Reading documents and folders from files.
use Rattle.std.specs.Prelude.{ℕ, ◌≡◌, if◌then◌else◌, List, Option, Some, None, Result, Ok, Err}
use Rattle.cnb_world.specs.Listing.{names_in}
use Rattle.cnb_world.specs.Tree.{Tree, can_list, is_file_or_absent, item_at}
use Rattle.cnb_world.specs.Whole.{whole_of}
use Rattle.cnb_world.specs.declared.limits.LimitKind.{LimitKind}
use Rattle.cnb_world.specs.declared.limits.LimitKind.TheVariants.{Document as DocumentLimit}
use Rattle.cnb_world.specs.declared.whole.Whole.{Whole}
use Rattle.cnb_world.specs.declared.whole.Whole.TheVariants as whole
use Rattle.cnb_world.specs.declared.world.FileFault.{FileFault}
use Rattle.cnb_world.specs.declared.world.FileFault.TheVariants as file_fault
use Rattle.cnb_toml.specs.declared.fault.DocFault.{DocFault}
use Rattle.cnb_toml.specs.declared.fault.DocFault.TheVariants as doc_fault
use Rattle.doc_files.specs.declared.fault.ReadFault.{ReadFault}
use Rattle.doc_files.specs.declared.fault.ReadFault.TheVariants.{File, Document, Limit, Memory}

-- a call on a path that failed is a refusal of that path, or memory ran out
abbrev pub Blames : List ℕ → FileFault → ReadFault → Type 0
Blames path fault Memory = Unit {0}
Blames path file_fault.Failed (File blamed) = blamed ≡ path
Blames path fault refusal = ⊥

-- a call on this path failed, or memory ran out
abbrev pub FailsAt : List ℕ → ReadFault → Type 0
FailsAt path (File blamed) = blamed ≡ path
FailsAt path Memory = Unit {0}
FailsAt path (Document blamed fault) = ⊥
FailsAt path (Limit kind) = ⊥

-- a fault that names a path names one of these
abbrev pub BlamesOne : (List ℕ → Type 0) → ReadFault → Type 0
BlamesOne Among (File blamed) = Among blamed
BlamesOne Among (Document blamed fault) = Among blamed
BlamesOne Among (Limit kind) = Unit {0}
BlamesOne Among Memory = Unit {0}

-- a fault that names a path names this one
abbrev pub BlamesOnly : List ℕ → ReadFault → Type 0
BlamesOnly path fault = BlamesOne (λ blamed. blamed ≡ path) fault

-- the bytes of a file, where one is there and has no more than the limit of its kind
abbrev pub limited_by : LimitKind → Whole → Result (Option (List ℕ)) ReadFault
limited_by kind whole.Absent = Ok None
limited_by kind (whole.Large len) = Err (Limit kind)
limited_by kind (whole.Bytes bytes) = Ok (Some bytes)

-- the file at a path; what is neither a file nor absent can't be read
abbrev pub file_at : ℕ → LimitKind → Tree → List ℕ → Result (Option (List ℕ)) ReadFault
file_at limit kind files path =
    if is_file_or_absent (item_at files path) then limited_by kind (whole_of limit (item_at files path)) else Err
    (File path)

-- the document at a path
abbrev pub document_at : Tree → List ℕ → Result (Option (List ℕ)) ReadFault
document_at files path = file_at 1048576 DocumentLimit files path

-- the names in a folder, ascending; what is no folder can't be listed
abbrev pub names_at : Tree → List ℕ → Result (List (List ℕ)) ReadFault
names_at files folder = if can_list files folder then Ok (names_in files folder) else Err (File folder)

-- what the reader of a document answers, for the document at a path
abbrev pub read_at : {T : Type 0} → List ℕ → Result T DocFault → Result T ReadFault
read_at path (Ok value) = Ok value
read_at path (Err doc_fault.Memory) = Err Memory
read_at path (Err fault) = Err (Document path fault)
