-- The exit status of a refusal (platform.md, "detector" to "launcher", and own), and the words of its error line.
use Rattle.std.specs.Prelude.{ℕ, ℤ, true, false, List, [], ◌∷◌, ◌++◌, codes, if◌then◌else◌, Option, Some, None}
use Rattle.std.specs.Fmt.{decimal, signed_decimal}
use Rattle.hex.specs.Hex.{encode_lower}
use Rattle.cnb_world.specs.declared.limits.LimitKind.{LimitKind}
use Rattle.cnb_world.specs.declared.limits.LimitKind.TheVariants.{Groups, Entries, Nesting, Trials, Tree, Depth}
use Rattle.cnb_world.specs.declared.limits.LimitKind.TheVariants.{Document as DocumentLimit, Record}
use Rattle.cnb_toml.specs.declared.fault.DocFault.{DocFault}
use Rattle.cnb_toml.specs.declared.fault.DocFault.TheVariants as fault
use Rattle.cnb_lifecycle.specs.declared.refusal.Refusal.{Refusal}
use Rattle.cnb_lifecycle.specs.declared.refusal.Refusal.TheVariants.{Usage, File, Memory, Document, Child, Limit}
use Rattle.cnb_lifecycle.specs.declared.refusal.Refusal.TheVariants.{OddFile, PlatformApi, BuildpackApi, Order, NoTree}
use Rattle.cnb_lifecycle.specs.declared.refusal.Refusal.TheVariants.{Exists, NoGroup, BadRecord, RecordDiffers, Damaged}
use Rattle.cnb_lifecycle.specs.declared.refusal.Refusal.TheVariants.{NoImage, BuildFailed, UnknownUnmet, NoContents}
use Rattle.cnb_lifecycle.specs.declared.refusal.Refusal.TheVariants.{Clash, NoPrevious, TwoDefaults, BadPattern}
use Rattle.cnb_lifecycle.specs.declared.refusal.Refusal.TheVariants.{TopDiffers, TargetDiffers, ShellProcess, NoProcess}
use Rattle.cnb_lifecycle.specs.declared.refusal.Refusal.TheVariants.{ExecFailed, BadExecOutput}

abbrev pub code_of : Refusal → ℕ
code_of Usage = 1
code_of (File path) = 2
code_of Memory = 3
code_of (Document path fault) = 4
code_of Child = 5
code_of (Limit kind) = 6
code_of (OddFile path) = 8
code_of (PlatformApi text) = 11
code_of (BuildpackApi text) = 12
code_of (Order id ambiguous) = 13
code_of (NoTree digest) = 14
code_of (Exists path) = 15
code_of (NoGroup false) = 20
code_of (NoGroup true) = 21
code_of (BadRecord line) = 22
code_of (RecordDiffers path) = 23
code_of (Damaged asked found bad) = 30
code_of (NoImage name) = 31
code_of (BuildFailed id code) = 51
code_of (UnknownUnmet id name) = 52
code_of (NoContents id layer) = 60
code_of (Clash digest) = 61
code_of (NoPrevious id layer) = 62
code_of (TwoDefaults id) = 63
code_of (BadPattern id pattern) = 64
code_of (TopDiffers recorded found) = 70
code_of (TargetDiffers old new) = 71
code_of (ShellProcess word) = 80
code_of (NoProcess kind) = 81
code_of (ExecFailed path code) = 82
code_of (BadExecOutput path) = 83

abbrev pub name_of : Refusal → List ℕ
name_of Usage = codes "Usage"
name_of (File path) = codes "File"
name_of Memory = codes "Memory"
name_of (Document path fault) = codes "Document"
name_of Child = codes "Child"
name_of (Limit kind) = codes "Limit"
name_of (OddFile path) = codes "OddFile"
name_of (PlatformApi text) = codes "PlatformApi"
name_of (BuildpackApi text) = codes "BuildpackApi"
name_of (Order id ambiguous) = codes "Order"
name_of (NoTree digest) = codes "NoTree"
name_of (Exists path) = codes "Exists"
name_of (NoGroup erred) = codes "NoGroup"
name_of (BadRecord line) = codes "BadRecord"
name_of (RecordDiffers path) = codes "RecordDiffers"
name_of (Damaged asked found bad) = codes "Damaged"
name_of (NoImage name) = codes "NoImage"
name_of (BuildFailed id code) = codes "BuildFailed"
name_of (UnknownUnmet id name) = codes "UnknownUnmet"
name_of (NoContents id layer) = codes "NoContents"
name_of (Clash digest) = codes "Clash"
name_of (NoPrevious id layer) = codes "NoPrevious"
name_of (TwoDefaults id) = codes "TwoDefaults"
name_of (BadPattern id pattern) = codes "BadPattern"
name_of (TopDiffers recorded found) = codes "TopDiffers"
name_of (TargetDiffers old new) = codes "TargetDiffers"
name_of (ShellProcess word) = codes "ShellProcess"
name_of (NoProcess kind) = codes "NoProcess"
name_of (ExecFailed path code) = codes "ExecFailed"
name_of (BadExecOutput path) = codes "BadExecOutput"

abbrev pub limit_name : LimitKind → List ℕ
limit_name Groups = codes "groups"
limit_name Entries = codes "entries"
limit_name Nesting = codes "nesting"
limit_name Trials = codes "trials"
limit_name Tree = codes "tree"
limit_name Depth = codes "depth"
limit_name DocumentLimit = codes "document"
limit_name Record = codes "record"

abbrev pub fault_name : DocFault → List ℕ
fault_name fault.Absent = codes "Absent"
fault_name fault.NotUtf8 = codes "NotUtf8"
fault_name fault.NotToml = codes "NotToml"
fault_name (fault.MetaKind path) = codes "MetaKind"
fault_name (fault.Missing path) = codes "Missing"
fault_name (fault.Wrong path) = codes "Wrong"
fault_name (fault.Name path) = codes "Name"
fault_name fault.Memory = codes "Memory"

-- the key path of a fault, where it has one
abbrev pub fault_path : DocFault → Option (List ℕ)
fault_path (fault.MetaKind path) = Some path
fault_path (fault.Missing path) = Some path
fault_path (fault.Wrong path) = Some path
fault_path (fault.Name path) = Some path
fault_path fault.Absent = None
fault_path fault.NotUtf8 = None
fault_path fault.NotToml = None
fault_path fault.Memory = None

-- two texts with a space between
abbrev pub spaced : List ℕ → List ℕ → List ℕ
spaced first second = first ++ 32 ∷ second

-- a text with another behind it, where there is one
abbrev pub with_text : List ℕ → Option (List ℕ) → List ℕ
with_text first None = first
with_text first (Some second) = spaced first second

-- a child's exit code, or that it had none
abbrev pub code_text : Option ℤ → List ℕ
code_text None = codes "none"
code_text (Some code) = signed_decimal code

-- a layer of a buildpack
abbrev pub layer_text : List ℕ → List ℕ → List ℕ
layer_text id layer = id ++ codes ":" ++ layer

abbrev pub unless_empty : List ℕ → Option (List ℕ)
unless_empty [] = None
unless_empty (byte ∷ bytes) = Some (byte ∷ bytes)

-- what stands behind the name
abbrev pub detail_of : Refusal → Option (List ℕ)
detail_of Usage = None
detail_of (File path) = Some path
detail_of Memory = None
detail_of (Document path fault) = Some (with_text (spaced path (fault_name fault)) (fault_path fault))
detail_of Child = None
detail_of (Limit kind) = Some (limit_name kind)
detail_of (OddFile path) = Some path
detail_of (PlatformApi text) = Some text
detail_of (BuildpackApi text) = Some text
detail_of (Order id ambiguous) = Some (spaced (if ambiguous then codes "Ambiguous" else codes "Absent") id)
detail_of (NoTree digest) = Some (encode_lower digest)
detail_of (Exists path) = Some path
detail_of (NoGroup erred) = None
detail_of (BadRecord line) = Some (decimal line)
detail_of (RecordDiffers path) = Some path
detail_of (Damaged asked found bad) = Some (spaced (encode_lower asked) (encode_lower found))
detail_of (NoImage name) = Some name
detail_of (BuildFailed id code) = Some (spaced id (code_text code))
detail_of (UnknownUnmet id name) = Some (spaced id name)
detail_of (NoContents id layer) = Some (layer_text id layer)
detail_of (Clash digest) = Some (encode_lower digest)
detail_of (NoPrevious id layer) = Some (layer_text id layer)
detail_of (TwoDefaults id) = Some id
detail_of (BadPattern id pattern) = Some (spaced id pattern)
detail_of (TopDiffers recorded found) = Some (spaced (encode_lower recorded) (encode_lower found))
detail_of (TargetDiffers old new) = Some (spaced old new)
detail_of (ShellProcess word) = unless_empty word
detail_of (NoProcess kind) = unless_empty kind
detail_of (ExecFailed path code) = Some (spaced path (code_text code))
detail_of (BadExecOutput path) = Some path
