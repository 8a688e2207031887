-- What a reader answers: a value, or the first fault with its key path.
use Rattle.std.specs.Prelude.{ℕ, ◌≡◌, ◌++◌, List, [], ◌∷◌, Result, Ok, Err}
pub use Rattle.cnb_world.specs.Steps.{◌>>=◌}
use Rattle.cnb_toml.specs.declared.fault.NameFault.{NameFault}
use Rattle.cnb_toml.specs.declared.fault.NameFault.TheVariants as name
use Rattle.cnb_toml.specs.declared.fault.DocFault.{DocFault}
use Rattle.cnb_toml.specs.declared.fault.DocFault.TheVariants.{MetaKind, Missing, Wrong, Name, Memory}

-- the fault is this one, or memory ran out
abbrev pub IsFault : DocFault → DocFault → Type 0
IsFault Memory want = Unit {0}
IsFault fault want = fault ≡ want

-- the answer is this one, or memory ran out
abbrev pub Answers : {A : Type 0} → Result A DocFault → Result A DocFault → Type 0
Answers (Err Memory) want = Unit {0}
Answers result want = result ≡ want

-- the path of what a path leads to below a key
abbrev pub key_path : List ℕ → List ℕ → List ℕ
key_path key [] = key
key_path key (b ∷ path) = key ++ 46 ∷ b ∷ path

-- a fault as it is seen from the table, or the list, whose key it stands below
abbrev pub fault_under : List ℕ → DocFault → DocFault
fault_under key (MetaKind path) = MetaKind (key_path key path)
fault_under key (Missing path) = Missing (key_path key path)
fault_under key (Wrong path) = Wrong (key_path key path)
fault_under key (Name path) = Name (key_path key path)
fault_under key fault = fault

-- what was read below a key
abbrev pub under : {A : Type 0} → List ℕ → Result A DocFault → Result A DocFault
under key (Ok value) = Ok value
under key (Err fault) = Err (fault_under key fault)

-- what the reader of a name answers, as a document's reader
abbrev pub of_name : {A : Type 0} → Result A NameFault → Result A DocFault
of_name (Ok value) = Ok value
of_name (Err name.Bad) = Err (Name [])
of_name (Err name.Memory) = Err Memory
