-- Refusals of words.
use Rattle.std.specs.Prelude.{◌≡◌, Option, Some, None, Result, Ok, Err}
use Rattle.cnb_toml.specs.declared.fault.NameFault.{NameFault}
use Rattle.cnb_toml.specs.declared.fault.NameFault.TheVariants as name_fault
use Rattle.cnb_world.specs.declared.path.PathFault.{PathFault}
use Rattle.cnb_world.specs.declared.path.PathFault.TheVariants as path_fault
use Rattle.steps.specs.Causes.{Cause, OutOfMemory, Decided}
use Rattle.cnb_words.specs.declared.fault.WordsFault.{WordsFault}
use Rattle.cnb_words.specs.declared.fault.WordsFault.TheVariants.{Usage, Memory}

-- a text that is no path is no value
abbrev pub fault_of_path : PathFault → WordsFault
fault_of_path path_fault.NotPath = Usage
fault_of_path path_fault.Memory = Memory

-- nor is one that is no name
abbrev pub fault_of_name : NameFault → WordsFault
fault_of_name name_fault.Bad = Usage
fault_of_name name_fault.Memory = Memory

-- why words are refused
abbrev pub cause_of : WordsFault → Cause
cause_of Usage = Decided
cause_of Memory = OutOfMemory

-- words are read as this value, and are refused where there is none, unless memory ran out
abbrev pub AreReadAs : {T : Type 0} → Result T WordsFault → Option T → Type 0
AreReadAs (Ok value) want = want ≡ Some value
AreReadAs (Err Usage) want = want ≡ None
AreReadAs (Err Memory) want = Unit {0}
