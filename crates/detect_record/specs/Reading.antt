-- How a part of a line is read.
use Rattle.std.specs.Prelude.{◌≡◌, Option, Some, None, Result, Ok, Err}
use Rattle.cnb_toml.specs.declared.fault.NameFault.{NameFault}
use Rattle.cnb_toml.specs.declared.fault.NameFault.TheVariants as name_fault
use Rattle.detect_record.specs.declared.line_fault.LineFault.{LineFault}
use Rattle.detect_record.specs.declared.line_fault.LineFault.TheVariants.{Bad, Memory}

-- a name of another form makes a line of no form
abbrev pub fault_of_name : NameFault → LineFault
fault_of_name name_fault.Bad = Bad
fault_of_name name_fault.Memory = Memory

-- a text is read as this value, and refused where it has none, unless memory ran out
abbrev pub IsReadAs : {T : Type 0} → Result T LineFault → Option T → Type 0
IsReadAs (Ok value) want = want ≡ Some value
IsReadAs (Err Bad) want = want ≡ None
IsReadAs (Err Memory) want = Unit {0}
