-- Which images a component is for (buildpack.md, "buildpack.toml (TOML)", `targets`).
use Rattle.std.specs.Prelude.{ℕ, ◌==◌, ◌&&◌, ◌||◌, Bool, true, List, length, Option, Some, None, Result, Ok, codes}
use Rattle.std.specs.Prelude.{if◌then◌else◌}
use Rattle.std.specs.List.{list_any}
use Rattle.std.specs.Str.{bytes_eq}
use Rattle.cnb_toml.specs.declared.fault.DocFault.{DocFault}
use Rattle.cnb_toml.specs.declared.target.Target.{Target}
use Rattle.cnb_toml.specs.Reading.{◌>>=◌}
use Rattle.cnb_toml.specs.Fields.{value_or, list_at}
use Rattle.cnb_toml.specs.Form.{Form, TableForm, text_of, table_of}
use Rattle.bp_docs.specs.declared.descriptor.TargetRule.{TargetRule}

-- a text, where an empty one is none
abbrev pub text_or_none : List ℕ → Result (Option (List ℕ)) DocFault
text_or_none text = if length text == 0 then Ok None else Ok (Some text)

abbrev pub optional_text_of : Form (Option (List ℕ))
optional_text_of value = text_of value >>= text_or_none

-- one target of a component
abbrev pub rule_in : TableForm TargetRule
rule_in table = do
  os ← value_or None optional_text_of (codes "os") table
  arch ← value_or None optional_text_of (codes "arch") table
  Ok (record { os = os; arch = arch })

-- the targets of a table
abbrev pub targets_at : TableForm (List TargetRule)
targets_at table = list_at (table_of rule_in) (codes "targets") table

-- a text is the one that is wanted; where none is, any is
abbrev pub is_wanted : Option (List ℕ) → List ℕ → Bool
is_wanted None text = true
is_wanted (Some wanted) text = bytes_eq wanted text

abbrev pub rule_fits : TargetRule → Target → Bool
rule_fits rule target = is_wanted rule.os target.os && is_wanted rule.arch target.arch

-- Whether a component with these rules is for a target: there is no rule, or some rule fits. Without a target all are.
abbrev pub fits : List TargetRule → Option Target → Bool
fits rules None = true
fits rules (Some target) = length rules == 0 || list_any (λ rule. rule_fits rule target) rules
