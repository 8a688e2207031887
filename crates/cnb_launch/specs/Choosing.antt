-- The process that a call asks for (platform.md, "launcher"; buildpack.md, "launch.toml (TOML)"). That words begin with
-- a process type, and that no word means the default, are this project's own rules.
use Rattle.std.specs.Prelude.{ℕ, List, [], ◌∷◌, ◌++◌, find, Option, Some, None, Result, Ok, Err}
use Rattle.std.specs.Str.{bytes_eq}
use Rattle.cnb_toml.specs.declared.process.Process.{Process}
use Rattle.image_docs.specs.declared.launch_doc.LaunchDoc.{LaunchDoc}
use Rattle.cnb_words.specs.declared.launch.Call.{Call}
use Rattle.cnb_words.specs.declared.launch.Call.TheVariants.{Entry, Words, Direct}
use Rattle.cnb_launch.specs.declared.choosing.ChosenProcess.{ChosenProcess}
use Rattle.cnb_launch.specs.declared.fault.LaunchFault.{LaunchFault}
use Rattle.cnb_launch.specs.declared.fault.LaunchFault.TheVariants.{NoProcess, ShellProcess}

-- the process of a type
abbrev pub process_of : List ℕ → List Process → Option Process
process_of kind processes = find (λ process. bytes_eq process.kind kind) processes

-- the user's arguments in place of the process's, where there are any
abbrev pub args_or : List (List ℕ) → List (List ℕ) → List (List ℕ)
args_or args [] = args
args_or args (word ∷ words) = word ∷ words

abbrev pub line_of : Process → List (List ℕ) → List (List ℕ)
line_of process words = process.command ++ args_or process.args words

abbrev pub of_process : Process → List (List ℕ) → ChosenProcess
of_process process words = record { kind = Some process.kind; command = line_of process words; dir = process.dir }

-- a process, or the refusal where there is none
abbrev pub chosen_by : LaunchFault → Option Process → List (List ℕ) → Result ChosenProcess LaunchFault
chosen_by refusal None words = Err refusal
chosen_by refusal (Some process) words = Ok (of_process process words)

abbrev pub by_default : List Process → Option (List ℕ) → Result ChosenProcess LaunchFault
by_default processes None = Err (NoProcess [])
by_default processes (Some kind) = chosen_by (NoProcess kind) (process_of kind processes) []

abbrev pub by_words : LaunchDoc → List (List ℕ) → Result ChosenProcess LaunchFault
by_words doc [] = by_default doc.processes doc.default
by_words doc (word ∷ words) = chosen_by (ShellProcess word) (process_of word doc.processes) words

-- what a call asks for
abbrev pub chosen_in : LaunchDoc → Call → Result ChosenProcess LaunchFault
chosen_in doc (Entry kind args) = chosen_by (NoProcess kind) (process_of kind doc.processes) args
chosen_in doc (Words words) = by_words doc words
chosen_in doc (Direct words) = Ok (record { kind = None; command = words; dir = None })
