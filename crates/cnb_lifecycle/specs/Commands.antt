-- What is asked for.
use Rattle.std.specs.Prelude.{ℕ, Bool, true, false, List, codes, if◌then◌else◌, Option, Some, None, Result, Ok, Err}
use Rattle.std.specs.Str.{bytes_eq}
use Rattle.cnb_world.specs.declared.env.Variable.{Variable}
use Rattle.cnb_world.specs.Env.{value_of}
use Rattle.cnb_words.specs.Words.{asked_by}
use Rattle.cnb_words.specs.declared.words.Asked.{Asked}
use Rattle.cnb_words.specs.declared.words.Asked.TheVariants.{Detect, Analyze, Restore, Build, Export, Create, Rebase}
use Rattle.cnb_words.specs.declared.words.Asked.TheVariants.{Base, Unpack, Show, Prune, Verify, Check, Drill, Launch}
use Rattle.cnb_words.specs.declared.create.CreateWords.{CreateWords}
use Rattle.cnb_words.specs.declared.detect.DetectWords.{DetectWords}
use Rattle.cnb_words.specs.declared.fault.WordsFault.{WordsFault}
use Rattle.cnb_lifecycle.specs.declared.answer.Answer.{Answer}
use Rattle.cnb_lifecycle.specs.declared.answer.Answer.TheVariants.{Printed, Launched}
use Rattle.cnb_lifecycle.specs.declared.refusal.Refusal.{Refusal}
use Rattle.cnb_lifecycle.specs.declared.refusal.Refusal.TheVariants.{PlatformApi}
use Rattle.cnb_lifecycle.specs.Faults.{cause_of, of_detect, of_words_fault}
use Rattle.cnb_lifecycle.specs.PhaseFaults.{of_base, of_build, of_check, of_create, of_export, of_image, of_launch}
use Rattle.cnb_lifecycle.specs.PhaseFaults.{of_prune, of_rebase, of_restore, of_restore_refusal, of_verify}
use Rattle.cnb_create.specs.Surroundings.{Surroundings, over_caches, over_outside, over_world}
use Rattle.cnb_lifecycle.specs.Detecting.{detects_words}
use Rattle.cnb_lifecycle.specs.Telling.{tells}
use Rattle.cnb_build.specs.Command.{commands_build}
use Rattle.cnb_create.specs.Creates.{creates}
use Rattle.cnb_drill.specs.Report.{drill_text}
use Rattle.cnb_export.specs.Command.{exports_command}
use Rattle.cnb_launch.specs.Commands.{launches_command, unpacks_command}
use Rattle.cnb_rebase.specs.Bases.{bases_command}
use Rattle.cnb_rebase.specs.Rebases.{rebases_command}
use Rattle.cnb_rebase.specs.Shows.{shows_command}
use Rattle.cnb_record.specs.Checks.{checks}
use Rattle.cnb_restore.specs.Commands.{analyzes_command, restores_command}
use Rattle.steps.specs.Steps.{◌>>=◌, gives}
use Rattle.store_prune.specs.Prunes.{prunes_command}
use Rattle.store_prune.specs.Verifies.{verifies_command}

abbrev pub of_api : Option (List ℕ) → Result (Unit {0}) Refusal
of_api None = Ok tt
of_api (Some api) = if bytes_eq api (codes "0.12") then Ok tt else Err (PlatformApi api)

-- the Platform API that the environment asks for is the one that is served, or none (platform.md, "Platform API
-- Compatibility")
abbrev pub platform_api : List Variable → Result (Unit {0}) Refusal
platform_api env = of_api (value_of env (codes "CNB_PLATFORM_API"))

abbrev pub of_words : Result Asked WordsFault → Result Asked Refusal
of_words (Ok asked) = Ok asked
of_words (Err fault) = Err (of_words_fault fault)

abbrev pub where_served : Result Asked Refusal → Result (Unit {0}) Refusal → Result Asked Refusal
where_served (Ok asked) (Ok served) = Ok asked
where_served (Ok asked) (Err refusal) = Err refusal
where_served (Err refusal) served = Err refusal

-- the command that the words ask for, or why they are refused before anything outside is looked at
unfoldable pub command_in : List (List ℕ) → List Variable → Result Asked Refusal
command_in words env = where_served (of_words (asked_by words)) (platform_api env)

-- what holds of the value, where there is one
abbrev pub On : {A : Type 0} → Option A → (A → Type 0) → Type 0
On (Some value) P = P value
On None P = Unit {0}

-- the command that is asked for
abbrev pub asked_of : Result Asked Refusal → Option Asked
asked_of (Ok asked) = Some asked
asked_of (Err refusal) = None

-- the options of `detect`, where that is asked for
abbrev pub options_of_detect : Asked → Option DetectWords
options_of_detect (Detect options) = Some options
options_of_detect (Analyze options) = None
options_of_detect (Restore options) = None
options_of_detect (Build options) = None
options_of_detect (Export options) = None
options_of_detect (Create options) = None
options_of_detect (Rebase options) = None
options_of_detect (Base options) = None
options_of_detect (Unpack options) = None
options_of_detect (Show options) = None
options_of_detect (Prune options) = None
options_of_detect (Verify options) = None
options_of_detect (Check options) = None
options_of_detect (Drill options) = None
options_of_detect (Launch options) = None

-- the options of `create`, where that is asked for
abbrev pub options_of_create : Asked → Option CreateWords
options_of_create (Create options) = Some options
options_of_create (Detect options) = None
options_of_create (Analyze options) = None
options_of_create (Restore options) = None
options_of_create (Build options) = None
options_of_create (Export options) = None
options_of_create (Rebase options) = None
options_of_create (Base options) = None
options_of_create (Unpack options) = None
options_of_create (Show options) = None
options_of_create (Prune options) = None
options_of_create (Verify options) = None
options_of_create (Check options) = None
options_of_create (Drill options) = None
options_of_create (Launch options) = None

-- the options of a command, where the words ask for it
abbrev pub options_in : {O : Type 0} → (Asked → Option O) → Result Asked Refusal → Option O
options_in options_of (Ok asked) = options_of asked
options_in options_of (Err refusal) = None

-- why the words are refused, where they are
abbrev pub refusal_of : Result Asked Refusal → Option Refusal
refusal_of (Ok asked) = None
refusal_of (Err refusal) = Some refusal

-- What each command does. It answers the text to be printed, and `launch` how its child ended. The text of `drill` is
-- known by its number, and nothing outside is read or changed.
abbrev pub does : Asked → List Variable → Surroundings → Result Answer Refusal → Surroundings → Type 0
does (Detect options) env = over_outside (tells Printed of_detect (detects_words options env))
does (Analyze options) env = over_world (tells Printed of_restore (analyzes_command options))
does (Restore options) env = over_caches (tells Printed of_restore_refusal (restores_command options))
does (Build options) env = over_world (tells Printed of_build (commands_build options env))
does (Export options) env = over_caches (tells Printed of_export (exports_command options))
does (Create options) env = tells Printed of_create (creates options env)
does (Rebase options) env = over_world (tells Printed of_rebase (rebases_command options))
does (Base options) env = over_world (tells Printed of_base (bases_command options))
does (Unpack options) env = over_world (tells Printed of_launch (unpacks_command options))
does (Show options) env = over_world (tells Printed of_image (shows_command options))
does (Prune options) env = over_world (tells Printed of_prune (prunes_command options))
does (Verify options) env = over_world (tells Printed of_verify (verifies_command options))
does (Check options) env = over_world (tells Printed of_check (checks options))
does (Drill options) env = gives cause_of (Ok (Printed (drill_text options.number)))
does (Launch options) env = over_world (tells Launched of_launch (launches_command options env))

-- the words are read, which takes memory, and then the command does its steps
abbrev pub after_words : {S : Type 0} → (S → Result Answer Refusal → S → Type 0) → S → Result Answer Refusal → S
    → Type 0
after_words step = gives {A = Unit {0}} cause_of (Ok tt) >>= (λ read. step)

-- whether a command looks at caches
abbrev pub uses_caches : Asked → Bool
uses_caches (Restore options) = true
uses_caches (Export options) = true
uses_caches (Create options) = true
uses_caches (Detect options) = false
uses_caches (Analyze options) = false
uses_caches (Build options) = false
uses_caches (Rebase options) = false
uses_caches (Base options) = false
uses_caches (Unpack options) = false
uses_caches (Show options) = false
uses_caches (Prune options) = false
uses_caches (Verify options) = false
uses_caches (Check options) = false
uses_caches (Drill options) = false
uses_caches (Launch options) = false
