-- What the words of a command line ask for.
use Rattle.std.specs.Prelude.{ℕ, List, [], ◌∷◌, codes, if◌then◌else◌, Option, Some, None, Result, Ok, Err}
use Rattle.std.specs.Str.{bytes_eq}
use Rattle.cnb_words.specs.Analyze as analyze
use Rattle.cnb_words.specs.Base as base
use Rattle.cnb_words.specs.Build as build
use Rattle.cnb_words.specs.Check as check
use Rattle.cnb_words.specs.Create as create
use Rattle.cnb_words.specs.Detect as detect
use Rattle.cnb_words.specs.Drill as drill
use Rattle.cnb_words.specs.Export as export
use Rattle.cnb_words.specs.Launch as launch
use Rattle.cnb_words.specs.Options.{options_in}
use Rattle.cnb_words.specs.Program.{is_launcher, process_type, root_of}
use Rattle.cnb_words.specs.Prune as prune
use Rattle.cnb_words.specs.Rebase as rebase
use Rattle.cnb_words.specs.Restore as restore
use Rattle.cnb_words.specs.Show as show
use Rattle.cnb_words.specs.Unpack as unpack
use Rattle.cnb_words.specs.Verify as verify
use Rattle.cnb_words.specs.declared.fault.WordsFault.{WordsFault}
use Rattle.cnb_words.specs.declared.fault.WordsFault.TheVariants.{Usage}
use Rattle.cnb_words.specs.declared.options.Given.{Given}
use Rattle.cnb_words.specs.declared.words.Asked.{Asked}
use Rattle.cnb_words.specs.declared.words.Asked.TheVariants.{Detect, Analyze, Restore, Build, Export, Create, Rebase}
use Rattle.cnb_words.specs.declared.words.Asked.TheVariants.{Base, Unpack, Show, Prune, Verify, Check, Drill, Launch}

-- what is asked for; where there is nothing, the words are refused
abbrev pub asks : {T : Type 0} → (T → Asked) → Option T → Result Asked WordsFault
asks command None = Err Usage
asks command (Some words) = Ok (command words)

-- a command on what is there already, with its options
abbrev pub store_asked : List ℕ → List Given → Result Asked WordsFault
store_asked command options =
    if bytes_eq command (codes "prune") then asks Prune (prune.prune_in options)
    else if bytes_eq command (codes "verify") then asks Verify (verify.verify_in options)
    else if bytes_eq command (codes "check") then asks Check (check.check_in options)
    else Err Usage

-- a command on whole images, with its options
abbrev pub image_asked : List ℕ → List Given → Result Asked WordsFault
image_asked command options =
    if bytes_eq command (codes "create") then asks Create (create.create_in options)
    else if bytes_eq command (codes "rebase") then asks Rebase (rebase.rebase_in options)
    else if bytes_eq command (codes "base") then asks Base (base.base_in options)
    else if bytes_eq command (codes "unpack") then asks Unpack (unpack.unpack_in options)
    else if bytes_eq command (codes "show") then asks Show (show.show_in options)
    else store_asked command options

-- a command that is a part of building an image, with its options
abbrev pub phase_asked : List ℕ → List Given → Result Asked WordsFault
phase_asked command options =
    if bytes_eq command (codes "detect") then asks Detect (detect.detect_in options)
    else if bytes_eq command (codes "analyze") then asks Analyze (analyze.analyze_in options)
    else if bytes_eq command (codes "restore") then asks Restore (restore.restore_in options)
    else if bytes_eq command (codes "build") then asks Build (build.build_in options)
    else if bytes_eq command (codes "export") then asks Export (export.export_in options)
    else image_asked command options

abbrev pub with_options : Option (List Given) → (List Given → Result Asked WordsFault) → Result Asked WordsFault
with_options None asked = Err Usage
with_options (Some options) asked = asked options

abbrev pub options_asked : List ℕ → List (List ℕ) → Result Asked WordsFault
options_asked command words = with_options (options_in words) (phase_asked command)

-- a command and the words behind it
abbrev pub asked_of : List ℕ → List (List ℕ) → Result Asked WordsFault
asked_of command words =
    if bytes_eq command (codes "launch") then asks Launch (launch.launch_in words)
    else if bytes_eq command (codes "drill") then asks Drill (drill.drill_in words)
    else options_asked command words

abbrev pub command_asked : List (List ℕ) → Result Asked WordsFault
command_asked [] = Err Usage
command_asked (command ∷ words) = asked_of command words

-- the launcher, started by its own name in a root
abbrev pub launcher_asked : List ℕ → List (List ℕ) → Result Asked WordsFault
launcher_asked root words = asks Launch (launch.launch_at root words)

-- the launcher, started by the name of a process in a root
abbrev pub process_asked : List ℕ → List ℕ → List (List ℕ) → Result Asked WordsFault
process_asked root kind words = asks Launch (launch.process_at root kind words)

abbrev pub unless_process : Option (List ℕ) → List ℕ → List (List ℕ) → Result Asked WordsFault
unless_process None root words = command_asked words
unless_process (Some kind) root words = process_asked root kind words

-- the program's own word, which may name the launcher or a process, then the command and its options
abbrev pub asked_by : List (List ℕ) → Result Asked WordsFault
asked_by [] = Err Usage
asked_by (program ∷ words) =
    if is_launcher program then launcher_asked (root_of program) words else unless_process (process_type program)
    (root_of program) words

-- the folders of the caches that a command uses
abbrev pub caches_asked : Asked → List (List ℕ)
caches_asked (Restore words) = words.caches
caches_asked (Export words) = words.caches
caches_asked (Create words) = words.caches
caches_asked (Detect words) = []
caches_asked (Analyze words) = []
caches_asked (Build words) = []
caches_asked (Rebase words) = []
caches_asked (Base words) = []
caches_asked (Unpack words) = []
caches_asked (Show words) = []
caches_asked (Prune words) = []
caches_asked (Verify words) = []
caches_asked (Check words) = []
caches_asked (Drill words) = []
caches_asked (Launch words) = []

-- what is asked for has short paths, few workers, few caches and a small number
abbrev pub AsksWithinLimits : Asked → Type 0
AsksWithinLimits (Detect words) = detect.KeepsLimits words
AsksWithinLimits (Analyze words) = analyze.KeepsLimits words
AsksWithinLimits (Restore words) = restore.KeepsLimits words
AsksWithinLimits (Build words) = build.KeepsLimits words
AsksWithinLimits (Export words) = export.KeepsLimits words
AsksWithinLimits (Create words) = create.KeepsLimits words
AsksWithinLimits (Rebase words) = rebase.KeepsLimits words
AsksWithinLimits (Base words) = base.KeepsLimits words
AsksWithinLimits (Unpack words) = unpack.KeepsLimits words
AsksWithinLimits (Show words) = show.KeepsLimits words
AsksWithinLimits (Prune words) = prune.KeepsLimits words
AsksWithinLimits (Verify words) = verify.KeepsLimits words
AsksWithinLimits (Check words) = check.KeepsLimits words
AsksWithinLimits (Drill words) = drill.KeepsLimits words
AsksWithinLimits (Launch words) = launch.KeepsLimits words
