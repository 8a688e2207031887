-- The command that the first word names, with the options that the others give, if they do.
use Rattle.std.specs.Prelude.{ℕ, List, codes, if◌then◌else◌, Option, Result, Err}
use Rattle.std.specs.Option.{option_and_then}
use Rattle.std.specs.Str.{bytes_eq}
use Rattle.cnb_words.specs.Analyze as analyze
use Rattle.cnb_words.specs.Base as base
use Rattle.cnb_words.specs.Build as build
use Rattle.cnb_words.specs.Check as check
use Rattle.cnb_words.specs.Create as create
use Rattle.cnb_words.specs.Detect as detect
use Rattle.cnb_words.specs.Export as export
use Rattle.cnb_words.specs.Prune as prune
use Rattle.cnb_words.specs.Rebase as rebase
use Rattle.cnb_words.specs.Restore as restore
use Rattle.cnb_words.specs.Show as show
use Rattle.cnb_words.specs.Unpack as unpack
use Rattle.cnb_words.specs.Verify as verify
use Rattle.cnb_words.specs.Words.{asks}
use Rattle.cnb_words.specs.declared.fault.WordsFault.{WordsFault}
use Rattle.cnb_words.specs.declared.fault.WordsFault.TheVariants.{Usage}
use Rattle.cnb_words.specs.declared.options.Given.{Given}
use Rattle.cnb_words.specs.declared.words.Asked.{Asked}
use Rattle.cnb_words.specs.declared.words.Asked.TheVariants.{Detect, Analyze, Restore, Build, Export, Create, Rebase}
use Rattle.cnb_words.specs.declared.words.Asked.TheVariants.{Base, Unpack, Show, Prune, Verify, Check}

-- a command on what is there already
abbrev pub store_chosen : List ℕ → Option (List Given) → Result Asked WordsFault
store_chosen command options =
    if bytes_eq command (codes "prune") then asks Prune (option_and_then prune.prune_in options)
    else if bytes_eq command (codes "verify") then asks Verify (option_and_then verify.verify_in options)
    else if bytes_eq command (codes "check") then asks Check (option_and_then check.check_in options)
    else Err Usage

-- a command on whole images
abbrev pub image_chosen : List ℕ → Option (List Given) → Result Asked WordsFault
image_chosen command options =
    if bytes_eq command (codes "create") then asks Create (option_and_then create.create_in options)
    else if bytes_eq command (codes "rebase") then asks Rebase (option_and_then rebase.rebase_in options)
    else if bytes_eq command (codes "base") then asks Base (option_and_then base.base_in options)
    else if bytes_eq command (codes "unpack") then asks Unpack (option_and_then unpack.unpack_in options)
    else if bytes_eq command (codes "show") then asks Show (option_and_then show.show_in options)
    else store_chosen command options

-- a command that is a part of building an image
abbrev pub phase_chosen : List ℕ → Option (List Given) → Result Asked WordsFault
phase_chosen command options =
    if bytes_eq command (codes "detect") then asks Detect (option_and_then detect.detect_in options)
    else if bytes_eq command (codes "analyze") then asks Analyze (option_and_then analyze.analyze_in options)
    else if bytes_eq command (codes "restore") then asks Restore (option_and_then restore.restore_in options)
    else if bytes_eq command (codes "build") then asks Build (option_and_then build.build_in options)
    else if bytes_eq command (codes "export") then asks Export (option_and_then export.export_in options)
    else image_chosen command options
