-- What a command that writes an image's document leaves of it where it is refused.
use Rattle.std.specs.Prelude.{IsTrue}
use Rattle.cnb_create.specs.Apart.{image_document, is_image_apart}
use Rattle.cnb_words.specs.declared.words.Asked.{Asked}
use Rattle.cnb_words.specs.declared.words.Asked.TheVariants.{Detect, Analyze, Restore, Build, Export, Create, Rebase}
use Rattle.cnb_words.specs.declared.words.Asked.TheVariants.{Base, Unpack, Show, Prune, Verify, Check, Drill, Launch}
use Rattle.image_files.specs.Paths.{image_path, run_path}
use Rattle.steps.specs.Keeping.{Keeps}
use Rattle.steps.specs.Outside.{Seen}
use Rattle.cnb_lifecycle.specs.declared.status.Status.{Status}
use Rattle.cnb_lifecycle.specs.declared.status.Status.TheVariants.{Refused}

-- The document of the image, or of the run image, that a command writes is as it was. `create` writes documents of the
-- work folder and layers too, and runs children: there this holds where these folders are apart from the store, or the
-- document from all that is written, and the build children left the document.
abbrev pub KeepsImage : Asked → Seen → Seen → Type 0
KeepsImage (Export options) old new = Keeps (image_path options.store options.image) old new
KeepsImage (Create options) old new = IsTrue (is_image_apart options) → Keeps (image_document options) old new
KeepsImage (Rebase options) old new = Keeps (image_path options.store options.image) old new
KeepsImage (Base options) old new = Keeps (run_path options.store options.run) old new
KeepsImage (Detect options) old new = Unit {0}
KeepsImage (Analyze options) old new = Unit {0}
KeepsImage (Restore options) old new = Unit {0}
KeepsImage (Build options) old new = Unit {0}
KeepsImage (Unpack options) old new = Unit {0}
KeepsImage (Show options) old new = Unit {0}
KeepsImage (Prune options) old new = Unit {0}
KeepsImage (Verify options) old new = Unit {0}
KeepsImage (Check options) old new = Unit {0}
KeepsImage (Drill options) old new = Unit {0}
KeepsImage (Launch options) old new = Unit {0}

-- what holds where the status is a refusal
abbrev pub OnRefusal : Status → Type 0 → Type 0
OnRefusal (Refused refusal) P = P
OnRefusal status P = Unit {0}
