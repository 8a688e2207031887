-- The documents of images that stand after a command.
use Rattle.std.specs.Prelude.{Option}
use Rattle.cnb_world.specs.Tree.{Tree}
use Rattle.cnb_words.specs.declared.words.Asked.{Asked}
use Rattle.cnb_words.specs.declared.words.Asked.TheVariants.{Detect, Analyze, Restore, Build, Export, Create, Rebase}
use Rattle.cnb_words.specs.declared.words.Asked.TheVariants.{Base, Unpack, Show, Prune, Verify, Check, Drill, Launch}
use Rattle.image_files.specs.Images.{ImageStands, RunImageStands}
use Rattle.cnb_lifecycle.specs.declared.status.Status.{Status}
use Rattle.cnb_lifecycle.specs.declared.status.Status.TheVariants.{Done}

-- the image, or the run image, that a command makes stands in the store, and can be read
abbrev pub LeavesImage : Asked → Option Tree → Type 0
LeavesImage (Export options) files = ImageStands options.store options.image files
LeavesImage (Create options) files = ImageStands options.store options.image files
LeavesImage (Rebase options) files = ImageStands options.store options.image files
LeavesImage (Base options) files = RunImageStands options.store options.run files
LeavesImage (Detect options) files = Unit {0}
LeavesImage (Analyze options) files = Unit {0}
LeavesImage (Restore options) files = Unit {0}
LeavesImage (Build options) files = Unit {0}
LeavesImage (Unpack options) files = Unit {0}
LeavesImage (Show options) files = Unit {0}
LeavesImage (Prune options) files = Unit {0}
LeavesImage (Verify options) files = Unit {0}
LeavesImage (Check options) files = Unit {0}
LeavesImage (Drill options) files = Unit {0}
LeavesImage (Launch options) files = Unit {0}

-- what holds where a command did its work and its text was taken
abbrev pub OnDone : Status → Type 0 → Type 0
OnDone Done P = P
OnDone status P = Unit {0}
