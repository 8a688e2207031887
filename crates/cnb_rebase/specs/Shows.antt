-- What `show` does: the image is read, and its text is made.
use Rattle.std.specs.Prelude.{ℕ, List, Result, Ok}
use Rattle.cnb_words.specs.declared.show.ShowWords.{ShowWords}
use Rattle.image_files.specs.Faults.{cause_of}
use Rattle.image_files.specs.Images.{reads_image}
use Rattle.image_files.specs.declared.fault.ImageFault.{ImageFault}
use Rattle.steps.specs.Outside.{Seen}
use Rattle.steps.specs.Steps.{◌>>=◌, gives}
use Rattle.cnb_rebase.specs.Report.{image_text}

unfoldable pub shows_command : ShowWords → Seen → Result (List ℕ) ImageFault → Seen → Type 0
shows_command words = do
  image ← reads_image words.store words.image
  gives cause_of (Ok (image_text image))
