-- What `rebase` does, in the order of its work (platform.md, "rebaser").
use Rattle.std.specs.Prelude.{ℕ, List, Result, Ok}
use Rattle.cnb_words.specs.declared.rebase.RebaseWords.{RebaseWords}
use Rattle.image_docs.specs.declared.image.ImageDoc.{ImageDoc}
use Rattle.image_files.specs.Images.{reads_image, reads_run_image, writes_readable_image}
use Rattle.steps.specs.Outside.{Seen}
use Rattle.steps.specs.Steps.{◌>>=◌, gives, map_err, yields}
use Rattle.cnb_rebase.specs.declared.refusal.RebaseFault.{RebaseFault}
use Rattle.cnb_rebase.specs.Rebased.{rebased}
use Rattle.cnb_rebase.specs.Refusals.{cause_of, of_image_fault}
use Rattle.cnb_rebase.specs.Report.{rebased_text}

-- the run image of a name is read, and the image is put on it
unfoldable pub rebases_on : List ℕ → List ℕ → ImageDoc → Seen → Result ImageDoc RebaseFault → Seen → Type 0
rebases_on store run image = do
  base ← map_err of_image_fault (reads_run_image store run)
  gives cause_of (rebased image run base)

-- the image of a name is read, and put on the run image
unfoldable pub rebases : List ℕ → List ℕ → List ℕ → Seen → Result ImageDoc RebaseFault → Seen → Type 0
rebases store name run = do
  image ← map_err of_image_fault (reads_image store name)
  rebases_on store run image

-- the text is made, and the image's document is written last, with bytes that read as the image
unfoldable pub saves_rebased : RebaseWords → ImageDoc → Seen → Result (List ℕ) RebaseFault → Seen → Type 0
saves_rebased words image = do
  text ← gives cause_of (Ok (rebased_text words.image image))
  written ← map_err of_image_fault (writes_readable_image words.store words.image image)
  yields text

-- the command
unfoldable pub rebases_command : RebaseWords → Seen → Result (List ℕ) RebaseFault → Seen → Type 0
rebases_command words = do
  image ← rebases words.store words.image words.run
  saves_rebased words image
