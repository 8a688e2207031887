-- The document that `rebase`, or `base`, wrote stands, and can be read.
use Rattle.std.proofs.Common.{subst, sym, ℕ, List, Result, Ok, Err}
use Rattle.std.specs.Prelude.{OnOk}
use Rattle.cnb_words.specs.declared.base.BaseWords.{BaseWords}
use Rattle.cnb_words.specs.declared.rebase.RebaseWords.{RebaseWords}
use Rattle.image_files.specs.Images.{ImageStands, RunImageStands}
use Rattle.image_files.proofs.StandLaws.{image_stands, run_image_stands}
use Rattle.steps.specs.Outside.{Seen}
use Rattle.steps.specs.Steps.{◌>>=◌, map_err, yields}
use Rattle.cnb_rebase.specs.Bases.{bases_command}
use Rattle.cnb_rebase.specs.Rebases.{rebases_command, saves_rebased}
use Rattle.cnb_rebase.specs.declared.refusal.RebaseFault.{RebaseFault}

pub rebased_stands : (words : RebaseWords) (result : Result (List ℕ) RebaseFault) (old new : Seen)
    → rebases_command words old result new → OnOk result (ImageStands words.store words.image new.files)
unfolding rebases_command saves_rebased ◌>>=◌ map_err yields
rebased_stands words (Err fault) old new h = tt
rebased_stands words (Ok text) old new (image, m1, rebasing, (told, m2, telling, (done, m3, write, (is, end)))) =
    subst (λ (s : Seen). ImageStands words.store words.image s.files) (sym end)
    (image_stands words.store words.image image m2 m3 done write)

pub based_stands : (words : BaseWords) (text : List ℕ) (old new : Seen) → bases_command words old (Ok text) new
    → RunImageStands words.store words.run new.files
unfolding bases_command ◌>>=◌ map_err yields
based_stands words text old new (image, m1, making, (told, m2, telling, (done, m3, write, (is, end)))) =
    subst (λ (s : Seen). RunImageStands words.store words.run s.files) (sym end)
    (run_image_stands words.store words.run image m2 m3 done write)
