-- What the commands do to the counts, by what ended them.
use Rattle.std.proofs.Common.{◌≡◌, refl, ℕ, List, []}
use Rattle.cnb_words.specs.declared.base.BaseWords.{BaseWords}
use Rattle.cnb_words.specs.declared.rebase.RebaseWords.{RebaseWords}
use Rattle.cnb_words.specs.declared.show.ShowWords.{ShowWords}
use Rattle.image_docs.specs.declared.image.ImageDoc.{ImageDoc}
use Rattle.image_files.specs.Faults as image_files
use Rattle.image_files.specs.declared.fault.ImageFault.{ImageFault}
use Rattle.image_files.specs.declared.fault.ImageFault.TheVariants as image
use Rattle.image_files.proofs.CountLaws.{image_counts, run_image_counts, written_image_counts, written_run_image_counts}
use Rattle.steps.specs.Counts.{FileCounts}
use Rattle.steps.proofs.EndLaws.{Obeys, files_link, files_rest, obeys_bind, obeys_each, obeys_gives, obeys_told}
use Rattle.steps.proofs.EndLaws.{obeys_yields}
use Rattle.tree_store.proofs.CountLaws.{put_folder_counts}
use Rattle.tree_store.specs.Answers as tree_store
use Rattle.cnb_rebase.specs.Bases.{bases_command, makes_base, puts_folders, puts_next}
use Rattle.cnb_rebase.specs.Rebases.{rebases, rebases_command, rebases_on, saves_rebased}
use Rattle.cnb_rebase.specs.Refusals.{base_cause, cause_of, of_image_fault}
use Rattle.cnb_rebase.specs.Shows.{shows_command}

same_cause : (fault : ImageFault) → cause_of (of_image_fault fault) ≡ image_files.cause_of fault
same_cause (image.NoImage name) = refl
same_cause (image.Document path fault) = refl
same_cause (image.Limit kind) = refl
same_cause (image.File path) = refl
same_cause image.Memory = refl

rebases_on_counts : (store run : List ℕ) (image : ImageDoc) → Obeys FileCounts cause_of (rebases_on store run image)
unfolding rebases_on
rebases_on_counts store run image =
    obeys_bind _ _ _ _ files_link (obeys_told FileCounts _ cause_of _ _ same_cause (run_image_counts store run))
    (λ base. obeys_gives _ _ _ files_rest)

pub rebases_counts : (store name run : List ℕ) → Obeys FileCounts cause_of (rebases store name run)
unfolding rebases
rebases_counts store name run =
    obeys_bind _ _ _ _ files_link (obeys_told FileCounts _ cause_of _ _ same_cause (image_counts store name))
    (λ image. rebases_on_counts store run image)

pub rebase_counts : (words : RebaseWords) → Obeys FileCounts cause_of (rebases_command words)
unfolding rebases_command saves_rebased
rebase_counts words =
    obeys_bind _ _ _ _ files_link (rebases_counts words.store words.image words.run)
    (λ new. obeys_bind _ _ _ _ files_link (obeys_gives _ _ _ files_rest)
    (λ text. obeys_bind _ _ _ _ files_link (obeys_told FileCounts _ cause_of _ _ same_cause
    (written_image_counts words.store words.image new)) (λ written. obeys_yields _ _ _ files_rest)))

pub show_counts : (words : ShowWords) → Obeys FileCounts image_files.cause_of (shows_command words)
unfolding shows_command
show_counts words = obeys_bind _ _ _ _ files_link (image_counts words.store words.image)
    (λ shown. obeys_gives _ _ _ files_rest)

-- ---- run images that are made

put_next_counts : (store folder : List ℕ) (digests : List (List ℕ))
    → Obeys FileCounts tree_store.cause_of (puts_next store folder digests)
unfolding puts_next
put_next_counts store folder digests = obeys_bind _ _ _ _ files_link (put_folder_counts store folder)
    (λ digest. obeys_gives _ _ _ files_rest)

put_folders_counts : (store : List ℕ) (folders : List (List ℕ))
    → Obeys FileCounts tree_store.cause_of (puts_folders store folders)
unfolding puts_folders
put_folders_counts store folders = obeys_each _ _ _ files_link files_rest (put_next_counts store) folders []

pub make_base_counts : (store os arch : List ℕ) (folders : List (List ℕ))
    → Obeys FileCounts tree_store.cause_of (makes_base store os arch folders)
unfolding makes_base
make_base_counts store os arch folders = obeys_bind _ _ _ _ files_link (put_folders_counts store folders)
    (λ rows. obeys_gives _ _ _ files_rest)

pub base_counts : (words : BaseWords) → Obeys FileCounts base_cause (bases_command words)
unfolding bases_command
base_counts words =
    obeys_bind _ _ _ _ files_link (obeys_told FileCounts tree_store.cause_of base_cause _ _ (λ fault. refl)
    (make_base_counts words.store words.os words.arch words.trees))
    (λ new. obeys_bind _ _ _ _ files_link (obeys_gives _ _ _ files_rest)
    (λ text. obeys_bind _ _ _ _ files_link (obeys_told FileCounts image_files.cause_of base_cause _ _
    (λ fault. refl) (written_run_image_counts words.store words.run new))
    (λ written. obeys_yields _ _ _ files_rest)))
