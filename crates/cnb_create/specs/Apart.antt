-- What keeps the image's document apart from all else that `create` writes.
use Rattle.std.specs.Prelude.{ℕ, Bool, ◌&&◌, ◌||◌, not, List, codes}
use Rattle.cnb_detect.specs.Documents.{group_document, plan_document}
use Rattle.cnb_words.specs.declared.create.CreateWords.{CreateWords}
use Rattle.cnb_world.specs.Path.{joined}
use Rattle.cnb_world.specs.Tree.{is_within}
use Rattle.image_files.specs.Paths.{image_path}
use Rattle.image_files.specs.Target.{analyzed_document}
use Rattle.steps.specs.Keeping.{is_free, touched}

-- neither path is the other, or lies below it
abbrev pub are_apart : List ℕ → List ℕ → Bool
are_apart folder path = not (is_within folder path) && not (is_within path folder)

abbrev pub image_document : CreateWords → List ℕ
image_document words = image_path words.store words.image

-- the work folder isn't the store and doesn't lie in it, and the layers folder and the store are apart; the store may
-- lie below the work folder
abbrev pub are_folders_apart : CreateWords → Bool
are_folders_apart words = not (is_within words.store words.detect.work) && are_apart words.layers words.store

-- the image's document is none of the documents of the work folder or what is made for these, and is apart from the
-- folder of the Buildpack Plans and from the layers folder
abbrev pub is_document_apart : CreateWords → Bool
is_document_apart words =
    is_free (touched (analyzed_document words.detect.work)) (image_document words)
    && is_free (touched (group_document words.detect.work)) (image_document words)
    && is_free (touched (plan_document words.detect.work)) (image_document words)
    && are_apart (joined words.detect.work (codes "plans")) (image_document words)
    && are_apart words.layers (image_document words)

-- the folders are apart, or at least the document is apart from all else that is written
abbrev pub is_image_apart : CreateWords → Bool
is_image_apart words = are_folders_apart words || is_document_apart words
