-- What images that are read and written do to the counts.
use Rattle.std.proofs.Common.{ℕ, List}
use Rattle.image_docs.specs.declared.image.ImageDoc.{ImageDoc}
use Rattle.image_docs.specs.declared.run_image.RunDoc.{RunDoc}
use Rattle.steps.proofs.EndLaws.{Obeys, reads_counts, writes_counts}
use Rattle.steps.specs.Counts.{FileCounts}
use Rattle.image_files.specs.Faults.{cause_of}
use Rattle.image_files.specs.Images.{reads_image, reads_run_image, writes_readable_image, writes_readable_run_image}

pub image_counts : (store name : List ℕ) → Obeys FileCounts cause_of (reads_image store name)
unfolding reads_image
image_counts store name = reads_counts cause_of _ _ _

pub run_image_counts : (store name : List ℕ) → Obeys FileCounts cause_of (reads_run_image store name)
unfolding reads_run_image
run_image_counts store name = reads_counts cause_of _ _ _

pub written_image_counts : (store name : List ℕ) (image : ImageDoc)
    → Obeys FileCounts cause_of (writes_readable_image store name image)
unfolding writes_readable_image
written_image_counts store name image = writes_counts cause_of _ _

pub written_run_image_counts : (store name : List ℕ) (image : RunDoc)
    → Obeys FileCounts cause_of (writes_readable_run_image store name image)
unfolding writes_readable_run_image
written_run_image_counts store name image = writes_counts cause_of _ _
