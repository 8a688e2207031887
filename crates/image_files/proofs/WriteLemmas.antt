-- Documents of images that were written, as steps.
use Rattle.std.proofs.Common.{◌≡◌, ◌∙◌, ap, subst, List, ℕ, Some, None, Ok, Err}
use Rattle.std.specs.Option.{option_map}
use Rattle.std.specs.Prelude.{IfSome, IsTrue}
use Rattle.cnb_world.specs.Calls.{MayMisuse}
use Rattle.cnb_world.specs.Path.{joined}
use Rattle.cnb_world.specs.Whole.{LeavesPart, can_write, written}
use Rattle.cnb_world.specs.declared.world.World as world
use Rattle.steps.specs.Causes.{IsWriteCause}
use Rattle.steps.specs.Counts.{FileCounts}
use Rattle.steps.specs.Outside.{seen}
use Rattle.steps.specs.Steps.{writes}
use Rattle.steps.proofs.StepLemmas.{write_refused, written_so}
use Rattle.image_files.specs.declared.fault.ImageFault.{ImageFault}
use Rattle.image_files.specs.Faults.{cause_of}

module _ {W : Type 0} (ghosts : world.Ghosts W) (folder document want_folder want_document : List ℕ)
    (Says : List ℕ → Type 0) (old new : W) (at : folder ≡ want_folder) (called : document ≡ want_document) where
  same_path : joined folder document ≡ joined want_folder want_document
  same_path = ap (λ f. joined f document) at ∙ ap (joined want_folder) called

  -- a document that was written
  pub saved_at : (bytes : List ℕ) → Says bytes → ghosts.tree new
      ≡ option_map (written (joined folder document) bytes) (ghosts.tree old)
      → IfSome (ghosts.tree old) (λ files. IsTrue (can_write (joined folder document) files))
      → ghosts.runs new ≡ ghosts.runs old
      → MayMisuse (option_map (can_write (joined folder document)) (ghosts.tree old)) (ghosts.misused old)
      (ghosts.misused new)
      → FileCounts None (seen ghosts old) (seen ghosts new) → writes {E = ImageFault} cause_of
      (joined want_folder want_document) Says (seen ghosts old) (Ok tt) (seen ghosts new)
  saved_at bytes says files fits runs allows counts =
      subst (λ (path : List ℕ). writes {E = ImageFault} cause_of path Says (seen ghosts old) (Ok tt)
      (seen ghosts new)) same_path
      (written_so ghosts cause_of (joined folder document) Says bytes old new says files fits runs allows counts)

  -- one whose write was refused
  pub refused_at : (bytes : List ℕ) (fault : ImageFault) → Says bytes
      → IsWriteCause (joined folder document) (cause_of fault)
      → LeavesPart (ghosts.tree old) (ghosts.tree new) (joined folder document) bytes
      → ghosts.runs new ≡ ghosts.runs old
      → MayMisuse (option_map (can_write (joined folder document)) (ghosts.tree old)) (ghosts.misused old)
      (ghosts.misused new)
      → FileCounts (Some (cause_of fault)) (seen ghosts old) (seen ghosts new)
      → writes cause_of (joined want_folder want_document) Says (seen ghosts old) (Err fault)
      (seen ghosts new)
  refused_at bytes fault says cause part runs allows counts =
      subst (λ (path : List ℕ). writes cause_of path Says (seen ghosts old) (Err fault) (seen ghosts new)) same_path
      (write_refused ghosts cause_of (joined folder document) Says bytes fault old new cause says part runs allows
      counts)
