-- That the files alone decide what an export makes.
use Rattle.std.specs.Prelude.{◌≡◌, Bool, List, Option, Some, IfSome, Result, Ok, Err}
use Rattle.cnb_world.specs.Tree.{Tree}
use Rattle.image_docs.specs.declared.analyzed.Analyzed.{Analyzed}
use Rattle.run_docs.specs.declared.group.GroupRow.{GroupRow}
use Rattle.shelf_set.specs.Caches.{WorldAndCaches}
use Rattle.steps.specs.Causes.{WhereDecided}
use Rattle.cnb_export.specs.declared.exported.Exported.{Exported}
use Rattle.cnb_layers.specs.declared.frame.ExportFrame.{ExportFrame}
use Rattle.cnb_layers.specs.declared.fault.ExportFault.{ExportFault}
use Rattle.cnb_export.specs.Exports.{exports}
use Rattle.cnb_layers.specs.Refusals.{cause_of}

-- Two exports came to one image with the same layers, or to one refusal, unless a call failed or memory ran out in one
-- of them.
abbrev pub AreOneImage : Result Exported ExportFault → Result Exported ExportFault → Type 0
AreOneImage (Ok one) (Ok other) = (other.image ≡ one.image) × (other.rows ≡ one.rows)
AreOneImage (Ok one) (Err fault) = WhereDecided (cause_of fault) ⊥
AreOneImage (Err fault) (Ok other) = WhereDecided (cause_of fault) ⊥
AreOneImage (Err fault) (Err other) = WhereDecided (cause_of fault) (WhereDecided (cause_of other) (other ≡ fault))

-- Where the files are told, every export of the same from these files comes to the image of this one, whatever else is
-- there.
abbrev pub IsOneImage : Bool → ExportFrame → List GroupRow → Analyzed → Option Tree → Result Exported ExportFault
    → Type 0
IsOneImage readable frame group analyzed files result =
    IfSome files (λ tree. (old new : WorldAndCaches) (other : Result Exported ExportFault) → old.world.files ≡ Some tree
    → exports readable frame group analyzed old other new → AreOneImage result other)
