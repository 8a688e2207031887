-- How an image is laid out under a root (platform.md, "exporter": its layers; the overlay and the document of the
-- launch are this project's own).
use Rattle.std.specs.Prelude.{ℕ, ◌≡◌, Bool, true, false, List, codes, if◌then◌else◌, Result, Ok, Err}
use Rattle.cnb_world.specs.Tree.{item_at, kind_of}
use Rattle.cnb_env.specs.Files.{is_absent}
use Rattle.doc_files.specs.Faults.{read_cause}
use Rattle.image_docs.specs.LaunchDoc.{launch_doc_in}
use Rattle.image_docs.specs.declared.image.ImageDoc.{ImageDoc}
use Rattle.image_docs.specs.declared.launch_doc.LaunchDoc.{LaunchDoc}
use Rattle.image_docs.specs.declared.row.Row.{Row}
use Rattle.image_files.specs.Images.{reads_image}
use Rattle.steps.specs.Causes.{Cause, Only, OutOfMemory}
use Rattle.steps.specs.Each.{for_each}
use Rattle.steps.specs.Outside.{Seen}
use Rattle.steps.specs.Steps.{◌>>=◌, gives, map_err, reads}
use Rattle.tree_canon.specs.declared.node.Node.{Node}
use Rattle.tree_canon.specs.declared.node.Node.TheVariants as node
use Rattle.tree_store.specs.Steps.{lays_stored, lays_tree}
use Rattle.cnb_launch.specs.Faults.{cause_of, of_image_fault, of_read_fault, of_store_fault}
use Rattle.cnb_launch.specs.declared.fault.LaunchFault.{LaunchFault}
use Rattle.cnb_launch.specs.declared.fault.LaunchFault.TheVariants.{Exists}

-- nothing may stand at the root
abbrev pub if_absent : List ℕ → Bool → Result (Unit {0}) LaunchFault
if_absent root absent = if absent then Ok tt else Err (Exists root)

-- the tree of a row is laid at its place
abbrev pub lays_row : List ℕ → List ℕ → Row → Unit {0} → Seen → Result (Unit {0}) LaunchFault → Seen → Type 0
lays_row store root row done = map_err of_store_fault (lays_stored store row.digest root row.place)

-- bytes of which this holds are made, at the cost of memory
unfoldable pub makes : {S E : Type 0} → (E → Cause) → (List ℕ → Type 0) → S → Result (List ℕ) E → S → Type 0
makes cause_of Says old (Ok bytes) new = (new ≡ old) × Says bytes
makes cause_of Says old (Err fault) new = (new ≡ old) × (cause_of fault ≡ OutOfMemory)

-- bytes that read as the document
abbrev pub ReadsAs : LaunchDoc → List ℕ → Type 0
ReadsAs launch bytes = launch_doc_in bytes ≡ Ok launch

-- a file of these bytes
abbrev pub file_of : List ℕ → Node
file_of bytes = node.File false bytes

-- where the document of the launch stands in an image
abbrev pub launch_doc_place : List ℕ
launch_doc_place = codes "/layers/config/metadata.toml"

-- the document of the launch is laid as any file is
unfoldable pub lays_launch : List ℕ → LaunchDoc → Seen → Result (Unit {0}) LaunchFault → Seen → Type 0
lays_launch root launch = do
  bytes ← makes cause_of (ReadsAs launch)
  map_err of_store_fault (lays_tree root launch_doc_place (file_of bytes))

-- the root must be absent, the rows are laid in their order, and then the document of the launch
unfoldable pub lays_image : List ℕ → List ℕ → ImageDoc → Seen → Result (Unit {0}) LaunchFault → Seen → Type 0
lays_image store root doc = do
  absent ← map_err of_read_fault (reads read_cause (Only root) (λ files. true)
      (λ files. Ok (is_absent (kind_of (item_at files root)))))
  free ← gives cause_of (if_absent root absent)
  laid ← for_each (lays_row store root) doc.rows tt
  lays_launch root doc.launch

-- the image is read and laid
unfoldable pub unpacks : List ℕ → List ℕ → List ℕ → Seen → Result (Unit {0}) LaunchFault → Seen → Type 0
unpacks store image root = do
  doc ← map_err of_image_fault (reads_image store image)
  lays_image store root doc
