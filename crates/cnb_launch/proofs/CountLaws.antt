-- What the commands do to the counts, by what ended them.
use Rattle.std.proofs.Common.{◌≡◌, refl, subst, sym, ℕ, List, Some, Ok, Err}
use Rattle.cnb_world.specs.declared.env.Variable.{Variable}
use Rattle.cnb_words.specs.declared.launch.LaunchWords.{LaunchWords}
use Rattle.cnb_words.specs.declared.unpack.UnpackWords.{UnpackWords}
use Rattle.doc_files.specs.Faults.{read_cause}
use Rattle.doc_files.specs.declared.fault.ReadFault.{ReadFault}
use Rattle.doc_files.specs.declared.fault.ReadFault.TheVariants as read
use Rattle.image_docs.specs.declared.image.ImageDoc.{ImageDoc}
use Rattle.image_docs.specs.declared.launch_doc.LaunchDoc.{LaunchDoc}
use Rattle.image_docs.specs.declared.row.Row.{Row}
use Rattle.image_files.specs.Faults as image_files
use Rattle.image_files.specs.declared.fault.ImageFault.{ImageFault}
use Rattle.image_files.specs.declared.fault.ImageFault.TheVariants as image
use Rattle.image_files.proofs.CountLaws.{image_counts}
use Rattle.steps.specs.Causes.{Cause}
use Rattle.steps.specs.Counts.{AllCounts, FileCounts}
use Rattle.steps.specs.Outside.{Seen}
use Rattle.steps.proofs.EndLaws.{Obeys, all_link, all_rest, files_among, files_link, files_rest, obeys_bind, obeys_each}
use Rattle.steps.proofs.EndLaws.{obeys_gives, obeys_told, obeys_yields, reads_counts, runs_child_counts}
use Rattle.tree_store.proofs.CountLaws.{lay_stored_counts, lay_tree_counts}
use Rattle.tree_store.specs.Answers as tree_store
use Rattle.tree_store.specs.declared.fault.StoreFault.{StoreFault}
use Rattle.tree_store.specs.declared.fault.StoreFault.TheVariants as store
use Rattle.cnb_launch.specs.Commands.{launches_command, unpacks_command}
use Rattle.cnb_launch.specs.Faults.{cause_of, of_image_fault, of_read_fault, of_store_fault}
use Rattle.cnb_launch.specs.Unpacking.{ReadsAs, lays_image, lays_launch, lays_row, makes, unpacks}
use Rattle.cnb_launch.proofs.ObeyLaws.{command_obeys}

read_same : (fault : ReadFault) → cause_of (of_read_fault fault) ≡ read_cause fault
read_same (read.File path) = refl
read_same (read.Document path fault) = refl
read_same (read.Limit kind) = refl
read_same read.Memory = refl

store_same : (fault : StoreFault) → cause_of (of_store_fault fault) ≡ tree_store.cause_of fault
store_same (store.OddFile path) = refl
store_same (store.Limit kind) = refl
store_same (store.File path) = refl
store_same (store.NoTree digest) = refl
store_same (store.Damaged asked found bad) = refl
store_same (store.Clash digest) = refl
store_same store.Memory = refl

image_same : (fault : ImageFault) → cause_of (of_image_fault fault) ≡ image_files.cause_of fault
image_same (image.NoImage name) = refl
image_same (image.Document path fault) = refl
image_same (image.Limit kind) = refl
image_same (image.File path) = refl
image_same image.Memory = refl

made_counts : (Says : List ℕ → Type 0) → Obeys {S = Seen} FileCounts cause_of (makes cause_of Says)
unfolding makes
made_counts Says old new (Ok bytes) h = subst (FileCounts _ old) (sym h.0) (files_rest.none old)
made_counts Says old new (Err fault) h = subst (FileCounts _ old) (sym h.0)
    (subst (λ (cause : Cause). FileCounts (Some cause) old old) (sym h.1) (files_rest.memory old))

row_counts : (store root : List ℕ) (row : Row) (done : Unit {0})
    → Obeys FileCounts cause_of (lays_row store root row done)
row_counts store root row done = obeys_told FileCounts _ cause_of _ _ store_same
    (lay_stored_counts store row.digest root row.place)

lay_launch_counts : (root : List ℕ) (launch : LaunchDoc) → Obeys FileCounts cause_of (lays_launch root launch)
unfolding lays_launch
lay_launch_counts root launch =
    obeys_bind FileCounts cause_of _ _ files_link (made_counts (ReadsAs launch))
    (λ bytes. obeys_told FileCounts _ cause_of _ _ store_same (lay_tree_counts root _ _))

lay_image_counts : (store root : List ℕ) (doc : ImageDoc) → Obeys FileCounts cause_of (lays_image store root doc)
unfolding lays_image
lay_image_counts store root doc =
    obeys_bind FileCounts cause_of _ _ files_link
    (obeys_told FileCounts _ cause_of _ _ read_same (reads_counts read_cause _ _ _))
    (λ absent. obeys_bind FileCounts cause_of _ _ files_link (obeys_gives FileCounts cause_of _ files_rest)
    (λ free. obeys_bind FileCounts cause_of _ _ files_link
    (obeys_each FileCounts cause_of _ files_link files_rest (row_counts store root) doc.rows tt)
    (λ laid. lay_launch_counts root doc.launch)))

unpacking_counts : (store image root : List ℕ) → Obeys FileCounts cause_of (unpacks store image root)
unfolding unpacks
unpacking_counts store image root =
    obeys_bind FileCounts cause_of _ _ files_link
    (obeys_told FileCounts _ cause_of _ _ image_same (image_counts store image))
    (λ doc. lay_image_counts store root doc)

pub unpack_counts : (options : UnpackWords) → Obeys FileCounts cause_of (unpacks_command options)
unfolding unpacks_command
unpack_counts options =
    obeys_bind FileCounts cause_of _ _ files_link (obeys_gives FileCounts cause_of _ files_rest)
    (λ text. obeys_bind FileCounts cause_of _ _ files_link
    (unpacking_counts options.store options.image options.root)
    (λ done. obeys_yields FileCounts cause_of text files_rest))

pub launch_counts : (options : LaunchWords) (env : List Variable)
    → Obeys AllCounts cause_of (launches_command options env)
launch_counts options env =
    command_obeys AllCounts all_link all_rest (λ A Among fits want. files_among cause_of _
    (obeys_told FileCounts read_cause cause_of of_read_fault _ read_same (reads_counts read_cause Among fits want)))
    (runs_child_counts cause_of) options env
