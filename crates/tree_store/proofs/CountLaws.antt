-- What steps of the store do to the counts.
use Rattle.std.proofs.Common.{◌≡◌, ℕ, List, Some, Result, Ok, Err}
use Rattle.tree_canon.specs.declared.node.Node.{Node}
use Rattle.steps.proofs.EndLaws.{Obeys, files_link, files_rest, obeys_bind, obeys_yields, reads_counts}
use Rattle.steps.specs.Causes.{CountsFiles, ended_by}
use Rattle.steps.specs.Counts.{FileCounts, IsFileEnd}
use Rattle.steps.specs.Outside.{Seen}
use Rattle.steps.specs.Steps.{yields}
use Rattle.tree_store.specs.Answers.{cause_of}
use Rattle.tree_store.specs.Steps.{checks_tree, gets_tree, lays_kept, lays_stored, lays_tree, looks_for_tree}
use Rattle.tree_store.specs.Steps.{puts_folder, puts_tree, reads_tree}
use Rattle.tree_store.specs.declared.fault.StoreFault.{StoreFault}
use Rattle.tree_store.specs.declared.fault.StoreFault.TheVariants.{OddFile, Limit, File, NoTree, Damaged, Clash, Memory}

-- no refusal is for a child
never_for_a_child : (fault : StoreFault) → IsFileEnd (Some (cause_of fault))
never_for_a_child (File path) = tt
never_for_a_child Memory = tt
never_for_a_child (OddFile path) = tt
never_for_a_child (Limit kind) = tt
never_for_a_child (NoTree digest) = tt
never_for_a_child (Damaged asked found bad) = tt
never_for_a_child (Clash digest) = tt

pub counted : {A : Type 0} (result : Result A StoreFault) (old new : Seen)
    → CountsFiles cause_of result old.file_faults new.file_faults → new.child_faults ≡ old.child_faults
    → FileCounts (ended_by cause_of result) old new
counted (Ok value) old new files children = record { ends = tt; files = files; children = children }
counted (Err fault) old new files children = record
    { ends = never_for_a_child fault; files = files; children = children }

pub read_tree_counts : (path : List ℕ) → Obeys FileCounts cause_of (reads_tree path)
unfolding reads_tree
read_tree_counts path = reads_counts cause_of _ _ _

pub look_for_tree_counts : (store digest : List ℕ) → Obeys FileCounts cause_of (looks_for_tree store digest)
unfolding looks_for_tree
look_for_tree_counts store digest = reads_counts cause_of _ _ _

pub get_tree_counts : (store digest : List ℕ) → Obeys FileCounts cause_of (gets_tree store digest)
unfolding gets_tree
get_tree_counts store digest old new result h = h.counts

pub check_tree_counts : (store digest : List ℕ) → Obeys FileCounts cause_of (checks_tree store digest)
unfolding checks_tree
check_tree_counts store digest = obeys_bind FileCounts cause_of (gets_tree store digest)
    (λ tree. yields tt) files_link (get_tree_counts store digest)
    (λ tree. obeys_yields FileCounts cause_of tt files_rest)

pub put_tree_counts : (store : List ℕ) (tree : Node) → Obeys FileCounts cause_of (puts_tree store tree)
unfolding puts_tree
put_tree_counts store tree old new result h = h.counts

pub put_folder_counts : (store path : List ℕ) → Obeys FileCounts cause_of (puts_folder store path)
unfolding puts_folder
put_folder_counts store path old new result h = h.counts

pub lay_tree_counts : (root place : List ℕ) (tree : Node) → Obeys FileCounts cause_of (lays_tree root place tree)
unfolding lays_tree
lay_tree_counts root place tree old new (Ok done) h = h.3
lay_tree_counts root place tree old new (Err fault) h = h.3

pub lay_kept_counts : (store digest root place : List ℕ) (tree : Node)
    → Obeys FileCounts cause_of (lays_kept store digest root place tree)
unfolding lays_kept
lay_kept_counts store digest root place tree old new (Ok done) h = h.3
lay_kept_counts store digest root place tree old new (Err fault) h = h.3

pub lay_stored_counts : (store digest root place : List ℕ)
    → Obeys FileCounts cause_of (lays_stored store digest root place)
unfolding lays_stored
lay_stored_counts store digest root place =
    obeys_bind FileCounts cause_of (gets_tree store digest) (lays_kept store digest root place) files_link
    (get_tree_counts store digest) (lay_kept_counts store digest root place)
