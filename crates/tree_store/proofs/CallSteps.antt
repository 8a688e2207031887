-- What the calls say, as steps.
use Rattle.std.proofs.Common.{◌≡◌, refl, ℕ, Bool, true, List, Result, Ok, Err}
use Rattle.std.specs.Prelude.{IfErr, IfOk, IfSome, IsTrue, OnOk}
use Rattle.std.specs.Option.{option_map}
use Rattle.sha2.specs.Sha256.{sha256}
use Rattle.cnb_world.specs.Calls.{MayMisuse}
use Rattle.cnb_world.specs.Tree.{Tree, item_at, is_file, is_file_or_absent}
use Rattle.cnb_world.specs.declared.world.World as world
use Rattle.steps.specs.Causes.{CountsFiles, IsAnswer, IsReadCause, NamesOne, Only, ended_by}
use Rattle.steps.specs.Counts.{FileCounts}
use Rattle.steps.specs.Outside.{Seen, seen}
use Rattle.steps.specs.Reading.{LeavesUnchanged}
use Rattle.steps.specs.Steps.{reads}
use Rattle.steps.proofs.EndLaws.{files_rest}
use Rattle.steps.proofs.StepLemmas.{allowed_by, read_so}
use Rattle.tree_canon.specs.Spelling.{spelling_of}
use Rattle.tree_canon.specs.declared.node.Node.{Node}
use Rattle.tree_store.specs.Answers.{AtOrBelow, BlamesAt, BlamesWithin, cause_of, is_free}
use Rattle.tree_store.specs.Around.{LeavesAround}
use Rattle.tree_store.specs.Overlay.{tree_laid}
use Rattle.tree_store.specs.Partly.{LaidPartly, items_placed}
use Rattle.tree_store.specs.Reading.{tree_in}
use Rattle.tree_store.specs.Steps.{IsCauseWithin, can_lay, can_put, gets_tree, lays_tree, looks_for_tree, puts_tree}
use Rattle.tree_store.specs.Steps.{reads_tree}
use Rattle.tree_store.specs.Store.{Gets, LeavesStore, Puts, tree_path, tree_put}
use Rattle.tree_store.specs.declared.fault.StoreFault.{StoreFault}
use Rattle.tree_store.proofs.Around.{itself}
use Rattle.tree_store.proofs.Blames.{at_named, within_named}
use Rattle.tree_store.proofs.CountLaws.{counted}
use Rattle.tree_store.proofs.Partly.{partly_itself}
use Rattle.tree_store.specs.declared.fault.StoreFault.TheVariants.{OddFile, Limit, File, NoTree, Damaged, Clash, Memory}

-- files that were read by calls of the right kind
read_right : {W T : Type 0} (ghosts : world.Ghosts W) (Among : List ℕ → Type 0) (want : Tree → Result T StoreFault)
    (result : Result T StoreFault) (old new : W)
    → IfSome (ghosts.tree old) (λ files. IsAnswer cause_of result (want files))
    → LeavesUnchanged cause_of result (seen ghosts old) (seen ghosts new)
    → IfErr result (λ fault. NamesOne Among (cause_of fault)) → ghosts.misused new ≡ ghosts.misused old
    → reads cause_of Among (λ files. true) want (seen ghosts old) result (seen ghosts new)
read_right ghosts Among want result old new answer left named misused =
    read_so ghosts cause_of Among (λ files. true) want result old new answer left.cause named left.files left.runs
    (allowed_by (λ files. true) (ghosts.tree old) _ _ misused)
    (counted result (seen ghosts old) (seen ghosts new) left.counts left.children)

pub tree_read : {W : Type 0} (ghosts : world.Ghosts W) (path : List ℕ) (result : Result Node StoreFault) (old new : W)
    → IfSome (ghosts.tree old) (λ files. IsAnswer cause_of result (tree_in path files))
    → LeavesUnchanged cause_of result (seen ghosts old) (seen ghosts new) → IfErr result (BlamesWithin path)
    → ghosts.misused new ≡ ghosts.misused old → reads_tree path (seen ghosts old) result (seen ghosts new)
unfolding reads_tree
tree_read ghosts path result old new answer left blames misused = read_right ghosts (AtOrBelow path)
    (tree_in path) result old new answer left (within_named path result blames) misused

pub looked : {W : Type 0} (ghosts : world.Ghosts W) (store digest : List ℕ) (result : Result Bool StoreFault)
    (old new : W)
    → IfSome (ghosts.tree old) (λ files. IsAnswer cause_of result
    (Ok (is_file (item_at files (tree_path store digest)))))
    → LeavesUnchanged cause_of result (seen ghosts old) (seen ghosts new)
    → IfErr result (BlamesAt (tree_path store digest)) → ghosts.misused new ≡ ghosts.misused old
    → looks_for_tree store digest (seen ghosts old) result (seen ghosts new)
unfolding looks_for_tree
looked ghosts store digest result old new answer left blames misused = read_right ghosts
    (Only (tree_path store digest)) (λ files. Ok (is_file (item_at files (tree_path store digest)))) result old new
    answer left (at_named (tree_path store digest) result blames) misused

-- the file of a tree that was read
pub got : {W : Type 0} (ghosts : world.Ghosts W) (store digest : List ℕ) (result : Result Node StoreFault) (old new : W)
    → IfSome (ghosts.tree old) (λ files. Gets digest (item_at files (tree_path store digest)) result)
    → IfErr result (λ fault. IsReadCause (ghosts.failed_at new) (cause_of fault))
    → IfErr result (BlamesAt (tree_path store digest))
    → ghosts.tree new ≡ ghosts.tree old → ghosts.runs new ≡ ghosts.runs old
    → MayMisuse (option_map (λ files. is_file_or_absent (item_at files (tree_path store digest)))
    (ghosts.tree old)) (ghosts.misused old) (ghosts.misused new)
    → FileCounts (ended_by cause_of result) (seen ghosts old) (seen ghosts new)
    → gets_tree store digest (seen ghosts old) result (seen ghosts new)
unfolding gets_tree
got ghosts store digest result old new answer cause blames files runs allows counts = record {
  same = record { files = files; runs = runs };
  answer = answer;
  cause = cause;
  blames = blames;
  allows =
      allows;
  counts = counts;
}

pub got_so : {W : Type 0} (ghosts : world.Ghosts W) (store digest : List ℕ) (result : Result Node StoreFault)
    (old new : W)
    → IfSome (ghosts.tree old) (λ files. Gets digest (item_at files (tree_path store digest)) result)
    → IfErr result (BlamesAt (tree_path store digest)) → LeavesUnchanged cause_of result (seen ghosts old)
    (seen ghosts new)
    → MayMisuse (option_map (λ files. is_file_or_absent (item_at files (tree_path store digest)))
    (ghosts.tree old)) (ghosts.misused old) (ghosts.misused new)
    → gets_tree store digest (seen ghosts old) result (seen ghosts new)
got_so ghosts store digest result old new answer blames left allows = got ghosts store digest result old new
    answer left.cause blames left.files left.runs allows
    (counted result (seen ghosts old) (seen ghosts new) left.counts left.children)

pub put_so : {W : Type 0} (ghosts : world.Ghosts W) (store : List ℕ) (tree : Node)
    (result : Result (List ℕ) StoreFault) (old new : W)
    → IfOk result (λ digest. digest ≡ sha256 (spelling_of tree))
    → IfSome (ghosts.tree old) (λ files. Puts store tree files result)
    → OnOk result (ghosts.tree new ≡ option_map (tree_put store tree) (ghosts.tree old))
    → IfErr result (λ fault. LeavesStore fault (tree_path store (sha256 (spelling_of tree))) (spelling_of tree)
    (ghosts.tree old) (ghosts.tree new)) → IfErr result (BlamesAt
    (tree_path store (sha256 (spelling_of tree)))) → ghosts.runs new ≡ ghosts.runs old
    → MayMisuse (option_map (can_put store tree) (ghosts.tree old)) (ghosts.misused old) (ghosts.misused new)
    → CountsFiles cause_of result (ghosts.file_faults old) (ghosts.file_faults new)
    → ghosts.child_faults new ≡ ghosts.child_faults old
    → puts_tree store tree (seen ghosts old) result (seen ghosts new)
unfolding puts_tree
put_so ghosts store tree (Ok digest) old new is answer ok err blames runs allows files children = record {
  answer = answer;
  leaves = (is, ok);
  blames = blames;
  runs = runs;
  allows = allows;
  counts = counted
      (Ok digest) (seen ghosts old) (seen ghosts new) files children;
}
put_so ghosts store tree (Err fault) old new is answer ok err blames runs allows files children = record {
  answer = answer;
  leaves = err;
  blames = blames;
  runs = runs;
  allows = allows;
  counts = counted {A = List ℕ}
      (Err fault) (seen ghosts old) (seen ghosts new) files children;
}

cause_within : (root : List ℕ) (fault : StoreFault) → IsTrue (is_free fault) → BlamesWithin root fault
    → IsCauseWithin root (cause_of fault)
cause_within root (File path) free within = within
cause_within root Memory free within = tt
cause_within root (OddFile path) free within = absurd (cc)
cause_within root (Limit kind) free within = absurd (cc)
cause_within root (NoTree digest) free within = absurd (cc)
cause_within root (Damaged asked found bad) free within = absurd (cc)
cause_within root (Clash digest) free within = absurd (cc)

pub laid_so : {W : Type 0} (ghosts : world.Ghosts W) (root place : List ℕ) (tree : Node)
    (result : Result (Unit {0}) StoreFault) (old new : W)
    → OnOk result (ghosts.tree new ≡ option_map (tree_laid root place tree) (ghosts.tree old))
    → IfErr result (λ fault. IsTrue (is_free fault)) → IfErr result (BlamesWithin root)
    → LeavesAround root (seen ghosts old) (seen ghosts new)
    → MayMisuse (option_map (can_lay root place tree) (ghosts.tree old)) (ghosts.misused old)
    (ghosts.misused new)
    → CountsFiles cause_of result (ghosts.file_faults old) (ghosts.file_faults new)
    → ghosts.child_faults new ≡ ghosts.child_faults old → LaidPartly root (items_placed root place tree)
    (ghosts.tree old) (ghosts.tree new) → lays_tree root place tree (seen ghosts old) result (seen ghosts new)
unfolding lays_tree
laid_so ghosts root place tree (Ok done) old new ok free within around allows files children partly =
    (ok, around, allows, counted (Ok done) (seen ghosts old) (seen ghosts new) files children)
laid_so ghosts root place tree (Err fault) old new ok free within around allows files children partly = (
  cause_within root fault free within,
  around,
  allows,
  counted {A = Unit {0}} (Err fault) (seen ghosts old)
      (seen ghosts new) files children,
  partly,
)

-- memory ran out, and nothing was done
pub lay_nothing : (root place : List ℕ) (tree : Node) (old : Seen) → lays_tree root place tree old (Err Memory) old
unfolding lays_tree
lay_nothing root place tree old = (
  tt,
  itself root old,
  allowed_by
      (can_lay root place tree) old.files old.misused old.misused refl,
  files_rest.memory old,
  partly_itself root
      (items_placed root place tree) old.files old.files refl,
)
