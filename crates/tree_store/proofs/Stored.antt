-- Laying a stored tree, as a step.
use Rattle.std.proofs.Common.{◌≡◌, ◌≤◌, ◌-◌, ◌∙◌, refl, sym, ap, subst, arith, ℕ, Bool, true, false, ◌⊎◌, inl, inr}
use Rattle.std.proofs.Common.{List, [], ◌∷◌, ◌++◌, length, length-append, take, drop, Option, Some, None, Result, Ok}
use Rattle.std.proofs.Common.{Err}
use Rattle.std.specs.Prelude.{IfErr, IfSome, IsTrue, OnOk, is_some}
use Rattle.std.specs.List.{list_all}
use Rattle.std.specs.Option.{option_map}
use Rattle.std.proofs.Math.Seq.{drop-nil}
use Rattle.std.proofs.lemmas.List.{append-nil}
use Rattle.sha2.specs.Hashers.{Holds256}
use Rattle.sha2.specs.Sha256.{sha256}
use Rattle.cnb_world.specs.Calls.{CountsMisuse, MayMisuse}
use Rattle.cnb_world.specs.Path.{is_part, joined}
use Rattle.cnb_world.specs.Tree.{IsTree, Tree, can_make_folder, folder_made, is_file_or_absent, is_root, item_at}
use Rattle.cnb_world.specs.declared.world.FileFault.{FileFault}
use Rattle.cnb_world.specs.declared.world.Item.{Item}
use Rattle.cnb_world.specs.declared.world.Item.TheVariants as item
use Rattle.cnb_world.specs.declared.world.World as world
use Rattle.steps.specs.Causes.{Cause, FileFailed, ChildFailed, OutOfMemory, Decided, FilesBy, ended_by}
use Rattle.steps.specs.Counts.{FileCounts}
use Rattle.steps.specs.Outside.{Seen, seen}
use Rattle.steps.specs.Reading.{LeavesUnchanged}
use Rattle.steps.proofs.EndLaws.{files_rest}
use Rattle.steps.proofs.StepLemmas.{ended, went}
use Rattle.tree_canon.specs.Fits.{fits}
use Rattle.tree_canon.specs.Spelling.{limit, magic, node_bytes}
use Rattle.tree_canon.specs.declared.node.Node.{Node}
use Rattle.tree_store.specs.Ahead.{Ahead, Did, HasDigest, IsAhead, Lays, LaysTree}
use Rattle.tree_store.specs.Answers.{BlamesAt, BlamesEither, cause_of, is_free}
use Rattle.tree_store.specs.Around.{KeptAround, LeavesAround}
use Rattle.tree_store.specs.Checking.{Checks}
use Rattle.tree_store.specs.Laying.{folder_laid, laid_under, node_laid, tree_steps}
use Rattle.tree_store.specs.Overlay.{IsPlaced, parts_of, tree_laid, way_parts}
use Rattle.tree_store.specs.Right.{way_to}
use Rattle.tree_store.specs.Partly.{LaidPartly, items_placed}
use Rattle.tree_store.specs.Steps.{IsCauseWithin, IsKeptCause, can_lay, gets_tree, lays_kept, lays_stored, lays_tree}
use Rattle.tree_store.specs.Store.{Gets, tree_path}
use Rattle.tree_store.specs.declared.fault.StoreFault.{StoreFault}
use Rattle.tree_store.specs.declared.fault.StoreFault.TheVariants.{OddFile, Limit, File, NoTree, Damaged, Clash, Memory}
use Rattle.tree_store.specs.Origin.{BlamesRead, Leaves, OriginState, found_by, held_of}
use Rattle.tree_store.specs.Source.{Source}
use Rattle.tree_store.proofs.Ahead.{shelf_as}
use Rattle.tree_store.proofs.CallSteps.{got}
use Rattle.tree_store.proofs.CountLaws.{counted}
use Rattle.tree_store.proofs.Checked.{got_some}
use Rattle.tree_store.proofs.KeptPartly.{partly_untold}
use Rattle.tree_store.proofs.Overlays.{laid_where, plain_placed}
use Rattle.tree_store.proofs.Right.{laid_right, made_right, way_made}

-- ---- along the way to a place

pub same_part : (node : Node) (way part rest folder path : List ℕ) (files : Tree)
    → way_parts way ≡ part ∷ way_parts rest → path ≡ joined folder part
    → laid_under node (way_parts rest) path (folder_laid folder files)
    ≡ laid_under node (way_parts way) folder files
same_part node way part rest folder path files cut is = ap
    (λ p. laid_under node (way_parts rest) p (folder_laid folder files)) is
    ∙ sym (ap (λ parts. laid_under node parts folder files) cut)

pub same_last : (node : Node) (way folder path : List ℕ) (files : Tree) → way_parts way ≡ way ∷ []
    → path ≡ joined folder way → node_laid node path (folder_laid folder files)
    ≡ laid_under node (way_parts way) folder files
same_last node way folder path files cut is = ap (λ p. node_laid node p (folder_laid folder files)) is
    ∙ sym (ap (λ parts. laid_under node parts folder files) cut)

-- ---- a tree at a place under a folder

placed_any : (node : Node) (parts : List (List ℕ)) (root : List ℕ) → is_root root ≡ false → IsPlaced node parts root
placed_any node [] root plain = plain_placed node root plain
placed_any node (part ∷ parts) root plain = tt

told_placed : (o : Option Tree) (result : Result (Unit {0}) StoreFault) (node : Node) (parts : List (List ℕ))
    (root : List ℕ) → is_root root ≡ false → IfSome o (λ _. OnOk result (IsPlaced node parts root))
told_placed None result node parts root plain = tt
told_placed (Some files) (Ok done) node parts root plain = placed_any node parts root plain
told_placed (Some files) (Err fault) node parts root plain = tt

steps_made : (o o1 o2 : Option Tree) (root place : List ℕ) (node : Node) → o1 ≡ option_map (folder_made root) o
    → o2 ≡ option_map (laid_under node (parts_of place) root) o1 → o2 ≡ option_map (tree_steps root place node) o
unfolding tree_steps
steps_made None o1 o2 root place node made laid = laid ∙ ap (option_map (laid_under node (parts_of place) root)) made
steps_made (Some files) o1 o2 root place node made laid = laid
    ∙ ap (option_map (laid_under node (parts_of place) root)) made

made_where : (result : Result (Unit {0}) StoreFault) (o o1 o2 : Option Tree) (root place : List ℕ) (node : Node)
    → o1 ≡ option_map (folder_made root) o → OnOk result (o2
    ≡ option_map (laid_under node (parts_of place) root) o1)
    → OnOk result (o2 ≡ option_map (tree_steps root place node) o)
made_where (Ok done) o o1 o2 root place node made laid = steps_made o o1 o2 root place node made laid
made_where (Err fault) o o1 o2 root place node made laid = tt

on_ok : (result : Result (Unit {0}) StoreFault) (P : Type 0) → P → OnOk result P
on_ok (Ok done) P h = h
on_ok (Err fault) P h = tt

-- the folder was made, and the node is laid at its place
pub tree_kept : (root place : List ℕ) (node : Node) (source after : Source) (old mid new : Seen)
    (answer : Result (Unit {0}) FileFault) (result : Result (Unit {0}) StoreFault)
    → is_root root ≡ false → fits node 0 ≡ true → mid.files ≡ option_map (folder_made root) old.files
    → CountsMisuse (option_map (λ files. can_make_folder files root) old.files) answer old.misused mid.misused
    → IfSome old.files IsTree → IfSome mid.files IsTree
    → IsTrue (list_all is_part (parts_of place)) → LeavesAround root mid new → Ahead source mid.files (node_bytes node)
    → Lays (node_bytes node ++ []) [] (laid_under node (parts_of place) root)
    (way_to root) [] source mid result after new → LaysTree root place node old result new
tree_kept root place node source after old mid new answer result plain fit made counts tree tree1 names around
    ahead lays = by (lays.so (subst (Ahead source mid.files) (sym (append-nil (node_bytes node))) ahead)
    (way_made root old.files mid.files made tree1))
  where
    by : Did {A = Unit {0}} (λ done. Unit {0}) [] (laid_under node (parts_of place) root) [] mid result after new
        → LaysTree root place node old result new
    by did = record {
      files = laid_where result old.files new.files root place node node refl fit
          (made_where result old.files mid.files new.files root place node made did.files) (on_ok result _ names)
          (told_placed old.files result node (parts_of place) root plain) tree;
      free = did.free;
      allows = laid_right old.files root place node answer old.misused mid.misused new.misused counts
          around.misused (λ can. did.right);
    }

-- the same of files alone
pub laid_ok : (root place : List ℕ) (node : Node) (o o1 o2 : Option Tree) → is_root root ≡ false → fits node 0 ≡ true
    → o1 ≡ option_map (folder_made root) o → IfSome o IsTree → IsTrue (list_all is_part (parts_of place))
    → o2 ≡ option_map (laid_under node (parts_of place) root) o1 → o2 ≡ option_map (tree_laid root place node) o
laid_ok root place node o o1 o2 plain fit made tree names laid = laid_where {E = StoreFault}
    (Ok tt) o o2 root place node node refl fit
    (steps_made o o1 o2 root place node made laid) names (told_placed o (Ok tt) node (parts_of place) root plain) tree

-- then the reader is at the end
pub tree_ended : (root place : List ℕ) (node : Node) (source after : Source) (old mid new : Seen)
    (result : Result (Unit {0}) StoreFault) → mid.files ≡ option_map (folder_made root) old.files
    → IfSome mid.files IsTree → Ahead source mid.files (node_bytes node)
    → Lays (node_bytes node ++ []) [] (laid_under node (parts_of place) root)
    (way_to root) [] source mid result after new → OnOk result (Ahead after new.files [])
tree_ended root place node source after old mid new result made tree ahead lays =
    (lays.so (subst (Ahead source mid.files) (sym (append-nil (node_bytes node))) ahead)
    (way_made root old.files mid.files made tree)).ahead

pub tree_stopped : (root place : List ℕ) (node : Node) (old new : Seen)
    (answer : Result (Unit {0}) FileFault) (fault : StoreFault) → IsTrue (is_free fault)
    → CountsMisuse (option_map (λ files. can_make_folder files root) old.files) answer old.misused new.misused
    → LaysTree root place node old (Err fault) new
tree_stopped root place node old new answer fault free counts = record {
  files = tt;
  free = free;
  allows = made_right old.files root place node answer old.misused
      new.misused counts;
}

-- ---- the file that was judged

-- a reader that was made for the file of a digest
pub record IsBegun (source : Source) (digest : List ℕ) : Type 0 where
  pub named : source.digest ≡ digest
  pub hashed : Holds256 source.hasher magic
  pub at : source.at ≡ 5
  pub piece : source.piece ≡ []

pub file_ahead : (source : Source) (digest : List ℕ) (found : Option Item) (tree : Node) → IsBegun source digest
    → Gets digest found (Ok tree) → IsAhead source found (node_bytes tree)
file_ahead source digest None tree begun gets = absurd gets
file_ahead source digest (Some item.Folder) tree begun gets = absurd gets
file_ahead source digest (Some (item.Link target)) tree begun gets = absurd gets
file_ahead source digest (Some item.Odd) tree begun gets = absurd gets
file_ahead source digest (Some (item.File exec bytes)) tree begun gets = record {
  file = refl;
  few = let size : length bytes ≤ limit = gets.1.size in omega
      (arith, size, ap length gets.1.is, length-append magic (node_bytes tree), begun.at);
  is = sym (ap (λ n. drop n bytes) begun.at ∙ ap (drop 5) gets.1.is);
  held = ap (drop source.used) begun.piece ∙ drop-nil source.used
      ∙ ap (λ n. take n (node_bytes tree)) (let none : length source.piece ≡ 0 = ap length begun.piece
      in let e : 0 ≡ length source.piece - source.used = omega arith in e);
  taken = magic;
  hashed = begun.hashed;
  whole = ap sha256 (sym gets.1.is) ∙ gets.0 ∙ sym begun.named;
}

file_fits : (digest : List ℕ) (found : Option Item) (tree : Node) → Gets digest found (Ok tree) → fits tree 0 ≡ true
file_fits digest None tree gets = absurd gets
file_fits digest (Some item.Folder) tree gets = absurd gets
file_fits digest (Some (item.Link target)) tree gets = absurd gets
file_fits digest (Some item.Odd) tree gets = absurd gets
file_fits digest (Some (item.File exec bytes)) tree gets = gets.1.fit

-- nothing is told, or the bytes of a tree lie ahead
told : (source : Source) (path digest : List ℕ) (o : Option Tree) (tree : Node) → source.origin.path ≡ path
    → is_some source.origin.shelf ≡ false → IsBegun source digest
    → IfSome o (λ files. Gets digest (item_at files path) (Ok tree)) → (o ≡ None)
    ⊎ (Ahead source o (node_bytes tree) × (fits tree 0 ≡ true))
unfolding Ahead
told source path digest None tree is none begun gets = inl refl
told source path digest (Some files) tree is none begun gets = inr (
  subst (λ v. IsAhead source (found_by v source.origin.path (held_of source.origin.shelf) source.digest files)
      (node_bytes tree))
      (sym none) (subst (λ p. IsAhead source (item_at files p) (node_bytes tree)) (sym is)
      (file_ahead source digest (item_at files path) tree begun gets)),
  file_fits digest
      (item_at files path) tree gets,
)

none_files : (path : List ℕ) (o o1 : Option Tree) (change : Tree → Tree) → o ≡ None → KeptAround path o o1
    → o1 ≡ option_map change o
unfolding KeptAround
none_files path None None change none kept = refl
none_files path None (Some files) change none kept = absurd kept
none_files path (Some files) o1 change none kept = absurd (cc)

none_allowed : (o : Option Tree) (allows : Tree → Bool) (a b : ℕ) → o ≡ None
    → MayMisuse (option_map (λ files. false) o) a b → MayMisuse (option_map allows o) a b
none_allowed None allows a b none h = h
none_allowed (Some files) allows a b none h = absurd (cc)

free_cause : (root file : List ℕ) (o : Option Tree) (fault : StoreFault) → IsTrue (is_free fault)
    → BlamesEither root file fault → IsKeptCause root file o (cause_of fault)
free_cause root file o (File path) free blames = blames
free_cause root file o Memory free blames = tt
free_cause root file o (OddFile path) free blames = absurd (cc)
free_cause root file o (Limit kind) free blames = absurd (cc)
free_cause root file o (NoTree digest) free blames = absurd (cc)
free_cause root file o (Damaged asked found bad) free blames = absurd (cc)
free_cause root file o (Clash digest) free blames = absurd (cc)

untold_cause : (root file : List ℕ) (o : Option Tree) (fault : StoreFault) → o ≡ None
    → BlamesEither root file fault → IsKeptCause root file o (cause_of fault)
untold_cause root file o (File path) none blames = blames
untold_cause root file o Memory none blames = tt
untold_cause root file o (OddFile path) none blames = none
untold_cause root file o (Limit kind) none blames = none
untold_cause root file o (NoTree digest) none blames = none
untold_cause root file o (Damaged asked found bad) none blames = none
untold_cause root file o (Clash digest) none blames = none

-- where a file is read
either_of : (root file : List ℕ) (source : OriginState) (fault : StoreFault) → source.path ≡ file
    → BlamesRead root source fault → BlamesEither root file fault
either_of root file source (File blamed) is (inl h) = inl h
either_of root file source (File blamed) is (inr (none, h)) = inr (h ∙ is)
either_of root file source Memory is h = tt
either_of root file source (OddFile odd) is h = tt
either_of root file source (Limit kind) is h = tt
either_of root file source (NoTree digest) is h = tt
either_of root file source (Damaged asked found bad) is h = tt
either_of root file source (Clash digest) is h = tt

kept_step : (store digest root place : List ℕ) (tree : Node) (source : Source) (after : OriginState) (old new : Seen)
    (result : Result (Unit {0}) StoreFault)
    → source.origin.path ≡ tree_path store digest → is_some source.origin.shelf ≡ false → IsBegun source digest
    → IfSome old.files (λ files. Gets digest (item_at files (tree_path store digest)) (Ok tree))
    → Leaves root source.origin old result after new → ((node : Node) → fits node 0 ≡ true
    → Ahead source old.files (node_bytes node) → LaysTree root place node old result new)
    → ((node : Node) → fits node 0 ≡ true → Ahead source old.files (node_bytes node)
    → LaidPartly root (items_placed root place node) old.files new.files)
    → lays_kept store digest root place tree old result new
unfolding lays_kept
kept_step store digest root place tree source after old new result is none begun gets leaves lays parts = by result
    leaves (told source (tree_path store digest) digest old.files tree is none begun gets) (lays tree)
  where
    counts : (result : Result (Unit {0}) StoreFault) → Leaves root source.origin old result after new
        → FileCounts (ended_by cause_of result) old new
    counts result leaves = counted result old new leaves.counts leaves.children

    by : (result : Result (Unit {0}) StoreFault) → Leaves root source.origin old result after new → (old.files ≡ None)
        ⊎ (Ahead source old.files (node_bytes tree) × (fits tree 0 ≡ true))
        → (fits tree 0 ≡ true → Ahead source old.files (node_bytes tree)
        → LaysTree root place tree old result new)
        → lays_kept store digest root place tree old result new
    by (Ok done) leaves (inl none) lays = (
      none_files root old.files new.files
          (tree_laid root place tree) none leaves.around.files,
      leaves.around,
      none_allowed old.files
          (can_lay root place tree) old.misused new.misused none leaves.untold,
      counts (Ok done) leaves,
    )
    by (Ok done) leaves (inr (ahead, fit)) lays = let laid = lays fit ahead
        in (laid.files, leaves.around, laid.allows, counts (Ok done) leaves)
    by (Err fault) leaves (inl none) lays = (
      untold_cause root (tree_path store digest) old.files fault none
          (either_of root (tree_path store digest) source.origin fault is leaves.blames),
      leaves.around,
      none_allowed old.files
          (can_lay root place tree) old.misused new.misused none leaves.untold,
      counts
          (Err fault) leaves,
      partly_untold root root (items_placed root place tree) old.files new.files none
          leaves.around.files,
    )
    by (Err fault) leaves (inr (ahead, fit)) lays = let laid = lays fit ahead
        in (
          free_cause root (tree_path store digest) old.files fault laid.free
              (either_of root (tree_path store digest) source.origin fault is leaves.blames),
          leaves.around,
          laid.allows,
          counts
              (Err fault) leaves,
          parts tree fit ahead,
        )

-- ---- the digest of what was laid

ends_never : (after : Source) (o : Option Tree) (fault : StoreFault) → Ahead after o []
    → ((bytes : List ℕ) → Holds256 after.hasher bytes → HasDigest after.digest bytes (Err fault)) → ⊥
unfolding Ahead
ends_never after None fault ahead has = ahead
ends_never after (Some files) fault ahead has = let other = has ahead.taken ahead.hashed
    in other.0 (ap sha256 (sym (append-nil ahead.taken)) ∙ ahead.whole)

pub lays_ended : (root place : List ℕ) (node : Node) (after : Source) (old new : Seen)
    (result : Result (Unit {0}) StoreFault)
    → ((bytes : List ℕ) → Holds256 after.hasher bytes → HasDigest after.digest bytes result)
    → Ahead after new.files [] → LaysTree root place node old (Ok tt) new → LaysTree root place node old result new
lays_ended root place node after old new (Ok done) has ended laid = laid
lays_ended root place node after old new (Err fault) has ended laid = absurd
    (ends_never after new.files fault ended has)

pub leaves_ended : (path : List ℕ) (source after : OriginState) (old new : Seen)
    (result : Result (Unit {0}) StoreFault) → IfErr result (λ fault. cause_of fault ≡ Decided)
    → Leaves {A = Unit {0}} path source old (Ok tt) after new → Leaves path source old result after new
leaves_ended path source after old new (Ok done) decided leaves = leaves
leaves_ended path source after old new (Err fault) decided leaves = record {
  stays = leaves.stays;
  shelf = shelf_as source after (Ok tt) (Err fault) tt leaves.shelf;
  quiet = leaves.quiet;
  around = leaves.around;
  untold = leaves.untold;
  children = leaves.children;
  counts = subst (λ cause. FilesBy cause old.file_faults new.file_faults) (sym decided) leaves.counts;
  blames = blames_none path source fault decided;
}
  where
    blames_none : (path : List ℕ) (source : OriginState) (fault : StoreFault) → cause_of fault ≡ Decided
        → BlamesRead path source fault
    blames_none path source (File blamed) decided = absurd (cc)
    blames_none path source Memory decided = tt
    blames_none path source (OddFile odd) decided = tt
    blames_none path source (Limit kind) decided = tt
    blames_none path source (NoTree digest) decided = tt
    blames_none path source (Damaged asked found bad) decided = tt
    blames_none path source (Clash digest) decided = tt

-- ---- the whole step

pub not_judged : {W : Type 0} (ghosts : world.Ghosts W) (store digest root place : List ℕ) (fault : StoreFault)
    (old new : W)
    → IfSome (ghosts.tree old) (λ files. Checks digest (item_at files (tree_path store digest)) (Err fault))
    → BlamesAt (tree_path store digest) fault → LeavesUnchanged {A = Unit {0}} cause_of (Err fault)
    (seen ghosts old) (seen ghosts new)
    → MayMisuse (option_map (λ files. is_file_or_absent (item_at files (tree_path store digest)))
    (ghosts.tree old)) (ghosts.misused old) (ghosts.misused new)
    → lays_stored store digest root place (seen ghosts old) (Err fault) (seen ghosts new)
unfolding lays_stored
not_judged ghosts store digest root place fault old new answer blames left allows =
    ended (gets_tree store digest) (lays_kept store digest root place) (seen ghosts old) (seen ghosts new) fault
    (got ghosts store digest (Err fault) old new answer left.cause blames left.files left.runs allows
    (counted {A = Node} (Err fault) (seen ghosts old) (seen ghosts new) left.counts left.children))

pub judged_and_laid : {W : Type 0} (ghosts : world.Ghosts W) (store digest root place : List ℕ) (done : Unit {0})
    (source : Source) (after : OriginState) (old mid new : W) (result : Result (Unit {0}) StoreFault)
    → IfSome (ghosts.tree old) (λ files. Checks digest (item_at files (tree_path store digest)) (Ok done))
    → LeavesUnchanged cause_of (Ok done) (seen ghosts old) (seen ghosts mid)
    → MayMisuse (option_map (λ files. is_file_or_absent (item_at files (tree_path store digest)))
    (ghosts.tree old)) (ghosts.misused old) (ghosts.misused mid)
    → source.origin.path ≡ tree_path store digest → is_some source.origin.shelf ≡ false → IsBegun source digest
    → Leaves root source.origin (seen ghosts mid) result after (seen ghosts new)
    → ((node : Node) → fits node 0 ≡ true → Ahead source (ghosts.tree mid) (node_bytes node)
    → LaysTree root place node (seen ghosts mid) result (seen ghosts new))
    → ((node : Node) → fits node 0 ≡ true → Ahead source (ghosts.tree mid) (node_bytes node)
    → LaidPartly root (items_placed root place node) (ghosts.tree mid) (ghosts.tree new))
    → lays_stored store digest root place (seen ghosts old) result (seen ghosts new)
unfolding lays_stored
judged_and_laid ghosts store digest root place done source after old mid new result answer left allows is none begun
    leaves lays parts =
    let tree = got_some (ghosts.tree old) (tree_path store digest) digest answer in
    went (gets_tree store digest) (lays_kept store digest root place) (seen ghosts old) (seen ghosts mid)
    (seen ghosts new) tree.0 result
    (got ghosts store digest (Ok tree.0) old mid tree.1 tt tt left.files left.runs allows
    (counted (Ok tree.0) (seen ghosts old) (seen ghosts mid) left.counts left.children))
    (kept_step store digest root place tree.0 source after (seen ghosts mid) (seen ghosts new) result is none begun
    (subst (λ o. IfSome o (λ files. Gets digest (item_at files (tree_path store digest)) (Ok tree.0)))
    (sym left.files) tree.1) leaves lays parts)

-- a tree that was got whole, and written
wider_cause : (root file : List ℕ) (o : Option Tree) (cause : Cause) → IsCauseWithin root cause
    → IsKeptCause root file o cause
wider_cause root file o (FileFailed path) h = inl h
wider_cause root file o ChildFailed h = h
wider_cause root file o OutOfMemory h = tt
wider_cause root file o Decided h = absurd h

pub whole_laid : (store digest root place : List ℕ) (tree : Node) (old new : Seen)
    (result : Result (Unit {0}) StoreFault) → lays_tree root place tree old result new
    → lays_kept store digest root place tree old result new
unfolding lays_tree lays_kept
whole_laid store digest root place tree old new (Ok done) h = h
whole_laid store digest root place tree old new (Err fault) (cause, around, allows, counts, partly) =
    (wider_cause root (tree_path store digest) old.files (cause_of fault) cause, around, allows, counts, partly)

-- no path could be made of the digest
no_tree : (digest : List ℕ) (o : Option Tree) (path : List ℕ)
    → IfSome o (λ files. Gets digest (item_at files path) (Err Memory))
no_tree digest None path = tt
no_tree digest (Some files) path = by (item_at files path)
  where
    by : (found : Option Item) → Gets digest found (Err Memory)
    by None = tt
    by (Some item.Folder) = refl
    by (Some (item.Link target)) = refl
    by (Some item.Odd) = refl
    by (Some (item.File exec bytes)) = tt

may_stay : (o : Option Tree) (allows : Tree → Bool) (a : ℕ) → MayMisuse (option_map allows o) a a
may_stay None allows a = refl
may_stay (Some files) allows a = by (allows files)
  where
    by : (v : Bool) → MayMisuse (Some v) a a
    by true = refl
    by false = omega arith

pub no_path : {W : Type 0} (ghosts : world.Ghosts W) (store digest root place : List ℕ) (old : W)
    → lays_stored store digest root place (seen ghosts old) (Err Memory) (seen ghosts old)
unfolding lays_stored
no_path ghosts store digest root place old =
    ended (gets_tree store digest) (lays_kept store digest root place) (seen ghosts old) (seen ghosts old) Memory
    (got ghosts store digest (Err Memory) old old (no_tree digest (ghosts.tree old) (tree_path store digest)) tt
    tt refl refl (may_stay (ghosts.tree old) (λ files. is_file_or_absent
    (item_at files (tree_path store digest))) (ghosts.misused old)) (files_rest.memory (seen ghosts old)))
