-- A shelf's turn in a search for a tree.
use Rattle.std.proofs.Common.{◌≡◌, ◌∙◌, refl, sym, ap, subst, arith, ℕ, ◌≤◌, Bool, true, false, List, [], codes, inl}
use Rattle.std.proofs.Common.{inr}
use Rattle.std.proofs.Common.{◌∷◌, ◌++◌, length, is_some, Option, Some, None, Result, Ok, Err}
use Rattle.std.specs.FinMap.{get}
use Rattle.std.specs.Option.{option_map}
use Rattle.std.specs.Prelude.{IfSome, IsTrue, OnErr, OnOk, not}
use Rattle.std.specs.Str.{bytes_eq}
use Rattle.cnb_world.specs.Calls.{CountsFailed, CountsMisuse, MayMisuse, RemovesSome, Rose}
use Rattle.cnb_world.specs.Path.{parent_of}
use Rattle.cnb_world.specs.Shelf.{Held}
use Rattle.cnb_world.specs.Tree.{IsTree, Tree, is_folder, is_root, is_within, item_at, without}
use Rattle.cnb_world.specs.declared.world.FileFault.{FileFault}
use Rattle.cnb_world.specs.declared.world.FileFault.TheVariants as file_fault
use Rattle.cnb_world.specs.declared.world.World as world
use Rattle.cnb_world.specs.declared.shelf.ShelfFault.{ShelfFault}
use Rattle.cnb_world.specs.declared.shelf.ShelfFault.TheVariants as shelf
use Rattle.steps.specs.Causes.{FilesEnd, ended_by}
use Rattle.steps.specs.Counts.{FileCounts, IsFileEnd}
use Rattle.steps.specs.Outside.{Seen, seen}
use Rattle.steps.proofs.EndLaws.{files_link, files_rest}
use Rattle.steps.specs.Steps.{Allows}
use Rattle.tree_canon.specs.Judging.{IsJudged}
use Rattle.tree_canon.specs.Spelling.{limit, spelling_of}
use Rattle.sha2.specs.Sha256.{sha256}
use Rattle.tree_canon.specs.declared.fault.Reason.{Reason}
use Rattle.tree_canon.specs.declared.judging.Judged.{Judged}
use Rattle.tree_canon.specs.declared.judging.Judged.TheVariants as judged
use Rattle.tree_canon.specs.declared.node.Node.{Node}
use Rattle.tree_canon.specs.declared.node.Node.TheVariants as node
use Rattle.tree_store.proofs.Ahead.{told_plain}
use Rattle.tree_store.proofs.Around.{itself, onward, removed, removed_right}
use Rattle.tree_store.proofs.Blames.{within_itself}
use Rattle.tree_store.proofs.CallSteps.{lay_nothing}
use Rattle.tree_store.proofs.Cleared.{can_lay_there, cleared_again, partly_removed}
use Rattle.tree_store.proofs.CountLaws.{lay_tree_counts}
use Rattle.tree_store.specs.Answers.{Blames, cause_of}
use Rattle.tree_store.specs.Around.{KeptAround, LeavesAround}
use Rattle.tree_store.specs.Held.{HoldsTree, LaysHeld}
use Rattle.tree_store.specs.Partly.{LaidPartly, items_placed}
use Rattle.tree_store.specs.Steps.{IsCauseWithin, can_lay, lays_tree}
use Rattle.tree_store.specs.declared.fault.StoreFault.{StoreFault}
use Rattle.tree_store.specs.declared.fault.StoreFault.TheVariants as store
use Rattle.tree_store.specs.declared.laying_held.HeldFault.{HeldFault}
use Rattle.tree_store.specs.declared.laying_held.HeldFault.TheVariants as held_fault
use Rattle.shelf_set.specs.Dropping.{Counted}
use Rattle.shelf_set.specs.Laying.{Clears, EndsBy, EndsFiles, EndsTold, Fits, IsRefused, LaidFiles, LaysChecked}
use Rattle.shelf_set.specs.Laying.{TakesAt, WritesWhole}
use Rattle.shelf_set.specs.Laying.{asked_as, damage_of, end_of, refused_as, tree_of}
use Rattle.shelf_set.specs.declared.ask.Checked.{Checked}
use Rattle.shelf_set.specs.declared.ask.Checked.TheVariants as checked_kind
use Rattle.shelf_set.specs.Restoring.{LaysNothing, Tells}
use Rattle.shelf_set.specs.Searching.{Asks, HoldsJudged, IsChecked}
use Rattle.shelf_set.specs.ShelfState.{ShelfState}
use Rattle.shelf_set.specs.Turns.{Replaces, is_failed}
use Rattle.shelf_set.proofs.Lists.{same_split}
use Rattle.shelf_set.specs.declared.restoring.Found.{Found}
use Rattle.shelf_set.specs.declared.restoring.Found.TheVariants as found

nothing : (w : Seen) → LaysNothing w w
nothing w = record { files = refl; misused = refl }

-- ---- turns that lay nothing

module _ (free : Bool) (digest root : List ℕ) (shelves left : List ShelfState) (at : ℕ)
    (before after : ShelfState) (w : Seen) (replaced : Replaces shelves at before after left) where
  pub turn_lacks : Asks digest (Ok None) before after → TakesAt free digest root shelves at false None left w w
  turn_lacks asks = record {
    asked = Ok None;
    before = before;
    after = after;
    replaced = replaced;
    asks = asks;
    fails = refl;
    ends = record {
      around = itself root w;
      counts = files_rest.none w;
      by = refl;
      told = λ tells fits. nothing w;
      files = λ fits. refl;
    };
  }

  pub turn_fails : Asks digest (Err shelf.Failed) before after
      → TakesAt free digest root shelves at true None left w w
  turn_fails asks = record {
    asked = Err shelf.Failed;
    before = before;
    after = after;
    replaced = replaced;
    asks = asks;
    fails = refl;
    ends = record {
      around = itself root w;
      counts = files_rest.none w;
      by = tt;
      told = λ tells fits. nothing w;
      files = λ fits. refl;
    };
  }

  pub turn_stops : Asks digest (Err shelf.Memory) before after
      → TakesAt free digest root shelves at false (Some (Err store.Memory)) left w w
  turn_stops asks = record {
    asked = Err shelf.Memory;
    before = before;
    after = after;
    replaced = replaced;
    asks = asks;
    fails = refl;
    ends = record {
      around = itself root w;
      counts = files_rest.memory w;
      by = refl;
      told = λ tells fits. (node.Folder [], lay_nothing root (codes "/") (node.Folder []) w);
      files = λ fits. tt;
    };
  }

  pub turn_damaged : (asked is : List ℕ) (bad : Option Reason)
      → Asks digest (Ok (Some (judged.Damaged asked is bad))) before after
      → TakesAt free digest root shelves at false (Some (Ok (found.Damaged asked is bad))) left w w
  turn_damaged asked is bad asks = record {
    asked = Ok (Some (judged.Damaged asked is bad));
    before = before;
    after = after;
    replaced = replaced;
    asks = asks;
    fails = refl;
    ends = record {
      around = itself root w;
      counts = files_rest.none w;
      by = refl;
      told = λ tells fits. nothing w;
      files = λ fits. refl;
    };
  }

-- ---- a tree that is written whole

whole_around : (root : List ℕ) (tree : Node) (result : Result Found StoreFault) (old new : Seen)
    → WritesWhole root tree old result new → LeavesAround root old new
unfolding lays_tree
whole_around root tree (Ok answer) old new h = h.1.1
whole_around root tree (Err fault) old new h = h.1

whole_counts : (root : List ℕ) (tree : Node) (result : Result Found StoreFault) (old new : Seen)
    → WritesWhole root tree old result new → FileCounts (ended_by cause_of result) old new
whole_counts root tree (Ok answer) old new h = lay_tree_counts root (codes "/") tree old new (Ok tt) h.1
whole_counts root tree (Err fault) old new h = lay_tree_counts root (codes "/") tree old new (Err fault) h

whole_by : (root : List ℕ) (tree : Node) (result : Result Found StoreFault) (old new : Seen)
    → WritesWhole root tree old result new → EndsBy root (Ok (Some (judged.Tree tree))) (Some result)
unfolding lays_tree
whole_by root tree (Ok answer) old new h = inl h.0
whole_by root tree (Err fault) old new h = h.0

whole_told : (root : List ℕ) (tree : Node) (result : Result Found StoreFault) (old new : Seen)
    → WritesWhole root tree old result new → EndsTold root (Some result) (Ok (Some (judged.Tree tree))) old new
whole_told root tree (Ok answer) old new h = h
whole_told root tree (Err fault) old new h = (tree, h)

whole_files : (root : List ℕ) (tree : Node) (result : Result Found StoreFault) (old new : Seen)
    → WritesWhole root tree old result new
    → EndsFiles root (Some result) (Ok (Some (judged.Tree tree))) old.files new.files
unfolding lays_tree
whole_files root tree (Ok answer) old new h = λ laid. h.1.0
whole_files root tree (Err fault) old new h = tt

pub turn_writes : (free : Bool) (digest root : List ℕ) (shelves left : List ShelfState) (at : ℕ)
    (before after : ShelfState) (tree : Node) (result : Result Found StoreFault) (old new : Seen)
    → Replaces shelves at before after left → Asks digest (Ok (Some (judged.Tree tree))) before after
    → WritesWhole root tree old result new
    → TakesAt free digest root shelves at false (Some result) left old new
turn_writes free digest root shelves left at before after tree result old new replaced asks h = record {
  asked = Ok (Some (judged.Tree tree));
  before = before;
  after = after;
  replaced = replaced;
  asks = asks;
  fails = refl;
  ends = record {
    around = whole_around root tree result old new h;
    counts = whole_counts root tree result old new h;
    by = whole_by root tree result old new h;
    told = λ tells fits. whole_told root tree result old new h;
    files = λ fits. whole_files root tree result old new h;
  };
}

-- ---- a tree that is laid in pieces

told_files : (free : Bool) (root : List ℕ) (o : Option Tree) → Fits free root o → (files : Tree) × (o ≡ Some files)
told_files free root None h = absurd h
told_files free root (Some files) h = (files, refl)

pub checked_laid : (digest root : List ℕ) (shelves left : List ShelfState) (at : ℕ) (before after : ShelfState)
    (old new : Seen) → Replaces shelves at before after left → LaysHeld root digest before old (Ok tt) after new
    → LaysChecked digest root shelves at false (Some (Ok found.Laid)) left old new
checked_laid digest root shelves left at before after old new replaced h = record {
  before = before;
  after = after;
  replaced = replaced;
  held = h.held;
  rows = h.rows;
  faults = h.faults;
  around = h.around;
  counts = h.counts;
  by = λ tree. inl refl;
  told = λ tree holds fits. let (files, is) = told_files true root old.files fits in (refl, h.told files tree is holds);
  laid = h.laid;
  cleared = λ none fits. absurd (cc);
}

refused_counts : (fault : StoreFault) (old new : Seen) → FileCounts (Some (cause_of fault)) old new
    → FileCounts (end_of (Some (refused_as fault))) old new
refused_counts (store.File path) old new h = h
refused_counts store.Memory old new h = h
refused_counts (store.Damaged asked is bad) old new h = record { ends = tt; files = h.files; children = h.children }
refused_counts (store.OddFile path) old new h = record {
  ends = tt;
  files = let e : new.file_faults ≡ old.file_faults = h.files
      in omega (arith, e);
  children = h.children;
}
refused_counts (store.Limit kind) old new h = record {
  ends = tt;
  files = let e : new.file_faults ≡ old.file_faults = h.files
      in omega (arith, e);
  children = h.children;
}
refused_counts (store.NoTree digest) old new h = record {
  ends = tt;
  files = let e : new.file_faults ≡ old.file_faults = h.files
      in omega (arith, e);
  children = h.children;
}
refused_counts (store.Clash digest) old new h = record {
  ends = tt;
  files = let e : new.file_faults ≡ old.file_faults = h.files
      in omega (arith, e);
  children = h.children;
}

refused_by : (root : List ℕ) (fault : StoreFault) (tree : Node)
    → Rattle.tree_store.specs.Held.IsHeldCause root (held_fault.Store fault)
    → EndsBy root (Ok (Some (judged.Tree tree))) (Some (refused_as fault))
refused_by root (store.File path) tree h = h
refused_by root store.Memory tree h = tt
refused_by root (store.Damaged asked is bad) tree h = inr tt
refused_by root (store.OddFile path) tree h = tt
refused_by root (store.Limit kind) tree h = tt
refused_by root (store.NoTree digest) tree h = tt
refused_by root (store.Clash digest) tree h = tt

refused_told : (root : List ℕ) (fault : StoreFault) (tree : Node) (old new : Seen)
    → lays_tree root (codes "/") tree old (Err fault) new
    → EndsTold root (Some (refused_as fault)) (Ok (Some (judged.Tree tree))) old new
unfolding lays_tree
refused_told root (store.File path) tree old new h = (tree, h)
refused_told root store.Memory tree old new h = (tree, h)
refused_told root (store.Damaged asked is bad) tree old new h = absurd h.0
refused_told root (store.OddFile path) tree old new h = absurd h.0
refused_told root (store.Limit kind) tree old new h = absurd h.0
refused_told root (store.NoTree digest) tree old new h = absurd h.0
refused_told root (store.Clash digest) tree old new h = absurd h.0

refused_laid : (digest root : List ℕ) (fault : StoreFault) (old new : Option Tree)
    → LaidFiles digest root (Some (refused_as fault)) old new
refused_laid digest root (store.File path) old new = tt
refused_laid digest root store.Memory old new = tt
refused_laid digest root (store.Damaged asked is bad) old new = tt
refused_laid digest root (store.OddFile path) old new = tt
refused_laid digest root (store.Limit kind) old new = tt
refused_laid digest root (store.NoTree given) old new = tt
refused_laid digest root (store.Clash given) old new = tt

pub checked_refused : (digest root : List ℕ) (shelves left : List ShelfState) (at : ℕ) (before after : ShelfState)
    (fault : StoreFault) (old new : Seen) → Replaces shelves at before after left
    → LaysHeld root digest before old (Err (held_fault.Store fault)) after new
    → LaysChecked digest root shelves at false (Some (refused_as fault)) left old new
checked_refused digest root shelves left at before after fault old new replaced h = record {
  before = before;
  after = after;
  replaced = replaced;
  held = h.held;
  rows = h.rows;
  faults = h.faults;
  around = h.around;
  counts = refused_counts fault old new h.counts;
  by = λ tree. refused_by root fault tree h.blames;
  told = λ tree holds fits. let (files, is) = told_files true root old.files fits
      in refused_told root fault tree old new (h.told files tree is holds);
  laid = refused_laid digest root fault old.files new.files;
  cleared = λ none fits. absurd (cc);
}

-- ---- what is at a path is removed

module _ {W : Type 0} (ghosts : world.Ghosts W) (root : List ℕ) (answer : Result (Unit {0}) FileFault) where
  same_after : (old new : W) → is_root root ≡ false
      → CountsMisuse (option_map (λ (_ : Tree). not (is_root root)) (ghosts.tree old)) answer (ghosts.misused old)
      (ghosts.misused new) → ghosts.misused new ≡ ghosts.misused old
  same_after old new plain misused = removed_right (ghosts.tree old) root answer (ghosts.misused old)
      (ghosts.misused new) misused (told_plain (ghosts.tree old) root plain)

  pub clears_all : (done : Unit {0}) (end : Option (Result Found StoreFault)) (old new : W) → is_root root ≡ false
      → answer ≡ Ok done → end ≡ None
      → OnOk answer (ghosts.tree new ≡ option_map (without root) (ghosts.tree old))
      → OnErr answer (RemovesSome (ghosts.tree old) (ghosts.tree new) root)
      → CountsFailed answer (ghosts.file_faults old) (ghosts.file_faults new)
      → ghosts.child_faults new ≡ ghosts.child_faults old → ghosts.runs new ≡ ghosts.runs old
      → CountsMisuse (option_map (λ (_ : Tree). not (is_root root)) (ghosts.tree old)) answer (ghosts.misused old)
      (ghosts.misused new) → Clears root end (seen ghosts old) (seen ghosts new)
  clears_all done end old new plain is none ok err files children runs misused = subst
      (λ e. Clears root e (seen ghosts old) (seen ghosts new)) (sym none) (record {
        around = removed ghosts root answer old new ok err runs misused;
        counts = record {
          ends = tt;
          files = subst (λ r. CountsFailed {T = Unit {0}} r (ghosts.file_faults old) (ghosts.file_faults new)) is files;
          children = children;
        };
        by = tt;
        files = subst (λ r. OnOk {T = Unit {0}} r (ghosts.tree new ≡ option_map (without root) (ghosts.tree old)))
            is ok;
        same = same_after old new plain misused;
      })

  blamed_cause : (fault : StoreFault) → Blames root file_fault.Failed fault → IsCauseWithin root (cause_of fault)
  blamed_cause (store.File path) h = subst (λ p. IsTrue (is_within root p)) (sym h) (within_itself root)
  blamed_cause store.Memory h = tt
  blamed_cause (store.OddFile path) h = absurd h
  blamed_cause (store.Limit kind) h = absurd h
  blamed_cause (store.NoTree digest) h = absurd h
  blamed_cause (store.Damaged asked is bad) h = absurd h
  blamed_cause (store.Clash digest) h = absurd h

  blamed_counts : (fault : StoreFault) (a b : ℕ) → Blames root file_fault.Failed fault → Rose a b
      → FilesEnd (Some (cause_of fault)) a b
  blamed_counts (store.File path) a b h rose = rose
  blamed_counts store.Memory a b h rose = rose.later
  blamed_counts (store.OddFile path) a b h rose = absurd h
  blamed_counts (store.Limit kind) a b h rose = absurd h
  blamed_counts (store.NoTree digest) a b h rose = absurd h
  blamed_counts (store.Damaged asked is bad) a b h rose = absurd h
  blamed_counts (store.Clash digest) a b h rose = absurd h

  blamed_ends : (fault : StoreFault) → Blames root file_fault.Failed fault → IsFileEnd (Some (cause_of fault))
  blamed_ends (store.File path) h = tt
  blamed_ends store.Memory h = tt
  blamed_ends (store.OddFile path) h = absurd h
  blamed_ends (store.Limit kind) h = absurd h
  blamed_ends (store.NoTree digest) h = absurd h
  blamed_ends (store.Damaged asked is bad) h = absurd h
  blamed_ends (store.Clash digest) h = absurd h

  pub clears_failed : (failed : FileFault) (fault : StoreFault) (old new : W) → is_root root ≡ false
      → answer ≡ Err failed → failed ≡ file_fault.Failed → Blames root file_fault.Failed fault
      → OnOk answer (ghosts.tree new ≡ option_map (without root) (ghosts.tree old))
      → OnErr answer (RemovesSome (ghosts.tree old) (ghosts.tree new) root)
      → CountsFailed answer (ghosts.file_faults old) (ghosts.file_faults new)
      → ghosts.child_faults new ≡ ghosts.child_faults old → ghosts.runs new ≡ ghosts.runs old
      → CountsMisuse (option_map (λ (_ : Tree). not (is_root root)) (ghosts.tree old)) answer (ghosts.misused old)
      (ghosts.misused new) → Clears root (Some (Err fault)) (seen ghosts old) (seen ghosts new)
  clears_failed why fault old new plain is which blames ok err files children runs misused = record {
    around = removed ghosts root answer old new ok err runs misused;
    counts = record {
      ends = blamed_ends fault blames;
      files = blamed_counts fault (ghosts.file_faults old) (ghosts.file_faults new) blames
          (subst (λ r. CountsFailed {T = Unit {0}} r (ghosts.file_faults old) (ghosts.file_faults new))
          (is ∙ ap Err which) files);
      children = children;
    };
    by = blamed_cause fault blames;
    files = subst (λ r. OnErr {T = Unit {0}} r (RemovesSome (ghosts.tree old) (ghosts.tree new) root)) is err;
    same = same_after old new plain misused;
  }

  pub clears_short : (failed : FileFault) (old new : W) → is_root root ≡ false
      → answer ≡ Err failed → failed ≡ file_fault.Memory
      → OnOk answer (ghosts.tree new ≡ option_map (without root) (ghosts.tree old))
      → OnErr answer (RemovesSome (ghosts.tree old) (ghosts.tree new) root)
      → CountsFailed answer (ghosts.file_faults old) (ghosts.file_faults new)
      → ghosts.child_faults new ≡ ghosts.child_faults old → ghosts.runs new ≡ ghosts.runs old
      → CountsMisuse (option_map (λ (_ : Tree). not (is_root root)) (ghosts.tree old)) answer (ghosts.misused old)
      (ghosts.misused new) → Clears root (Some (Err store.Memory)) (seen ghosts old) (seen ghosts new)
  clears_short why old new plain is which ok err files children runs misused = record {
    around = removed ghosts root answer old new ok err runs misused;
    counts = record {
      ends = tt;
      files = let same : ghosts.file_faults new ≡ ghosts.file_faults old = subst
          (λ r. CountsFailed {T = Unit {0}} r (ghosts.file_faults old) (ghosts.file_faults new)) (is ∙ ap Err which)
          files in omega (arith, same);
      children = children;
    };
    by = tt;
    files = subst (λ r. OnErr {T = Unit {0}} r (RemovesSome (ghosts.tree old) (ghosts.tree new) root)) is err;
    same = same_after old new plain misused;
  }

-- ---- a shelf that failed while its tree was laid

allowed : (root : List ℕ) (files : Tree) (old mid : Seen) → old.files ≡ Some files → (node : Node)
    → Allows (can_lay root (codes "/") node) old mid → can_lay root (codes "/") node files ≡ true
    → mid.misused ≡ old.misused
allowed root files old mid is node allows can = subst (λ v. MayMisuse (Some v) old.misused mid.misused) can
    (subst (λ o. MayMisuse (option_map (can_lay root (codes "/") node) o) old.misused mid.misused) is allows)

untold_never : (root : List ℕ) (files : Tree) (o o1 : Option Tree) → o ≡ Some files → o1 ≡ None
    → KeptAround root o o1 → ⊥
unfolding KeptAround
untold_never root files o o1 is none kept = subst (λ x. KeptAround root x None) is
    (subst (KeptAround root o) none kept)

link_none : (a b c : Seen) (end : Option (Result Found StoreFault)) → FileCounts None a b → FileCounts (end_of end) b c
    → FileCounts (end_of end) a c
link_none a b c end h k = files_link (end_of end) a b c h k

module _ (digest root : List ℕ) (shelves left : List ShelfState) (at : ℕ) (before after : ShelfState)
    (end : Option (Result Found StoreFault)) (old mid new : Seen) (replaced : Replaces shelves at before after left)
    (h : LaysHeld root digest before old (Err held_fault.Shelf) after mid) (clears : Clears root end mid new)
    (plain : is_root root ≡ false) (some : bytes_eq root [] ≡ false) (tree : IfSome old.files IsTree)
    (tree1 : IfSome mid.files IsTree) where
  cleared_by : (tree : Node) (end : Option (Result Found StoreFault)) → Clears root end mid new
      → EndsBy root (Err shelf.Failed) end
  cleared_by tree None c = tt
  cleared_by tree (Some (Ok answer)) c = absurd c.by
  cleared_by tree (Some (Err fault)) c = c.by

  cleared_laid : (end : Option (Result Found StoreFault)) → Clears root end mid new
      → LaidFiles digest root end old.files new.files
  cleared_laid None c = tt
  cleared_laid (Some (Ok answer)) c = absurd c.by
  cleared_laid (Some (Err fault)) c = tt

  around_all : LeavesAround root old new
  around_all = onward root old mid new h.around clears.around

  -- nothing was at the path, and nothing is left there
  cleared_files : (end : Option (Result Found StoreFault)) → Clears root end mid new → end ≡ None
      → Fits true root old.files → new.files ≡ old.files
  unfolding KeptAround
  cleared_files (Some answer) c none fits = absurd (cc)
  cleared_files None c none fits = by old.files mid.files refl refl tree tree1 h.around.files fits
    where
      by : (o o1 : Option Tree) → old.files ≡ o → mid.files ≡ o1 → IfSome o IsTree → IfSome o1 IsTree
          → KeptAround root o o1 → Fits true root o → new.files ≡ old.files
      by None o1 is e standing standing1 kept fits = absurd fits
      by (Some files) None is e standing standing1 kept fits = absurd kept
      by (Some files) (Some now) is e standing standing1 kept fits = c.files ∙ ap (option_map (without root)) e
          ∙ ap Some (cleared_again root files standing fits.0 now standing1 plain some (fits.1 refl) kept) ∙ sym is

  cleared_told : (node : Node) (files : Tree) → old.files ≡ Some files → IsTree files → HoldsTree before digest node
      → is_folder (item_at files (parent_of root)) ≡ true → item_at files root ≡ None
      → (end : Option (Result Found StoreFault)) → Clears root end mid new → FileCounts (end_of end) old new
      → EndsTold root end (Err shelf.Failed) old new
  unfolding KeptAround lays_tree
  cleared_told node files is standing holds there none None c counts = record {
    files = cleared_files None c refl (subst (Fits true root) (sym is) (there, λ free. none));
    misused = c.same ∙ allowed root files old mid is node (h.told files node is holds).1
        (can_lay_there root files standing there node plain none);
  }
  cleared_told node files is standing holds there none (Some (Ok answer)) c counts = absurd c.by
  cleared_told node files is standing holds there none (Some (Err fault)) c counts = by mid.files refl
      (h.told files node is holds)
    where
      by : (o : Option Tree) → mid.files ≡ o → LaidPartly root (items_placed root (codes "/") node) old.files mid.files
          × Allows (can_lay root (codes "/") node) old mid → IsRefused root fault old new
      by None e told = absurd (untold_never root files old.files mid.files is e h.around.files)
      by (Some now) e told = (
        node,
        (
          c.by,
          around_all,
          subst (λ n. MayMisuse (option_map (can_lay root (codes "/") node) old.files) old.misused n) (sym c.same)
              told.1,
          counts,
          subst (λ o. LaidPartly root (items_placed root (codes "/") node) o new.files) (sym is)
              (partly_removed root files standing there node now new.files plain some none
              (subst (λ o. LaidPartly root (items_placed root (codes "/") node) (Some files) o) e
              (subst (λ o. LaidPartly root (items_placed root (codes "/") node) o mid.files) is told.0))
              (subst (λ o. RemovesSome o new.files root) e c.files)),
        ),
      )

  pub checked_cleared : LaysChecked digest root shelves at true end left old new
  checked_cleared = record {
    before = before;
    after = after;
    replaced = replaced;
    held = h.held;
    rows = h.rows;
    faults = h.faults;
    around = around_all;
    counts = link_none old mid new end h.counts clears.counts;
    by = λ tree. cleared_by tree end clears;
    told = λ node holds fits. by old.files refl tree holds fits;
    laid = cleared_laid end clears;
    cleared = cleared_files end clears;
  }
    where
      by : (o : Option Tree) → old.files ≡ o → IfSome o IsTree → {node : Node} → HoldsTree before digest node
          → Fits true root o → EndsTold root end (Err shelf.Failed) old new
      by None e standing holds fits = absurd fits
      by (Some files) e standing {node} holds fits = cleared_told node files e standing holds fits.0 (fits.1 refl) end
          clears (link_none old mid new end h.counts clears.counts)

-- ---- a tree that was judged, and then laid

spelled_held : (digest bytes : List ℕ) (tree : Node) (shelf : ShelfState) → (h : Held) → shelf.held ≡ Some h
    → Some bytes ≡ get h digest → IsJudged digest bytes (judged.Tree tree) → HoldsTree shelf digest tree
spelled_held digest bytes tree shelf h told is j = record {
  held = h;
  told = told;
  bytes = sym is ∙ ap Some j.1.is;
  named = ap sha256 (sym j.1.is) ∙ j.0;
  fit = j.1.fit;
  size = subst (λ b. length b ≤ limit) j.1.is j.1.size;
}

same_places : (a b c : List ShelfState) (at : ℕ) (x y z w : ShelfState) → Replaces a at x y b → Replaces b at z w c
    → (y ≡ z) × Replaces a at x w c
same_places a b c at x y z w first next =
    let s = same_split first.front next.front y z first.back next.back (sym first.exit ∙ next.entry)
    (sym first.place ∙ next.place) in (
      s.item,
      record {
        front = first.front;
        back = first.back;
        entry = first.entry;
        place = first.place;
        exit = next.exit ∙ ap (λ f. f ++ w ∷ next.back) (sym s.front) ∙ ap (λ r. first.front ++ w ∷ r) (sym s.back);
      },
    )

-- what a turn leaves, where it is told
files_told : (root : List ℕ) (end : Option (Result Found StoreFault)) (asked : Result (Option Judged) ShelfFault)
    (old new : Seen) → EndsTold root end asked old new → EndsFiles root end asked old.files new.files
unfolding lays_tree
files_told root None asked old new h = h.files
files_told root (Some (Err fault)) asked old new h = tt
files_told root (Some (Ok answer)) (Ok None) old new h = h.files
files_told root (Some (Ok answer)) (Ok (Some (judged.Damaged a d bad))) old new h = h.files
files_told root (Some (Ok answer)) (Ok (Some (judged.Tree tree))) old new h = λ same. h.1.0
files_told root (Some (Ok answer)) (Err fault) old new h = tt

module _ (digest root : List ℕ) (shelves between left : List ShelfState) (at : ℕ) (before mid : ShelfState)
    (tree : Node) (failed : Bool) (end : Option (Result Found StoreFault)) (old new : Seen)
    (first : Replaces shelves at before mid between) (asks : Asks digest (Ok (Some (judged.Tree tree))) before mid)
    (laid : LaysChecked digest root between at failed end left old new) where
  abbrev places : (mid ≡ laid.before) × Replaces shelves at before laid.after left
  places = same_places shelves between left at before mid laid.before laid.after first laid.replaced

  after_held : laid.after.held ≡ before.held
  after_held = laid.held ∙ ap (λ (s : ShelfState). s.held) (sym places.0) ∙ asks.held

  kept_rows : laid.after.rows ≡ before.rows
  kept_rows = laid.rows ∙ ap (λ (s : ShelfState). s.rows) (sym places.0) ∙ asks.rows

  kept_faults : laid.after.faults ≡ laid.before.faults → laid.after.faults ≡ before.faults
  kept_faults counted = counted ∙ ap (λ (s : ShelfState). s.faults) (sym places.0) ∙ asks.faults

  asks_then : (v : Bool) → Counted v laid.before.faults laid.after.faults
      → Asks digest (asked_as tree v) before laid.after
  asks_then true counted = record {
    held = after_held;
    rows = kept_rows;
    faults = subst (λ n. Rose n laid.after.faults) (ap (λ (s : ShelfState). s.faults) (sym places.0) ∙ asks.faults)
        counted;
    bytes = None;
    judged = tt;
    told = unsaid before.held;
  }
    where
      unsaid : (o : Option Held) → IfSome o (λ h. Unit {0})
      unsaid None = tt
      unsaid (Some h) = tt
  asks_then false counted = record {
    held = after_held;
    rows = kept_rows;
    faults = kept_faults counted;
    bytes = asks.bytes;
    judged = asks.judged;
    told = asks.told;
  }

  fails_as : (given : Node) (v : Bool) → v ≡ is_failed (asked_as given v)
  fails_as given true = refl
  fails_as given false = refl

  holds : Tells before → HoldsTree laid.before digest tree
  holds tells = subst (λ s. HoldsTree s digest tree) places.0 (by before.held refl asks.bytes asks.judged asks.told)
    where
      by : (o : Option Held) → before.held ≡ o → (bytes : Option (List ℕ))
          → HoldsJudged digest bytes (Some (judged.Tree tree)) → IfSome o (λ h. bytes ≡ get h digest)
          → HoldsTree mid digest tree
      by None e bytes j told = absurd (let no : is_some before.held ≡ false = ap is_some e in cc)
      by (Some h) e None j told = absurd (cc)
      by (Some h) e (Some bytes) j told = spelled_held digest bytes tree mid h (asks.held ∙ e) told j

  -- a shelf that tells what it holds gave the tree that was judged
  turn_told : Tells before → TakesAt true digest root shelves at failed end left old new
  turn_told tells = record {
    asked = asked_as tree failed;
    before = before;
    after = laid.after;
    replaced = places.1;
    asks = asks_then failed laid.faults;
    fails = fails_as tree failed;
    ends = record {
      around = laid.around;
      counts = laid.counts;
      by = laid.by tree;
      told = λ tells fits. laid.told tree (holds tells) fits;
      files = λ fits. files_told root end (asked_as tree failed) old new (laid.told tree (holds tells) fits);
    };
  }

  -- of one that doesn't, what it was asked is what it gave last
  turn_untold : (given : Node) → before.held ≡ None → Asks digest (asked_as given failed) before laid.after
      → (Fits true root old.files → EndsFiles root end (asked_as given failed) old.files new.files)
      → TakesAt true digest root shelves at failed end left old new
  turn_untold given none asks files = record {
    asked = asked_as given failed;
    before = before;
    after = laid.after;
    replaced = places.1;
    asks = asks;
    fails = fails_as given failed;
    ends = record {
      around = laid.around;
      counts = laid.counts;
      by = laid.by given;
      told = λ tells fits. absurd (let no : is_some before.held ≡ false = ap is_some none in cc);
      files = files;
    };
  }

  pub turn_checked : TakesAt true digest root shelves at failed end left old new
  turn_checked = by before.held refl
    where
      untold : before.held ≡ None → (v : Bool) → failed ≡ v → (e : Option (Result Found StoreFault)) → end ≡ e
          → EndsBy root (asked_as tree v) e → LaidFiles digest root e old.files new.files
          → TakesAt true digest root shelves at failed end left old new
      untold none v is None ends h files = turn_untold tree none (asks_then failed laid.faults)
          (λ fits. subst (λ e. EndsFiles root e (asked_as tree failed) old.files new.files) (sym ends)
          (laid.cleared ends fits))
      untold none v is (Some (Err fault)) ends h files = turn_untold tree none (asks_then failed laid.faults)
          (λ fits. subst (λ e. EndsFiles root e (asked_as tree failed) old.files new.files) (sym ends) tt)
      untold none true is (Some (Ok answer)) ends h files = absurd h
      untold none false is (Some (Ok found.Laid)) ends h files = turn_untold files.tree none
          (subst (λ v. Asks digest (asked_as files.tree v) before laid.after) (sym is) (record {
            held = after_held;
            rows = kept_rows;
            faults = kept_faults (subst (λ v. Counted v laid.before.faults laid.after.faults) is laid.faults);
            bytes = Some (spelling_of files.tree);
            judged = (files.named, record { fit = files.fit; size = files.size; is = refl });
            told = subst (λ (o : Option Held). IfSome o (λ h. Some (spelling_of files.tree) ≡ get h digest)) (sym none)
                tt;
          }))
          (λ fits. subst (λ v. EndsFiles root end (asked_as files.tree v) old.files new.files) (sym is)
          (subst (λ e. EndsFiles root e (Ok (Some (judged.Tree files.tree))) old.files new.files) (sym ends)
          (λ same. files.files)))
      untold none false is (Some (Ok found.None)) ends h files = turn_untold tree none (asks_then failed laid.faults)
          (λ fits. subst (λ v. EndsFiles root end (asked_as tree v) old.files new.files) (sym is)
          (subst (λ e. EndsFiles root e (Ok (Some (judged.Tree tree))) old.files new.files) (sym ends)
          (λ same. absurd (cc))))
      untold none false is (Some (Ok (found.Damaged asked got bad))) ends h files = turn_untold tree none
          (asks_then failed laid.faults)
          (λ fits. subst (λ v. EndsFiles root end (asked_as tree v) old.files new.files) (sym is)
          (subst (λ e. EndsFiles root e (Ok (Some (judged.Tree tree))) old.files new.files) (sym ends)
          (λ same. absurd (cc))))

      by : (o : Option Held) → before.held ≡ o → TakesAt true digest root shelves at failed end left old new
      by (Some h) is = turn_told (ap is_some is)
      by None is = untold is failed refl end refl (laid.by tree) laid.laid

-- ---- what laying a tree that was judged comes to

module _ (digest root : List ℕ) (shelves left : List ShelfState) (at : ℕ) (before after : ShelfState)
    (result : Result (Unit {0}) HeldFault) (old mid : Seen) (replaced : Replaces shelves at before after left)
    (h : LaysHeld root digest before old result after mid) where
  held_as : (r : Result (Unit {0}) HeldFault) → result ≡ r → LaysHeld root digest before old r after mid
  held_as r is = subst (λ r. LaysHeld root digest before old r after mid) is h

  pub ends_laid : (done : Unit {0}) (turned : Bool) (end : Option (Result Found StoreFault)) → result ≡ Ok done
      → turned ≡ false → end ≡ Some (Ok found.Laid) → LaysChecked digest root shelves at turned end left old mid
  ends_laid done turned end is failed ended = rw (failed, ended)
      (checked_laid digest root shelves left at before after old mid replaced (held_as (Ok done) is))

  pub ends_refused : (why : HeldFault) (fault : StoreFault) (refused : Result Found StoreFault) (turned : Bool)
      (end : Option (Result Found StoreFault)) → result ≡ Err why → why ≡ held_fault.Store fault
      → refused ≡ refused_as fault → turned ≡ false → end ≡ Some refused
      → LaysChecked digest root shelves at turned end left old mid
  ends_refused why fault refused turned end is which of failed ended = rw (failed, ended ∙ ap Some of)
      (checked_refused digest root shelves left at before after fault old mid replaced
      (held_as (Err (held_fault.Store fault)) (is ∙ ap Err which)))

  pub ends_cleared : (why : HeldFault) (turned : Bool) (end : Option (Result Found StoreFault)) (new : Seen)
      → result ≡ Err why → why ≡ held_fault.Shelf → turned ≡ true → Clears root end mid new → is_root root ≡ false
      → bytes_eq root [] ≡ false → IfSome old.files IsTree → IfSome mid.files IsTree
      → LaysChecked digest root shelves at turned end left old new
  ends_cleared why turned end new is which failed clears plain some tree tree1 = rw failed
      (checked_cleared digest root shelves left at before after end old mid new replaced
      (held_as (Err held_fault.Shelf) (is ∙ ap Err which)) clears plain some tree tree1)

-- ---- turns by what a shelf was asked

-- a shelf was asked, and the tree held whole
module _ (digest root : List ℕ) (shelves left : List ShelfState) (at : ℕ) (before after : ShelfState)
    (result : Result (Option Judged) ShelfFault) (replaced : Replaces shelves at before after left)
    (asks : Asks digest result before after) where
  asks_as : (r : Result (Option Judged) ShelfFault) → result ≡ r → Asks digest r before after
  asks_as r is = subst (λ r. Asks digest r before after) is asks

  pub whole_lacks : (got : Option Judged) (w : Seen) (turned : Bool) (end : Option (Result Found StoreFault))
      → result ≡ Ok got → got ≡ None → turned ≡ false → end ≡ None
      → TakesAt false digest root shelves at turned end left w w
  whole_lacks got w turned end is none failed ended =
      rw (failed, ended) (turn_lacks false digest root shelves left at before after w replaced
      (asks_as (Ok None) (is ∙ ap Ok none)))

  pub whole_fails : (fault : ShelfFault) (w : Seen) (turned : Bool) (end : Option (Result Found StoreFault))
      → result ≡ Err fault → fault ≡ shelf.Failed → turned ≡ true → end ≡ None
      → TakesAt false digest root shelves at turned end left w w
  whole_fails fault w turned end is which failed ended =
      rw (failed, ended) (turn_fails false digest root shelves left at before after w replaced
      (asks_as (Err shelf.Failed) (is ∙ ap Err which)))

  pub whole_stops : (fault : ShelfFault) (w : Seen) (turned : Bool) (end : Option (Result Found StoreFault))
      → result ≡ Err fault → fault ≡ shelf.Memory → turned ≡ false → end ≡ Some (Err store.Memory)
      → TakesAt false digest root shelves at turned end left w w
  whole_stops fault w turned end is which failed ended =
      rw (failed, ended) (turn_stops false digest root shelves left at before after w replaced
      (asks_as (Err shelf.Memory) (is ∙ ap Err which)))

  pub whole_damaged : (got : Option Judged) (judged : Judged) (tree : Result Node Found) (damaged : Found) (w : Seen)
      (turned : Bool) (end : Option (Result Found StoreFault))
      → result ≡ Ok got → got ≡ Some judged → tree ≡ tree_of judged → tree ≡ Err damaged → turned ≡ false
      → end ≡ Some (Ok damaged) → TakesAt false digest root shelves at turned end left w w
  whole_damaged got (judged.Tree t) tree damaged w turned end is some of wrong failed ended = absurd (cc)
  whole_damaged got (judged.Damaged a d bad) tree damaged w turned end is some of wrong failed ended =
      let same : damaged ≡ found.Damaged a d bad = cc in
      rw (failed, ended ∙ ap (λ x. Some (Ok x)) same) (turn_damaged false digest root shelves left at before after w
      replaced a d bad (asks_as (Ok (Some (judged.Damaged a d bad))) (is ∙ ap Ok some)))

  pub whole_written : (got : Option Judged) (judged : Judged) (tree : Result Node Found) (node : Node)
      (written : Result Found StoreFault) (old new : Seen) (turned : Bool) (end : Option (Result Found StoreFault))
      → result ≡ Ok got → got ≡ Some judged → tree ≡ tree_of judged → tree ≡ Ok node
      → WritesWhole root node old written new → turned ≡ false → end ≡ Some written
      → TakesAt false digest root shelves at turned end left old new
  whole_written got (judged.Damaged a d bad) tree node written old new turned end is some of ok writes failed ended =
      absurd (cc)
  whole_written got (judged.Tree t) tree node written old new turned end is some of ok writes failed ended =
      let same : node ≡ t = cc in
      rw (failed, ended) (turn_writes false digest root shelves left at before after t written old new replaced
      (asks_as (Ok (Some (judged.Tree t))) (is ∙ ap Ok some))
      (subst (λ n. WritesWhole root n old written new) same writes))

-- a shelf was asked, and nothing of the tree kept
module _ (digest root : List ℕ) (shelves left : List ShelfState) (at : ℕ) (before after : ShelfState)
    (asked : Result (Option Judged) ShelfFault) (result : Result (Option Checked) ShelfFault)
    (replaced : Replaces shelves at before after left) (checked : IsChecked asked result)
    (asks : Asks digest asked before after) where
  pub pieces_lack : (got : Option Checked) (w : Seen) (turned : Bool) (end : Option (Result Found StoreFault))
      → result ≡ Ok got → got ≡ None → turned ≡ false → end ≡ None
      → TakesAt true digest root shelves at turned end left w w
  pieces_lack got w turned end is none failed ended = by asked checked asks
    where
      by : (a : Result (Option Judged) ShelfFault) → IsChecked a result → Asks digest a before after
          → TakesAt true digest root shelves at turned end left w w
      by (Ok None) c asks = rw (failed, ended) (turn_lacks true digest root shelves left at before after w
          replaced asks)
      by (Ok (Some (judged.Tree t))) c asks = absurd (cc)
      by (Ok (Some (judged.Damaged a d bad))) c asks = absurd (cc)
      by (Err fault) c asks = absurd (cc)

  pub pieces_fail : (fault : ShelfFault) (w : Seen) (turned : Bool) (end : Option (Result Found StoreFault))
      → result ≡ Err fault → fault ≡ shelf.Failed → turned ≡ true → end ≡ None
      → TakesAt true digest root shelves at turned end left w w
  pieces_fail fault w turned end is which failed ended = by asked checked asks
    where
      by : (a : Result (Option Judged) ShelfFault) → IsChecked a result → Asks digest a before after
          → TakesAt true digest root shelves at turned end left w w
      by (Ok got) c asks = absurd (cc)
      by (Err shelf.Failed) c asks = rw (failed, ended) (turn_fails true digest root shelves left at before after w
          replaced asks)
      by (Err shelf.Memory) c asks = absurd (cc)

  pub pieces_stop : (fault : ShelfFault) (w : Seen) (turned : Bool) (end : Option (Result Found StoreFault))
      → result ≡ Err fault → fault ≡ shelf.Memory → turned ≡ false → end ≡ Some (Err store.Memory)
      → TakesAt true digest root shelves at turned end left w w
  pieces_stop fault w turned end is which failed ended = by asked checked asks
    where
      by : (a : Result (Option Judged) ShelfFault) → IsChecked a result → Asks digest a before after
          → TakesAt true digest root shelves at turned end left w w
      by (Ok got) c asks = absurd (cc)
      by (Err shelf.Failed) c asks = absurd (cc)
      by (Err shelf.Memory) c asks = rw (failed, ended) (turn_stops true digest root shelves left at before after w
          replaced asks)

  pub pieces_damaged : (got : Option Checked) (is : Checked) (damage : Option Found) (damaged : Found) (w : Seen)
      (turned : Bool) (end : Option (Result Found StoreFault))
      → result ≡ Ok got → got ≡ Some is → damage ≡ damage_of is → damage ≡ Some damaged → turned ≡ false
      → end ≡ Some (Ok damaged) → TakesAt true digest root shelves at turned end left w w
  pieces_damaged got is damage damaged w turned end ok some of wrong failed ended = by asked checked asks
    where
      by : (a : Result (Option Judged) ShelfFault) → IsChecked a result → Asks digest a before after
          → TakesAt true digest root shelves at turned end left w w
      by (Ok None) c asks = absurd (cc)
      by (Ok (Some (judged.Tree t))) c asks = absurd (let one : is ≡ checked_kind.Tree = cc in
          let two : damage ≡ None = of ∙ ap damage_of one in cc)
      by (Ok (Some (judged.Damaged a d bad))) c asks =
          let one : is ≡ checked_kind.Damaged a d bad = cc in
          let two : damage ≡ Some (found.Damaged a d bad) = of ∙ ap damage_of one in
          let same : damaged ≡ found.Damaged a d bad = cc in
          rw (failed, ended ∙ ap (λ x. Some (Ok x)) same) (turn_damaged true digest root shelves left at before after w
          replaced a d bad asks)
      by (Err fault) c asks = absurd (cc)

  pub pieces_laid : (got : Option Checked) (is : Checked) (damage : Option Found) (left2 : List ShelfState)
      (turned : Bool) (end : Option (Result Found StoreFault)) (old new : Seen)
      → result ≡ Ok got → got ≡ Some is → damage ≡ damage_of is → damage ≡ None
      → LaysChecked digest root left at turned end left2 old new
      → TakesAt true digest root shelves at turned end left2 old new
  pieces_laid got is damage left2 turned end old new ok some of none laid = by asked checked asks
    where
      by : (a : Result (Option Judged) ShelfFault) → IsChecked a result → Asks digest a before after
          → TakesAt true digest root shelves at turned end left2 old new
      by (Ok None) c asks = absurd (cc)
      by (Ok (Some (judged.Tree t))) c asks = turn_checked digest root shelves left left2 at before after t turned end
          old new replaced asks laid
      by (Ok (Some (judged.Damaged a d bad))) c asks = absurd (let one : is ≡ checked_kind.Damaged a d bad = cc in
          let two : damage ≡ Some (found.Damaged a d bad) = of ∙ ap damage_of one in cc)
      by (Err fault) c asks = absurd (cc)
