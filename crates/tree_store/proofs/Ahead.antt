-- Calls that lay a tree as its bytes are read, one after another.
use Rattle.std.proofs.Common.{◌≡◌, ◌≤◌, ◌<◌, ◌∙◌, refl, sym, ap, subst, arith, ℕ, Bool, true, false, not, ◌&&◌, ◌⊎◌}
use Rattle.std.proofs.Common.{inl, inr, List, [], ◌∷◌, length, Option, Some, None, Result, Ok, Err}
use Rattle.std.specs.List.{list_all}
use Rattle.std.specs.Str.{bytes_eq}
use Rattle.std.proofs.lemmas.Bool.{false_from_ne_true, leb-true}
use Rattle.std.specs.Prelude.{nat_le, nat_lt, IfErr, IfOk, IfSome, IsTrue, OnOk, drop, is_ok, is_some, take}
use Rattle.std.specs.Option.{option_map}
use Rattle.cnb_world.specs.Calls.{CountsFailed, CountsMisuse, MayMisuse}
use Rattle.cnb_world.specs.Path.{is_part, is_part_byte, joined}
use Rattle.cnb_world.specs.Tree.{Tree, bytes_of, is_file, is_root, is_under, is_within, item_at}
use Rattle.cnb_world.specs.declared.world.FileFault.{FileFault}
use Rattle.cnb_world.specs.declared.world.Item.TheVariants as item
use Rattle.cnb_world.specs.declared.world.World as world
use Rattle.steps.specs.Causes.{CountsFiles}
use Rattle.steps.specs.Outside.{Seen, seen}
use Rattle.steps.specs.Reading.{LeavesUnchanged}
use Rattle.tree_canon.specs.declared.fault.Reason.{Reason}
use Rattle.tree_store.specs.Ahead.{Ahead, Did, Does, IsAhead, Lays, Reading}
use Rattle.tree_store.specs.Answers.{BlamesAt, cause_of, is_free}
use Rattle.tree_store.specs.Around.{IsMadeAbove, KeptAround, LeavesAround}
use Rattle.tree_store.specs.Right.{AreFolders}
use Rattle.tree_store.specs.declared.fault.StoreFault.{StoreFault}
use Rattle.tree_store.specs.declared.fault.StoreFault.TheVariants.{OddFile, Limit, File, NoTree, Damaged, Clash, Memory}
use Rattle.tree_store.specs.Origin.{BlamesRead, Leaves, LeavesShelf, OriginState, ReadsHeld, ReadsPiece, faults_of}
use Rattle.tree_store.specs.Origin.{found_by, found_in, held_of, held_under}
use Rattle.tree_store.specs.ShelfState.{Counted}
use Rattle.tree_store.specs.Source.{Source}
use Rattle.tree_store.proofs.Around as around
use Rattle.tree_store.proofs.Blames.{within_child, within_itself}
use Rattle.tree_store.proofs.Places.{or_parts, part_form}
use Rattle.tree_store.proofs.Ways.{when_ok}

-- ---- what lies ahead stays there, where something is laid that isn't at the file or above it

pub ahead_kept : (source : Source) (path bytes : List ℕ) (o o1 : Option Tree)
    → is_within path source.origin.path ≡ false → KeptAround path o o1 → Ahead source o bytes → Ahead source o1 bytes
unfolding KeptAround Ahead
ahead_kept source path bytes None o1 apart kept ahead = absurd ahead
ahead_kept source path bytes (Some a) None apart kept ahead = absurd kept
ahead_kept source path bytes (Some a) (Some b) apart kept ahead = found (is_some source.origin.shelf) ahead
  where
    by : IsAhead source (item_at a source.origin.path) bytes
        → (item_at b source.origin.path ≡ item_at a source.origin.path)
        ⊎ IsMadeAbove path source.origin.path a b → IsAhead source (item_at b source.origin.path) bytes
    by ahead (inl same) = subst (λ found. IsAhead source found bytes) (sym same) ahead
    by ahead (inr made) = absurd (let no : IsTrue (is_file None) = subst
        (λ found. IsTrue (is_file found)) made.before ahead.file in cc)

    found : (on_shelf : Bool)
        → IsAhead source (found_by on_shelf source.origin.path (held_of source.origin.shelf) source.digest a) bytes
        → IsAhead source (found_by on_shelf source.origin.path (held_of source.origin.shelf) source.digest b) bytes
    found true ahead = ahead
    found false ahead = by ahead (kept source.origin.path apart)

-- ---- misuse where nothing is told

pub untold_on : (path : List ℕ) (o o1 : Option Tree) (a b c : ℕ) → KeptAround path o o1
    → MayMisuse (option_map (λ files. false) o) a b → MayMisuse (option_map (λ files. false) o1) b c
    → MayMisuse (option_map (λ files. false) o) a c
unfolding KeptAround
untold_on path None None a b c kept h k = k ∙ h
untold_on path None (Some files) a b c kept h k = absurd kept
untold_on path (Some files) None a b c kept h k = absurd kept
untold_on path (Some files) (Some now) a b c kept h k = omega (arith, h, k)

pub untold_same : (o : Option Tree) (a b : ℕ) → b ≡ a → MayMisuse (option_map (λ files. false) o) a b
untold_same None a b e = e
untold_same (Some files) a b e = omega (arith, e)

pub untold_where : (o : Option Tree) (folders : List (List ℕ)) (a b : ℕ) → (AreFolders folders o → b ≡ a) → a ≤ b
    → MayMisuse (option_map (λ files. false) o) a b
unfolding AreFolders
untold_where None folders a b same le = same tt
untold_where (Some files) folders a b same le = le

pub untold_by : {T : Type 0} (o : Option Tree) (allows : Tree → Bool) (result : Result T FileFault) (a b : ℕ)
    → CountsMisuse (option_map allows o) result a b → MayMisuse (option_map (λ files. false) o) a b
untold_by None allows result a b h = h
untold_by (Some files) allows result a b h = around.never_falls (Some (allows files)) result a b h

pub untold_may : (o : Option Tree) (allows : Tree → Bool) (a b : ℕ) → MayMisuse (option_map allows o) a b
    → MayMisuse (option_map (λ files. false) o) a b
untold_may None allows a b h = h
untold_may (Some files) allows a b h = by (allows files) h
  where
    by : (v : Bool) → MayMisuse (Some v) a b → a ≤ b
    by true h = omega (arith, h)
    by false h = h

pub may_same : (o : Option Tree) (allows : Tree → Bool) (a : ℕ) → MayMisuse (option_map allows o) a a
may_same None allows a = refl
may_same (Some files) allows a = by (allows files)
  where
    by : (v : Bool) → MayMisuse (Some v) a a
    by true = refl
    by false = omega arith

-- ---- what calls leave

counts_on : {B : Type 0} (r : Result B StoreFault) (a b c : ℕ) → b ≡ a → CountsFiles cause_of r b c
    → CountsFiles cause_of r a c
counts_on r a b c same h = subst (λ n. CountsFiles cause_of r n c) same h

read_on : {B : Type 0} (r : Result B StoreFault) (path : List ℕ) (s s1 : OriginState) → s1.path ≡ s.path
    → is_some s1.shelf ≡ is_some s.shelf → IfErr r (BlamesRead path s1) → IfErr r (BlamesRead path s)
read_on (Ok v) path s s1 same shelf h = tt
read_on (Err (File blamed)) path s s1 same shelf (inl h) = inl h
read_on (Err (File blamed)) path s s1 same shelf (inr (none, h)) = inr (sym shelf ∙ none, h ∙ same)
read_on (Err (OddFile odd)) path s s1 same shelf h = tt
read_on (Err (Limit kind)) path s s1 same shelf h = tt
read_on (Err (NoTree digest)) path s s1 same shelf h = tt
read_on (Err (Damaged asked found bad)) path s s1 same shelf h = tt
read_on (Err (Clash digest)) path s s1 same shelf h = tt
read_on (Err Memory) path s s1 same shelf h = tt

calm_on : {B : Type 0} (r : Result B StoreFault) (a b c : Bool) → b ≡ a → OnOk r (c ≡ b) → OnOk r (c ≡ a)
calm_on (Ok v) a b c e h = h ∙ e
calm_on (Err fault) a b c e h = tt

shelf_on : {A B : Type 0} (s0 s1 s2 : OriginState) (v : A) (r : Result B StoreFault) → LeavesShelf s0 (Ok v) s1
    → LeavesShelf s1 r s2 → LeavesShelf s0 r s2
shelf_on s0 s1 s2 v r first next = record {
  others = next.others ∙ first.others;
  stands = next.stands ∙ first.stands;
  held = next.held ∙ first.held;
  rows = next.rows ∙ first.rows;
  calm = calm_on r s0.failed s1.failed s2.failed first.calm next.calm;
  faults = λ none. subst (λ n. Counted s2.failed n (faults_of s2.shelf))
      (still (first.calm ∙ none) (first.faults none)) (next.faults (first.calm ∙ none));
}
  where
    still : s1.failed ≡ false → Counted s1.failed (faults_of s0.shelf) (faults_of s1.shelf)
        → faults_of s1.shelf ≡ faults_of s0.shelf
    still none counted = subst (λ v. Counted v (faults_of s0.shelf) (faults_of s1.shelf)) none counted

-- another answer
pub shelf_as : {A B : Type 0} (s s1 : OriginState) (r : Result A StoreFault) (q : Result B StoreFault)
    → OnOk q (s1.failed ≡ s.failed) → LeavesShelf s r s1 → LeavesShelf s q s1
shelf_as s s1 r q calm h = record {
  others = h.others;
  stands = h.stands;
  held = h.held;
  rows = h.rows;
  calm = calm;
  faults = h.faults;
}

-- no shelf is asked
shelf_same : {A : Type 0} (s : OriginState) (r : Result A StoreFault) → LeavesShelf s r s
shelf_same {A = A} s r = record {
  others = refl;
  stands = refl;
  held = refl;
  rows = refl;
  calm = by r;
  faults = λ none. subst (λ v. Counted v (faults_of s.shelf) (faults_of s.shelf)) (sym none) refl;
}
  where
    by : (r : Result A StoreFault) → OnOk r (s.failed ≡ s.failed)
    by (Ok v) = refl
    by (Err fault) = tt

never_failed : (a b : Bool) → b ≡ a → a ≡ false → b ≡ true → ⊥
never_failed a b same none failed = let no : true ≡ false = sym failed ∙ same ∙ none in cc

pub leaves_on : {A B : Type 0} (path : List ℕ) (s0 s1 s2 : OriginState) (a b c : Seen) (v : A)
    (r : Result B StoreFault) → Leaves path s0 a (Ok v) s1 b → Leaves path s1 b r s2 c → Leaves path s0 a r s2 c
leaves_on path s0 s1 s2 a b c v r first next = record {
  stays = next.stays ∙ first.stays;
  shelf = shelf_on s0 s1 s2 v r first.shelf next.shelf;
  quiet = λ none failed. next.quiet (first.shelf.calm ∙ none) failed ∙ first.counts;
  around = around.onward path a b c first.around next.around;
  untold = untold_on path a.files b.files a.misused b.misused c.misused first.around.files first.untold next.untold;
  children = next.children ∙ first.children;
  counts = counts_on r _ _ _ first.counts next.counts;
  blames = read_on r path s0 s1 first.stays first.shelf.stands next.blames;
}

-- the first refusal ends them
pub leaves_stop : {A B : Type 0} (path : List ℕ) (s0 s1 : OriginState) (a b : Seen) (fault : StoreFault)
    → Leaves {A = A} path s0 a (Err fault) s1 b → Leaves {A = B} path s0 a (Err fault) s1 b
leaves_stop {A = A} {B = B} path s0 s1 a b fault h = record {
  stays = h.stays;
  shelf = shelf_as {A = A} {B = B} s0 s1 (Err fault) (Err fault) tt h.shelf;
  quiet = h.quiet;
  around = h.around;
  untold = h.untold;
  children =
      h.children;
  counts = h.counts;
  blames = h.blames;
}

-- another value
pub leaves_value : {A B : Type 0} (path : List ℕ) (s0 s1 : OriginState) (a b : Seen) (v : A) (w : B)
    → Leaves path s0 a (Ok v) s1 b → Leaves path s0 a (Ok w) s1 b
leaves_value path s0 s1 a b v w h = record {
  stays = h.stays;
  shelf = shelf_as s0 s1 (Ok v) (Ok w) h.shelf.calm h.shelf;
  quiet = h.quiet;
  around = h.around;
  untold = h.untold;
  children =
      h.children;
  counts = h.counts;
  blames = tt;
}

-- no call
pub leaves_ok : {A : Type 0} (path : List ℕ) (s : OriginState) (a : Seen) (v : A) → Leaves path s a (Ok v) s a
leaves_ok path s a v = record {
  stays = refl;
  shelf = shelf_same s (Ok v);
  quiet = λ none failed. absurd (never_failed s.failed s.failed refl none failed);
  around = around.itself path a;
  untold = untold_same a.files
      a.misused a.misused refl;
  children = refl;
  counts = refl;
  blames = tt;
}

pub leaves_damaged : {A : Type 0} (path : List ℕ) (s : OriginState) (a : Seen) (asked found : List ℕ)
    (bad : Option Reason) → Leaves {A = A} path s a (Err (Damaged asked found bad)) s a
leaves_damaged {A = A} path s a asked found bad = record {
  stays = refl;
  shelf = shelf_same {A = A} s (Err (Damaged asked found bad));
  quiet = λ none failed. absurd (never_failed s.failed s.failed refl none failed);
  around = around.itself path a;
  untold = untold_same a.files a.misused a.misused refl;
  children = refl;
  counts = refl;
  blames = tt;
}

pub leaves_memory : {A : Type 0} (path : List ℕ) (s : OriginState) (a : Seen) → Leaves {A = A} path s a (Err Memory) s a
leaves_memory {A = A} path s a = record {
  stays = refl;
  shelf = shelf_same {A = A} s (Err Memory);
  quiet = λ none failed. absurd (never_failed s.failed s.failed refl none failed);
  around = around.itself path a;
  untold = untold_same a.files
      a.misused a.misused refl;
  children = refl;
  counts = omega arith;
  blames = tt;
}

read_at : {A : Type 0} (path : List ℕ) (s : OriginState) (r : Result A StoreFault) → IfErr r (BlamesAt path)
    → IfErr r (BlamesRead path s)
read_at path s (Ok v) h = tt
read_at path s (Err (File blamed)) h = inl (ap (is_within path) h ∙ within_itself path)
read_at path s (Err (OddFile odd)) h = tt
read_at path s (Err (Limit kind)) h = tt
read_at path s (Err (NoTree digest)) h = tt
read_at path s (Err (Damaged asked found bad)) h = tt
read_at path s (Err (Clash digest)) h = tt
read_at path s (Err Memory) h = tt

read_file : {A : Type 0} (path : List ℕ) (s : OriginState) (r : Result A StoreFault) → is_some s.shelf ≡ false
    → IfErr r (BlamesAt s.path) → IfErr r (BlamesRead path s)
read_file path s (Ok v) none h = tt
read_file path s (Err (File blamed)) none h = inr (none, h)
read_file path s (Err (OddFile odd)) none h = tt
read_file path s (Err (Limit kind)) none h = tt
read_file path s (Err (NoTree digest)) none h = tt
read_file path s (Err (Damaged asked found bad)) none h = tt
read_file path s (Err (Clash digest)) none h = tt
read_file path s (Err Memory) none h = tt

read_short : {A : Type 0} (path : List ℕ) (s : OriginState) (r : Result A StoreFault)
    → IfErr r (λ fault. fault ≡ Memory) → IfErr r (BlamesRead path s)
read_short path s (Ok v) h = tt
read_short path s (Err fault) h = subst (BlamesRead path s) (sym h) tt

-- bytes that aren't the ones that were judged
pub leaves_broken : {A B : Type 0} (path : List ℕ) (s0 s1 : OriginState) (a b : Seen) (v : A) (asked found : List ℕ)
    (bad : Option Reason) → Leaves path s0 a (Ok v) s1 b → Leaves {A = B} path s0 a
    (Err (Damaged asked found bad)) s1 b
leaves_broken {B = B} path s0 s1 a b v asked found bad h = record {
  stays = h.stays;
  shelf = shelf_as {B = B} s0 s1 (Ok v) (Err (Damaged asked found bad)) tt h.shelf;
  quiet = h.quiet;
  around = h.around;
  untold = h.untold;
  children = h.children;
  counts = h.counts;
  blames =
      tt;
}

-- memory ran out behind calls that went well
pub leaves_short : {A B : Type 0} (path : List ℕ) (s0 s1 : OriginState) (a b : Seen) (v : A)
    → Leaves path s0 a (Ok v) s1 b → Leaves {A = B} path s0 a (Err Memory) s1 b
leaves_short {B = B} path s0 s1 a b v h = record {
  stays = h.stays;
  shelf = shelf_as {B = B} s0 s1 (Ok v) (Err Memory) tt h.shelf;
  quiet = h.quiet;
  around = h.around;
  untold = h.untold;
  children =
      h.children;
  counts = by h.counts;
  blames = tt;
}
  where
    by : b.file_faults ≡ a.file_faults → a.file_faults ≤ b.file_faults
    by e = omega (arith, e)

-- no call on files
pub leaves_local : {A : Type 0} (path : List ℕ) (s s1 : OriginState) (a : Seen) (r : Result A StoreFault)
    → s1 ≡ s → ((n : ℕ) → CountsFiles cause_of r n n) → IfErr r (BlamesRead path s) → Leaves path s a r s1 a
leaves_local path s s1 a r same counts blames = subst (λ x. Leaves path s a r x a) (sym same) (record {
  stays = refl;
  shelf = shelf_same s r;
  quiet = λ none failed. refl;
  around = around.itself path a;
  untold = untold_same a.files a.misused a.misused refl;
  children = refl;
  counts = counts a.file_faults;
  blames = blames;
})

-- ---- a piece is read

never_less : (o : Option Bool) (a b : ℕ) → MayMisuse o a b → a ≤ b
never_less None a b h = omega (arith, h)
never_less (Some true) a b h = omega (arith, h)
never_less (Some false) a b h = h

-- of the file
pub piece_file : {W : Type 0} (ghosts : world.Ghosts W) (s : OriginState) (digest : List ℕ) (at : ℕ)
    (r : Result (List ℕ) StoreFault) (old new : W)
    → is_some s.shelf ≡ false
    → IfSome (ghosts.tree old) (λ files. IfOk r (λ piece. piece
    ≡ take 65536 (drop at (bytes_of (item_at files s.path)))))
    → IfErr r (λ fault. IsTrue (is_free fault)) → IfErr r (BlamesAt s.path)
    → LeavesUnchanged cause_of r (seen ghosts old) (seen ghosts new)
    → MayMisuse (option_map (λ t. is_file (item_at t s.path)) (ghosts.tree old)) (ghosts.misused old)
    (ghosts.misused new)
    → ReadsPiece s digest at (seen ghosts old) r s (seen ghosts new)
piece_file ghosts s digest at r old new none told free blames left misused = record {
  leaves = λ path. record {
    stays = refl;
    shelf = shelf_same s r;
    quiet = λ none failed. absurd (never_failed s.failed s.failed refl none failed);
    around = record {
      files = around.kept_itself path (ghosts.tree old) (ghosts.tree new) left.files;
      runs = left.runs;
      misused = never_less (option_map (λ t. is_file (item_at t s.path)) (ghosts.tree old)) (ghosts.misused old)
          (ghosts.misused new) misused;
    };
    untold = untold_may (ghosts.tree old) (λ t. is_file (item_at t s.path)) (ghosts.misused old)
        (ghosts.misused new) misused;
    children = left.children;
    counts = left.counts;
    blames = read_file path s r none blames;
  };
  files = left.files;
  told = read (ghosts.tree old) told;
  right = subst (λ v. MayMisuse (option_map (λ t. is_file (found_by v s.path (held_of s.shelf) digest t))
      (ghosts.tree old)) (ghosts.misused old) (ghosts.misused new)) (sym none) misused;
  free = free;
}
  where
    read : (o : Option Tree) → IfSome o (λ files. IfOk r (λ piece. piece
        ≡ take 65536 (drop at (bytes_of (item_at files s.path)))))
        → IfSome o (λ files. IsTrue (is_file (found_in s digest files)) → IfOk r (λ piece. piece
        ≡ take 65536 (drop at (bytes_of (found_in s digest files)))))
    read None told = tt
    read (Some files) told = λ file. subst (λ v. IfOk r (λ piece. piece
        ≡ take 65536 (drop at (bytes_of (found_by v s.path (held_of s.shelf) digest files))))) (sym none) told

-- of what the shelf has
pub piece_held : (s s1 : OriginState) (digest : List ℕ) (at : ℕ) (r : Result (List ℕ) StoreFault) (a : Seen)
    → is_some s.shelf ≡ true
    → ReadsHeld s digest at r s1 → ReadsPiece s digest at a r s1 a
piece_held s s1 digest at r a some h = record {
  leaves = λ path. record {
    stays = h.path;
    shelf = h.shelf;
    quiet = λ none failed. refl;
    around = around.itself path a;
    untold = untold_same a.files a.misused a.misused refl;
    children = refl;
    counts = counts r h.memory;
    blames = read_short path s r h.memory;
  };
  files = refl;
  told = read a.files;
  right = may_same a.files (λ files. is_file (found_in s digest files)) a.misused;
  free = free r h.memory;
}
  where
    counts : (r : Result (List ℕ) StoreFault) → IfErr r (λ fault. fault ≡ Memory)
        → CountsFiles cause_of r a.file_faults a.file_faults
    counts (Ok v) m = refl
    counts (Err fault) m = subst (λ f. CountsFiles {A = List ℕ} cause_of (Err f) a.file_faults a.file_faults) (sym m)
        (let same : a.file_faults ≤ a.file_faults = omega arith in same)

    free : (r : Result (List ℕ) StoreFault) → IfErr r (λ fault. fault ≡ Memory)
        → IfErr r (λ fault. IsTrue (is_free fault))
    free (Ok v) m = tt
    free (Err fault) m = subst (λ f. IsTrue (is_free f)) (sym m) refl

    has : (found : Option (List ℕ)) → held_under (held_of s.shelf) digest ≡ found
        → IsTrue (is_file (option_map (λ bytes. item.File false bytes) found)) → IfOk r (λ piece. piece
        ≡ take 65536 (drop at (bytes_of (option_map (λ bytes. item.File false bytes) found))))
    has None is file = absurd (cc)
    has (Some bytes) is file = h.told bytes is

    read : (o : Option Tree) → IfSome o (λ files. IsTrue (is_file (found_in s digest files)) → IfOk r (λ piece. piece
        ≡ take 65536 (drop at (bytes_of (found_in s digest files)))))
    read None = tt
    read (Some files) = subst (λ v. IsTrue (is_file (found_by v s.path (held_of s.shelf) digest files))
        → IfOk r (λ piece. piece ≡ take 65536 (drop at (bytes_of (found_by v s.path (held_of s.shelf) digest files)))))
        (sym some) (has (held_under (held_of s.shelf) digest) refl)

-- memory ran out
pub piece_short : (s : OriginState) (digest : List ℕ) (at : ℕ) (a : Seen) → ReadsPiece s digest at a (Err Memory) s a
piece_short s digest at a = record {
  leaves = λ path. leaves_memory path s a;
  files = refl;
  told = by a.files;
  right = may_same a.files (λ files. is_file (found_in s digest files)) a.misused;
  free = refl;
}
  where
    by : (o : Option Tree) → IfSome o (λ files. IsTrue (is_file (found_in s digest files)) → Unit {0})
    by None = tt
    by (Some files) = λ file. tt

-- a call on the path
pub leaves_called : {W : Type 0} (ghosts : world.Ghosts W) (path : List ℕ) (s : OriginState)
    (answer : Result (Unit {0}) FileFault) (result : Result (Unit {0}) StoreFault) (old new : W)
    → CountsFailed answer (ghosts.file_faults old) (ghosts.file_faults new)
    → ((before now : ℕ) → CountsFailed answer before now → CountsFiles cause_of result before now)
    → IfErr result (BlamesAt path)
    → ghosts.child_faults new ≡ ghosts.child_faults old → LeavesAround path (seen ghosts old) (seen ghosts new)
    → MayMisuse (option_map (λ files. false) (ghosts.tree old)) (ghosts.misused old) (ghosts.misused new)
    → Leaves path s (seen ghosts old) result s (seen ghosts new)
leaves_called ghosts path s answer result old new counted counts blames children kept untold = record {
  stays = refl;
  shelf = shelf_same s result;
  quiet = λ none failed. absurd (never_failed s.failed s.failed refl none failed);
  around = kept;
  untold = untold;
  children = children;
  counts = counts _ _ counted;
  blames = read_at path s result blames;
}

read_wider : {A : Type 0} (folder name path : List ℕ) (s : OriginState) (r : Result A StoreFault)
    → path ≡ joined folder name → 0 < length name → IfErr r (BlamesRead path s)
    → IfErr r (BlamesRead folder s)
read_wider folder name path s (Ok v) is some h = tt
read_wider folder name path s (Err (File blamed)) is some (inl h) = inl
    (within_child folder name blamed some (ap (λ p. is_within p blamed) (sym is) ∙ h))
read_wider folder name path s (Err (File blamed)) is some (inr h) = inr h
read_wider folder name path s (Err (OddFile odd)) is some h = tt
read_wider folder name path s (Err (Limit kind)) is some h = tt
read_wider folder name path s (Err (NoTree digest)) is some h = tt
read_wider folder name path s (Err (Damaged asked found bad)) is some h = tt
read_wider folder name path s (Err (Clash digest)) is some h = tt
read_wider folder name path s (Err Memory) is some h = tt

-- what is left around a part of a folder is left around the folder
pub leaves_wider : {A : Type 0} (folder name path : List ℕ) (s0 s1 : OriginState) (a b : Seen)
    (r : Result A StoreFault) → path ≡ joined folder name → IsTrue (is_part name) → Leaves path s0 a r s1 b
    → Leaves folder s0 a r s1 b
leaves_wider folder name path s0 s1 a b r is part h = record {
  stays = h.stays;
  shelf = h.shelf;
  quiet = h.quiet;
  around = around.part_within folder name path a b is part h.around;
  untold = h.untold;
  children = h.children;
  counts = h.counts;
  blames = read_wider folder name path s0 r is (part_form name part).0 h.blames;
}

-- ---- what they do

map_twice : (o a b : Option Tree) (c1 c2 : Tree → Tree) → a ≡ option_map c1 o → b ≡ option_map c2 a
    → b ≡ option_map (λ files. c2 (c1 files)) o
map_twice None a b c1 c2 e f = f ∙ ap (option_map c2) e
map_twice (Some files) a b c1 c2 e f = f ∙ ap (option_map c2) e

pub does_on : {A B : Type 0} (P : A → Type 0) (Q : B → Type 0) (whole mid rest : List ℕ) (c1 c2 : Tree → Tree)
    (w0 w1 w2 : List (List ℕ)) (s0 s1 s2 : Source) (a b c : Seen) (v : A) (r : Result B StoreFault)
    → Does P whole mid c1 w0 w1 s0 a (Ok v) s1 b → (P v → Does Q mid rest c2 w1 w2 s1 b r s2 c)
    → Does Q whole rest (λ files. c2 (c1 files)) w0 w2 s0 a r s2 c
does_on {B = B} P Q whole mid rest c1 c2 w0 w1 w2 s0 s1 s2 a b c v r first next = record
    { so = λ ahead folders. by (first.so ahead folders) }
  where
    files : (r : Result B StoreFault) → b.files ≡ option_map c1 a.files → OnOk r (c.files ≡ option_map c2 b.files)
        → OnOk r (c.files ≡ option_map (λ files. c2 (c1 files)) a.files)
    files (Ok w) e f = map_twice a.files b.files c.files c1 c2 e f
    files (Err fault) e f = tt

    both : Did P mid c1 w1 a (Ok v) s1 b → Did Q rest c2 w2 b r s2 c → Did Q rest (λ files. c2 (c1 files)) w2 a r s2 c
    both one two = record {
      value = two.value;
      files = files r one.files two.files;
      ahead = two.ahead;
      folders =
          two.folders;
      free = two.free;
      right = two.right ∙ one.right;
    }

    by : Did P mid c1 w1 a (Ok v) s1 b → Did Q rest (λ files. c2 (c1 files)) w2 a r s2 c
    by one = both one ((next one.value).so one.ahead one.folders)

pub does_stop : {A B : Type 0} (P : A → Type 0) (Q : B → Type 0) (whole mid rest : List ℕ) (c1 c2 : Tree → Tree)
    (w0 w1 w2 : List (List ℕ)) (s0 s1 : Source) (a b : Seen) (fault : StoreFault)
    → Does P whole mid c1 w0 w1 s0 a (Err fault) s1 b → Does Q whole rest c2 w0 w2 s0 a (Err fault) s1 b
does_stop P Q whole mid rest c1 c2 w0 w1 w2 s0 s1 a b fault first = record
    { so = λ ahead folders. by (first.so ahead folders) }
  where
    by : Did P mid c1 w1 a (Err fault) s1 b → Did Q rest c2 w2 a (Err fault) s1 b
    by one = record { value = tt; files = tt; ahead = tt; folders = tt; free = one.free; right = one.right }

-- the same change told in another way
pub does_as : {A : Type 0} (Q : A → Type 0) (whole rest : List ℕ) (c1 c2 : Tree → Tree) (w0 w1 : List (List ℕ))
    (s0 s1 : Source) (a b : Seen) (r : Result A StoreFault)
    → ((files : Tree) → c1 files ≡ c2 files) → Does Q whole rest c1 w0 w1 s0 a r s1 b
    → Does Q whole rest c2 w0 w1 s0 a r s1 b
does_as {A = A} Q whole rest c1 c2 w0 w1 s0 s1 a b r same h = record { so = λ ahead folders. by (h.so ahead folders) }
  where
    mapped : (o : Option Tree) → option_map c1 o ≡ option_map c2 o
    mapped None = refl
    mapped (Some files) = ap Some (same files)

    files : (r : Result A StoreFault) → OnOk r (b.files ≡ option_map c1 a.files)
        → OnOk r (b.files ≡ option_map c2 a.files)
    files (Ok v) e = e ∙ mapped a.files
    files (Err fault) e = tt

    by : Did Q rest c1 w1 a r s1 b → Did Q rest c2 w1 a r s1 b
    by one = record {
      value = one.value;
      files = files r one.files;
      ahead = one.ahead;
      folders = one.folders;
      free = one.free;
      right = one.right;
    }

pub does_bytes : {A : Type 0} (Q : A → Type 0) (whole other rest : List ℕ) (c : Tree → Tree)
    (w0 w1 : List (List ℕ)) (s0 s1 : Source) (a b : Seen) (r : Result A StoreFault)
    → whole ≡ other → Does Q whole rest c w0 w1 s0 a r s1 b → Does Q other rest c w0 w1 s0 a r s1 b
does_bytes Q whole other rest c w0 w1 s0 s1 a b r same h = subst (λ bytes. Does Q bytes rest c w0 w1 s0 a r s1 b) same h

-- nothing ahead, nothing done
pub does_nothing : (bytes : List ℕ) (folders : List (List ℕ)) (s : Source) (a : Seen)
    → Lays bytes bytes (λ files. files) folders folders s a (Ok tt) s a
does_nothing bytes folders s a = record {
  so = λ ahead are. record
      { value = tt; files = itself a.files; ahead = ahead; folders = are; free = tt; right = refl };
}
  where
    itself : (o : Option Tree) → o ≡ option_map (λ files. files) o
    itself None = refl
    itself (Some files) = refl

pub does_memory : {A : Type 0} (Q : A → Type 0) (whole rest : List ℕ) (c : Tree → Tree) (w0 w1 : List (List ℕ))
    (s : Source) (a : Seen) → Does Q whole rest c w0 w1 s a (Err Memory) s a
does_memory Q whole rest c w0 w1 s a = record {
  so = λ ahead folders. record {
    value = tt;
    files = tt;
    ahead = tt;
    folders = tt;
    free = refl;
    right =
        refl;
  };
}

-- a refusal that comes anyway
pub does_failed : {A : Type 0} (Q : A → Type 0) (whole rest : List ℕ) (c : Tree → Tree) (w0 w1 : List (List ℕ))
    (s s1 : Source) (a b : Seen) (fault : StoreFault) → (Ahead s a.files whole → b.misused ≡ a.misused)
    → IsTrue (is_free fault) → Does Q whole rest c w0 w1 s a (Err fault) s1 b
does_failed Q whole rest c w0 w1 s s1 a b fault right free = record {
  so = λ ahead folders. record {
    value = tt;
    files = tt;
    ahead = tt;
    folders = tt;
    free = free;
    right = right
        ahead;
  };
}

-- a refusal that can't come
pub does_never : {A : Type 0} (Q : A → Type 0) (whole rest : List ℕ) (c : Tree → Tree) (w0 w1 : List (List ℕ))
    (s s1 : Source) (a b : Seen) (r : Result A StoreFault) → (Ahead s a.files whole → ⊥)
    → Does Q whole rest c w0 w1 s a r s1 b
does_never Q whole rest c w0 w1 s s1 a b r never = record { so = λ ahead folders. absurd (never ahead) }

-- no call on files
pub does_local : {A : Type 0} (Q : A → Type 0) (whole rest : List ℕ) (paths : List (List ℕ)) (s s1 : Source)
    (a : Seen) (r : Result A StoreFault) → (Ahead s a.files whole → IfOk r Q)
    → (Ahead s a.files whole → OnOk r (Ahead s1 a.files rest))
    → (Ahead s a.files whole → IfErr r (λ fault. IsTrue (is_free fault))) → Reading Q whole rest paths s a r s1 a
does_local Q whole rest paths s s1 a (Ok v) value moves free = record {
  so = λ ahead folders. record {
    value = value ahead;
    files = itself a.files;
    ahead = moves ahead;
    folders =
        folders;
    free = tt;
    right = refl;
  };
}
  where
    itself : (o : Option Tree) → o ≡ option_map (λ files. files) o
    itself None = refl
    itself (Some files) = refl
does_local Q whole rest paths s s1 a (Err fault) value moves free = record {
  so = λ ahead folders. record {
    value = tt;
    files = tt;
    ahead = tt;
    folders = tt;
    free = free ahead;
    right =
        refl;
  };
}

-- a value was read
pub does_read : {A : Type 0} (Q : A → Type 0) (v : A) (whole rest : List ℕ) (paths : List (List ℕ))
    (s s1 : Source) (a b : Seen) → b.files ≡ a.files → (Ahead s a.files whole → Q v)
    → (Ahead s a.files whole → Ahead s1 b.files rest) → (Ahead s a.files whole → b.misused ≡ a.misused)
    → Reading Q whole rest paths s a (Ok v) s1 b
does_read Q v whole rest paths s s1 a b same value moves right = record {
  so = λ ahead folders. record {
    value = value ahead;
    files = itself a.files b.files same;
    ahead = moves
        ahead;
    folders = subst (AreFolders paths) (sym same) folders;
    free = tt;
    right = right ahead;
  };
}
  where
    itself : (o o1 : Option Tree) → o1 ≡ o → o1 ≡ option_map (λ files. files) o
    itself None o1 e = e
    itself (Some files) o1 e = e

-- another value of the same bytes
pub does_value : {A B : Type 0} (P : A → Type 0) (Q : B → Type 0) (v : A) (w : B) (whole rest : List ℕ)
    (c : Tree → Tree) (w0 w1 : List (List ℕ)) (s s1 : Source) (a b : Seen) → (P v → Q w)
    → Does P whole rest c w0 w1 s a (Ok v) s1 b → Does Q whole rest c w0 w1 s a (Ok w) s1 b
does_value P Q v w whole rest c w0 w1 s s1 a b of h = record { so = λ ahead folders. by (h.so ahead folders) }
  where
    by : Did P rest c w1 a (Ok v) s1 b → Did Q rest c w1 a (Ok w) s1 b
    by one = record {
      value = of one.value;
      files = one.files;
      ahead = one.ahead;
      folders = one.folders;
      free =
          tt;
      right = one.right;
    }

-- a call on a path that isn't at the file or above it
pub does_called : (path bytes : List ℕ) (s : Source) (change : Tree → Tree) (w0 w1 : List (List ℕ))
    (answer : Result (Unit {0}) FileFault) (result : Result (Unit {0}) StoreFault) (a b : Seen)
    → is_within path s.origin.path ≡ false → OnOk answer (b.files ≡ option_map change a.files)
    → OnOk result (IsTrue (is_ok answer)) → IfErr result (λ fault. IsTrue (is_free fault))
    → LeavesAround path a b → (AreFolders w0 a.files → b.misused ≡ a.misused)
    → (b.files ≡ option_map change a.files → AreFolders w0 a.files → AreFolders w1 b.files)
    → Lays bytes bytes change w0 w1 s a result s b
does_called path bytes s change w0 w1 answer (Ok done) a b apart changed ok free kept right folders =
    let is : b.files ≡ option_map change a.files = when_ok answer ok changed in
    record {
      so = λ ahead are. record {
        value = tt;
        files = is;
        ahead = ahead_kept s path bytes a.files b.files
            apart kept.files ahead;
        folders = folders is are;
        free = tt;
        right = right are;
      };
    }
does_called path bytes s change w0 w1 answer (Err fault) a b apart changed ok free kept right folders =
    record {
      so = λ ahead are. record {
        value = tt;
        files = tt;
        ahead = tt;
        folders = tt;
        free = free;
        right =
            right are;
      };
    }

-- ---- the same with what can be seen from their facts left out

pub reads_on : {A B : Type 0} (P : A → Type 0) (Q : B → Type 0) {whole mid rest : List ℕ} {paths : List (List ℕ)}
    {s0 s1 s2 : Source} {a b c : Seen} {v : A} {r : Result B StoreFault}
    → Reading P whole mid paths s0 a (Ok v) s1 b → (P v → Reading Q mid rest paths s1 b r s2 c)
    → Reading Q whole rest paths s0 a r s2 c
reads_on P Q {whole} {mid} {rest} {paths} {s0} {s1} {s2} {a} {b} {c} {v} {r} first next = does_on P Q whole mid
    rest (λ files. files) (λ files. files) paths paths paths s0 s1 s2 a b c v r first next

pub reads_stop : {A B : Type 0} (P : A → Type 0) (Q : B → Type 0) {whole mid rest : List ℕ} {c1 c2 : Tree → Tree}
    {w0 w1 w2 : List (List ℕ)} {s0 s1 : Source} {a b : Seen} {fault : StoreFault}
    → Does P whole mid c1 w0 w1 s0 a (Err fault) s1 b → Does Q whole rest c2 w0 w2 s0 a (Err fault) s1 b
reads_stop P Q {whole} {mid} {rest} {c1} {c2} {w0} {w1} {w2} {s0} {s1} {a} {b} {fault} first = does_stop P Q whole
    mid rest c1 c2 w0 w1 w2 s0 s1 a b fault first

-- a value was read, and then something else is done
pub reads_behind : {A B : Type 0} (P : A → Type 0) (Q : B → Type 0) {whole mid rest : List ℕ} {c : Tree → Tree}
    {w0 w1 : List (List ℕ)} {s0 s1 s2 : Source} {a b d : Seen} {v : A} {r : Result B StoreFault}
    → Reading P whole mid w0 s0 a (Ok v) s1 b → (P v → Does Q mid rest c w0 w1 s1 b r s2 d)
    → Does Q whole rest c w0 w1 s0 a r s2 d
reads_behind P Q {whole} {mid} {rest} {c} {w0} {w1} {s0} {s1} {s2} {a} {b} {d} {v} {r} first next = does_on P Q
    whole mid rest (λ files. files) c w0 w0 w1 s0 s1 s2 a b d v r first next

-- the same bytes told in another way
pub reads_before : {A : Type 0} {Q : A → Type 0} {whole other rest : List ℕ} {c : Tree → Tree} {w0 w1 : List (List ℕ)}
    {s0 s1 : Source} {a b : Seen} {r : Result A StoreFault}
    → whole ≡ other → Does Q whole rest c w0 w1 s0 a r s1 b → Does Q other rest c w0 w1 s0 a r s1 b
reads_before {A} {Q} {whole} {other} {rest} {c} {w0} {w1} {s0} {s1} {a} {b} {r} same h = does_bytes Q whole other
    rest c w0 w1 s0 s1 a b r same h

-- a value was read, and then something is laid
pub lays_behind : {A : Type 0} (P : A → Type 0) {whole mid rest : List ℕ} {c : Tree → Tree}
    {w0 w1 : List (List ℕ)} {s0 s1 s2 : Source} {a b d : Seen} {v : A} {r : Result (Unit {0}) StoreFault}
    → Reading P whole mid w0 s0 a (Ok v) s1 b → (P v → Lays mid rest c w0 w1 s1 b r s2 d)
    → Lays whole rest c w0 w1 s0 a r s2 d
lays_behind P {whole} {mid} {rest} {c} {w0} {w1} {s0} {s1} {s2} {a} {b} {d} {v} {r} first next = does_on P
    (λ done. Unit {0}) whole mid rest (λ files. files) c w0 w0 w1 s0 s1 s2 a b d v r first next

pub leaves_then : {A B : Type 0} {path : List ℕ} {s0 s1 s2 : OriginState} {a b c : Seen} {v : A}
    {r : Result B StoreFault} → Leaves path s0 a (Ok v) s1 b → Leaves path s1 b r s2 c → Leaves path s0 a r s2 c
leaves_then {A} {B} {path} {s0} {s1} {s2} {a} {b} {c} {v} {r} first next = leaves_on path s0 s1 s2 a b c v r first next

-- ---- calls on a path that the file isn't within

pub plain_path : (path file : List ℕ) → is_within path file ≡ false → is_root path ≡ false
plain_path path file apart = (or_parts (is_root path) (is_under path file) apart).0

pub told_plain : (o : Option Tree) (path : List ℕ) → is_root path ≡ false → IfSome o (λ files. is_root path ≡ false)
told_plain None path plain = tt
told_plain (Some files) path plain = plain

pub none_are : (o : Option Tree) → AreFolders [] o
unfolding AreFolders
none_are None = tt
none_are (Some files) = λ q h. absurd (cc)

pub leaves_laid : {W : Type 0} (ghosts : world.Ghosts W) (path : List ℕ) (s : OriginState)
    (answer : Result (Unit {0}) FileFault) (result : Result (Unit {0}) StoreFault) (old new : W)
    (ways : List (List ℕ))
    → CountsFailed answer (ghosts.file_faults old) (ghosts.file_faults new)
    → ((before now : ℕ) → CountsFailed answer before now → CountsFiles cause_of result before now)
    → IfErr result (BlamesAt path)
    → ghosts.child_faults new ≡ ghosts.child_faults old → LeavesAround path (seen ghosts old) (seen ghosts new)
    → (AreFolders ways (ghosts.tree old) → ghosts.misused new ≡ ghosts.misused old)
    → Leaves path s (seen ghosts old) result s (seen ghosts new)
leaves_laid ghosts path s answer result old new ways counted counts blames children kept right =
    leaves_called ghosts path s answer result old new counted counts blames children kept
    (untold_where (ghosts.tree old) ways (ghosts.misused old) (ghosts.misused new) right kept.misused)

-- something is laid, and then something else
pub lays_on : {whole mid rest : List ℕ} {c1 c2 : Tree → Tree} {w0 w1 w2 : List (List ℕ)} {s0 s1 s2 : Source}
    {a b d : Seen} {r : Result (Unit {0}) StoreFault}
    → Lays whole mid c1 w0 w1 s0 a (Ok tt) s1 b → Lays mid rest c2 w1 w2 s1 b r s2 d
    → Lays whole rest (λ files. c2 (c1 files)) w0 w2 s0 a r s2 d
lays_on {whole} {mid} {rest} {c1} {c2} {w0} {w1} {w2} {s0} {s1} {s2} {a} {b} {d} {r} first next = does_on
    (λ done. Unit {0}) (λ done. Unit {0}) whole mid rest c1 c2 w0 w1 w2 s0 s1 s2 a b d tt r first (λ done. next)

pub lays_stop : {whole mid rest : List ℕ} {c1 c2 : Tree → Tree} {w0 w1 w2 : List (List ℕ)} {s0 s1 : Source}
    {a b : Seen} {fault : StoreFault}
    → Lays whole mid c1 w0 w1 s0 a (Err fault) s1 b → Lays whole rest c2 w0 w2 s0 a (Err fault) s1 b
lays_stop first = reads_stop (λ done. Unit {0}) (λ done. Unit {0}) first

pub lays_as : {whole rest : List ℕ} {c1 c2 : Tree → Tree} {w0 w1 : List (List ℕ)} {s0 s1 : Source} {a b : Seen}
    {r : Result (Unit {0}) StoreFault}
    → ((files : Tree) → c1 files ≡ c2 files) → Lays whole rest c1 w0 w1 s0 a r s1 b
    → Lays whole rest c2 w0 w1 s0 a r s1 b
lays_as {whole} {rest} {c1} {c2} {w0} {w1} {s0} {s1} {a} {b} {r} same h = does_as
    (λ done. Unit {0}) whole rest c1 c2 w0 w1 s0 s1 a b r same h

pub lays_bytes : {whole other rest : List ℕ} {c : Tree → Tree} {w0 w1 : List (List ℕ)} {s0 s1 : Source}
    {a b : Seen} {r : Result (Unit {0}) StoreFault}
    → whole ≡ other → Lays whole rest c w0 w1 s0 a r s1 b → Lays other rest c w0 w1 s0 a r s1 b
lays_bytes {whole} {other} {rest} {c} {w0} {w1} {s0} {s1} {a} {b} {r} same h = does_bytes
    (λ done. Unit {0}) whole other rest c w0 w1 s0 s1 a b r same h

pub lays_never : {whole rest : List ℕ} {c : Tree → Tree} {w0 w1 : List (List ℕ)} {s s1 : Source} {a b : Seen}
    {r : Result (Unit {0}) StoreFault} → ⊥ → Lays whole rest c w0 w1 s a r s1 b
lays_never h = absurd h

-- what isn't within a folder isn't within a part of it
pub apart_child : (folder name path file after : List ℕ) → path ≡ joined folder name → IsTrue (is_part name)
    → after ≡ file → is_within folder file ≡ false → is_within path after ≡ false
apart_child folder name path file after is part same apart = false_from_ne_true (is_within path after) (λ e.
    let no : true ≡ false = sym (within_child folder name file (part_form name part).0
    (sym (ap (λ p. is_within p file) is) ∙ sym (ap (is_within path) same) ∙ e)) ∙ apart in cc)

pub part_size : (name : List ℕ) → IsTrue (is_part name) → length name ≤ 255
part_size name part = leb-true (length name) 255
    (second (nat_lt 0 (length name)) (nat_le (length name) 255) (not (bytes_eq name (46 ∷ [])))
    (not (bytes_eq name (46 ∷ 46 ∷ []))) (list_all is_part_byte name) part)
  where
    second : (a b c d e : Bool) → IsTrue ((((a && b) && c) && d) && e) → b ≡ true
    second true true c d e h = refl
    second true false c d e h = absurd (cc)
    second false b c d e h = absurd (cc)

-- the same with other folders before
pub lays_from : {whole rest : List ℕ} {c : Tree → Tree} {w w0 w1 : List (List ℕ)} {s0 s1 : Source} {a b : Seen}
    {r : Result (Unit {0}) StoreFault}
    → (AreFolders w a.files → AreFolders w0 a.files) → Lays whole rest c w0 w1 s0 a r s1 b
    → Lays whole rest c w w1 s0 a r s1 b
lays_from given h = record { so = λ ahead are. h.so ahead (given are) }
