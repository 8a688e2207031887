-- Laying a tree that a cache holds.
use Rattle.std.proofs.Common.{◌≡◌, ◌∙◌, ◌<◌, refl, sym, ap, subst, ℕ, Bool, true, false, List, length}
use Rattle.std.proofs.Common.{inl}
use Rattle.std.proofs.Common.{inr, Some, Result, Ok, Err}
use Rattle.std.specs.Prelude.{IfErr, IsTrue, OnOk, codes, is_some}
use Rattle.std.specs.FinMap.{get}
use Rattle.std.specs.List.{slice_get}
use Rattle.std.specs.Option.{option_map}
use Rattle.cnb_world.specs.Tree.{Tree}
use Rattle.cnb_world.specs.declared.world.Item.TheVariants as item
use Rattle.steps.specs.Counts.{FileCounts}
use Rattle.steps.specs.Outside.{Seen}
use Rattle.tree_canon.specs.Fits.{fits}
use Rattle.tree_canon.specs.Spelling.{node_bytes, spelling_of}
use Rattle.tree_canon.specs.declared.node.Node.{Node}
use Rattle.tree_store.specs.Ahead.{Ahead, IsAhead, LaysTree}
use Rattle.tree_store.specs.Answers.{cause_of, is_free}
use Rattle.tree_store.specs.Held.{HoldsTree, IsHeldCause, LaysHeld, LaysSome, LaysTold, held_answer, held_end}
use Rattle.tree_store.specs.Held.{is_shelf_fault}
use Rattle.tree_store.specs.Origin.{BlamesRead, Leaves, OriginState, faults_of, found_by, found_in, held_of, held_under}
use Rattle.tree_store.specs.Origin.{of_shelf, rows_of}
use Rattle.tree_store.specs.Overlay.{tree_laid}
use Rattle.tree_store.specs.Partly.{LaidPartly, items_placed}
use Rattle.tree_store.specs.ShelfState.{Counted, Replaces, ShelfState}
use Rattle.tree_store.specs.Source.{Source}
use Rattle.tree_store.specs.Steps.{IsCauseWithin, lays_tree}
use Rattle.tree_store.specs.Taking.{LaysTaken}
use Rattle.tree_store.specs.declared.fault.StoreFault.{StoreFault}
use Rattle.tree_store.specs.declared.fault.StoreFault.TheVariants.{OddFile, Limit, File, NoTree, Damaged, Clash, Memory}
use Rattle.tree_store.specs.declared.laying_held.HeldFault.{HeldFault}
use Rattle.tree_store.specs.declared.laying_held.HeldFault.TheVariants.{Store}
use Rattle.tree_store.proofs.CountLaws.{counted}
use Rattle.tree_store.proofs.Shelves.{replaced_at, some_at, some_of}
use Rattle.tree_store.proofs.Stored.{IsBegun, file_ahead}
use Rattle.tree_store.proofs.Takes.{laid_some}

-- ---- the bytes of the shelf lie ahead

ahead_held : (s : Source) (old : List ShelfState) (at : ℕ) (before : ShelfState) (digest : List ℕ) (files : Tree)
    (tree : Node) → s.origin ≡ of_shelf old at false → slice_get old at ≡ Some before → IsBegun s digest
    → HoldsTree before digest tree → Ahead s (Some files) (node_bytes tree)
unfolding Ahead
ahead_held s old at before digest files tree is here begun holds = subst (λ found. IsAhead s found (node_bytes tree))
    (sym found) (file_ahead s digest (Some (item.File false (spelling_of tree))) tree begun
    (holds.named, record { fit = holds.fit; size = holds.size; is = refl }))
  where
    found : found_in s.origin s.digest files ≡ Some (item.File false (spelling_of tree))
    found = ap (λ o. found_in o s.digest files) is
        ∙ ap (λ x. found_by (is_some x) (codes "/") (held_of x) s.digest files) here
        ∙ ap (λ h. option_map (λ b. item.File false b) (held_under h s.digest)) holds.told
        ∙ ap (λ d. option_map (λ b. item.File false b) (get holds.held d)) begun.named
        ∙ ap (option_map (λ b. item.File false b)) holds.bytes

-- ---- what is answered

blames_held : (root : List ℕ) (origin : OriginState) (fault : StoreFault) → is_some origin.shelf ≡ true
    → BlamesRead root origin fault → IsHeldCause root (Store fault)
blames_held root origin (File blamed) some (inl h) = h
blames_held root origin (File blamed) some (inr (none, h)) = absurd (let no : true ≡ false = sym some ∙ none in cc)
blames_held root origin (OddFile odd) some h = tt
blames_held root origin (Limit kind) some h = tt
blames_held root origin (NoTree digest) some h = tt
blames_held root origin (Damaged asked found bad) some h = tt
blames_held root origin (Clash digest) some h = tt
blames_held root origin Memory some h = tt

cause_held : (root : List ℕ) (fault : StoreFault) → IsTrue (is_free fault) → IsHeldCause root (Store fault)
    → IsCauseWithin root (cause_of fault)
cause_held root (File blamed) free h = h
cause_held root Memory free h = tt
cause_held root (OddFile odd) free h = absurd (cc)
cause_held root (Limit kind) free h = absurd (cc)
cause_held root (NoTree digest) free h = absurd (cc)
cause_held root (Damaged asked found bad) free h = absurd (cc)
cause_held root (Clash digest) free h = absurd (cc)

faults_held : (failed : Bool) (laid : Result (Unit {0}) StoreFault) (a b : ℕ) → OnOk laid (failed ≡ false)
    → Counted failed a b → Counted (is_shelf_fault (held_answer failed laid)) a b
faults_held failed (Ok done) a b calm counted = subst (λ v. Counted v a b) calm counted
faults_held true (Err fault) a b calm counted = counted
faults_held false (Err fault) a b calm counted = counted

counts_held : (root : List ℕ) (failed : Bool) (laid : Result (Unit {0}) StoreFault) (s s1 : OriginState) (a b : Seen)
    → (failed ≡ true → b.file_faults ≡ a.file_faults) → Leaves root s a laid s1 b
    → FileCounts (held_end (held_answer failed laid)) a b
counts_held root failed (Ok done) s s1 a b quiet leaves = counted (Ok done) a b leaves.counts leaves.children
counts_held root true (Err fault) s s1 a b quiet leaves = record
    { ends = tt; files = quiet refl; children = leaves.children }
counts_held root false (Err fault) s s1 a b quiet leaves = counted {A = Unit {0}}
    (Err fault) a b leaves.counts leaves.children

answer_blames : (root : List ℕ) (failed : Bool) (laid : Result (Unit {0}) StoreFault) (origin : OriginState)
    → is_some origin.shelf ≡ true → IfErr laid (BlamesRead root origin)
    → IfErr (held_answer failed laid) (IsHeldCause root)
answer_blames root failed (Ok done) origin some h = tt
answer_blames root true (Err fault) origin some h = tt
answer_blames root false (Err fault) origin some h = blames_held root origin fault some h

told_held : (root : List ℕ) (tree : Node) (failed : Bool) (laid : Result (Unit {0}) StoreFault) (s s1 : OriginState)
    (a b : Seen) → is_some s.shelf ≡ true → Leaves root s a laid s1 b
    → LaysTree root (codes "/") tree a laid b
    → LaidPartly root (items_placed root (codes "/") tree) a.files b.files
    → LaysTold root tree a (held_answer failed laid) b
unfolding lays_tree
told_held root tree failed (Ok done) s s1 a b some leaves lays part =
    (lays.files, leaves.around, lays.allows, counted (Ok done) a b leaves.counts leaves.children)
told_held root tree true (Err fault) s s1 a b some leaves lays part = (part, lays.allows)
told_held root tree false (Err fault) s s1 a b some leaves lays part = (
  cause_held root fault lays.free (blames_held root s fault some leaves.blames),
  leaves.around,
  lays.allows,
  counted {A = Unit {0}} (Err fault) a b leaves.counts leaves.children,
  part,
)

some_held : (root digest : List ℕ) (failed : Bool) (laid : Result (Unit {0}) StoreFault) (s : Source) (a b : Seen)
    → IsBegun s digest → OnOk laid (LaysTaken (tree_laid root (codes "/")) s a.files b.files)
    → OnOk (held_answer failed laid) (LaysSome root digest a.files b.files)
some_held root digest failed (Ok done) s a b begun h = laid_some root digest s a.files b.files begun h
some_held root digest true (Err fault) s a b begun h = tt
some_held root digest false (Err fault) s a b begun h = tt

-- ---- the whole call

-- the shelf at a place of a list was read
pub record LaidHeld (root digest : List ℕ) (old : List ShelfState) (at : ℕ) (a : Seen)
    (result : Result (Unit {0}) HeldFault) (new : List ShelfState) (b : Seen) : Type 0 where
  pub before : ShelfState
  pub after : ShelfState
  pub replaces : Replaces old at before after new
  pub lays : LaysHeld root digest before a result after b

pub held_laid : (root digest : List ℕ) (old new : List ShelfState) (at number : ℕ) (failed : Bool) (s : Source)
    (a b : Seen) (laid : Result (Unit {0}) StoreFault) (result : Result (Unit {0}) HeldFault)
    → at < length old → s.origin ≡ of_shelf old at false → IsBegun s digest
    → Leaves root s.origin a laid (of_shelf new number failed) b
    → ((tree : Node) → fits tree 0 ≡ true → Ahead s a.files (node_bytes tree)
    → LaysTree root (codes "/") tree a laid b)
    → ((tree : Node) → fits tree 0 ≡ true → Ahead s a.files (node_bytes tree)
    → LaidPartly root (items_placed root (codes "/") tree) a.files b.files)
    → OnOk laid (LaysTaken (tree_laid root (codes "/")) s a.files b.files)
    → result ≡ held_answer failed laid → LaidHeld root digest old at a result new b
held_laid root digest old new at number failed s a b laid result lt is begun left lays partly taken answer = record {
  before = before;
  after = after;
  replaces = replaced_at old new at number before after here there leaves.shelf.others;
  lays = subst (λ r. LaysHeld root digest before a r after b) (sym answer) (record {
    held = sym (ap held_of there) ∙ leaves.shelf.held ∙ ap held_of here;
    rows = sym (ap rows_of there) ∙ leaves.shelf.rows ∙ ap rows_of here;
    faults = faults_held failed laid before.faults after.faults leaves.shelf.calm
        (subst (λ n. Counted failed n after.faults) (ap faults_of here)
        (subst (Counted failed (faults_of (slice_get old at))) (ap faults_of there) (leaves.shelf.faults refl)));
    around = leaves.around;
    counts = counts_held root failed laid (of_shelf old at false) (of_shelf new number failed) a b
        (leaves.quiet refl) leaves;
    blames = answer_blames root failed laid (of_shelf old at false) (ap is_some here) leaves.blames;
    told = λ files tree some holds.
        let ahead : Ahead s a.files (node_bytes tree) = subst (λ o. Ahead s o (node_bytes tree)) (sym some)
        (ahead_held s old at before digest files tree is here begun holds) in
        told_held root tree failed laid (of_shelf old at false) (of_shelf new number failed) a b
        (ap is_some here) leaves (lays tree holds.fit ahead) (partly tree holds.fit ahead);
    laid = some_held root digest failed laid s a b begun taken;
  });
}
  where
    leaves : Leaves root (of_shelf old at false) a laid (of_shelf new number failed) b
    leaves = subst (λ o. Leaves root o a laid (of_shelf new number failed) b) is left

    before : ShelfState
    before = (some_at old at lt).0

    here : slice_get old at ≡ Some before
    here = (some_at old at lt).1

    after : ShelfState
    after = (some_of (slice_get new number) (leaves.shelf.stands ∙ ap is_some here)).0

    there : slice_get new number ≡ Some after
    there = (some_of (slice_get new number) (leaves.shelf.stands ∙ ap is_some here)).1
