-- Calls that write a tree's file in pieces, one after another.
use Rattle.std.proofs.Common.{inl, inr, ◌≡◌, ◌≤◌, ◌<◌, ◌∙◌, refl, sym, ap, subst, arith, ℕ, Bool, true, false, cond}
use Rattle.std.proofs.Common.{◌++◌, List}
use Rattle.std.proofs.Common.{[], append-nil, append_assoc, ◌+◌, ◌-◌, drop, take, length, Option, Some, None, Result}
use Rattle.std.proofs.Common.{Ok, Err}
use Rattle.std.specs.Prelude.{is_ok, nat_le, IfErr, IfOk, IfSome, IsTrue, OnOk, OnErr, codes}
use Rattle.std.specs.Option.{option_map}
use Rattle.std.specs.FinMap.{get}
use Rattle.std.proofs.Math.Seq.{take-add}
use Rattle.sha2.specs.Hashers.{Holds256}
use Rattle.cnb_world.specs.Calls.{CountsFailed, CountsMisuse, LastFailed, MayMisuse}
use Rattle.cnb_world.specs.Tree.{Tree, appended, can_create, can_make_folder, can_read, created, folder_made, is_file}
use Rattle.cnb_world.specs.Tree.{is_file_or_absent, is_folder, is_root, item_at}
use Rattle.cnb_world.specs.declared.world.FileFault.{FileFault}
use Rattle.cnb_world.specs.declared.world.Item.TheVariants as item
use Rattle.cnb_world.specs.declared.world.World as world
use Rattle.cnb_world.specs.Path.{is_part, is_path, joined}
use Rattle.cnb_world.proofs.Folders.{folder_stands, get-folder_made_longer}
use Rattle.cnb_world.proofs.Joins.{parent_of_file}
use Rattle.cnb_world.proofs.Trees.{get-insert_same, misuse_extends}
use Rattle.std.proofs.lemmas.Bool.{and_from, and_parts}
use Rattle.steps.specs.Causes.{CountsFiles, Decided, FilesBy, IsReadCause}
use Rattle.steps.specs.Outside.{Seen, seen}
use Rattle.steps.specs.Reading.{LeavesUnchanged}
use Rattle.tree_store.specs.Answers.{BlamesAt, BlamesEither, BlamesWithin, cause_of, is_free, is_odd_file}
use Rattle.tree_store.specs.Around.{KeptAround, LeavesAround}
use Rattle.tree_store.specs.Reading.{room}
use Rattle.tree_canon.specs.Spelling.{limit}
use Rattle.cnb_world.specs.declared.limits.LimitKind.TheVariants.{Tree as TreeLimit}
use Rattle.tree_store.specs.Target.{AppendsTo, AsTold, BlamesTarget, HasGone, KeepsTarget, LeavesFiles, LeavesOthers}
use Rattle.tree_store.specs.Target.{LeavesTarget, Receiver}
use Rattle.tree_store.specs.Target.{StaysTarget, TargetState, ToFile, ToShelves, shelf_of}
use Rattle.tree_store.specs.Writing.{Added, HasWritten, KeptFile, LeavesButFile, LeavesNew, WriterState, begun_with}
use Rattle.tree_store.specs.Writing.{can_begin, new_path, trees_of}
use Rattle.tree_store.specs.declared.fault.StoreFault.{StoreFault}
use Rattle.tree_store.specs.declared.fault.StoreFault.TheVariants.{OddFile, Limit, File, NoTree, Damaged, Clash, Memory}
use Rattle.tree_store.proofs.Around as around
use Rattle.tree_store.proofs.Apart.{keeps_made_above}
use Rattle.tree_store.proofs.Blames.{at_within, blames_at, blames_file, blames_wider, names_none, part_within}
use Rattle.tree_store.proofs.Caches.{each_then}
use Rattle.tree_store.proofs.Kept.{may_begin}
use Rattle.tree_store.proofs.NewPlace.{place_itself, place_on}
use Rattle.tree_store.proofs.Pieces.{appended-set}
use Rattle.tree_store.proofs.Places.{child_not_root, longer_child, part_form}
use Rattle.tree_store.proofs.Right.{right}
use Rattle.tree_store.proofs.Ways.{when_ok}

-- ---- what calls leave

counts_on : {B : Type 0} (r : Result B StoreFault) (a b c : ℕ) → b ≡ a → CountsFiles cause_of r b c
    → CountsFiles cause_of r a c
counts_on r a b c same h = subst (λ n. CountsFiles cause_of r n c) same h

pub others_then : {A B : Type 0} {file : List ℕ} {a b c : Seen} {v : A} {r : Result B StoreFault}
    → LeavesButFile file a (Ok v) b → LeavesButFile file b r c → LeavesButFile file a r c
others_then {file = file} {a} {b} {c} {r = r} first next = record {
  around = around.onward file a b c first.around next.around;
  place = place_on file a.files b.files c.files first.place next.place;
  children = next.children ∙ first.children;
  counts = counts_on r _ _ _ first.counts next.counts;
  cause = next.cause;
}

-- the first refusal ends them
pub others_stop : {A B : Type 0} {file : List ℕ} {a b : Seen} {fault : StoreFault}
    → LeavesButFile {A = A} file a (Err fault) b → LeavesButFile {A = B} file a (Err fault) b
others_stop h = record { around = h.around; place = h.place; children = h.children; counts = h.counts; cause = h.cause }

-- another value
pub others_value : {A B : Type 0} {file : List ℕ} {a b : Seen} {v : A} (w : B) → LeavesButFile file a (Ok v) b
    → LeavesButFile file a (Ok w) b
others_value w h = record { around = h.around; place = h.place; children = h.children; counts = h.counts; cause = tt }

-- no call on files
pub others_local : {A : Type 0} (file : List ℕ) (a : Seen) (r : Result A StoreFault)
    → ((n : ℕ) → CountsFiles cause_of r n n) → LeavesButFile file a r a
others_local {A} file a r counts = record {
  around = around.itself file a;
  place = place_itself file a.files
      a.files refl;
  children = refl;
  counts = counts a.file_faults;
  cause = names_none A r a.failed_at counts;
}

-- a call that reads
pub others_read : {A : Type 0} (file : List ℕ) {a b : Seen} {r : Result A StoreFault} → LeavesUnchanged cause_of r a b
    → a.misused ≤ b.misused → LeavesButFile file a r b
others_read file {a} {b} h m = record {
  around = record
      { files = around.kept_itself file a.files b.files h.files; runs = h.runs; misused = m };
  place = place_itself
      file a.files b.files h.files;
  children = h.children;
  counts = h.counts;
  cause = h.cause;
}

-- a call at the path
pub others_called : {W : Type 0} (ghosts : world.Ghosts W) (file path : List ℕ)
    (answer : Result (Unit {0}) FileFault) (result : Result (Unit {0}) StoreFault) (old new : W)
    → LeavesAround file (seen ghosts old) (seen ghosts new) → KeptFile file (ghosts.tree old) (ghosts.tree new)
    → ghosts.child_faults new ≡ ghosts.child_faults old → CountsFailed answer (ghosts.file_faults old)
    (ghosts.file_faults new) → LastFailed path answer (ghosts.failed_at old) (ghosts.failed_at new)
    → ((before now : ℕ) → CountsFailed answer before now → CountsFiles cause_of result before now)
    → ((before now : Option (List ℕ)) → LastFailed path answer before now
    → IfErr result (λ fault. IsReadCause now (cause_of fault)))
    → LeavesButFile file (seen ghosts old) result (seen ghosts new)
others_called ghosts file path answer result old new kept place children counted failed counts cause = record
    { around = kept; place = place; children = children; counts = counts _ _ counted; cause = cause _ _ failed }

-- no call fails
no_blame : {A : Type 0} (path file : List ℕ) (r : Result A StoreFault) → ((n : ℕ) → CountsFiles cause_of r n n)
    → IfErr r (BlamesEither path file)
no_blame path file (Ok value) h = tt
no_blame path file (Err (File failed)) h = let rose = h 0 in let up = rose.up in absurd (omega arith)
no_blame path file (Err (OddFile odd)) h = tt
no_blame path file (Err (Limit kind)) h = tt
no_blame path file (Err (NoTree digest)) h = tt
no_blame path file (Err (Damaged asked found bad)) h = tt
no_blame path file (Err (Clash digest)) h = tt
no_blame path file (Err Memory) h = tt

no_blame_within : {A : Type 0} (path : List ℕ) (r : Result A StoreFault) → ((n : ℕ) → CountsFiles cause_of r n n)
    → IfErr r (BlamesWithin path)
no_blame_within path (Ok value) h = tt
no_blame_within path (Err (File failed)) h = let rose = h 0 in let up = rose.up in absurd (omega arith)
no_blame_within path (Err (OddFile odd)) h = tt
no_blame_within path (Err (Limit kind)) h = tt
no_blame_within path (Err (NoTree digest)) h = tt
no_blame_within path (Err (Damaged asked found bad)) h = tt
no_blame_within path (Err (Clash digest)) h = tt
no_blame_within path (Err Memory) h = tt

at_if : {A : Type 0} (path : List ℕ) (r : Result A StoreFault) → IfErr r (BlamesAt path) → IfErr r (BlamesWithin path)
at_if path (Ok value) h = tt
at_if path (Err fault) h = at_within path fault h

-- two answers that are counted and told alike
record CountsSame {A B : Type 0} (r : Result A StoreFault) (q : Result B StoreFault) : Type 0 where
  counts : (x y : ℕ) → CountsFiles cause_of r x y → CountsFiles cause_of q x y
  cause : (last : Option (List ℕ)) → IfErr r (λ fault. IsReadCause last (cause_of fault))
      → IfErr q (λ fault. IsReadCause last (cause_of fault))

same_value : {A B : Type 0} (v : A) (w : B) → CountsSame {A = A} {B = B} (Ok v) (Ok w)
same_value v w = record { counts = λ x y h. h; cause = λ last h. h }

same_refusal : (A B : Type 0) (fault : StoreFault) → CountsSame {A = A} {B = B} (Err fault) (Err fault)
same_refusal A B fault = record { counts = λ x y h. h; cause = λ last h. h }

-- ---- the same where the bytes may go to shelves

files_then : {A B : Type 0} {a b c : Seen} {v : A} {r : Result B StoreFault} → LeavesFiles a (Ok v) b
    → LeavesFiles b r c → LeavesFiles a r c
files_then {r = r} first next = record {
  files = next.files ∙ first.files;
  runs = next.runs ∙ first.runs;
  misused = omega (arith, first.misused, next.misused);
  children = next.children ∙ first.children;
  counts = counts_on r _ _ _ first.counts next.counts;
  cause = next.cause;
}

others_as : {A B : Type 0} (t : TargetState) (a b : Seen) {r : Result A StoreFault} {q : Result B StoreFault}
    → CountsSame r q → LeavesOthers t a r b → LeavesOthers t a q b
others_as (ToFile p) a b same h = record {
  around = h.around;
  place = h.place;
  children = h.children;
  counts = same.counts _ _ h.counts;
  cause = same.cause _ h.cause;
}
others_as (ToShelves d rs fs) a b same h = record {
  files = h.files;
  runs = h.runs;
  misused = h.misused;
  children = h.children;
  counts = same.counts _ _ h.counts;
  cause = same.cause _ h.cause;
}

pub files_local : {A : Type 0} (a : Seen) (r : Result A StoreFault) → ((n : ℕ) → CountsFiles cause_of r n n)
    → LeavesFiles a r a
files_local {A} a r counts = record {
  files = refl;
  runs = refl;
  misused = omega arith;
  children = refl;
  counts = counts a.file_faults;
  cause = names_none A r a.failed_at counts;
}

no_call : {A : Type 0} (t : TargetState) (a : Seen) (r : Result A StoreFault)
    → ((n : ℕ) → CountsFiles cause_of r n n) → LeavesOthers t a r a
no_call (ToFile p) a r counts = others_local p a r counts
no_call (ToShelves d rs fs) a r counts = files_local a r counts

blames_none : {A : Type 0} (path : List ℕ) (t : TargetState) (r : Result A StoreFault)
    → ((n : ℕ) → CountsFiles cause_of r n n) → IfErr r (BlamesTarget path t)
blames_none path (ToFile p) r counts = no_blame path p r counts
blames_none path (ToShelves d rs fs) r counts = no_blame_within path r counts

pub told_then : (a b c : Receiver) → AsTold a b → AsTold b c → AsTold a c
told_then a b c h k = (k.0 ∙ h.0, k.1 ∙ h.1)

stays_then : (t0 t1 t2 : TargetState) → KeepsTarget t0 t1 → KeepsTarget t1 t2 → KeepsTarget t0 t2
stays_then t0 t1 t2 (inl same) k = subst (λ t. KeepsTarget t t2) same k
stays_then t0 t1 t2 (inr h) (inl same) = inr (subst (StaysTarget t0) (sym same) h)
stays_then t0 t1 t2 (inr h) (inr k) = inr (both t0 t1 t2 h k)
  where
    both : (t0 t1 t2 : TargetState) → StaysTarget t0 t1 → StaysTarget t1 t2 → StaysTarget t0 t2
    both (ToFile p) (ToFile q) (ToFile s) h k = k ∙ h
    both (ToFile p) (ToFile q) (ToShelves d rs fs) h k = absurd k
    both (ToFile p) (ToShelves d rs fs) t2 h k = absurd h
    both (ToShelves d rs fs) (ToFile q) t2 h k = absurd h
    both (ToShelves d rs fs) (ToShelves e ss gs) (ToFile q) h k = absurd k
    both (ToShelves d rs fs) (ToShelves e ss gs) (ToShelves f us hs) h k = (
      k.0 ∙ h.0,
      each_then shelf_of AsTold AsTold AsTold (λ a b t. t) told_then fs gs hs rs ss us h.1 k.1,
    )

-- a file stays the same
pub same_file : (path other : List ℕ) → KeepsTarget (ToFile path) (ToFile other) → other ≡ path
same_file path other (inl same) = file_path same
  where
    file_path : ToFile other ≡ ToFile path → other ≡ path
    file_path e = cc
same_file path other (inr same) = same

onward : {A B : Type 0} (path : List ℕ) (t0 t1 : TargetState) (a b c : Seen) (v : A) (r : Result B StoreFault)
    → KeepsTarget t0 t1 → LeavesOthers t0 a (Ok v) b → LeavesOthers t1 b r c → IfErr r (BlamesTarget path t1)
    → LeavesOthers t0 a r c × IfErr r (BlamesTarget path t0)
onward path t0 t1 a b c v r stays first next blames = by stays
  where
    from : (t : TargetState) → LeavesOthers t a (Ok v) b → LeavesOthers t b r c → LeavesOthers t a r c
    from (ToFile p) first next = others_then first next
    from (ToShelves d rs fs) first next = files_then first next

    moved : (t0 t1 : TargetState) → StaysTarget t0 t1 → LeavesOthers t0 a (Ok v) b → LeavesOthers t1 b r c
        → IfErr r (BlamesTarget path t1) → LeavesOthers t0 a r c × IfErr r (BlamesTarget path t0)
    moved (ToFile p) (ToFile q) same first next blames = (
      others_then first (subst (λ f. LeavesButFile f b r c) same next),
      subst (λ f. IfErr r (BlamesEither path f)) same blames,
    )
    moved (ToFile p) (ToShelves d rs fs) same first next blames = absurd same
    moved (ToShelves d rs fs) (ToFile q) same first next blames = absurd same
    moved (ToShelves d rs fs) (ToShelves e ss gs) same first next blames = (files_then first next, blames)

    by : KeepsTarget t0 t1 → LeavesOthers t0 a r c × IfErr r (BlamesTarget path t0)
    by (inl same) = (
      from t0 first (subst (λ t. LeavesOthers t b r c) same next),
      subst (λ t. IfErr r (BlamesTarget path t)) same blames,
    )
    by (inr moves) = moved t0 t1 moves first next blames

pub leaves_then : {A B : Type 0} {path : List ℕ} {s0 s1 s2 : WriterState} {a b c : Seen} {v : A}
    {r : Result B StoreFault} → LeavesNew path s0 a (Ok v) s1 b → LeavesNew path s1 b r s2 c
    → LeavesNew path s0 a r s2 c
leaves_then {path = path} {s0} {s1} {s2} {a} {b} {c} {v} {r} first next =
    let on = onward path s0.target s1.target a b c v r first.stays first.others next.others next.blames in record {
      stays = stays_then s0.target s1.target s2.target first.stays next.stays;
      others = on.0;
      blames = on.1;
    }

pub leaves_stop : {A B : Type 0} {path : List ℕ} {s0 s1 : WriterState} {a b : Seen} {fault : StoreFault}
    → LeavesNew {A = A} path s0 a (Err fault) s1 b → LeavesNew {A = B} path s0 a (Err fault) s1 b
leaves_stop {A} {B} {s0 = s0} {a = a} {b} {fault = fault} h = record {
  stays = h.stays;
  others = others_as s0.target a b (same_refusal A B fault) h.others;
  blames = h.blames;
}

pub leaves_value : {A B : Type 0} {path : List ℕ} {s0 s1 : WriterState} {a b : Seen} {v : A} (w : B)
    → LeavesNew path s0 a (Ok v) s1 b → LeavesNew path s0 a (Ok w) s1 b
leaves_value {s0 = s0} {a = a} {b} {v = v} w h = record {
  stays = h.stays;
  others = others_as s0.target a b (same_value v w) h.others;
  blames = tt;
}

-- what a target leaves
pub leaves_at : {A : Type 0} {path : List ℕ} (s s1 : WriterState) {a b : Seen} {r : Result A StoreFault}
    → LeavesTarget path s.target a r s1.target b → LeavesNew path s a r s1 b
leaves_at s s1 h = record { stays = h.stays; others = h.others; blames = h.blames }

-- no call on files
pub leaves_local : {A : Type 0} (path : List ℕ) (s s1 : WriterState) (a : Seen) (r : Result A StoreFault)
    → s1.target ≡ s.target → ((n : ℕ) → CountsFiles cause_of r n n) → LeavesNew path s a r s1 a
leaves_local path s s1 a r stays counts = record {
  stays = inl stays;
  others = no_call s.target a r counts;
  blames = blames_none path s.target r counts;
}

pub odd_counts : (A : Type 0) (path : List ℕ) (fault : StoreFault) → is_odd_file path fault → (n : ℕ)
    → CountsFiles {A = A} cause_of (Err fault) n n
odd_counts A path (OddFile odd) h n = refl
odd_counts A path Memory h n = omega arith
odd_counts A path (File blamed) h n = absurd h
odd_counts A path (Limit kind) h n = absurd h
odd_counts A path (NoTree digest) h n = absurd h
odd_counts A path (Damaged asked found bad) h n = absurd h
odd_counts A path (Clash digest) h n = absurd h

pub leaves_memory : {A : Type 0} (path : List ℕ) (s s1 : WriterState) (a : Seen) → s1.target ≡ s.target
    → LeavesNew {A = A} path s a (Err Memory) s1 a
leaves_memory {A} path s s1 a stays = leaves_local {A = A} path s s1 a (Err Memory) stays (λ n. omega arith)

pub others_memory : {A : Type 0} (file : List ℕ) (a : Seen) → LeavesButFile {A = A} file a (Err Memory) a
others_memory {A} file a = others_local {A = A} file a (Err Memory) (λ n. omega arith)

pub leaves_odd : {A : Type 0} (path : List ℕ) (s : WriterState) (a : Seen) (odd : List ℕ) (fault : StoreFault)
    → is_odd_file odd fault → LeavesNew {A = A} path s a (Err fault) s a
leaves_odd {A} path s a odd fault h = leaves_local {A = A} path s s a (Err fault) refl (odd_counts A odd fault h)

-- no room
room_counts : (n : ℕ) (fault : StoreFault) → Err fault ≡ room n → cause_of fault ≡ Decided
room_counts n fault e = by (nat_le n limit) e
  where
    by : (v : Bool) → Err fault ≡ cond v (Ok n) (Err (Limit TreeLimit)) → cause_of fault ≡ Decided
    by true e = absurd (cc)
    by false e = let same : fault ≡ Limit TreeLimit = cc in ap cause_of same

pub leaves_room : {A : Type 0} (path : List ℕ) (s : WriterState) (a : Seen) (n : ℕ) (fault : StoreFault)
    → Err fault ≡ room n → LeavesNew {A = A} path s a (Err fault) s a
leaves_room {A} path s a n fault e = leaves_local {A = A} path s s a (Err fault) refl
    (λ m. subst (λ cause. FilesBy cause m m) (sym (room_counts n fault e)) refl)

-- a call that reads
pub leaves_reading : {A : Type 0} (path : List ℕ) (s : WriterState) {a b : Seen} {r : Result A StoreFault}
    → LeavesUnchanged cause_of r a b → a.misused ≤ b.misused → IfErr r (BlamesAt path) → LeavesNew path s a r s b
leaves_reading {A} path s {a} {b} {r} left rises blames = record {
  stays = inl refl;
  others = others s.target;
  blames = blamed s.target;
}
  where
    others : (t : TargetState) → LeavesOthers t a r b
    others (ToFile p) = others_read p left rises
    others (ToShelves d rs fs) = record {
      files = left.files;
      runs = left.runs;
      misused = rises;
      children = left.children;
      counts = left.counts;
      cause = left.cause;
    }

    blamed : (t : TargetState) → IfErr r (BlamesTarget path t)
    blamed (ToFile p) = blames_at path p r blames
    blamed (ToShelves d rs fs) = at_if path r blames

-- ---- what was written

begun_stands : (store bytes : List ℕ) (files : Tree) → IsTrue (can_read (begun_with store bytes files) (new_path store))
begun_stands store bytes files = by (is_root (new_path store))
    (child_not_root (trees_of store) (codes "new") (omega arith))
  where
    by : (v : Bool) → v ≡ false → IsTrue (is_file
        (cond v (Some item.Folder) (get (begun_with store bytes files) (new_path store))))
    by true e = absurd (cc)
    by false e = ap is_file (get-insert_same _ (new_path store) (item.File false bytes))

-- bytes were held
pub written_held : (store bytes more : List ℕ) (before now : Option Tree) (s s1 : WriterState) → s1.target ≡ s.target
    → s1.piece ≡ s.piece ++ more → ((taken : List ℕ) → Holds256 s.hasher taken → Holds256 s1.hasher (taken ++ more))
    → HasWritten store before s bytes now → HasWritten store before s1 (bytes ++ more) now
written_held store bytes more before now s s1 stays held hashed h = record {
  first = h.first;
  is = ap (λ b. b ++ more) h.is ∙ append_assoc h.first s.piece more ∙ ap (λ p. h.first ++ p) (sym held);
  hashed = hashed bytes h.hashed;
  gone = subst (λ t. HasGone store before t h.first now) (sym stays) h.gone;
}

appended_so : (store first piece path : List ℕ) (before a b : Option Tree) → path ≡ new_path store
    → a ≡ option_map (begun_with store first) before → b ≡ option_map (appended path piece) a
    → b ≡ option_map (begun_with store (first ++ piece)) before
appended_so store first piece path None a b at is e = e ∙ ap (option_map (appended path piece)) is
appended_so store first piece path (Some files) a b at is e = e ∙ ap (option_map (appended path piece)) is
    ∙ ap (λ p. Some (appended p piece (begun_with store first files))) at
    ∙ ap Some (appended-set (new_path store) first piece false _)

-- bytes that were held were handed on
pub written_on : {store bytes : List ℕ} {before now next : Option Tree} (s s1 : WriterState) (text : List ℕ)
    → s1.hasher ≡ s.hasher → s1.piece ≡ [] → text ≡ s.piece
    → ((first : List ℕ) → HasGone store before s.target first now
    → HasGone store before s1.target (first ++ text) next)
    → HasWritten store before s bytes now → HasWritten store before s1 (bytes ++ []) next
written_on {store} {bytes} {before} {now} {next} s s1 text hasher empty held went h = record {
  first = bytes;
  is = ap (λ p. bytes ++ p) (sym empty);
  hashed = subst (λ m. Holds256 m (bytes ++ [])) (sym hasher)
      (subst (Holds256 s.hasher) (sym (append-nil bytes)) h.hashed);
  gone = subst (λ m. HasGone store before s1.target m next)
      (ap (λ p. h.first ++ p) held ∙ sym h.is) (went h.first h.gone);
}

-- nothing was taken yet
pub written_first : {store : List ℕ} {before now : Option Tree} (s : WriterState) → s.piece ≡ []
    → Holds256 s.hasher [] → HasGone store before s.target [] now → HasWritten store before s [] now
written_first s none hashed gone = record { first = []; is = sym none; hashed = hashed; gone = gone }

-- they were appended to the file
pub gone_on : {store first : List ℕ} {before : Option Tree} (path : List ℕ) (a b : Seen) (text : List ℕ)
    → b.files ≡ option_map (appended path text) a.files → LeavesAround path a b
    → HasGone store before (ToFile path) first a.files → HasGone store before (ToFile path) (first ++ text) b.files
gone_on {store} {first} {before} path a b text changed kept h = record {
  went = (h.went.0, appended_so store first text path before a.files b.files h.went.0 h.went.1 changed);
  kept = around.kept_on (new_path store) before a.files b.files h.kept
      (subst (λ p. KeptAround p a.files b.files) h.went.0 kept.files);
}

can_append : (store first : List ℕ) (path : List ℕ) (before now : Option Tree) → path ≡ new_path store
    → now ≡ option_map (begun_with store first) before → IfSome now (λ t. IsTrue (can_read t path))
can_append store first path None now at is = subst (λ o. IfSome o (λ t. IsTrue (can_read t path))) (sym is) tt
can_append store first path (Some files) now at is = subst (λ o. IfSome o (λ t. IsTrue (can_read t path)))
    (sym is) (subst (λ p. IsTrue (can_read (begun_with store first files) p)) (sym at)
    (begun_stands store first files))

pub written_same : {store bytes : List ℕ} {before now : Option Tree} (s : WriterState)
    → HasWritten store before s bytes now → HasWritten store before s (bytes ++ []) now
written_same {store} {bytes} {before} {now} s h = subst (λ m. HasWritten store before s m now)
    (sym (append-nil bytes)) h

-- and the call was of the right kind
pub append_right : {store first : List ℕ} {before now : Option Tree} (path : List ℕ)
    (answer : Result (Unit {0}) FileFault) (x y : ℕ) → CountsMisuse
    (option_map (λ t. can_read t path) now) answer x y → HasGone store before (ToFile path) first now → y ≡ x
append_right {store} {first} {before} {now} path answer x y counts h = right (λ t. can_read t path) now answer x y
    (can_append store first path before now h.went.0 h.went.1) counts

-- a call that appends to the file
pub appended_file : {W : Type 0} (ghosts : world.Ghosts W) (path bytes : List ℕ)
    (answer : Result (Unit {0}) FileFault) (result : Result (Unit {0}) StoreFault) (old new : W)
    → LeavesAround path (seen ghosts old) (seen ghosts new) → KeptFile path (ghosts.tree old) (ghosts.tree new)
    → ghosts.child_faults new ≡ ghosts.child_faults old
    → CountsFailed answer (ghosts.file_faults old) (ghosts.file_faults new)
    → LastFailed path answer (ghosts.failed_at old) (ghosts.failed_at new)
    → CountsMisuse (option_map (λ t. can_read t path) (ghosts.tree old)) answer (ghosts.misused old)
    (ghosts.misused new)
    → OnOk answer (ghosts.tree new ≡ option_map (appended path bytes) (ghosts.tree old))
    → OnOk result (IsTrue (is_ok answer)) → IfErr result (λ fault. IsTrue (is_free fault))
    → IfErr result (BlamesAt path)
    → ((before now : Option (List ℕ)) → LastFailed path answer before now
    → IfErr result (λ fault. IsReadCause now (cause_of fault)))
    → ((before now : ℕ) → CountsFailed answer before now → CountsFiles cause_of result before now)
    → AppendsTo bytes (ToFile path) (seen ghosts old) result (ToFile path) (seen ghosts new)
appended_file ghosts path bytes answer result old new kept place children counted failed misused changed ok free blames
    cause counts = record {
      leaves = λ at. record {
        stays = inl refl;
        others = others_called ghosts path path answer result old new kept place children counted failed counts cause;
        blames = blames_file at path result blames;
      };
      adds = λ store before first gone. (
        went result ok gone,
        append_right path answer (ghosts.misused old) (ghosts.misused new) misused gone,
      );
      free = free;
    }
  where
    went : {store first : List ℕ} {before : Option Tree} (r : Result (Unit {0}) StoreFault)
        → OnOk r (IsTrue (is_ok answer)) → HasGone store before (ToFile path) first (ghosts.tree old)
        → OnOk r (HasGone store before (ToFile path) (first ++ bytes) (ghosts.tree new))
    went (Ok done) good gone = gone_on path (seen ghosts old) (seen ghosts new) bytes (when_ok answer good changed) kept
        gone
    went (Err fault) good gone = tt

-- ---- one call after another

pub added_then : {A B : Type 0} {store bytes : List ℕ} {before : Option Tree} {Is1 : A → List ℕ → Type 0}
    {Why1 : StoreFault → Type 0} {Is : B → List ℕ → Type 0} {Why : StoreFault → Type 0} {a b c : Seen}
    {s1 s2 : WriterState} {v : A} {r : Result B StoreFault}
    → Added store before Is1 Why1 bytes a (Ok v) s1 b
    → ((more : List ℕ) → Is1 v more → HasWritten store before s1 (bytes ++ more) b.files
    → Added store before (λ w next. Is w (more ++ next)) Why (bytes ++ more) b r s2 c)
    → Added store before Is Why bytes a r s2 c
added_then {B = B} {store} {bytes} {before} {Is = Is} {Why} {a} {b} {c} {s2 = s2} {r = r} first next = by
    (next first.added.0 first.added.1 first.added.2)
  where
    more : List ℕ
    more = first.added.0

    added : (r : Result B StoreFault) → IfOk r (λ w. (last : List ℕ) × Is w (more ++ last)
        × HasWritten store before s2 ((bytes ++ more) ++ last) c.files)
        → IfOk r (λ w. (last : List ℕ) × Is w last × HasWritten store before s2 (bytes ++ last) c.files)
    added (Ok w) (last, is, h) = (
      more ++ last,
      is,
      subst (λ m. HasWritten store before s2 m c.files)
          (append_assoc bytes more last) h,
    )
    added (Err fault) h = tt

    by : Added store before (λ w next. Is w (more ++ next)) Why (bytes ++ more) b r s2 c
        → Added store before Is Why bytes a r s2 c
    by h = record { added = added r h.added; refused = h.refused; right = h.right ∙ first.right }

-- told in another way
pub added_as : {A : Type 0} {store bytes : List ℕ} {before : Option Tree} {Is1 : A → List ℕ → Type 0}
    {Why1 : StoreFault → Type 0} {Is : A → List ℕ → Type 0} {Why : StoreFault → Type 0} {a b : Seen} {s1 : WriterState}
    {r : Result A StoreFault}
    → ((v : A) (more : List ℕ) → Is1 v more → Is v more) → ((fault : StoreFault) → Why1 fault → Why fault)
    → Added store before Is1 Why1 bytes a r s1 b → Added store before Is Why bytes a r s1 b
added_as {A} {store} {bytes} {before} {Is1} {Why1} {Is} {Why} {b = b} {s1} {r = r} of why h = record
    { added = added r h.added; refused = refused r h.refused; right = h.right }
  where
    added : (r : Result A StoreFault) → IfOk r (λ w. (last : List ℕ) × Is1 w last
        × HasWritten store before s1 (bytes ++ last) b.files) → IfOk r
        (λ w. (last : List ℕ) × Is w last × HasWritten store before s1 (bytes ++ last) b.files)
    added (Ok w) (last, is, written) = (last, of w last is, written)
    added (Err fault) h = tt

    refused : (r : Result A StoreFault) → IfErr r Why1 → IfErr r Why
    refused (Ok w) h = tt
    refused (Err fault) h = why fault h

-- the first refusal ends them
pub added_stop : {A B : Type 0} {store bytes : List ℕ} {before : Option Tree} {Is1 : A → List ℕ → Type 0}
    {Why1 : StoreFault → Type 0} {Is : B → List ℕ → Type 0} {Why : StoreFault → Type 0} {a b : Seen} {s1 : WriterState}
    {fault : StoreFault}
    → (Why1 fault → Why fault) → Added {A = A} store before Is1 Why1 bytes a (Err fault) s1 b
    → Added {A = B} store before Is Why bytes a (Err fault) s1 b
added_stop why h = record { added = tt; refused = why h.refused; right = h.right }

-- refused with nothing added
pub added_none : {A : Type 0} {store bytes : List ℕ} {before : Option Tree} {Is : A → List ℕ → Type 0}
    {Why : StoreFault → Type 0} {a b : Seen} {s1 : WriterState} {fault : StoreFault} → Why fault
    → b.misused ≡ a.misused → Added {A = A} store before Is Why bytes a (Err fault) s1 b
added_none why same = record { added = tt; refused = why; right = same }

-- nothing is added
pub added_nothing : {A : Type 0} {store bytes : List ℕ} {before : Option Tree} {Is : A → List ℕ → Type 0}
    {Why : StoreFault → Type 0} {a : Seen} {s : WriterState} (v : A) → Is v []
    → HasWritten store before s bytes a.files → Added store before Is Why bytes a (Ok v) s a
added_nothing {s = s} v is h = record { added = ([], is, written_same s h); refused = tt; right = refl }

-- ---- the file is begun

was_allowed : (o : Option Tree) (allows : Tree → Bool) (done : Unit {0}) (x y : ℕ)
    → CountsMisuse (option_map allows o) (Ok done) x y → IfSome o (λ files. allows files ≡ true)
was_allowed None allows done x y h = tt
was_allowed (Some files) allows done x y h = by (allows files) h
  where
    by : (v : Bool) → CountsMisuse (Some v) (Ok done) x y → v ≡ true
    by true h = refl
    by false h = absurd h

trees_some : (store : List ℕ) → 0 < length (trees_of store)
trees_some store = let more : length store < length (trees_of store) = longer_child store (codes "trees")
    (omega arith) in omega arith

if_some : (o : Option Tree) (P Q : Tree → Type 0) → ((files : Tree) → P files → Q files) → IfSome o P → IfSome o Q
if_some None P Q f h = tt
if_some (Some files) P Q f h = f files h

keeps_made : (store : List ℕ) (result : Result (Unit {0}) FileFault) (o o1 : Option Tree) (x y : ℕ)
    → OnOk result (o1 ≡ option_map (folder_made (trees_of store)) o) → OnErr result (o1 ≡ o)
    → CountsMisuse (option_map (λ t. can_make_folder t (trees_of store)) o) result x y
    → KeptAround (new_path store) o o1
keeps_made store (Ok done) o o1 x y ok err counts = around.kept_so (new_path store) o o1
    (folder_made (trees_of store)) ok (if_some o _ _
    (λ files can. keeps_made_above (trees_of store) (codes "new") files (trees_some store) can)
    (was_allowed o (λ t. can_make_folder t (trees_of store)) done x y counts))
keeps_made store (Err fault) o o1 x y ok err counts = around.kept_itself (new_path store) o o1 err

pub folder_around : {W : Type 0} (ghosts : world.Ghosts W) (store trees : List ℕ)
    (result : Result (Unit {0}) FileFault) (old new : W) → trees ≡ trees_of store
    → OnOk result (ghosts.tree new ≡ option_map (folder_made trees) (ghosts.tree old))
    → OnErr result (ghosts.tree new ≡ ghosts.tree old) → ghosts.runs new ≡ ghosts.runs old
    → CountsMisuse (option_map (λ t. can_make_folder t trees) (ghosts.tree old)) result (ghosts.misused old)
    (ghosts.misused new) → LeavesAround (new_path store) (seen ghosts old) (seen ghosts new)
folder_around ghosts store trees result old new at ok err runs counts = record {
  files = keeps_made store result (ghosts.tree old) (ghosts.tree new) _ _
      (subst (λ p. OnOk result (ghosts.tree new ≡ option_map (folder_made p) (ghosts.tree old))) at ok) err
      (subst (λ p. CountsMisuse (option_map (λ t. can_make_folder t p) (ghosts.tree old)) result
      (ghosts.misused old) (ghosts.misused new)) at counts);
  runs = runs;
  misused = around.never_falls _ result _ _ counts;
}

pub create_around : {W : Type 0} (ghosts : world.Ghosts W) (store path : List ℕ)
    (result : Result (Unit {0}) FileFault) (old new : W) → path ≡ new_path store
    → OnOk result (ghosts.tree new ≡ option_map (created path false) (ghosts.tree old))
    → OnErr result (ghosts.tree new ≡ ghosts.tree old) → ghosts.runs new ≡ ghosts.runs old
    → CountsMisuse (option_map (λ t. can_create t path) (ghosts.tree old)) result (ghosts.misused old)
    (ghosts.misused new) → LeavesAround (new_path store) (seen ghosts old) (seen ghosts new)
create_around ghosts store path result old new at ok err runs counts = subst
    (λ p. LeavesAround p (seen ghosts old) (seen ghosts new)) at
    (around.created_so ghosts path false result old new ok err runs counts)

-- a refusal that carries the folder or the file
pub trees_blamed : {A : Type 0} (store path : List ℕ) (r : Result A StoreFault) → path ≡ new_path store
    → IfErr r (BlamesAt path) → IfErr r (BlamesWithin (trees_of store))
trees_blamed store path (Ok v) at h = tt
trees_blamed store path (Err fault) at h = name_in_folder (trees_of store) path fault at (at_within path fault h)
  where
    name_in_folder : (folder path : List ℕ) (fault : StoreFault) → path ≡ joined folder (codes "new")
        → BlamesWithin path fault → BlamesWithin folder fault
    name_in_folder folder path fault is h = part_within folder (codes "new") path fault is refl h

same_option : {A : Type 0} (o : Option A) → o ≡ option_map (λ x. x) o
same_option None = refl
same_option (Some x) = refl

begin_parts : (store : List ℕ) (files : Tree) → can_begin store files ≡ true
    → (is_file_or_absent (item_at files (new_path store)) ≡ true)
    × (can_make_folder files (trees_of store) ≡ true)
begin_parts store files h = and_parts (is_file_or_absent (item_at files (new_path store)))
    (can_make_folder files (trees_of store)) h

may_create : (store : List ℕ) (files : Tree) → is_path (trees_of store) ≡ true → can_begin store files ≡ true
    → can_create (folder_made (trees_of store) files) (new_path store) ≡ true
may_create store files good h = and_from _ _
    (ap (λ found. is_file_or_absent (cond (is_root (new_path store)) (Some item.Folder) found))
    (get-folder_made_longer (trees_of store) (new_path store) files
    (longer_child (trees_of store) (codes "new") (omega arith))) ∙ (begin_parts store files h).0)
    (ap (λ p. is_folder (item_at (folder_made (trees_of store) files) p))
    (parent_of_file (trees_of store) (codes "new") good refl) ∙ folder_stands (trees_of store) files)

-- where the file may be begun, its calls are of the right kind
pub folder_misuse : (store trees : List ℕ) (result : Result (Unit {0}) FileFault) (o : Option Tree) (x y : ℕ)
    → trees ≡ trees_of store → CountsMisuse (option_map (λ t. can_make_folder t trees) o) result x y
    → MayMisuse (option_map (can_begin store) o) x y
folder_misuse store trees result o x y at h = misuse_extends result (can_begin store)
    (λ t. can_make_folder t (trees_of store)) (λ t. t) (λ t can. (begin_parts store t can).1) o o x x y
    (same_option o) (may_begin (option_map (can_begin store) o) x)
    (subst (λ p. CountsMisuse (option_map (λ t. can_make_folder t p) o) result x y) at h)

pub create_misuse : (store trees path : List ℕ) (result : Result (Unit {0}) FileFault) (o o1 : Option Tree)
    (x y z : ℕ) → trees ≡ trees_of store → is_path trees ≡ true → path ≡ new_path store
    → o1 ≡ option_map (folder_made trees) o → MayMisuse (option_map (can_begin store) o) x y
    → CountsMisuse (option_map (λ t. can_create t path) o1) result y z
    → MayMisuse (option_map (can_begin store) o) x z
create_misuse store trees path result o o1 x y z is good at made so h = misuse_extends result (can_begin store)
    (λ t. can_create t (new_path store)) (folder_made (trees_of store))
    (λ t can. may_create store t (ap is_path (sym is) ∙ good) can) o o1 x y z
    (made ∙ ap (λ p. option_map (folder_made p) o) is) so
    (subst (λ p. CountsMisuse (option_map (λ t. can_create t p) o1) result y z) at h)

-- a piece behind the first of some bytes
pub next_piece : (first piece bytes : List ℕ) (done end : ℕ) → done ≤ end → first ≡ take done bytes
    → piece ≡ take (end - done) (drop done bytes) → first ++ piece ≡ take end bytes
next_piece first piece bytes done end le a b = ap (λ p. p ++ piece) a ∙ ap (λ p. take done bytes ++ p) b
    ∙ sym (take-add done (end - done) bytes) ∙ ap (λ n. take n bytes)
    (let e : done + (end - done) ≡ end = omega arith in e)

-- another value
pub added_value : {A B : Type 0} {store bytes : List ℕ} {before : Option Tree} {Is1 : A → List ℕ → Type 0}
    {Why1 : StoreFault → Type 0} {Is : B → List ℕ → Type 0} {Why : StoreFault → Type 0} {a b : Seen} {s1 : WriterState}
    {v : A} (w : B)
    → ((more : List ℕ) → Is1 v more → Is w more) → Added store before Is1 Why1 bytes a (Ok v) s1 b
    → Added store before Is Why bytes a (Ok w) s1 b
added_value w of h = record { added = (h.added.0, of h.added.0 h.added.1, h.added.2); refused = tt; right = h.right }

-- what is left below a part of a folder is left below the folder
pub leaves_wider : {A : Type 0} {folder path : List ℕ} (name : List ℕ) {s0 s1 : WriterState} {a b : Seen}
    {r : Result A StoreFault} → path ≡ joined folder name → IsTrue (is_part name) → LeavesNew path s0 a r s1 b
    → LeavesNew folder s0 a r s1 b
leaves_wider {A} {folder} {path} name {s0} {r = r} is part h = record {
  stays = h.stays;
  others = h.others;
  blames = wider s0.target h.blames;
}
  where
    inside : (r : Result A StoreFault) → IfErr r (BlamesWithin path) → IfErr r (BlamesWithin folder)
    inside (Ok value) h = tt
    inside (Err fault) h = part_within folder name path fault is part h

    wider : (t : TargetState) → IfErr r (BlamesTarget path t) → IfErr r (BlamesTarget folder t)
    wider (ToFile p) blames = blames_wider folder name path p r is (part_form name part).0 blames
    wider (ToShelves d rs fs) blames = inside r blames

-- what is left of all but a file
pub leaves_file : {A : Type 0} {path : List ℕ} (file : List ℕ) {s s1 : WriterState} {a b : Seen}
    {r : Result A StoreFault} → s.target ≡ ToFile file → LeavesNew path s a r s1 b
    → LeavesButFile file a r b × IfErr r (BlamesEither path file)
leaves_file {path = path} file {a = a} {b} {r} at h = (
  subst (λ t. LeavesOthers t a r b) at h.others,
  subst (λ t. IfErr r (BlamesTarget path t)) at h.blames,
)

pub leaves_others : {A : Type 0} {path : List ℕ} (file : List ℕ) {s s1 : WriterState} {a b : Seen}
    {r : Result A StoreFault} → s.target ≡ ToFile file → LeavesNew path s a r s1 b → LeavesButFile file a r b
leaves_others file at h = (leaves_file file at h).0
