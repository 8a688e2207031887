-- What steps leave alone.
use Rattle.std.proofs.Common.{◌≡◌, ◌∙◌, refl, sym, ap, ℕ, ◌++◌, ◌||◌, ◌&&◌, List, [], ◌∷◌, Bool, true, false, not, cond}
use Rattle.std.proofs.Common.{Option, Some, None, Result, Ok, Err, inl, inr, append_assoc, append-nil, take}
use Rattle.std.specs.List.{AllByRecursion, list_any}
use Rattle.std.specs.Str.{bytes_eq}
use Rattle.std.specs.Option.{option_map}
use Rattle.std.specs.FinMap.{get, insert, remove}
use Rattle.cnb_world.specs.declared.child.ChildJob.{ChildJob}
use Rattle.cnb_world.specs.declared.world.Item.TheVariants.{Folder, File}
use Rattle.cnb_world.specs.Path.{parent_of, beside}
use Rattle.cnb_world.specs.Runs.{Run}
use Rattle.cnb_world.specs.Tree.{Tree, item_at, is_root, folder_made}
use Rattle.cnb_world.specs.Whole.{Progress, Unbegun, FolderMade, PartBeside, written, left_of, LeavesPart}
use Rattle.cnb_world.proofs.Trees.{get-insert_bytes, get-remove_bytes}
use Rattle.cnb_world.proofs.Folders.{get-with_folders}
use Rattle.steps.specs.Causes.{Cause, Decided}
use Rattle.steps.specs.Keeping.{folder_paths, touched, is_free, standing, Keeps, Spares}
use Rattle.steps.specs.Outside.{Seen}
use Rattle.steps.proofs.EndLaws.{obeys_bind, obeys_told}
use Rattle.steps.specs.Steps.{LeavesSome, Same, ◌>>=◌, gives, map_err, reads, makes_folder, runs_child, writes, yields}

neither : (a b : Bool) → not (a || b) ≡ true → (a ≡ false) × (b ≡ false)
neither true b h = absurd (cc)
neither false true h = absurd (cc)
neither false false h = (refl, refl)

none_of : (a : Bool) → not a ≡ true → a ≡ false
none_of true h = absurd (cc)
none_of false h = refl

at_get : (t u : Tree) (q : List ℕ) → get t q ≡ get u q → item_at t q ≡ item_at u q
at_get t u q e = ap (cond (is_root q) (Some Folder)) e

made_get : (t : Tree) (p q : List ℕ) → list_any (bytes_eq q) (folder_paths p) ≡ false
    → get (folder_made p t) q ≡ get t q
made_get t p q free = get-with_folders (folder_paths p) t q
    ∙ ap (λ b. cond (b && not (is_root q)) (Some Folder) (get t q)) free

pub made_free : (t : Tree) (p q : List ℕ) → is_free (folder_paths p) q ≡ true
    → item_at (folder_made p t) q ≡ item_at t q
made_free t p q free = at_get _ t q (made_get t p q (none_of _ free))

pub written_free : (t : Tree) (p q bytes : List ℕ) → is_free (touched p) q ≡ true
    → item_at (written p bytes t) q ≡ item_at t q
written_free t p q bytes free =
    let first = neither (bytes_eq q p) _ free in
    let second = neither (bytes_eq q (beside p)) (list_any (bytes_eq q) (folder_paths (parent_of p)))
    (ap not first.1) in
    let made : Tree = folder_made (parent_of p) t in
    at_get _ t q (get-insert_bytes (remove made (beside p)) p (File false bytes) q
    ∙ ap (λ b. cond b (Some (File false bytes)) (get (remove made (beside p)) q)) first.0
    ∙ get-remove_bytes made (beside p) q ∙ ap (λ b. cond b None (get made q)) second.0
    ∙ made_get t (parent_of p) q second.1)

pub left_free : (progress : Progress) (bytes : List ℕ) (t : Tree) (p q : List ℕ) → is_free (touched p) q ≡ true
    → item_at (left_of progress p bytes t) q ≡ item_at t q
left_free progress bytes t p q free = by progress
  where
    rest : list_any (bytes_eq q) (beside p ∷ folder_paths (parent_of p)) ≡ false
    rest = (neither (bytes_eq q p) (list_any (bytes_eq q) (beside p ∷ folder_paths (parent_of p))) free).1

    second : (bytes_eq q (beside p) ≡ false) × (list_any (bytes_eq q) (folder_paths (parent_of p)) ≡ false)
    second = neither (bytes_eq q (beside p)) (list_any (bytes_eq q) (folder_paths (parent_of p))) (ap not rest)

    folder : get (folder_made (parent_of p) t) q ≡ get t q
    folder = made_get t (parent_of p) q second.1

    beside_it : (u : Tree) (bytes : List ℕ) → get (insert u (beside p) (File false bytes)) q ≡ get u q
    beside_it u bytes = get-insert_bytes u (beside p) (File false bytes) q
        ∙ ap (λ b. cond b (Some (File false bytes)) (get u q)) second.0

    by : (progress : Progress) → item_at (left_of progress p bytes t) q ≡ item_at t q
    by Unbegun = refl
    by FolderMade = at_get _ t q folder
    by (PartBeside count) = at_get _ t q (beside_it (folder_made (parent_of p) t) (take count bytes) ∙ folder)

-- a step after which a path is as it was, but for what children did
abbrev pub Preserves : {E A : Type 0} → List ℕ → (Seen → Result A E → Seen → Type 0) → Type 0
Preserves {E} {A} path step = (old new : Seen) (result : Result A E) → step old result new → Keeps path old new

pub keeps_same : (path : List ℕ) (old new : Seen) → new.runs ≡ old.runs
    → standing new.files path ≡ standing old.files path → Keeps path old new
keeps_same path old new runs stands = record {
  rows = [];
  runs = runs
      ∙ sym (append-nil old.runs);
  stands = λ spared. stands;
}

pub all_first : (P : Run → Type 0) (xs ys : List Run) → AllByRecursion P (xs ++ ys) → AllByRecursion P xs
all_first P [] ys h = tt
all_first P (x ∷ xs) ys h = (h.0, all_first P xs ys h.1)

pub all_second : (P : Run → Type 0) (xs ys : List Run) → AllByRecursion P (xs ++ ys) → AllByRecursion P ys
all_second P [] ys h = h
all_second P (x ∷ xs) ys h = all_second P xs ys h.1

pub keeps_then : (path : List ℕ) (a b c : Seen) → Keeps path a b → Keeps path b c → Keeps path a c
keeps_then path a b c first second = record {
  rows = first.rows ++ second.rows;
  runs = second.runs ∙ ap (λ r. r ++ second.rows) first.runs ∙ append_assoc a.runs first.rows second.rows;
  stands = λ spared. second.stands (all_second (Spares path) first.rows second.rows spared)
      ∙ first.stands (all_first (Spares path) first.rows second.rows spared);
}

pub keeps_bind : {E A B : Type 0} (path : List ℕ) (first : Seen → Result A E → Seen → Type 0)
    (next : A → Seen → Result B E → Seen → Type 0) → Preserves path first → ((a : A) → Preserves path (next a))
    → Preserves path (first >>= next)
keeps_bind path first next p q = obeys_bind (λ last. Keeps path) (λ fault. Decided) first next
    (λ last. keeps_then path) p q

still : (path : List ℕ) (old new : Seen) → Same old new → Keeps path old new
still path old new same = keeps_same path old new same.runs (ap (λ o. standing o path) same.files)

pub keeps_reads : {E A : Type 0} (path : List ℕ) (cause_of : E → Cause) (Among : List ℕ → Type 0) (fits : Tree → Bool)
    (want : Tree → Result A E) → Preserves path (reads cause_of Among fits want)
unfolding reads
keeps_reads path cause_of Among fits want old new result h = still path old new h.same

unmoved : (path : List ℕ) (old new : Seen) → new ≡ old → Keeps path old new
unmoved path old new e = keeps_same path old new (ap (λ s. s.runs) e) (ap (λ s. standing s.files path) e)

pub keeps_gives : {E A : Type 0} (path : List ℕ) (cause_of : E → Cause) (want : Result A E)
    → Preserves path (gives cause_of want)
unfolding gives
keeps_gives path cause_of want old new result h = unmoved path old new h.0

pub keeps_yields : {E A : Type 0} (path : List ℕ) (want : A) → Preserves {E = E} path (yields want)
unfolding yields
keeps_yields path want old new (Ok value) h = unmoved path old new h.1
keeps_yields path want old new (Err fault) h = absurd h

pub keeps_told : {E F A : Type 0} (path : List ℕ) (of : E → F) (step : Seen → Result A E → Seen → Type 0)
    → Preserves path step → Preserves path (map_err of step)
keeps_told path of step p = obeys_told (λ last. Keeps path) (λ fault. Decided) (λ fault. Decided) of step
    (λ fault. refl) p

pub step_at : (o o1 : Option Tree) (step : Tree → Tree) (q : List ℕ)
    → ((t : Tree) → item_at (step t) q ≡ item_at t q) → o1 ≡ option_map step o → standing o1 q ≡ standing o q
step_at None o1 step q same e = ap (λ o. standing o q) e
step_at (Some t) o1 step q same e = ap (λ o. standing o q) e ∙ ap Some (same t)

-- a path that a write doesn't touch is as it was, where the write was refused
pub part_left : (o o1 : Option Tree) (p q bytes : List ℕ) → is_free (touched p) q ≡ true → LeavesPart o o1 p bytes
    → standing o1 q ≡ standing o q
part_left o o1 p q bytes free (progress, fits, e) = step_at o o1 (left_of progress p bytes) q
    (λ t. left_free progress bytes t p q free) e

pub some_left : (o o1 : Option Tree) (p q : List ℕ) (Says : List ℕ → Type 0) → is_free (touched p) q ≡ true
    → LeavesSome p Says o o1 → standing o1 q ≡ standing o q
some_left o o1 p q Says free (inl same) = ap (λ files. standing files q) same
some_left o o1 p q Says free (inr (bytes, says, part)) = part_left o o1 p q bytes free part

pub keeps_writes : {E : Type 0} (path : List ℕ) (cause_of : E → Cause) (at : List ℕ) (Says : List ℕ → Type 0)
    → is_free (touched at) path ≡ true → Preserves path (writes cause_of at Says)
unfolding writes
keeps_writes path cause_of at Says free old new (Ok done) h = keeps_same path old new h.runs
    (step_at old.files new.files (written at h.bytes) path (λ t. written_free t at path h.bytes free) h.files)
keeps_writes path cause_of at Says free old new (Err fault) h = keeps_same path old new h.1.runs
    (some_left old.files new.files at path Says free h.1.files)

pub keeps_makes_folder : {E : Type 0} (path : List ℕ) (cause_of : E → Cause) (at : List ℕ)
    → is_free (folder_paths at) path ≡ true → Preserves path (makes_folder cause_of at)
unfolding makes_folder
keeps_makes_folder path cause_of at free old new (Ok done) h = keeps_same path old new h.0.runs
    (step_at old.files new.files (folder_made at) path (λ t. made_free t at path free) h.0.files)
keeps_makes_folder path cause_of at free old new (Err fault) h = still path old new h.1

pub keeps_runs_child : {E : Type 0} (path : List ℕ) (cause_of : E → Cause) (job : ChildJob)
    → Preserves path (runs_child cause_of job)
unfolding runs_child
keeps_runs_child path cause_of job old new (Ok end) h = record {
  rows = record { job = job; end = end; found = old.files; left = new.files }
      ∷ [];
  runs = h.1;
  stands = λ spared. spared.0;
}
keeps_runs_child path cause_of job old new (Err fault) h = still path old new h.1
