-- What laying leaves of all that isn't at a path or below it.
use Rattle.std.proofs.Common.{length, ◌≡◌, ◌≤◌, ◌<◌, ◌∙◌, refl, sym, ap, subst, arith, ℕ, Bool, true, false, not, cond}
use Rattle.std.proofs.Common.{◌||◌, ◌&&◌, ◌⊎◌, inl, inr, ◌++◌, List, [], ◌∷◌, Option, Some, None, is_some, Result, Ok}
use Rattle.std.proofs.Common.{Err, take}
use Rattle.std.specs.Prelude.{IfSome, IsTrue, OnErr, OnOk}
use Rattle.std.specs.List.{list_all, list_any}
use Rattle.std.specs.Str.{bytes_eq}
use Rattle.std.specs.Option.{option_map}
use Rattle.std.specs.FinMap.{get, insert, retain_keys, get-retain_keys, slice_cmp-IsAntisymmetric}
use Rattle.std.specs.FinMap.{nat_cmp-IsAntisymmetric}
use Rattle.std.proofs.lemmas.Bool.{and_parts, false_from_ne_true}
use Rattle.std.proofs.lemmas.List.Folds.{list_any-append}
use Rattle.std.proofs.lemmas.Slice.Eq.{bytes_eq-Decides}
use Rattle.cnb_world.specs.Calls.{AppendsSome, CountsMisuse, RemovesSome}
use Rattle.cnb_world.specs.Path.{is_part, joined}
use Rattle.cnb_world.specs.Tree.{Tree, appended, can_create, can_make_folder, can_make_link, can_read, created}
use Rattle.cnb_world.specs.Tree.{folder_made, folders_above, is_folder, is_root, is_under, is_within, item_at, linked}
use Rattle.cnb_world.specs.Tree.{without}
use Rattle.cnb_world.specs.declared.world.FileFault.{FileFault}
use Rattle.cnb_world.specs.declared.world.FileFault.TheVariants as file_fault
use Rattle.cnb_world.specs.declared.world.Item.{Item}
use Rattle.cnb_world.specs.declared.world.Item.TheVariants as item
use Rattle.cnb_world.specs.declared.world.World as world
use Rattle.cnb_world.proofs.Parents.{has_slash}
use Rattle.cnb_world.proofs.Trees.{get-insert_bytes}
use Rattle.cnb_world.proofs.Folders.{get-with_folders}
use Rattle.steps.specs.Outside.{Seen, seen}
use Rattle.tree_canon.specs.Names.{is_name}
use Rattle.tree_store.specs.Around.{IsMadeAbove, KeepsAround, KeptAround, LeavesAround}
use Rattle.tree_store.proofs.Blames.{within_child}
use Rattle.tree_store.proofs.Places.{above_child, name_form, or_parts, part_form}

-- ---- files that are kept, one change after another

pub kept_itself : (path : List ℕ) (o o1 : Option Tree) → o1 ≡ o → KeptAround path o o1
unfolding KeptAround
kept_itself path None o1 e = subst (KeptAround path None) (sym e) tt
kept_itself path (Some files) o1 e = subst (KeptAround path (Some files)) (sym e) (λ other away. inl refl)

pub kept_so : (path : List ℕ) (o o1 : Option Tree) (change : Tree → Tree) → o1 ≡ option_map change o
    → IfSome o (λ files. KeepsAround path files (change files)) → KeptAround path o o1
unfolding KeptAround
kept_so path None o1 change e h = subst (KeptAround path None) (sym e) tt
kept_so path (Some files) o1 change e h = subst (KeptAround path (Some files)) (sym e) h

is_made : (path other : List ℕ) (a b c : Tree) → IsMadeAbove path other a b → item_at c other ≡ item_at b other
    → IsMadeAbove path other a c
is_made path other a b c made same = record { above = made.above; before = made.before; after = same ∙ made.after }

keeps_on : (path : List ℕ) (a b c : Tree) → KeepsAround path a b → KeepsAround path b c → KeepsAround path a c
keeps_on path a b c first next other away = by (first other away) (next other away)
  where
    by : (item_at b other ≡ item_at a other) ⊎ IsMadeAbove path other a b → (item_at c other ≡ item_at b other)
        ⊎ IsMadeAbove path other b c → (item_at c other ≡ item_at a other) ⊎ IsMadeAbove path other a c
    by (inl e) (inl f) = inl (f ∙ e)
    by (inl e) (inr made) = inr (record { above = made.above; before = sym e ∙ made.before; after = made.after })
    by (inr made) (inl f) = inr (is_made path other a b c made f)
    by (inr made) (inr again) = absurd (let no : Some item.Folder ≡ None = sym made.after ∙ again.before in cc)

pub kept_on : (path : List ℕ) (a b c : Option Tree) → KeptAround path a b → KeptAround path b c → KeptAround path a c
unfolding KeptAround
kept_on path None None None h k = tt
kept_on path None None (Some c) h k = k
kept_on path None (Some b) c h k = absurd h
kept_on path (Some a) None c h k = absurd h
kept_on path (Some a) (Some b) None h k = absurd k
kept_on path (Some a) (Some b) (Some c) h k = keeps_on path a b c h k

away_parts : (path other : List ℕ) → is_within path other ≡ false → (is_root path ≡ false)
    × (bytes_eq other path ≡ false)
away_parts path other away =
    let first = or_parts (is_root path) (is_under path other) away in
    (first.0, (or_parts (bytes_eq other path) _ first.1).0)

-- what is away from a folder is away from a name in it
keeps_wider : (folder name : List ℕ) (a b : Tree) → 0 < length name → has_slash name ≡ false
    → KeepsAround (joined folder name) a b → KeepsAround folder a b
keeps_wider folder name a b some plain h other away = by
    (h other (false_from_ne_true _ (λ e. let no : true ≡ false = sym (within_child folder name other some e)
    ∙ away in cc)))
  where
    above : (v : Bool) → list_any (bytes_eq other) (folders_above folder) ≡ v
        → list_any (bytes_eq other) (folders_above (joined folder name)) ≡ true → v ≡ true
    above true e made = refl
    above false e made = let no : true ≡ false = sym made ∙ above_child folder name other plain
        (away_parts folder other away).1 e in absurd (cc)

    by : (item_at b other ≡ item_at a other) ⊎ IsMadeAbove (joined folder name) other a b
        → (item_at b other ≡ item_at a other) ⊎ IsMadeAbove folder other a b
    by (inl e) = inl e
    by (inr made) = inr (record {
      above = above (list_any (bytes_eq other) (folders_above folder)) refl
          made.above;
      before = made.before;
      after = made.after;
    })

kept_wider : (folder name : List ℕ) (o o1 : Option Tree) → 0 < length name → has_slash name ≡ false
    → KeptAround (joined folder name) o o1 → KeptAround folder o o1
unfolding KeptAround
kept_wider folder name None None some plain h = tt
kept_wider folder name None (Some b) some plain h = h
kept_wider folder name (Some a) None some plain h = h
kept_wider folder name (Some a) (Some b) some plain h = keeps_wider folder name a b some plain h

-- ---- one change

item_same : (files now : Tree) (other : List ℕ) → get now other ≡ get files other
    → item_at now other ≡ item_at files other
item_same files now other e = ap (cond (is_root other) (Some item.Folder)) e

keeps_retained : (path : List ℕ) (stays : List ℕ → Bool) (files : Tree)
    → ((other : List ℕ) → is_within path other ≡ false → stays other ≡ true)
    → KeepsAround path files (retain_keys files stays)
keeps_retained path stays files all other away = inl (item_same files (retain_keys files stays) other
    (get-retain_keys files stays other (λ x tied. ap stays
    (sym (slice_cmp-IsAntisymmetric nat_cmp-IsAntisymmetric other x tied)))
    ∙ ap (λ v. cond v (get files other) None) (all other away)))

keeps_inserted : (path : List ℕ) (x : Item) (files : Tree) → KeepsAround path files (insert files path x)
keeps_inserted path x files other away = inl (item_same files (insert files path x) other
    (get-insert_bytes files path x other ∙ ap (λ v. cond v (Some x) (get files other)) (away_parts path other away).1))

pub at_one : (P : List ℕ → Bool) (ps : List (List ℕ)) (q : List ℕ) → list_all P ps ≡ true
    → list_any (bytes_eq q) ps ≡ true → P q ≡ true
at_one P [] q all h = absurd (cc)
at_one P (p ∷ ps) q all h = by (bytes_eq q p) refl h (at_one P ps q (and_parts (P p) (list_all P ps) all).1)
  where
    by : (v : Bool) → bytes_eq q p ≡ v → (v || list_any (bytes_eq q) ps) ≡ true
        → (list_any (bytes_eq q) ps ≡ true → P q ≡ true) → P q ≡ true
    by true e h later = ap P ((bytes_eq-Decides q p).0 e) ∙ (and_parts (P p) (list_all P ps) all).0
    by false e h later = later h

keeps_made : (path : List ℕ) (files : Tree) → can_make_folder files path ≡ true
    → KeepsAround path files (folder_made path files)
keeps_made path files can other away = by (is_root other) refl (list_any (bytes_eq other) (folders_above path)) refl
  where
    split : list_any (bytes_eq other) (folders_above path ++ path ∷ [])
        ≡ (list_any (bytes_eq other) (folders_above path) || false)
    split = list_any-append (bytes_eq other) (folders_above path) (path ∷ [])
        ∙ ap (λ v. list_any (bytes_eq other) (folders_above path) || (v || false)) (away_parts path other away).1

    at : (r v : Bool) → is_root other ≡ r → list_any (bytes_eq other) (folders_above path) ≡ v
        → item_at (folder_made path files) other ≡ cond r (Some item.Folder)
        (cond ((v || false) && not r) (Some item.Folder) (get files other))
    at r v e f =
        ap (cond (is_root other) (Some item.Folder)) (get-with_folders
        (folders_above path ++ path ∷ []) files other
        ∙ ap (λ w. cond (w && not (is_root other)) (Some item.Folder) (get files other))
        (split ∙ ap (λ w. w || false) f))
        ∙ ap (λ w. cond w (Some item.Folder) (cond ((v || false) && not w) (Some item.Folder) (get files other))) e

    before : (r : Bool) → is_root other ≡ r → item_at files other ≡ cond r (Some item.Folder) (get files other)
    before r e = ap (λ w. cond w (Some item.Folder) (get files other)) e

    one : (found : Option Item) → item_at files other ≡ found → (is_folder found || not (is_some found)) ≡ true
        → list_any (bytes_eq other) (folders_above path) ≡ true
        → item_at (folder_made path files) other ≡ Some item.Folder
        → (item_at (folder_made path files) other ≡ item_at files other)
        ⊎ IsMadeAbove path other files (folder_made path files)
    one None e h above now = inr (record { above = above; before = e; after = now })
    one (Some item.Folder) e h above now = inl (now ∙ sym e)
    one (Some (item.File exec bytes)) e h above now = absurd (cc)
    one (Some (item.Link target)) e h above now = absurd (cc)
    one (Some item.Odd) e h above now = absurd (cc)

    any_true : (a b : Bool) → a ≡ true → (a || b) ≡ true
    any_true true b h = refl
    any_true false b h = absurd (cc)

    by : (r : Bool) → is_root other ≡ r → (v : Bool) → list_any (bytes_eq other) (folders_above path) ≡ v
        → (item_at (folder_made path files) other ≡ item_at files other)
        ⊎ IsMadeAbove path other files (folder_made path files)
    by true e v f = inl (at true v e f ∙ sym (before true e))
    by false e false f = inl (at false false e f ∙ sym (before false e))
    by false e true f = one (item_at files other) refl
        (at_one (λ p. is_folder (item_at files p) || not (is_some (item_at files p)))
        (folders_above path ++ path ∷ []) other can
        (list_any-append (bytes_eq other) (folders_above path) (path ∷ []) ∙ any_true _ _ f))
        f (at false true e f)

-- ---- calls

pub onward : (path : List ℕ) (a b c : Seen) → LeavesAround path a b → LeavesAround path b c → LeavesAround path a c
onward path a b c first next = record {
  files = kept_on path a.files b.files c.files first.files next.files;
  runs = next.runs ∙ first.runs;
  misused = let f : a.misused ≤ b.misused = first.misused in let n : b.misused ≤ c.misused = next.misused
      in omega arith;
}

pub within : (folder name path : List ℕ) (a b : Seen) → path ≡ joined folder name → 0 < length name
    → has_slash name ≡ false → LeavesAround path a b → LeavesAround folder a b
within folder name path a b is some plain h = record {
  files = kept_wider folder name a.files b.files some plain (subst (λ p. KeptAround p a.files b.files) is h.files);
  runs = h.runs;
  misused = h.misused;
}

pub part_within : (folder name path : List ℕ) (a b : Seen) → path ≡ joined folder name → IsTrue (is_part name)
    → LeavesAround path a b → LeavesAround folder a b
part_within folder name path a b is part h = within folder name path a b is (part_form name part).0
    (part_form name part).1 h

pub name_within : (folder name path : List ℕ) (a b : Seen) → path ≡ joined folder name → is_name name ≡ true
    → LeavesAround path a b → LeavesAround folder a b
name_within folder name path a b is name_is h = within folder name path a b is (name_form name name_is).0
    (name_form name name_is).1 h

-- the same at a path that is another's name
pub at_path : (path other : List ℕ) (a b : Seen) → path ≡ other → LeavesAround path a b → LeavesAround other a b
at_path path other a b is h = subst (λ p. LeavesAround p a b) is h

pub itself : (path : List ℕ) (a : Seen) → LeavesAround path a a
itself path a = record { files = kept_itself path a.files a.files refl; runs = refl; misused = omega arith }

pub never_falls : {T : Type 0} (o : Option Bool) (result : Result T FileFault) (a b : ℕ)
    → CountsMisuse o result a b → a ≤ b
never_falls None result a b h = omega (arith, h)
never_falls (Some true) result a b h = omega (arith, h)
never_falls (Some false) (Ok value) a b h = absurd h
never_falls (Some false) (Err file_fault.Failed) a b h = h.later
never_falls (Some false) (Err file_fault.Memory) a b h = omega (arith, h)

pub looked_at : {W : Type 0} (ghosts : world.Ghosts W) (path : List ℕ) (old new : W)
    → ghosts.tree new ≡ ghosts.tree old → ghosts.runs new ≡ ghosts.runs old
    → ghosts.misused new ≡ ghosts.misused old → LeavesAround path (seen ghosts old) (seen ghosts new)
looked_at ghosts path old new files runs misused = record {
  files = kept_itself path (ghosts.tree old) (ghosts.tree new) files;
  runs = runs;
  misused = omega
      (arith, misused);
}

told : (o : Option Tree) (P : Tree → Type 0) → ((files : Tree) → P files) → IfSome o P
told None P h = tt
told (Some files) P h = h files

or_true : (v w : Bool) → v ≡ true → (v || w) ≡ true
or_true true w h = refl
or_true false w h = absurd (cc)

removes : (path : List ℕ) (result : Result (Unit {0}) FileFault) (o o1 : Option Tree)
    → OnOk result (o1 ≡ option_map (without path) o) → OnErr result (RemovesSome o o1 path) → KeptAround path o o1
removes path (Ok done) o o1 ok err = kept_so path o o1 (without path) ok
    (told o _ (λ files. keeps_retained path (λ q. not (is_within path q)) files (λ other away. ap not away)))
removes path (Err fault) o o1 ok (inl same) = kept_itself path o o1 same
removes path (Err fault) o o1 ok (inr (stays, is)) =
    kept_so path o o1 (λ files. retain_keys files (λ q. not (is_within path q) || stays q)) is
    (told o _ (λ files. keeps_retained path (λ q. not (is_within path q) || stays q) files
    (λ other away. or_true (not (is_within path other)) (stays other) (ap not away))))

pub removed : {W : Type 0} (ghosts : world.Ghosts W) (path : List ℕ) (result : Result (Unit {0}) FileFault)
    (old new : W)
    → OnOk result (ghosts.tree new ≡ option_map (without path) (ghosts.tree old))
    → OnErr result (RemovesSome (ghosts.tree old) (ghosts.tree new) path) → ghosts.runs new ≡ ghosts.runs old
    → CountsMisuse (option_map (λ (_ : Tree). not (is_root path)) (ghosts.tree old)) result (ghosts.misused old)
    (ghosts.misused new) → LeavesAround path (seen ghosts old) (seen ghosts new)
removed ghosts path result old new ok err runs counts = record {
  files = removes path result (ghosts.tree old) (ghosts.tree new) ok err;
  runs = runs;
  misused = never_falls _ result _ _ counts;
}

changes : (path : List ℕ) (change : Tree → Tree) (result : Result (Unit {0}) FileFault) (o o1 : Option Tree)
    → ((files : Tree) → KeepsAround path files (change files)) → OnOk result (o1 ≡ option_map change o)
    → OnErr result (o1 ≡ o) → KeptAround path o o1
changes path change (Ok done) o o1 all ok err = kept_so path o o1 change ok (told o _ all)
changes path change (Err fault) o o1 all ok err = kept_itself path o o1 err

pub created_so : {W : Type 0} (ghosts : world.Ghosts W) (path : List ℕ) (exec : Bool)
    (result : Result (Unit {0}) FileFault) (old new : W)
    → OnOk result (ghosts.tree new ≡ option_map (created path exec) (ghosts.tree old))
    → OnErr result (ghosts.tree new ≡ ghosts.tree old) → ghosts.runs new ≡ ghosts.runs old
    → CountsMisuse (option_map (λ t. can_create t path) (ghosts.tree old)) result (ghosts.misused old)
    (ghosts.misused new) → LeavesAround path (seen ghosts old) (seen ghosts new)
created_so ghosts path exec result old new ok err runs counts = record {
  files = changes path (created path exec) result (ghosts.tree old) (ghosts.tree new)
      (λ files. keeps_inserted path (item.File exec []) files) ok err;
  runs = runs;
  misused = never_falls _ result _ _ counts;
}

pub linked_so : {W : Type 0} (ghosts : world.Ghosts W) (path target : List ℕ)
    (result : Result (Unit {0}) FileFault) (old new : W)
    → OnOk result (ghosts.tree new ≡ option_map (linked path target) (ghosts.tree old))
    → OnErr result (ghosts.tree new ≡ ghosts.tree old) → ghosts.runs new ≡ ghosts.runs old
    → CountsMisuse (option_map (λ t. can_make_link t path) (ghosts.tree old)) result (ghosts.misused old)
    (ghosts.misused new) → LeavesAround path (seen ghosts old) (seen ghosts new)
linked_so ghosts path target result old new ok err runs counts = record {
  files = changes path (linked path target) result (ghosts.tree old) (ghosts.tree new)
      (λ files. keeps_inserted path (item.Link target) files) ok err;
  runs = runs;
  misused = never_falls _ result _ _ counts;
}

appends : (path bytes : List ℕ) (result : Result (Unit {0}) FileFault) (o o1 : Option Tree)
    → OnOk result (o1 ≡ option_map (appended path bytes) o) → OnErr result (AppendsSome o o1 path bytes)
    → KeptAround path o o1
appends path bytes (Ok done) o o1 ok err = kept_so path o o1 (appended path bytes) ok
    (told o _ (λ files. keeps_inserted path _ files))
appends path bytes (Err fault) o o1 ok (inl same) = kept_itself path o o1 same
appends path bytes (Err fault) o o1 ok (inr (can, n, le, is)) = kept_so path o o1
    (appended path (take n bytes)) is (told o _ (λ files. keeps_inserted path _ files))

pub appended_so : {W : Type 0} (ghosts : world.Ghosts W) (path bytes : List ℕ)
    (result : Result (Unit {0}) FileFault) (old new : W)
    → OnOk result (ghosts.tree new ≡ option_map (appended path bytes) (ghosts.tree old))
    → OnErr result (AppendsSome (ghosts.tree old) (ghosts.tree new) path bytes)
    → ghosts.runs new ≡ ghosts.runs old
    → CountsMisuse (option_map (λ t. can_read t path) (ghosts.tree old)) result (ghosts.misused old)
    (ghosts.misused new) → LeavesAround path (seen ghosts old) (seen ghosts new)
appended_so ghosts path bytes result old new ok err runs counts = record {
  files = appends path bytes result (ghosts.tree old) (ghosts.tree new) ok err;
  runs = runs;
  misused = never_falls _ result _ _ counts;
}

-- a folder is made only where those above it are folders or absent
was_allowed : (o : Option Tree) (path : List ℕ) (done : Unit {0}) (a b : ℕ)
    → CountsMisuse (option_map (λ t. can_make_folder t path) o) (Ok done) a b
    → IfSome o (λ files. can_make_folder files path ≡ true)
was_allowed None path done a b h = tt
was_allowed (Some files) path done a b h = by (can_make_folder files path) h
  where
    by : (v : Bool) → CountsMisuse (Some v) (Ok done) a b → v ≡ true
    by true h = refl
    by false h = absurd h

if_some : (o : Option Tree) (P Q : Tree → Type 0) → ((files : Tree) → P files → Q files) → IfSome o P → IfSome o Q
if_some None P Q f h = tt
if_some (Some files) P Q f h = f files h

makes : (path : List ℕ) (result : Result (Unit {0}) FileFault) (o o1 : Option Tree) (a b : ℕ)
    → OnOk result (o1 ≡ option_map (folder_made path) o) → OnErr result (o1 ≡ o)
    → CountsMisuse (option_map (λ t. can_make_folder t path) o) result a b → KeptAround path o o1
makes path (Ok done) o o1 a b ok err counts = kept_so path o o1 (folder_made path) ok
    (if_some o _ _ (λ files can. keeps_made path files can) (was_allowed o path done a b counts))
makes path (Err fault) o o1 a b ok err counts = kept_itself path o o1 err

pub made_so : {W : Type 0} (ghosts : world.Ghosts W) (path : List ℕ) (result : Result (Unit {0}) FileFault)
    (old new : W)
    → OnOk result (ghosts.tree new ≡ option_map (folder_made path) (ghosts.tree old))
    → OnErr result (ghosts.tree new ≡ ghosts.tree old) → ghosts.runs new ≡ ghosts.runs old
    → CountsMisuse (option_map (λ t. can_make_folder t path) (ghosts.tree old)) result (ghosts.misused old)
    (ghosts.misused new) → LeavesAround path (seen ghosts old) (seen ghosts new)
made_so ghosts path result old new ok err runs counts = record {
  files = makes path result (ghosts.tree old) (ghosts.tree new) _ _ ok err counts;
  runs = runs;
  misused = never_falls _ result _ _ counts;
}

-- what was removed isn't `/`
pub not_root : (o : Option Tree) (path : List ℕ) (done : Unit {0}) (a b : ℕ)
    → CountsMisuse (option_map (λ (_ : Tree). not (is_root path)) o) (Ok done) a b
    → IfSome o (λ _. is_root path ≡ false)
not_root None path done a b h = tt
not_root (Some files) path done a b h = by (is_root path) h
  where
    by : (v : Bool) → CountsMisuse (Some (not v)) (Ok done) a b → v ≡ false
    by false h = refl
    by true h = absurd h

pub not_root_where : (o : Option Tree) (path : List ℕ) (result : Result (Unit {0}) FileFault) (a b : ℕ)
    → CountsMisuse (option_map (λ (_ : Tree). not (is_root path)) o) result a b
    → IfSome o (λ _. OnOk result (is_root path ≡ false))
not_root_where o path (Ok done) a b h = not_root o path done a b h
not_root_where None path (Err fault) a b h = tt
not_root_where (Some files) path (Err fault) a b h = tt

-- a removal of anything but `/` is of the right kind
pub removed_right : (o : Option Tree) (path : List ℕ) (result : Result (Unit {0}) FileFault) (a b : ℕ)
    → CountsMisuse (option_map (λ (_ : Tree). not (is_root path)) o) result a b
    → IfSome o (λ _. is_root path ≡ false) → b ≡ a
removed_right None path result a b h plain = h
removed_right (Some files) path result a b h plain = subst (λ v. CountsMisuse (Some (not v)) result a b) plain h
