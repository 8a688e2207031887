-- A file that was written gets its name, or is removed.
use Rattle.std.proofs.Common.{◌≡◌, ◌<◌, ◌≤◌, ◌∙◌, refl, sym, ap, subst, arith, ℕ, Bool, true, false, cond, not, ◌+◌}
use Rattle.std.proofs.Common.{◌-◌, ◌^◌, ◌*◌, ◌/◌, ◌&&◌, inl, inr, ◌++◌, List, [], ◌∷◌, append-nil, drop, take, length}
use Rattle.std.proofs.Common.{Option, Some, None, is_some, Result, Ok, Err}
use Rattle.std.specs.Prelude.{IfErr, IfSome, IsTrue, OnErr, OnOk, codes, is_err, is_ok, min, ◌↔◌, ◌⊎◌}
use Rattle.std.specs.Option.{option_map}
use Rattle.std.specs.Str.{bytes_eq}
use Rattle.std.specs.FinMap.{get, insert, remove}
use Rattle.std.proofs.lemmas.Bool.{and_from}
use Rattle.std.proofs.lemmas.List.{length-drop, length-take}
use Rattle.std.proofs.lemmas.Slice.Eq.{bytes_eq-Decides}
use Rattle.sha2.specs.Sha256.{sha256}
use Rattle.cnb_world.specs.Calls.{CountsFailed, CountsMisuse, LastFailed, MayMisuse}
use Rattle.cnb_world.specs.Path.{is_path, joined, parent_of}
use Rattle.cnb_world.specs.Tree.{Tree, bytes_of, can_rename, folder_made, is_file, is_file_or_absent, is_folder}
use Rattle.cnb_world.specs.Tree.{is_root, is_within, item_at, renamed, without}
use Rattle.cnb_world.specs.declared.world.FileFault.{FileFault}
use Rattle.cnb_world.specs.declared.world.Item.{Item}
use Rattle.cnb_world.specs.declared.world.Item.TheVariants as item
use Rattle.cnb_world.proofs.Folders.{folder_stands, get-without, item_at-insert_shorter}
use Rattle.cnb_world.proofs.Joins.{parent_of_file}
use Rattle.cnb_world.proofs.Trees.{get-insert_bytes, get-insert_same, renamed-insert, same_tree}
use Rattle.steps.specs.Causes.{Cause, FileFailed, ChildFailed, OutOfMemory, CountsFiles, Decided, IsReadCause}
use Rattle.steps.specs.Causes.{WhereDecided}
use Rattle.steps.specs.Outside.{Seen, seen}
use Rattle.sha2.specs.Hashers.{Holds256}
use Rattle.cnb_world.specs.declared.world.World as world
use Rattle.tree_canon.specs.Digest.{is_digest_text}
use Rattle.tree_store.specs.Answers.{BlamesAt, BlamesEither, BlamesWithin, IsLater, cause_of, is_free}
use Rattle.tree_store.specs.Around.{KeptAround, LeavesAround}
use Rattle.tree_store.specs.Comparing.{IsCompared}
use Rattle.tree_store.specs.declared.naming.Compared.{Compared}
use Rattle.tree_store.specs.declared.naming.Compared.TheVariants.{Other, Last, Whole}
use Rattle.tree_store.specs.Store.{Keeps, tree_path}
use Rattle.tree_store.specs.Writing.{AreApart, ClashesUnless, HasWritten, IsCleared, IsClearedOf, KeptFile, NamesBytes}
use Rattle.tree_store.specs.Writing.{LeavesButFile, LeavesButPut, PutsBytes, begun_with, bytes_put, named_or_left}
use Rattle.tree_store.specs.Writing.{new_path}
use Rattle.tree_store.specs.Writing.{trees_of}
use Rattle.tree_store.specs.Writing.{WriterState}
use Rattle.tree_store.specs.Target.{ToFile, WentTo}
use Rattle.tree_store.specs.declared.fault.StoreFault.{StoreFault}
use Rattle.tree_store.specs.declared.fault.StoreFault.TheVariants.{OddFile, Limit, File, NoTree, Damaged, Clash, Memory}
use Rattle.tree_store.proofs.Apart.{item_kept, siblings_apart, still}
use Rattle.tree_store.proofs.Blames.{within_child, within_itself}
use Rattle.tree_store.proofs.Around.{kept_itself, kept_on, never_falls, onward}
use Rattle.tree_store.proofs.NewPlace.{place_itself, place_on}
use Rattle.tree_store.proofs.Kept.{contents, next_number, piece_more, same_to_end}
use Rattle.tree_store.proofs.Places.{child_not_root, longer_child}
use Rattle.tree_store.proofs.Puts.{free_keeps, other_keeps, same_keeps, unless_free}
use Rattle.tree_store.proofs.Right.{right}
use Rattle.tree_store.proofs.StorePaths.{digest_part, digits}

-- ---- the path of a tree's file

pub tree_apart : (store trees text name path : List ℕ) → trees ≡ trees_of store → name ≡ text
    → is_digest_text text ≡ true → path ≡ joined trees name → AreApart (new_path store) path
tree_apart store trees text name path is e h at = subst (AreApart (new_path store))
    (sym (at ∙ ap (λ t. joined t name) is)) (siblings_apart (trees_of store) (codes "new") name refl
    (digest_part text name e h) (λ same. let three : length name ≡ 3 = ap length (sym same)
    in let long : length text ≡ 64 = (digits text h).0 in let l : length name ≡ length text = ap length e
    in absurd (omega (arith, three, long, l))))

pub tree_parent : (store trees text name path : List ℕ) → trees ≡ trees_of store → is_path trees ≡ true
    → name ≡ text → is_digest_text text ≡ true → path ≡ joined trees name → parent_of path ≡ trees_of store
tree_parent store trees text name path is good e h at = ap parent_of at
    ∙ parent_of_file trees name good (digest_part text name e h) ∙ is

pub tree_within : (store trees text name path : List ℕ) → trees ≡ trees_of store → name ≡ text
    → is_digest_text text ≡ true → path ≡ joined trees name → is_within (trees_of store) path ≡ true
tree_within store trees text name path is e h at = subst (λ p. is_within (trees_of store) p ≡ true)
    (sym (at ∙ ap (λ t. joined t name) is)) (within_child (trees_of store) name (joined (trees_of store) name)
    (let long : length text ≡ 64 = (digits text h).0 in let l : length name ≡ length text = ap length e
    in omega (arith, long, l)) (within_itself (joined (trees_of store) name)))

pub new_within : (store : List ℕ) → is_within (trees_of store) (new_path store) ≡ true
new_within store = within_child (trees_of store) (codes "new") (new_path store) (omega arith)
    (within_itself (new_path store))

pub new_plain : (store : List ℕ) → is_root (new_path store) ≡ false
new_plain store = child_not_root (trees_of store) (codes "new") (omega arith)

-- ---- what stands

new_item : (store bytes : List ℕ) (files : Tree) → item_at (begun_with store bytes files) (new_path store)
    ≡ Some (item.File false bytes)
new_item store bytes files = ap (λ v. cond v (Some item.Folder)
    (get (begun_with store bytes files) (new_path store))) (new_plain store)
    ∙ get-insert_same _ (new_path store) (item.File false bytes)

folder_item : (store bytes : List ℕ) (files : Tree) → is_folder
    (item_at (begun_with store bytes files) (trees_of store)) ≡ true
folder_item store bytes files = ap is_folder (item_at-insert_shorter (folder_made (trees_of store) files)
    (new_path store) (item.File false bytes) (trees_of store)
    (longer_child (trees_of store) (codes "new") (omega arith))) ∙ folder_stands (trees_of store) files

-- what is told of two files, where one is that which was written
pub new_told : (store bytes path : List ℕ) (before now : Option Tree) (P : Option Item → List ℕ → Type 0)
    → AreApart (new_path store) path → KeptAround (new_path store) before now
    → now ≡ option_map (begun_with store bytes) before → IfSome now
    (λ files. P (item_at files path) (bytes_of (item_at files (new_path store))))
    → IfSome before (λ files. P (item_at files path) bytes)
new_told store bytes path before now P apart kept is told = still (λ found. P found bytes)
    (new_path store) path before now apart kept (by before now is told)
  where
    by : (o o1 : Option Tree) → o1 ≡ option_map (begun_with store bytes) o
        → IfSome o1 (λ files. P (item_at files path) (bytes_of (item_at files (new_path store))))
        → IfSome o1 (λ files. P (item_at files path) bytes)
    by o None e t = tt
    by None (Some now) e t = absurd (cc)
    by (Some files) (Some now) e t = let same : now ≡ begun_with store bytes files = cc
        in subst (P (item_at now path)) (ap (λ w. bytes_of (item_at w (new_path store))) same
        ∙ ap bytes_of (new_item store bytes files)) t

-- ---- where nothing stands under the digest

none_is : (found : Option Item) → true ≡ not (is_some found) → found ≡ None
none_is None e = refl
none_is (Some x) e = absurd (cc)

pub named_files : (store bytes path file : List ℕ) (before now next : Option Tree) (absent : Bool) → absent ≡ true
    → path ≡ tree_path store (sha256 bytes) → file ≡ new_path store → AreApart (new_path store) path
    → KeptAround (new_path store) before now → now ≡ option_map (begun_with store bytes) before
    → IfSome now (λ files. absent ≡ not (is_some (item_at files path)))
    → next ≡ option_map (renamed file path) now → next ≡ option_map (bytes_put store bytes) before
named_files store bytes path file before now next absent e at new apart kept is told changed = changed
    ∙ ap (option_map (renamed file path)) is ∙ by before (still (λ found. absent ≡ not (is_some found))
    (new_path store) path before now apart kept told)
  where
    by : (o : Option Tree) → IfSome o (λ files. absent ≡ not (is_some (item_at files path)))
        → option_map (renamed file path) (option_map (begun_with store bytes) o)
        ≡ option_map (bytes_put store bytes) o
    by None t = refl
    by (Some files) t = ap Some (ap (λ f. renamed f path (begun_with store bytes files)) new
        ∙ renamed-insert (new_path store) path (item.File false bytes) (folder_made (trees_of store) files)
        ∙ ap (λ p. insert (remove (folder_made (trees_of store) files) (new_path store)) p (item.File false bytes)) at
        ∙ sym (ap (λ found. named_or_left found (new_path store) (tree_path store (sha256 bytes)) bytes
        (folder_made (trees_of store) files)) (ap (item_at files) (sym at)
        ∙ none_is (item_at files path) (sym e ∙ t))))

pub absent_keeps : (store bytes path : List ℕ) (before now : Option Tree) (absent : Bool) → absent ≡ true
    → path ≡ tree_path store (sha256 bytes) → AreApart (new_path store) path
    → KeptAround (new_path store) before now → IfSome now (λ files. absent ≡ not (is_some (item_at files path)))
    → IfSome before (λ files. Keeps (sha256 bytes) bytes (item_at files (tree_path store (sha256 bytes))) (Ok tt))
absent_keeps store bytes path before now absent e at apart kept told = by before
    (still (λ found. absent ≡ not (is_some found)) (new_path store) path before now apart kept told)
  where
    by : (o : Option Tree) → IfSome o (λ files. absent ≡ not (is_some (item_at files path)))
        → IfSome o (λ files. Keeps (sha256 bytes) bytes (item_at files (tree_path store (sha256 bytes))) (Ok tt))
    by None t = tt
    by (Some files) t = subst (λ found. Keeps (sha256 bytes) bytes found (Ok tt))
        (sym (ap (item_at files) (sym at) ∙ none_is (item_at files path) (sym e ∙ t))) tt

pub rename_right : (store bytes path file : List ℕ) (before now : Option Tree) (absent : Bool)
    (answer : Result (Unit {0}) FileFault) (x y : ℕ) → absent ≡ true → file ≡ new_path store
    → parent_of path ≡ trees_of store → now ≡ option_map (begun_with store bytes) before
    → IfSome now (λ files. absent ≡ not (is_some (item_at files path)))
    → CountsMisuse (option_map (λ t. can_rename t file path) now) answer x y → y ≡ x
rename_right store bytes path file before now absent answer x y e new parent is told counts = right
    (λ t. can_rename t file path) now answer x y (by before now is told) counts
  where
    one : (now files : Tree) → now ≡ begun_with store bytes files → absent ≡ not (is_some (item_at now path))
        → can_rename now file path ≡ true
    one now files same t = and_from _ _ (and_from _ _
        (ap (λ f. is_file (item_at now f)) new ∙ ap (λ w. is_file (item_at w (new_path store))) same
        ∙ ap is_file (new_item store bytes files)) (ap is_file_or_absent
        (none_is (item_at now path) (sym e ∙ t))))
        (ap (λ p. is_folder (item_at now p)) parent ∙ ap (λ w. is_folder (item_at w (trees_of store))) same
        ∙ folder_item store bytes files)

    by : (o o1 : Option Tree) → o1 ≡ option_map (begun_with store bytes) o
        → IfSome o1 (λ files. absent ≡ not (is_some (item_at files path)))
        → IfSome o1 (λ t. IsTrue (can_rename t file path))
    by o None e t = tt
    by None (Some now) e t = absurd (cc)
    by (Some files) (Some now) e t = let same : now ≡ begun_with store bytes files = cc in one now files same t

-- ---- where a file stands there

cleared_is : (store bytes : List ℕ) (files : Tree) → without (new_path store) (begun_with store bytes files)
    ≡ without (new_path store) (folder_made (trees_of store) files)
cleared_is store bytes files = same_tree _ _ (λ q. get-without (new_path store) (begun_with store bytes files) q
    ∙ ap (λ x. cond (not (is_within (new_path store) q)) x None)
    (get-insert_bytes (folder_made (trees_of store) files) (new_path store) (item.File false bytes) q)
    ∙ by q (bytes_eq q (new_path store)) refl ∙ sym (get-without (new_path store)
    (folder_made (trees_of store) files) q))
  where
    by : (q : List ℕ) (v : Bool) → bytes_eq q (new_path store) ≡ v
        → cond (not (is_within (new_path store) q)) (cond v (Some (item.File false bytes))
        (get (folder_made (trees_of store) files) q)) None ≡ cond (not (is_within (new_path store) q))
        (get (folder_made (trees_of store) files) q) None
    by q false e = refl
    by q true e = let here : is_within (new_path store) q ≡ true = ap (is_within (new_path store))
        ((bytes_eq-Decides q (new_path store)).0 e) ∙ within_itself (new_path store)
        in ap (λ v. cond (not v) (Some (item.File false bytes)) None) here
        ∙ sym (ap (λ v. cond (not v) (get (folder_made (trees_of store) files) q) None) here)

left_is : (found : Option Item) (file path bytes : List ℕ) (files : Tree) → IsTrue (is_file found)
    → named_or_left found file path bytes files ≡ without file files
left_is None file path bytes files f = absurd (cc)
left_is (Some x) file path bytes files f = refl

pub settled_files : (store bytes path file : List ℕ) (before now next : Option Tree)
    → path ≡ tree_path store (sha256 bytes) → file ≡ new_path store → AreApart (new_path store) path
    → KeptAround (new_path store) before now → now ≡ option_map (begun_with store bytes) before
    → IfSome now (λ files. IsTrue (is_file (item_at files path))) → next ≡ option_map (without file) now
    → next ≡ option_map (bytes_put store bytes) before
settled_files store bytes path file before now next at new apart kept is stands changed = changed
    ∙ ap (option_map (without file)) is ∙ by before (still (λ found. IsTrue (is_file found))
    (new_path store) path before now apart kept stands)
  where
    by : (o : Option Tree) → IfSome o (λ files. IsTrue (is_file (item_at files path)))
        → option_map (without file) (option_map (begun_with store bytes) o) ≡ option_map (bytes_put store bytes) o
    by None t = refl
    by (Some files) t = ap Some (ap (λ f. without f (begun_with store bytes files)) new ∙ cleared_is store bytes files
        ∙ sym (left_is (item_at files (tree_path store (sha256 bytes))) (new_path store)
        (tree_path store (sha256 bytes)) bytes (folder_made (trees_of store) files)
        (subst (λ p. IsTrue (is_file (item_at files p))) at t)))

-- nothing stands where a file was removed
pub is_cleared : (store file : List ℕ) (now next : Option Tree) → file ≡ new_path store
    → next ≡ option_map (without file) now → IsCleared store next
is_cleared store file now next new changed = subst (IsCleared store)
    (sym (changed ∙ ap (λ f. option_map (without f) now) new)) (by now)
  where
    by : (o : Option Tree) → IsCleared store (option_map (without (new_path store)) o)
    by None = tt
    by (Some files) = ap (λ v. cond v (Some item.Folder) (get (without (new_path store) files) (new_path store)))
        (new_plain store) ∙ get-without (new_path store) files (new_path store)
        ∙ ap (λ v. cond (not v) (get files (new_path store)) None) (within_itself (new_path store))

-- ---- misuse of comparing

pub compared_right : (store bytes path file : List ℕ) (before now : Option Tree) (x y : ℕ)
    → path ≡ tree_path store (sha256 bytes) → file ≡ new_path store → AreApart (new_path store) path
    → KeptAround (new_path store) before now → now ≡ option_map (begun_with store bytes) before
    → IfSome now (λ files. false ≡ not (is_some (item_at files path)))
    → MayMisuse (option_map (λ t. is_file (item_at t path) && is_file (item_at t file)) now) x y
    → MayMisuse (option_map (λ t. is_file_or_absent (item_at t (tree_path store (sha256 bytes)))) before) x y
unfolding KeptAround
compared_right store bytes path file before now x y at new apart kept is stands m = by before now kept is stands m
  where
    weaker : (v w : Bool) → (w ≡ true → v ≡ true) → MayMisuse (Some v) x y → MayMisuse (Some w) x y
    weaker true true h m = m
    weaker true false h m = omega (arith, m)
    weaker false true h m = absurd (let no : false ≡ true = h refl in cc)
    weaker false false h m = m

    is_one : (found : Option Item) → false ≡ not (is_some found) → is_file_or_absent found ≡ true → is_file found ≡ true
    is_one None s f = absurd (cc)
    is_one (Some item.Folder) s f = absurd (cc)
    is_one (Some (item.File exec bytes)) s f = refl
    is_one (Some (item.Link target)) s f = absurd (cc)
    is_one (Some item.Odd) s f = absurd (cc)

    by : (o o1 : Option Tree) → KeptAround (new_path store) o o1 → o1 ≡ option_map (begun_with store bytes) o
        → IfSome o1 (λ files. false ≡ not (is_some (item_at files path)))
        → MayMisuse (option_map (λ t. is_file (item_at t path) && is_file (item_at t file)) o1) x y
        → MayMisuse (option_map (λ t. is_file_or_absent (item_at t (tree_path store (sha256 bytes)))) o) x y
    by None None k e s m = m
    by None (Some now) k e s m = absurd k
    by (Some files) None k e s m = absurd k
    by (Some files) (Some now) k e s m =
        let same : now ≡ begun_with store bytes files = cc in
        let there : item_at now path ≡ item_at files (tree_path store (sha256 bytes)) = item_kept
        (new_path store) path files now apart k ∙ ap (item_at files) at in
        let here : is_file (item_at now file) ≡ true = ap (λ f. is_file (item_at now f)) new
        ∙ ap (λ w. is_file (item_at w (new_path store))) same ∙ ap is_file (new_item store bytes files) in
        weaker (is_file (item_at now path) && is_file (item_at now file))
        (is_file_or_absent (item_at files (tree_path store (sha256 bytes))))
        (λ w. and_from _ _ (is_one (item_at now path) s (ap is_file_or_absent there ∙ w)) here) m

pub same_right : (o : Option Tree) (p : Tree → Bool) (x y : ℕ) → y ≡ x → MayMisuse (option_map p o) x y
same_right None p x y e = e
same_right (Some files) p x y e = by (p files)
  where
    by : (v : Bool) → MayMisuse (Some v) x y
    by true = e
    by false = omega (arith, e)

pub where_so : (cause : Cause) (P : Type 0) → P → WhereDecided cause P
where_so (FileFailed path) P h = tt
where_so ChildFailed P h = tt
where_so OutOfMemory P h = tt
where_so Decided P h = h

-- ---- what putting leaves

pub put_others : {A : Type 0} {store : List ℕ} {a b : Seen} {r : Result A StoreFault}
    → LeavesButFile (new_path store) a r b → LeavesButPut store a r b
put_others {A} {store} {a} {b} {r} h = record {
  kept = by r h.around.files;
  place = stays r h.place;
  runs =
      h.around.runs;
  misused = h.around.misused;
  children = h.children;
  counts = h.counts;
  cause = h.cause;
}
  where
    by : (r : Result A StoreFault) → KeptAround (new_path store) a.files b.files
        → OnErr r (KeptAround (new_path store) a.files b.files)
    by (Ok v) k = tt
    by (Err fault) k = k

    stays : (r : Result A StoreFault) → KeptFile (new_path store) a.files b.files
        → OnErr r (KeptFile (new_path store) a.files b.files)
    stays (Ok v) k = tt
    stays (Err fault) k = k

pub put_others_then : {A B : Type 0} {store : List ℕ} {a b c : Seen} {v : A} {r : Result B StoreFault}
    → LeavesButFile (new_path store) a (Ok v) b → LeavesButPut store b r c → LeavesButPut store a r c
put_others_then {B = B} {store} {a} {b} {c} {v} {r} first next = record {
  kept = by r next.kept;
  place = stays r next.place;
  runs = next.runs ∙ first.around.runs;
  misused = let f : a.misused ≤ b.misused = first.around.misused in let n : b.misused ≤ c.misused = next.misused
      in omega (arith, f, n);
  children = next.children ∙ first.children;
  counts = let same : b.file_faults ≡ a.file_faults = first.counts
      in subst (λ n. CountsFiles cause_of r n c.file_faults) same next.counts;
  cause = next.cause;
}
  where
    by : (r : Result B StoreFault) → OnErr r (KeptAround (new_path store) b.files c.files)
        → OnErr r (KeptAround (new_path store) a.files c.files)
    by (Ok v) k = tt
    by (Err fault) k = kept_on (new_path store) a.files b.files c.files first.around.files k

    stays : (r : Result B StoreFault) → OnErr r (KeptFile (new_path store) b.files c.files)
        → OnErr r (KeptFile (new_path store) a.files c.files)
    stays (Ok v) k = tt
    stays (Err fault) k = place_on (new_path store) a.files b.files c.files first.place k

-- another value
pub put_others_value : {A B : Type 0} {store : List ℕ} {a b : Seen} {v : A} (w : B) → LeavesButPut store a (Ok v) b
    → LeavesButPut store a (Ok w) b
put_others_value w h = record {
  kept = tt;
  place = tt;
  runs = h.runs;
  misused = h.misused;
  children = h.children;
  counts = h.counts;
  cause = tt;
}

pub put_others_stop : {A B : Type 0} {store : List ℕ} {a b : Seen} {fault : StoreFault}
    → LeavesButPut {A = A} store a (Err fault) b → LeavesButPut {A = B} store a (Err fault) b
put_others_stop h = record {
  kept = h.kept;
  place = h.place;
  runs = h.runs;
  misused = h.misused;
  children =
      h.children;
  counts = h.counts;
  cause = h.cause;
}

pub rename_others : {W : Type 0} (ghosts : world.Ghosts W) (store path : List ℕ) (allows : Option Bool)
    (answer : Result (Unit {0}) FileFault) (result : Result (Unit {0}) StoreFault) (old new : W)
    → OnErr answer (ghosts.tree new ≡ ghosts.tree old) → OnErr result (IsTrue (is_err answer))
    → ghosts.runs new ≡ ghosts.runs old → ghosts.child_faults new ≡ ghosts.child_faults old
    → CountsFailed answer (ghosts.file_faults old) (ghosts.file_faults new)
    → LastFailed path answer (ghosts.failed_at old) (ghosts.failed_at new)
    → ((before now : ℕ) → CountsFailed answer before now → CountsFiles cause_of result before now)
    → ((before now : Option (List ℕ)) → LastFailed path answer before now
    → IfErr result (λ fault. IsReadCause now (cause_of fault)))
    → CountsMisuse allows answer (ghosts.misused old) (ghosts.misused new)
    → LeavesButPut store (seen ghosts old) result (seen ghosts new)
rename_others ghosts store path allows answer result old new same err runs children counted failed counts cause
    misused = record {
      kept = by answer result same err;
      place = stays answer result same err;
      runs = runs;
      misused = never_falls allows answer _ _ misused;
      children = children;
      counts = counts _ _ counted;
      cause = cause _ _ failed;
    }
  where
    by : (answer : Result (Unit {0}) FileFault) (r : Result (Unit {0}) StoreFault)
        → OnErr answer (ghosts.tree new ≡ ghosts.tree old) → OnErr r (IsTrue (is_err answer))
        → OnErr r (KeptAround (new_path store) (ghosts.tree old) (ghosts.tree new))
    by answer (Ok v) s e = tt
    by (Ok v) (Err fault) s e = absurd (cc)
    by (Err f) (Err fault) s e = kept_itself (new_path store) (ghosts.tree old) (ghosts.tree new) s

    stays : (answer : Result (Unit {0}) FileFault) (r : Result (Unit {0}) StoreFault)
        → OnErr answer (ghosts.tree new ≡ ghosts.tree old) → OnErr r (IsTrue (is_err answer))
        → OnErr r (KeptFile (new_path store) (ghosts.tree old) (ghosts.tree new))
    stays answer (Ok v) s e = tt
    stays (Ok v) (Err fault) s e = absurd (cc)
    stays (Err f) (Err fault) s e = place_itself (new_path store) (ghosts.tree old) (ghosts.tree new) s

-- ---- what is answered

free_cleared : (store : List ℕ) (o : Option Tree) (fault : StoreFault) → IsTrue (is_free fault)
    → WhereDecided (cause_of fault) (IsCleared store o)
free_cleared store o fault free = unless_free fault (IsCleared store o) free

-- refused anyway
pub names_free : {store bytes : List ℕ} {before : Option Tree} {a b : Seen} {fault : StoreFault}
    → IsTrue (is_free fault) → MayMisuse (option_map
    (λ t. is_file_or_absent (item_at t (tree_path store (sha256 bytes)))) before) a.misused b.misused
    → NamesBytes store bytes before a (Err fault) b
names_free {store} {bytes} {before} {a} {b} {fault} free right = record {
  keeps = free_keeps before (tree_path store (sha256 bytes))
      (sha256 bytes) bytes fault free;
  files = tt;
  cleared = free_cleared store b.files fault free;
  right = right;
}

pub names_renamed : {store bytes : List ℕ} {before : Option Tree} {a b : Seen} {r : Result (Unit {0}) StoreFault}
    → IfErr r (λ fault. IsTrue (is_free fault)) → IfSome before
    (λ files. Keeps (sha256 bytes) bytes (item_at files (tree_path store (sha256 bytes))) (Ok tt))
    → OnOk r (b.files ≡ option_map (bytes_put store bytes) before) → b.misused ≡ a.misused
    → NamesBytes store bytes before a r b
names_renamed {store} {bytes} {before} {a} {b} {r} free keeps files same = by r free files
  where
    stays : MayMisuse (option_map (λ t. is_file_or_absent (item_at t (tree_path store (sha256 bytes)))) before)
        a.misused b.misused
    stays = same_right before (λ t. is_file_or_absent (item_at t (tree_path store (sha256 bytes)))) a.misused
        b.misused same

    by : (r : Result (Unit {0}) StoreFault) → IfErr r (λ fault. IsTrue (is_free fault))
        → OnOk r (b.files ≡ option_map (bytes_put store bytes) before) → NamesBytes store bytes before a r b
    by (Ok done) free files = record { keeps = keeps; files = files; cleared = tt; right = stays }
    by (Err fault) free files = names_free free stays

pub names_from : {store bytes : List ℕ} {before : Option Tree} {a b c : Seen} {r : Result (Unit {0}) StoreFault}
    → b.misused ≡ a.misused → NamesBytes store bytes before b r c → NamesBytes store bytes before a r c
names_from {store} {bytes} {before} {a} {b} {c} same h = record {
  keeps = h.keeps;
  files = h.files;
  cleared = h.cleared;
  right = subst
      (λ n. MayMisuse (option_map (λ t. is_file_or_absent (item_at t (tree_path store (sha256 bytes)))) before) n
      c.misused) same h.right;
}

-- compared, and removed
short_told : (o : Option Tree) (path bytes : List ℕ) (same : Bool) (len : ℕ) → length bytes ≤ len
    → IfSome o (λ files. length bytes ≤ len → IsTrue same ↔ (bytes_of (item_at files path) ≡ bytes))
    → IfSome o (λ files. IsTrue same ↔ (contents files path ≡ bytes))
short_told None path bytes same len short t = tt
short_told (Some files) path bytes same len short t = t short

settled_keeps : (o : Option Tree) (path digest bytes : List ℕ) (same : Bool) (r : Result (Unit {0}) StoreFault)
    (v : Bool) → same ≡ v → ClashesUnless v digest r → digest ≡ sha256 bytes
    → IfSome o (λ files. IsTrue same ↔ (contents files path ≡ bytes))
    → IfSome o (λ files. IsTrue (is_file (item_at files path)))
    → IfSome o (λ files. Keeps (sha256 bytes) bytes (item_at files path) r)
settled_keeps o path digest bytes same r true e c is told stands = subst
    (λ r. IfSome o (λ files. Keeps (sha256 bytes) bytes (item_at files path) r)) (sym c)
    (same_keeps o path (sha256 bytes) bytes same e told stands)
settled_keeps o path digest bytes same r false e c is told stands = subst
    (λ r. IfSome o (λ files. Keeps (sha256 bytes) bytes (item_at files path) r))
    (sym (c ∙ ap (λ d. Err (Clash d)) is)) (other_keeps o path (sha256 bytes) bytes same e told stands)

settled_put : (store bytes : List ℕ) (before now : Option Tree) (r : Result (Unit {0}) StoreFault)
    → now ≡ option_map (bytes_put store bytes) before → OnOk r (now ≡ option_map (bytes_put store bytes) before)
settled_put store bytes before now (Ok done) put = put
settled_put store bytes before now (Err fault) put = tt

settled_gone : (store : List ℕ) (now : Option Tree) (r : Result (Unit {0}) StoreFault) → IsCleared store now
    → IfErr r (λ fault. WhereDecided (cause_of fault) (IsCleared store now))
settled_gone store now (Ok done) gone = tt
settled_gone store now (Err fault) gone = where_so (cause_of fault) (IsCleared store now) gone

pub names_settled : (store bytes path file digest : List ℕ) (before now : Option Tree) (a b : Seen)
    (r : Result (Unit {0}) StoreFault) (same : Bool) (len : ℕ) → ClashesUnless same digest r
    → digest ≡ sha256 bytes → length bytes ≤ len → path ≡ tree_path store (sha256 bytes) → file ≡ new_path store
    → AreApart (new_path store) path
    → KeptAround (new_path store) before now → now ≡ option_map (begun_with store bytes) before
    → IfSome now (λ files. length (bytes_of (item_at files file)) ≤ len
    → IsTrue same ↔ (bytes_of (item_at files path) ≡ bytes_of (item_at files file)))
    → IfSome now (λ files. IsTrue (is_file (item_at files path)))
    → b.files ≡ option_map (without file) now → MayMisuse (option_map
    (λ t. is_file_or_absent (item_at t (tree_path store (sha256 bytes)))) before) a.misused b.misused
    → NamesBytes store bytes before a r b
names_settled store bytes path file digest before now a b r same len clash digest_is short at new apart kept is
    told stands removed allowed = record {
      keeps = subst (λ p. IfSome before (λ files. Keeps (sha256 bytes) bytes (item_at files p) r)) at
          (settled_keeps before path digest bytes same r same refl clash digest_is
          (short_told before path bytes same len short (new_told store bytes path before now
          (λ found new. length new ≤ len → IsTrue same ↔ (bytes_of found ≡ new)) apart kept is
          (subst (λ f. IfSome now (λ files. length (bytes_of (item_at files f)) ≤ len
          → IsTrue same ↔ (bytes_of (item_at files path) ≡ bytes_of (item_at files f)))) new told)))
          (still (λ found. IsTrue (is_file found)) (new_path store) path before now apart kept stands));
      files = settled_put store bytes before b.files r
          (settled_files store bytes path file before now b.files at new apart kept is stands removed);
      cleared = settled_gone store b.files r (is_cleared store file now b.files new removed);
      right = allowed;
    }

pub clash_counts : (same : Bool) (digest : List ℕ) (r : Result (Unit {0}) StoreFault)
    → ClashesUnless same digest r → (n : ℕ) → CountsFiles cause_of r n n
clash_counts true digest r h n = subst (λ r. CountsFiles cause_of r n n) (sym h) refl
clash_counts false digest r h n = subst (λ r. CountsFiles cause_of r n n) (sym h) refl

pub clash_blames : (same : Bool) (digest : List ℕ) (r : Result (Unit {0}) StoreFault) (folder : List ℕ)
    → ClashesUnless same digest r → IfErr r (BlamesWithin folder)
clash_blames true digest r folder h = subst (λ r. IfErr r (BlamesWithin folder)) (sym h) tt
clash_blames false digest r folder h = subst (λ r. IfErr r (BlamesWithin folder)) (sym h) tt

-- a call on a path in a folder
pub blames_in : {A : Type 0} (folder path : List ℕ) (r : Result A StoreFault) → is_within folder path ≡ true
    → IfErr r (BlamesAt path) → IfErr r (BlamesWithin folder)
blames_in folder path (Ok v) within h = tt
blames_in folder path (Err (File blamed)) within h = ap (is_within folder) h ∙ within
blames_in folder path (Err (OddFile odd)) within h = tt
blames_in folder path (Err (Limit kind)) within h = tt
blames_in folder path (Err (NoTree digest)) within h = tt
blames_in folder path (Err (Damaged asked found bad)) within h = tt
blames_in folder path (Err (Clash digest)) within h = tt
blames_in folder path (Err Memory) within h = tt

pub either_in : {A : Type 0} (folder path : List ℕ) (r : Result A StoreFault) → is_within folder path ≡ true
    → IfErr r (BlamesEither folder path) → IfErr r (BlamesWithin folder)
either_in folder path (Ok v) within h = tt
either_in folder path (Err (File blamed)) within (inl h) = h
either_in folder path (Err (File blamed)) within (inr h) = ap (is_within folder) h ∙ within
either_in folder path (Err (OddFile odd)) within h = tt
either_in folder path (Err (Limit kind)) within h = tt
either_in folder path (Err (NoTree digest)) within h = tt
either_in folder path (Err (Damaged asked found bad)) within h = tt
either_in folder path (Err (Clash digest)) within h = tt
either_in folder path (Err Memory) within h = tt

-- all bytes that were taken stand in the file, where none is held
pub record IsFlushed (store bytes : List ℕ) (before : Option Tree) (s : WriterState) (now : Option Tree) : Type 0 where
  pub hashed : Holds256 s.hasher bytes
  pub files : now ≡ option_map (begun_with store bytes) before
  pub kept : KeptAround (new_path store) before now

pub is_flushed : {store bytes more : List ℕ} {before now : Option Tree} {s : WriterState} (file : List ℕ)
    → s.target ≡ ToFile file → more ≡ [] → s.piece ≡ [] → HasWritten store before s (bytes ++ more) now
    → IsFlushed store bytes before s now
is_flushed {store} {bytes} {more} {before} {now} {s} file at none empty h = record {
  hashed = subst (Holds256 s.hasher) all h.hashed;
  files = (subst (λ t. WentTo store before t h.first now) at h.gone.went).1
      ∙ ap (λ b. option_map (begun_with store b) before)
      (sym (append-nil h.first) ∙ ap (λ p. h.first ++ p) (sym empty) ∙ sym h.is ∙ all);
  kept = h.gone.kept;
}
  where
    all : bytes ++ more ≡ bytes
    all = ap (λ m. bytes ++ m) none ∙ append-nil bytes

-- ---- a refusal, once the file is removed

pub decided_is : (fault : StoreFault) → is_free fault ≡ false → cause_of fault ≡ Decided
decided_is (File path) e = absurd (cc)
decided_is Memory e = absurd (cc)
decided_is (OddFile path) e = refl
decided_is (Limit kind) e = refl
decided_is (NoTree digest) e = refl
decided_is (Damaged asked found bad) e = refl
decided_is (Clash digest) e = refl

pub last_ok : (path : List ℕ) (answer : Result (Unit {0}) FileFault) (result : Result (Unit {0}) StoreFault)
    (before now : Option (List ℕ)) → OnOk result (IsTrue (is_ok answer)) → LastFailed path answer before now
    → OnOk result (now ≡ before)
last_ok path (Ok done) (Ok v) before now ok last = last
last_ok path (Err fault) (Ok v) before now ok last = absurd (cc)
last_ok path answer (Err fault) before now ok last = tt

-- what was written is removed
removed_around : (store : List ℕ) {file : List ℕ} {a b : Seen} {r : Result (Unit {0}) StoreFault} (first : Seen)
    → file ≡ new_path store → LeavesAround (new_path store) first a → LeavesButFile file a r b
    → LeavesAround (new_path store) first b
removed_around store {file} {a} {b} first new before left = onward (new_path store) first a b before
    (subst (λ p. LeavesAround p a b) new left.around)

removed_place : (store : List ℕ) {file : List ℕ} {a b : Seen} {r : Result (Unit {0}) StoreFault} (first : Seen)
    → file ≡ new_path store → KeptFile (new_path store) first.files a.files → LeavesButFile file a r b
    → KeptFile (new_path store) first.files b.files
removed_place store {file} {a} {b} first new before left = place_on
    (new_path store) first.files a.files b.files before (subst (λ p. KeptFile p a.files b.files) new left.place)

pub cleared_gone : {store file : List ℕ} {a b : Seen} (fault : StoreFault) → file ≡ new_path store
    → LeavesButFile {A = Unit {0}} file a (Ok tt) b → b.failed_at ≡ a.failed_at
    → b.files ≡ option_map (without file) a.files → b.misused ≡ a.misused → IsClearedOf fault store a fault b
cleared_gone {store} {file} {a} {b} fault new left last removed same = record {
  others = λ first f. record {
    around = removed_around store first new f.around left;
    place = removed_place store first new f.place left;
    children = left.children ∙ f.children;
    counts = let stays : b.file_faults ≡ a.file_faults = left.counts
        in subst (λ n. CountsFiles {A = Unit {0}} cause_of (Err fault) first.file_faults n) (sym stays) f.counts;
    cause = subst (λ at. IsReadCause at (cause_of fault)) (sym last) f.cause;
  };
  right = same;
  cleared = where_so (cause_of fault) (IsCleared store b.files) (is_cleared store file a.files b.files new removed);
  same = inr refl;
}

rose : (fault : StoreFault) (x y : ℕ) → CountsFiles {A = Unit {0}} cause_of (Err fault) x y → x ≤ y
rose (File path) x y h = h.later
rose Memory x y h = h
rose (OddFile path) x y h = omega (arith, h)
rose (Limit kind) x y h = omega (arith, h)
rose (NoTree digest) x y h = omega (arith, h)
rose (Damaged asked found bad) x y h = omega (arith, h)
rose (Clash digest) x y h = omega (arith, h)

-- one count after another: where a call failed, or what was read decided, and where the removal fails then
counts_twice : (fault failed : StoreFault) (x y z : ℕ) → IsTrue (is_free failed)
    → CountsFiles {A = Unit {0}} cause_of (Err fault) x y → CountsFiles {A = Unit {0}} cause_of (Err failed) y z
    → CountsFiles {A = Unit {0}} cause_of (Err failed) x z
counts_twice fault (OddFile path) x y z free one two = absurd (cc)
counts_twice fault (Limit kind) x y z free one two = absurd (cc)
counts_twice fault (NoTree digest) x y z free one two = absurd (cc)
counts_twice fault (Damaged asked found bad) x y z free one two = absurd (cc)
counts_twice fault (Clash digest) x y z free one two = absurd (cc)
counts_twice fault Memory x y z free one two = let rises : x ≤ y = rose fault x y one in omega (arith, rises, two)
counts_twice fault (File path) x y z free one two = record {
  later = let rises : x ≤ y = rose fault x y one in let later : y ≤ z = two.later
      in omega (arith, rises, later);
  up = let rises : x ≤ y = rose fault x y one
      in let up : min (y + 1) (2 ^ 64 - 1) ≤ z = two.up in omega (arith, rises, up);
}

pub cleared_failed : {store file : List ℕ} {a b : Seen} (fault failed : StoreFault) → IsTrue (is_free failed)
    → file ≡ new_path store → LeavesButFile {A = Unit {0}} file a (Err failed) b → b.misused ≡ a.misused
    → IsClearedOf fault store a failed b
cleared_failed {store} {file} {a} {b} fault failed free new left same = record {
  others = λ first f. record {
    around = removed_around store first new f.around left;
    place = removed_place store first new f.place left;
    children = left.children ∙ f.children;
    counts = counts_twice fault failed first.file_faults a.file_faults b.file_faults free f.counts left.counts;
    cause = left.cause;
  };
  right = same;
  cleared = unless_free failed (IsCleared store b.files) free;
  same = inl free;
}

-- memory ran out before, whatever the removal answers
pub cleared_memory : {store file : List ℕ} {a b : Seen} (failed : StoreFault) → file ≡ new_path store
    → LeavesButFile {A = Unit {0}} file a (Err failed) b → b.misused ≡ a.misused → IsClearedOf Memory store a Memory b
cleared_memory {store} {file} {a} {b} failed new left same = record {
  others = λ first f. record {
    around = removed_around store first new f.around left;
    place = removed_place store first new f.place left;
    children = left.children ∙ f.children;
    counts = let before : first.file_faults ≤ a.file_faults = f.counts
        in let rises : a.file_faults ≤ b.file_faults = rose failed a.file_faults b.file_faults left.counts
        in omega (arith, before, rises);
    cause = tt;
  };
  right = same;
  cleared = tt;
  same = inr refl;
}

-- the removal's refusal, but where memory ran out before
pub cleared_later : {store file : List ℕ} {a b : Seen} (fault failed answered : StoreFault)
    → IsLater fault failed answered → IsTrue (is_free failed) → file ≡ new_path store
    → LeavesButFile {A = Unit {0}} file a (Err failed) b → b.misused ≡ a.misused → IsClearedOf fault store a answered b
cleared_later {store} {a = a} {b} Memory failed answered is free new left same = subst
    (λ (f : StoreFault). IsClearedOf Memory store a f b) (sym is) (cleared_memory failed new left same)
cleared_later {store} {a = a} {b} (File path) failed answered is free new left same = subst
    (λ (f : StoreFault). IsClearedOf (File path) store a f b) (sym is)
    (cleared_failed (File path) failed free new left same)
cleared_later {store} {a = a} {b} (OddFile path) failed answered is free new left same = subst
    (λ (f : StoreFault). IsClearedOf (OddFile path) store a f b) (sym is)
    (cleared_failed (OddFile path) failed free new left same)
cleared_later {store} {a = a} {b} (Limit kind) failed answered is free new left same = subst
    (λ (f : StoreFault). IsClearedOf (Limit kind) store a f b) (sym is)
    (cleared_failed (Limit kind) failed free new left same)
cleared_later {store} {a = a} {b} (NoTree digest) failed answered is free new left same = subst
    (λ (f : StoreFault). IsClearedOf (NoTree digest) store a f b) (sym is)
    (cleared_failed (NoTree digest) failed free new left same)
cleared_later {store} {a = a} {b} (Damaged asked found bad) failed answered is free new left same = subst
    (λ (f : StoreFault). IsClearedOf (Damaged asked found bad) store a f b) (sym is)
    (cleared_failed (Damaged asked found bad) failed free new left same)
cleared_later {store} {a = a} {b} (Clash digest) failed answered is free new left same = subst
    (λ (f : StoreFault). IsClearedOf (Clash digest) store a f b) (sym is)
    (cleared_failed (Clash digest) failed free new left same)

pub blames_later : (trees : List ℕ) (fault failed answered : StoreFault) → IsLater fault failed answered
    → BlamesWithin trees failed → BlamesWithin trees answered ⊎ (answered ≡ fault)
blames_later trees Memory failed answered is within = inr is
blames_later trees (File path) failed answered is within = inl (subst (BlamesWithin trees) (sym is) within)
blames_later trees (OddFile path) failed answered is within = inl (subst (BlamesWithin trees) (sym is) within)
blames_later trees (Limit kind) failed answered is within = inl (subst (BlamesWithin trees) (sym is) within)
blames_later trees (NoTree digest) failed answered is within = inl (subst (BlamesWithin trees) (sym is) within)
blames_later trees (Damaged asked found bad) failed answered is within = inl
    (subst (BlamesWithin trees) (sym is) within)
blames_later trees (Clash digest) failed answered is within = inl (subst (BlamesWithin trees) (sym is) within)

pub blames_fault : (folder path : List ℕ) (fault : StoreFault) → is_within folder path ≡ true
    → BlamesAt path fault → BlamesWithin folder fault
blames_fault folder path fault within h = let refused : Result (Unit {0}) StoreFault = Err fault
    in blames_in folder path refused within h

-- ---- two files, piece by piece

one_alike : (xs ys : List ℕ) (number : ℕ) → take (number * 65536) xs ≡ take (number * 65536) ys
    → take 65536 (drop (number * 65536) xs) ≡ take 65536 (drop (number * 65536) ys)
    → take ((number + 1) * 65536) xs ≡ take ((number + 1) * 65536) ys
one_alike xs ys number before here = ap (λ n. take n xs) (sym (next_number number))
    ∙ piece_more xs ys (number * 65536) 65536 before here ∙ ap (λ n. take n ys) (next_number number)

-- what a piece said, of files that are as before
said_of : (o o1 : Option Tree) (path file : List ℕ) (at : ℕ) (said is : Compared) → said ≡ is → o1 ≡ o
    → IfSome o1 (λ files. IsCompared (take 65536 (drop at (contents files path)))
    (take 65536 (drop at (contents files file))) said)
    → IfSome o (λ files. IsCompared (take 65536 (drop at (contents files path)))
    (take 65536 (drop at (contents files file))) is)
said_of o o1 path file at said is same stays told =
    subst (λ (v : Compared). IfSome o (λ files. IsCompared (take 65536 (drop at (contents files path)))
    (take 65536 (drop at (contents files file))) v)) same
    (subst (λ x. IfSome x (λ files. IsCompared (take 65536 (drop at (contents files path)))
    (take 65536 (drop at (contents files file))) said)) stays told)

pub both_alike : (o o1 : Option Tree) (path file : List ℕ) (number : ℕ) (said : Compared) → said ≡ Whole → o1 ≡ o
    → IfSome o (λ files. take (number * 65536) (contents files path)
    ≡ take (number * 65536) (contents files file))
    → IfSome o1 (λ files. IsCompared (take 65536 (drop (number * 65536) (contents files path)))
    (take 65536 (drop (number * 65536) (contents files file))) said)
    → IfSome o (λ files. take ((number + 1) * 65536) (contents files path)
    ≡ take ((number + 1) * 65536) (contents files file))
both_alike None o1 path file number said is stays before told = tt
both_alike (Some files) o1 path file number said is stays before told = one_alike (contents files path)
    (contents files file) number before (said_of (Some files) o1 path file
    (number * 65536) said Whole is stays told)

-- the second file ends with these pieces
pub last_alike : (o o1 : Option Tree) (path file : List ℕ) (len number : ℕ) (said : Compared) → said ≡ Last
    → o1 ≡ o → IfSome o (λ files. take (number * 65536) (contents files path)
    ≡ take (number * 65536) (contents files file))
    → IfSome o1 (λ files. IsCompared (take 65536 (drop (number * 65536) (contents files path)))
    (take 65536 (drop (number * 65536) (contents files file))) said)
    → IfSome o (λ files. length (contents files file) ≤ len → IsTrue true ↔ (contents files path ≡ contents files file))
last_alike None o1 path file len number said is stays before told = tt
last_alike (Some files) o1 path file len number said is stays before told = λ _. (
  λ yes. same_to_end (contents files path) (contents files file) ((number + 1) * 65536)
      (ends (contents files file) here.1) (one_alike (contents files path)
      (contents files file) number before here.0),
  λ same. refl,
)
  where
    here : (take 65536 (drop (number * 65536) (contents files path))
        ≡ take 65536 (drop (number * 65536) (contents files file)))
        × (length (take 65536 (drop (number * 65536) (contents files file))) < 65536)
    here = said_of (Some files) o1 path file (number * 65536) said Last is stays told

    ends : (ys : List ℕ) → length (take 65536 (drop (number * 65536) ys)) < 65536 → length ys < (number + 1) * 65536
    ends ys short = omega (arith, short, length-take 65536 (drop (number * 65536) ys), length-drop (number * 65536) ys)

pub one_differs : (o o1 : Option Tree) (path file : List ℕ) (len at : ℕ) (said : Compared) → said ≡ Other → o1 ≡ o
    → IfSome o1 (λ files. IsCompared (take 65536 (drop at (contents files path)))
    (take 65536 (drop at (contents files file))) said)
    → IfSome o (λ files. length (contents files file) ≤ len
    → IsTrue false ↔ (contents files path ≡ contents files file))
one_differs None o1 path file len at said is stays told = tt
one_differs (Some files) o1 path file len at said is stays told = λ short. (
  λ no. absurd (cc),
  λ alike. absurd (said_of (Some files) o1 path file at said Other is stays told
      (ap (λ b. take 65536 (drop at b)) alike)),
)

pub none_differs : (o : Option Tree) (path file : List ℕ) (len number : ℕ) → number ≡ len / 65536 + 1
    → IfSome o (λ files. take (number * 65536) (contents files path)
    ≡ take (number * 65536) (contents files file))
    → IfSome o (λ files. length (bytes_of (item_at files file)) ≤ len
    → IsTrue true ↔ (bytes_of (item_at files path) ≡ bytes_of (item_at files file)))
none_differs None path file len number is alike = tt
none_differs (Some files) path file len number is alike = λ short. (
  λ yes. same_to_end (contents files path) (contents files file) (number * 65536)
      (omega (arith, short, is)) alike,
  λ same. refl,
)

pub may_then : (o : Option Bool) (x : ℕ) {y z : ℕ} → z ≡ y → MayMisuse o x y → MayMisuse o x z
may_then o x same h = subst (λ n. MayMisuse o x n) (sym same) h

ok_by : (P : Type 0) (answer : Result (Unit {0}) FileFault) (r : Result (Unit {0}) StoreFault)
    → OnOk r (IsTrue (is_ok answer)) → OnOk answer P → OnOk r P
ok_by P (Ok v) (Ok w) is h = h
ok_by P (Err f) (Ok w) is h = absurd (cc)
ok_by P answer (Err fault) is h = tt

all_renamed : (P Q : Type 0) (answer : Result (Unit {0}) FileFault) → (P → Q) → OnOk answer P → OnOk answer Q
all_renamed P Q (Ok v) of h = of h
all_renamed P Q (Err f) of h = tt

-- what is told before is told of files that are as before
told_again : (P : Tree → Type 0) (o o1 : Option Tree) → o1 ≡ o → IfSome o P → IfSome o1 P
told_again P o o1 same h = subst (λ x. IfSome x P) (sym same) h

pub stands_there : (o o1 : Option Tree) (path : List ℕ) (absent : Bool) → absent ≡ false → o1 ≡ o
    → IfSome o (λ files. absent ≡ not (is_some (item_at files path)))
    → IfSome o1 (λ files. false ≡ not (is_some (item_at files path)))
stands_there o o1 path absent e same h = told_again (λ files. false ≡ not (is_some (item_at files path))) o o1
    same (subst (λ v. IfSome o (λ files. v ≡ not (is_some (item_at files path)))) e h)

-- nothing stood there, and the file was renamed
pub then_named : (store bytes path file : List ℕ) (before : Option Tree) (absent : Bool)
    (answer : Result (Unit {0}) FileFault) (result : Result (Unit {0}) StoreFault) (a b c : Seen) → absent ≡ true
    → path ≡ tree_path store (sha256 bytes) → file ≡ new_path store → AreApart (new_path store) path
    → parent_of path ≡ trees_of store
    → KeptAround (new_path store) before a.files → a.files ≡ option_map (begun_with store bytes) before
    → IfSome a.files (λ files. absent ≡ not (is_some (item_at files path))) → b.files ≡ a.files
    → b.misused ≡ a.misused
    → OnOk answer (c.files ≡ option_map (renamed file path) b.files) → OnOk result (IsTrue (is_ok answer))
    → IfErr result (λ fault. IsTrue (is_free fault)) → CountsMisuse
    (option_map (λ t. can_rename t file path) b.files) answer b.misused c.misused
    → NamesBytes store bytes before a result c
then_named store bytes path file before absent answer result a b c e at new apart parent kept is told same stays
    changed ok free counts = names_from {b = b} stays (names_renamed {a = b} free
    (absent_keeps store bytes path before a.files absent e at apart kept told)
    (ok_by (c.files ≡ option_map (bytes_put store bytes) before) answer result ok
    (all_renamed (c.files ≡ option_map (renamed file path) b.files)
    (c.files ≡ option_map (bytes_put store bytes) before) answer
    (λ now. named_files store bytes path file before a.files c.files absent e at new apart kept is told
    (now ∙ ap (option_map (renamed file path)) same)) changed))
    (rename_right store bytes path file before b.files absent answer b.misused c.misused e new parent (same ∙ is)
    (told_again (λ files. absent ≡ not (is_some (item_at files path))) a.files b.files same told) counts))

-- some path apart from the file
abbrev pub other_path : List ℕ → List ℕ
other_path store = joined (trees_of store) (46 ∷ 46 ∷ 46 ∷ 46 ∷ [])

pub apart_name : (store : List ℕ) → AreApart (new_path store) (other_path store)
apart_name store = siblings_apart (trees_of store) (codes "new") (46 ∷ 46 ∷ 46 ∷ 46 ∷ []) refl refl
    (λ e. let same : length (codes "new") ≡ 4 = ap length e in absurd (omega arith))

-- the bytes that were written, and refused, are gone
pub others_of_put : {A : Type 0} {store : List ℕ} {a b : Seen} {fault : StoreFault}
    → LeavesButPut {A = A} store a (Err fault) b → LeavesButFile {A = Unit {0}} (new_path store) a (Err fault) b
others_of_put h = record {
  around = record { files = h.kept; runs = h.runs; misused = h.misused };
  place = h.place;
  children = h.children;
  counts = h.counts;
  cause = h.cause;
}

pub puts_cleared : {store bytes : List ℕ} {before : Option Tree} {a b c : Seen} {fault answered : StoreFault}
    → PutsBytes store bytes before a (Err fault) b → IsClearedOf fault store b answered c
    → PutsBytes store bytes before a (Err answered) c
puts_cleared {store} {bytes} {before} {a} {b} {c} {fault} {answered} h clear = record {
  digest = tt;
  named = record {
    keeps = keeps clear.same h.named.keeps;
    files = tt;
    cleared = clear.cleared;
    right = may_then (option_map (λ t. is_file_or_absent (item_at t (tree_path store (sha256 bytes)))) before)
        a.misused clear.right h.named.right;
  };
}
  where
    keeps : IsTrue (is_free answered) ⊎ (answered ≡ fault) → IfSome before
        (λ files. Keeps (sha256 bytes) bytes (item_at files (tree_path store (sha256 bytes))) (Err fault))
        → IfSome before (λ files. Keeps (sha256 bytes) bytes (item_at files (tree_path store (sha256 bytes)))
        (Err answered))
    keeps (inl free) k = free_keeps before (tree_path store (sha256 bytes)) (sha256 bytes) bytes answered free
    keeps (inr same) k = subst (λ (f : StoreFault). IfSome before
        (λ files. Keeps (sha256 bytes) bytes (item_at files (tree_path store (sha256 bytes))) (Err f)))
        (sym same) k
