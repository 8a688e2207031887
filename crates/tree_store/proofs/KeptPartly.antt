-- What stands where laying a stored tree was cut off.
use Rattle.std.proofs.Common.{◌≡◌, ◌≤◌, ◌+◌, ◌-◌, ◌∙◌, refl, sym, ap, subst, arith, ℕ, zero, suc, Bool, true, false}
use Rattle.std.proofs.Common.{if◌then◌else◌, ◌⊎◌, inl, inr, ◌++◌, append_assoc, List, [], ◌∷◌, length, length-append}
use Rattle.std.proofs.Common.{take, drop, Option, Some, None, Result, Ok, Err}
use Rattle.std.specs.Prelude.{Contains, IsTrue, OnErr, OnOk, min}
use Rattle.std.specs.Int.{to_be_bytes, w16, w32, w64}
use Rattle.std.specs.List.{list_any}
use Rattle.std.specs.Option.{option_map}
use Rattle.std.specs.Str.{bytes_eq}
use Rattle.std.proofs.Math.Seq.{drop-append_seam, take-append-add, take-append_seam, take-length}
use Rattle.std.proofs.lemmas.List.{length-take, take-take}
use Rattle.std.proofs.lemmas.List.Elements.{Contains-append_cases, Contains-append_left, Contains-append_right}
use Rattle.cnb_world.specs.Calls.{AppendsSome}
use Rattle.cnb_world.specs.Path.{is_path, joined}
use Rattle.cnb_world.specs.Tree.{Tree, appended, folders_above, is_within, item_at, without}
use Rattle.cnb_world.specs.declared.world.FileFault.{FileFault}
use Rattle.cnb_world.specs.declared.world.Item.TheVariants as item
use Rattle.cnb_world.proofs.Folders.{not_longer}
use Rattle.steps.specs.Outside.{Seen}
use Rattle.tree_canon.specs.Fits.{entries_fit, fits, name_fits}
use Rattle.tree_canon.specs.Names.{is_name, is_target}
use Rattle.tree_canon.specs.Spelling.{entries_bytes, entry_bytes, limit, node_bytes}
use Rattle.tree_canon.specs.declared.node.Named.{Named}
use Rattle.tree_canon.specs.declared.node.Node.{Node}
use Rattle.tree_canon.specs.declared.node.Node.TheVariants.{Folder, File, Link}
use Rattle.tree_canon.proofs.Equations.{node_bytes_file, node_bytes_folder, node_bytes_link}
use Rattle.tree_store.specs.Ahead.{Ahead, Did, Does, Lays, LaysPartly, Reading}
use Rattle.tree_store.specs.Around.{IsMadeAbove, KeepsAround, KeptAround, LeavesAround}
use Rattle.tree_store.specs.Laying.{entries_laid, entry_laid, file_laid, file_set}
use Rattle.tree_store.specs.Overlay.{Given, folder_at, items_of, items_of_entry}
use Rattle.tree_store.specs.Partly.{IsOldOrPart, IsPartOf, LaidPartly}
use Rattle.tree_store.specs.Right.{AreFolders, way_into, way_to}
use Rattle.tree_store.specs.Source.{Source}
use Rattle.tree_store.specs.declared.fault.StoreFault.{StoreFault}
use Rattle.tree_store.proofs.Ahead.{does_nothing, does_on, lays_as, lays_bytes, reads_stop}
use Rattle.tree_store.proofs.Apart.{above_begins}
use Rattle.tree_store.proofs.Cases.{AFile, AFolder, ALink, Cased, NextEntry, cased, next_bytes, target_of}
use Rattle.tree_store.proofs.Contents.{ContentsLeft, one_more}
use Rattle.tree_store.proofs.Fields.{ahead_few}
use Rattle.tree_store.proofs.Fit.{FitsAt}
use Rattle.tree_store.proofs.Overlays.{items_entry, items_folder, items_in}
use Rattle.tree_store.proofs.Partly.{AreAmong, cleared_partly, folder_has, one_has, partly_itself, partly_more}
use Rattle.tree_store.proofs.Partly.{partly_then, partly_wider, written_partly}
use Rattle.tree_store.proofs.PartlyLaid.{folder_among}
use Rattle.tree_store.proofs.Places.{is_at_or_below, name_form, not_below, or_from, or_parts, shorter_away}
use Rattle.tree_store.proofs.Places.{starts_split}
use Rattle.tree_store.proofs.Right.{name_way}

-- ---- what is read only

-- a path beside another
beyond : List ℕ → List ℕ
beyond q = q ++ 120 ∷ 120 ∷ []

beyond_away : (q : List ℕ) → is_within (beyond q) q ≡ false
unfolding beyond
beyond_away q =
    let long : length (q ++ 120 ∷ 120 ∷ []) ≡ length q + 2 = length-append q (120 ∷ 120 ∷ []) in
    let away : is_at_or_below (q ++ 120 ∷ 120 ∷ []) q ≡ false = shorter_away (q ++ 120 ∷ 120 ∷ []) q
    (omega (arith, long)) in
    or_from _ _ (not_longer (q ++ 120 ∷ 120 ∷ []) (47 ∷ []) (omega (arith, long)))
    (or_from _ _ (or_parts _ _ away).0 (not_below (q ++ 120 ∷ 120 ∷ []) q away))

above_beyond : (q : List ℕ) → list_any (bytes_eq q) (folders_above (beyond q)) ≡ true → ⊥
unfolding beyond
above_beyond q h = tails (drop (length (q ++ 47 ∷ [])) (q ++ 120 ∷ 120 ∷ []))
    (starts_split (q ++ 120 ∷ 120 ∷ []) (q ++ 47 ∷ []) (above_begins [] (q ++ 120 ∷ 120 ∷ []) q h))
  where
    tails : (rest : List ℕ) → q ++ 120 ∷ 120 ∷ [] ≡ (q ++ 47 ∷ []) ++ rest → ⊥
    tails rest is = let no : 120 ∷ 120 ∷ [] ≡ 47 ∷ rest = sym (drop-append_seam q (120 ∷ 120 ∷ []))
        ∙ ap (drop (length q)) (is ∙ append_assoc q (47 ∷ []) rest) ∙ drop-append_seam q (47 ∷ rest) in cc

kept_item : (a b : Tree) (q : List ℕ) → ((path : List ℕ) → KeepsAround path a b) → item_at b q ≡ item_at a q
kept_item a b q kept = by (kept (beyond q) q (beyond_away q))
  where
    by : (item_at b q ≡ item_at a q) ⊎ IsMadeAbove (beyond q) q a b → item_at b q ≡ item_at a q
    by (inl same) = same
    by (inr made) = absurd (above_beyond q made.above)

-- what is kept around each path is kept
pub partly_unread : (folder : List ℕ) (given : List Given) (o o1 : Option Tree)
    → ((path : List ℕ) → KeptAround path o o1) → LaidPartly folder given o o1
unfolding KeptAround LaidPartly
partly_unread folder given None None kept = tt
partly_unread folder given None (Some b) kept = absurd (kept [])
partly_unread folder given (Some a) None kept = absurd (kept [])
partly_unread folder given (Some a) (Some b) kept = λ q at. inl (kept_item a b q kept)

pub partly_untold : (path folder : List ℕ) (given : List Given) (o o1 : Option Tree) → o ≡ None
    → KeptAround path o o1 → LaidPartly folder given o o1
unfolding KeptAround LaidPartly
partly_untold path folder given None None none kept = tt
partly_untold path folder given None (Some b) none kept = absurd kept
partly_untold path folder given (Some a) o1 none kept = absurd (cc)

-- ---- one call after another

same_map : (o o1 : Option Tree) → o1 ≡ option_map (λ files. files) o → o1 ≡ o
same_map None o1 e = e
same_map (Some files) o1 e = e

-- a value was read before
pub part_behind : {A : Type 0} (P : A → Type 0) {whole mid folder : List ℕ} {given : List Given}
    {ways : List (List ℕ)} {s0 s1 : Source} {a b d : Seen} {v : A}
    → Reading P whole mid ways s0 a (Ok v) s1 b → (P v → LaysPartly folder given mid ways s1 b d)
    → LaysPartly folder given whole ways s0 a d
part_behind P {whole} {mid} {folder} {given} {ways} {s0} {s1} {a} {b} {d} {v} first next = record
    { so = λ ahead are. by (first.so ahead are) }
  where
    by : Did P mid (λ files. files) ways a (Ok v) s1 b → LaidPartly folder given a.files d.files
    by one = subst (λ o. LaidPartly folder given o d.files) (same_map a.files b.files one.files)
        ((next one.value).so one.ahead one.folders)

-- something was laid before
pub part_after : {whole mid path folder : List ℕ} {few all : List Given} {c : Tree → Tree} {w0 w1 : List (List ℕ)}
    {s0 s1 : Source} {a b d : Seen}
    → Lays whole mid c w0 w1 s0 a (Ok tt) s1 b → LaysPartly path few mid w1 s1 b d
    → (LaidPartly path few b.files d.files → LaidPartly folder all a.files d.files)
    → LaysPartly folder all whole w0 s0 a d
part_after {whole} {mid} {path} {folder} {few} {all} {c} {w0} {w1} {s0} {s1} {a} {b} {d} first next turn = record
    { so = λ ahead are. by (first.so ahead are) }
  where
    by : Did {A = Unit {0}} (λ done. Unit {0}) mid c w1 a (Ok tt) s1 b → LaidPartly folder all a.files d.files
    by one = turn (next.so one.ahead one.folders)

pub part_bytes : {whole other folder : List ℕ} {given : List Given} {ways : List (List ℕ)} {s : Source}
    {a d : Seen} → whole ≡ other → LaysPartly folder given whole ways s a d
    → LaysPartly folder given other ways s a d
part_bytes {whole} {other} {folder} {given} {ways} {s} {a} {d} same h = record
    { so = λ ahead are. h.so (subst (Ahead s a.files) (sym same) ahead) are }

pub part_few : {whole folder : List ℕ} {given : List Given} {ways : List (List ℕ)} {s : Source} {a d : Seen}
    → (length whole ≤ limit → LaysPartly folder given whole ways s a d) → LaysPartly folder given whole ways s a d
part_few {whole} {folder} {given} {ways} {s} {a} {d} h = record { so = λ ahead are. (h (few ahead)).so ahead are }
  where
    few : Ahead s a.files whole → length whole ≤ limit
    few ahead = let sum : s.at + length whole ≤ limit = ahead_few s a.files whole ahead in omega (arith, sum)

-- with other folders before
pub part_from : {whole folder : List ℕ} {given : List Given} {w w0 : List (List ℕ)} {s : Source} {a d : Seen}
    → (AreFolders w a.files → AreFolders w0 a.files) → LaysPartly folder given whole w0 s a d
    → LaysPartly folder given whole w s a d
part_from before h = record { so = λ ahead are. h.so ahead (before are) }

-- ---- a node by its first byte

pub node_parts : (node : Node) (rest path : List ℕ) (depth : ℕ) (ways : List (List ℕ)) (v : ℕ) (s0 s1 : Source)
    (a b d : Seen) → fits node depth ≡ true
    → ((byte : ℕ) (behind : List ℕ) → Reading (λ read. read ≡ byte) (byte ∷ behind) behind ways s0 a (Ok v) s1 b)
    → ((all : List Named) → v ≡ 68 → fits (Folder all) depth ≡ true
    → LaysPartly path (items_of (Folder all) path)
    (to_be_bytes w32 (length all) ++ (entries_bytes all ++ rest)) ways s1 b d)
    → ((exec : Bool) (bytes : List ℕ) → v ≡ 70 → LaysPartly path (items_of (File exec bytes) path)
    ((if exec then 1 else 0) ∷ (to_be_bytes w64 (length bytes) ++ (bytes ++ rest))) ways s1 b d)
    → ((target : List ℕ) → v ≡ 76 → is_target target ≡ true
    → LaysPartly path (items_of (Link target) path) (to_be_bytes w16 (length target) ++ (target ++ rest)) ways
    s1 b d)
    → LaysPartly path (items_of node path) (node_bytes node ++ rest) ways s0 a d
node_parts node rest path depth ways v s0 s1 a b d fit read folder file link = by (cased node)
  where
    by : Cased node → LaysPartly path (items_of node path) (node_bytes node ++ rest) ways s0 a d
    by (AFolder all is) = subst (λ n. LaysPartly path (items_of n path) (node_bytes n ++ rest) ways s0 a d) (sym is)
        (part_bytes (sym (ap (λ l. l ++ rest) (node_bytes_folder all)
        ∙ append_assoc (68 ∷ to_be_bytes w32 (length all)) (entries_bytes all) rest))
        (part_behind (λ read. read ≡ 68) (read 68 (to_be_bytes w32 (length all) ++ (entries_bytes all ++ rest)))
        (λ tag. folder all tag (ap (λ n. fits n depth) (sym is) ∙ fit))))
    by (AFile exec bytes is) = subst (λ n. LaysPartly path (items_of n path) (node_bytes n ++ rest) ways s0 a d)
        (sym is)
        (part_bytes (sym (ap (λ l. l ++ rest) (node_bytes_file exec bytes)
        ∙ append_assoc (70 ∷ (if exec then 1 else 0) ∷ to_be_bytes w64 (length bytes)) bytes rest))
        (part_behind (λ read. read ≡ 70) (read 70 ((if exec then 1 else 0)
        ∷ (to_be_bytes w64 (length bytes) ++ (bytes ++ rest)))) (λ tag. file exec bytes tag)))
    by (ALink target is) = subst (λ n. LaysPartly path (items_of n path) (node_bytes n ++ rest) ways s0 a d) (sym is)
        (part_bytes (sym (ap (λ l. l ++ rest) (node_bytes_link target)
        ∙ append_assoc (76 ∷ to_be_bytes w16 (length target)) target rest))
        (part_behind (λ read. read ≡ 76) (read 76 (to_be_bytes w16 (length target) ++ (target ++ rest)))
        (λ tag. link target tag (target_of target depth (ap (λ n. fits n depth) (sym is) ∙ fit)))))

-- ---- a file

one_only : (x one : Given) → Contains (x ∷ []) one → x ≡ one
one_only x one (zero, lt, is) = is
one_only x one (suc k, lt, is) = absurd (omega (arith, lt))

-- a file that is empty yet
pub empty_partly : (path : List ℕ) (exec : Bool) (bytes : List ℕ) (o o1 : Option Tree)
    → LaidPartly path ((path, item.File exec []) ∷ []) o o1
    → LaidPartly path ((path, item.File exec bytes) ∷ []) o o1
unfolding LaidPartly
empty_partly path exec bytes None None h = tt
empty_partly path exec bytes None (Some b) h = absurd h
empty_partly path exec bytes (Some a) None h = absurd h
empty_partly path exec bytes (Some a) (Some b) h = λ q at. by q (h q at)
  where
    none : (count : ℕ) → take {A = ℕ} count [] ≡ []
    none zero = refl
    none (suc count) = refl

    part : (q : List ℕ) → IsPartOf (path, item.File exec []) q (item_at a q) (item_at b q)
        → IsOldOrPart ((path, item.File exec bytes) ∷ []) q (item_at a q) (item_at b q)
    part q (inl (at, (count, begun))) = inr (
      (path, item.File exec bytes),
      one_has
          (path, item.File exec bytes),
      inl (at, (0, begun ∙ ap (λ l. Some (item.File exec l)) (none count))),
    )
    part q (inr (takes, gone)) = inr (
      (path, item.File exec bytes),
      one_has (path, item.File exec bytes),
      inr
          (takes, gone),
    )

    by : (q : List ℕ) → IsOldOrPart ((path, item.File exec []) ∷ []) q (item_at a q) (item_at b q)
        → IsOldOrPart ((path, item.File exec bytes) ∷ []) q (item_at a q) (item_at b q)
    by q (inl same) = inl same
    by q (inr (one, has, h)) = part q (subst (λ (x : Given). IsPartOf x q (item_at a q) (item_at b q))
        (sym (one_only (path, item.File exec []) one has)) h)

laid_partly : (path : List ℕ) (exec : Bool) (bytes : List ℕ) (count : ℕ) (o o1 : Option Tree)
    → o1 ≡ option_map (file_laid exec (take count bytes) path) o
    → LaidPartly path ((path, item.File exec bytes) ∷ []) o o1
laid_partly path exec bytes count o o1 is = partly_then path ((path, item.File exec bytes) ∷ []) o
    (option_map (without path) o) o1
    (cleared_partly path (item.File exec bytes) (Ok tt) o (option_map (without path) o) refl refl tt)
    (written_partly path exec bytes count (option_map (without path) o) o1 (is ∙ twice o))
  where
    twice : (o : Option Tree) → option_map (file_laid exec (take count bytes) path) o
        ≡ option_map (file_set path exec (take count bytes)) (option_map (without path) o)
    twice None = refl
    twice (Some files) = refl

-- the pieces that were laid
pub contents_partly : (exec : Bool) (path bytes rest : List ℕ) (left : ℕ) (s0 s1 : Source) (a b : Seen)
    → ContentsLeft exec path bytes rest left s0 a s1 b → LaysPartly path ((path, item.File exec bytes) ∷ [])
    (bytes ++ rest) (way_to path) s0 a b
contents_partly exec path bytes rest left s0 s1 a b h = record { so = λ ahead are. by (h.lays.so ahead are) }
  where
    first : h.written ≡ take (length h.written) bytes
    first = sym (ap (take (length h.written)) h.is ∙ take-append_seam h.written h.more)

    by : Did {A = Unit {0}} (λ done. Unit {0}) (h.more ++ rest) (file_laid exec h.written path) [] a (Ok tt) s1 b
        → LaidPartly path ((path, item.File exec bytes) ∷ []) a.files b.files
    by one = laid_partly path exec bytes (length h.written) a.files b.files
        (one.files ∙ ap (λ w. option_map (file_laid exec w path) a.files) first)

-- one more piece, of which the first bytes alone may have been added
pub contents_cut : (exec : Bool) (path bytes whole written more rest : List ℕ) (size : ℕ) (ways : List (List ℕ))
    (s0 s1 s2 : Source) (a b c d : Seen) (piece value : List ℕ) (answer : Result (Unit {0}) FileFault)
    → bytes ≡ written ++ more → Lays whole (take size more ++ (drop size more ++ rest))
    (file_laid exec written path) ways [] s0 a (Ok tt) s1 b
    → Reading (λ read. read ≡ take size more) (take size more ++ (drop size more ++ rest))
    (drop size more ++ rest) [] s1 b (Ok value) s2 c
    → piece ≡ value → OnOk answer (d.files ≡ option_map (appended path piece) c.files)
    → OnErr answer (AppendsSome c.files d.files path piece)
    → LaysPartly path ((path, item.File exec bytes) ∷ []) whole ways s0 a d
contents_cut exec path bytes whole written more rest size ways s0 s1 s2 a b c d piece value answer is first read
    same ok err = record { so = λ ahead are. by (first.so ahead are) }
  where
    begun : (count : ℕ) → count ≤ length (take size more) → written ++ take count (take size more)
        ≡ take (length written + count) bytes
    begun count le =
        let most : length (take size more) ≡ min size (length more) = length-take size more in
        ap (λ l. written ++ l) (take-take count size more (omega (arith, most, le)))
        ∙ sym (ap (take (length written + count)) is ∙ take-append-add written more count)

    wrote : c.files ≡ option_map (file_laid exec written path) a.files
        → LaidPartly path ((path, item.File exec bytes) ∷ []) a.files c.files
    wrote laid = laid_partly path exec bytes (length written) a.files c.files
        (laid ∙ ap (λ w. option_map (file_laid exec w path) a.files)
        (sym (ap (take (length written)) is ∙ take-append_seam written more)))

    Added : List ℕ → Type 0
    Added field = (d.files ≡ c.files) ⊎ ((count : ℕ) × (count ≤ length field)
        × (d.files ≡ option_map (appended path (take count field)) c.files))

    added : (answer : Result (Unit {0}) FileFault) → OnOk answer
        (d.files ≡ option_map (appended path piece) c.files) → OnErr answer
        (AppendsSome c.files d.files path piece) → Added piece
    added (Ok done) ok err = inr (
      length piece,
      omega arith,
      ok
          ∙ ap (λ l. option_map (appended path l) c.files) (sym (take-length piece)),
    )
    added (Err fault) ok (inl kept) = inl kept
    added (Err fault) ok (inr (can, count, le, now)) = inr (count, le, now)

    more_of : (field : List ℕ) → field ≡ take size more → Added field
        → b.files ≡ option_map (file_laid exec written path) a.files
        → c.files ≡ option_map (λ files. files) b.files → LaidPartly path
        ((path, item.File exec bytes) ∷ []) a.files d.files
    more_of field at (inl kept) laid read = subst (LaidPartly path ((path, item.File exec bytes) ∷ []) a.files)
        (sym kept) (wrote (same_map b.files c.files read ∙ laid))
    more_of field at (inr (count, le, now)) laid read = laid_partly path exec bytes
        (length written + count) a.files d.files
        (one_more exec written (take count field) path a.files b.files c.files d.files laid read now
        ∙ ap (λ w. option_map (file_laid exec w path) a.files)
        (ap (λ f. written ++ take count f) at ∙ begun count (subst (λ f. count ≤ length f) at le)))

    two : Did (λ read. read ≡ take size more) (drop size more ++ rest) (λ files. files) [] b (Ok value) s2 c
        → b.files ≡ option_map (file_laid exec written path) a.files
        → LaidPartly path ((path, item.File exec bytes) ∷ []) a.files d.files
    two did laid = more_of piece (same ∙ did.value) (added answer ok err) laid did.files

    by : Did {A = Unit {0}} (λ done. Unit {0}) (take size more ++ (drop size more ++ rest))
        (file_laid exec written path) [] a (Ok tt) s1 b → LaidPartly path
        ((path, item.File exec bytes) ∷ []) a.files d.files
    by one = two (read.so one.ahead one.folders) one.files

-- ---- entries

entry_among : (front : List Named) (e : Named) (others : List Named) (path : List ℕ)
    → AreAmong (items_of e.node (joined path e.name)) (items_in (front ++ e ∷ others) path)
entry_among [] e others path = λ one has. Contains-append_left (items_of_entry e path) (items_in others path) one
    (subst (λ g. Contains {X = Given} g one) (sym (items_entry e path)) has)
entry_among (x ∷ xs) e others path = λ one has. Contains-append_right (items_of_entry x path)
    (items_in (xs ++ e ∷ others) path) one (entry_among xs e others path one has)

-- Some entries were laid, and so many are left: this is the last name of those, and laying the others ends the laying
-- of all.
pub record EntriesBegun (path : List ℕ) (depth : ℕ) (all : List Named) (rest : List ℕ) (left : ℕ)
    (last : Option (List ℕ)) (s0 : Source) (a : Seen) (s1 : Source) (b : Seen) : Type 0 where
  pub front : List Named
  pub more : List Named
  pub is : all ≡ front ++ more
  pub count : length more ≡ left
  pub fit : FitsAt depth more
  pub behind : Ahead s0 a.files (entries_bytes all ++ rest) → AreFolders (way_into path) a.files → last ≡ fit.last
  pub reaches : Ahead s0 a.files (entries_bytes all ++ rest) → AreFolders (way_into path) a.files
      → Ahead s1 b.files (entries_bytes more ++ rest) × AreFolders (way_into path) b.files
  pub ends : (r : Result (Unit {0}) StoreFault) (s2 : Source) (d : Seen)
      → Lays (entries_bytes more ++ rest) rest (entries_laid more path) (way_into path)
      (way_into path) s1 b r s2 d
      → Lays (entries_bytes all ++ rest) rest (entries_laid all path) (way_into path) (way_into path) s0 a r s2 d
  pub partly : LaysPartly path (items_of (Folder all) path) (entries_bytes all ++ rest) (way_into path) s0 a b

pub begun_first : (path : List ℕ) (depth : ℕ) (all : List Named) (rest : List ℕ) (left : ℕ) (s : Source)
    (a : Seen) → length all ≡ left → entries_fit None all depth ≡ true
    → EntriesBegun path depth all rest left None s a s a
begun_first path depth all rest left s a count fit = record {
  front = [];
  more = all;
  is = refl;
  count = count;
  fit = record { last = None; fit = fit };
  behind = λ ahead are. refl;
  reaches = λ ahead are. (ahead, are);
  ends = λ r s2 d h. h;
  partly = record { so = λ ahead are. partly_itself path (items_of (Folder all) path) a.files a.files refl };
}

-- an entry of which a part stands, or that was laid
module _ (path : List ℕ) (depth : ℕ) (all : List Named) (rest : List ℕ) (left : ℕ) (last : Option (List ℕ))
    (s0 s1 : Source) (a b : Seen) (h : EntriesBegun path depth all rest left last s0 a s1 b)
    (n : NextEntry depth h.fit.last h.more) where
  abbrev LaysEntry : Result (List ℕ) StoreFault → Source → Seen → Type 0
  LaysEntry r s2 d = name_fits last n.entry.name ≡ true → Does (λ name. name ≡ n.entry.name)
      (entry_bytes n.entry ++ (entries_bytes n.others ++ rest)) (entries_bytes n.others ++ rest)
      (entry_laid n.entry path) (way_into path) (way_into path) s1 b r s2 d

  abbrev LaysEntryPartly : Seen → Type 0
  LaysEntryPartly d = name_fits last n.entry.name ≡ true
      → LaysPartly path (folder_at path ++ items_of n.entry.node (joined path n.entry.name))
      (entry_bytes n.entry ++ (entries_bytes n.others ++ rest)) (way_into path) s1 b d

  form : Ahead s0 a.files (entries_bytes all ++ rest) → AreFolders (way_into path) a.files
      → name_fits last n.entry.name ≡ true
  form ahead are = ap (λ l. name_fits l n.entry.name) (h.behind ahead are) ∙ n.form

  next_ahead : Ahead s0 a.files (entries_bytes all ++ rest) → AreFolders (way_into path) a.files
      → Ahead s1 b.files (entry_bytes n.entry ++ (entries_bytes n.others ++ rest))
  next_ahead ahead are = subst (Ahead s1 b.files) (sym (next_bytes h.more n.entry n.others rest n.is))
      (h.reaches ahead are).0

  pub begun_part : (d : Seen) → LaysEntryPartly d
      → LaysPartly path (items_of (Folder all) path) (entries_bytes all ++ rest) (way_into path) s0 a d
  begun_part d part = record {
    so = λ ahead are. partly_then path (items_of (Folder all) path) a.files b.files d.files (h.partly.so ahead are)
        (partly_more path (folder_at path ++ items_of n.entry.node (joined path n.entry.name))
        (items_of (Folder all) path) b.files d.files among
        ((part (form ahead are)).so (next_ahead ahead are) (h.reaches ahead are).1));
  }
    where
      there : all ≡ h.front ++ n.entry ∷ n.others
      there = h.is ∙ ap (λ m. h.front ++ m) n.is

      among : AreAmong (folder_at path ++ items_of n.entry.node (joined path n.entry.name))
          (items_of (Folder all) path)
      among one has = by (Contains-append_cases (folder_at path)
          (items_of n.entry.node (joined path n.entry.name)) one has)
        where
          by : Contains (folder_at path) one ⊎ Contains (items_of n.entry.node (joined path n.entry.name)) one
              → Contains (items_of (Folder all) path) one
          by (inl at) = folder_among all path one at
          by (inr at) = subst (λ g. Contains {X = Given} g one) (sym (items_folder all path))
              (Contains-append_right (folder_at path) (items_in all path) one
              (subst (λ es. Contains {X = Given} (items_in es path) one) (sym there)
              (entry_among h.front n.entry n.others path one at)))

  pub begun_next : (name : List ℕ) (s2 : Source) (d : Seen) → LaysEntry (Ok name) s2 d → LaysEntryPartly d
      → EntriesBegun path depth all rest (left - 1) (Some name) s0 a s2 d
  begun_next name s2 d laid part = record {
    front = h.front ++ n.entry ∷ [];
    more = n.others;
    is = h.is ∙ ap (λ m. h.front ++ m) n.is ∙ sym (append_assoc h.front (n.entry ∷ []) n.others);
    count = let count : length h.more ≡ left = h.count in let one : length h.more
        ≡ suc (length n.others) = ap length n.is in omega arith;
    fit = n.fit;
    behind = λ ahead are. ap Some (did ahead are).value ∙ n.named;
    reaches = λ ahead are. ((did ahead are).ahead, (did ahead are).folders);
    ends = λ r s3 f next. record {
      so = λ ahead are. (h.ends r s3 f (lays_bytes (next_bytes h.more n.entry n.others rest n.is)
          (lays_as (λ files. ap (λ m. entries_laid m path files) (sym n.is))
          (does_on (λ name. name ≡ n.entry.name) (λ done. Unit {0}) _ _ rest (entry_laid n.entry path)
          (entries_laid n.others path) (way_into path) (way_into path) (way_into path) s1 s2 s3 b d f name r
          (laid (form ahead are)) (λ same. next))))).so ahead are;
    };
    partly = begun_part d part;
  }
    where
      did : Ahead s0 a.files (entries_bytes all ++ rest) → AreFolders (way_into path) a.files
          → Did (λ name. name ≡ n.entry.name) (entries_bytes n.others ++ rest) (entry_laid n.entry path)
          (way_into path) b (Ok name) s2 d
      did ahead are = (laid (form ahead are)).so (next_ahead ahead are) (h.reaches ahead are).1

  -- refused, it ends them
  pub begun_stops : (fault : StoreFault) (s2 : Source) (d : Seen) → LaysEntry (Err fault) s2 d
      → Lays (entries_bytes all ++ rest) rest (entries_laid all path) (way_into path) (way_into path) s0 a
      (Err fault) s2 d
  begun_stops fault s2 d laid = record {
    so = λ ahead are. (h.ends (Err fault) s2 d (lays_bytes (next_bytes h.more n.entry n.others rest n.is)
        (reads_stop (λ name. name ≡ n.entry.name) (λ done. Unit {0}) (laid (form ahead are))))).so ahead are;
  }

pub begun_done : (path : List ℕ) (depth : ℕ) (all : List Named) (rest : List ℕ) (left : ℕ) (last : Option (List ℕ))
    (s0 s1 : Source) (a b : Seen) → left ≡ 0 → EntriesBegun path depth all rest left last s0 a s1 b
    → Lays (entries_bytes all ++ rest) rest (entries_laid all path) (way_into path) (way_into path) s0 a
    (Ok tt) s1 b
begun_done path depth all rest left last s0 s1 a b none h = h.ends (Ok (tt {0})) s1 b (nothing h.more (h.count ∙ none))
  where
    nothing : (more : List Named) → length more ≡ 0 → Lays (entries_bytes more ++ rest) rest
        (entries_laid more path) (way_into path) (way_into path) s1 b (Ok (tt {0})) s1 b
    nothing [] e = does_nothing rest (way_into path) s1 b
    nothing (x ∷ xs) e = absurd (omega arith)

-- the node of an entry, at its path
pub entry_parts : (folder path : List ℕ) (e : Named) (whole : List ℕ) (s : Source) (b d : Seen)
    → path ≡ joined folder e.name → IsTrue (is_path folder) → is_name e.name ≡ true → LeavesAround path b d
    → LaysPartly path (items_of e.node path) whole (way_to path) s b d
    → LaysPartly folder (folder_at folder ++ items_of e.node (joined folder e.name)) whole
    (way_into folder) s b d
entry_parts folder path e whole s b d is path_is name kept h = record {
  so = λ ahead are. partly_wider folder e.name path (items_of e.node path)
      (folder_at folder ++ items_of e.node (joined folder e.name)) b.files d.files is (name_form e.name name).1
      (λ one has. Contains-append_right (folder_at folder) (items_of e.node (joined folder e.name)) one
      (subst (λ p. Contains {X = Given} (items_of e.node p) one) is has))
      (λ plain. Contains-append_left (folder_at folder) (items_of e.node (joined folder e.name))
      (folder, item.Folder) (folder_has folder plain))
      kept.files (h.so ahead (name_way folder e.name path b.files is path_is name are));
}
