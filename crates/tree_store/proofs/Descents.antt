-- What is written of a folder's tree, as it is read.
use Rattle.std.proofs.Common.{◌≡◌, ◌≤◌, ◌<◌, ◌∙◌, refl, sym, ap, subst, arith, ℕ, Bool, true, false, cond, ◌+◌, ◌-◌}
use Rattle.std.proofs.Common.{◌%◌, ◌++◌, List, [], ◌∷◌, append-nil, append_assoc, drop, take, length, get_or}
use Rattle.std.proofs.Common.{length-append, Option, Some, None, Result, Ok, Err}
use Rattle.std.specs.Prelude.{IfErr, IfOk, IfSome, IsTrue, codes, is_some, nat_le, nat_lt, min}
use Rattle.std.specs.Option.{option_map}
use Rattle.std.proofs.Math.Seq.{take-add}
use Rattle.std.proofs.lemmas.Bool.{leb-false, leb-true, ltb-false, ltb-true}
use Rattle.std.proofs.lemmas.List.{drop_all, length-drop, length-take, take-append-drop, take_all}
use Rattle.cnb_world.specs.Calls.{AreNames, MayMisuse}
use Rattle.cnb_world.specs.Listing.{names_in}
use Rattle.cnb_world.specs.Path.{is_part, joined}
use Rattle.cnb_world.specs.Tree.{Tree, Lists, bytes_of, is_file, item_at, kind_of, target_of}
use Rattle.cnb_world.specs.declared.world.Item.{Item}
use Rattle.cnb_world.specs.declared.world.Item.TheVariants as item
use Rattle.cnb_world.specs.declared.world.Kind.{Kind}
use Rattle.cnb_world.specs.declared.world.Kind.TheVariants as kind
use Rattle.cnb_world.specs.declared.limits.LimitKind.TheVariants.{Depth, Tree as TreeLimit}
use Rattle.steps.specs.Causes.{Cause, FileFailed, ChildFailed, OutOfMemory, Decided, CountsFiles, IsAnswer}
use Rattle.steps.specs.Causes.{WhereDecided}
use Rattle.steps.specs.Outside.{Seen}
use Rattle.steps.specs.Reading.{LeavesUnchanged}
use Rattle.tree_canon.specs.CutTree.{last_name}
use Rattle.tree_canon.specs.Fits.{entries_fit}
use Rattle.tree_canon.specs.Names.{is_name, is_target}
use Rattle.tree_canon.specs.Spelling.{limit, magic, entries_bytes, entry_bytes, file_head, folder_head, link_head}
use Rattle.tree_canon.specs.Spelling.{name_bytes, node_bytes}
use Rattle.tree_canon.specs.declared.node.Named.{Named}
use Rattle.tree_canon.specs.declared.node.Node.TheVariants as node
use Rattle.tree_canon.proofs.Equations.{entry_bytes_is, node_bytes_file, node_bytes_folder, node_bytes_link}
use Rattle.tree_store.specs.Answers.{BlamesAt, cause_of, is_free}
use Rattle.tree_store.specs.Around.{KeepsAround, KeptAround}
use Rattle.tree_store.specs.Reading.{◌>>=◌, FitsFrom, Sized, in_order, entry_in_front, folder_of, link_of, node_at}
use Rattle.tree_store.specs.Reading.{node_of, room, sized, tree_in}
use Rattle.tree_store.specs.Writing.{Added, AreApart, AreEntriesOf, HasLength, HasWritten, IsNodeOf, IsPart, IsRootOf}
use Rattle.tree_store.specs.Writing.{IsTreeOf, LeavesNew, Refuses, WriterState, new_path, sized_as, trees_of}
use Rattle.tree_store.specs.declared.fault.StoreFault.{StoreFault}
use Rattle.tree_store.specs.declared.fault.StoreFault.TheVariants.{Limit}
use Rattle.tree_store.proofs.Apart.{again, apart_child, item_kept, still}
use Rattle.tree_store.proofs.Places.{longer_child, part_form}
use Rattle.cnb_world.proofs.Listing.{names_listed}
use Rattle.steps.proofs.ReadingLaws.{where_map}
use Rattle.tree_store.proofs.Entries.{Leaves, Read, in_front, leaves_on, reader}
use Rattle.tree_store.proofs.Fitting.{FollowAll, any_follows, few_entries, file_fits, link_fits, next_name}
use Rattle.tree_store.proofs.Fitting.{pushed_behind, pushed_bytes, pushed_fits, read_folder_fits}
use Rattle.tree_store.proofs.Nodes.{deep_file_told, deep_folder_told, folder_is, folder_reads, folder_refused, link_is}
use Rattle.tree_store.proofs.Nodes.{link_node, node_above}
use Rattle.tree_store.proofs.Puts.{unless_free}
use Rattle.tree_store.proofs.Written.{leaves_local, leaves_reading}
use Rattle.tree_store.proofs.Roots.{below, root_read, root_refused}

pub where_so : (cause : Cause) (P : Type 0) → P → WhereDecided cause P
where_so (FileFailed path) P h = tt
where_so ChildFailed P h = tt
where_so OutOfMemory P h = tt
where_so Decided P h = h

-- ---- reading, between what is written

pub may_rise : (o : Option Bool) (x y : ℕ) → MayMisuse o x y → x ≤ y
may_rise None x y h = omega (arith, h)
may_rise (Some true) x y h = omega (arith, h)
may_rise (Some false) x y h = h

pub leaves_read : {A : Type 0} {path : List ℕ} (o : Option Bool) (s : WriterState) (r : Result A StoreFault)
    (a b : Seen) → LeavesUnchanged cause_of r a b → IfErr r (BlamesAt path) → MayMisuse o a.misused b.misused
    → LeavesNew path s a r s b
leaves_read {path = path} o s r a b left blames may = leaves_reading path s left
    (may_rise o a.misused b.misused may) blames

pub no_misuse : (x y : ℕ) → y ≡ x → MayMisuse None x y
no_misuse x y e = e

-- what was written stays, where files are as before
pub written_read : {store bytes : List ℕ} {before now next : Option Tree} {s : WriterState} → next ≡ now
    → HasWritten store before s bytes now → HasWritten store before s bytes next
written_read {store} {bytes} {before} {now} {next} {s} same h = subst (λ o. HasWritten store before s bytes o)
    (sym same) h

-- ---- a file

is_there : (o : Option Tree) (path : List ℕ) (len : ℕ) → IfSome o (λ files. HasLength len (item_at files path))
    → (x y : ℕ) → MayMisuse (option_map (λ t. is_file (item_at t path)) o) x y → y ≡ x
is_there None path len h x y m = m
is_there (Some files) path len h x y m = subst (λ v. MayMisuse (Some v) x y) h.file m

pub read_right : {store bytes path : List ℕ} {before now : Option Tree} {s : WriterState} (len x y : ℕ)
    → HasWritten store before s bytes now → AreApart (new_path store) path
    → IfSome before (λ files. HasLength len (item_at files path))
    → MayMisuse (option_map (λ t. is_file (item_at t path)) now) x y → y ≡ x
read_right {store} {bytes} {path} {before} {now} len x y h apart file m = is_there now path len
    (again (HasLength len) (new_path store) path before now apart h.gone.kept file) x y m

-- the first of a list are as many
as_many : (n : ℕ) (xs p : List ℕ) (size : ℕ) → p ≡ take n xs → length p ≡ size → p ≡ take size xs
as_many n xs p size is long = by (take-append-drop n xs)
  where
    size_is : size ≡ min n (length xs)
    size_is = sym long ∙ ap length is ∙ length-take n xs

    by : take n xs ++ drop n xs ≡ xs → p ≡ take size xs
    by whole = is ∙ few (nat_le n (length xs)) refl
      where
        few : (v : Bool) → nat_le n (length xs) ≡ v → take n xs ≡ take size xs
        few true e = ap (λ m. take m xs) (let le : n ≤ length xs = leb-true n (length xs) e
            in let same : n ≡ size = omega (arith, size_is) in same)
        few false e = take_all n xs (let lt : length xs < n = leb-false n (length xs) e in omega arith)
            ∙ sym (take_all size xs (let lt : length xs < n = leb-false n (length xs) e
            in omega (arith, size_is)))

part_more : (xs p : List ℕ) (done size : ℕ) → p ≡ take 65536 (drop done xs) → length p ≡ size
    → take done xs ++ p ≡ take (done + size) xs
part_more xs p done size is long = ap (λ q. take done xs ++ q) (as_many 65536 (drop done xs) p size is long)
    ∙ sym (take-add done size xs)

-- a piece that was read
pub part_read : {store bytes path : List ℕ} {before now : Option Tree} {s : WriterState} (p : List ℕ) (done size : ℕ)
    → HasWritten store before s bytes now → AreApart (new_path store) path
    → IfSome now (λ files. p ≡ take 65536 (drop done (bytes_of (item_at files path)))) → length p ≡ size
    → IsPart before path done (done + size) p
part_read {store} {bytes} {path} {before} {now} p done size h apart told long = record {
  length_is = ap (λ n. done + n) long;
  told = some before (still (λ found. p ≡ take 65536 (drop done (bytes_of found)))
      (new_path store) path before now apart h.gone.kept told);
}
  where
    some : (o : Option Tree) → IfSome o (λ files. p ≡ take 65536 (drop done (bytes_of (item_at files path))))
        → IfSome o (λ files. take done (bytes_of (item_at files path)) ++ p
        ≡ take (done + size) (bytes_of (item_at files path)))
    some None h = tt
    some (Some files) h = part_more (bytes_of (item_at files path)) p done size h long

-- a piece of another length isn't one of a file of this length
pub never_odd : {store bytes path : List ℕ} {before now : Option Tree} {s : WriterState} (p : List ℕ)
    (len done size : ℕ) (P : Tree → Type 0) → HasWritten store before s bytes now → AreApart (new_path store) path
    → IfSome before (λ files. HasLength len (item_at files path))
    → IfSome now (λ files. p ≡ take 65536 (drop done (bytes_of (item_at files path))))
    → done ≤ len → size ≤ len - done → size ≤ 65536 → (size < 65536 → size ≡ len - done) → (length p ≡ size → ⊥)
    → IfSome before P
never_odd {store} {bytes} {path} {before} {now} p len done size P h apart file told within left most all ne = some
    before file (still (λ found. p ≡ take 65536 (drop done (bytes_of found)))
    (new_path store) path before now apart h.gone.kept told)
  where
    size_is : (xs : List ℕ) → length xs ≡ len → p ≡ take 65536 (drop done xs) → length p ≡ min 65536 (len - done)
    size_is xs long is = ap length is ∙ length-take 65536 (drop done xs)
        ∙ ap (min 65536) (length-drop done xs ∙ ap (λ n. n - done) long)

    same : (n : ℕ) → n ≡ min 65536 (len - done) → n ≡ size
    same n is = by (nat_lt size 65536) refl
      where
        by : (v : Bool) → nat_lt size 65536 ≡ v → n ≡ size
        by true e = let lt : size < 65536 = ltb-true size 65536 e in let is_all : size ≡ len - done = all lt
            in omega (arith, is, is_all)
        by false e = let ge : 65536 ≤ size = ltb-false size 65536 e in omega (arith, is)

    some : (o : Option Tree) → IfSome o (λ files. HasLength len (item_at files path))
        → IfSome o (λ files. p ≡ take 65536 (drop done (bytes_of (item_at files path)))) → IfSome o P
    some None f t = tt
    some (Some files) f t = absurd (ne (same (length p) (size_is (bytes_of (item_at files path)) f.length_is t)))

-- one part behind another
pub parts_joined : {before : Option Tree} {path : List ℕ} {from mid to : ℕ} {m n : List ℕ}
    → IsPart before path from mid m → IsPart before path mid to n → IsPart before path from to (m ++ n)
parts_joined {before} {path} {from} {mid} {to} {m} {n} a b = record {
  length_is = let one : from + length m ≡ mid = a.length_is in let two : mid + length n ≡ to = b.length_is
      in let all : length (m ++ n) ≡ length m + length n = length-append m n in omega (arith, one, two, all);
  told = some before a.told b.told;
}
  where
    some : (o : Option Tree) → IfSome o (λ files. take from (bytes_of (item_at files path)) ++ m
        ≡ take mid (bytes_of (item_at files path))) → IfSome o (λ files. take mid (bytes_of (item_at files path))
        ++ n ≡ take to (bytes_of (item_at files path)))
        → IfSome o (λ files. take from (bytes_of (item_at files path)) ++ (m ++ n)
        ≡ take to (bytes_of (item_at files path)))
    some None a b = tt
    some (Some files) a b = sym (append_assoc (take from (bytes_of (item_at files path))) m n) ∙ ap (λ p. p ++ n) a ∙ b

-- nothing behind the end
pub no_part_more : (before : Option Tree) (path : List ℕ) (len : ℕ) → IsPart before path len len []
no_part_more before path len = record { length_is = let e : len + 0 ≡ len = omega arith in e; told = some before }
  where
    some : (o : Option Tree) → IfSome o (λ files. take len (bytes_of (item_at files path)) ++ []
        ≡ take len (bytes_of (item_at files path)))
    some None = tt
    some (Some files) = append-nil (take len (bytes_of (item_at files path)))

pub part_ends : {before : Option Tree} {path : List ℕ} {len to : ℕ} {more : List ℕ} → to ≤ len
    → IsPart before path len to more → IsPart before path len len more
part_ends {before} {path} {len} {to} {more} within part = subst (λ n. IsPart before path len n more)
    (let long : len + length more ≡ to = part.length_is in let same : to ≡ len = omega (arith, long, within)
    in same) part

pub no_part : (before : Option Tree) (path : List ℕ) → IsPart before path 0 0 []
no_part before path = record { length_is = refl; told = some before }
  where
    some : (o : Option Tree) → IfSome o (λ files. take 0 (bytes_of (item_at files path)) ++ []
        ≡ take 0 (bytes_of (item_at files path)))
    some None = tt
    some (Some files) = refl

-- what stands there is a file
file_is : (o : Option Item) (exec : Bool) (len : ℕ) → kind.File exec len ≡ kind_of o
    → (o ≡ Some (item.File exec (bytes_of o))) × (length (bytes_of o) ≡ len)
file_is None exec len k = absurd (cc)
file_is (Some item.Folder) exec len k = absurd (cc)
file_is (Some item.Odd) exec len k = absurd (cc)
file_is (Some (item.Link target)) exec len k = absurd (cc)
file_is (Some (item.File e b)) exec len k = (
  let same : e ≡ exec = cc
      in ap (λ x. Some (item.File x b)) same,
  let same : length b ≡ len = cc in same,
)

pub file_length : (o : Option Item) (exec : Bool) (len : ℕ) → kind.File exec len ≡ kind_of o → HasLength len o
file_length o exec len k = let is = file_is o exec len k in record { file = ap is_file is.0; length_is = is.1 }

pub has_length : {store bytes path : List ℕ} {before now : Option Tree} {s : WriterState} (exec : Bool) (len : ℕ)
    → HasWritten store before s bytes now → AreApart (new_path store) path
    → IfSome now (λ files. kind.File exec len ≡ kind_of (item_at files path))
    → IfSome before (λ files. HasLength len (item_at files path))
has_length {store} {bytes} {path} {before} {now} exec len h apart told = some before
    (still (λ found. kind.File exec len ≡ kind_of found) (new_path store) path before now apart h.gone.kept told)
  where
    some : (o : Option Tree) → IfSome o (λ files. kind.File exec len ≡ kind_of (item_at files path))
        → IfSome o (λ files. HasLength len (item_at files path))
    some None t = tt
    some (Some files) t = file_length (item_at files path) exec len t

file_node : (files : Tree) (levels : ℕ) (path : List ℕ) (size : ℕ) (exec : Bool) (len : ℕ) → 0 < levels
    → kind.File exec len ≡ kind_of (item_at files path)
    → node_at levels files path size ≡ (room (size + (10 + len))
    >>= sized (node.File exec (bytes_of (item_at files path))))
file_node files levels path size exec len some k =
    node_above levels files path size some ∙ ap (node_of files path
    (λ name. node_at (levels - 1) files (joined path name)) size) (file_is (item_at files path) exec len k).0
    ∙ ap (λ n. room (size + (10 + n)) >>= sized (node.File exec (bytes_of (item_at files path))))
    (file_is (item_at files path) exec len k).1

-- a file whose bytes were written
pub file_put : {store taken path : List ℕ} {before now : Option Tree} {s : WriterState} (levels size total : ℕ)
    (exec : Bool) (len : ℕ) (text : List ℕ) → HasWritten store before s taken now → AreApart (new_path store) path
    → IfSome now (λ files. kind.File exec len ≡ kind_of (item_at files path)) → 0 < levels → levels ≤ 65
    → Ok total ≡ room (size + (10 + len)) → IsPart before path 0 len text
    → IsNodeOf before (λ files. node_at levels files path size) (65 - levels) size [] total (file_head exec len ++ text)
file_put {store} {taken} {path} {before} {now} levels size total exec len text h apart told some most fits part =
    record {
      node = node.File exec text;
      bytes = ap (λ n. file_head exec n ++ text) (sym long) ∙ sym (node_bytes_file exec text);
      read = by before (still (λ found. kind.File exec len ≡ kind_of found)
          (new_path store) path before now apart h.gone.kept told) part.told;
      fit = file_fits exec text size total len (65 - levels) (sym long)
          (room_is (nat_le (size + (10 + len)) limit) fits) (omega arith);
    }
  where
    long : length text ≡ len
    long = let all : 0 + length text ≡ len = part.length_is in omega (arith, all)

    room_is : (v : Bool) → Ok total ≡ cond v (Ok (size + (10 + len))) (Err (Limit TreeLimit))
        → total ≡ size + (10 + len)
    room_is true e = cc
    room_is false e = absurd (cc)

    by : (o : Option Tree) → IfSome o (λ files. kind.File exec len ≡ kind_of (item_at files path))
        → IfSome o (λ files. take 0 (bytes_of (item_at files path)) ++ text
        ≡ take len (bytes_of (item_at files path))) → IfSome o (λ files. node_at levels files path size
        ≡ Ok (node.File exec text, total))
    by None k t = tt
    by (Some files) k t =
        let is = file_is (item_at files path) exec len k in
        let text_is : text ≡ bytes_of (item_at files path) = t ∙ take_all len (bytes_of (item_at files path))
        (omega (arith, is.1)) in
        file_node files levels path size exec len some k
        ∙ ap (λ (r : Result ℕ StoreFault). r >>= sized (node.File exec (bytes_of (item_at files path))))
        (sym fits) ∙ ap (λ b. Ok (node.File exec b, total)) (sym text_is)

-- there is no room for it
pub file_refused : {store taken path : List ℕ} {before now : Option Tree} {s : WriterState} (levels size : ℕ)
    (exec : Bool) (len : ℕ) (fault : StoreFault) → HasWritten store before s taken now
    → AreApart (new_path store) path
    → IfSome now (λ files. kind.File exec len ≡ kind_of (item_at files path)) → 0 < levels
    → Err fault ≡ room (size + (10 + len)) → Refuses before (λ files. node_at levels files path size) fault
file_refused {store} {taken} {path} {before} {now} levels size exec len fault h apart told some fits = by before
    (still (λ found. kind.File exec len ≡ kind_of found) (new_path store) path before now apart h.gone.kept told)
  where
    decided : (want : Result Sized StoreFault) → want ≡ Err fault → IsAnswer {A = Sized} cause_of (Err fault) want
    decided want e = where_so (cause_of fault) (want ≡ Err fault) e

    by : (o : Option Tree) → IfSome o (λ files. kind.File exec len ≡ kind_of (item_at files path))
        → IfSome o (λ files. IsAnswer {A = Sized} cause_of (Err fault) (node_at levels files path size))
    by None k = tt
    by (Some files) k = decided (node_at levels files path size)
        (file_node files levels path size exec len some k
        ∙ ap (λ (r : Result ℕ StoreFault). r >>= sized (node.File exec (bytes_of (item_at files path))))
        (sym fits))

-- ---- refusals that may come anyway

pub free_refuses : {A : Type 0} (o : Option Tree) (want : Tree → Result A StoreFault) (fault : StoreFault)
    → IsTrue (is_free fault) → Refuses o want fault
free_refuses None want fault free = tt
free_refuses (Some files) want fault free = unless_free fault (want files ≡ Err fault) free

pub free_where : {A : Type 0} (o : Option Tree) (want : Tree → Result A StoreFault) (fault : StoreFault)
    → IfSome o (λ files. IsTrue (is_free fault)) → Refuses o want fault
free_where None want fault free = tt
free_where (Some files) want fault free = unless_free fault (want files ≡ Err fault) free

pub some_free : (o : Option Tree) (fault : StoreFault) → IsTrue (is_free fault)
    → IfSome o (λ files. IsTrue (is_free fault))
some_free None fault free = tt
some_free (Some files) fault free = free

-- what is read in the same way in another's words
pub node_as : {before : Option Tree} {want other : Tree → Result Sized StoreFault} {depth size now : ℕ}
    {head more : List ℕ} → IfSome before (λ files. want files ≡ other files)
    → IsNodeOf before want depth size head now more → IsNodeOf before other depth size head now more
node_as {before} {want} {other} {now = now} same h = record
    { node = h.node; bytes = h.bytes; read = by before same h.read; fit = h.fit }
  where
    by : (o : Option Tree) → IfSome o (λ files. want files ≡ other files)
        → IfSome o (λ files. want files ≡ Ok (h.node, now)) → IfSome o (λ files. other files ≡ Ok (h.node, now))
    by None s r = tt
    by (Some files) s r = sym s ∙ r

pub refuses_as : {A : Type 0} (before : Option Tree) (want other : Tree → Result A StoreFault)
    (fault : StoreFault) → IfSome before (λ files. want files ≡ other files) → Refuses before want fault
    → Refuses before other fault
refuses_as None want other fault same h = tt
refuses_as (Some files) want other fault same h = subst (λ w. IsAnswer cause_of (Err fault) w) same h

-- ---- a call behind one that only read

pub added_from : {A : Type 0} {store bytes : List ℕ} {before : Option Tree} {Is : A → List ℕ → Type 0}
    {Why : StoreFault → Type 0} {a b c : Seen} {s : WriterState} {r : Result A StoreFault} → b.misused ≡ a.misused
    → Added store before Is Why bytes b r s c → Added store before Is Why bytes a r s c
added_from same h = record { added = h.added; refused = h.refused; right = h.right ∙ same }

pub kind_before : {store bytes path : List ℕ} {before now : Option Tree} {s : WriterState} (k : Kind)
    → HasWritten store before s bytes now → AreApart (new_path store) path
    → IfSome now (λ files. k ≡ kind_of (item_at files path))
    → IfSome before (λ files. k ≡ kind_of (item_at files path))
kind_before {store} {path = path} {before} {now} k h apart told = still (λ found. k ≡ kind_of found)
    (new_path store) path before now apart h.gone.kept told

-- ---- a link

pub link_put : {before : Option Tree} (path target : List ℕ) (levels size now : ℕ)
    → IsAnswer cause_of (sized_as (node.Link target) (Ok now)) (link_of path levels size target)
    → FitsFrom (65 - levels) size (node.Link target, now) → IsNodeOf before
    (λ files. link_of path levels size target) (65 - levels) size [] now (link_head (length target) ++ target)
link_put {before} path target levels size now read fit = record
    { node = node.Link target; bytes = sym (node_bytes_link target); read = by before; fit = fit }
  where
    by : (o : Option Tree) → IfSome o (λ files. link_of path levels size target ≡ Ok (node.Link target, now))
    by None = tt
    by (Some files) = read

pub link_refused : (before : Option Tree) (path target : List ℕ) (levels size : ℕ) (fault : StoreFault)
    → IsAnswer cause_of (sized_as (node.Link target) (Err fault)) (link_of path levels size target)
    → Refuses {A = Sized} before (λ files. link_of path levels size target) fault
link_refused None path target levels size fault h = tt
link_refused (Some files) path target levels size fault h = h

pub link_same : {store bytes path : List ℕ} {before now : Option Tree} {s : WriterState} (levels size : ℕ)
    (text target : List ℕ) → text ≡ target → HasWritten store before s bytes now → AreApart (new_path store) path
    → IfSome now (λ files. kind.Link ≡ kind_of (item_at files path))
    → IfSome now (λ files. target ≡ target_of (item_at files path))
    → IfSome before (λ files. link_of path levels size text ≡ node_at levels files path size)
link_same {store} {path = path} {before} {now} levels size text target same h apart k told =
    by before (still (λ found. kind.Link ≡ kind_of found) (new_path store) path before now apart h.gone.kept k)
    (still (λ found. target ≡ target_of found) (new_path store) path before now apart h.gone.kept told)
  where
    by : (o : Option Tree) → IfSome o (λ files. kind.Link ≡ kind_of (item_at files path))
        → IfSome o (λ files. target ≡ target_of (item_at files path))
        → IfSome o (λ files. link_of path levels size text ≡ node_at levels files path size)
    by None k t = tt
    by (Some files) k t = ap (link_of path levels size) same
        ∙ link_node levels files path size (item_at files path) target refl
        (link_is (item_at files path) target k t)

-- ---- the names in a folder

lists_kept : (file path : List ℕ) (a b : Tree) (names : List (List ℕ)) → 0 < length file → AreApart file path
    → KeepsAround file a b → AreNames names → Lists b path names → names ≡ names_in a path
lists_kept file path a b names long apart kept are lists = names_listed a path names
    (λ name part. lists name part ∙ ap is_some (item_kept file (joined path name) a b
    (apart_child file path name long (part_form name part).0 (part_form name part).1 apart) kept)) are

pub names_before : {store bytes path : List ℕ} {before now : Option Tree} {s : WriterState} (names : List (List ℕ))
    → HasWritten store before s bytes now → AreApart (new_path store) path → AreNames names
    → IfSome now (λ files. Lists files path names) → IfSome before (λ files. names ≡ names_in files path)
unfolding KeptAround
names_before {store} {path = path} {before} {now} names h apart are lists = by before now h.gone.kept lists
  where
    long : 0 < length (new_path store)
    long = let more : length (trees_of store) < length (new_path store) = longer_child (trees_of store)
        (codes "new") (omega arith) in omega arith

    by : (o o1 : Option Tree) → KeptAround (new_path store) o o1 → IfSome o1 (λ files. Lists files path names)
        → IfSome o (λ files. names ≡ names_in files path)
    by None o1 kept told = tt
    by (Some a) None kept told = absurd kept
    by (Some a) (Some b) kept told = lists_kept (new_path store) path a b names long apart kept are told

-- ---- entries, one after another

-- so many entries were written
pub record PutSoFar (before : Option Tree) (levels : ℕ) (folder : List ℕ) (names : List (List ℕ))
    (index size so_far : ℕ) (more : List ℕ) : Type 0 where
  pub entries : List Named
  pub count_is : length entries ≡ index
  pub bytes : more ≡ entries_bytes entries
  pub behind : FollowAll (last_name entries) (drop index names)
  pub fit : entries_fit None entries (65 - levels) ≡ true
  pub size_is : so_far ≡ size + length (entries_bytes entries)
  pub leaves : Leaves before levels folder entries so_far (drop index names) names size

pub none_put : (before : Option Tree) (levels : ℕ) (folder : List ℕ) (names : List (List ℕ)) (size : ℕ)
    → PutSoFar before levels folder names 0 size size []
none_put before levels folder names size = record {
  entries = [];
  count_is = refl;
  bytes = refl;
  behind = any_follows names;
  fit = refl;
  size_is = omega arith;
  leaves = by before;
}
  where
    same : (read : Read) → read ≡ (read >>= in_front [])
    same (Ok all) = refl
    same (Err fault) = refl

    by : (o : Option Tree) → Leaves o levels folder [] size names names size
    by None = tt
    by (Some files) = same (in_order (reader levels files folder) names size)

pushed_spelling : (es : List Named) (e : Named) → entries_bytes (es ++ e ∷ []) ≡ entries_bytes es ++ entry_bytes e
pushed_spelling [] e = append-nil (entry_bytes e)
pushed_spelling (x ∷ xs) e = ap (λ b. entry_bytes x ++ b) (pushed_spelling xs e)
    ∙ sym (append_assoc (entry_bytes x) (entries_bytes xs) (entry_bytes e))

pub entry_put : {before : Option Tree} {levels : ℕ} {folder : List ℕ} {names : List (List ℕ)}
    {index size so_far : ℕ} {more next : List ℕ} (now : ℕ) (name : List ℕ) → index < length names
    → name ≡ get_or names index name → AreNames (drop index names) → is_name name ≡ true
    → PutSoFar before levels folder names index size so_far more
    → IsNodeOf before (λ files. node_at levels files (joined folder name) (so_far + (2 + length name)))
    (65 - levels) (so_far + (2 + length name)) (name_bytes name) now next
    → PutSoFar before levels folder names (index + 1) size now (more ++ next)
entry_put {before} {levels} {folder} {names} {index} {size} {so_far} {more} {next} now name lt is are form h one =
    record {
      entries = h.entries ++ e ∷ [];
      count_is = let all : length (h.entries ++ e ∷ []) ≡ length h.entries + 1 = length-append h.entries (e ∷ [])
          in let count : length h.entries ≡ index = h.count_is in omega (arith, all, count);
      bytes = ap (λ m. m ++ next) h.bytes ∙ ap (λ m. entries_bytes h.entries ++ m)
          (one.bytes ∙ sym (entry_bytes_is e)) ∙ sym (pushed_spelling h.entries e);
      behind = pushed_behind h.entries (h.entries ++ e ∷ []) names index name one.node lt is are refl;
      fit = pushed_fits h.entries (h.entries ++ e ∷ []) names index name one.node
          (65 - levels) lt is h.fit form h.behind one.fit.0 refl;
      size_is = pushed_bytes h.entries (h.entries ++ e ∷ []) name one.node size so_far now h.size_is one.fit.1 refl;
      leaves = leaves_on before before levels size so_far now index folder name h.entries
          (h.entries ++ e ∷ []) names one.node lt is refl refl h.leaves one.read;
    }
  where
    e : Named
    e = record { name = name; node = one.node }

pub entries_put : {before : Option Tree} {levels : ℕ} {folder : List ℕ} {names : List (List ℕ)}
    {index size so_far : ℕ} {more : List ℕ} → index ≡ length names
    → PutSoFar before levels folder names index size so_far more
    → AreEntriesOf before (λ files. in_order (λ name. node_at levels files (joined folder name)) names size)
    (65 - levels) (length names) size so_far more
entries_put {before} {levels} {folder} {names} {index} {size} {so_far} end h = record {
  entries = h.entries;
  count_is = h.count_is ∙ end;
  bytes = h.bytes;
  read = by before h.leaves;
  fit = h.fit;
  size_is = h.size_is;
}
  where
    none : drop index names ≡ []
    none = drop_all index names (let same : index ≡ length names = end in omega (arith, same))

    by : (o : Option Tree) → Leaves o levels folder h.entries so_far (drop index names) names size
        → IfSome o (λ files. in_order (λ name. node_at levels files (joined folder name)) names size
        ≡ Ok (h.entries, so_far))
    by None l = tt
    by (Some files) l = l ∙ ap (λ ns. in_order (reader levels files folder) ns so_far >>= in_front h.entries) none
        ∙ ap (λ es. Ok (es, so_far)) (append-nil h.entries)

-- an entry is refused
pub entry_refused : {before : Option Tree} {levels : ℕ} {folder : List ℕ} {names : List (List ℕ)}
    {index size so_far : ℕ} {more : List ℕ} (name : List ℕ) (fault : StoreFault) → index < length names
    → name ≡ get_or names index name → PutSoFar before levels folder names index size so_far more
    → Refuses before (λ files. node_at levels files (joined folder name) (so_far + (2 + length name))) fault
    → Refuses before (λ files. in_order (λ name. node_at levels files (joined folder name)) names size) fault
entry_refused {before} {levels} {folder} {names} {index} {size} {so_far} name fault lt is h why = by before h.leaves why
  where
    next : drop index names ≡ name ∷ drop (index + 1) names
    next = next_name names index name lt is

    by : (o : Option Tree) → Leaves o levels folder h.entries so_far (drop index names) names size
        → Refuses o (λ files. node_at levels files (joined folder name) (so_far + (2 + length name))) fault
        → Refuses o (λ files. in_order (λ name. node_at levels files (joined folder name)) names size) fault
    by None l w = tt
    by (Some files) l w = where_map (cause_of fault)
        (node_at levels files (joined folder name) (so_far + (2 + length name)) ≡ Err fault)
        (in_order (λ name. node_at levels files (joined folder name)) names size ≡ Err fault)
        (λ e. l ∙ ap (λ ns. in_order (reader levels files folder) ns so_far >>= in_front h.entries) next
        ∙ ap (λ (r : Result Sized StoreFault). (r >>= (λ one. in_order (reader levels files folder)
        (drop (index + 1) names) one.1 >>= entry_in_front name one.0)) >>= in_front h.entries) e) w

-- ---- a folder

pub folder_put : {store bytes path : List ℕ} {before now : Option Tree} {s : WriterState} {levels size start total : ℕ}
    {names listed : List (List ℕ)} {next : List ℕ} → HasWritten store before s bytes now
    → AreApart (new_path store) path → levels ≤ 64
    → IfSome now (λ files. kind.Folder ≡ kind_of (item_at files path)) → Ok start ≡ room (size + 5)
    → names ≡ listed → AreNames listed → IfSome now (λ files. Lists files path listed) → total ≤ limit
    → AreEntriesOf before (λ files. in_order (λ name. node_at levels files (joined path name)) names start)
    (65 - levels) (length names) start total next
    → IsNodeOf before (λ files. node_of files path (λ name. node_at levels files (joined path name)) size
    (item_at files path)) (64 - levels) size [] total (folder_head (length names % 4294967296) ++ next)
folder_put {store} {path = path} {before} {levels = levels} {size} {start} {total} {names} {listed} {next} h apart
    deep k fits same are lists few es = record {
      node = node.Folder es.entries;
      bytes = ap (λ n. folder_head n ++ next) count ∙ ap (λ b. folder_head (length es.entries) ++ b) es.bytes
          ∙ sym (node_bytes_folder es.entries);
      read = folder_reads before before levels path size start names listed (Ok (es.entries, total)) refl
          (kind_before kind.Folder h apart k) fits same (names_before listed h apart are lists) es.read;
      fit = read_folder_fits es.entries size start total levels deep es.fit fits es.size_is few;
    }
  where
    count : length names % 4294967296 ≡ length es.entries
    count = let n : length es.entries ≤ length (entries_bytes es.entries) = few_entries es.entries
        in let is : length es.entries ≡ length names = es.count_is
        in let sum : total ≡ start + length (entries_bytes es.entries) = es.size_is
        in omega (arith, n, is, sum, few)

pub folder_refuses : {store bytes path : List ℕ} {before now : Option Tree} {s : WriterState}
    (levels size : ℕ) {start : ℕ} {names listed : List (List ℕ)} (fault : StoreFault)
    → HasWritten store before s bytes now → AreApart (new_path store) path
    → IfSome now (λ files. kind.Folder ≡ kind_of (item_at files path)) → Ok start ≡ room (size + 5)
    → names ≡ listed → AreNames listed → IfSome now (λ files. Lists files path listed)
    → Refuses before (λ files. in_order (λ name. node_at levels files (joined path name)) names start) fault
    → Refuses before (λ files. node_of files path (λ name. node_at levels files (joined path name)) size
    (item_at files path)) fault
folder_refuses {path = path} {before} levels size {start} {names} {listed} fault h apart k fits same are lists
    why = folder_refused before before levels path size start names listed fault refl
    (kind_before kind.Folder h apart k) fits same (names_before listed h apart are lists) why

pub folder_no_room : {store bytes path : List ℕ} {before now : Option Tree} {s : WriterState} (levels size : ℕ)
    (fault : StoreFault) → HasWritten store before s bytes now → AreApart (new_path store) path
    → IfSome now (λ files. kind.Folder ≡ kind_of (item_at files path)) → Err fault ≡ room (size + 5)
    → Refuses before (λ files. node_of files path (λ name. node_at levels files (joined path name)) size
    (item_at files path)) fault
folder_no_room {path = path} {before} levels size fault h apart k fits = by before (kind_before kind.Folder h apart k)
  where
    by : (o : Option Tree) → IfSome o (λ files. kind.Folder ≡ kind_of (item_at files path))
        → Refuses o (λ files. node_of files path (λ name. node_at levels files (joined path name)) size
        (item_at files path)) fault
    by None k = tt
    by (Some files) k = where_so (cause_of fault) _
        (ap (node_of files path (λ name. node_at levels files (joined path name)) size)
        (folder_is (item_at files path) k) ∙ ap (λ (r : Result ℕ StoreFault). r
        >>= (λ s. in_order (λ name. node_at levels files (joined path name)) (names_in files path) s
        >>= folder_of)) (sym fits))

-- ---- a node

-- the node of a file or of a folder, below which fewer levels may stand
pub folder_above : {before : Option Tree} (path : List ℕ) {levels size now : ℕ} {head more : List ℕ} → 0 < levels
    → IsNodeOf before (λ files. node_of files path (λ name. node_at (levels - 1) files (joined path name)) size
    (item_at files path)) (64 - (levels - 1)) size head now more
    → IsNodeOf before (λ files. node_at levels files path size) (65 - levels) size head now more
folder_above {before} path {levels} {size} {now} {head} {more} some h = node_as (by before)
    (subst (λ d. IsNodeOf before (λ files. node_of files path
    (λ name. node_at (levels - 1) files (joined path name)) size (item_at files path)) d size head now more)
    (let same : 64 - (levels - 1) ≡ 65 - levels = omega arith in same) h)
  where
    by : (o : Option Tree) → IfSome o (λ files. node_of files path
        (λ name. node_at (levels - 1) files (joined path name)) size (item_at files path)
        ≡ node_at levels files path size)
    by None = tt
    by (Some files) = sym (node_above levels files path size some)

pub refuses_above : (before : Option Tree) (path : List ℕ) (levels size : ℕ) (fault : StoreFault) → 0 < levels
    → Refuses before (λ files. node_of files path (λ name. node_at (levels - 1) files (joined path name)) size
    (item_at files path)) fault → Refuses before (λ files. node_at levels files path size) fault
refuses_above before path levels size fault some h = refuses_as before
    (λ files. node_of files path (λ name. node_at (levels - 1) files (joined path name)) size
    (item_at files path)) (λ files. node_at levels files path size) fault (by before) h
  where
    by : (o : Option Tree) → IfSome o (λ files. node_of files path
        (λ name. node_at (levels - 1) files (joined path name)) size (item_at files path)
        ≡ node_at levels files path size)
    by None = tt
    by (Some files) = sym (node_above levels files path size some)

pub deep_refused : {A : Type 0} (o : Option Tree) (want : Tree → Result A StoreFault) (fault : StoreFault)
    → IfSome o (λ files. want files ≡ Err fault) → Refuses o want fault
deep_refused None want fault h = tt
deep_refused (Some files) want fault h = where_so (cause_of fault) _ h

-- ---- an entry

pub apart_part : (store folder name path : List ℕ) → path ≡ joined folder name → IsTrue (is_part name)
    → AreApart (new_path store) folder → AreApart (new_path store) path
apart_part store folder name path is part h = subst (AreApart (new_path store)) (sym is)
    (apart_child (new_path store) folder name (let more : length (trees_of store)
    < length (new_path store) = longer_child (trees_of store) (codes "new") (omega arith) in omega arith)
    (part_form name part).0 (part_form name part).1 h)

pub entry_joined : {before : Option Tree} (levels size : ℕ) {now : ℕ} {more next : List ℕ}
    (folder name path : List ℕ) (head : ℕ) → head ≡ 2 + length name → path ≡ joined folder name
    → more ≡ name_bytes name → IsNodeOf before (λ files. node_at levels files path (size + head)) (65 - levels)
    (size + head) [] now next
    → IsNodeOf before (λ files. node_at levels files (joined folder name) (size + (2 + length name)))
    (65 - levels) (size + (2 + length name)) (name_bytes name) now (more ++ next)
entry_joined {before} levels size {now} {more} {next} folder name path head long is named one = at
    (subst (λ p. IsNodeOf before (λ files. node_at levels files p (size + (2 + length name))) (65 - levels)
    (size + (2 + length name)) [] now next) is (subst
    (λ n. IsNodeOf before (λ files. node_at levels files path (size + n)) (65 - levels) (size + n) [] now next)
    long one))
  where
    at : IsNodeOf before (λ files. node_at levels files (joined folder name) (size + (2 + length name)))
        (65 - levels) (size + (2 + length name)) [] now next → IsNodeOf before
        (λ files. node_at levels files (joined folder name) (size + (2 + length name))) (65 - levels)
        (size + (2 + length name)) (name_bytes name) now (more ++ next)
    at h = record {
      node = h.node;
      bytes = ap (λ m. m ++ next) named
          ∙ ap (λ m. name_bytes name ++ m) h.bytes;
      read = h.read;
      fit = h.fit;
    }

pub joined_refused : (before : Option Tree) (levels size : ℕ) (folder name path : List ℕ) (head : ℕ)
    (fault : StoreFault) → head ≡ 2 + length name → path ≡ joined folder name
    → Refuses before (λ files. node_at levels files path (size + head)) fault
    → Refuses before (λ files. node_at levels files (joined folder name) (size + (2 + length name))) fault
joined_refused before levels size folder name path head fault long is h = subst
    (λ p. Refuses before (λ files. node_at levels files p (size + (2 + length name))) fault) is
    (subst (λ n. Refuses before (λ files. node_at levels files path (size + n)) fault) long h)

-- ---- the size of a link

pub link_fits_in : (target : List ℕ) (size total levels : ℕ) → is_target target ≡ true → 0 < levels
    → Ok total ≡ room (size + (3 + length target)) → FitsFrom (65 - levels) size (node.Link target, total)
link_fits_in target size total levels form some fits = link_fits target size total (65 - levels) form
    (by (nat_le (size + (3 + length target)) limit) fits) (omega arith)
  where
    by : (v : Bool) → Ok total ≡ cond v (Ok (size + (3 + length target))) (Err (Limit TreeLimit))
        → total ≡ size + (3 + length target)
    by true e = cc
    by false e = absurd (cc)

-- another node's bytes
pub node_bytes_as : {before : Option Tree} {want : Tree → Result Sized StoreFault} {depth size now : ℕ}
    {head more other : List ℕ} → more ≡ other → IsNodeOf before want depth size head now other
    → IsNodeOf before want depth size head now more
node_bytes_as same h = record { node = h.node; bytes = same ∙ h.bytes; read = h.read; fit = h.fit }

-- with what holds of the value besides
pub added_with : {A : Type 0} {store bytes : List ℕ} {before : Option Tree} {Is1 : A → List ℕ → Type 0}
    {Why1 : StoreFault → Type 0} {Is : A → List ℕ → Type 0} {Why : StoreFault → Type 0} {a b : Seen} {s1 : WriterState}
    {r : Result A StoreFault} (F : A → Type 0)
    → IfOk r F → ((v : A) (more : List ℕ) → F v → Is1 v more → Is v more)
    → ((fault : StoreFault) → Why1 fault → Why fault) → Added store before Is1 Why1 bytes a r s1 b
    → Added store before Is Why bytes a r s1 b
added_with {A} {store} {bytes} {before} {Is1} {Why1} {Is} {Why} {b = b} {s1} {r = r} F known of why h = record
    { added = added r known h.added; refused = refused r h.refused; right = h.right }
  where
    added : (r : Result A StoreFault) → IfOk r F → IfOk r (λ w. (last : List ℕ) × Is1 w last
        × HasWritten store before s1 (bytes ++ last) b.files) → IfOk r
        (λ w. (last : List ℕ) × Is w last × HasWritten store before s1 (bytes ++ last) b.files)
    added (Ok w) f (last, is, written) = (last, of w last f is, written)
    added (Err fault) f h = tt

    refused : (r : Result A StoreFault) → IfErr r Why1 → IfErr r Why
    refused (Ok w) h = tt
    refused (Err fault) h = why fault h

-- a node that lies too deep
pub leaves_deep : {A : Type 0} (path : List ℕ) (s : WriterState) (a : Seen) (fault : StoreFault) → fault ≡ Limit Depth
    → LeavesNew {A = A} path s a (Err fault) s a
leaves_deep {A} path s a fault e = leaves_local {A = A} path s s a (Err fault) refl
    (λ n. subst (λ f. CountsFiles {A = A} cause_of (Err f) n n) (sym e) refl)

pub deep_file_refuses : (before : Option Tree) (levels : ℕ) (path : List ℕ) (size : ℕ) (k : Kind) (exec : Bool)
    (len : ℕ) (fault : StoreFault) → levels ≡ 0 → fault ≡ Limit Depth → k ≡ kind.File exec len
    → IfSome before (λ files. k ≡ kind_of (item_at files path))
    → Refuses before (λ files. node_at levels files path size) fault
deep_file_refuses None levels path size k exec len fault z e is told = tt
deep_file_refuses (Some files) levels path size k exec len fault z e is told = where_so (cause_of fault) _
    (deep_file_told (Some files) levels path size exec len z (sym is ∙ told) ∙ ap Err (sym e))

pub deep_folder_refuses : (before : Option Tree) (levels : ℕ) (path : List ℕ) (size : ℕ) (k : Kind)
    (fault : StoreFault) → levels ≡ 0 → fault ≡ Limit Depth → k ≡ kind.Folder
    → IfSome before (λ files. k ≡ kind_of (item_at files path))
    → Refuses before (λ files. node_at levels files path size) fault
deep_folder_refuses None levels path size k fault z e is told = tt
deep_folder_refuses (Some files) levels path size k fault z e is told = where_so (cause_of fault) _
    (deep_folder_told (Some files) levels path size z (sym is ∙ told) ∙ ap Err (sym e))

-- ---- the root

pub root_put : {before : Option Tree} {path : List ℕ} {now : ℕ} {more : List ℕ} (k : Kind) → k ≡ kind.Folder
    → IfSome before (λ files. k ≡ kind_of (item_at files path))
    → IsNodeOf before (λ files. node_of files path (below files path) 5 (item_at files path)) 0 5 [] now more
    → IsRootOf before path now more
root_put {before} {path} {now} k is told h = record {
  node = h.node;
  bytes = h.bytes;
  read = root_read before before path k
      (h.node, now) refl is told h.read;
  fit = h.fit;
}

pub tree_put_of : {before : Option Tree} {path : List ℕ} {now : ℕ} {more next : List ℕ} → more ≡ magic
    → IsRootOf before path now next → IsTreeOf before path now (more ++ next)
tree_put_of {before} {path} {now} {more} {next} is h = record {
  node = h.node;
  bytes = ap (λ m. m ++ next) is ∙ ap (λ m. magic ++ m) h.bytes;
  read = h.read;
  length_is = let first : length more ≡ 5 = ap length is in let all : length (more ++ next)
      ≡ length more + length next = length-append more next in let rest : length next
      ≡ length (node_bytes h.node) = ap length h.bytes in let sum : now ≡ 5 + length (node_bytes h.node) = h.fit.1
      in omega (arith, first, all, rest, sum);
}

pub root_added : {store bytes path : List ℕ} {before : Option Tree} {a b : Seen} {s1 : WriterState}
    {r : Result ℕ StoreFault} (k : Kind) → k ≡ kind.Folder → IfSome before
    (λ files. k ≡ kind_of (item_at files path))
    → Added store before (λ now more. IsNodeOf before
    (λ files. node_of files path (below files path) 5 (item_at files path)) 0 5 [] now more)
    (λ fault. Refuses before (λ files. node_of files path (below files path) 5 (item_at files path)) fault)
    bytes a r s1 b
    → Added store before (λ now more. IsRootOf before path now more)
    (λ fault. Refuses before (tree_in path) fault) bytes a r s1 b
root_added {store} {bytes} {path} {before} {a} {b} {s1} {r} k is told h = record
    { added = added r h.added; refused = refused r h.refused; right = h.right }
  where
    added : (r : Result ℕ StoreFault) → IfOk r (λ now. (more : List ℕ)
        × IsNodeOf before (λ files. node_of files path (below files path) 5 (item_at files path)) 0 5 [] now more
        × HasWritten store before s1 (bytes ++ more) b.files) → IfOk r
        (λ now. (more : List ℕ) × IsRootOf before path now more
        × HasWritten store before s1 (bytes ++ more) b.files)
    added (Ok now) (more, one, written) = (more, root_put k is told one, written)
    added (Err fault) h = tt

    refused : (r : Result ℕ StoreFault) → IfErr r (λ fault. Refuses before
        (λ files. node_of files path (below files path) 5 (item_at files path)) fault)
        → IfErr r (λ fault. Refuses before (tree_in path) fault)
    refused (Ok now) h = tt
    refused (Err fault) h = root_refused before before path k fault refl is told h
