-- Reading the trees of folders one after another.
use Rattle.std.proofs.Common.{◌≡◌, ◌∙◌, refl, sym, ap, subst, arith, ℕ, zero, suc, ◌+◌, ◌<◌, ◌≤◌, Bool, true, List, []}
use Rattle.std.proofs.Common.{◌∷◌, ◌++◌, length, map, take, drop, get_or, Option, Some, None, Result, Ok, Err, inl, inr}
use Rattle.std.proofs.Common.{drop-cons}
use Rattle.std.specs.Prelude.{IfSome}
use Rattle.std.specs.List.{AllByRecursion}
use Rattle.std.specs.Option.{option_map}
use Rattle.std.proofs.lemmas.List.{get_or-map, length-append, length-map, length-take-le, take-append-drop, take_all}
use Rattle.std.proofs.Math.Seq.{take-suc}
use Rattle.cnb_world.specs.Calls.{MayMisuse}
use Rattle.cnb_world.specs.Tree.{Tree}
use Rattle.cnb_world.specs.declared.values.Memory.{Memory as NoMemory}
use Rattle.steps.specs.Causes.{IsAnswer, ended_by}
use Rattle.steps.specs.Outside.{Seen}
use Rattle.steps.specs.Results.{and_then}
use Rattle.steps.specs.Steps.{Reads, reads}
use Rattle.steps.proofs.EndLaws.{files_link}
use Rattle.steps.proofs.ReadingLaws.{may_same, where_map}
use Rattle.steps.proofs.StepLemmas.{named_more}
use Rattle.tree_canon.specs.Spelling.{spelling_of}
use Rattle.tree_canon.specs.declared.node.Node.{Node}
use Rattle.tree_store.specs.Answers.{AtOrBelow, cause_of}
use Rattle.tree_store.specs.Caching.{CachesFolder, CachesRead, CachesRows, HasPut, HasRows, KeepsTold, MayHavePut}
use Rattle.tree_store.specs.Caching.{MayHaveRows, is_read, reads_under, tree_under}
use Rattle.tree_store.specs.declared.fault.StoreFault.{StoreFault}
use Rattle.tree_store.specs.declared.fault.StoreFault.TheVariants as store
use Rattle.image_docs.specs.declared.layer_row.LayerRow.{LayerRow}
use Rattle.shelf_set.specs.ShelfState.{ShelfState}
use Rattle.shelf_set.specs.Caching.{AtOne, IsShort, digest_of_row, digest_of_tree, reads_trees, spelled, trees_under}
use Rattle.shelf_set.specs.StoringEach.{EachBy, HasNotFailed, Holds, HoldsSome, MaybeStored, Putting, PutsAll}
use Rattle.shelf_set.specs.StoringEach.{PutsFolders, Stored}
use Rattle.shelf_set.proofs.Lists.{map-last}
use Rattle.shelf_set.proofs.StoreLemmas.{each_begun, each_paired, each_so, each_then, each_within, may_put_step}
use Rattle.shelf_set.proofs.StoreLemmas.{may_step, no_rows, put_step, rows_step, told_step}

-- ---- lists

-- a list at one place
at_place : {X : Type 0} (xs : List X) (k : ℕ) (x : X) → k < length xs → x ≡ get_or xs k x
    → xs ≡ take k xs ++ x ∷ drop (suc k) xs
at_place xs k x lt is = sym (take-append-drop k xs) ∙ ap (λ r. take k xs ++ r)
    (drop-cons xs k x lt ∙ ap (λ y. y ∷ drop (suc k) xs) (sym is))

to_place : {X : Type 0} (xs : List X) (k : ℕ) (x : X) → k < length xs → x ≡ get_or xs k x
    → take (suc k) xs ≡ take k xs ++ x ∷ []
to_place xs k x lt is = take-suc xs k x lt ∙ ap (λ y. take k xs ++ y ∷ []) (sym is)

pub short_at : (folders : List (List ℕ)) (k : ℕ) (folder : List ℕ) → AllByRecursion IsShort folders
    → k < length folders → folder ≡ get_or folders k folder → IsShort folder
short_at [] k folder all lt is = absurd (omega (arith, lt))
short_at (f ∷ folders) zero folder all lt is = subst IsShort (sym is) all.0
short_at (f ∷ folders) (suc k) folder all lt is = short_at folders k folder all.1 (omega (arith, lt)) is

-- the digest of one row
pub digest_at : (rows : List LayerRow) (k n : ℕ) (row : LayerRow) → k < n → n ≡ length rows
    → (get_or rows k row).digest ≡ get_or (map digest_of_row rows) k (get_or rows k row).digest
digest_at rows k n row lt many = sym (get_or-map digest_of_row rows k row (get_or rows k row).digest
    (omega (arith, lt, many)))

pub within_map : {X Y : Type 0} (f : X → Y) (n : ℕ) (xs : List X) → n ≤ length xs → n ≤ length (map f xs)
within_map f n xs le = let size = length-map xs f in omega (arith, size, le)

pub within_back : {X Y : Type 0} (f : X → Y) (n : ℕ) (xs : List X) → n ≤ length (map f xs) → n ≤ length xs
within_back f n xs le = let size = length-map xs f in omega (arith, size, le)

one_of : (folders : List (List ℕ)) (k : ℕ) (folder path : List ℕ) → k < length folders
    → folder ≡ get_or folders k folder → AtOrBelow folder path → AtOne folders path
one_of [] k folder path lt is h = absurd (omega (arith, lt))
one_of (f ∷ folders) zero folder path lt is h = inl (subst (λ p. AtOrBelow p path) is h)
one_of (f ∷ folders) (suc k) folder path lt is h = inr (one_of folders k folder path (omega (arith, lt)) is h)

-- ---- answers

twice : (r : Result (List Node) StoreFault) (tree : Node) (first trees : List Node) → tree ∷ first ≡ trees
    → and_then (and_then r (λ more. Ok (first ++ more))) (λ more. Ok (tree ∷ more))
    ≡ and_then r (λ more. Ok (trees ++ more))
twice (Ok more) tree first trees same = ap (λ l. Ok (l ++ more)) same
twice (Err fault) tree first trees same = refl

once : (r : Result (List Node) StoreFault) (trees : List Node) → [] ≡ trees
    → r ≡ and_then r (λ more. Ok (trees ++ more))
once (Ok more) trees same = ap (λ l. Ok (l ++ more)) same
once (Err fault) trees same = refl

-- the trees of more folders, where those of the first ones are known
onward : (digests folders more others : List (List ℕ)) (files : Tree) (trees : List Node)
    → length digests ≡ length folders → trees_under digests folders files ≡ Ok trees
    → trees_under (digests ++ more) (folders ++ others) files
    ≡ and_then (trees_under more others files) (λ rest. Ok (trees ++ rest))
onward [] [] more others files trees size is = once (trees_under more others files) trees (cc)
onward [] (f ∷ folders) more others files trees size is = absurd (omega (arith, size))
onward (d ∷ digests) [] more others files trees size is = absurd (omega (arith, size))
onward (d ∷ digests) (f ∷ folders) more others files trees size is =
    by (tree_under d f files) (trees_under digests folders files)
    (λ first same. onward digests folders more others files first (omega (arith, size)) same) is
  where
    by : (one : Result Node StoreFault) (rest : Result (List Node) StoreFault) → ((first : List Node)
        → rest ≡ Ok first → trees_under (digests ++ more) (folders ++ others) files
        ≡ and_then (trees_under more others files) (λ rest. Ok (first ++ rest)))
        → and_then one (λ tree. and_then rest (λ ts. Ok (tree ∷ ts))) ≡ Ok trees
        → and_then one (λ tree. and_then (trees_under (digests ++ more) (folders ++ others) files)
        (λ ts. Ok (tree ∷ ts))) ≡ and_then (trees_under more others files) (λ rest. Ok (trees ++ rest))
    by (Err fault) rest later e = absurd (cc)
    by (Ok tree) (Err fault) later e = absurd (cc)
    by (Ok tree) (Ok first) later e =
        let all : tree ∷ first ≡ trees = cc in
        ap (λ r. and_then r (λ ts. Ok (tree ∷ ts))) (later first refl)
        ∙ twice (trees_under more others files) tree first trees all

module _ (digests folders : List (List ℕ)) (digest folder : List ℕ) (size : length digests ≡ length folders)
  where
    one_more : (files : Tree) (trees : List Node) (tree : Node) → trees_under digests folders files ≡ Ok trees
        → tree_under digest folder files ≡ Ok tree
        → trees_under (digests ++ digest ∷ []) (folders ++ folder ∷ []) files ≡ Ok (trees ++ tree ∷ [])
    one_more files trees tree is one = onward digests folders (digest ∷ []) (folder ∷ []) files trees size is
        ∙ ap (λ r. and_then (and_then r (λ t. Ok (t ∷ []))) (λ rest. Ok (trees ++ rest))) one

    one_stops : (more others : List (List ℕ)) (files : Tree) (trees : List Node) (fault : StoreFault)
        → trees_under digests folders files ≡ Ok trees → tree_under digest folder files ≡ Err fault
        → trees_under (digests ++ digest ∷ more) (folders ++ folder ∷ others) files ≡ Err fault
    one_stops more others files trees fault is one =
        onward digests folders (digest ∷ more) (folder ∷ others) files trees size is
        ∙ ap (λ r. and_then (and_then r (λ t. and_then (trees_under more others files) (λ ts. Ok (t ∷ ts))))
        (λ rest. Ok (trees ++ rest))) one

    more_where : (o later : Option Tree) (trees : List Node) (tree : Node) → later ≡ o
        → IfSome o (λ files. IsAnswer cause_of (Ok trees) (trees_under digests folders files))
        → IfSome later (λ files. IsAnswer cause_of (Ok tree) (tree_under digest folder files))
        → IfSome o (λ files. IsAnswer cause_of (Ok (trees ++ tree ∷ []))
        (trees_under (digests ++ digest ∷ []) (folders ++ folder ∷ []) files))
    more_where None later trees tree same is one = tt
    more_where (Some files) later trees tree same is one = one_more files trees tree is
        (subst (λ o. IfSome o (λ files. IsAnswer cause_of (Ok tree) (tree_under digest folder files))) same one)

    stops_where : (o later : Option Tree) (more others : List (List ℕ)) (trees : List Node) (fault : StoreFault)
        → later ≡ o → IfSome o (λ files. IsAnswer cause_of (Ok trees) (trees_under digests folders files))
        → IfSome later (λ files. IsAnswer {A = Node} cause_of (Err fault) (tree_under digest folder files))
        → IfSome o (λ files. IsAnswer {A = List Node} cause_of (Err fault)
        (trees_under (digests ++ digest ∷ more) (folders ++ folder ∷ others) files))
    stops_where None later more others trees fault same is one = tt
    stops_where (Some files) later more others trees fault same is one = where_map (cause_of fault)
        (tree_under digest folder files ≡ Err fault)
        (trees_under (digests ++ digest ∷ more) (folders ++ folder ∷ others) files ≡ Err fault)
        (one_stops more others files trees fault is)
        (subst (λ o. IfSome o (λ files. IsAnswer {A = Node} cause_of (Err fault) (tree_under digest folder files)))
        same one)

-- ---- folders

no_folder : (o : Option Tree) → IfSome o (λ files. IsAnswer cause_of (Ok []) (trees_under [] [] files))
no_folder None = tt
no_folder (Some files) = refl

no_misuse : (o : Option Tree) (a : ℕ) → MayMisuse (option_map (λ (files : Tree). true) o) a a
no_misuse None a = refl
no_misuse (Some files) a = refl

pub putting_none : (rows : List LayerRow) (folders : List (List ℕ)) (failed : List Bool) (shelves : List ShelfState)
    (start : Seen) → AllByRecursion HasNotFailed failed → length failed ≤ length shelves
    → Putting rows folders 0 failed failed shelves shelves start start
unfolding reads
putting_none rows folders failed shelves start none within = record {
  trees = [];
  size = refl;
  reads = record {
    same = record { files = refl; runs = refl };
    answer = no_folder start.files;
    cause = tt;
    named = tt;
    allows = no_misuse start.files start.misused;
    counts = record { ends = tt; files = refl; children = refl };
  };
  named = refl;
  each = each_begun failed shelves none within;
  paired = refl;
}

module _ (rows : List LayerRow) (folders : List (List ℕ)) (k : ℕ) (before failed later : List Bool)
    (old now new : List ShelfState) (start here end : Seen) (digest folder : List ℕ)
    (lt : k < length folders) (many : length folders ≡ length rows) (at : folder ≡ get_or folders k folder)
    (named : digest ≡ get_or (map digest_of_row rows) k digest)
    (was : Putting rows folders k before failed old now start here)
  where
    abbrev digests : List (List ℕ)
    digests = map digest_of_row rows

    in_digests : k < length digests
    in_digests = let size = length-map rows digest_of_row in omega (arith, lt, many, size)

    sizes : length (take k digests) ≡ length (take k folders)
    sizes = length-take-le k digests (omega (arith, in_digests)) ∙ sym (length-take-le k folders (omega (arith, lt)))

    more_reads : (tree : Node) → reads_under digest folder here (Ok tree) end
        → reads cause_of (AtOne folders) (λ files. true)
        (trees_under (take k digests ++ digest ∷ []) (take k folders ++ folder ∷ [])) start
        (Ok (was.trees ++ tree ∷ [])) end
    unfolding reads reads_under
    more_reads tree h = by was.reads h
      where
        by : Reads cause_of (AtOne folders) (λ files. true) (trees_under (take k digests) (take k folders)) start
            (Ok was.trees) here
            → Reads cause_of (AtOrBelow folder) (λ files. true) (tree_under digest folder) here (Ok tree) end
            → Reads cause_of (AtOne folders) (λ files. true)
            (trees_under (take k digests ++ digest ∷ []) (take k folders ++ folder ∷ [])) start
            (Ok (was.trees ++ tree ∷ [])) end
        by first one = record {
          same = record { files = one.same.files ∙ first.same.files; runs = one.same.runs ∙ first.same.runs };
          answer = more_where (take k digests) (take k folders) digest folder sizes start.files here.files
              was.trees tree
              first.same.files first.answer one.answer;
          cause = tt;
          named = tt;
          allows = may_same (λ files. true) (λ files. true) start.files here.files start.misused here.misused
              end.misused
              first.same.files first.allows one.allows;
          counts = files_link None start here end first.counts one.counts;
        }

    stop_reads : (fault : StoreFault) → reads_under digest folder here (Err fault) end
        → reads_trees rows folders start (Err fault) end
    unfolding reads reads_under reads_trees
    stop_reads fault h = by was.reads h
      where
        by : Reads cause_of (AtOne folders) (λ files. true) (trees_under (take k digests) (take k folders)) start
            (Ok was.trees) here
            → Reads {A = Node} cause_of (AtOrBelow folder) (λ files. true) (tree_under digest folder) here
            (Err fault) end
            → Reads cause_of (AtOne folders) (λ files. true) (trees_under digests folders) start (Err fault) end
        by first one = record {
          same = record { files = one.same.files ∙ first.same.files; runs = one.same.runs ∙ first.same.runs };
          answer = subst (λ ds. IfSome start.files (λ files. IsAnswer {A = List Node} cause_of (Err fault)
              (trees_under ds folders files))) (sym (at_place digests k digest in_digests named))
              (subst (λ fs. IfSome start.files (λ files. IsAnswer {A = List Node} cause_of (Err fault)
              (trees_under (take k digests ++ digest ∷ drop (suc k) digests) fs files)))
              (sym (at_place folders k folder lt at))
              (stops_where (take k digests) (take k folders) digest folder sizes start.files here.files
              (drop (suc k) digests) (drop (suc k) folders) was.trees fault first.same.files first.answer one.answer));
          cause = one.cause;
          named = named_more (AtOrBelow folder) (AtOne folders) (λ path h. one_of folders k folder path lt at h)
              (cause_of fault) one.named;
          allows = may_same (λ files. true) (λ files. true) start.files here.files start.misused here.misused
              end.misused
              first.same.files first.allows one.allows;
          counts = files_link (ended_by {A = Node} cause_of (Err fault)) start here end first.counts one.counts;
        }

    named_more_trees : (tree : Node) → digest ≡ digest_of_tree tree
        → map digest_of_tree (was.trees ++ tree ∷ []) ≡ take (suc k) digests
    named_more_trees tree is = map-last digest_of_tree was.trees tree
        ∙ ap (λ l. l ++ digest_of_tree tree ∷ []) was.named
        ∙ ap (λ d. take k digests ++ d ∷ []) (sym is) ∙ sym (to_place digests k digest in_digests named)

    more_trees : (tree : Node) → length (was.trees ++ tree ∷ []) ≡ suc k
    more_trees tree =
        let all = length-append was.trees (tree ∷ []) in
        let so_far = was.size in
        omega (arith, all, so_far)

    went : (tree : Node) → reads_under digest folder here (Ok tree) end
        → CachesRead digest (Ok tree) failed later now new
        → Putting rows folders (suc k) before later old new start end
    went tree h (is, each) = record {
      trees = was.trees ++ tree ∷ [];
      size = more_trees tree;
      reads = subst (λ ds. reads cause_of (AtOne folders) (λ files. true) (trees_under ds (take (suc k) folders)) start
          (Ok (was.trees ++ tree ∷ [])) end) (sym (to_place digests k digest in_digests named))
          (subst (λ fs. reads cause_of (AtOne folders) (λ files. true) (trees_under (take k digests ++ digest ∷ []) fs)
          start (Ok (was.trees ++ tree ∷ [])) end) (sym (to_place folders k folder lt at)) (more_reads tree h));
      named = named_more_trees tree is;
      each = subst (λ l. EachBy (Holds l) later old new) (sym (map-last spelled was.trees tree))
          (each_then (Holds (map spelled was.trees)) (Holds (map spelled was.trees ++ spelled tree ∷ []))
          (HasPut digest (spelling_of tree))
          (put_step (map spelled was.trees) (spelled tree) digest (spelling_of tree) is refl)
          failed later old now new was.each each);
      paired = each_paired (HasPut digest (spelling_of tree)) failed later now new each ∙ was.paired;
    }

    stopped : (fault : StoreFault) → reads_under digest folder here (Err fault) end
        → CachesRead digest (Err fault) failed later now new
        → PutsFolders rows folders (Err fault) before later old new start end
    stopped fault h (inl each) = record {
      read = Err fault;
      trees = was.trees;
      reads = stop_reads fault h;
      answer = refl;
      named = was.named ∙ ap (λ n. take n digests) (sym was.size);
      each = each_then (Holds (map spelled was.trees)) (HoldsSome (map spelled was.trees)) KeepsTold
          (told_step (map spelled was.trees)) failed later old now new was.each each;
      paired = each_paired KeepsTold failed later now new each ∙ was.paired;
    }
    stopped fault h (inr (memory, tree, is, each)) = record {
      read = Err fault;
      trees = was.trees ++ tree ∷ [];
      reads = stop_reads fault h;
      answer = refl;
      named = named_more_trees tree is ∙ ap (λ n. take n digests) (sym (more_trees tree));
      each = subst (λ l. EachBy (HoldsSome l) later old new) (sym (map-last spelled was.trees tree))
          (each_then (Holds (map spelled was.trees)) (HoldsSome (map spelled was.trees ++ spelled tree ∷ []))
          (MayHavePut digest (spelling_of tree))
          (may_put_step (map spelled was.trees) (spelled tree) digest (spelling_of tree) is refl)
          failed later old now new was.each each);
      paired = each_paired (MayHavePut digest (spelling_of tree)) failed later now new each ∙ was.paired;
    }

    -- a folder was put
    pub putting_more : (result : Result Unit StoreFault) (done : Unit {0})
        → CachesFolder digest folder now failed here result new later end → result ≡ Ok done
        → Putting rows folders (k + 1) before later old new start end
    putting_more result done c is =
        let next : suc k ≡ k + 1 = omega arith in
        subst (λ n. Putting rows folders n before later old new start end) next
        (by c.read c.reads (sym c.answer ∙ is) c.caches)
      where
        by : (read : Result Node StoreFault) → reads_under digest folder here read end → is_read read ≡ Ok done
            → CachesRead digest read failed later now new
            → Putting rows folders (suc k) before later old new start end
        by (Ok tree) h e each = went tree h each
        by (Err fault) h e each = absurd (cc)

    -- a folder was refused
    pub putting_stops : (result : Result Unit StoreFault) (fault : StoreFault)
        → CachesFolder digest folder now failed here result new later end → result ≡ Err fault
        → PutsFolders rows folders (Err fault) before later old new start end
    putting_stops result fault c is = by c.read c.reads (sym c.answer ∙ is) c.caches
      where
        by : (read : Result Node StoreFault) → reads_under digest folder here read end → is_read read ≡ Err fault
            → CachesRead digest read failed later now new
            → PutsFolders rows folders (Err fault) before later old new start end
        by (Ok tree) h e each = absurd (cc)
        by (Err refusal) h e each =
            let same : refusal ≡ fault = cc in
            subst (λ f. PutsFolders rows folders (Err f) before later old new start end) same (stopped refusal h each)

-- all were put
pub putting_all : (rows : List LayerRow) (folders : List (List ℕ)) (k : ℕ) (before failed : List Bool)
    (old now : List ShelfState) (start here : Seen) (done : Unit {0}) → length folders ≤ k
    → length folders ≡ length rows → Putting rows folders k before failed old now start here
    → PutsFolders rows folders (Ok done) before failed old now start here
unfolding reads_trees
putting_all rows folders k before failed old now start here done le many was =
    let size = length-map rows digest_of_row in
    let whole : take k (map digest_of_row rows) ≡ map digest_of_row rows = take_all k (map digest_of_row rows)
    (omega (arith, le, many, size)) in
    let every : take k folders ≡ folders = take_all k folders le in
    record {
      read = Ok was.trees;
      trees = was.trees;
      reads = subst (λ fs. reads cause_of (AtOne folders) (λ files. true) (trees_under (map digest_of_row rows) fs)
          start (Ok was.trees) here) every
          (subst (λ ds. reads cause_of (AtOne folders) (λ files. true) (trees_under ds (take k folders)) start
          (Ok was.trees) here) whole was.reads);
      answer = (refl, sym (was.named ∙ whole));
      named = was.named ∙ ap (λ n. take n (map digest_of_row rows)) (sym was.size);
      each = was.each;
      paired = was.paired;
    }

-- the shelves are still there
pub putting_within : (rows : List LayerRow) (folders : List (List ℕ)) (k : ℕ) (before failed : List Bool)
    (old now : List ShelfState) (start here : Seen) → Putting rows folders k before failed old now start here
    → length failed ≤ length now
putting_within rows folders k before failed old now start here was = each_within (Holds (map spelled was.trees)) failed
    old now was.each

-- ---- the rows

module _ (rows : List LayerRow) (folders : List (List ℕ)) (document : List ℕ) (before failed : List Bool)
    (old now : List ShelfState) (start here : Seen)
  where
    pub folders_within : (result : Result Unit StoreFault)
        → PutsFolders rows folders result before failed old now start here → length failed ≤ length now
    folders_within (Ok done) p = each_within (Holds (map spelled p.trees)) failed old now p.each
    folders_within (Err fault) p = each_within (HoldsSome (map spelled p.trees)) failed old now p.each

    -- a folder was refused
    pub rows_not_set : (fault : StoreFault) → PutsFolders rows folders (Err fault) before failed old now start here
        → PutsAll rows folders document (Err fault) before failed old now start here
    rows_not_set fault p = record {
      read = p.read;
      trees = p.trees;
      reads = p.reads;
      answer = p.answer;
      named = p.named;
      each = each_so (HoldsSome (map spelled p.trees)) (MaybeStored (map spelled p.trees) document)
          (no_rows (map spelled p.trees) document) failed old now p.each;
      paired = p.paired;
    }

    module _ (later : List Bool) (new : List ShelfState) (done : Unit {0})
        (p : PutsFolders rows folders (Ok done) before failed old now start here)
      where
        pub rows_set : (result : Result Unit NoMemory) (set : Unit {0})
            → CachesRows document now failed result new later
            → result ≡ Ok set → PutsAll rows folders document (Ok set) before later old new start here
        rows_set result set c is =
            let each = subst (λ r. CachesRows document now failed r new later) is c in
            record {
              read = p.read;
              trees = p.trees;
              reads = p.reads;
              answer = p.answer;
              named = p.named;
              each = each_then (Holds (map spelled p.trees)) (Stored (map spelled p.trees) document) (HasRows document)
                  (rows_step (map spelled p.trees) document) failed later old now new p.each each;
              paired = each_paired (HasRows document) failed later now new each ∙ p.paired;
            }

        short : (read : Result (List Node) StoreFault) → read ≡ Ok p.trees → reads_trees rows folders start read here
            → reads_trees rows folders start (Err store.Memory) here
        unfolding reads_trees reads
        short read is h = by (subst (λ r. Reads cause_of (AtOne folders) (λ files. true)
            (trees_under (map digest_of_row rows) folders) start r here) is h)
          where
            anyway : (o : Option Tree) → IfSome o (λ files. IsAnswer {A = List Node} cause_of (Err store.Memory)
                (trees_under (map digest_of_row rows) folders files))
            anyway None = tt
            anyway (Some files) = tt

            by : Reads cause_of (AtOne folders) (λ files. true) (trees_under (map digest_of_row rows) folders) start
                (Ok p.trees) here
                → Reads cause_of (AtOne folders) (λ files. true) (trees_under (map digest_of_row rows) folders) start
                (Err store.Memory) here
            by r = record {
              same = r.same;
              answer = anyway start.files;
              cause = tt;
              named = tt;
              allows = r.allows;
              counts = record {
                ends = tt;
                files = let kept : here.file_faults ≡ start.file_faults = r.counts.files in omega (arith, kept);
                children = r.counts.children;
              };
            }

        -- memory ran out
        pub rows_refused : (result : Result Unit NoMemory) (memory : NoMemory)
            → CachesRows document now failed result new later → result ≡ Err memory
            → PutsAll rows folders document (Err store.Memory) before later old new start here
        rows_refused result memory c is =
            let each = subst (λ r. CachesRows document now failed r new later) is c in
            record {
              read = Err store.Memory;
              trees = p.trees;
              reads = short p.read p.answer.0 p.reads;
              answer = refl;
              named = p.named;
              each = each_then (Holds (map spelled p.trees)) (MaybeStored (map spelled p.trees) document)
                  (MayHaveRows document) (may_step (map spelled p.trees) document) failed later old now new p.each each;
              paired = each_paired (MayHaveRows document) failed later now new each ∙ p.paired;
            }
