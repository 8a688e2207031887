-- What putting a folder's tree comes to.
use Rattle.std.proofs.Common.{◌≡◌, ◌∙◌, refl, sym, ap, subst, ℕ, Bool, true, false, ◌⊎◌, inl, inr, List, Option, Some}
use Rattle.std.proofs.Common.{None, Result, Ok, Err}
use Rattle.std.specs.Prelude.{IfErr, IfOk, IfSome, IsTrue, OnErr, OnOk}
use Rattle.std.specs.Option.{option_map}
use Rattle.sha2.specs.Sha256.{sha256}
use Rattle.cnb_world.specs.Calls.{MayMisuse}
use Rattle.cnb_world.specs.Tree.{Tree, is_file_or_absent, is_within, item_at}
use Rattle.cnb_world.proofs.Misuse.{both}
use Rattle.steps.specs.Causes.{IsAnswer, WhereDecided, ended_by}
use Rattle.steps.specs.Counts.{FileCounts}
use Rattle.steps.specs.Outside.{Seen}
use Rattle.steps.specs.Steps.{reads}
use Rattle.steps.proofs.EndLaws.{files_link, files_rest}
use Rattle.steps.proofs.ReadingLaws.{where_map}
use Rattle.tree_canon.specs.Spelling.{spelling_of}
use Rattle.tree_canon.specs.declared.node.Node.{Node}
use Rattle.tree_store.specs.Answers.{BlamesEither, BlamesWithin, cause_of, is_free}
use Rattle.tree_store.specs.Around.{KeptAround}
use Rattle.tree_store.specs.Reading.{tree_in}
use Rattle.tree_store.specs.Steps.{BlamesFolder, LeavesFolder, PutsRead, can_name, can_put_folder, folder_put}
use Rattle.tree_store.specs.Steps.{puts_folder, reads_tree}
use Rattle.tree_store.specs.Store.{Keeps, done_of, tree_path}
use Rattle.tree_store.specs.Writing.{IsCleared, IsClearedOf, KeptFile, LeavesNew, LeavesButFile, LeavesButPut}
use Rattle.tree_store.specs.Writing.{PutsBytes, WriterState}
use Rattle.tree_store.specs.Writing.{Refuses, bytes_put, can_begin, new_path, trees_of}
use Rattle.tree_store.specs.declared.fault.StoreFault.{StoreFault}
use Rattle.tree_store.specs.declared.fault.StoreFault.TheVariants.{OddFile, Limit, File, NoTree, Damaged, Clash, Memory}
use Rattle.tree_store.specs.Target.{ToFile}
use Rattle.tree_store.proofs.CountLaws.{counted}
use Rattle.tree_store.proofs.Around.{kept_itself}
use Rattle.tree_store.proofs.NewPlace.{place_itself}
use Rattle.tree_store.proofs.Puts.{free_keeps, unless_free}
use Rattle.tree_store.proofs.Written.{leaves_file, leaves_others, others_stop, others_then}
use Rattle.tree_store.proofs.Settled.{decided_is, new_within, where_so, put_others_then, same_right}

-- ---- refusals

blames_trees : (store path : List ℕ) (fault : StoreFault) → BlamesWithin (trees_of store) fault
    → BlamesFolder store path fault
blames_trees store path (File blamed) h = inr h
blames_trees store path (OddFile odd) h = tt
blames_trees store path (Limit kind) h = tt
blames_trees store path (NoTree digest) h = tt
blames_trees store path (Damaged asked found bad) h = tt
blames_trees store path (Clash digest) h = tt
blames_trees store path Memory h = tt

blames_path : (store path : List ℕ) (fault : StoreFault) → BlamesWithin path fault → BlamesFolder store path fault
blames_path store path (File blamed) h = inl h
blames_path store path (OddFile odd) h = tt
blames_path store path (Limit kind) h = tt
blames_path store path (NoTree digest) h = tt
blames_path store path (Damaged asked found bad) h = tt
blames_path store path (Clash digest) h = tt
blames_path store path Memory h = tt

blames_one : (store path file : List ℕ) (fault : StoreFault) → file ≡ new_path store
    → BlamesEither path file fault → BlamesFolder store path fault
blames_one store path file (File blamed) at (inl h) = inl h
blames_one store path file (File blamed) at (inr h) = inr (ap (is_within (trees_of store)) (h ∙ at) ∙ new_within store)
blames_one store path file (OddFile odd) at h = tt
blames_one store path file (Limit kind) at h = tt
blames_one store path file (NoTree digest) at h = tt
blames_one store path file (Damaged asked found bad) at h = tt
blames_one store path file (Clash digest) at h = tt
blames_one store path file Memory at h = tt

free_read : (store : List ℕ) (read : Result Node StoreFault) (files : Tree) (fault : StoreFault)
    → IsTrue (is_free fault) → PutsRead store read files (Err fault)
free_read store (Ok tree) files fault free = free_keeps (Some files) (tree_path store (sha256 (spelling_of tree)))
    (sha256 (spelling_of tree)) (spelling_of tree) fault free
free_read store (Err refusal) files fault free = unless_free fault (Err refusal ≡ Err fault) free

free_puts : (o : Option Tree) (store path : List ℕ) (fault : StoreFault) → IsTrue (is_free fault)
    → IfSome o (λ files. PutsRead store (tree_in path files) files (Err fault))
free_puts None store path fault free = tt
free_puts (Some files) store path fault free = free_read store (tree_in path files) files fault free

answer_itself : (fault : StoreFault) → IsAnswer {A = List ℕ} cause_of (Err fault) (Err fault)
answer_itself (File blamed) = tt
answer_itself Memory = tt
answer_itself (OddFile odd) = refl
answer_itself (Limit kind) = refl
answer_itself (NoTree digest) = refl
answer_itself (Damaged asked found bad) = refl
answer_itself (Clash digest) = refl

-- what reading refuses
refused_puts : (o : Option Tree) (store path : List ℕ) (fault : StoreFault) → Refuses o (tree_in path) fault
    → IfSome o (λ files. PutsRead store (tree_in path files) files (Err fault))
refused_puts None store path fault h = tt
refused_puts (Some files) store path fault h = by (is_free fault) refl
  where
    by : (v : Bool) → is_free fault ≡ v → PutsRead store (tree_in path files) files (Err fault)
    by true e = free_read store (tree_in path files) files fault e
    by false e = let is : tree_in path files ≡ Err fault = subst
        (λ cause. WhereDecided cause (tree_in path files ≡ Err fault)) (decided_is fault e) h
        in subst (λ read. PutsRead store read files (Err fault)) (sym is) (answer_itself fault)

rest_allowed : (store path : List ℕ) (before : Option Tree) (x y z : ℕ)
    → MayMisuse (option_map (can_begin store) before) x y → z ≡ y
    → MayMisuse (option_map (can_put_folder store path) before) x z
rest_allowed store path before x y z begun same = both (can_begin store)
    (λ files. can_name store (tree_in path files) files) before before x y z refl begun
    (same_right before (λ files. can_name store (tree_in path files) files) y z same)

none_begun : (store path : List ℕ) (before : Option Tree) (x y : ℕ) → y ≡ x
    → MayMisuse (option_map (can_put_folder store path) before) x y
none_begun store path before x y same = same_right before (can_put_folder store path) x y same

-- the file could not be begun
pub not_begun : {A : Type 0} (store path : List ℕ) {a b : Seen} {fault : StoreFault}
    → LeavesButFile {A = A} (new_path store) a (Err fault) b → IsTrue (is_free fault)
    → BlamesWithin (trees_of store) fault → MayMisuse (option_map (can_begin store) a.files) a.misused b.misused
    → puts_folder store path a (Err fault) b
unfolding puts_folder
not_begun {A} store path {a} {b} {fault} left free blames may = record {
  answer = free_puts a.files store path fault free;
  leaves = (left.around.files, unless_free fault (IsCleared store b.files ⊎ (b.files ≡ a.files)) free);
  place = left.place;
  blames = blames_trees store path fault blames;
  cause = left.cause;
  runs = left.around.runs;
  allows = rest_allowed store path a.files a.misused b.misused b.misused may refl;
  counts = counted {A = A} (Err fault) a b left.counts left.children;
}

-- what was written is removed
free_answered : (fault answered : StoreFault) → IsTrue (is_free fault) → IsTrue (is_free answered)
    ⊎ (answered ≡ fault) → IsTrue (is_free answered)
free_answered fault answered free (inl h) = h
free_answered fault answered free (inr same) = ap is_free same ∙ free

blames_answered : (trees : List ℕ) (fault answered : StoreFault) → BlamesWithin trees fault
    → BlamesWithin trees answered ⊎ (answered ≡ fault) → BlamesWithin trees answered
blames_answered trees fault answered before (inl h) = h
blames_answered trees fault answered before (inr same) = subst (BlamesWithin trees) (sym same) before

pub not_added : {A : Type 0} (store path : List ℕ) {a b c : Seen} {fault answered : StoreFault}
    → LeavesButFile {A = A} (new_path store) a (Err fault) b → IsTrue (is_free fault)
    → BlamesWithin (trees_of store) fault → MayMisuse (option_map (can_begin store) a.files) a.misused b.misused
    → IsClearedOf fault store b answered c → BlamesWithin (trees_of store) answered ⊎ (answered ≡ fault)
    → puts_folder store path a (Err answered) c
not_added store path {a} {b} {c} {fault} {answered} left free blames may clear blamed =
    not_begun {A = Unit {0}} store path (clear.others a (others_stop left))
    (free_answered fault answered free clear.same)
    (blames_answered (trees_of store) fault answered blames blamed)
    (subst (λ n. MayMisuse (option_map (can_begin store) a.files) a.misused n) (sym clear.right) may)

-- nothing was done
pub no_memory : (store path : List ℕ) (a : Seen) → puts_folder store path a (Err Memory) a
unfolding puts_folder
no_memory store path a = record {
  answer = free_puts a.files store path Memory refl;
  leaves = (kept_itself (new_path store) a.files a.files refl, tt);
  place = place_itself (new_path store) a.files a.files refl;
  blames = tt;
  cause = tt;
  runs = refl;
  allows = none_begun store path a.files a.misused a.misused refl;
  counts = files_rest.memory a;
}

-- what was read refuses it
pub walk_refused : {store path : List ℕ} {writer after : WriterState} {a b c d : Seen} {fault answered : StoreFault}
    → writer.target ≡ ToFile (new_path store) → LeavesButFile {A = Unit {0}} (new_path store) a (Ok tt) b
    → MayMisuse (option_map (can_begin store) a.files) a.misused b.misused
    → LeavesNew {A = ℕ} path writer b (Err fault) after c → Refuses a.files (tree_in path) fault
    → c.misused ≡ b.misused → IsClearedOf fault store c answered d
    → (BlamesWithin (trees_of store) answered ⊎ (answered ≡ fault))
    → puts_folder store path a (Err answered) d
unfolding puts_folder
walk_refused {store} {path} {writer} {after} {a} {b} {c} {d} {fault} {answered} at begun may leaves refused right
    clear blames = record {
      answer = answer clear.same;
      leaves = (
        all.around.files,
        where_map (cause_of answered) (IsCleared store d.files)
            (IsCleared store d.files ⊎ (d.files ≡ a.files)) (λ h. inl h) clear.cleared,
      );
      place = all.place;
      blames = blamed blames;
      cause = all.cause;
      runs = all.around.runs;
      allows = rest_allowed store path a.files a.misused b.misused d.misused may (clear.right ∙ right);
      counts = counted {A = Unit {0}} (Err answered) a d all.counts all.children;
    }
  where
    walked : LeavesButFile {A = Unit {0}} (new_path store) b (Err fault) c
    walked = others_stop (leaves_others (new_path store) at leaves)

    all : LeavesButFile {A = Unit {0}} (new_path store) a (Err answered) d
    all = clear.others a (others_then begun walked)

    answer : IsTrue (is_free answered) ⊎ (answered ≡ fault)
        → IfSome a.files (λ files. PutsRead store (tree_in path files) files (Err answered))
    answer (inl free) = free_puts a.files store path answered free
    answer (inr same) = subst (λ f. IfSome a.files (λ files. PutsRead store (tree_in path files) files (Err f)))
        (sym same) (refused_puts a.files store path fault refused)

    blamed : BlamesWithin (trees_of store) answered ⊎ (answered ≡ fault) → BlamesFolder store path answered
    blamed (inl h) = blames_trees store path answered h
    blamed (inr same) = subst (BlamesFolder store path) (sym same)
        (blames_one store path (new_path store) fault refl (leaves_file (new_path store) at leaves).1)

-- ---- the tree is put

named_right : (store path bytes : List ℕ) (tree : Node) (before : Option Tree) (x y : ℕ)
    → bytes ≡ spelling_of tree → IfSome before (λ files. tree_in path files ≡ Ok tree)
    → MayMisuse (option_map (λ t. is_file_or_absent (item_at t (tree_path store (sha256 bytes)))) before) x y
    → MayMisuse (option_map (λ files. can_name store (tree_in path files) files) before) x y
named_right store path bytes tree None x y is read m = m
named_right store path bytes tree (Some files) x y is read m = subst (λ v. MayMisuse (Some v) x y)
    (ap (λ b. is_file_or_absent (item_at files (tree_path store (sha256 b)))) is
    ∙ sym (ap (λ r. can_name store r files) read)) m

named_answer : (store path bytes : List ℕ) (tree : Node) (before : Option Tree)
    (result : Result (List ℕ) StoreFault) → bytes ≡ spelling_of tree
    → IfSome before (λ files. tree_in path files ≡ Ok tree)
    → IfSome before (λ files. Keeps (sha256 bytes) bytes (item_at files (tree_path store (sha256 bytes)))
    (done_of result)) → IfSome before (λ files. PutsRead store (tree_in path files) files result)
named_answer store path bytes tree None result is read keeps = tt
named_answer store path bytes tree (Some files) result is read keeps = subst (λ r. PutsRead store r files result)
    (sym read) (subst (λ b. Keeps (sha256 b) b (item_at files (tree_path store (sha256 b))) (done_of result)) is
    keeps)

pub tree_named : (path : List ℕ) {store bytes : List ℕ} {a b c : Seen} {result : Result (List ℕ) StoreFault}
    (tree : Node) → bytes ≡ spelling_of tree → IfSome a.files (λ files. tree_in path files ≡ Ok tree)
    → MayMisuse (option_map (can_begin store) a.files) a.misused b.misused → LeavesButPut store a result c
    → PutsBytes store bytes a.files b result c
    → IfErr result (BlamesWithin (trees_of store)) → puts_folder store path a result c
unfolding puts_folder
tree_named path {store} {bytes} {a} {b} {c} {result} tree is read may left puts blames = record {
  answer = named_answer store path bytes tree a.files result is read puts.named.keeps;
  leaves = leaves result left.kept puts.digest puts.named.files puts.named.cleared;
  place = left.place;
  blames = blamed result blames;
  cause = left.cause;
  runs = left.runs;
  allows = both (can_begin store) (λ files. can_name store (tree_in path files) files) a.files a.files a.misused
      b.misused c.misused refl may (named_right store path bytes tree a.files b.misused c.misused is read
      puts.named.right);
  counts = counted result a c left.counts left.children;
}
  where
    leaves : (r : Result (List ℕ) StoreFault) → OnErr r (KeptAround (new_path store) a.files c.files)
        → IfOk r (λ digest. digest ≡ sha256 bytes) → OnOk (done_of r)
        (c.files ≡ option_map (bytes_put store bytes) a.files) → IfErr (done_of r)
        (λ fault. WhereDecided (cause_of fault) (IsCleared store c.files)) → LeavesFolder store path a r c
    leaves (Ok digest) kept d files cleared = (
      tree,
      d ∙ ap sha256 is,
      read,
      files
          ∙ ap (λ b. option_map (bytes_put store b) a.files) is,
    )
    leaves (Err fault) kept d files cleared = (
      kept,
      where_map (cause_of fault) (IsCleared store c.files)
          (IsCleared store c.files ⊎ (c.files ≡ a.files)) (λ h. inl h) cleared,
    )

    blamed : (r : Result (List ℕ) StoreFault) → IfErr r (BlamesWithin (trees_of store))
        → IfErr r (BlamesFolder store path)
    blamed (Ok digest) h = tt
    blamed (Err fault) h = blames_trees store path fault h

-- ---- a tree that is read before

same_count : (o : Option Tree) (x y : ℕ) → MayMisuse (option_map (λ files. true) o) x y → y ≡ x
same_count None x y h = h
same_count (Some files) x y h = h

pub read_refused : (store path : List ℕ) (a b : Seen) (fault : StoreFault) → reads_tree path a (Err fault) b
    → BlamesWithin path fault → puts_folder store path a (Err fault) b
unfolding puts_folder reads_tree reads
read_refused store path a b fault read blames = record {
  answer = refused_puts a.files store path fault read.answer;
  leaves = (
    kept_itself (new_path store) a.files b.files read.same.files,
    where_so (cause_of fault)
        (IsCleared store b.files ⊎ (b.files ≡ a.files)) (inr read.same.files),
  );
  place = place_itself (new_path store) a.files b.files read.same.files;
  blames = blames_path store path fault blames;
  cause = read.cause;
  runs = read.same.runs;
  allows = none_begun store path a.files a.misused b.misused (same_count a.files a.misused b.misused read.allows);
  counts = read.counts;
}

-- ---- what the whole walk leaves

pub put_all_others : {A B : Type 0} {store path : List ℕ} {w : B} {writer after : WriterState} {v : A}
    {a b c d : Seen} {r : Result (List ℕ) StoreFault} → writer.target ≡ ToFile (new_path store)
    → LeavesButFile {A = B} (new_path store) a (Ok w) b → LeavesNew {A = A} path writer b (Ok v) after c
    → LeavesButPut store c r d → LeavesButPut store a r d
put_all_others {store = store} at begun leaves put = put_others_then
    (others_then begun (leaves_others (new_path store) at leaves)) put

-- ---- behind a step that changed nothing

folder_from : (store path : List ℕ) (a b c : Seen) (r : Result (List ℕ) StoreFault) → b.files ≡ a.files
    → b.runs ≡ a.runs → b.misused ≡ a.misused → FileCounts None a b → puts_folder store path b r c
    → puts_folder store path a r c
unfolding puts_folder
folder_from store path a b c r files runs misused counts h = record {
  answer = subst (λ o. IfSome o (λ files. PutsRead store (tree_in path files) files r)) files h.answer;
  leaves = leaves r h.leaves;
  place = subst (λ o. OnErr r (KeptFile (new_path store) o c.files)) files h.place;
  blames = h.blames;
  cause = h.cause;
  runs = h.runs ∙ runs;
  allows = subst (λ n. MayMisuse (option_map (can_put_folder store path) a.files) n c.misused) misused
      (subst (λ o. MayMisuse (option_map (can_put_folder store path) o) b.misused c.misused) files h.allows);
  counts = files_link (ended_by cause_of r) a b c counts h.counts;
}
  where
    stays : IsCleared store c.files ⊎ (c.files ≡ b.files) → IsCleared store c.files ⊎ (c.files ≡ a.files)
    stays (inl h) = inl h
    stays (inr h) = inr (h ∙ files)

    leaves : (r : Result (List ℕ) StoreFault) → LeavesFolder store path b r c → LeavesFolder store path a r c
    leaves (Ok digest) (tree, is, read, put) = (
      tree,
      is,
      subst
          (λ o. IfSome o (λ files. tree_in path files ≡ Ok tree)) files read,
      put
          ∙ ap (option_map (folder_put store tree)) files,
    )
    leaves (Err fault) (kept, gone) = (
      subst (λ o. KeptAround (new_path store) o c.files) files kept,
      where_map
          (cause_of fault) (IsCleared store c.files ⊎ (c.files ≡ b.files))
          (IsCleared store c.files ⊎ (c.files ≡ a.files)) stays gone,
    )

pub read_then : (store path : List ℕ) (a b c : Seen) (tree : Node) (r : Result (List ℕ) StoreFault)
    → reads_tree path a (Ok tree) b → puts_folder store path b r c → puts_folder store path a r c
unfolding reads_tree reads
read_then store path a b c tree r read h = folder_from store path a b c r read.same.files read.same.runs
    (same_count a.files a.misused b.misused read.allows) read.counts h

pub read_still : (path : List ℕ) (a b : Seen) (tree : Node) → reads_tree path a (Ok tree) b
    → IfSome b.files (λ files. tree_in path files ≡ Ok tree)
unfolding reads_tree reads
read_still path a b tree read = subst (λ o. IfSome o (λ files. tree_in path files ≡ Ok tree))
    (sym read.same.files) read.answer
