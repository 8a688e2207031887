-- What the store answers and leaves.
use Rattle.std.proofs.Common.{◌≡◌, ◌≢◌, ℕ, ◌*◌, ◌≤◌, ◌∙◌, Bool, true, false, not, ◌&&◌, List, length, take, refl, sym}
use Rattle.std.proofs.Common.{ap, subst, arith, Option, Some, None, Result, Ok, Err, is_some}
use Rattle.std.specs.Prelude.{IfOk, IfSome, IsTrue, ◌↔◌}
use Rattle.std.specs.Option.{option_map}
use Rattle.std.proofs.lemmas.List.{take_all}
use Rattle.cnb_world.specs.Calls.{MayMisuse}
use Rattle.cnb_world.specs.Tree.{Tree, item_at, is_file, is_file_or_absent, kind_of, bytes_of}
use Rattle.cnb_world.specs.Whole.{written, can_write, LeavesPart}
use Rattle.cnb_world.specs.declared.world.Item.{Item}
use Rattle.cnb_world.specs.declared.world.Item.TheVariants as item
use Rattle.cnb_world.specs.declared.world.Kind.{Kind}
use Rattle.cnb_world.specs.declared.world.Kind.TheVariants as kind
use Rattle.sha2.specs.Sha256.{sha256}
use Rattle.tree_canon.specs.Judging.{IsJudged}
use Rattle.tree_canon.specs.Spelling.{spelling_of}
use Rattle.tree_canon.specs.declared.judging.Judged.{Judged}
use Rattle.tree_canon.specs.declared.judging.Judged.TheVariants as judged
use Rattle.tree_canon.specs.declared.node.Node.{Node}
use Rattle.tree_store.specs.declared.fault.StoreFault.{StoreFault}
use Rattle.tree_store.specs.declared.fault.StoreFault.TheVariants.{OddFile, Limit, File, NoTree, Damaged, Clash, Memory}
use Rattle.tree_canon.specs.declared.judging.Judging.{Judging}
use Rattle.tree_canon.specs.Judging.{HasTaken}
use Rattle.steps.specs.Causes.{IsAnswer, WhereDecided}
use Rattle.tree_store.specs.Answers.{cause_of, is_free, is_file_kind, is_absent_kind}
use Rattle.tree_store.specs.Store.{left_or_written, kept_or_written, KeepsOver, Keeps, LeavesStore, IsJudgedTree}
use Rattle.tree_store.specs.Store.{GetsOf, Gets}
use Rattle.cnb_world.proofs.WholeLemmas.{unbegun}
use Rattle.tree_store.proofs.Kept.{Taken, contents}

-- ---- kinds

file_kind : (found : Option Item) → is_file_kind (kind_of found) ≡ is_file found
file_kind None = refl
file_kind (Some item.Folder) = refl
file_kind (Some (item.File exec bytes)) = refl
file_kind (Some (item.Link target)) = refl
file_kind (Some item.Odd) = refl

absent_kind : (found : Option Item) → is_absent_kind (kind_of found) ≡ not (is_some found)
absent_kind None = refl
absent_kind (Some item.Folder) = refl
absent_kind (Some (item.File exec bytes)) = refl
absent_kind (Some (item.Link target)) = refl
absent_kind (Some item.Odd) = refl

pub has_told : (o : Option Tree) (path place : List ℕ) (k : Kind) (is : Bool) → place ≡ path
    → IfSome o (λ files. k ≡ kind_of (item_at files place)) → is ≡ is_file_kind k
    → IfSome o (λ files. IsAnswer {A = Bool} cause_of (Ok is) (Ok (is_file (item_at files path))))
has_told None path place k is same told e = tt
has_told (Some files) path place k is same told e = ap Ok
    (sym (e ∙ ap is_file_kind told ∙ file_kind (item_at files place) ∙ ap (λ p. is_file (item_at files p)) same))

pub absent_told : (o : Option Tree) (path : List ℕ) (k : Kind) (is : Bool)
    → IfSome o (λ files. k ≡ kind_of (item_at files path)) → is ≡ is_absent_kind k
    → IfSome o (λ files. is ≡ not (is_some (item_at files path)))
absent_told None path k is told e = tt
absent_told (Some files) path k is told e = e ∙ ap is_absent_kind told ∙ absent_kind (item_at files path)

-- ---- comparing

pub same_keeps : (o : Option Tree) (path digest bytes : List ℕ) (same : Bool) → same ≡ true
    → IfSome o (λ files. IsTrue same ↔ (contents files path ≡ bytes))
    → IfSome o (λ files. IsTrue (is_file (item_at files path)))
    → IfSome o (λ files. Keeps digest bytes (item_at files path) (Ok tt))
same_keeps None path digest bytes same e told file = tt
same_keeps (Some files) path digest bytes same e told file = by (item_at files path) (told.0 e) file
  where
    by : (found : Option Item) → bytes_of found ≡ bytes → IsTrue (is_file found) → Keeps digest bytes found (Ok tt)
    by None is f = tt
    by (Some (item.File exec old)) is f = is
    by (Some item.Folder) is f = absurd (cc)
    by (Some (item.Link target)) is f = absurd (cc)
    by (Some item.Odd) is f = absurd (cc)

pub other_keeps : (o : Option Tree) (path digest bytes : List ℕ) (same : Bool) → same ≡ false
    → IfSome o (λ files. IsTrue same ↔ (contents files path ≡ bytes))
    → IfSome o (λ files. IsTrue (is_file (item_at files path)))
    → IfSome o (λ files. Keeps digest bytes (item_at files path) (Err (Clash digest)))
other_keeps None path digest bytes same e told file = tt
other_keeps (Some files) path digest bytes same e told file = by (item_at files path)
    (λ is. let yes : same ≡ true = told.1 is in let no : true ≡ false = sym yes ∙ e in cc) file
  where
    by : (found : Option Item) → bytes_of found ≢ bytes → IsTrue (is_file found)
        → Keeps digest bytes found (Err (Clash digest))
    by None is f = absurd (cc)
    by (Some (item.File exec old)) is f = (refl, is)
    by (Some item.Folder) is f = absurd (cc)
    by (Some (item.Link target)) is f = absurd (cc)
    by (Some item.Odd) is f = absurd (cc)

free_over : (digest bytes old : List ℕ) (fault : StoreFault) → IsTrue (is_free fault)
    → KeepsOver digest bytes old (Err fault)
free_over digest bytes old (File path) free = tt
free_over digest bytes old Memory free = tt
free_over digest bytes old (OddFile path) free = absurd (cc)
free_over digest bytes old (Limit k) free = absurd (cc)
free_over digest bytes old (NoTree d) free = absurd (cc)
free_over digest bytes old (Damaged a f b) free = absurd (cc)
free_over digest bytes old (Clash d) free = absurd (cc)

pub free_keeps : (o : Option Tree) (path digest bytes : List ℕ) (fault : StoreFault) → IsTrue (is_free fault)
    → IfSome o (λ files. Keeps digest bytes (item_at files path) (Err fault))
free_keeps None path digest bytes fault free = tt
free_keeps (Some files) path digest bytes fault free = by (item_at files path)
  where
    by : (found : Option Item) → Keeps digest bytes found (Err fault)
    by None = free
    by (Some (item.File exec old)) = free_over digest bytes old fault free
    by (Some item.Folder) = free
    by (Some (item.Link target)) = free
    by (Some item.Odd) = free

-- ---- writing where nothing stands, or leaving what stands

none_is : (found : Option Item) → true ≡ not (is_some found) → found ≡ None
none_is None e = refl
none_is (Some x) e = absurd (cc)

pub new_keeps : (o : Option Tree) (path digest bytes : List ℕ) (absent : Bool) → absent ≡ true
    → IfSome o (λ files. absent ≡ not (is_some (item_at files path)))
    → IfSome o (λ files. Keeps digest bytes (item_at files path) (Ok tt))
new_keeps None path digest bytes absent e told = tt
new_keeps (Some files) path digest bytes absent e told = subst (λ found. Keeps digest bytes found (Ok tt))
    (sym (none_is (item_at files path) (sym e ∙ told))) tt

pub new_written : (o o1 : Option Tree) (path bytes : List ℕ) (absent : Bool) → absent ≡ true
    → IfSome o (λ files. absent ≡ not (is_some (item_at files path))) → o1 ≡ option_map (written path bytes) o
    → o1 ≡ option_map (kept_or_written path bytes) o
new_written None o1 path bytes absent e told is = is
new_written (Some files) o1 path bytes absent e told is = is
    ∙ ap Some (sym (ap (λ found. left_or_written found path bytes files)
    (none_is (item_at files path) (sym e ∙ told))))

pub kept_left : (o o1 : Option Tree) (path bytes : List ℕ) (absent : Bool) → absent ≡ false
    → IfSome o (λ files. absent ≡ not (is_some (item_at files path))) → o1 ≡ o
    → o1 ≡ option_map (kept_or_written path bytes) o
kept_left None o1 path bytes absent e told is = is
kept_left (Some files) o1 path bytes absent e told is = is ∙ ap Some (by (item_at files path) (sym e ∙ told))
  where
    by : (found : Option Item) → false ≡ not (is_some found) → files ≡ left_or_written found path bytes files
    by None e = absurd (cc)
    by (Some x) e = refl

pub leaves_part : (fault : StoreFault) (path bytes : List ℕ) (old new : Option Tree) → IsTrue (is_free fault)
    → LeavesPart old new path bytes → LeavesStore fault path bytes old new
leaves_part (File blamed) path bytes old new free part = part
leaves_part Memory path bytes old new free part = part
leaves_part (OddFile odd) path bytes old new free part = absurd (cc)
leaves_part (Limit k) path bytes old new free part = absurd (cc)
leaves_part (NoTree d) path bytes old new free part = absurd (cc)
leaves_part (Damaged a f b) path bytes old new free part = absurd (cc)
leaves_part (Clash d) path bytes old new free part = absurd (cc)

pub leaves_same : (fault : StoreFault) (path bytes : List ℕ) (old new : Option Tree) → new ≡ old
    → LeavesStore fault path bytes old new
leaves_same (File blamed) path bytes old new same = unbegun old new path bytes same
leaves_same Memory path bytes old new same = unbegun old new path bytes same
leaves_same (OddFile odd) path bytes old new same = same
leaves_same (Limit k) path bytes old new same = same
leaves_same (NoTree d) path bytes old new same = same
leaves_same (Damaged a f b) path bytes old new same = same
leaves_same (Clash d) path bytes old new same = same

-- ---- misuse

weaker : (v w : Bool) (a b : ℕ) → (w ≡ true → v ≡ true) → MayMisuse (Some v) a b → MayMisuse (Some w) a b
weaker true true a b h m = m
weaker true false a b h m = omega (arith, m)
weaker false true a b h m = absurd (let no : false ≡ true = h refl in cc)
weaker false false a b h m = m

pub kept_misuse : (o o1 : Option Tree) (path : List ℕ) (absent : Bool) (a b c : ℕ) → absent ≡ false
    → IfSome o (λ files. absent ≡ not (is_some (item_at files path))) → o1 ≡ o → b ≡ a
    → MayMisuse (option_map (λ t. is_file (item_at t path)) o1) b c
    → MayMisuse (option_map (can_write path) o) a c
kept_misuse None o1 path absent a b c e told same before m = subst
    (λ x. MayMisuse (option_map (λ t. is_file (item_at t path)) x) b c) same m ∙ before
kept_misuse (Some files) o1 path absent a b c e told same before m = weaker (is_file (item_at files path))
    (can_write path files) a c (λ w. by (item_at files path) (first w) (sym e ∙ told))
    (subst (λ n. MayMisuse (Some (is_file (item_at files path))) n c) before
    (subst (λ x. MayMisuse (option_map (λ t. is_file (item_at t path)) x) b c) same m))
  where
    by : (found : Option Item) → is_file_or_absent found ≡ true → false ≡ not (is_some found) → is_file found ≡ true
    by None f s = absurd (cc)
    by (Some item.Folder) f s = absurd (cc)
    by (Some (item.File exec bytes)) f s = refl
    by (Some (item.Link target)) f s = absurd (cc)
    by (Some item.Odd) f s = absurd (cc)

    take_first : (x y z : Bool) → (x && y && z) ≡ true → x ≡ true
    take_first true y z h = refl
    take_first false y z h = absurd (cc)

    first : can_write path files ≡ true → is_file_or_absent (item_at files path) ≡ true
    first w = take_first (is_file_or_absent (item_at files path)) _ _ w

pub new_misuse : (o o1 : Option Tree) (path : List ℕ) (a b c : ℕ) → o1 ≡ o → b ≡ a
    → MayMisuse (option_map (can_write path) o1) b c → MayMisuse (option_map (can_write path) o) a c
new_misuse o o1 path a b c same before m = subst (λ n. MayMisuse (option_map (can_write path) o) n c) before
    (subst (λ x. MayMisuse (option_map (can_write path) x) b c) same m)

same_misuse : (o : Option Bool) (a b : ℕ) → b ≡ a → MayMisuse o a b
same_misuse None a b e = e
same_misuse (Some true) a b e = e
same_misuse (Some false) a b e = omega (arith, e)

pub no_misuse : (o : Option Tree) (p : Tree → Bool) (a b : ℕ) → b ≡ a → MayMisuse (option_map p o) a b
no_misuse o p a b e = same_misuse (option_map p o) a b e

-- ---- judged bytes

gets_judged : (digest bytes : List ℕ) (j : Judged) (result : Result Node StoreFault) → IsJudged digest bytes j
    → IsJudgedTree j result → GetsOf digest bytes result
gets_judged digest bytes (judged.Tree tree) result is e = subst (GetsOf digest bytes) (sym e) is
gets_judged digest bytes (judged.Damaged asked found bad) result is e = subst (GetsOf digest bytes) (sym e) is

pub judged_gets : (o : Option Tree) (path digest : List ℕ) (number : ℕ) (judging : Judging) (j : Judged)
    (result : Result Node StoreFault) → IfSome o (λ files. length (contents files path) ≤ number * 65536)
    → IfSome o (λ files. IsTrue (is_file (item_at files path))) → Taken o path number (HasTaken judging)
    → ((bytes : List ℕ) → HasTaken judging bytes → IsJudged digest bytes j) → IsJudgedTree j result
    → IfSome o (λ files. Gets digest (item_at files path) result)
judged_gets o path digest number judging j result few file t ends is = by o few file t.told
  where
    one : (found : Option Item) → IsTrue (is_file found) → length (bytes_of found) ≤ number * 65536
        → t.bytes ≡ take (number * 65536) (bytes_of found) → Gets digest found result
    one None f s told = absurd (cc)
    one (Some item.Folder) f s told = absurd (cc)
    one (Some (item.Link target)) f s told = absurd (cc)
    one (Some item.Odd) f s told = absurd (cc)
    one (Some (item.File exec bytes)) f s told = gets_judged digest bytes j result
        (ends bytes (subst (HasTaken judging) (told ∙ take_all (number * 65536) bytes s) t.taken)) is

    by : (o : Option Tree) → IfSome o (λ files. length (contents files path) ≤ number * 65536)
        → IfSome o (λ files. IsTrue (is_file (item_at files path)))
        → IfSome o (λ files. t.bytes ≡ take (number * 65536) (contents files path))
        → IfSome o (λ files. Gets digest (item_at files path) result)
    by None few file told = tt
    by (Some files) few file told = one (item_at files path) file few told

-- the tree whose spelling was taken
pub judged_digest : (o : Option Tree) (path digest : List ℕ) (number : ℕ) (judging : Judging) (j : Judged)
    (result : Result Node StoreFault) → Taken o path number (HasTaken judging)
    → ((bytes : List ℕ) → HasTaken judging bytes → IsJudged digest bytes j) → IsJudgedTree j result
    → IfOk result (λ tree. sha256 (spelling_of tree) ≡ digest)
judged_digest o path digest number judging j result t ends is = by j (ends t.bytes t.taken) is
  where
    by : (j : Judged) → IsJudged digest t.bytes j → IsJudgedTree j result
        → IfOk result (λ tree. sha256 (spelling_of tree) ≡ digest)
    by (judged.Tree tree) h is = subst (λ (r : Result Node StoreFault). IfOk r
        (λ tree. sha256 (spelling_of tree) ≡ digest)) (sym is) (ap sha256 (sym h.1.is) ∙ h.0)
    by (judged.Damaged asked found bad) h is = subst
        (λ (r : Result Node StoreFault). IfOk r (λ tree. sha256 (spelling_of tree) ≡ digest)) (sym is) tt

free_of : (digest bytes : List ℕ) (fault : StoreFault) → IsTrue (is_free fault) → GetsOf digest bytes (Err fault)
free_of digest bytes (File path) free = tt
free_of digest bytes Memory free = tt
free_of digest bytes (OddFile path) free = absurd (cc)
free_of digest bytes (Limit k) free = absurd (cc)
free_of digest bytes (NoTree d) free = absurd (cc)
free_of digest bytes (Damaged a f b) free = absurd (cc)
free_of digest bytes (Clash d) free = absurd (cc)

pub unless_free : (fault : StoreFault) (P : Type 0) → IsTrue (is_free fault) → WhereDecided (cause_of fault) P
unless_free (File path) P free = tt
unless_free Memory P free = tt
unless_free (OddFile path) P free = absurd (cc)
unless_free (Limit k) P free = absurd (cc)
unless_free (NoTree d) P free = absurd (cc)
unless_free (Damaged a f b) P free = absurd (cc)
unless_free (Clash d) P free = absurd (cc)

pub free_gets : (o : Option Tree) (path digest : List ℕ) (fault : StoreFault) → IsTrue (is_free fault)
    → IfSome o (λ files. Gets digest (item_at files path) (Err fault))
free_gets None path digest fault free = tt
free_gets (Some files) path digest fault free = by (item_at files path)
  where
    by : (found : Option Item) → Gets digest found (Err fault)
    by None = unless_free fault (fault ≡ NoTree digest) free
    by (Some (item.File exec bytes)) = free_of digest bytes fault free
    by (Some item.Folder) = free
    by (Some (item.Link target)) = free
    by (Some item.Odd) = free

-- ---- where nothing stands

pub absent_gets : (o : Option Tree) (path place digest : List ℕ) (k : Kind) → k ≡ kind.Absent → place ≡ path
    → IfSome o (λ files. k ≡ kind_of (item_at files place))
    → IfSome o (λ files. Gets digest (item_at files path) (Err (NoTree digest)))
absent_gets None path place digest k e same told = tt
absent_gets (Some files) path place digest k e same told = subst
    (λ p. Gets digest (item_at files p) (Err (NoTree digest))) same
    (subst (λ found. Gets digest found (Err (NoTree digest)))
    (sym (by (item_at files place) (sym e ∙ told))) refl)
  where
    by : (found : Option Item) → kind.Absent ≡ kind_of found → found ≡ None
    by None e = refl
    by (Some item.Folder) e = absurd (cc)
    by (Some (item.File exec bytes)) e = absurd (cc)
    by (Some (item.Link target)) e = absurd (cc)
    by (Some item.Odd) e = absurd (cc)
