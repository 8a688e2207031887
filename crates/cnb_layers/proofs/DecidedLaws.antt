-- Steps that the files alone decide: over the same files they answer alike, and leave the same files.
use Rattle.std.proofs.Common.{◌≡◌, ◌∙◌, refl, sym, ap, subst, ℕ, Bool, List, [], ◌∷◌, Option, Some, None, Result, Ok}
use Rattle.std.proofs.Common.{Err, inl, inr, ◌⊎◌}
use Rattle.std.specs.Prelude.{IfSome, IsTrue}
use Rattle.std.specs.Option.{option_map}
use Rattle.sha2.specs.Sha256.{sha256}
use Rattle.cnb_world.specs.Tree.{Tree, item_at}
use Rattle.cnb_world.specs.declared.world.Item.{Item}
use Rattle.cnb_world.specs.declared.world.Item.TheVariants as item
use Rattle.steps.specs.Causes.{Cause, FileFailed, ChildFailed, OutOfMemory, Decided, IsAnswer, WhereDecided}
use Rattle.steps.specs.Each.{for_each}
use Rattle.steps.specs.Outside.{Seen}
use Rattle.steps.specs.Steps.{◌>>=◌, gives, map_err, reads, yields}
use Rattle.steps.proofs.ReadingLaws.{where_map}
use Rattle.tree_canon.specs.Spelling.{spelling_of}
use Rattle.tree_canon.specs.declared.node.Node.{Node}
use Rattle.tree_store.specs.Answers as stored
use Rattle.tree_store.specs.Caching.{digests_folder}
use Rattle.tree_store.specs.Reading.{tree_in}
use Rattle.tree_store.specs.Steps.{LeavesFolder, PutsRead, folder_put, puts_folder, puts_tree, reads_tree}
use Rattle.tree_store.specs.Store.{Keeps, Puts, tree_path, tree_put}
use Rattle.tree_store.specs.declared.fault.StoreFault.{StoreFault}
use Rattle.tree_store.specs.declared.fault.StoreFault.TheVariants.{OddFile, Limit, File, NoTree, Damaged, Clash, Memory}

-- two ends of steps: the same value and files, or the same refusal, unless a call failed or memory ran out in one of
-- them
abbrev pub AreAlike : {E A : Type 0} → (E → Cause) → Result A E → Seen → Result A E → Seen → Type 0
AreAlike cause_of (Ok one) new (Ok other) new' = (other ≡ one) × (t : Tree) × (new.files ≡ Some t)
    × (new'.files ≡ Some t)
AreAlike cause_of (Ok one) new (Err fault) new' = WhereDecided (cause_of fault) ⊥
AreAlike cause_of (Err fault) new (Ok other) new' = WhereDecided (cause_of fault) ⊥
AreAlike cause_of (Err fault) new (Err other) new' = WhereDecided (cause_of fault)
    (WhereDecided (cause_of other) (other ≡ fault))

abbrev pub AreDecided : {E A : Type 0} → (E → Cause) → (Seen → Result A E → Seen → Type 0) → Type 0
AreDecided {E} {A} cause_of step = (t : Tree) (old new old' new' : Seen) (result result' : Result A E)
    → old.files ≡ Some t → old'.files ≡ Some t → step old result new → step old' result' new'
    → AreAlike cause_of result new result' new'

pub always : (cause : Cause) (P : Type 0) → P → WhereDecided cause P
always (FileFailed path) P p = tt
always ChildFailed P p = tt
always OutOfMemory P p = tt
always Decided P p = p

-- two answers to one question
answered : {E A : Type 0} (cause_of : E → Cause) (want : Result A E) (t : Tree) (new new' : Seen)
    (result result' : Result A E) → new.files ≡ Some t → new'.files ≡ Some t → IsAnswer cause_of result want
    → IsAnswer cause_of result' want → AreAlike cause_of result new result' new'
answered cause_of want t new new' (Ok one) (Ok other) is is' h h' = (let same : other ≡ one = cc in same, t, is, is')
answered cause_of want t new new' (Ok one) (Err fault) is is' h h' = where_map (cause_of fault)
    (want ≡ Err fault) ⊥ (λ e. cc) h'
answered cause_of want t new new' (Err fault) (Ok other) is is' h h' = where_map (cause_of fault)
    (want ≡ Err fault) ⊥ (λ e. cc) h
answered cause_of want t new new' (Err fault) (Err other) is is' h h' =
    where_map (cause_of fault) (want ≡ Err fault) (WhereDecided (cause_of other) (other ≡ fault))
    (λ e. where_map (cause_of other) (want ≡ Err other) (other ≡ fault) (λ e'. cc) h') h

told_answer : {E A : Type 0} (cause_of : E → Cause) (o : Option Tree) (t : Tree) (want : Tree → Result A E)
    (result : Result A E) → o ≡ Some t → IfSome o (λ files. IsAnswer cause_of result (want files))
    → IsAnswer cause_of result (want t)
told_answer cause_of o t want result is h = subst (λ x. IfSome x (λ files. IsAnswer cause_of result (want files))) is h

pub decided_reads : {E A : Type 0} (cause_of : E → Cause) (Among : List ℕ → Type 0) (fits : Tree → Bool)
    (want : Tree → Result A E) → AreDecided cause_of (reads cause_of Among fits want)
unfolding reads
decided_reads cause_of Among fits want t old new old' new' result result' is is' h h' =
    answered cause_of (want t) t new new' result result' (h.same.files ∙ is) (h'.same.files ∙ is')
    (told_answer cause_of old.files t want result is h.answer)
    (told_answer cause_of old'.files t want result' is' h'.answer)

pub decided_gives : {E A : Type 0} (cause_of : E → Cause) (want : Result A E)
    → AreDecided cause_of (gives cause_of want)
unfolding gives
decided_gives cause_of want t old new old' new' result result' is is' h h' =
    answered cause_of want t new new' result result' (ap (λ s. s.files) h.0 ∙ is)
    (ap (λ s. s.files) h'.0 ∙ is') h.1 h'.1

pub decided_yields : {E A : Type 0} (cause_of : E → Cause) (want : A) → AreDecided cause_of (yields want)
unfolding yields
decided_yields cause_of want t old new old' new' (Ok one) (Ok other) is is' h h' =
    (h'.0 ∙ sym h.0, t, ap (λ s. s.files) h.1 ∙ is, ap (λ s. s.files) h'.1 ∙ is')
decided_yields cause_of want t old new old' new' (Ok one) (Err fault) is is' h h' = absurd h'
decided_yields cause_of want t old new old' new' (Err fault) result' is is' h h' = absurd h

onward : {E A B : Type 0} (cause_of : E → Cause) (next : A → Seen → Result B E → Seen → Type 0)
    → ((a : A) → AreDecided cause_of (next a)) → (mid new mid' new' : Seen) (a b : A)
    (result result' : Result B E)
    → AreAlike cause_of (Ok a) mid (Ok b) mid' → next a mid result new → next b mid' result' new'
    → AreAlike cause_of result new result' new'
onward cause_of next q mid new mid' new' a b result result'
    (same, t, is, is') k k' = q a t mid new mid' new' result result' is is' k
    (subst (λ x. next x mid' result' new') same k')

pub decided_bind : {E A B : Type 0} (cause_of : E → Cause) (first : Seen → Result A E → Seen → Type 0)
    (next : A → Seen → Result B E → Seen → Type 0) → AreDecided cause_of first
    → ((a : A) → AreDecided cause_of (next a)) → AreDecided cause_of (first >>= next)
unfolding ◌>>=◌
decided_bind cause_of first next p q t old new old' new' (Ok v) (Ok w) is is' (a, mid, h, k)
    (b, mid', h', k') = onward cause_of next q mid new mid' new' a b (Ok v) (Ok w)
    (p t old mid old' mid' (Ok a) (Ok b) is is' h h') k k'
decided_bind cause_of first next p q t old new old' new' (Ok v) (Err other) is is' (a, mid, h, k)
    (inl h') = p t old mid old' new' (Ok a) (Err other) is is' h h'
decided_bind cause_of first next p q t old new old' new' (Ok v) (Err other) is is' (a, mid, h, k)
    (inr (b, mid', h', k')) = onward cause_of next q mid new mid' new' a b (Ok v) (Err other)
    (p t old mid old' mid' (Ok a) (Ok b) is is' h h') k k'
decided_bind cause_of first next p q t old new old' new' (Err fault) (Ok w) is is' (inl h)
    (b, mid', h', k') = p t old new old' mid' (Err fault) (Ok b) is is' h h'
decided_bind cause_of first next p q t old new old' new' (Err fault) (Ok w) is is' (inr (a, mid, h, k))
    (b, mid', h', k') = onward cause_of next q mid new mid' new' a b (Err fault) (Ok w)
    (p t old mid old' mid' (Ok a) (Ok b) is is' h h') k k'
decided_bind cause_of first next p q t old new old' new' (Err fault) (Err other) is is' (inl h)
    (inl h') = p t old new old' new' (Err fault) (Err other) is is' h h'
decided_bind cause_of first next p q t old new old' new' (Err fault) (Err other) is is' (inl h)
    (inr (b, mid', h', k')) = where_map (cause_of fault) ⊥ (WhereDecided (cause_of other) (other ≡ fault))
    (λ no. absurd no) (p t old new old' mid' (Err fault) (Ok b) is is' h h')
decided_bind cause_of first next p q t old new old' new' (Err fault) (Err other) is is' (inr (a, mid, h, k)) (inl h') =
    always (cause_of fault) (WhereDecided (cause_of other) (other ≡ fault))
    (where_map (cause_of other) ⊥ (other ≡ fault) (λ no. absurd no)
    (p t old mid old' new' (Ok a) (Err other) is is' h h'))
decided_bind cause_of first next p q t old new old' new' (Err fault) (Err other) is is' (inr (a, mid, h, k))
    (inr (b, mid', h', k')) = onward cause_of next q mid new mid' new' a b (Err fault) (Err other)
    (p t old mid old' mid' (Ok a) (Ok b) is is' h h') k k'

-- a fault that is told as another, whose cause is the same
as_told : {E F : Type 0} (cause_of : E → Cause) (cause_of' : F → Cause) (of : E → F)
    → ((fault : E) → cause_of' (of fault) ≡ cause_of fault) → (fault : E) (refusal : F) (P : Type 0)
    → refusal ≡ of fault → WhereDecided (cause_of fault) P → WhereDecided (cause_of' refusal) P
as_told cause_of cause_of' of causes fault refusal P e h = subst (λ cause. WhereDecided cause P)
    (sym (ap cause_of' e ∙ causes fault)) h

pub decided_told : {E F A : Type 0} (cause_of : E → Cause) (cause_of' : F → Cause) (of : E → F)
    (step : Seen → Result A E → Seen → Type 0) → ((fault : E) → cause_of' (of fault) ≡ cause_of fault)
    → AreDecided cause_of step → AreDecided cause_of' (map_err of step)
unfolding map_err
decided_told cause_of cause_of' of step causes p t old new old' new' (Ok one)
    (Ok other) is is' h h' = p t old new old' new' (Ok one) (Ok other) is is' h h'
decided_told cause_of cause_of' of step causes p t old new old' new' (Ok one) (Err refusal) is is' h
    (fault, e, h') = as_told cause_of cause_of' of causes fault refusal ⊥ e
    (p t old new old' new' (Ok one) (Err fault) is is' h h')
decided_told cause_of cause_of' of step causes p t old new old' new' (Err refusal) (Ok other) is is'
    (fault, e, h) h' = as_told cause_of cause_of' of causes fault refusal ⊥ e
    (p t old new old' new' (Err fault) (Ok other) is is' h h')
decided_told cause_of cause_of' of step causes p t old new old' new' (Err refusal) (Err refusal') is is'
    (fault, e, h) (fault', e', h') =
    as_told cause_of cause_of' of causes fault refusal (WhereDecided (cause_of' refusal') (refusal' ≡ refusal)) e
    (where_map (cause_of fault) (WhereDecided (cause_of fault') (fault' ≡ fault))
    (WhereDecided (cause_of' refusal') (refusal' ≡ refusal))
    (λ w. as_told cause_of cause_of' of causes fault' refusal' (refusal' ≡ refusal) e'
    (where_map (cause_of fault') (fault' ≡ fault) (refusal' ≡ refusal) (λ same. e' ∙ ap of same ∙ sym e) w))
    (p t old new old' new' (Err fault) (Err fault') is is' h h'))

pub decided_each : {E A X : Type 0} (cause_of : E → Cause) (step : X → A → Seen → Result A E → Seen → Type 0)
    (xs : List X) (so_far : A) → ((x : X) (a : A) → AreDecided cause_of (step x a))
    → AreDecided cause_of (for_each step xs so_far)
unfolding for_each
decided_each cause_of step [] so_far h = decided_yields cause_of so_far
decided_each cause_of step (x ∷ xs) so_far h = decided_bind cause_of (step x so_far) (for_each step xs)
    (h x so_far) (λ more. decided_each cause_of step xs more h)

-- ---- trees that are put

-- a refusal that is not free is that the file has other bytes
refused_put : (digest bytes : List ℕ) (found : Option Item) (fault : StoreFault)
    → Keeps digest bytes found (Err fault) → IsTrue (stored.is_free fault)
    ⊎ ((fault ≡ Clash digest) × (Keeps digest bytes found (Ok tt) → ⊥))
refused_put digest bytes None fault h = inl h
refused_put digest bytes (Some item.Folder) fault h = inl h
refused_put digest bytes (Some (item.Link target)) fault h = inl h
refused_put digest bytes (Some item.Odd) fault h = inl h
refused_put digest bytes (Some (item.File exec old)) (File path) h = inl refl
refused_put digest bytes (Some (item.File exec old)) Memory h = inl refl
refused_put digest bytes (Some (item.File exec old)) (Clash other) h = inr (ap Clash h.0, h.1)
refused_put digest bytes (Some (item.File exec old)) (OddFile odd) h = absurd h
refused_put digest bytes (Some (item.File exec old)) (Limit kind) h = absurd h
refused_put digest bytes (Some (item.File exec old)) (NoTree other) h = absurd h
refused_put digest bytes (Some (item.File exec old)) (Damaged asked found bad) h = absurd h

freed : (fault : StoreFault) (P : Type 0) → IsTrue (stored.is_free fault) → WhereDecided (stored.cause_of fault) P
freed (File path) P h = tt
freed Memory P h = tt
freed (Clash other) P h = absurd (cc)
freed (OddFile odd) P h = absurd (cc)
freed (Limit kind) P h = absurd (cc)
freed (NoTree other) P h = absurd (cc)
freed (Damaged asked found bad) P h = absurd (cc)

put_and_refused : (digest bytes : List ℕ) (found : Option Item) (fault : StoreFault)
    → Keeps digest bytes found (Ok tt) → Keeps digest bytes found (Err fault)
    → WhereDecided (stored.cause_of fault) ⊥
put_and_refused digest bytes found fault h k = by (refused_put digest bytes found fault k)
  where
    by : IsTrue (stored.is_free fault) ⊎ ((fault ≡ Clash digest) × (Keeps digest bytes found (Ok tt) → ⊥))
        → WhereDecided (stored.cause_of fault) ⊥
    by (inl free) = freed fault ⊥ free
    by (inr clash) = absurd (clash.1 h)

refused_twice : (digest bytes : List ℕ) (found : Option Item) (fault other : StoreFault)
    → Keeps digest bytes found (Err fault) → Keeps digest bytes found (Err other)
    → WhereDecided (stored.cause_of fault) (WhereDecided (stored.cause_of other) (other ≡ fault))
refused_twice digest bytes found fault other h k = by (refused_put digest bytes found fault h)
    (refused_put digest bytes found other k)
  where
    by : IsTrue (stored.is_free fault) ⊎ ((fault ≡ Clash digest) × (Keeps digest bytes found (Ok tt) → ⊥))
        → IsTrue (stored.is_free other) ⊎ ((other ≡ Clash digest) × (Keeps digest bytes found (Ok tt) → ⊥))
        → WhereDecided (stored.cause_of fault) (WhereDecided (stored.cause_of other) (other ≡ fault))
    by (inl free) second = freed fault _ free
    by (inr clash) (inl free) = always (stored.cause_of fault) _ (freed other _ free)
    by (inr clash) (inr clash') = always (stored.cause_of fault) _
        (always (stored.cause_of other) _ (clash'.0 ∙ sym clash.0))

puts_at : (store : List ℕ) (tree : Node) (o : Option Tree) (t : Tree) (result : Result (List ℕ) StoreFault)
    → o ≡ Some t → IfSome o (λ files. Puts store tree files result) → Puts store tree t result
puts_at store tree o t result is h = subst (λ x. IfSome x (λ files. Puts store tree files result)) is h

pub decided_puts : (store : List ℕ) (tree : Node) → AreDecided stored.cause_of (puts_tree store tree)
unfolding puts_tree
decided_puts store tree t old new old' new' (Ok one) (Ok other) is is' h h' = (
  h'.leaves.0 ∙ sym h.leaves.0,
  tree_put store tree t,
  h.leaves.1
      ∙ ap (option_map (tree_put store tree)) is,
  h'.leaves.1 ∙ ap (option_map (tree_put store tree)) is',
)
decided_puts store tree t old new old' new' (Ok one) (Err fault) is is' h h' =
    put_and_refused (sha256 (spelling_of tree)) (spelling_of tree)
    (item_at t (tree_path store (sha256 (spelling_of tree)))) fault
    (puts_at store tree old.files t (Ok one) is h.answer)
    (puts_at store tree old'.files t (Err fault) is' h'.answer)
decided_puts store tree t old new old' new' (Err fault) (Ok other) is is' h h' =
    put_and_refused (sha256 (spelling_of tree)) (spelling_of tree)
    (item_at t (tree_path store (sha256 (spelling_of tree)))) fault
    (puts_at store tree old'.files t (Ok other) is' h'.answer)
    (puts_at store tree old.files t (Err fault) is h.answer)
decided_puts store tree t old new old' new' (Err fault) (Err other) is is' h h' =
    refused_twice (sha256 (spelling_of tree)) (spelling_of tree)
    (item_at t (tree_path store (sha256 (spelling_of tree)))) fault other
    (puts_at store tree old.files t (Err fault) is h.answer)
    (puts_at store tree old'.files t (Err other) is' h'.answer)

pub decided_reads_tree : (path : List ℕ) → AreDecided stored.cause_of (reads_tree path)
unfolding reads_tree
decided_reads_tree path = decided_reads stored.cause_of _ _ _

pub decided_digests_folder : (path : List ℕ) → AreDecided stored.cause_of (digests_folder path)
unfolding digests_folder
decided_digests_folder path = decided_bind stored.cause_of _ _ (decided_reads_tree path)
    (λ tree. decided_yields stored.cause_of _)

-- ---- trees of folders that are put

-- what putting answers goes by what reading the folder answers
puts_read : (store path : List ℕ) (o : Option Tree) (t : Tree) (result : Result (List ℕ) StoreFault) → o ≡ Some t
    → IfSome o (λ files. PutsRead store (tree_in path files) files result)
    → PutsRead store (tree_in path t) t result
puts_read store path o t result is h = subst (λ x. IfSome x
    (λ files. PutsRead store (tree_in path files) files result)) is h

read_at : (path : List ℕ) (o : Option Tree) (t : Tree) (tree : Node) → o ≡ Some t
    → IfSome o (λ files. tree_in path files ≡ Ok tree) → tree_in path t ≡ Ok tree
read_at path o t tree is h = subst (λ x. IfSome x (λ files. tree_in path files ≡ Ok tree)) is h

puts_of : (store path : List ℕ) (t : Tree) (tree : Node) (result : Result (List ℕ) StoreFault)
    → tree_in path t ≡ Ok tree → PutsRead store (tree_in path t) t result → Puts store tree t result
puts_of store path t tree result read h = subst (λ r. PutsRead store r t result) read h

read_once : (path : List ℕ) (t : Tree) (one other : Node) → tree_in path t ≡ Ok one → tree_in path t ≡ Ok other
    → other ≡ one
read_once path t one other h h' = cc

refusals_alike : (want : Result (List ℕ) StoreFault) (fault other : StoreFault)
    → IsAnswer stored.cause_of (Err fault) want → IsAnswer stored.cause_of (Err other) want
    → WhereDecided (stored.cause_of fault) (WhereDecided (stored.cause_of other) (other ≡ fault))
refusals_alike want fault other h h' = where_map (stored.cause_of fault) (want ≡ Err fault)
    (WhereDecided (stored.cause_of other) (other ≡ fault))
    (λ e. where_map (stored.cause_of other) (want ≡ Err other) (other ≡ fault) (λ e'. cc) h') h

-- two refusals over one reading
refused_alike : (store : List ℕ) (t : Tree) (read : Result Node StoreFault) (fault other : StoreFault)
    → PutsRead store read t (Err fault) → PutsRead store read t (Err other)
    → WhereDecided (stored.cause_of fault) (WhereDecided (stored.cause_of other) (other ≡ fault))
refused_alike store t (Ok tree) fault other h h' = refused_twice (sha256 (spelling_of tree)) (spelling_of tree)
    (item_at t (tree_path store (sha256 (spelling_of tree)))) fault other h h'
refused_alike store t (Err refusal) fault other h h' = refusals_alike (Err refusal) fault other h h'

pub decided_puts_folder : (store path : List ℕ) → AreDecided stored.cause_of (puts_folder store path)
unfolding puts_folder
decided_puts_folder store path t old new old' new' (Ok one) (Ok other) is is' h h' = by h.leaves h'.leaves
  where
    by : LeavesFolder store path old (Ok one) new → LeavesFolder store path old' (Ok other) new' → (other ≡ one)
        × (u : Tree) × (new.files ≡ Some u) × (new'.files ≡ Some u)
    by (tree, digest, read, files) (tree', digest', read', files') =
        let same : tree' ≡ tree = read_once path t tree tree' (read_at path old.files t tree is read)
        (read_at path old'.files t tree' is' read') in (
          digest' ∙ ap (λ node. sha256 (spelling_of node)) same ∙ sym digest,
          folder_put store tree t,
          files
              ∙ ap (option_map (folder_put store tree)) is,
          files' ∙ ap
              (λ node. option_map (folder_put store node) old'.files) same
              ∙ ap (option_map (folder_put store tree)) is',
        )
decided_puts_folder store path t old new old' new' (Ok one) (Err fault) is is' h h' = by h.leaves
  where
    by : LeavesFolder store path old (Ok one) new → WhereDecided (stored.cause_of fault) ⊥
    by (tree, digest, read, files) =
        let at : tree_in path t ≡ Ok tree = read_at path old.files t tree is read in
        put_and_refused (sha256 (spelling_of tree)) (spelling_of tree)
        (item_at t (tree_path store (sha256 (spelling_of tree)))) fault
        (puts_of store path t tree (Ok one) at (puts_read store path old.files t (Ok one) is h.answer))
        (puts_of store path t tree (Err fault) at (puts_read store path old'.files t
        (Err fault) is' h'.answer))
decided_puts_folder store path t old new old' new' (Err fault) (Ok other) is is' h h' = by h'.leaves
  where
    by : LeavesFolder store path old' (Ok other) new' → WhereDecided (stored.cause_of fault) ⊥
    by (tree, digest, read, files) =
        let at : tree_in path t ≡ Ok tree = read_at path old'.files t tree is' read in
        put_and_refused (sha256 (spelling_of tree)) (spelling_of tree)
        (item_at t (tree_path store (sha256 (spelling_of tree)))) fault
        (puts_of store path t tree (Ok other) at (puts_read store path old'.files t (Ok other) is' h'.answer))
        (puts_of store path t tree (Err fault) at (puts_read store path old.files t (Err fault) is h.answer))
decided_puts_folder store path t old new old' new' (Err fault) (Err other) is is' h h' =
    refused_alike store t (tree_in path t) fault other (puts_read store path old.files t (Err fault) is h.answer)
    (puts_read store path old'.files t (Err other) is' h'.answer)
