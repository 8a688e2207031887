-- Steps that lead from files of one kind to files of another, and make no call on a path of the wrong kind on the way.
use Rattle.std.proofs.Common.{◌≡◌, ◌∙◌, refl, sym, ap, subst, ℕ, ◌-◌, Bool, false, not}
use Rattle.std.proofs.Common.{List, [], ◌∷◌, codes}
use Rattle.std.proofs.Common.{Option, Some, None, Result, Ok, Err, inl, inr}
use Rattle.std.specs.List.{AllByRecursion}
use Rattle.std.specs.Option.{option_map}
use Rattle.std.specs.Prelude.{IfOk, IfSome, IsTrue}
use Rattle.cnb_world.specs.Calls.{MayMisuse}
use Rattle.cnb_world.specs.Path.{beside}
use Rattle.cnb_world.specs.Tree.{Tree, can_make_folder, folder_made}
use Rattle.cnb_world.specs.Tree.{is_root, without}
use Rattle.cnb_world.specs.Whole.{can_write, written}
use Rattle.shelf_set.specs.Caches.{Caches, WorldAndCaches, in_world}
use Rattle.shelf_set.specs.Finding.{InCaches, Whole, Missing, Broken}
use Rattle.shelf_set.specs.Restoring.{AllTell, HasFolder, LaysIn, answer_of, restores_tree}
use Rattle.shelf_set.specs.declared.restoring.Found.{Found}
use Rattle.shelf_set.specs.declared.restoring.Found.TheVariants as found
use Rattle.steps.specs.Causes.{Cause}
use Rattle.steps.specs.Each.{for_each}
use Rattle.steps.specs.Outside.{Seen}
use Rattle.steps.specs.Steps.{gives, makes_folder, map_err, reads, removes, writes, yields, ◌>>=◌}
use Rattle.tree_canon.specs.declared.node.Node.{Node}
use Rattle.tree_store.specs.Around.{KeepsAround, KeptAround}
use Rattle.tree_store.specs.Steps.{can_lay, lays_tree}
use Rattle.cnb_lifecycle.proofs.FitSteps.{by_allows, narrow}
use Rattle.cnb_lifecycle.specs.Fitting.{NoMisuse}

-- ---- steps that lead from files of one kind to files of another

-- the files are of the second kind, where they were of the first
abbrev pub Brings : (Tree → Type 0) → (Tree → Type 0) → Option Tree → Option Tree → Type 0
Brings P Q None new = Unit {0}
Brings P Q (Some files) new = P files → (after : Tree) × (new ≡ Some after) × Q after

pub brings_same : (P : Tree → Type 0) (o o1 : Option Tree) → o1 ≡ o → Brings P P o o1
brings_same P None o1 is = tt
brings_same P (Some t) o1 is = λ p. (t, is, p)

pub brings_change : (P Q : Tree → Type 0) (change : Tree → Tree) (o o1 : Option Tree)
    → ((t : Tree) → P t → Q (change t)) → o1 ≡ option_map change o → Brings P Q o o1
brings_change P Q change None o1 so is = tt
brings_change P Q change (Some t) o1 so is = λ p. (change t, is, so t p)

pub brings_around : (P Q : Tree → Type 0) (root : List ℕ) (o o1 : Option Tree)
    → ((t after : Tree) → P t → KeepsAround root t after → Q after) → KeptAround root o o1 → Brings P Q o o1
unfolding KeptAround
brings_around P Q root None o1 so kept = tt
brings_around P Q root (Some t) None so kept = absurd kept
brings_around P Q root (Some t) (Some after) so kept = λ p. (after, refl, so t after p kept)

pub brings_on : (P Q R : Tree → Type 0) (o o1 o2 : Option Tree) → Brings P Q o o1 → Brings Q R o1 o2 → Brings P R o o2
brings_on P Q R None o1 o2 first second = tt
brings_on P Q R (Some t) o1 o2 first second = λ p. let (after, is, q) = first p
    in let later : Brings Q R (Some after) o2 = subst (λ v. Brings Q R v o2) is second in later q

brings_so : (P P1 Q Q1 : Tree → Type 0) (o o1 : Option Tree) → ((t : Tree) → P1 t → P t)
    → ((t : Tree) → Q t → Q1 t) → Brings P Q o o1 → Brings P1 Q1 o o1
brings_so P P1 Q Q1 None o1 so next h = tt
brings_so P P1 Q Q1 (Some t) o1 so next h = λ p. let (after, is, q) = h (so t p) in (after, is, next after q)

minds_on : (P Q : Tree → Type 0) (o o1 : Option Tree) (a b c : ℕ) → Brings P Q o o1 → IfSome o (λ t. P t → b ≡ a)
    → IfSome o1 (λ t. Q t → c ≡ b) → IfSome o (λ t. P t → c ≡ a)
minds_on P Q None o1 a b c brought first second = tt
minds_on P Q (Some t) o1 a b c brought first second = λ p.
    let (after, is, q) = brought p in
    let later : IfSome (Some after) (λ t. Q t → c ≡ b) = subst (λ v. IfSome v (λ t. Q t → c ≡ b)) is second in
    later q ∙ first p

pub minds_same : (P : Tree → Type 0) (o : Option Tree) (a b : ℕ) → b ≡ a → IfSome o (λ t. P t → b ≡ a)
minds_same P None a b same = tt
minds_same P (Some t) a b same = λ p. same

module _ {S : Type 0} (view : S → Seen) where
  -- Steps that make no such call where the files are of the first kind, and leave files of the second where they went
  -- well. Both kinds may speak of what else is seen, and the second of the answer.
  abbrev pub Leads : {E A : Type 0} → (S → Tree → Type 0) → (A → S → Tree → Type 0)
      → (S → Result A E → S → Type 0) → Type 0
  Leads {E} {A} P Q step = (old new : S) (result : Result A E) → step old result new
      → NoMisuse (P old) (view old) (view new) × IfOk result (λ a. Brings (P old) (Q a new) (view old).files
      (view new).files)

  pub leads_bind : {E A B : Type 0} (P : S → Tree → Type 0) (Q : A → S → Tree → Type 0) (R : B → S → Tree → Type 0)
      (first : S → Result A E → S → Type 0) (next : A → S → Result B E → S → Type 0)
      → Leads P Q first → ((a : A) → Leads (Q a) R (next a)) → Leads P R (first >>= next)
  unfolding ◌>>=◌
  leads_bind P Q R first next p q old new (Ok value) (a, mid, h, k) =
      let one = p old mid (Ok a) h in
      let two = q a mid new (Ok value) k in (
        minds_on (P old) (Q a mid) (view old).files (view mid).files (view old).misused (view mid).misused
            (view new).misused one.1 one.0 two.0,
        brings_on (P old) (Q a mid) (R value new) (view old).files
            (view mid).files (view new).files one.1 two.1,
      )
  leads_bind P Q R first next p q old new (Err fault) (inl h) = ((p old new (Err fault) h).0, tt)
  leads_bind P Q R first next p q old new (Err fault) (inr (a, mid, h, k)) =
      let one = p old mid (Ok a) h in (
        minds_on (P old) (Q a mid) (view old).files (view mid).files (view old).misused (view mid).misused
            (view new).misused one.1 one.0 (q a mid new (Err fault) k).0,
        tt,
      )

  pub leads_told : {E F A : Type 0} (P : S → Tree → Type 0) (Q : A → S → Tree → Type 0) (of : E → F)
      (step : S → Result A E → S → Type 0) → Leads P Q step → Leads P Q (map_err of step)
  unfolding map_err
  leads_told P Q of step p old new (Ok value) h = p old new (Ok value) h
  leads_told P Q of step p old new (Err refusal) (fault, is, h) = ((p old new (Err fault) h).0, tt)

  -- a kind that is narrower before, or wider behind
  pub leads_so : {E A : Type 0} (P P1 : S → Tree → Type 0) (Q Q1 : A → S → Tree → Type 0)
      (step : S → Result A E → S → Type 0) → ((s : S) (t : Tree) → P1 s t → P s t)
      → ((a : A) (s : S) (t : Tree) → Q a s t → Q1 a s t)
      → Leads P Q step → Leads P1 Q1 step
  leads_so P P1 Q Q1 step so next p old new (Ok value) h =
      let one = p old new (Ok value) h in (
        narrow (P old) (P1 old) (view old).files (view old).misused (view new).misused (so old) one.0,
        brings_so
            (P old) (P1 old) (Q value new) (Q1 value new) (view old).files (view new).files (so old)
            (next value new) one.1,
      )
  leads_so P P1 Q Q1 step so next p old new (Err fault) h = (
    narrow (P old) (P1 old) (view old).files (view old).misused (view new).misused (so old)
        (p old new (Err fault) h).0,
    tt,
  )

  -- what is known beside the files
  pub leads_given : {E A : Type 0} (K : Type 0) (P : S → Tree → Type 0) (Q : A → S → Tree → Type 0)
      (step : S → Result A E → S → Type 0) → (K → Leads P Q step) → Leads (λ s t. P s t × K) Q step
  leads_given {E = E} {A = A} K P Q step p old new result h =
      (minds (view old).files (λ k. (p k old new result h).0), by result h)
    where
      minds : (o : Option Tree) → (K → IfSome o (λ t. P old t → (view new).misused ≡ (view old).misused))
          → IfSome o (λ t. P old t × K → (view new).misused ≡ (view old).misused)
      minds None m = tt
      minds (Some t) m = λ both. m both.1 both.0

      brought : (a : A) (o : Option Tree) → (K → Brings (P old) (Q a new) o (view new).files)
          → Brings (λ t. P old t × K) (Q a new) o (view new).files
      brought a None m = tt
      brought a (Some t) m = λ both. m both.1 both.0

      by : (result : Result A E) → step old result new → IfOk result
          (λ a. Brings (λ t. P old t × K) (Q a new) (view old).files (view new).files)
      by (Ok a) h = brought a (view old).files (λ k. (p k old new (Ok a) h).1)
      by (Err fault) h = tt

  -- the same, which is known behind the steps too
  pub leads_kept : {E A : Type 0} (K : Type 0) (P : S → Tree → Type 0) (Q : A → S → Tree → Type 0)
      (step : S → Result A E → S → Type 0) → Leads P Q step → Leads (λ s t. P s t × K) (λ a s t. Q a s t × K) step
  leads_kept K P Q step p = leads_given K P (λ a s t. Q a s t × K) step
      (λ k. leads_so P P Q (λ a s t. Q a s t × K) step (λ s t fit. fit) (λ a s t fit. (fit, k)) p)

  leads_same : {A E : Type 0} (P : S → Tree → Type 0) (old new : S) (result : Result A E) → new ≡ old
      → NoMisuse (P old) (view old) (view new) × IfOk result (λ a. Brings (P old) (P new) (view old).files
      (view new).files)
  leads_same {A = A} {E = E} P old new result same = subst
      (λ (s : S). NoMisuse (P old) (view old) (view s) × IfOk result
      (λ a. Brings (P old) (P s) (view old).files (view s).files)) (sym same)
      (minds_same (P old) (view old).files (view old).misused (view old).misused refl, by result)
    where
      by : (result : Result A E) → IfOk result (λ a. Brings (P old) (P old) (view old).files (view old).files)
      by (Ok a) = brings_same (P old) (view old).files (view old).files refl
      by (Err fault) = tt

  pub leads_gives : {E A : Type 0} (P : S → Tree → Type 0) (cause : E → Cause) (want : Result A E)
      → Leads P (λ a. P) (gives cause want)
  unfolding gives
  leads_gives P cause want old new result h = leads_same P old new result h.0

  pub leads_yields : {E A : Type 0} (P : S → Tree → Type 0) (want : A) → Leads {E = E} P (λ a. P) (yields want)
  unfolding yields
  leads_yields {E = E} P want old new (Ok value) h = leads_same {E = E} P old new (Ok value) h.1
  leads_yields P want old new (Err fault) h = absurd h

  pub leads_each : {E A X : Type 0} (P : S → Tree → Type 0) (Fit : X → Type 0)
      (step : X → A → S → Result A E → S → Type 0) (xs : List X) (so_far : A) → AllByRecursion Fit xs
      → ((x : X) (a : A) → Fit x → Leads P (λ b. P) (step x a))
      → Leads P (λ b. P) (for_each step xs so_far)
  unfolding for_each
  leads_each P Fit step [] so_far fit p = leads_yields P so_far
  leads_each P Fit step (x ∷ xs) so_far fit p = leads_bind P (λ b. P) (λ b. P) (step x so_far) (for_each step xs)
      (p x so_far fit.0) (λ a. leads_each P Fit step xs a fit.1 p)

-- ---- each step

abbrev pub itself : Seen → Seen
itself s = s

-- no such call is made where the files fit
minds_allowed : (P : Tree → Type 0) (fits : Tree → Bool) (old new : Seen) → ((t : Tree) → P t → IsTrue (fits t))
    → MayMisuse (option_map fits old.files) old.misused new.misused → NoMisuse P old new
minds_allowed P fits old new so allows = narrow (λ t. IsTrue (fits t)) P old.files old.misused new.misused so
    (by_allows fits old.files old.misused new.misused allows)

pub leads_reads : {E A : Type 0} (P : Tree → Type 0) (cause : E → Cause) (Among : List ℕ → Type 0) (fits : Tree → Bool)
    (want : Tree → Result A E) → ((t : Tree) → P t → IsTrue (fits t))
    → Leads itself (λ s. P) (λ a s t. P t × (want t ≡ Ok a)) (reads cause Among fits want)
unfolding reads
leads_reads {E = E} {A = A} P cause Among fits want so old new (Ok a) h =
    (minds_allowed P fits old new so h.allows, known old.files new.files h.same.files h.answer)
  where
    known : (o o1 : Option Tree) → o1 ≡ o → IfSome o (λ t. want t ≡ Ok a) → Brings P (λ t. P t × (want t ≡ Ok a)) o o1
    known None o1 is answer = tt
    known (Some t) o1 is answer = λ p. (t, is, (p, answer))
leads_reads P cause Among fits want so old new (Err fault) h = (minds_allowed P fits old new so h.allows, tt)

pub leads_removes : {E : Type 0} (P Q : Tree → Type 0) (cause : E → Cause) (path : List ℕ) → is_root path ≡ false
    → ((t : Tree) → P t → Q (without path t)) → Leads itself (λ s. P) (λ done s. Q) (removes cause path)
unfolding removes
leads_removes P Q cause path plain so old new (Ok done) h = (
  minds_allowed P (λ t. not (is_root path)) old new (λ t p. ap not plain) h.1,
  brings_change P Q
      (without path) old.files new.files so h.0.files,
)
leads_removes P Q cause path plain so old new (Err fault) h =
    (minds_allowed P (λ t. not (is_root path)) old new (λ t p. ap not plain) h.2, tt)

pub leads_makes : {E : Type 0} (P Q : Tree → Type 0) (cause : E → Cause) (path : List ℕ)
    → ((t : Tree) → P t → IsTrue (can_make_folder t path)) → ((t : Tree) → P t → Q (folder_made path t))
    → Leads itself (λ s. P) (λ done s. Q) (makes_folder cause path)
unfolding makes_folder
leads_makes P Q cause path can so old new (Ok done) h = (
  minds_allowed P (λ t. can_make_folder t path) old new can h.1,
  brings_change P Q
      (folder_made path) old.files new.files so h.0.files,
)
leads_makes P Q cause path can so old new (Err fault) h =
    (minds_allowed P (λ t. can_make_folder t path) old new can h.2, tt)

pub leads_writes : {E : Type 0} (P Q : Tree → Type 0) (cause : E → Cause) (path : List ℕ) (Says : List ℕ → Type 0)
    → ((t : Tree) → P t → IsTrue (can_write path t))
    → ((bytes : List ℕ) (t : Tree) → P t → Q (written path bytes t))
    → Leads itself (λ s. P) (λ done s. Q) (writes cause path Says)
unfolding writes
leads_writes P Q cause path Says can so old new (Ok done) h = (
  minds_allowed P (can_write path) old new can h.allows,
  brings_change P Q
      (written path h.bytes) old.files new.files (so h.bytes) h.files,
)
leads_writes P Q cause path Says can so old new (Err fault) h =
    (minds_allowed P (can_write path) old new can h.1.allows, tt)

leads_lays : (P Q : Tree → Type 0) (root place : List ℕ) (tree : Node)
    → ((t : Tree) → P t → IsTrue (can_lay root place tree t))
    → ((t after : Tree) → P t → KeepsAround root t after → Q after)
    → Leads itself (λ s. P) (λ done s. Q) (lays_tree root place tree)
unfolding lays_tree
leads_lays P Q root place tree can so old new (Ok done) h = (
  minds_allowed P (can_lay root place tree) old new can h.2,
  brings_around P Q root old.files new.files so
      h.1.files,
)
leads_lays P Q root place tree can so old new (Err fault) h =
    (minds_allowed P (can_lay root place tree) old new can h.2, tt)

-- ---- steps over the world and the caches

abbrev pub beside_caches : WorldAndCaches → Seen
beside_caches s = s.world

pub leads_in_world : {E A : Type 0} (P : Caches → Tree → Type 0) (Q : A → Caches → Tree → Type 0)
    (step : Seen → Result A E → Seen → Type 0) → ((caches : Caches)
    → Leads itself (λ s. P caches) (λ a s. Q a caches) step)
    → Leads beside_caches (λ s. P s.caches) (λ a s. Q a s.caches) (in_world step)
unfolding in_world
leads_in_world P Q step p old new (Ok a) h = let one = p old.caches old.world new.world (Ok a) h.0
    in (one.0, subst (λ c. Brings (P old.caches) (Q a c) old.world.files new.world.files) (sym h.1) one.1)
leads_in_world P Q step p old new (Err fault) h = ((p old.caches old.world new.world (Err fault) h.0).0, tt)

-- ---- a tree that is restored

-- files of the second kind where a tree was laid, and else of the first
abbrev pub LaidOr : (Tree → Type 0) → (Tree → Type 0) → Found → Tree → Type 0
LaidOr P Q found.Laid = Q
LaidOr P Q found.None = P
LaidOr P Q (found.Damaged asked is bad) = P

-- what follows where this is known, and where this is so of the files
minds_where : (P : Tree → Type 0) (K : Type 0) (H : Option Tree → Type 0) (o : Option Tree) (a b : ℕ)
    → ((t : Tree) → P t → H (Some t)) → (K → H o → IfSome o (λ t. P t → b ≡ a)) → IfSome o (λ t. P t × K → b ≡ a)
minds_where P K H None a b so h = tt
minds_where P K H (Some t) a b so h = λ both. h both.1 (so t both.0) both.0

brings_where : (P Q : Tree → Type 0) (K K1 : Type 0) (H : Option Tree → Type 0) (o o1 : Option Tree) → (K → K1)
    → ((t : Tree) → P t → H (Some t)) → (K → H o → Brings P Q o o1) → Brings (λ t. P t × K) (λ t. Q t × K1) o o1
brings_where P Q K K1 H None o1 on so h = tt
brings_where P Q K K1 H (Some t) o1 on so h = λ both. let (after, is, fit) = h both.1 (so t both.0) both.0
    in (after, is, (fit, on both.1))

pub leads_restored : (P Q : Tree → Type 0) (digest root : List ℕ) → ((t : Tree) → P t → HasFolder root (Some t))
    → ((tree : Node) (t : Tree) → P t → IsTrue (can_lay root (codes "/") tree t))
    → ((t after : Tree) → P t → KeepsAround root t after → Q after)
    → Leads beside_caches (λ s t. P t × AllTell s.caches)
    (λ search s t. LaidOr P Q search.found t × AllTell s.caches) (restores_tree digest root)
unfolding restores_tree
leads_restored P Q digest root there can so old new (Ok search) h =
    let (held, finds, answer, files, laid) = h.by in (
      minds_where P (AllTell old.caches) (HasFolder root) old.world.files old.world.misused new.world.misused there
          (λ tell stands. (by held (laid tell stands).1).0),
      brings_where P (LaidOr P Q search.found) (AllTell old.caches) (AllTell new.caches) (HasFolder root)
          old.world.files new.world.files h.tell there
          (λ tell stands. subst (λ (answer : Found). Brings P (LaidOr P Q answer) old.world.files new.world.files)
          (sym (laid tell stands).0) (by held (laid tell stands).1).1),
    )
  where
    by : (held : InCaches) → LaysIn root held old.world new.world → NoMisuse P old.world new.world
        × Brings P (LaidOr P Q (answer_of held)) old.world.files new.world.files
    by (Whole tree) h = leads_lays P Q root (codes "/") tree (can tree) so old.world new.world (Ok tt) h
    by Missing h = (
      minds_same P old.world.files old.world.misused new.world.misused h.misused,
      brings_same P old.world.files new.world.files h.files,
    )
    by (Broken asked is bad) h = (
      minds_same P old.world.files old.world.misused new.world.misused h.misused,
      brings_same P old.world.files new.world.files h.files,
    )
leads_restored P Q digest root there can so old new (Err fault) h = (
  minds_where P (AllTell old.caches) (HasFolder root) old.world.files old.world.misused new.world.misused there
      (λ tell stands. let (tree, laid) = h.by.2 tell stands
      in (leads_lays P Q root (codes "/") tree (can tree) so old.world new.world (Err fault) laid).0),
  tt,
)
