-- Something is given to one shelf after another.
use Rattle.std.proofs.Common.{◌≡◌, ◌≤◌, ◌∙◌, refl, sym, ap, subst, arith, ℕ, zero, suc, Bool, true, false, List, []}
use Rattle.std.proofs.Common.{◌∷◌}
use Rattle.std.proofs.Common.{◌+◌, ◌<◌, ◌++◌, drop, get_or, length, length-append, map, set, take, Option, Some, None}
use Rattle.std.proofs.Common.{Result, Ok, Err, inl, inr}
use Rattle.std.specs.Prelude.{OnErr, OnOk}
use Rattle.std.specs.Option.{option_map}
use Rattle.std.proofs.lemmas.List.{length-map, length-take-le}
use Rattle.cnb_world.specs.Calls.{CountsShelf}
use Rattle.cnb_world.specs.declared.shelf.ShelfFault.{ShelfFault}
use Rattle.cnb_world.specs.declared.values.Memory.{Memory}
use Rattle.cnb_world.specs.declared.shelf.ShelfFault.TheVariants as shelf
use Rattle.cnb_world.specs.Shelf.{Held, empty_at, with_more}
use Rattle.cnb_world.specs.declared.memory.shelf.Held.{Held as HeldBytes}
use Rattle.steps.specs.Causes.{CountsFiles}
use Rattle.steps.specs.Outside.{Seen}
use Rattle.tree_store.specs.Answers.{cause_of}
use Rattle.tree_store.specs.Receiving.{GivesAt, GivesEach, HasDone, IsDone, MayHaveDone, OnFirst}
use Rattle.tree_store.specs.declared.fault.StoreFault.TheVariants.{Memory as NoMemory}
use Rattle.tree_store.specs.declared.receivers.Giving.TheVariants.{Append}
use Rattle.tree_store.specs.ShelfState.{Replaces, ShelfState}
use Rattle.tree_store.specs.Shelves.{OnEachSeen, OnSeen}
use Rattle.tree_store.specs.Target.{AppendsTo, AsTold, HaveBegun, Receiver, ToShelves, shelf_of}
use Rattle.tree_store.specs.declared.receivers.Giving.{Giving}
use Rattle.tree_store.proofs.Caches.{each_as, each_seen_same, one_as}
use Rattle.tree_store.proofs.Shelves.{set_split, split_at}
use Rattle.tree_store.proofs.Written.{files_local}

-- ---- an item is replaced

first_replaced : {X : Type 0} (xs zs : List X) (b a : X) → Replaces xs 0 b a zs
    → (back : List X) × (xs ≡ b ∷ back) × (zs ≡ a ∷ back)
first_replaced {X} xs zs b a h = by h.front h.place h.entry h.exit
  where
    by : (front : List X) → 0 ≡ length front → xs ≡ front ++ b ∷ h.back → zs ≡ front ++ a ∷ h.back
        → (back : List X) × (xs ≡ b ∷ back) × (zs ≡ a ∷ back)
    by [] place entry exit = (h.back, entry, exit)
    by (c ∷ front) place entry exit = absurd (omega (arith, place))

later_replaced : {X : Type 0} (y : X) (ys zs : List X) (n : ℕ) (b a : X) → Replaces (y ∷ ys) (suc n) b a zs
    → (rest : List X) × (zs ≡ y ∷ rest) × Replaces ys n b a rest
later_replaced {X} y ys zs n b a h = by h.front h.place h.entry h.exit
  where
    by : (front : List X) → suc n ≡ length front → y ∷ ys ≡ front ++ b ∷ h.back → zs ≡ front ++ a ∷ h.back
        → (rest : List X) × (zs ≡ y ∷ rest) × Replaces ys n b a rest
    by [] place entry exit = absurd (omega (arith, place))
    by (c ∷ front) place entry exit = (
      front ++ a ∷ h.back,
      let same : y ≡ c = cc in exit ∙ ap (λ d. d ∷ (front ++ a ∷ h.back)) (sym same),
      record {
        front = front;
        back = h.back;
        entry = let same : ys ≡ front ++ b ∷ h.back = cc in same;
        place = let same : n ≡ length front = omega (arith, place) in same;
        exit = refl;
      },
    )

-- by itself
pub kept_at : {X : Type 0} (xs : List X) (i : ℕ) → i < length xs → (x : X) × Replaces xs i x x xs
kept_at [] i lt = absurd (omega (arith, lt))
kept_at (x ∷ xs) zero lt = (x, record { front = []; back = xs; entry = refl; place = refl; exit = refl })
kept_at (x ∷ xs) (suc i) lt = let rest = kept_at xs i (omega (arith, lt)) in (
  rest.0,
  record {
    front = x ∷ rest.1.front;
    back = rest.1.back;
    entry = ap (λ l. x ∷ l) rest.1.entry;
    place = ap suc rest.1.place;
    exit = ap (λ l. x ∷ l) rest.1.exit;
  },
)

pub set_at : {X : Type 0} (xs : List X) (i : ℕ) (x y : X) → i < length xs → x ≡ get_or xs i x
    → Replaces xs i x y (set xs i y)
set_at xs i x y lt is = record {
  front = take i xs;
  back = drop (suc i) xs;
  entry = split_at xs i x lt is;
  place = sym (length-take-le i xs (omega arith));
  exit = set_split xs i x y lt is;
}

pub still_at : {X : Type 0} (xs : List X) (i : ℕ) (x y : X) → i < length xs → x ≡ get_or xs i x → x ≡ y
    → Replaces xs i y y xs
still_at xs i x y lt is same = subst (λ z. Replaces xs i z z xs) same (record {
  front = take i xs;
  back = drop (suc i) xs;
  entry = split_at xs i x lt is;
  place = sym (length-take-le i xs (omega arith));
  exit = split_at xs i x lt is;
})

-- another value in place of one that isn't there
pub here_as : {X : Type 0} (xs : List X) (i : ℕ) (x y : X) → i < length xs → x ≡ get_or xs i x → x ≡ y
    → y ≡ get_or xs i y
here_as xs i x y lt is same = subst (λ z. z ≡ get_or xs i z) same is

pub as_many_left : {X : Type 0} (xs ys : List X) (i : ℕ) (b a : X) → Replaces xs i b a ys → length ys ≡ length xs
as_many_left xs ys i b a h = ap length h.exit ∙ length-append h.front (a ∷ h.back)
    ∙ sym (length-append h.front (b ∷ h.back)) ∙ sym (ap length h.entry)

pub few_receivers : {X Y : Type 0} (f : X → Y) (xs : List X) (n : ℕ) → n < length xs → n < length (map f xs)
few_receivers f xs n lt = omega (arith, lt, length-map xs f)

-- ---- one shelf

pub did : (giving : Giving) (bytes : List ℕ) (result : Result Unit ShelfFault) (v : Unit {0}) (b a : Receiver)
    → IsDone giving bytes result b a → result ≡ Ok v → OnSeen shelf_of (HasDone giving bytes) false false b a
did giving bytes result v b a h e = by result e h.ok h.faults
  where
    by : (r : Result Unit ShelfFault) → r ≡ Ok v → OnOk r (HasDone giving bytes b a)
        → CountsShelf r b.shelf.faults a.shelf.faults → OnSeen shelf_of (HasDone giving bytes) false false b a
    by (Ok w) e ok faults = (ok, faults)
    by (Err fault) e ok faults = absurd (cc)

pub did_fail : (giving : Giving) (bytes : List ℕ) (result : Result Unit ShelfFault) (b a : Receiver)
    → IsDone giving bytes result b a → result ≡ Err shelf.Failed
    → OnSeen shelf_of (HasDone giving bytes) false true b a
did_fail giving bytes result b a h e = (
  subst (λ r. OnErr r (AsTold b a)) e h.err,
  subst (λ r. CountsShelf r b.shelf.faults a.shelf.faults) e h.faults,
)

pub did_not : (giving : Giving) (bytes : List ℕ) (result : Result Unit ShelfFault) (b a : Receiver)
    → IsDone giving bytes result b a → result ≡ Err shelf.Memory → OnSeen shelf_of AsTold false false b a
did_not giving bytes result b a h e = (
  subst (λ r. OnErr r (AsTold b a)) e h.err,
  subst (λ r. CountsShelf r b.shelf.faults a.shelf.faults) e h.faults,
)

-- ---- so many of them

pub one_more : {X : Type 0} (shelf : X → ShelfState) (Does : X → X → Type 0) (n : ℕ) (failed fails : List Bool)
    (old new : List X) (f g : Bool) (b a : X) (later : List Bool) (last : List X)
    → OnFirst n shelf Does failed fails old new → Replaces new n b a last → Replaces fails n f g later
    → OnSeen shelf Does f g b a → OnFirst (suc n) shelf Does failed later old last
one_more {X} shelf Does zero failed fails old new f g b a later last first item flag does =
    let x = first_replaced new last b a item in let y = first_replaced fails later f g flag in
    subst (λ l. OnFirst 1 shelf Does failed later l last) (sym x.1 ∙ first.1)
    (subst (λ l. OnFirst 1 shelf Does failed later (b ∷ x.0) l) (sym x.2)
    (subst (λ l. OnFirst 1 shelf Does l later (b ∷ x.0) (a ∷ x.0)) (sym y.1 ∙ first.0)
    (subst (λ l. OnFirst 1 shelf Does (f ∷ y.0) l (b ∷ x.0) (a ∷ x.0)) (sym y.2) (does, (refl, refl)))))
one_more shelf Does (suc n) (f1 ∷ failed) (g1 ∷ fails) (s ∷ old) (t ∷ new) f g b a later last first item flag does =
    let x = later_replaced t new last n b a item in let y = later_replaced g1 fails later n f g flag in
    subst (λ l. OnFirst (suc (suc n)) shelf Does (f1 ∷ failed) later (s ∷ old) l) (sym x.1)
    (subst (λ l. OnFirst (suc (suc n)) shelf Does (f1 ∷ failed) l (s ∷ old) (t ∷ x.0)) (sym y.1)
    (first.0, one_more shelf Does n failed fails old new f g b a y.0 x.0 first.1 x.2 y.2 does))
one_more shelf Does (suc n) [] fails old new f g b a later last first item flag does = absurd first
one_more shelf Does (suc n) (f1 ∷ failed) [] old new f g b a later last first item flag does = absurd first
one_more shelf Does (suc n) (f1 ∷ failed) (g1 ∷ fails) [] new f g b a later last first item flag does = absurd first
one_more shelf Does (suc n) (f1 ∷ failed) (g1 ∷ fails) (s ∷ old) [] f g b a later last first item flag does =
    absurd first

-- as many as there are flags
pub all_done : {X : Type 0} (shelf : X → ShelfState) (Does : X → X → Type 0) (n : ℕ) (failed fails : List Bool)
    (old new : List X) → n ≡ length failed → OnFirst n shelf Does failed fails old new
    → OnEachSeen shelf Does failed fails old new
all_done shelf Does zero [] fails old new is first = subst
    (λ l. OnEachSeen shelf Does [] l old new) (sym first.0) first.1
all_done shelf Does zero (f ∷ failed) fails old new is first = absurd (omega (arith, is))
all_done shelf Does (suc n) [] fails old new is first = absurd first
all_done shelf Does (suc n) (f ∷ failed) [] old new is first = absurd first
all_done shelf Does (suc n) (f ∷ failed) (g ∷ fails) [] new is first = absurd first
all_done shelf Does (suc n) (f ∷ failed) (g ∷ fails) (s ∷ old) [] is first = absurd first
all_done shelf Does (suc n) (f ∷ failed) (g ∷ fails) (s ∷ old) (t ∷ new) is first = (
  first.0,
  all_done shelf Does n failed fails old new (let same : n ≡ length failed = omega (arith, is) in same) first.1,
)

-- and nothing on those behind
pub some_done : {X : Type 0} (shelf : X → ShelfState) (Does : X → X → Type 0) → ((s : X) → Does s s) → (n : ℕ)
    (failed fails : List Bool) (old new : List X) → length failed ≤ length old
    → OnFirst n shelf Does failed fails old new → OnEachSeen shelf Does failed fails old new
some_done shelf Does keeps zero failed fails old new few first = subst
    (λ l. OnEachSeen shelf Does failed l old new) (sym first.0) (subst
    (λ l. OnEachSeen shelf Does failed failed old l) (sym first.1) (each_seen_same shelf Does keeps failed old few))
some_done shelf Does keeps (suc n) [] fails old new few first = absurd first
some_done shelf Does keeps (suc n) (f ∷ failed) [] old new few first = absurd first
some_done shelf Does keeps (suc n) (f ∷ failed) (g ∷ fails) [] new few first = absurd first
some_done shelf Does keeps (suc n) (f ∷ failed) (g ∷ fails) (s ∷ old) [] few first = absurd first
some_done shelf Does keeps (suc n) (f ∷ failed) (g ∷ fails) (s ∷ old) (t ∷ new) few first = (
  first.0,
  some_done shelf Does keeps n failed fails old new (omega (arith, few)) first.1,
)

pub first_as : {X : Type 0} (shelf : X → ShelfState) (D E : X → X → Type 0) → ((a b : X) → D a b → E a b) → (n : ℕ)
    (failed fails : List Bool) (old new : List X) → OnFirst n shelf D failed fails old new
    → OnFirst n shelf E failed fails old new
first_as shelf D E so zero failed fails old new first = first
first_as shelf D E so (suc n) [] fails old new first = absurd first
first_as shelf D E so (suc n) (f ∷ failed) [] old new first = absurd first
first_as shelf D E so (suc n) (f ∷ failed) (g ∷ fails) [] new first = absurd first
first_as shelf D E so (suc n) (f ∷ failed) (g ∷ fails) (s ∷ old) [] first = absurd first
first_as shelf D E so (suc n) (f ∷ failed) (g ∷ fails) (s ∷ old) (t ∷ new) first = (
  one_as shelf D E so f g s t first.0,
  first_as shelf D E so n failed fails old new first.1,
)

-- ---- each

told_itself : (r : Receiver) → AsTold r r
told_itself r = (refl, refl)

-- memory ran out at one
pub each_short : (giving : Giving) (bytes : List ℕ) (n : ℕ) (failed fails later : List Bool)
    (old new last : List Receiver) (b a : Receiver) (f g : Bool) → length failed ≤ length old
    → OnFirst n shelf_of (HasDone giving bytes) failed fails old new → Replaces new n b a last
    → Replaces fails n f g later → OnSeen shelf_of AsTold f g b a
    → OnEachSeen shelf_of (MayHaveDone giving bytes) failed later old last
each_short giving bytes n failed fails later old new last b a f g few first item flag does =
    some_done shelf_of (MayHaveDone giving bytes) (λ s. inl (told_itself s)) (suc n) failed later old last few
    (one_more shelf_of (MayHaveDone giving bytes) n failed fails old new f g b a later last
    (first_as shelf_of (HasDone giving bytes) (MayHaveDone giving bytes) (λ a b x. inr x) n failed fails old new first)
    item flag (one_as shelf_of AsTold (MayHaveDone giving bytes) (λ a b x. inl x) f g b a does))

pub each_ended : (giving : Giving) (bytes : List ℕ) (n : ℕ) (failed fails later : List Bool)
    (old new last : List Receiver) {memory : Memory} → length failed ≤ length old
    → OnFirst n shelf_of (HasDone giving bytes) failed fails old new
    → GivesAt giving bytes n new fails (Err memory) last later
    → OnEachSeen shelf_of (MayHaveDone giving bytes) failed later old last
each_ended giving bytes n failed fails later old new last few first gives = each_short giving bytes n failed fails later
    old new last gives.before gives.after gives.had gives.has few first gives.shelf gives.flag gives.does

pub one_done : (giving : Giving) (bytes : List ℕ) (n : ℕ) (failed fails later : List Bool)
    (old new last : List Receiver) {done : Unit {0}} → OnFirst n shelf_of (HasDone giving bytes) failed fails old new
    → GivesAt giving bytes n new fails (Ok done) last later
    → OnFirst (n + 1) shelf_of (HasDone giving bytes) failed later old last
one_done giving bytes n failed fails later old new last first gives = subst
    (λ m. OnFirst m shelf_of (HasDone giving bytes) failed later old last)
    (let e : suc n ≡ n + 1 = omega arith in e)
    (one_more shelf_of (HasDone giving bytes) n failed fails old new gives.had gives.has gives.before gives.after later
    last first gives.shelf gives.flag gives.does)

-- and of what is seen of them
pub as_many_seen : {X Y : Type 0} (f : X → Y) (xs zs : List X) (i : ℕ) (b a : Y)
    → Replaces (map f xs) i b a (map f zs) → length zs ≡ length xs
as_many_seen f xs zs i b a h = sym (length-map zs f) ∙ as_many_left (map f xs) (map f zs) i b a h ∙ length-map xs f

pub few_seen : {X Y : Type 0} (f : X → Y) (n : ℕ) (xs : List X) → n ≤ length xs → n ≤ length (map f xs)
few_seen f n xs h = omega (arith, h, length-map xs f)

-- ---- what went to shelves

-- what they tell stays, and more was begun on each
appends_told : (bytes : List ℕ) (a b : Receiver) → HasDone Append bytes a b → AsTold a b
appends_told bytes a b h = h.0

may_told : (bytes : List ℕ) (a b : Receiver) → MayHaveDone Append bytes a b → AsTold a b
may_told bytes a b (inl h) = h
may_told bytes a b (inr h) = h.0

begun_more : (digest first bytes : List ℕ) (before after : Option Held) (one two : Option HeldBytes) → after ≡ before
    → one ≡ option_map (λ _. with_more first (empty_at digest)) before → two ≡ option_map (with_more bytes) one
    → two ≡ option_map (λ _. with_more (first ++ bytes) (empty_at digest)) after
begun_more digest first bytes before after one two same is more = subst
    (λ h. two ≡ option_map (λ _. with_more (first ++ bytes) (empty_at digest)) h) (sym same)
    (more ∙ ap (option_map (with_more bytes)) is ∙ by before)
  where
    by : (h : Option Held) → option_map (with_more bytes) (option_map (λ _. with_more first (empty_at digest)) h)
        ≡ option_map (λ _. with_more (first ++ bytes) (empty_at digest)) h
    by None = refl
    by (Some held) = refl

have_more : (digest first bytes : List ℕ) (fs gs : List Bool) (rs ss : List Receiver)
    → OnEachSeen shelf_of (HasDone Append bytes) fs gs rs ss → HaveBegun digest first fs rs
    → HaveBegun digest (first ++ bytes) gs ss
have_more digest first bytes [] [] rs ss x h = tt
have_more digest first bytes [] (g ∷ gs) rs ss x h = absurd x
have_more digest first bytes (f ∷ fs) [] rs ss x h = absurd x
have_more digest first bytes (f ∷ fs) (g ∷ gs) [] ss x h = absurd x
have_more digest first bytes (f ∷ fs) (g ∷ gs) (r ∷ rs) [] x h = absurd x
have_more digest first bytes (true ∷ fs) (true ∷ gs) (r ∷ rs) (s ∷ ss) x h =
    have_more digest first bytes fs gs rs ss x.1 h
have_more digest first bytes (true ∷ fs) (false ∷ gs) (r ∷ rs) (s ∷ ss) x h = absurd x.0
have_more digest first bytes (false ∷ fs) (true ∷ gs) (r ∷ rs) (s ∷ ss) x h =
    have_more digest first bytes fs gs rs ss x.1 h.1
have_more digest first bytes (false ∷ fs) (false ∷ gs) (r ∷ rs) (s ∷ ss) x h = (
  begun_more digest first bytes r.shelf.held s.shelf.held r.begun s.begun x.0.0.0.0 h.0 x.0.0.1,
  have_more digest first bytes fs gs rs ss x.1 h.1,
)

-- no call on files
memory_counts : (A : Type 0) (n : ℕ) → CountsFiles {A = A} cause_of (Err NoMemory) n n
memory_counts A n = omega arith

pub appended_to : (bytes digest : List ℕ) (rs ss : List Receiver) (fs gs : List Bool) (a : Seen)
    (done : Unit {0}) → GivesEach Append bytes rs fs (Ok done) ss gs
    → AppendsTo bytes (ToShelves digest rs fs) a (Ok tt) (ToShelves digest ss gs) a
appended_to bytes digest rs ss fs gs a done h = record {
  leaves = λ path. record {
    stays = inr (refl, each_as shelf_of (HasDone Append bytes) AsTold (appends_told bytes) fs gs rs ss h);
    others = files_local a (Ok tt) (λ n. refl);
    blames = tt;
  };
  adds = λ store before first gone. (
    record { went = (gone.went.0, have_more digest first bytes fs gs rs ss h gone.went.1); kept = gone.kept },
    refl,
  );
  free = tt;
}

pub appended_short : (bytes digest : List ℕ) (rs ss : List Receiver) (fs gs : List Bool) (a : Seen)
    (memory : Memory) → GivesEach Append bytes rs fs (Err memory) ss gs
    → AppendsTo bytes (ToShelves digest rs fs) a (Err NoMemory) (ToShelves digest ss gs) a
appended_short bytes digest rs ss fs gs a memory h = record {
  leaves = λ path. record {
    stays = inr (refl, each_as shelf_of (MayHaveDone Append bytes) AsTold (may_told bytes) fs gs rs ss h);
    others = files_local a (Err NoMemory) (memory_counts (Unit {0}));
    blames = tt;
  };
  adds = λ store before first gone. (tt, refl);
  free = refl;
}

pub appended_nowhere : (bytes : List ℕ) (a : Seen)
    → AppendsTo bytes (ToShelves [] [] []) a (Ok tt) (ToShelves [] [] []) a
appended_nowhere bytes a = record {
  leaves = λ path. record { stays = inl refl; others = files_local a (Ok tt) (λ n. refl); blames = tt };
  adds = λ store before first gone. (record { went = gone.went; kept = gone.kept }, refl);
  free = tt;
}
