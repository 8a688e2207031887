-- Shelves of which each had failed or has.
use Rattle.std.proofs.Common.{◌≤◌, ◌∙◌, refl, sym, ap, subst, arith, ℕ, Bool, true, false, List, [], ◌∷◌, length, map}
use Rattle.std.proofs.Common.{Option, Some, None, Result, Err}
use Rattle.std.specs.Prelude.{IfSome}
use Rattle.std.specs.Option.{option_map}
use Rattle.cnb_world.specs.Calls.{Rose}
use Rattle.cnb_world.specs.Tree.{Tree}
use Rattle.steps.specs.Causes.{IsAnswer}
use Rattle.steps.specs.Outside.{Seen}
use Rattle.steps.specs.Steps.{reads}
use Rattle.steps.proofs.EndLaws.{files_rest}
use Rattle.tree_store.specs.Answers.{cause_of}
use Rattle.tree_store.specs.declared.fault.StoreFault.{StoreFault}
use Rattle.tree_store.specs.declared.fault.StoreFault.TheVariants.{Memory}
use Rattle.tree_store.proofs.Kept.{may_begin}
use Rattle.tree_store.specs.ShelfState.{ShelfState}
use Rattle.tree_store.specs.Shelves.{KeepsTold, OnEach, OnEachSeen, OnSeen, OnShelf}

pub told_same : (s : ShelfState) → KeepsTold s s
told_same s = (refl, refl)

-- no shelf is asked
one_same : {X : Type 0} (shelf : X → ShelfState) (Does : X → X → Type 0) → ((s : X) → Does s s) → (failed : Bool)
    (s : X) → OnSeen shelf Does failed failed s s
one_same shelf Does keeps true s = refl
one_same shelf Does keeps false s = (keeps s, refl)

pub each_seen_same : {X : Type 0} (shelf : X → ShelfState) (Does : X → X → Type 0) → ((s : X) → Does s s)
    → (failed : List Bool) (shelves : List X) → length failed ≤ length shelves
    → OnEachSeen shelf Does failed failed shelves shelves
each_seen_same shelf Does keeps [] shelves h = refl
each_seen_same shelf Does keeps (f ∷ failed) [] h = absurd (omega arith)
each_seen_same shelf Does keeps (f ∷ failed) (s ∷ shelves) h = (
  one_same shelf Does keeps f s,
  each_seen_same shelf Does keeps failed shelves (omega arith),
)

pub each_same : (Does : ShelfState → ShelfState → Type 0) → ((s : ShelfState) → Does s s) → (failed : List Bool)
    (shelves : List ShelfState) → length failed ≤ length shelves → OnEach Does failed failed shelves shelves
each_same Does keeps failed shelves h = each_seen_same (λ s. s) Does keeps failed shelves h

-- one call after another, of which the first leaves what shelves tell
one_then : {X : Type 0} (shelf : X → ShelfState) (First Next Both : X → X → Type 0)
    → ((a b : X) → First a b → KeepsTold (shelf a) (shelf b)) → ((a b c : X) → First a b → Next b c → Both a c)
    → (f g h : Bool) (a b c : X) → OnSeen shelf First f g a b → OnSeen shelf Next g h b c → OnSeen shelf Both f h a c
one_then shelf First Next Both told join true true true a b c x y = y ∙ x
one_then shelf First Next Both told join true true false a b c x y = absurd y
one_then shelf First Next Both told join true false h a b c x y = absurd x
one_then shelf First Next Both told join false true true a b c x y = (
  (ap (λ s. (shelf s).held) y ∙ x.0.0, ap (λ s. (shelf s).rows) y ∙ x.0.1),
  subst (λ s. Rose (shelf a).faults (shelf s).faults) (sym y) x.1,
)
one_then shelf First Next Both told join false true false a b c x y = absurd y
one_then shelf First Next Both told join false false true a b c x y = (
  (y.0.0 ∙ (told a b x.0).0, y.0.1 ∙ (told a b x.0).1),
  subst (λ n. Rose n (shelf c).faults) x.1 y.1,
)
one_then shelf First Next Both told join false false false a b c x y = (join a b c x.0 y.0, y.1 ∙ x.1)

pub each_then : {X : Type 0} (shelf : X → ShelfState) (First Next Both : X → X → Type 0)
    → ((a b : X) → First a b → KeepsTold (shelf a) (shelf b)) → ((a b c : X) → First a b → Next b c → Both a c)
    → (fs gs hs : List Bool) (rs ss us : List X) → OnEachSeen shelf First fs gs rs ss
    → OnEachSeen shelf Next gs hs ss us
    → OnEachSeen shelf Both fs hs rs us
each_then shelf First Next Both told join [] [] [] rs ss us x y = y ∙ x
each_then shelf First Next Both told join [] [] (h ∷ hs) rs ss us x y = absurd y
each_then shelf First Next Both told join [] (g ∷ gs) hs rs ss us x y = absurd x
each_then shelf First Next Both told join (f ∷ fs) [] hs rs ss us x y = absurd x
each_then shelf First Next Both told join (f ∷ fs) (g ∷ gs) hs [] ss us x y = absurd x
each_then shelf First Next Both told join (f ∷ fs) (g ∷ gs) hs (r ∷ rs) [] us x y = absurd x
each_then shelf First Next Both told join (f ∷ fs) (g ∷ gs) [] (r ∷ rs) (s ∷ ss) us x y = absurd y
each_then shelf First Next Both told join (f ∷ fs) (g ∷ gs) (h ∷ hs) (r ∷ rs) (s ∷ ss) [] x y = absurd y
each_then shelf First Next Both told join (f ∷ fs) (g ∷ gs) (h ∷ hs) (r ∷ rs) (s ∷ ss) (u ∷ us) x y = (
  one_then shelf First Next Both told join f g h r s u x.0 y.0,
  each_then shelf First Next Both told join fs gs hs rs ss us x.1 y.1,
)

-- told in other words
pub one_as : {X : Type 0} (shelf : X → ShelfState) (D E : X → X → Type 0) → ((a b : X) → D a b → E a b) → (f g : Bool)
    (a b : X) → OnSeen shelf D f g a b → OnSeen shelf E f g a b
one_as shelf D E so true true a b x = x
one_as shelf D E so true false a b x = absurd x
one_as shelf D E so false true a b x = x
one_as shelf D E so false false a b x = (so a b x.0, x.1)

pub each_as : {X : Type 0} (shelf : X → ShelfState) (D E : X → X → Type 0) → ((a b : X) → D a b → E a b)
    → (fs gs : List Bool) (rs ss : List X) → OnEachSeen shelf D fs gs rs ss → OnEachSeen shelf E fs gs rs ss
each_as shelf D E so [] [] rs ss x = x
each_as shelf D E so [] (g ∷ gs) rs ss x = absurd x
each_as shelf D E so (f ∷ fs) [] rs ss x = absurd x
each_as shelf D E so (f ∷ fs) (g ∷ gs) [] ss x = absurd x
each_as shelf D E so (f ∷ fs) (g ∷ gs) (r ∷ rs) [] x = absurd x
each_as shelf D E so (f ∷ fs) (g ∷ gs) (r ∷ rs) (s ∷ ss) x = (
  one_as shelf D E so f g r s x.0,
  each_as shelf D E so fs gs rs ss x.1,
)

-- and of what is seen of each alone
one_seen : {X : Type 0} (shelf : X → ShelfState) (D : ShelfState → ShelfState → Type 0) (f g : Bool) (a b : X)
    → OnSeen shelf (λ a b. D (shelf a) (shelf b)) f g a b → OnShelf D f g (shelf a) (shelf b)
one_seen shelf D true true a b x = ap shelf x
one_seen shelf D true false a b x = absurd x
one_seen shelf D false true a b x = x
one_seen shelf D false false a b x = x

pub each_seen : {X : Type 0} (shelf : X → ShelfState) (D : ShelfState → ShelfState → Type 0) (fs gs : List Bool)
    (rs ss : List X) → OnEachSeen shelf (λ a b. D (shelf a) (shelf b)) fs gs rs ss
    → OnEach D fs gs (map shelf rs) (map shelf ss)
each_seen shelf D [] [] rs ss x = ap (map shelf) x
each_seen shelf D [] (g ∷ gs) rs ss x = absurd x
each_seen shelf D (f ∷ fs) [] rs ss x = absurd x
each_seen shelf D (f ∷ fs) (g ∷ gs) [] ss x = absurd x
each_seen shelf D (f ∷ fs) (g ∷ gs) (r ∷ rs) [] x = absurd x
each_seen shelf D (f ∷ fs) (g ∷ gs) (r ∷ rs) (s ∷ ss) x = (
  one_seen shelf D f g r s x.0,
  each_seen shelf D fs gs rs ss x.1,
)

-- ---- nothing was read, for want of memory

pub none_read : {A : Type 0} (Among : List ℕ → Type 0) (want : Tree → Result A StoreFault) (s : Seen)
    → reads cause_of Among (λ files. true) want s (Err Memory) s
unfolding reads
none_read Among want s = record {
  same = record { files = refl; runs = refl };
  answer = any s.files;
  cause = tt;
  named = tt;
  allows = may_begin (option_map (λ files. true) s.files) s.misused;
  counts = files_rest.memory s;
}
  where
    any : (o : Option Tree) → IfSome o (λ files. IsAnswer cause_of (Err Memory) (want files))
    any None = tt
    any (Some files) = tt
