-- One shelf of a list is read.
use Rattle.std.proofs.Common.{◌≡◌, ℕ, zero, suc, ◌<◌, List, [], ◌∷◌, ◌++◌, map, length, take, drop, get_or, set, refl}
use Rattle.std.proofs.Common.{sym}
use Rattle.std.proofs.Common.{ap, subst, ◌∙◌, arith, drop-cons, Bool, true, false, Option, Some, None, Result, Ok, Err}
use Rattle.std.specs.Prelude.{IfOk, IfSome, OnOk, is_some}
use Rattle.std.specs.FinMap.{get}
use Rattle.std.specs.List.{slice_get}
use Rattle.std.specs.Option.{option_map}
use Rattle.std.proofs.lemmas.List.{map-append, take-append-drop, length-take-le, length-map}
use Rattle.std.proofs.lemmas.Option.{slice_get_within}
use Rattle.std.proofs.Math.Seq.{set-append_seam, take-append_seam}
use Rattle.cnb_world.specs.Calls.{CountsShelf}
use Rattle.cnb_world.specs.Shelf.{Held}
use Rattle.cnb_world.specs.declared.shelf.ShelfFault.{ShelfFault}
use Rattle.cnb_world.specs.declared.shelf.ShelfFault.TheVariants as shelf
use Rattle.tree_store.specs.Origin.{LeavesShelf, ReadsHeld, ReadsShelf, faults_of, held_of, held_under}
use Rattle.tree_store.specs.Origin.{of_shelf}
use Rattle.tree_store.specs.Origin.{rows_of}
use Rattle.tree_store.specs.ShelfState.{Counted, Replaces, ShelfState}
use Rattle.tree_store.specs.declared.fault.StoreFault.{StoreFault}
use Rattle.tree_store.specs.declared.fault.StoreFault.TheVariants.{Memory}

-- ---- an item of a list is replaced

pub split_at : {X : Type 0} (xs : List X) (i : ℕ) (x : X) → i < length xs → x ≡ get_or xs i x
    → xs ≡ take i xs ++ x ∷ drop (suc i) xs
split_at xs i x lt is = sym (take-append-drop i xs) ∙ ap (λ r. take i xs ++ r)
    (drop-cons xs i x lt ∙ ap (λ y. y ∷ drop (suc i) xs) (sym is))

pub set_split : {X : Type 0} (xs : List X) (i : ℕ) (x y : X) → i < length xs → x ≡ get_or xs i x
    → set xs i y ≡ take i xs ++ y ∷ drop (suc i) xs
set_split xs i x y lt is =
    let len : length (take i xs) ≡ i = length-take-le i xs (omega arith) in
    ap (λ l. set l i y) (split_at xs i x lt is) ∙ ap (λ k. set (take i xs ++ x ∷ drop (suc i) xs) k y) (sym len)
    ∙ set-append_seam (take i xs) x (drop (suc i) xs) y

pub replaced : {X Y : Type 0} (f : X → Y) (xs : List X) (i : ℕ) (x y : X) → i < length xs → x ≡ get_or xs i x
    → Replaces (map f xs) i (f x) (f y) (map f (set xs i y))
replaced f xs i x y lt is = record {
  front = map f (take i xs);
  back = map f (drop (suc i) xs);
  entry = ap (map f) (split_at xs i x lt is) ∙ map-append f (take i xs) (x ∷ drop (suc i) xs);
  place = sym (length-map (take i xs) f ∙ length-take-le i xs (omega arith));
  exit = ap (map f) (set_split xs i x y lt is) ∙ map-append f (take i xs) (y ∷ drop (suc i) xs);
}

at_seam : {X : Type 0} (front : List X) (x : X) (back : List X) → slice_get (front ++ x ∷ back) (length front) ≡ Some x
at_seam [] x back = refl
at_seam (y ∷ front) x back = at_seam front x back

behind_seam : {X : Type 0} (front : List X) (x : X) (back : List X)
    → drop (suc (length front)) (front ++ x ∷ back) ≡ back
behind_seam [] x back = refl
behind_seam (y ∷ front) x back = behind_seam front x back

cut_at : {X : Type 0} (xs : List X) (i : ℕ) (x : X) → slice_get xs i ≡ Some x → xs ≡ take i xs ++ x ∷ drop (suc i) xs
cut_at [] i x is = absurd (cc)
cut_at (y ∷ ys) zero x is = let same : y ≡ x = cc in ap (λ z. z ∷ ys) same
cut_at (y ∷ ys) (suc i) x is = ap (λ l. y ∷ l) (cut_at ys i x is)

-- what is at the place, and what is beside it
pub entry_at : {X : Type 0} (old : List X) (at : ℕ) (before after : X) (new : List X) → Replaces old at before after new
    → slice_get old at ≡ Some before
entry_at old at before after new r = ap (λ l. slice_get l at) r.entry
    ∙ ap (slice_get (r.front ++ before ∷ r.back)) r.place ∙ at_seam r.front before r.back

exit_at : {X : Type 0} (old : List X) (at : ℕ) (before after : X) (new : List X) → Replaces old at before after new
    → slice_get new at ≡ Some after
exit_at old at before after new r = ap (λ l. slice_get l at) r.exit
    ∙ ap (slice_get (r.front ++ after ∷ r.back)) r.place ∙ at_seam r.front after r.back

front_is : {X : Type 0} (all front : List X) (x : X) (back : List X) (at : ℕ) → all ≡ front ++ x ∷ back
    → at ≡ length front → take at all ≡ front
front_is all front x back at is place = ap (take at) is ∙ ap (λ n. take n (front ++ x ∷ back)) place
    ∙ take-append_seam front (x ∷ back)

back_is : {X : Type 0} (all front : List X) (x : X) (back : List X) (at : ℕ) → all ≡ front ++ x ∷ back
    → at ≡ length front → drop (suc at) all ≡ back
back_is all front x back at is place = ap (drop (suc at)) is ∙ ap (λ n. drop (suc n) (front ++ x ∷ back)) place
    ∙ behind_seam front x back

others_at : {X : Type 0} (old : List X) (at : ℕ) (before after : X) (new : List X) → Replaces old at before after new
    → ◌≡◌ {A = List X × List X} (take at new, drop (suc at) new) (take at old, drop (suc at) old)
others_at {X} old at before after new r =
    ap {B = List X × List X} (λ f. (f, drop (suc at) new)) (front_is new r.front after r.back at r.exit r.place
    ∙ sym (front_is old r.front before r.back at r.entry r.place))
    ∙ ap {B = List X × List X} (λ b. (take at old, b)) (back_is new r.front after r.back at r.exit r.place
    ∙ sym (back_is old r.front before r.back at r.entry r.place))

pub replaced_at : {X : Type 0} (old new : List X) (at number : ℕ) (before after : X) → slice_get old at ≡ Some before
    → slice_get new number ≡ Some after
    → ◌≡◌ {A = List X × List X} (take number new, drop (suc number) new) (take at old, drop (suc at) old)
    → Replaces old at before after new
replaced_at {X} old new at number before after entry exit others = record {
  front = take at old;
  back = drop (suc at) old;
  entry = cut_at old at before entry;
  place = sym (length-take-le at old (let lt : at < length old = slice_get_within old at before entry
      in omega (arith, lt)));
  exit = cut_at new number after exit ∙ ap (λ (p : List X × List X). p.0 ++ after ∷ p.1) others;
}

pub some_at : {X : Type 0} (xs : List X) (at : ℕ) → at < length xs → (x : X) × (slice_get xs at ≡ Some x)
some_at [] at lt = absurd (omega (arith, lt))
some_at (x ∷ xs) zero lt = (x, refl)
some_at (x ∷ xs) (suc at) lt = some_at xs at (omega (arith, lt))

pub some_of : {X : Type 0} (o : Option X) → is_some o ≡ true → (x : X) × (o ≡ Some x)
some_of None some = absurd (cc)
some_of (Some x) some = (x, refl)

-- ---- a piece

-- a shelf was asked
shelf_asked : (old new : List ShelfState) (number : ℕ) (failed was : Bool) (before after : ShelfState)
    (r : Result (List ℕ) StoreFault) → Replaces old number before after new → after.held ≡ before.held
    → after.rows ≡ before.rows → OnOk r (failed ≡ was)
    → (was ≡ false → Counted failed before.faults after.faults)
    → LeavesShelf (of_shelf old number was) r (of_shelf new number failed)
shelf_asked old new number failed was before after r re held rows calm faults = record {
  others = others_at old number before after new re;
  stands = ap is_some there ∙ sym (ap is_some here);
  held = ap held_of there ∙ held ∙ sym (ap held_of here);
  rows = ap rows_of there ∙ rows ∙ sym (ap rows_of here);
  calm = calm;
  faults = λ none. subst (λ n. Counted failed n (faults_of (slice_get new number))) (sym (ap faults_of here))
      (subst (Counted failed before.faults) (sym (ap faults_of there)) (faults none));
}
  where
    here : slice_get old number ≡ Some before
    here = entry_at old number before after new re

    there : slice_get new number ≡ Some after
    there = exit_at old number before after new re

piece_told : (held : Option Held) (digest : List ℕ) (at : ℕ) (found : Option (List ℕ)) (bytes : List ℕ)
    → IfSome held (λ h. found ≡ option_map (λ bytes. take 65536 (drop at bytes)) (get h digest))
    → held_under held digest ≡ Some bytes → found ≡ Some (take 65536 (drop at bytes))
piece_told None digest at found bytes told is = absurd (cc)
piece_told (Some h) digest at found bytes told is = told ∙ ap (option_map (λ bytes. take 65536 (drop at bytes))) is

still : (failed was : Bool) (a b : ℕ) → failed ≡ was → b ≡ a → was ≡ false → Counted failed a b
still failed was a b same kept none = subst (λ v. Counted v a b) (sym (same ∙ none)) kept

-- it gave a piece, or has nothing under the digest
pub held_given : (old new : List ShelfState) (number : ℕ) (was : Bool) (digest : List ℕ) (at : ℕ)
    (before after : ShelfState) (answer : Result (Option (List ℕ)) ShelfFault) (found : Option (List ℕ))
    (piece : List ℕ) → Replaces old number before after new → ReadsShelf digest at answer before after
    → answer ≡ Ok found → ((bytes : List ℕ) → found ≡ Some bytes → piece ≡ bytes)
    → ReadsHeld (of_shelf old number was) digest at (Ok piece) (of_shelf new number was)
held_given old new number was digest at before after answer found piece re reads is same = record {
  path = refl;
  shelf = shelf_asked old new number was was before after (Ok piece) re reads.held reads.rows refl
      (λ none. still was was before.faults after.faults refl (kept answer is reads.faults) none);
  told = λ bytes has. same (take 65536 (drop at bytes)) (piece_told before.held digest at found bytes
      (told before.held reads.told)
      (ap (λ h. held_under (held_of h) digest) (sym (entry_at old number before after new re)) ∙ has));
  memory = tt;
}
  where
    kept : (r : Result (Option (List ℕ)) ShelfFault) → r ≡ Ok found → CountsShelf r before.faults after.faults
        → after.faults ≡ before.faults
    kept (Ok v) e h = h
    kept (Err fault) e h = absurd (cc)

    told : (held : Option Held) → IfSome held (λ h. IfOk answer (λ found. found
        ≡ option_map (λ bytes. take 65536 (drop at bytes)) (get h digest)))
        → IfSome held (λ h. found ≡ option_map (λ bytes. take 65536 (drop at bytes)) (get h digest))
    told None h = tt
    told (Some held) h = subst (λ r. IfOk r (λ found. found
        ≡ option_map (λ bytes. take 65536 (drop at bytes)) (get held digest))) is h

-- it failed
pub held_failed : (old new : List ShelfState) (number : ℕ) (was : Bool) (digest : List ℕ) (at : ℕ)
    (before after : ShelfState) (answer : Result (Option (List ℕ)) ShelfFault) → Replaces old number before after new
    → ReadsShelf digest at answer before after → answer ≡ Err shelf.Failed
    → ReadsHeld (of_shelf old number was) digest at (Err Memory) (of_shelf new number true)
held_failed old new number was digest at before after answer re reads is = record {
  path = refl;
  shelf = shelf_asked old new number true was before after (Err Memory) re reads.held reads.rows tt
      (λ none. subst (λ (r : Result (Option (List ℕ)) ShelfFault). CountsShelf r before.faults after.faults) is
      reads.faults);
  told = λ bytes has. tt;
  memory = refl;
}

-- memory ran out
pub held_short : (old new : List ShelfState) (number : ℕ) (was : Bool) (digest : List ℕ) (at : ℕ)
    (before after : ShelfState) (answer : Result (Option (List ℕ)) ShelfFault) → Replaces old number before after new
    → ReadsShelf digest at answer before after → answer ≡ Err shelf.Memory
    → ReadsHeld (of_shelf old number was) digest at (Err Memory) (of_shelf new number was)
held_short old new number was digest at before after answer re reads is = record {
  path = refl;
  shelf = shelf_asked old new number was was before after (Err Memory) re reads.held reads.rows tt
      (λ none. still was was before.faults after.faults refl (subst (λ (r : Result (Option (List ℕ)) ShelfFault).
      CountsShelf r before.faults after.faults) is reads.faults) none);
  told = λ bytes has. tt;
  memory = refl;
}
