-- Shelves that are settled when all were asked.
use Rattle.std.proofs.Common.{◌≡◌, ℕ, zero, suc, ◌+◌, ◌<◌, ◌≤◌, Bool, true, false, List, [], ◌∷◌, ◌++◌, map, length}
use Rattle.std.proofs.Common.{take, drop, get_or, refl, sym, ap, subst, ◌∙◌, arith, append_assoc, append-nil, drop-cons}
use Rattle.std.specs.List.{AllByRecursion}
use Rattle.std.proofs.Math.Seq.{take-suc, take-append_seam, drop-append_seam}
use Rattle.std.proofs.lemmas.List.{length-append, length-take-le, take_all, drop_all}
use Rattle.shelf_set.specs.ShelfState.{ShelfState}
use Rattle.shelf_set.specs.Dropping.{Turn, number_of, before_of, after_of, failed_of, left_of, Counted, IsCounted}
use Rattle.shelf_set.specs.Dropping.{Drops}
use Rattle.shelf_set.specs.Turns.{DropsFailed, MovesLast, Settles, Settling, SettlesEach, staying, failing}
use Rattle.shelf_set.specs.StoringEach.{EachBy}
use Rattle.shelf_set.proofs.Lists.{moved}

-- ---- one list

there : {X : Type 0} (xs : List X) (k : ℕ) → k < length xs → (x : X) × (x ≡ get_or xs k x)
there [] k lt = absurd (omega (arith, lt))
there (x ∷ xs) zero lt = (x, refl)
there (x ∷ xs) (suc k) lt = there xs k (omega (arith, lt))

staying_more : {X : Type 0} (failed : List Bool) (fails : Bool) (xs : List X) (x : X) → length failed < length xs
    → x ≡ get_or xs (length failed) x
    → staying (failed ++ fails ∷ []) xs ≡ staying failed xs ++ staying (fails ∷ []) (x ∷ [])
staying_more [] fails [] x lt is = absurd (omega (arith, lt))
staying_more [] true (y ∷ xs) x lt is = refl
staying_more [] false (y ∷ xs) x lt is = ap (λ z. z ∷ []) (sym is)
staying_more (f ∷ failed) fails [] x lt is = absurd (omega (arith, lt))
staying_more (true ∷ failed) fails (y ∷ xs) x lt is = staying_more failed fails xs x (omega (arith, lt)) is
staying_more (false ∷ failed) fails (y ∷ xs) x lt is = ap (λ l. y ∷ l)
    (staying_more failed fails xs x (omega (arith, lt)) is)

failing_more : {X : Type 0} (failed : List Bool) (fails : Bool) (xs : List X) (x : X) → length failed < length xs
    → x ≡ get_or xs (length failed) x
    → failing (failed ++ fails ∷ []) xs ≡ failing failed xs ++ failing (fails ∷ []) (x ∷ [])
failing_more [] fails [] x lt is = absurd (omega (arith, lt))
failing_more [] true (y ∷ xs) x lt is = ap (λ z. z ∷ []) (sym is)
failing_more [] false (y ∷ xs) x lt is = refl
failing_more (f ∷ failed) fails [] x lt is = absurd (omega (arith, lt))
failing_more (true ∷ failed) fails (y ∷ xs) x lt is = ap (λ l. y ∷ l)
    (failing_more failed fails xs x (omega (arith, lt)) is)
failing_more (false ∷ failed) fails (y ∷ xs) x lt is = failing_more failed fails xs x (omega (arith, lt)) is

-- as many stay of one list as of another
same_count : {X Y : Type 0} (failed : List Bool) (xs : List X) (ys : List Y) → length failed ≤ length xs
    → length failed ≤ length ys → length (staying failed xs) ≡ length (staying failed ys)
same_count [] xs ys a b = refl
same_count (f ∷ failed) [] ys a b = absurd (omega (arith, a))
same_count (f ∷ failed) (x ∷ xs) [] a b = absurd (omega (arith, b))
same_count (true ∷ failed) (x ∷ xs) (y ∷ ys) a b = same_count failed xs ys (omega (arith, a)) (omega (arith, b))
same_count (false ∷ failed) (x ∷ xs) (y ∷ ys) a b = ap (λ n. suc n)
    (same_count failed xs ys (omega (arith, a)) (omega (arith, b)))

module _ {X : Type 0} (failed : List Bool) (k : ℕ) (xs now : List X) (size : length failed ≡ k) (lt : k < length xs)
    (is : now ≡ staying failed xs ++ (drop k xs ++ failing failed xs))
  where
    open_at : (x : X) → x ≡ get_or xs k x → now ≡ staying failed xs ++ x ∷ (drop (suc k) xs ++ failing failed xs)
    open_at x here = is ∙ ap (λ r. staying failed xs ++ (r ++ failing failed xs))
        (drop-cons xs k x lt ∙ ap (λ y. y ∷ drop (suc k) xs) (sym here))

    pub place_within : length (staying failed xs) < length now
    place_within =
        let (x, here) = there xs k lt in
        let whole = ap length (open_at x here) ∙ length-append (staying failed xs) _ in
        omega (arith, whole)

    pub one_kept : (new : List X) → new ≡ now
        → new ≡ staying (failed ++ false ∷ []) xs ++ (drop (suc k) xs ++ failing (failed ++ false ∷ []) xs)
    one_kept new same =
        let (x, here) = there xs k lt in
        let here' : x ≡ get_or xs (length failed) x = here ∙ ap (λ n. get_or xs n x) (sym size) in
        let lt' : length failed < length xs = omega (arith, lt, size) in
        same ∙ open_at x here ∙ sym (ap (λ f. staying (failed ++ false ∷ []) xs ++ (drop (suc k) xs ++ f))
        (failing_more failed false xs x lt' here' ∙ append-nil (failing failed xs))
        ∙ ap (λ s. s ++ (drop (suc k) xs ++ failing failed xs)) (staying_more failed false xs x lt' here')
        ∙ append_assoc (staying failed xs) (x ∷ []) (drop (suc k) xs ++ failing failed xs))

    pub one_moved : (at : ℕ) (new : List X) → at ≡ length (staying failed xs) → MovesLast now at new
        → new ≡ staying (failed ++ true ∷ []) xs ++ (drop (suc k) xs ++ failing (failed ++ true ∷ []) xs)
    one_moved at new place moves =
        let (x, here) = there xs k lt in
        let here' : x ≡ get_or xs (length failed) x = here ∙ ap (λ n. get_or xs n x) (sym size) in
        let lt' : length failed < length xs = omega (arith, lt, size) in
        moved now at new (staying failed xs) x (drop (suc k) xs ++ failing failed xs) moves (open_at x here) place
        ∙ sym (ap (λ f. staying (failed ++ true ∷ []) xs ++ (drop (suc k) xs ++ f))
        (failing_more failed true xs x lt' here')
        ∙ ap (λ s. s ++ (drop (suc k) xs ++ (failing failed xs ++ x ∷ [])))
        (staying_more failed true xs x lt' here' ∙ append-nil (staying failed xs))
        ∙ ap (λ r. staying failed xs ++ r) (sym (append_assoc (drop (suc k) xs) (failing failed xs) (x ∷ []))))

    pub count_kept : (at next : ℕ) → at ≡ length (staying failed xs) → next ≡ at + 1
        → next ≡ length (staying (failed ++ false ∷ []) xs)
    count_kept at next place more =
        let (x, here) = there xs k lt in
        let here' : x ≡ get_or xs (length failed) x = here ∙ ap (λ n. get_or xs n x) (sym size) in
        let lt' : length failed < length xs = omega (arith, lt, size) in
        let whole = ap length (staying_more failed false xs x lt' here') ∙ length-append (staying failed xs) (x ∷ []) in
        omega (arith, place, more, whole)

    pub count_dropped : (at next : ℕ) → at ≡ length (staying failed xs) → next ≡ at
        → next ≡ length (staying (failed ++ true ∷ []) xs)
    count_dropped at next place same =
        let (x, here) = there xs k lt in
        let here' : x ≡ get_or xs (length failed) x = here ∙ ap (λ n. get_or xs n x) (sym size) in
        let lt' : length failed < length xs = omega (arith, lt, size) in
        same ∙ place ∙ sym (ap length (staying_more failed true xs x lt' here' ∙ append-nil (staying failed xs)))

-- ---- the shelves and their numbers

pub settling_none : (failed : List Bool) (old : List ShelfState) (places : List ℕ)
    → Settling failed 0 old old places places 0
settling_none failed old places = record {
  listed = sym (append-nil old);
  numbered = sym (append-nil places);
  place = refl;
}

module _ (failed : List Bool) (k : ℕ) (old now : List ShelfState) (places numbers : List ℕ) (at : ℕ)
    (lt : k < length failed) (paired : length failed ≡ length places) (standing : length places ≤ length old)
    (was : Settling failed k old now places numbers at)
  where
    size : length (take k failed) ≡ k
    size = length-take-le k failed (omega (arith, lt))

    in_old : k < length old
    in_old = omega (arith, lt, paired, standing)

    in_places : k < length places
    in_places = omega (arith, lt, paired)

    at_old : at ≡ length (staying (take k failed) old)
    at_old = was.place ∙ same_count (take k failed) places old (omega (arith, size, in_places))
        (omega (arith, size, in_old))

    pub within_shelves : at < length now
    within_shelves =
        let w = place_within (take k failed) k old now size in_old was.listed in
        omega (arith, w, at_old)

    pub within_numbers : at < length numbers
    within_numbers =
        let w = place_within (take k failed) k places numbers size in_places was.numbered in
        let e = was.place in
        omega (arith, w, e)

    by : (fails : Bool) (new : List ShelfState) (later : List ℕ) (next : ℕ)
        → Settles fails now numbers at new later next
        → (more : List Bool) → more ≡ take k failed ++ fails ∷ [] → take (suc k) failed ≡ more
        → Settling failed (suc k) old new places later next
    by false new later next (same, kept, place) more is whole =
        let to : take (suc k) failed ≡ take k failed ++ false ∷ [] = whole ∙ is in
        record {
          listed = one_kept (take k failed) k old now size in_old was.listed new same
              ∙ ap (λ f. staying f old ++ (drop (suc k) old ++ failing f old)) (sym to);
          numbered = one_kept (take k failed) k places numbers size in_places was.numbered later kept
              ∙ ap (λ f. staying f places ++ (drop (suc k) places ++ failing f places)) (sym to);
          place = count_kept (take k failed) k places numbers size in_places was.numbered at next was.place place
              ∙ ap (λ f. length (staying f places)) (sym to);
        }
    by true new later next (moves, renumbers, place) more is whole =
        let to : take (suc k) failed ≡ take k failed ++ true ∷ [] = whole ∙ is in
        record {
          listed = one_moved (take k failed) k old now size in_old was.listed at new at_old moves
              ∙ ap (λ f. staying f old ++ (drop (suc k) old ++ failing f old)) (sym to);
          numbered = one_moved (take k failed) k places numbers size in_places was.numbered at later was.place renumbers
              ∙ ap (λ f. staying f places ++ (drop (suc k) places ++ failing f places)) (sym to);
          place = count_dropped (take k failed) k places numbers size in_places was.numbered at next was.place place
              ∙ ap (λ f. length (staying f places)) (sym to);
        }

    -- one more
    pub settling_more : (fails : Bool) (new : List ShelfState) (later : List ℕ) (next : ℕ)
        → fails ≡ get_or failed k false → Settles fails now numbers at new later next
        → Settling failed (k + 1) old new places later next
    settling_more fails new later next is settles =
        let more : suc k ≡ k + 1 = omega arith in
        subst (λ n. Settling failed n old new places later next) more
        (by fails new later next settles (take k failed ++ fails ∷ []) refl
        (take-suc failed k false lt ∙ ap (λ f. take k failed ++ f ∷ []) (sym is)))

-- all
pub settling_all : (failed : List Bool) (k : ℕ) (old now : List ShelfState) (places numbers : List ℕ) (at : ℕ)
    → k ≡ length failed → length failed ≡ length places → Settling failed k old now places numbers at
    → SettlesEach failed old places now numbers at
settling_all failed k old now places numbers at all paired was =
    let whole : take k failed ≡ failed = take_all k failed (omega (arith, all)) in
    record {
      listed = was.listed ∙ ap (λ f. staying f old ++ (drop k old ++ failing f old)) whole
          ∙ ap (λ n. staying failed old ++ (drop n old ++ failing failed old)) all;
      numbered = was.numbered ∙ ap (λ f. staying f places ++ (drop k places ++ failing f places)) whole
          ∙ ap (λ r. staying failed places ++ (r ++ failing failed places))
          (drop_all k places (omega (arith, all, paired)));
      stands = was.place ∙ ap (λ f. length (staying f places)) whole;
    }

split_count : {X : Type 0} (failed : List Bool) (xs : List X) → length failed ≡ length xs
    → length (staying failed xs) + length (failing failed xs) ≡ length xs
split_count [] [] size = refl
split_count [] (x ∷ xs) size = absurd (omega (arith, size))
split_count (f ∷ failed) [] size = absurd (omega (arith, size))
split_count (true ∷ failed) (x ∷ xs) size =
    let rest = split_count failed xs (omega (arith, size)) in
    omega (arith, rest)
split_count (false ∷ failed) (x ∷ xs) size =
    let rest = split_count failed xs (omega (arith, size)) in
    omega (arith, rest)

module _ (failed : List Bool) (old : List ShelfState) (places first : List ℕ) (new : List ShelfState)
    (numbers : List ℕ) (at : ℕ) (taken : first ≡ places) (s : SettlesEach failed old first new numbers at)
  where
    -- as many numbers as before
    pub settled_many : length failed ≡ length places → length places ≡ length numbers
    settled_many size =
        let whole = ap length s.numbered ∙ length-append (staying failed first) (failing failed first) in
        let as_many = ap length taken in
        let parts = split_count failed first (omega (arith, size, as_many)) in
        omega (arith, whole, parts, as_many)

    -- the numbers are parted
    pub parted : (standing gone : List ℕ) → standing ≡ take at numbers → gone ≡ drop at numbers
        → DropsFailed failed old places new standing gone
    parted standing gone stands goes = subst (λ l. DropsFailed failed old l new standing gone) taken (record {
      listed = s.listed;
      left = stands ∙ ap (take at) s.numbered ∙ ap (λ n. take n (N ++ G)) s.stands ∙ take-append_seam N G;
      dropped = goes ∙ ap (drop at) s.numbered ∙ ap (λ n. drop n (N ++ G)) s.stands ∙ drop-append_seam N G;
    })
      where
        N : List ℕ
        N = staying failed first

        G : List ℕ
        G = failing failed first

-- ---- the turns

abbrev pub turns_of : List Bool → List ℕ → List ShelfState → List ShelfState → List Turn
turns_of [] places old new = []
turns_of (fails ∷ failed) [] old new = []
turns_of (fails ∷ failed) (n ∷ places) [] new = []
turns_of (fails ∷ failed) (n ∷ places) (s ∷ old) [] = []
turns_of (fails ∷ failed) (n ∷ places) (s ∷ old) (t ∷ new) = record
    { number = n; before = s; after = t; failed = fails } ∷ turns_of failed places old new

pub all_turns : (Has : Bool → ShelfState → ShelfState → Type 0) (Is : Turn → Type 0)
    → ((number : ℕ) (fails : Bool) (before after : ShelfState) → Has fails before after
    → Is (record { number = number; before = before; after = after; failed = fails }))
    → (failed : List Bool) (places : List ℕ) (old new : List ShelfState) → EachBy Has failed old new
    → AllByRecursion Is (turns_of failed places old new)
all_turns Has Is follows [] places old new each = tt
all_turns Has Is follows (f ∷ failed) [] old new each = tt
all_turns Has Is follows (f ∷ failed) (n ∷ places) [] new each = tt
all_turns Has Is follows (f ∷ failed) (n ∷ places) (s ∷ old) [] each = tt
all_turns Has Is follows (f ∷ failed) (n ∷ places) (s ∷ old) (t ∷ new) each = (
  follows n f s t each.0,
  all_turns Has Is follows failed places old new each.1,
)

record TurnsAre (failed : List Bool) (places : List ℕ) (old new : List ShelfState) (turns : List Turn) : Type 0 where
  pub entry : old ≡ map before_of turns ++ drop (length failed) new
  pub left : map after_of (left_of turns) ≡ staying failed new
  pub dropped : map after_of (failed_of turns) ≡ failing failed new
  pub numbers : places ≡ map number_of turns
  pub stand : map number_of (left_of turns) ≡ staying failed places
  pub gone : map number_of (failed_of turns) ≡ failing failed places

turns_are : (Has : Bool → ShelfState → ShelfState → Type 0) (failed : List Bool) (places : List ℕ)
    (old new : List ShelfState) → EachBy Has failed old new → length failed ≡ length places
    → TurnsAre failed places old new (turns_of failed places old new)
turns_are Has [] [] old new each size = record {
  entry = sym each;
  left = refl;
  dropped = refl;
  numbers = refl;
  stand = refl;
  gone = refl;
}
turns_are Has [] (n ∷ places) old new each size = absurd (omega (arith, size))
turns_are Has (f ∷ failed) [] old new each size = absurd (omega (arith, size))
turns_are Has (f ∷ failed) (n ∷ places) [] new each size = absurd each
turns_are Has (f ∷ failed) (n ∷ places) (s ∷ old) [] each size = absurd each
turns_are Has (true ∷ failed) (n ∷ places) (s ∷ old) (t ∷ new) each size =
    let r = turns_are Has failed places old new each.1 (omega (arith, size)) in
    record {
      entry = ap (λ l. s ∷ l) r.entry;
      left = r.left;
      dropped = ap (λ l. t ∷ l) r.dropped;
      numbers = ap (λ l. n ∷ l) r.numbers;
      stand = r.stand;
      gone = ap (λ l. n ∷ l) r.gone;
    }
turns_are Has (false ∷ failed) (n ∷ places) (s ∷ old) (t ∷ new) each size =
    let r = turns_are Has failed places old new each.1 (omega (arith, size)) in
    record {
      entry = ap (λ l. s ∷ l) r.entry;
      left = ap (λ l. t ∷ l) r.left;
      dropped = r.dropped;
      numbers = ap (λ l. n ∷ l) r.numbers;
      stand = ap (λ l. n ∷ l) r.stand;
      gone = r.gone;
    }

pub settled_drops : (Has : Bool → ShelfState → ShelfState → Type 0)
    → ((fails : Bool) (before after : ShelfState) → Has fails before after
    → Counted fails before.faults after.faults)
    → (failed : List Bool) (places : List ℕ) (old mid new : List ShelfState) (standing gone : List ℕ)
    → EachBy Has failed old mid → length failed ≡ length places → DropsFailed failed mid places new standing gone
    → Drops (turns_of failed places old mid) old new places standing gone
settled_drops Has counts failed places old mid new standing gone each size s =
    let turns : List Turn = turns_of failed places old mid in
    let r = turns_are Has failed places old mid each size in
    record {
      counted = all_turns Has IsCounted (λ n f b a h. counts f b a h) failed places old mid each;
      earlier = drop (length failed) mid;
      entry = r.entry;
      exit = s.listed ∙ sym (ap (λ l. l ++ (drop (length failed) mid ++ map after_of (failed_of turns))) r.left
          ∙ ap (λ l. staying failed mid ++ (drop (length failed) mid ++ l)) r.dropped);
      numbers = r.numbers;
      left = s.left ∙ sym r.stand;
      dropped = s.dropped ∙ sym r.gone;
    }
