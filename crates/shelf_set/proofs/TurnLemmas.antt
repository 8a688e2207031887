-- Shelves that have their turns one after another, of all calls of this crate.
use Rattle.std.proofs.Common.{◌≡◌, ℕ, ◌+◌, ◌<◌, ◌≤◌, Bool, true, false, cond, not, List, [], ◌∷◌, ◌++◌, map, length}
use Rattle.std.proofs.Common.{take, drop, refl, sym, ap, subst, ◌∙◌, arith, append_assoc, Result, Ok, Err, append-nil}
use Rattle.std.specs.List.{AllByRecursion}
use Rattle.std.proofs.Math.Seq.{take-append_seam, drop-append_seam}
use Rattle.std.proofs.lemmas.List.{length-append, map-append, length-map, length-take-le, take-append-drop}
use Rattle.std.proofs.lemmas.List.Elements.{filter-append}
use Rattle.cnb_world.specs.Calls.{CountsShelf}
use Rattle.cnb_world.specs.declared.shelf.ShelfFault.{ShelfFault}
use Rattle.cnb_world.specs.declared.shelf.ShelfFault.TheVariants as shelf
use Rattle.shelf_set.specs.ShelfState.{ShelfState}
use Rattle.shelf_set.specs.Dropping.{Turn, has_failed, number_of, before_of, after_of, failed_of, left_of, Counted}
use Rattle.shelf_set.specs.Dropping.{IsCounted, AreStanding, Drops}
use Rattle.shelf_set.specs.Turns.{Replaces, Goes, Settles, TakesTurn, is_failed}
use Rattle.shelf_set.proofs.Lists.{same_split, SameSplit, moved, regroup2, regroup3, map-last, onto, all_both}

-- ---- counts

pub counted : {T : Type 0} (r : Result T ShelfFault) (b a : ℕ) → CountsShelf r b a → Counted (is_failed r) b a
counted (Ok value) b a c = c
counted (Err shelf.Failed) b a c = c
counted (Err shelf.Memory) b a c = c

-- ---- one more turn

pub left-kept : (turns : List Turn) (t : Turn) → has_failed t ≡ false
    → left_of (turns ++ t ∷ []) ≡ left_of turns ++ t ∷ []
left-kept turns t e = filter-append (λ u. not (has_failed u)) turns (t ∷ [])
    ∙ ap (λ v. left_of turns ++ cond (not v) (t ∷ []) []) e

pub failed-kept : (turns : List Turn) (t : Turn) → has_failed t ≡ false → failed_of (turns ++ t ∷ []) ≡ failed_of turns
failed-kept turns t e = filter-append has_failed turns (t ∷ [])
    ∙ ap (λ v. failed_of turns ++ cond v (t ∷ []) []) e ∙ append-nil (failed_of turns)

pub left-dropped : (turns : List Turn) (t : Turn) → has_failed t ≡ true → left_of (turns ++ t ∷ []) ≡ left_of turns
left-dropped turns t e = filter-append (λ u. not (has_failed u)) turns (t ∷ [])
    ∙ ap (λ v. left_of turns ++ cond (not v) (t ∷ []) []) e ∙ append-nil (left_of turns)

pub failed-dropped : (turns : List Turn) (t : Turn) → has_failed t ≡ true
    → failed_of (turns ++ t ∷ []) ≡ failed_of turns ++ t ∷ []
failed-dropped turns t e = filter-append has_failed turns (t ∷ []) ∙ ap (λ v. failed_of turns ++ cond v (t ∷ []) []) e

pub record OneMore (turns : List Turn) (old new : List ShelfState) (places numbers : List ℕ) (at : ℕ)
    (Does : ShelfState → ShelfState → Type 0) (fails : Bool) : Type 0 where
  pub turn : Turn
  pub goes : Goes (turns ++ turn ∷ []) old new places numbers at
  pub does : Does turn.before turn.after
  pub failing : has_failed turn ≡ fails

module _ (turns : List Turn) (old now : List ShelfState) (places numbers : List ℕ) (at : ℕ)
    (Does : ShelfState → ShelfState → Type 0) (fails : Bool) (new : List ShelfState) (later : List ℕ)
    (next : ℕ) where
  pub one_more : length turns < length places → ((before after : ShelfState) → Does before after
      → Counted fails before.faults after.faults)
      → Goes turns old now places numbers at → TakesTurn now numbers at Does fails new later next
      → OneMore turns old new places later next Does fails
  one_more lt counts g k = by g.rest g.later g.paired g.entry g.exit g.first g.now
    where
      by : (rest : List ShelfState) (more : List ℕ) → length rest ≡ length more
          → old ≡ map before_of turns ++ (rest ++ g.earlier) → now ≡ map after_of (left_of turns)
          ++ (rest ++ (g.earlier ++ map after_of (failed_of turns)))
          → places ≡ map number_of turns ++ more → numbers ≡ map number_of (left_of turns)
          ++ (more ++ map number_of (failed_of turns)) → OneMore turns old new places later next Does fails
      by [] [] pair entry exit first here = absurd (let n : length places ≡ length turns = ap length first
          ∙ ap length (append-nil (map number_of turns)) ∙ length-map turns number_of in omega (arith, n, lt))
      by [] (n ∷ ns) pair entry exit first here = absurd (omega (arith, pair))
      by (s ∷ ss) [] pair entry exit first here = absurd (omega (arith, pair))
      by (s ∷ ss) (n ∷ ns) pair entry exit first here =
          let does : Does s k.after = subst (λ b. Does b k.after) split.item k.does in
          record { turn = t; goes = settle fails refl k.settled (counts s k.after does); does = does; failing = refl }
        where
          A : List ShelfState
          A = map after_of (left_of turns)

          F : List ShelfState
          F = map after_of (failed_of turns)

          t : Turn
          t = record { number = n; before = s; after = k.after; failed = fails }

          r : Replaces now at k.before k.after k.between
          r = k.replaced

          split : SameSplit r.front A k.before s r.back (ss ++ (g.earlier ++ F))
          split = same_split r.front A k.before s r.back (ss ++ (g.earlier ++ F)) (sym r.entry ∙ exit)
              (sym r.place ∙ g.place ∙ sym (length-map (left_of turns) after_of))

          whole : k.between ≡ A ++ k.after ∷ (ss ++ (g.earlier ++ F))
          whole = r.exit ∙ ap (λ f. f ++ k.after ∷ r.back) split.front ∙ ap (λ b. A ++ k.after ∷ b) split.back

          settle : (v : Bool) → has_failed t ≡ v → Settles v k.between numbers at new later next → IsCounted t
              → Goes (turns ++ t ∷ []) old new places later next
          settle false e (same, nums, place) counts = record {
            counted = all_both IsCounted turns (t ∷ []) g.counted (counts, tt);
            rest = ss;
            later = ns;
            earlier = g.earlier;
            paired = omega (arith, pair);
            entry = entry ∙ sym (ap (λ m. m ++ (ss ++ g.earlier)) (map-last before_of turns t)
                ∙ onto (map before_of turns) s (ss ++ g.earlier));
            exit = same ∙ whole ∙ sym (ap (λ m. map after_of m
                ++ (ss ++ (g.earlier ++ map after_of (failed_of (turns ++ t ∷ []))))) (left-kept turns t e)
                ∙ ap (λ m. map after_of (left_of turns ++ t ∷ []) ++ (ss ++ (g.earlier ++ map after_of m)))
                (failed-kept turns t e)
                ∙ ap (λ m. m ++ (ss ++ (g.earlier ++ F))) (map-last after_of (left_of turns) t)
                ∙ onto A k.after (ss ++ (g.earlier ++ F)));
            first = first ∙ sym (ap (λ m. m ++ ns) (map-last number_of turns t) ∙ onto (map number_of turns) n ns);
            now = nums ∙ here ∙ sym (ap (λ m. map number_of m
                ++ (ns ++ map number_of (failed_of (turns ++ t ∷ [])))) (left-kept turns t e)
                ∙ ap (λ m. map number_of (left_of turns ++ t ∷ []) ++ (ns ++ map number_of m))
                (failed-kept turns t e)
                ∙ ap (λ m. m ++ (ns ++ map number_of (failed_of turns))) (map-last number_of (left_of turns) t)
                ∙ onto (map number_of (left_of turns)) n (ns ++ map number_of (failed_of turns)));
            place = place ∙ ap (λ k. k + 1) g.place ∙ sym (ap length (left-kept turns t e)
                ∙ length-append (left_of turns) (t ∷ []));
          }
          settle true e (m, mn, place) counts = record {
            counted = all_both IsCounted turns (t ∷ []) g.counted (counts, tt);
            rest = ss;
            later = ns;
            earlier = g.earlier;
            paired = omega (arith, pair);
            entry = entry ∙ sym (ap (λ m. m ++ (ss ++ g.earlier)) (map-last before_of turns t)
                ∙ onto (map before_of turns) s (ss ++ g.earlier));
            exit = moved _ at new A k.after (ss ++ (g.earlier ++ F)) m whole
                (g.place ∙ sym (length-map (left_of turns) after_of))
                ∙ sym (ap (λ m. map after_of m ++ (ss ++ (g.earlier ++ map after_of
                (failed_of (turns ++ t ∷ []))))) (left-dropped turns t e)
                ∙ ap (λ m. A ++ (ss ++ (g.earlier ++ map after_of m))) (failed-dropped turns t e)
                ∙ ap (λ m. A ++ (ss ++ (g.earlier ++ m))) (map-last after_of (failed_of turns) t)
                ∙ regroup3 A ss g.earlier F k.after);
            first = first ∙ sym (ap (λ m. m ++ ns) (map-last number_of turns t) ∙ onto (map number_of turns) n ns);
            now = moved numbers at later (map number_of (left_of turns)) n
                (ns ++ map number_of (failed_of turns)) mn here
                (g.place ∙ sym (length-map (left_of turns) number_of))
                ∙ sym (ap (λ m. map number_of m ++ (ns ++ map number_of (failed_of (turns ++ t ∷ []))))
                (left-dropped turns t e) ∙ ap (λ m. map number_of (left_of turns) ++ (ns ++ map number_of m))
                (failed-dropped turns t e)
                ∙ ap (λ m. map number_of (left_of turns) ++ (ns ++ m)) (map-last number_of (failed_of turns) t)
                ∙ regroup2 (map number_of (left_of turns)) ns (map number_of (failed_of turns)) n);
            place = place ∙ g.place ∙ sym (ap length (left-dropped turns t e));
          }

-- ---- the shelves that are left

abbrev pub still : List ShelfState → List ℕ → List Turn
still [] ns = []
still (s ∷ ss) [] = []
still (s ∷ ss) (n ∷ ns) = record { number = n; before = s; after = s; failed = false } ∷ still ss ns

pub record Stills (ss : List ShelfState) (ns : List ℕ) : Type 0 where
  pub before : map before_of (still ss ns) ≡ ss
  pub after : map after_of (still ss ns) ≡ ss
  pub number : map number_of (still ss ns) ≡ ns
  pub stand : left_of (still ss ns) ≡ still ss ns
  pub none : failed_of (still ss ns) ≡ []

pub stills : (ss : List ShelfState) (ns : List ℕ) → length ss ≡ length ns → Stills ss ns
stills [] [] h = record { before = refl; after = refl; number = refl; stand = refl; none = refl }
stills [] (n ∷ ns) h = absurd (omega (arith, h))
stills (s ∷ ss) [] h = absurd (omega (arith, h))
stills (s ∷ ss) (n ∷ ns) h =
    let r = stills ss ns (omega (arith, h)) in
    let t : Turn = record { number = n; before = s; after = s; failed = false } in
    record {
      before = ap (λ l. s ∷ l) r.before;
      after = ap (λ l. s ∷ l) r.after;
      number = ap (λ l. n ∷ l) r.number;
      stand = ap (λ l. t ∷ l) r.stand;
      none = r.none;
    }

pub all_still : (P : Turn → Type 0) → ((n : ℕ) (s : ShelfState)
    → P (record { number = n; before = s; after = s; failed = false })) → (ss : List ShelfState) (ns : List ℕ)
    → AllByRecursion P (still ss ns)
all_still P p [] ns = tt
all_still P p (s ∷ ss) [] = tt
all_still P p (s ∷ ss) (n ∷ ns) = (p n s, all_still P p ss ns)

-- ---- from begin to end

pub none_yet : (old : List ShelfState) (places : List ℕ) → length places ≤ length old → Goes [] old old places places 0
none_yet old places h = record {
  counted = tt;
  rest = take (length places) old;
  later = places;
  earlier = drop (length places) old;
  paired = length-take-le (length places) old h;
  entry = sym (take-append-drop (length places) old);
  exit = sym (ap (λ e. take (length places) old ++ e) (append-nil (drop (length places) old))
      ∙ take-append-drop (length places) old);
  first = refl;
  now = sym (append-nil places);
  place = refl;
}

-- how many still stand
pub standing_of : (turns : List Turn) (old new : List ShelfState) (places numbers : List ℕ) (at : ℕ)
    → (g : Goes turns old new places numbers at) → length turns + length g.later ≡ length places
standing_of turns old new places numbers at g = sym
    (ap length g.first ∙ length-append (map number_of turns) g.later
    ∙ ap (λ k. k + length g.later) (length-map turns number_of))

pub finish : (turns : List Turn) (old new : List ShelfState) (places numbers : List ℕ) (at standing : ℕ)
    → (g : Goes turns old new places numbers at) → standing ≡ at + length g.later
    → Drops (turns ++ still g.rest g.later) old new places (take standing numbers) (drop standing numbers)
finish turns old new places numbers at standing g stands =
    let r = stills g.rest g.later g.paired in
    let q = still g.rest g.later in
    let st : left_of (turns ++ q) ≡ left_of turns ++ q = filter-append (λ u. not (has_failed u)) turns q
    ∙ ap (λ l. left_of turns ++ l) r.stand in
    let fl : failed_of (turns ++ q) ≡ failed_of turns = filter-append has_failed turns q
    ∙ ap (λ l. failed_of turns ++ l) r.none ∙ append-nil (failed_of turns) in
    let N : List ℕ = map number_of (left_of turns) ++ g.later in
    let G : List ℕ = map number_of (failed_of turns) in
    let split : numbers ≡ N ++ G = g.now ∙ sym (append_assoc (map number_of (left_of turns)) g.later G) in
    let size : standing ≡ length N = stands ∙ ap (λ k. k + length g.later)
    (g.place ∙ sym (length-map (left_of turns) number_of)) ∙ sym
    (length-append (map number_of (left_of turns)) g.later) in
    record {
      counted = all_both IsCounted turns q g.counted (all_still IsCounted (λ n s. refl) g.rest g.later);
      earlier = g.earlier;
      entry = g.entry ∙ sym (append_assoc (map before_of turns) g.rest g.earlier)
          ∙ sym (ap (λ m. m ++ g.earlier) (map-append before_of turns q
          ∙ ap (λ l. map before_of turns ++ l) r.before));
      exit = g.exit ∙ sym (append_assoc (map after_of (left_of turns)) g.rest
          (g.earlier ++ map after_of (failed_of turns)))
          ∙ sym (ap (λ m. map after_of m ++ (g.earlier ++ map after_of (failed_of (turns ++ q)))) st
          ∙ ap (λ m. map after_of (left_of turns ++ q) ++ (g.earlier ++ map after_of m)) fl
          ∙ ap (λ m. m ++ (g.earlier ++ map after_of (failed_of turns)))
          (map-append after_of (left_of turns) q ∙ ap (λ l. map after_of (left_of turns) ++ l) r.after));
      numbers = g.first ∙ sym (map-append number_of turns q ∙ ap (λ l. map number_of turns ++ l) r.number);
      left = ap (take standing) split ∙ ap (λ k. take k (N ++ G)) size ∙ take-append_seam N G
          ∙ sym (ap (map number_of) st ∙ map-append number_of (left_of turns) q
          ∙ ap (λ l. map number_of (left_of turns) ++ l) r.number);
      dropped = ap (drop standing) split ∙ ap (λ k. drop k (N ++ G)) size ∙ drop-append_seam N G
          ∙ sym (ap (map number_of) fl);
    }

-- what those that are left tell
pub left_tell : (turns : List Turn) (ss : List ShelfState) (ns : List ℕ) → length ss ≡ length ns
    → map after_of (left_of (turns ++ still ss ns)) ≡ map after_of (left_of turns) ++ ss
left_tell turns ss ns h =
    let r = stills ss ns h in
    ap (map after_of) (filter-append (λ u. not (has_failed u)) turns (still ss ns)
    ∙ ap (λ l. left_of turns ++ l) r.stand) ∙ map-append after_of (left_of turns) (still ss ns)
    ∙ ap (λ l. map after_of (left_of turns) ++ l) r.after

-- where the numbers end of those that stand
pub record Ends (turns : List Turn) (places numbers later : List ℕ) (at standing : ℕ) : Type 0 where
  pub stands : standing ≡ at + length later
  pub fits : standing ≤ length numbers

pub ends_at : (turns : List Turn) (old new : List ShelfState) (places numbers : List ℕ) (at asked standing : ℕ)
    → (g : Goes turns old new places numbers at) → length turns ≡ asked → standing + asked ≡ at + length places
    → Ends turns places numbers g.later at standing
ends_at turns old new places numbers at asked standing g count total =
    let e = standing_of turns old new places numbers at g in
    let m = ap length g.now ∙ length-append (map number_of (left_of turns))
    (g.later ++ map number_of (failed_of turns)) in
    let n = length-map (left_of turns) number_of in
    let k = length-append g.later (map number_of (failed_of turns)) in
    let place = g.place in
    record { stands = omega (arith, e, count, total); fits = omega (arith, e, count, total, m, n, k, place) }

-- ---- the next call

-- a call leaves the shelves as the next one asks for
pub standing_again : (turns : List Turn) (old new : List ShelfState) (places standing gone : List ℕ)
    → Drops turns old new places standing gone → AreStanding standing new
standing_again turns old new places standing gone d =
    let L : List ShelfState = map after_of (left_of turns) in
    let R : List ShelfState = d.earlier ++ map after_of (failed_of turns) in
    let size : length standing ≡ length L = ap length d.left ∙ length-map (left_of turns) number_of
    ∙ sym (length-map (left_of turns) after_of) in
    let total = ap length d.exit ∙ length-append L R in
    omega (arith, size, total)
