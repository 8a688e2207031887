-- Searching shelves for bytes.
use Rattle.std.proofs.Common.{◌≡◌, ℕ, ◌+◌, ◌-◌, ◌<◌, ◌≤◌, Bool, true, false, cond, not, List, [], ◌∷◌, ◌++◌, map}
use Rattle.std.proofs.Common.{length, drop, refl, sym, ap, subst, ◌∙◌, arith, Result, Ok, Err, Option, is_some}
use Rattle.std.proofs.Common.{append-nil}
use Rattle.std.specs.Prelude.{Some, None, IfSome}
use Rattle.std.specs.List.{AllByRecursion}
use Rattle.std.specs.FinMap.{get}
use Rattle.std.proofs.lemmas.List.{length-append, take_all}
use Rattle.cnb_world.specs.Shelf.{Held}
use Rattle.cnb_world.specs.declared.shelf.ShelfFault.{ShelfFault}
use Rattle.cnb_world.specs.declared.shelf.ShelfFault.TheVariants as shelf
use Rattle.cnb_world.specs.declared.values.Memory.{Memory}
use Rattle.tree_canon.specs.Judging.{IsJudged}
use Rattle.tree_canon.specs.declared.judging.Judged.{Judged}
use Rattle.shelf_set.specs.ShelfState.{ShelfState}
use Rattle.shelf_set.specs.Dropping.{Drops, Turn, after_of, has_failed, left_of}
use Rattle.shelf_set.specs.Turns.{TakesTurn, is_failed}
use Rattle.shelf_set.specs.Finding.{LeavesSearched, TellsSame, IsFirst, IsUnasked, NoneBehind, holds_first, tells_of}
use Rattle.shelf_set.specs.Searching.{Asks, HoldsJudged, Lacks, Searching, Searches}
use Rattle.shelf_set.proofs.Lists.{map-last, onto, all_both}
use Rattle.shelf_set.proofs.TurnLemmas.{counted, OneMore, one_more, left-kept, left-dropped, still, all_still, none_yet}
use Rattle.shelf_set.proofs.TurnLemmas.{finish, left_tell, ends_at, standing_of}

first_none : (ss : List ShelfState) (digest : List ℕ) → AllByRecursion (Lacks digest) ss → IsFirst ss digest None
first_none [] digest all = refl
first_none (s ∷ ss) digest all = by s.held all.0 (first_none ss digest all.1)
  where
    by : (o : Option Held) → IfSome o (λ h. get h digest ≡ None) → IsFirst ss digest None
        → IfSome o (λ h. holds_first digest (get h digest) (IsFirst ss digest None) None)
    by None l later = tt
    by (Some h) l later = subst (λ f. holds_first digest f (IsFirst ss digest None) None) (sym l) later

first_some : (ss : List ShelfState) (s : ShelfState) (rest : List ShelfState) (digest bytes : List ℕ)
    → AllByRecursion (Lacks digest) ss → IfSome s.held (λ h. get h digest ≡ Some bytes)
    → IsFirst (ss ++ s ∷ rest) digest (Some bytes)
first_some [] s rest digest bytes all is = by s.held is
  where
    by : (o : Option Held) → IfSome o (λ h. get h digest ≡ Some bytes)
        → IfSome o (λ h. holds_first digest (get h digest) (IsFirst rest digest (Some bytes)) (Some bytes))
    by None l = tt
    by (Some h) l = subst (λ f. holds_first digest f (IsFirst rest digest (Some bytes)) (Some bytes)) (sym l) refl
first_some (x ∷ ss) s rest digest bytes all is = by x.held all.0 (first_some ss s rest digest bytes all.1 is)
  where
    by : (o : Option Held) → IfSome o (λ h. get h digest ≡ None) → IsFirst (ss ++ s ∷ rest) digest (Some bytes)
        → IfSome o (λ h. holds_first digest (get h digest) (IsFirst (ss ++ s ∷ rest) digest (Some bytes))
        (Some bytes))
    by None l later = tt
    by (Some h) l later = subst (λ f. holds_first digest f (IsFirst (ss ++ s ∷ rest) digest (Some bytes))
        (Some bytes)) (sym l) later

-- ---- none is asked behind one that holds the digest

-- a shelf that was dropped, or doesn't tell that it holds the digest
abbrev IsPassed : List ℕ → Turn → Type 0
IsPassed digest t = t.failed ≡ false → tells_of digest t.before.held ≡ true → ⊥

passed : (digest : List ℕ) (turns : List Turn) → AllByRecursion TellsSame turns
    → AllByRecursion (Lacks digest) (map after_of (left_of turns)) → AllByRecursion (IsPassed digest) turns
passed digest [] same lacks = tt
passed digest (t ∷ ts) same lacks = by (has_failed t) refl (passed digest ts same.1) lacks
  where
    lacking : (b a : Option Held) → a ≡ b → IfSome a (λ h. get h digest ≡ None) → tells_of digest b ≡ true → ⊥
    lacking None a e l h = cc
    lacking (Some g) None e l h = cc
    lacking (Some g) (Some k) e l h = let same : k ≡ g = cc
        in let no : false ≡ true = sym (ap is_some (sym (ap (λ x. get x digest) same) ∙ l)) ∙ h in cc

    by : (v : Bool) → has_failed t ≡ v → (AllByRecursion (Lacks digest) (map after_of (left_of ts))
        → AllByRecursion (IsPassed digest) ts)
        → AllByRecursion (Lacks digest) (map after_of (cond (not v) (t ∷ left_of ts) (left_of ts)))
        → AllByRecursion (IsPassed digest) (t ∷ ts)
    by true e rest l = ((λ stays tells. let no : true ≡ false = sym e ∙ stays in cc), rest l)
    by false e rest l = ((λ stays tells. lacking t.before.held t.after.held same.0.0 l.0 tells), rest l.1)

behind_passed : (digest : List ℕ) (turns rest : List Turn) → AllByRecursion (IsPassed digest) turns
    → NoneBehind digest rest → NoneBehind digest (turns ++ rest)
behind_passed digest [] rest all none = none
behind_passed digest (t ∷ ts) rest all none =
    ((λ stays tells. absurd (all.0 stays tells)), behind_passed digest ts rest all.1 none)

unasked_still : (rest : List ShelfState) (later : List ℕ) → AllByRecursion IsUnasked (still rest later)
unasked_still rest later = all_still IsUnasked (λ n s. (refl, refl)) rest later

behind_still : (digest : List ℕ) (rest : List ShelfState) (later : List ℕ) → NoneBehind digest (still rest later)
behind_still digest [] later = tt
behind_still digest (s ∷ ss) [] = tt
behind_still digest (s ∷ ss) (n ∷ ns) = ((λ stays tells. unasked_still ss ns), behind_still digest ss ns)

-- the turns so far, the last one asked, and the others
behind_last : (digest : List ℕ) (turns : List Turn) (t : Turn) (rest : List ShelfState) (later : List ℕ)
    → AllByRecursion (IsPassed digest) turns → NoneBehind digest ((turns ++ t ∷ []) ++ still rest later)
behind_last digest turns t rest later all =
    subst (NoneBehind digest) (sym (onto turns t (still rest later)))
    (behind_passed digest turns (t ∷ still rest later) all
    ((λ stays tells. unasked_still rest later), behind_still digest rest later))

-- ---- the search

pub begin : (old : List ShelfState) (places digest : List ℕ) → length places ≤ length old
    → Searching old old places places digest 0 0
begin old places digest h = record { turns = []; goes = none_yet old places h; same = tt; lacks = tt; count = refl }

same_still : (rest : List ShelfState) (later : List ℕ) → AllByRecursion TellsSame (still rest later)
same_still rest later = all_still TellsSame (λ n s. (refl, refl)) rest later

module _ (old now new : List ShelfState) (places numbers later digest : List ℕ) (at asked next : ℕ)
    (lt : asked < length places) (s : Searching old now places numbers digest at asked) where
  -- the next shelf gives this answer
  abbrev Answers : Result (Option Judged) ShelfFault → Type 0
  Answers result = TakesTurn now numbers at (Asks digest result) (is_failed result) new later next

  next_turn : (result : Result (Option Judged) ShelfFault) → Answers result
      → OneMore s.turns old new places later next (Asks digest result) (is_failed result)
  next_turn result k =
      one_more s.turns old now places numbers at (Asks digest result) (is_failed result) new later next
      (subst (λ n. n < length places) (sym s.count) lt)
      (λ b a asks. counted result b.faults a.faults asks.faults) s.goes k

  same_more : (result : Result (Option Judged) ShelfFault)
      → (m : OneMore s.turns old new places later next (Asks digest result) (is_failed result))
      → AllByRecursion TellsSame (s.turns ++ m.turn ∷ [])
  same_more result m = all_both TellsSame s.turns (m.turn ∷ []) s.same ((m.does.held, m.does.rows), tt)

  count_more : (t : Turn) → length (s.turns ++ t ∷ []) ≡ asked + 1
  count_more t = length-append s.turns (t ∷ []) ∙ ap (λ k. k + 1) s.count

  -- a shelf that stands and lacks the digest
  pub lacking : Answers (Ok None) → Searching old new places later digest next (asked + 1)
  lacking k =
      let m = next_turn (Ok None) k in
      let e = left-kept s.turns m.turn m.failing in
      let lack : Lacks digest m.turn.after = lacks_after m.does.bytes m.turn.before.held m.turn.after.held m.does.held
      m.does.judged m.does.told in
      record {
        turns = s.turns ++ m.turn ∷ [];
        goes = m.goes;
        same = same_more (Ok None) m;
        lacks = subst (λ l. AllByRecursion (Lacks digest) l)
            (sym (ap (map after_of) e ∙ map-last after_of (left_of s.turns) m.turn))
            (all_both (Lacks digest) (map after_of (left_of s.turns)) (m.turn.after ∷ []) s.lacks (lack, tt));
        count = count_more m.turn;
      }
    where
      lacks_after : (bytes : Option (List ℕ)) (o p : Option Held) → p ≡ o → HoldsJudged digest bytes None
          → IfSome o (λ h. bytes ≡ get h digest) → IfSome p (λ h. get h digest ≡ None)
      lacks_after (Some bytes) o p e judged told = absurd judged
      lacks_after None o None e judged told = tt
      lacks_after None None (Some h) e judged told = absurd (cc)
      lacks_after None (Some g) (Some h) e judged told = let same : g ≡ h = cc
          in sym (told ∙ ap (λ x. get x digest) same)

  -- a shelf that failed
  pub failing : Answers (Err shelf.Failed) → Searching old new places later digest next (asked + 1)
  failing k =
      let m = next_turn (Err shelf.Failed) k in
      record {
        turns = s.turns ++ m.turn ∷ [];
        goes = m.goes;
        same = same_more (Err shelf.Failed) m;
        lacks = subst (λ l. AllByRecursion (Lacks digest) (map after_of l))
            (sym (left-dropped s.turns m.turn m.failing)) s.lacks;
        count = count_more m.turn;
      }

  -- where the search ends
  total_then : next + (length places - asked - 1) + (asked + 1) ≡ next + length places
  total_then = omega (arith, lt)

  pub stopped : (fault : ShelfFault) (e : Memory) → Answers (Err fault)
      → Searches old places digest (Err e) new later (next + (length places - asked - 1))
  stopped fault e k =
      let m = next_turn (Err fault) k in
      let g = m.goes in
      let turns : List Turn = s.turns ++ m.turn ∷ [] in
      let end = ends_at turns old new places later next (asked + 1) _ g (count_more m.turn) total_then in
      record {
        turns = turns ++ still g.rest g.later;
        drops = finish turns old new places later next _ g end.stands;
        same = all_both TellsSame turns (still g.rest g.later) (same_more (Err fault) m)
            (same_still g.rest g.later);
        bytes = None;
        judged = tt;
        first = tt;
        unasked = behind_last digest s.turns m.turn g.rest g.later (passed digest s.turns s.same s.lacks);
        fits = end.fits;
      }

  holding_bytes : (judged : Judged) (m : OneMore s.turns old new places later next
      (Asks digest (Ok (Some judged))) false) (bytes : List ℕ) → IsJudged digest bytes judged
      → IfSome m.turn.before.held (λ h. Some bytes ≡ get h digest)
      → Searches old places digest (Ok (Some judged)) new later (next + (length places - asked - 1))
  holding_bytes judged m bytes is told =
      let g = m.goes in
      let turns : List Turn = s.turns ++ m.turn ∷ [] in
      let end = ends_at turns old new places later next (asked + 1) _ g (count_more m.turn) total_then in
      let A : List ShelfState = map after_of (left_of s.turns) in
      let tells : IfSome m.turn.after.held (λ h. get h digest ≡ Some bytes) = held_after m.turn.before.held
      m.turn.after.held m.does.held told in
      let list : map after_of (left_of (turns ++ still g.rest g.later)) ≡ A ++ m.turn.after
      ∷ g.rest = left_tell turns g.rest g.later g.paired ∙ ap (λ l. map after_of l ++ g.rest)
      (left-kept s.turns m.turn m.failing) ∙ ap (λ l. l ++ g.rest)
      (map-last after_of (left_of s.turns) m.turn) ∙ onto A m.turn.after g.rest in
      record {
        turns = turns ++ still g.rest g.later;
        drops = finish turns old new places later next _ g end.stands;
        same = all_both TellsSame turns (still g.rest g.later) (same_more (Ok (Some judged)) m)
            (same_still g.rest g.later);
        bytes = Some bytes;
        judged = is;
        first = subst (λ l. IsFirst l digest (Some bytes)) (sym list)
            (first_some A m.turn.after g.rest digest bytes s.lacks tells);
        unasked = behind_last digest s.turns m.turn g.rest g.later (passed digest s.turns s.same s.lacks);
        fits = end.fits;
      }
    where
      held_after : (o p : Option Held) → p ≡ o → IfSome o (λ h. Some bytes ≡ get h digest)
          → IfSome p (λ h. get h digest ≡ Some bytes)
      held_after o None e told = tt
      held_after None (Some h) e told = absurd (cc)
      held_after (Some g) (Some h) e told = let same : g ≡ h = cc in sym (told ∙ ap (λ x. get x digest) same)

  pub holding : (judged : Judged) → Answers (Ok (Some judged))
      → Searches old places digest (Ok (Some judged)) new later (next + (length places - asked - 1))
  holding judged k = let m = next_turn (Ok (Some judged)) k in by m m.does.bytes m.does.judged m.does.told
    where
      by : (m : OneMore s.turns old new places later next (Asks digest (Ok (Some judged))) false)
          → (bytes : Option (List ℕ)) → HoldsJudged digest bytes (Some judged)
          → IfSome m.turn.before.held (λ h. bytes ≡ get h digest)
          → Searches old places digest (Ok (Some judged)) new later (next + (length places - asked - 1))
      by m None is told = absurd (cc)
      by m (Some bytes) is told = holding_bytes judged m bytes is told

-- all were asked
pub nowhere : (old new : List ShelfState) (places numbers digest : List ℕ) (at asked : ℕ)
    → Searching old new places numbers digest at asked → asked ≡ length places
    → Searches old places digest (Ok None) new numbers at
nowhere old new places numbers digest at asked s all =
    let g = s.goes in
    let end = ends_at s.turns old new places numbers at asked at g s.count (ap (λ n. at + n) all) in
    let none : length g.later ≡ 0 = let e = end.stands in omega (arith, e) in
    record {
      turns = s.turns ++ still g.rest g.later;
      drops = finish s.turns old new places numbers at at g end.stands;
      same = all_both TellsSame s.turns (still g.rest g.later) s.same (same_still g.rest g.later);
      bytes = None;
      judged = refl;
      first = subst (λ l. IsFirst l digest None) (sym
          (left_tell s.turns g.rest g.later g.paired ∙ no_rest g.rest (g.paired ∙ none)))
          (first_none (map after_of (left_of s.turns)) digest s.lacks);
      unasked = behind_passed digest s.turns (still g.rest g.later) (passed digest s.turns s.same s.lacks)
          (behind_still digest g.rest g.later);
      fits = end.fits;
    }
  where
    no_rest : (rest : List ShelfState) → length rest ≡ 0 → map after_of (left_of s.turns) ++ rest
        ≡ map after_of (left_of s.turns)
    no_rest [] h = append-nil (map after_of (left_of s.turns))
    no_rest (r ∷ rest) h = absurd (omega (arith, h))

-- nobody was asked
pub none_asked : (old : List ShelfState) (places digest : List ℕ) → length places ≤ length old
    → LeavesSearched old places digest old places
none_asked old places digest h =
    let g = none_yet old places h in
    record {
      turns = still g.rest g.later;
      gone = drop (length places) places;
      drops = subst (λ x. Drops (still g.rest g.later) old old places x (drop (length places) places))
          (take_all (length places) places (let e : length places ≡ length places = refl in omega (arith, e)))
          (finish [] old old places places 0 (length places) g
          (let all = standing_of [] old old places places 0 g in omega (arith, all)));
      same = same_still g.rest g.later;
      unasked = behind_still digest g.rest g.later;
    }
