-- Gathering the rows of one shelf after another.
use Rattle.std.proofs.Common.{◌≡◌, ℕ, ◌+◌, ◌-◌, ◌<◌, List, [], ◌∷◌, ◌++◌, map, length, take, drop, get_or, refl, sym}
use Rattle.std.proofs.Common.{ap, subst, ◌∙◌, arith, Result, Ok, Err, Option, append-nil}
use Rattle.std.specs.Prelude.{Some, None, IfSome, is_some}
use Rattle.std.specs.List.{AllByRecursion}
use Rattle.std.specs.FinMap.{get}
use Rattle.std.proofs.lemmas.List.{length-append, length-map}
use Rattle.std.proofs.lemmas.List.Elements.{filter-append}
use Rattle.std.proofs.Math.Seq.{get_or-append_seam}
use Rattle.cnb_world.specs.Calls.{CountsShelf}
use Rattle.cnb_world.specs.Shelf.{Held}
use Rattle.cnb_world.specs.declared.shelf.ShelfFault.{ShelfFault}
use Rattle.cnb_world.specs.declared.shelf.ShelfFault.TheVariants as shelf
use Rattle.cnb_world.specs.declared.values.Memory.{Memory}
use Rattle.image_docs.specs.declared.layer_row.LayerRow.{LayerRow}
use Rattle.shelf_set.specs.ShelfState.{ShelfState}
use Rattle.shelf_set.specs.Dropping.{Turn, number_of, left_of, failed_of, Drops, AreStanding}
use Rattle.shelf_set.specs.Turns.{Goes, TakesTurn, is_failed}
use Rattle.shelf_set.specs.Finding.{TellsSame, LeavesSame}
use Rattle.shelf_set.specs.Gathering.{held_rows, given_by, HasGiven, HaveGiven, all_rows, first_rows, unread_of}
use Rattle.shelf_set.specs.Gathering.{Gathers}
use Rattle.shelf_set.specs.Giving.{KeepsRow, Keeping, KeepsRows, GivesMore, Giving, GivesEach}
use Rattle.shelf_set.specs.declared.giving.Given.{Given}
use Rattle.shelf_set.proofs.Lists.{all_both, map-last, onto}
use Rattle.shelf_set.proofs.TurnLemmas.{counted, OneMore, one_more, left-kept, left-dropped, still, all_still, none_yet}
use Rattle.shelf_set.proofs.TurnLemmas.{finish, ends_at, standing_again}

-- ---- the rows of one shelf

pub keeping_none : (kept : List LayerRow) (s : ShelfState) → kept ≡ [] → Keeping [] kept s s
keeping_none kept s none = record { held = refl; rows = refl; faults = refl; told = by s.held }
  where
    by : (o : Option Held) → IfSome o (λ h. kept ≡ held_rows h [])
    by None = tt
    by (Some h) = none

kept_more : (seen kept new : List LayerRow) (row : LayerRow) (o : Option Held)
    → IfSome o (λ h. kept ≡ held_rows h seen) → IfSome o (λ h. new ≡ kept ++ held_rows h (row ∷ []))
    → IfSome o (λ h. new ≡ held_rows h (seen ++ row ∷ []))
kept_more seen kept new row None had more = tt
kept_more seen kept new row (Some h) had more = more ∙ ap (λ k. k ++ held_rows h (row ∷ [])) had
    ∙ sym (filter-append (λ r. is_some (get h r.digest)) seen (row ∷ []))

pub keep_more : (seen kept more : List LayerRow) (row : LayerRow) (result : Result Unit ShelfFault)
    (done : Unit {0}) (before now new : ShelfState) → Keeping seen kept before now → result ≡ Ok done
    → KeepsRow row kept result more now new
    → Keeping (seen ++ row ∷ []) more before new
keep_more seen kept more row result done before now new k ok keeps =
    let m : KeepsRow row kept (Ok done) more now new = subst (λ r. KeepsRow row kept r more now new) ok keeps in
    record {
      held = m.answered.held ∙ k.held;
      rows = m.answered.rows ∙ k.rows;
      faults = m.answered.faults ∙ k.faults;
      told = kept_more seen kept more row before.held k.told
          (subst (λ o. IfSome o (λ h. more ≡ kept ++ held_rows h (row ∷ []))) k.held m.told);
    }

untold : (o : Option Held) → IfSome o (λ h. Unit {0})
untold None = tt
untold (Some h) = tt

pub keep_fails : (rows seen kept more : List LayerRow) (row : LayerRow) (result : Result Unit ShelfFault)
    (fault : ShelfFault) (before now new : ShelfState) → Keeping seen kept before now → result ≡ Err fault
    → KeepsRow row kept result more now new
    → KeepsRows rows (Err fault) before new
keep_fails rows seen kept more row result fault before now new k err keeps =
    let m : KeepsRow row kept (Err fault) more now new = subst (λ r. KeepsRow row kept r more now new) err keeps in
    record {
      answered = record {
        held = m.answered.held ∙ k.held;
        rows = m.answered.rows
            ∙ k.rows;
        faults = subst (λ n. CountsShelf {T = List LayerRow} (Err fault) n new.faults) k.faults
            (counts_for fault now.faults new.faults m.answered.faults);
      };
      told = untold before.held;
    }
  where
    counts_for : (f : ShelfFault) (b a : ℕ) → CountsShelf {T = Unit {0}} (Err f) b a
        → CountsShelf {T = List LayerRow} (Err f) b a
    counts_for shelf.Failed b a c = c
    counts_for shelf.Memory b a c = c

pub kept_all : (rows seen kept : List LayerRow) (before now : ShelfState) → Keeping seen kept before now
    → seen ≡ rows → KeepsRows rows (Ok kept) before now
kept_all rows seen kept before now k all = record {
  answered = record { held = k.held; rows = k.rows; faults = k.faults };
  told = subst (λ xs. IfSome before.held (λ h. kept ≡ held_rows h xs)) all k.told;
}

-- ---- one shelf after another

have_more : (turns : List Turn) (given : List Given) (t : Turn) (one : Given) → HaveGiven turns given
    → HasGiven t one → HaveGiven (turns ++ t ∷ []) (given ++ one ∷ [])
have_more [] given t one have has = subst (λ g. HaveGiven (t ∷ []) (g ++ one ∷ [])) (sym have) (has, refl)
have_more (x ∷ turns) [] t one have has = elim have [ ]
have_more (x ∷ turns) (g ∷ given) t one have has = (have.0, have_more turns given t one have.1 has)

pub begin : (old : List ShelfState) (places : List ℕ) (given : List Given) → AreStanding places old → given ≡ []
    → Giving old old places places given 0 0
begin old places given ready none = record {
  turns = [];
  goes = none_yet old places ready;
  same = tt;
  gave = none;
  count = refl;
}

same_still : (rest : List ShelfState) (later : List ℕ) → AllByRecursion TellsSame (still rest later)
same_still rest later = all_still TellsSame (λ n s. (refl, refl)) rest later

-- the number of the shelf that has the next turn
number_here : (turns : List Turn) (old now : List ShelfState) (places numbers : List ℕ) (at : ℕ)
    → length turns < length places → Goes turns old now places numbers at
    → get_or numbers at 0 ≡ get_or places (length turns) 0
number_here turns old now places numbers at lt g = by g.later g.first g.now
  where
    F : List ℕ
    F = map number_of (failed_of turns)

    by : (later : List ℕ) → places ≡ map number_of turns ++ later
        → numbers ≡ map number_of (left_of turns) ++ (later ++ F)
        → get_or numbers at 0 ≡ get_or places (length turns) 0
    by [] first here = absurd (let n : length places ≡ length turns = ap length first
        ∙ ap length (append-nil (map number_of turns)) ∙ length-map turns number_of in omega (arith, n, lt))
    by (n ∷ ns) first here =
        ap (λ l. get_or l at 0) here ∙ ap (λ k. get_or (map number_of (left_of turns) ++ n ∷ (ns ++ F)) k 0)
        (g.place ∙ sym (length-map (left_of turns) number_of))
        ∙ get_or-append_seam (map number_of (left_of turns)) n (ns ++ F) 0
        ∙ sym (ap (λ l. get_or l (length turns) 0) first ∙ ap (λ k. get_or (map number_of turns ++ n ∷ ns) k 0)
        (sym (length-map turns number_of)) ∙ get_or-append_seam (map number_of turns) n ns 0)

-- the number of the turn that was taken
number_then : (turns : List Turn) (t : Turn) (places rest : List ℕ)
    → places ≡ map number_of (turns ++ t ∷ []) ++ rest → get_or places (length turns) 0 ≡ t.number
number_then turns t places rest first =
    ap (λ l. get_or l (length turns) 0) (first ∙ ap (λ l. l ++ rest) (map-last number_of turns t)
    ∙ onto (map number_of turns) t.number rest)
    ∙ ap (λ k. get_or (map number_of turns ++ t.number ∷ rest) k 0) (sym (length-map turns number_of))
    ∙ get_or-append_seam (map number_of turns) t.number rest 0

-- what a shelf told before its turn it tells after it
told_after : (b a : ShelfState) (rows : Option (List LayerRow)) → a.held ≡ b.held → a.rows ≡ b.rows
    → IfSome b.rows (λ document. IfSome b.held (λ held. rows ≡ given_by held document))
    → IfSome a.rows (λ document. IfSome a.held (λ held. rows ≡ given_by held document))
told_after b a rows same-held same-rows told =
    subst (λ r. IfSome r (λ document. IfSome a.held (λ held. rows ≡ given_by held document))) (sym same-rows)
    (subst (λ h. IfSome b.rows (λ document. IfSome h (λ held. rows ≡ given_by held document))) (sym same-held) told)

module _ (old now new : List ShelfState) (places numbers later : List ℕ) (given more : List Given)
    (at asked next : ℕ) (lt : asked < length places) (s : Giving old now places numbers given at asked) where
  -- the next shelf gives this answer
  abbrev Answers : Result Unit ShelfFault → Type 0
  Answers result = TakesTurn now numbers at (GivesMore (get_or numbers at 0) given result more)
      (is_failed result) new later next

  lt_turns : length s.turns < length places
  lt_turns = subst (λ n. n < length places) (sym s.count) lt

  next_turn : (result : Result Unit ShelfFault) → Answers result
      → OneMore s.turns old new places later next (GivesMore (get_or numbers at 0) given result more)
      (is_failed result)
  next_turn result k =
      one_more s.turns old now places numbers at (GivesMore (get_or numbers at 0) given result more)
      (is_failed result) new later next lt_turns
      (λ b a does. counted result b.faults a.faults does.answered.faults) s.goes k

  same_more : (result : Result Unit ShelfFault)
      → (m : OneMore s.turns old new places later next (GivesMore (get_or numbers at 0) given result more)
      (is_failed result)) → AllByRecursion TellsSame (s.turns ++ m.turn ∷ [])
  same_more result m = all_both TellsSame s.turns (m.turn ∷ []) s.same
      ((m.does.answered.held, m.does.answered.rows), tt)

  count_more : (t : Turn) → length (s.turns ++ t ∷ []) ≡ asked + 1
  count_more t = length-append s.turns (t ∷ []) ∙ ap (λ k. k + 1) s.count

  -- a shelf that gives rows
  pub giving_then : (result : Result Unit ShelfFault) (done : Unit {0}) → Answers result → result ≡ Ok done
      → Giving old new places later more next (asked + 1)
  giving_then result done k is =
      let m = next_turn (Ok done) (subst Answers is k) in
      let number : get_or numbers at 0 ≡ m.turn.number = number_here s.turns old now places numbers at lt_turns
      s.goes ∙ number_then s.turns m.turn places m.goes.later m.goes.first in
      let one : Given = record { number = get_or numbers at 0; rows = m.does.more.0 } in
      let has : HasGiven m.turn one = (
        number,
        told_after m.turn.before m.turn.after m.does.more.0
            m.does.answered.held m.does.answered.rows m.does.more.2,
      ) in
      record {
        turns = s.turns ++ m.turn ∷ [];
        goes = m.goes;
        same = same_more (Ok done) m;
        gave = subst (λ l. HaveGiven l more) (sym (left-kept s.turns m.turn m.failing))
            (subst (λ g. HaveGiven (left_of s.turns ++ m.turn ∷ []) g) (sym m.does.more.1)
            (have_more (left_of s.turns) given m.turn one s.gave has));
        count = count_more m.turn;
      }

  -- a shelf that fails
  pub failing_then : (result : Result Unit ShelfFault) (fault : ShelfFault) → Answers result → result ≡ Err fault
      → fault ≡ shelf.Failed → Giving old new places later more next (asked + 1)
  failing_then result fault k is failed =
      let m = next_turn (Err shelf.Failed) (subst Answers (is ∙ ap (λ f. Err f) failed) k) in
      record {
        turns = s.turns ++ m.turn ∷ [];
        goes = m.goes;
        same = same_more (Err shelf.Failed) m;
        gave = subst (λ l. HaveGiven l more) (sym (left-dropped s.turns m.turn m.failing))
            (subst (λ g. HaveGiven (left_of s.turns) g) (sym m.does.less) s.gave);
        count = count_more m.turn;
      }

  total_then : next + (length places - asked - 1) + (asked + 1) ≡ next + length places
  total_then = omega (arith, lt)

  out_of_memory : (e : Memory) → Answers (Err shelf.Memory)
      → GivesEach old places (Err e) new later (next + (length places - asked - 1))
  out_of_memory e k =
      let m = next_turn (Err shelf.Memory) k in
      let g = m.goes in
      let turns : List Turn = s.turns ++ m.turn ∷ [] in
      let end = ends_at turns old new places later next (asked + 1) _ g (count_more m.turn) total_then in
      record {
        turns = turns ++ still g.rest g.later;
        drops = finish turns old new places later next _ g end.stands;
        same = all_both TellsSame turns (still g.rest g.later) (same_more (Err shelf.Memory) m)
            (same_still g.rest g.later);
        gave = tt;
        fits = end.fits;
      }

  -- memory ran out
  pub ended_then : (result : Result Unit ShelfFault) (fault : ShelfFault) (e : Memory) (count : ℕ)
      → Answers result → result ≡ Err fault → fault ≡ shelf.Memory → count ≡ length places
      → GivesEach old places (Err e) new later (next + (count - asked - 1))
  ended_then result fault e count k is ended all =
      subst (λ n. GivesEach old places (Err e) new later (next + (n - asked - 1))) (sym all)
      (out_of_memory e (subst Answers (is ∙ ap (λ f. Err f) ended) k))

-- all had their turns
pub everywhere : (old new : List ShelfState) (places numbers : List ℕ) (given : List Given) (at asked : ℕ)
    → Giving old new places numbers given at asked → asked ≡ length places
    → GivesEach old places (Ok given) new numbers at
everywhere old new places numbers given at asked s all =
    let g = s.goes in
    let end = ends_at s.turns old new places numbers at asked at g s.count (ap (λ n. at + n) all) in
    let none : length g.later ≡ 0 = let e = end.stands in omega (arith, e) in
    record {
      turns = s.turns ++ still g.rest g.later;
      drops = finish s.turns old new places numbers at at g end.stands;
      same = all_both TellsSame s.turns (still g.rest g.later) s.same (same_still g.rest g.later);
      gave = subst (λ l. HaveGiven (left_of l) given) (sym (no_rest g.rest (g.paired ∙ none))) s.gave;
      fits = end.fits;
    }
  where
    no_rest : (rest : List ShelfState) → length rest ≡ 0 → s.turns ++ still rest s.goes.later ≡ s.turns
    no_rest [] h = append-nil s.turns
    no_rest (r ∷ rest) h = absurd (omega (arith, h))

-- ---- the whole call

pub gathers : (old : List ShelfState) (places : List ℕ) (given : Result (List Given) Memory) (all : List Given)
    (new : List ShelfState) (numbers standing : List ℕ) (n : ℕ) (rows : List LayerRow) (unread gone : List ℕ)
    → GivesEach old places given new numbers n → given ≡ Ok all → standing ≡ take n numbers
    → gone ≡ drop n numbers → rows ≡ first_rows (all_rows all) → unread ≡ unread_of all
    → Gathers old places (record { rows = rows; unread = unread; gone = gone }) new standing
gathers old places given all new numbers standing n rows unread gone e is left dropped first refused =
    let t : GivesEach old places (Ok all) new numbers n = subst (λ r. GivesEach old places r new numbers n) is e in
    let d : Drops t.turns old new places standing gone = subst (λ x. Drops t.turns old new places x gone)
    (sym left) (subst (λ x. Drops t.turns old new places (take n numbers) x) (sym dropped) t.drops) in
    record { turns = t.turns; drops = d; same = t.same; given = all; gave = t.gave; rows = first; unread = refused }

pub leaves : (old : List ShelfState) (places : List ℕ) (given : Result (List Given) Memory)
    (new : List ShelfState) (numbers standing : List ℕ) (n : ℕ) → GivesEach old places given new numbers n
    → standing ≡ take n numbers → LeavesSame old places new standing
leaves old places given new numbers standing n e left = record {
  turns = e.turns;
  gone = drop n numbers;
  drops = subst (λ x. Drops e.turns old new places x (drop n numbers))
      (sym left) e.drops;
  same = e.same;
}

pub again : (old : List ShelfState) (held : List ℕ) (given : Result (List Given) Memory) (new : List ShelfState)
    (numbers standing : List ℕ) (n : ℕ) → GivesEach old held given new numbers n → standing ≡ take n numbers
    → AreStanding standing new
again old held given new numbers standing n e left =
    let d : Drops e.turns old new held standing (drop n numbers) = subst
    (λ x. Drops e.turns old new held x (drop n numbers)) (sym left) e.drops in
    standing_again e.turns old new held standing (drop n numbers) d
