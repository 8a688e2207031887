-- The rule of the ticket word, and what each kind of step tells.
use Rattle.std.specs.Prelude.{◌≡◌, ℕ, ◌+◌, ◌-◌, ◌≤◌, List, [], ◌∷◌, ◌++◌, length, slice_index}
use mathlib.Core.Option.{some}
use lib.ListN.{get_elem?}
use Rattle.atomic_table.specs.Table.{State, Me}
use Rattle.ticket_pool.specs.declared.rule.View.{View}
use Rattle.ticket_pool.specs.Numbers.{weigh, late_one, late_of, upto, AllBelow, IsAscending, merged}

abbrev pub view : List ℕ → ℕ → ℕ → View
view drawn spawners late = record { drawn = drawn; spawners = spawners; late = late }

-- f of each view, added up
abbrev pub total : (View → ℕ) → List View → ℕ
total f [] = 0
total f (v ∷ vs) = f v + total f vs

-- what holds of each view: its numbers ascend; as many of them as it says are no job's, at most one for each of its
-- spawners; and a view of no spawner has drawn nothing
abbrev pub IsView : ℕ → View → Type 0
IsView jobs v =
    IsAscending v.drawn × (v.late ≡ late_of jobs v.drawn) × (v.late ≤ v.spawners) × (v.spawners ≡ 0 → v.drawn ≡ [])

-- There is one word. The numbers of all views together are those below the word, each once: whatever each number
-- weighs, the two weigh the same. The spawners of all views together are the round's.
abbrev pub TicketRule : ℕ → ℕ → State (Unit {0}) View → Type 0
TicketRule jobs spawners s =
    (length s.words ≡ 1)
    × ((h : ℕ → ℕ) → total (λ v. weigh h v.drawn) s.views ≡ weigh h (upto (slice_index s.words 0)))
    × (total (λ v. v.spawners) s.views ≡ spawners)
    × ((id : ℕ) (v : View) → get_elem? s.views id ≡ some v → IsView jobs v)

-- a view that has drawn n besides
abbrev pub drew : ℕ → View → ℕ → View
drew jobs v n = view (v.drawn ++ n ∷ []) v.spawners (v.late + late_one jobs n)

-- a pass with all spawners has drawn exactly the numbers below some number
abbrev pub IsWhole : ℕ → View → Type 0
IsWhole spawners v = v.spawners ≡ spawners → v.drawn ≡ upto (length v.drawn)

-- a draw: the number found is added, and is greater than those before
abbrev pub Drew : ℕ → ℕ → Me (Unit {0}) View → ℕ → Me (Unit {0}) View → Type 0
Drew jobs spawners me n me' =
    (me'.0 ≡ drew jobs me.0 n) × (me'.1 ≡ me.1) × AllBelow n me.0.drawn
    × IsAscending me'.0.drawn × IsWhole spawners me'.0

-- a look, after a join
abbrev pub Looked : ℕ → Me (Unit {0}) View → Me (Unit {0}) View → Type 0
Looked spawners me me' = (me'.0 ≡ me.0) × (me'.1 ≡ me.1) × IsAscending me.0.drawn × IsWhole spawners me.0

-- what a pass keeps that gives k of its spawners away, and what it gives
abbrev pub kept_part : ℕ → View → View
kept_part k v = view v.drawn (v.spawners - k) v.late

abbrev pub given_part : ℕ → View → View
given_part k v = view [] k 0

-- two passes as one
abbrev pub joined : View → View → View
joined v w = view (merged v.drawn w.drawn) (v.spawners + w.spawners) (v.late + w.late)

-- what is left of a pass that went into another
abbrev pub spent : View
spent = view [] 0 0

-- one draw: n is added to what was drawn, and is greater than that
abbrev pub IsDraw : ℕ → View → ℕ → View → Type 0
IsDraw jobs v n w = (w ≡ drew jobs v n) × AllBelow n v.drawn
