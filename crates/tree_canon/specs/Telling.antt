-- What a scanner has told, and what it has at a fault.
use Rattle.std.specs.Prelude.{◌≡◌, ◌+◌, ◌≤◌, ℕ, ◌++◌, List, length, take, drop}
use Rattle.tree_canon.specs.declared.scanner.Scanner.{Scanner}
use Rattle.tree_canon.specs.declared.fault.Reason.{Reason}
use Rattle.tree_canon.specs.CutTree.{CutTree, width}
use Rattle.tree_canon.specs.Reading.{SpellsUpTo, Stuck, Going, run}
use Rattle.tree_canon.specs.Scanning.{HasReached}
use Rattle.tree_canon.specs.Events.{Told, events_before, closed}

-- a scanner that has come to a cut tree has told its events, but for the ends of folders that it owes
pub record HasTold (s : Scanner) (bytes : List ℕ) (given : List Told) : Type 0 where
  pub count : ℕ
  pub cut : CutTree
  pub part : List ℕ
  pub reads : SpellsUpTo count cut part bytes
  pub reached : HasReached s count cut part
  pub is : given ++ closed s.owed ≡ events_before cut part

-- Behind the bytes, the first field in the input that isn't whole before a number of its bytes breaks a rule. What was
-- given is all that is told before that field.
pub record FaultFollows (bytes : List ℕ) (given : List Told) (input : List ℕ) (at : ℕ) (reason : Reason) : Type 0 where
  pub used : ℕ
  pub share : ℕ
  pub count : ℕ
  pub cut : CutTree
  pub part : List ℕ
  pub reads : SpellsUpTo count cut part (bytes ++ take used input)
  pub is : given ≡ events_before cut part
  pub field : length part + share ≤ width cut.hole
  pub breaks : run (Going count cut part) (take share (drop used input)) ≡ Stuck at reason
