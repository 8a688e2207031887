-- What a scan was fed, and what its calls answer: as a decoder does, but that no tree is handed over.
use Rattle.std.specs.Prelude.{◌≡◌, ◌++◌, ℕ, List, length, take, None, Some, Result, Ok, Err}
use Rattle.tree_canon.specs.declared.node.Node.{Node}
use Rattle.tree_canon.specs.declared.fault.Reason.TheVariants as reasons
use Rattle.tree_canon.specs.declared.fault.DecodeFault.{DecodeFault}
use Rattle.tree_canon.specs.declared.fault.DecodeFault.TheVariants as faults
use Rattle.tree_canon.specs.declared.event.Step.{Step}
use Rattle.tree_canon.specs.declared.scanner.Scanner.{Scanner}
use Rattle.tree_canon.specs.declared.scan.Scan.{Scan}
use Rattle.tree_canon.specs.CutTree.{CutTree}
use Rattle.tree_canon.specs.Division.{Spells, IsShort}
use Rattle.tree_canon.specs.Reading.{SpellsUpTo}
use Rattle.tree_canon.specs.Feeding.{Fed, Feeds}
use Rattle.tree_canon.specs.Scanning.{HasReached, IsContents, bytes_held}
use Rattle.tree_canon.specs.Events.{Told, events_of, closed}
use Rattle.tree_canon.specs.Telling.{HasTold}

-- the bytes are those of a cut tree, in which every field meets its rules, and a part of the next field, at which the
-- scanner is
pub record HasRead (s : Scanner) (bytes : List ℕ) : Type 0 where
  pub count : ℕ
  pub cut : CutTree
  pub part : List ℕ
  pub reads : SpellsUpTo count cut part bytes
  pub reached : HasReached s count cut part

-- the bytes that a scan was fed, while nothing in them is broken, and else the fault that it keeps
abbrev pub Scans : Scan → Fed → Type 0
Scans s (Ok bytes) = (s.fault ≡ None) × HasRead s.scanner bytes
Scans s (Err fault) = s.fault ≡ Some fault

-- what `feed` answers and leaves
pub record ScanFeeds (fed : Fed) (piece : List ℕ) (result : Result Unit DecodeFault) (new : Scan) : Type 0 where
  pub next : Fed
  pub feeds : Feeds fed piece result next
  pub scans : Scans new next

-- what `next` answers and leaves: it takes some of the bytes, or a fault comes with all of them
abbrev pub ScanTakes : Fed → List ℕ → Result Step DecodeFault → Scan → Type 0
ScanTakes fed input (Ok step) new = ScanFeeds fed (take step.used input) (Ok tt) new
ScanTakes fed input (Err fault) new = ScanFeeds fed input (Err fault) new

-- how many folders are whole, whose ends were not given yet
abbrev pub owed : Scan → ℕ
owed s = s.scanner.owed

-- the next byte is one of a file's contents
abbrev pub IsInContents : Scan → Type 0
IsInContents s = IsContents s.scanner.next

-- Nothing in the bytes is broken, and what was given is what the events of the cut tree tell that they spell, but for
-- the ends that are owed.
pub record HasGiven (s : Scan) (bytes : List ℕ) (given : List Told) : Type 0 where
  pub unbroken : s.fault ≡ None
  pub told : HasTold s.scanner bytes given

-- the bytes spell a tree, and what was given is what its events tell, but for the ends that are owed
pub record GivesTree (bytes : List ℕ) (given : List Told) (owed : ℕ) : Type 0 where
  pub root : Node
  pub spells : Spells root bytes
  pub is : given ++ closed owed ≡ events_of root

-- what `finish` answers: whether a tree is spelled, and else that the bytes are short
abbrev pub ScanEnds : Fed → Result Unit DecodeFault → Type 0
ScanEnds (Ok bytes) (Ok done) = (root : Node) × Spells root bytes
ScanEnds (Ok bytes) (Err fault) = IsShort bytes × (fault ≡ faults.Bad (length bytes) reasons.Short)
ScanEnds (Err fault) result = result ≡ Err fault

-- how many bytes a scan keeps
abbrev pub held : Scan → ℕ
held s = bytes_held s.scanner
