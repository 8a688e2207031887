-- The store of trees.
use Rattle.std.specs.Prelude.{ℕ, ◌≡◌, ◌≢◌, List, codes, Option, Some, None, Result, Ok, Err, IsTrue}
use Rattle.hex.specs.Hex.{encode_lower}
use Rattle.sha2.specs.Sha256.{sha256}
use Rattle.cnb_world.specs.Path.{joined}
use Rattle.cnb_world.specs.Tree.{Tree, item_at}
use Rattle.cnb_world.specs.Whole.{written, LeavesPart}
use Rattle.cnb_world.specs.declared.world.Item.{Item}
use Rattle.cnb_world.specs.declared.world.Item.TheVariants as item
use Rattle.tree_canon.specs.Division.{Spells}
use Rattle.tree_canon.specs.Judging.{IsDamage}
use Rattle.tree_canon.specs.Spelling.{spelling_of}
use Rattle.tree_canon.specs.declared.judging.Judged.{Judged}
use Rattle.tree_canon.specs.declared.judging.Judged.TheVariants as judged
use Rattle.tree_canon.specs.declared.node.Node.{Node}
use Rattle.steps.specs.Causes.{WhereDecided}
use Rattle.tree_store.specs.Answers.{cause_of, is_free}
use Rattle.tree_store.specs.declared.fault.StoreFault.{StoreFault}
use Rattle.tree_store.specs.declared.fault.StoreFault.TheVariants.{OddFile, Limit, File, NoTree, Damaged, Clash, Memory}

-- the file of a tree
abbrev pub tree_path : List ℕ → List ℕ → List ℕ
tree_path store digest = joined (joined store (codes "trees")) (encode_lower digest)

-- what stands is left; where nothing stands a file is written
abbrev pub left_or_written : Option Item → List ℕ → List ℕ → Tree → Tree
left_or_written None path bytes files = written path bytes files
left_or_written (Some found) path bytes files = files

abbrev pub kept_or_written : List ℕ → List ℕ → Tree → Tree
kept_or_written path bytes files = left_or_written (item_at files path) path bytes files

-- what `put` leaves
abbrev pub tree_put : List ℕ → Node → Tree → Tree
tree_put store root = kept_or_written (tree_path store (sha256 (spelling_of root))) (spelling_of root)

-- the outside failed, or memory ran out
abbrev pub IsFree : {T : Type 0} → Result T StoreFault → Type 0
IsFree (Ok value) = ⊥
IsFree (Err fault) = IsTrue (is_free fault)

-- what putting bytes answers where a file of other bytes, or of these, stands
abbrev pub KeepsOver : List ℕ → List ℕ → List ℕ → Result Unit StoreFault → Type 0
KeepsOver digest bytes old (Ok done) = old ≡ bytes
KeepsOver digest bytes old (Err (Clash other)) = (other ≡ digest) × (old ≢ bytes)
KeepsOver digest bytes old (Err (File path)) = Unit {0}
KeepsOver digest bytes old (Err Memory) = Unit {0}
KeepsOver digest bytes old (Err (OddFile path)) = ⊥
KeepsOver digest bytes old (Err (Limit kind)) = ⊥
KeepsOver digest bytes old (Err (NoTree other)) = ⊥
KeepsOver digest bytes old (Err (Damaged asked found bad)) = ⊥

-- and what it answers by what stands at the path
abbrev pub Keeps : List ℕ → List ℕ → Option Item → Result Unit StoreFault → Type 0
Keeps digest bytes None (Ok done) = Unit {0}
Keeps digest bytes None (Err fault) = IsTrue (is_free fault)
Keeps digest bytes (Some (item.File exec old)) result = KeepsOver digest bytes old result
Keeps digest bytes (Some item.Folder) result = IsFree result
Keeps digest bytes (Some (item.Link target)) result = IsFree result
Keeps digest bytes (Some item.Odd) result = IsFree result

abbrev pub done_of : Result (List ℕ) StoreFault → Result Unit StoreFault
done_of (Ok digest) = Ok tt
done_of (Err fault) = Err fault

-- `Clash` comes exactly where the file of the tree's digest has other bytes.
abbrev pub Puts : List ℕ → Node → Tree → Result (List ℕ) StoreFault → Type 0
Puts store root files result = Keeps (sha256 (spelling_of root)) (spelling_of root)
    (item_at files (tree_path store (sha256 (spelling_of root)))) (done_of result)

-- what a refused `put` leaves: what a refused write of the file's bytes leaves, or where none was begun all as before
abbrev pub LeavesStore : StoreFault → List ℕ → List ℕ → Option Tree → Option Tree → Type 0
LeavesStore (File blamed) path bytes old new = LeavesPart old new path bytes
LeavesStore Memory path bytes old new = LeavesPart old new path bytes
LeavesStore (OddFile odd) path bytes old new = new ≡ old
LeavesStore (Limit kind) path bytes old new = new ≡ old
LeavesStore (NoTree digest) path bytes old new = new ≡ old
LeavesStore (Damaged asked found bad) path bytes old new = new ≡ old
LeavesStore (Clash digest) path bytes old new = new ≡ old

-- judged bytes as an answer
abbrev pub IsJudgedTree : Judged → Result Node StoreFault → Type 0
IsJudgedTree (judged.Tree tree) result = result ≡ Ok tree
IsJudgedTree (judged.Damaged asked found bad) result = result ≡ Err (Damaged asked found bad)

-- what `get` answers of the bytes of a tree's file
abbrev pub GetsOf : List ℕ → List ℕ → Result Node StoreFault → Type 0
GetsOf digest bytes (Ok tree) = (sha256 bytes ≡ digest) × Spells tree bytes
GetsOf digest bytes (Err (Damaged asked found bad)) = (asked ≡ digest) × (found ≡ sha256 bytes)
    × IsDamage digest bytes bad
GetsOf digest bytes (Err (File path)) = Unit {0}
GetsOf digest bytes (Err Memory) = Unit {0}
GetsOf digest bytes (Err (OddFile path)) = ⊥
GetsOf digest bytes (Err (Limit kind)) = ⊥
GetsOf digest bytes (Err (NoTree other)) = ⊥
GetsOf digest bytes (Err (Clash other)) = ⊥

-- and of what stands there
abbrev pub Gets : List ℕ → Option Item → Result Node StoreFault → Type 0
Gets digest None (Ok tree) = ⊥
Gets digest None (Err fault) = WhereDecided (cause_of fault) (fault ≡ NoTree digest)
Gets digest (Some (item.File exec bytes)) result = GetsOf digest bytes result
Gets digest (Some item.Folder) result = IsFree result
Gets digest (Some (item.Link target)) result = IsFree result
Gets digest (Some item.Odd) result = IsFree result
