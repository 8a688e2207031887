-- What a call on trees in files answers.
use Rattle.std.specs.Prelude.{ℕ, Bool, true, false, ◌≡◌, ◌⊎◌, List, IsTrue}
use Rattle.cnb_world.specs.Tree.{is_within}
use Rattle.cnb_world.specs.declared.world.FileFault.{FileFault}
use Rattle.cnb_world.specs.declared.world.Kind.{Kind}
use Rattle.cnb_world.specs.declared.world.Kind.TheVariants as kind
use Rattle.cnb_world.specs.declared.world.FileFault.TheVariants as file_fault
use Rattle.steps.specs.Causes.{Cause, FileFailed, OutOfMemory, Decided}
use Rattle.tree_store.specs.declared.fault.StoreFault.{StoreFault}
use Rattle.tree_store.specs.declared.fault.StoreFault.TheVariants.{OddFile, Limit, File, NoTree, Damaged, Clash, Memory}

-- why a call is refused: a call on files failed, memory ran out, or what was read decides
abbrev pub cause_of : StoreFault → Cause
cause_of (File path) = FileFailed path
cause_of Memory = OutOfMemory
cause_of (OddFile path) = Decided
cause_of (Limit kind) = Decided
cause_of (NoTree digest) = Decided
cause_of (Damaged asked found bad) = Decided
cause_of (Clash digest) = Decided

-- a refusal that may come anyway: the outside failed, or memory ran out
abbrev pub is_free : StoreFault → Bool
is_free (File path) = true
is_free Memory = true
is_free (OddFile path) = false
is_free (Limit kind) = false
is_free (NoTree digest) = false
is_free (Damaged asked found bad) = false
is_free (Clash digest) = false

abbrev pub IsBlamed : List ℕ → StoreFault → Type 0
IsBlamed path (File blamed) = blamed ≡ path
IsBlamed path Memory = Unit {0}
IsBlamed path (OddFile other) = ⊥
IsBlamed path (Limit kind) = ⊥
IsBlamed path (NoTree digest) = ⊥
IsBlamed path (Damaged asked found bad) = ⊥
IsBlamed path (Clash digest) = ⊥

-- `File` carries this path
abbrev pub BlamesAt : List ℕ → StoreFault → Type 0
BlamesAt path (File blamed) = blamed ≡ path
BlamesAt path (OddFile odd) = Unit {0}
BlamesAt path (Limit kind) = Unit {0}
BlamesAt path (NoTree digest) = Unit {0}
BlamesAt path (Damaged asked found bad) = Unit {0}
BlamesAt path (Clash digest) = Unit {0}
BlamesAt path Memory = Unit {0}

-- a path is this one, or one below it
abbrev pub AtOrBelow : List ℕ → List ℕ → Type 0
AtOrBelow path named = IsTrue (is_within path named)

-- `File` carries this path, or one below it
abbrev pub BlamesWithin : List ℕ → StoreFault → Type 0
BlamesWithin path (File blamed) = AtOrBelow path blamed
BlamesWithin path (OddFile odd) = Unit {0}
BlamesWithin path (Limit kind) = Unit {0}
BlamesWithin path (NoTree digest) = Unit {0}
BlamesWithin path (Damaged asked found bad) = Unit {0}
BlamesWithin path (Clash digest) = Unit {0}
BlamesWithin path Memory = Unit {0}

-- `File` carries this path, one below it, or that of a tree's file
abbrev pub BlamesEither : List ℕ → List ℕ → StoreFault → Type 0
BlamesEither path file (File blamed) = IsTrue (is_within path blamed) ⊎ (blamed ≡ file)
BlamesEither path file (OddFile odd) = Unit {0}
BlamesEither path file (Limit kind) = Unit {0}
BlamesEither path file (NoTree digest) = Unit {0}
BlamesEither path file (Damaged asked found bad) = Unit {0}
BlamesEither path file (Clash digest) = Unit {0}
BlamesEither path file Memory = Unit {0}

-- a call on a path that failed is a refusal of that path, or memory ran out
abbrev pub Blames : List ℕ → FileFault → StoreFault → Type 0
Blames path file_fault.Failed refusal = IsBlamed path refusal
Blames path file_fault.Memory refusal = refusal ≡ Memory

-- of two refusals the later one, but where memory ran out first
abbrev pub IsLater : StoreFault → StoreFault → StoreFault → Type 0
IsLater Memory later result = result ≡ Memory
IsLater (File path) later result = result ≡ later
IsLater (OddFile odd) later result = result ≡ later
IsLater (Limit kind) later result = result ≡ later
IsLater (NoTree digest) later result = result ≡ later
IsLater (Damaged asked found bad) later result = result ≡ later
IsLater (Clash digest) later result = result ≡ later

abbrev pub is_odd_file : List ℕ → StoreFault → Type 0
is_odd_file path (OddFile odd) = odd ≡ path
is_odd_file path Memory = Unit {0}
is_odd_file path (File blamed) = ⊥
is_odd_file path (Limit kind) = ⊥
is_odd_file path (NoTree digest) = ⊥
is_odd_file path (Damaged asked found bad) = ⊥
is_odd_file path (Clash digest) = ⊥

-- what a kind is
abbrev pub is_file_kind : Kind → Bool
is_file_kind (kind.File exec len) = true
is_file_kind kind.Absent = false
is_file_kind kind.Folder = false
is_file_kind kind.Link = false
is_file_kind kind.Odd = false

abbrev pub is_absent_kind : Kind → Bool
is_absent_kind kind.Absent = true
is_absent_kind (kind.File exec len) = false
is_absent_kind kind.Folder = false
is_absent_kind kind.Link = false
is_absent_kind kind.Odd = false
