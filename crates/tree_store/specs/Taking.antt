-- What calls take of the bytes that they read, whatever these are, and how they change files.
use Rattle.std.specs.Prelude.{ℕ, Bool, true, ◌≡◌, ◌≤◌, ◌+◌, ◌++◌, ◌∷◌, List, length, Option, None, if◌then◌else◌}
use Rattle.std.specs.Int.{to_be_bytes, w32, w64}
use Rattle.std.specs.Option.{option_map}
use Rattle.sha2.specs.Hashers.{Holds256}
use Rattle.sha2.specs.Sha256.{sha256}
use Rattle.cnb_world.specs.Tree.{Tree}
use Rattle.steps.specs.Outside.{Seen}
use Rattle.tree_canon.specs.Fits.{entries_fit, fits, name_fits}
use Rattle.tree_canon.specs.Names.{is_target}
use Rattle.tree_canon.specs.Spelling.{entries_bytes, entry_bytes, limit, name_bytes, node_bytes}
use Rattle.tree_canon.specs.declared.node.Named.{Named}
use Rattle.tree_canon.specs.declared.node.Node.{Node}
use Rattle.tree_canon.specs.declared.node.Node.TheVariants.{Folder, File, Link}
use Rattle.tree_store.specs.Laying.{entries_laid, entry_laid, node_laid}
use Rattle.tree_store.specs.Source.{Source}

-- these bytes were taken and hashed, and the files changed so
pub record Takes (bytes : List ℕ) (change : Tree → Tree) (source : Source) (old : Seen) (after : Source) (new : Seen)
    : Type 0 where
  pub digest : after.digest ≡ source.digest
  pub at : after.at ≡ source.at + length bytes
  pub few : source.at ≤ limit → after.at ≤ limit
  pub hashed : (taken : List ℕ) → Holds256 source.hasher taken → Holds256 after.hasher (taken ++ bytes)
  pub files : new.files ≡ option_map change old.files

-- and nothing changed
abbrev pub TakesBytes : List ℕ → Source → Seen → Source → Seen → Type 0
TakesBytes bytes = Takes bytes (λ files. files)

-- the target of a link, which was laid at a path
pub record TakesLink (path : List ℕ) (source : Source) (old : Seen) (after : Source) (new : Seen) : Type 0 where
  pub target : List ℕ
  pub form : is_target target ≡ true
  pub takes : Takes (name_bytes target) (node_laid (Link target) path) source old after new

-- the contents of a file, so many bytes
pub record TakesContents (exec : Bool) (len : ℕ) (path : List ℕ) (source : Source) (old : Seen) (after : Source)
    (new : Seen) : Type 0 where
  pub bytes : List ℕ
  pub count : length bytes ≡ len
  pub takes : Takes bytes (node_laid (File exec bytes) path) source old after new

-- a file behind its first byte
pub record TakesFile (path : List ℕ) (source : Source) (old : Seen) (after : Source) (new : Seen) : Type 0 where
  pub exec : Bool
  pub bytes : List ℕ
  pub takes : Takes ((if exec then 1 else 0) ∷ (to_be_bytes w64 (length bytes) ++ bytes))
      (node_laid (File exec bytes) path) source old after new

-- a node that fits at a depth, which was laid so
pub record TakesNode (depth : ℕ) (lay : Node → Tree → Tree) (source : Source) (old : Seen) (after : Source)
    (new : Seen) : Type 0 where
  pub node : Node
  pub fit : fits node depth ≡ true
  pub takes : Takes (node_bytes node) (lay node) source old after new

-- a folder behind its first byte
pub record TakesFolder (depth : ℕ) (path : List ℕ) (source : Source) (old : Seen) (after : Source) (new : Seen)
    : Type 0 where
  pub all : List Named
  pub fit : fits (Folder all) depth ≡ true
  pub takes : Takes (to_be_bytes w32 (length all) ++ entries_bytes all) (node_laid (Folder all) path)
      source old after new

-- so many entries of a folder
pub record TakesEntries (count depth : ℕ) (path : List ℕ) (source : Source) (old : Seen) (after : Source)
    (new : Seen) : Type 0 where
  pub all : List Named
  pub number : length all ≡ count
  pub fit : entries_fit None all depth ≡ true
  pub takes : Takes (entries_bytes all) (entries_laid all path) source old after new

-- an entry of this name, behind the last one of its folder
pub record TakesEntry (last : Option (List ℕ)) (depth : ℕ) (folder name : List ℕ) (source : Source) (old : Seen)
    (after : Source) (new : Seen) : Type 0 where
  pub node : Node
  pub form : name_fits last name ≡ true
  pub fit : fits node depth ≡ true
  pub takes : Takes (entry_bytes (record { name = name; node = node }))
      (entry_laid (record { name = name; node = node }) folder) source old after new

-- Some tree was laid. Its bytes behind those that were hashed before have the digest, and they are few enough.
pub record LaysTaken (lay : Node → Tree → Tree) (source : Source) (old new : Option Tree) : Type 0 where
  pub tree : Node
  pub fit : fits tree 0 ≡ true
  pub named : (taken : List ℕ) → Holds256 source.hasher taken → sha256 (taken ++ node_bytes tree) ≡ source.digest
  pub few : source.at ≤ limit → source.at + length (node_bytes tree) ≤ limit
  pub files : new ≡ option_map (lay tree) old
