-- What a store has under the digests of trees.
use Rattle.std.specs.Prelude.{ℕ, ◌≡◌, ◌⊎◌, List, IsTrue}
use Rattle.cnb_world.specs.Tree.{Tree, is_file, item_at}
use Rattle.image_docs.specs.DigestText.{is_digest}
use Rattle.store_prune.specs.Verifying.{HasTreeFile}
use Rattle.tree_store.specs.Store.{tree_path}

-- a file is there under a digest
abbrev pub HasFile : List ℕ → Tree → List ℕ → Type 0
HasFile store files digest = IsTrue (is_file (item_at files (tree_path store digest)))

-- each file that is there under a digest spells a tree of that digest
pub record IsSound (store : List ℕ) (files : Tree) : Type 0 where
  pub spells : (digest : List ℕ) → IsTrue (is_digest digest) → HasFile store files digest
      → HasTreeFile store files digest

-- under a digest is what was there
abbrev pub Stays : List ℕ → Tree → Tree → List ℕ → Type 0
Stays store before after digest = item_at after (tree_path store digest) ≡ item_at before (tree_path store digest)

-- Each file that was there under a digest is there as it was, and each other file that is there spells a tree of its
-- digest.
pub record Grows (store : List ℕ) (before after : Tree) : Type 0 where
  pub keeps : (digest : List ℕ) → IsTrue (is_digest digest) → HasFile store before digest
      → Stays store before after digest
  pub adds : (digest : List ℕ) → IsTrue (is_digest digest) → HasFile store after digest
      → Stays store before after digest ⊎ HasTreeFile store after digest
