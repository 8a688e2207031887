-- Folders in which all names are text.
use Rattle.std.specs.Prelude.{ℕ, List, IsTrue, is_some}
use Rattle.std.specs.Str.{is_utf8}
use Rattle.cnb_world.specs.Tree.{Tree, is_within, item_at}

-- each path of a folder or below it, at which something stands, is text: a folder with another name can't be listed
pub record AreTexts (folder : List ℕ) (files : Tree) : Type 0 where
  pub text : (path : List ℕ) → IsTrue (is_within folder path) → IsTrue (is_some (item_at files path))
      → IsTrue (is_utf8 path)
