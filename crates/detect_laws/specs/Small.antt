-- A small order, and the files of a detection by it.
use Rattle.std.specs.Prelude.{ℕ, false, List, [], ◌∷◌, ◌++◌, codes, None}
use Rattle.std.specs.FinMap.{from_sorted}
use Rattle.bp_docs.specs.declared.descriptor.Body.TheVariants.{Component}
use Rattle.bp_docs.specs.declared.descriptor.Descriptor.{Descriptor}
use Rattle.bp_docs.specs.declared.descriptor.Entry.{Entry}
use Rattle.cnb_world.specs.Tree.{Tree}
use Rattle.cnb_world.specs.declared.world.Item.{Item}
use Rattle.cnb_world.specs.declared.world.Item.TheVariants.{File, Folder}

abbrev pub line : List ℕ → List ℕ
line text = text ++ 10 ∷ []

-- an order of one group, which names the buildpack `a`
abbrev pub small_order_file : List ℕ
small_order_file = line (codes "[[order]]") ++ line (codes "[[order.group]]") ++ line (codes "id = \"a\"")

abbrev pub small_descriptor : List ℕ
small_descriptor = line (codes "api = \"0.10\"") ++ line (codes "[buildpack]") ++ line (codes "id = \"a\"")
    ++ line (codes "version = \"1.0.0\"")

-- the order file, one buildpack with its descriptor, and the folder that the choice is written to
abbrev pub small_items : List (List ℕ × Item)
small_items = (codes "/b", Folder) ∷ (codes "/b/a", Folder) ∷ (codes "/b/a/1.0.0", Folder)
    ∷ (codes "/b/a/1.0.0/buildpack.toml", File false small_descriptor) ∷ (codes "/o", File false small_order_file)
    ∷ (codes "/w", Folder) ∷ []

abbrev pub small_files : Tree
small_files = from_sorted small_items

-- what they are read as
abbrev pub small_entry : Entry
small_entry = record { id = codes "a"; version = None; optional = false }

abbrev pub small_order : List (List Entry)
small_order = (small_entry ∷ []) ∷ []

abbrev pub small_buildpack : Descriptor
small_buildpack = record { key = record { id = codes "a"; version = codes "1.0.0" }; body = Component false [] }
