-- Misuse of what is asked of a path where a folder stands there.
use Rattle.std.proofs.Common.{◌≡◌, ◌∙◌, sym, subst, ℕ, Bool, true, not, List, Option, Some, None}
use Rattle.std.specs.Prelude.{◌||◌}
use Rattle.std.specs.Option.{option_map}
use Rattle.cnb_world.specs.Calls.{MayMisuse}
use Rattle.cnb_world.specs.Tree.{Tree, is_folder, item_at}
use Rattle.order_files.proofs.Behind.{IsFolder, told_same}

-- what is asked of a path where that is a folder
module _ (path : List ℕ) (inside : Tree → Bool) where
  abbrev pub when_folder_fits : Tree → Bool
  when_folder_fits files = not (is_folder (item_at files path)) || inside files

  pub folder_fits : (o o1 : Option Tree) (x x1 y : ℕ) → o1 ≡ o → x1 ≡ x → IsFolder o path true
      → MayMisuse (option_map inside o1) x1 y → MayMisuse (option_map when_folder_fits o) x y
  folder_fits None o1 x x1 y e f h k = let P : Option Tree → Type 0 = λ t. MayMisuse (option_map inside t) x1 y
      in subst P e k ∙ f
  folder_fits (Some files) o1 x x1 y e f h k =
      let P : Option Tree → Type 0 = λ t. MayMisuse (option_map inside t) x1 y in
      let Q : Bool → Type 0 = λ is. MayMisuse (Some (not is || inside files)) x y in
      let R : ℕ → Type 0 = λ n. MayMisuse (Some (inside files)) n y in
      subst Q (sym (told_same (is_folder (item_at files path)) true h)) (subst R f (subst P e k))
