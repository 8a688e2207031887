-- An image that is laid out.
use Rattle.std.proofs.Common.{◌≡◌, ◌∙◌, refl, ap, subst, ℕ, ◌<◌, ◌≤◌, nat_le, List, length, get_or, IsTrue, Result, Ok}
use Rattle.std.proofs.Common.{Err}
use Rattle.std.specs.List.{list_all}
use Rattle.std.proofs.lemmas.Bool.{and_parts, leb-true}
use Rattle.std.proofs.lemmas.List.Sums.{AllPass-from_list_all}
use Rattle.cnb_world.specs.Path.{is_path, is_short_path}
use Rattle.image_docs.specs.By.{is_by}
use Rattle.image_docs.specs.Row.{is_row}
use Rattle.image_docs.specs.declared.row.Row.{Row}
use Rattle.steps.specs.Each.{for_each}
use Rattle.steps.specs.Outside.{Seen}
use Rattle.tree_canon.specs.declared.node.Node.{Node}
use Rattle.tree_store.specs.Steps.{lays_tree}
use Rattle.tree_store.specs.declared.fault.StoreFault.{StoreFault}
use Rattle.cnb_launch.specs.Faults.{cause_of}
use Rattle.cnb_launch.specs.Unpacking.{lays_row, makes}
use Rattle.cnb_launch.specs.declared.fault.LaunchFault.{LaunchFault}
use Rattle.cnb_launch.specs.declared.fault.LaunchFault.TheVariants.{Memory}

pub one_row : (rows : List Row) (i : ℕ) (row : Row) → i < length rows → row ≡ get_or rows i row
    → IsTrue (list_all is_row rows) → IsTrue (is_row row)
one_row rows i row lt is all = ap is_row is ∙ AllPass-from_list_all is_row rows all i row lt

-- the place of a row leaves room for the root
pub row_short : (row : Row) → IsTrue (is_row row) → length row.place ≤ 4096
row_short row h =
    let (place, by) = and_parts (is_short_path row.place) (is_by row.by) h in
    let (short, path) = and_parts (nat_le (length row.place) 4096) (is_path row.place) place in
    leb-true (length row.place) 4096 short

pub made : {S : Type 0} (Says : List ℕ → Type 0) (old : S) (bytes : List ℕ) → Says bytes
    → makes {S = S} cause_of Says old (Ok bytes) old
unfolding makes
made Says old bytes h = (refl, h)

pub not_made : {S : Type 0} (Says : List ℕ → Type 0) (old : S) → makes {S = S} cause_of Says old (Err Memory) old
unfolding makes
not_made Says old = (refl, refl)

-- the same tree at the same place, and the same rows
pub laid_as : (root place other : List ℕ) (tree node : Node) (old new : Seen)
    (result : Result (Unit {0}) StoreFault) → place ≡ other → tree ≡ node
    → lays_tree root place tree old result new → lays_tree root other node old result new
laid_as root place other tree node old new result same_place same_tree h =
    let At : List ℕ → Type 0 = λ p. lays_tree root p tree old result new in
    let Of : Node → Type 0 = λ t. lays_tree root other t old result new in
    subst Of same_tree (subst At same_place h)

pub rows_as : (store root : List ℕ) (rows other : List Row) (old new : Seen)
    (result : Result (Unit {0}) LaunchFault) → rows ≡ other
    → for_each (lays_row store root) rows tt old result new
    → for_each (lays_row store root) other tt old result new
rows_as store root rows other old new result same h = let P : List Row
    → Type 0 = λ rs. for_each (lays_row store root) rs tt old result new in subst P same h
