-- Gathering the rows of caches.
use Rattle.std.specs.Prelude.{ℕ, ◌≡◌, List, [], ◌∷◌, ◌++◌, length, map, fold, filter, flat_map, nat_lt, Option, None}
use Rattle.std.specs.Prelude.{is_some, is_none, unwrap_or, IfSome, if◌then◌else◌}
use Rattle.std.specs.List.{AllByRecursion}
use Rattle.std.specs.Option.{option_map}
use Rattle.std.specs.Result.{result_ok}
use Rattle.std.specs.FinMap.{get}
use Rattle.cnb_world.specs.Shelf.{Held}
use Rattle.cnb_toml.specs.Distinct.{has_key}
use Rattle.image_docs.specs.declared.layer_row.LayerRow.{LayerRow}
use Rattle.image_docs.specs.CacheRows.{cache_in}
use Rattle.image_docs.specs.LayerRow.{layer_key, same_layer}
use Rattle.shelf_set.specs.ShelfState.{ShelfState}
use Rattle.shelf_set.specs.Dropping.{Turn, left_of, Drops}
use Rattle.shelf_set.specs.Finding.{TellsSame}
use Rattle.shelf_set.specs.declared.giving.Given.{Given}
use Rattle.shelf_set.specs.declared.gathering.Gathered.{Gathered}

-- the rows that a cache's document reads as; none where it is refused or above the limit of documents
abbrev pub document_rows : List ℕ → Option (List LayerRow)
document_rows bytes = if nat_lt 1048576 (length bytes) then None else result_ok (cache_in bytes)

-- those of some rows whose trees a cache holds
abbrev pub held_rows : Held → List LayerRow → List LayerRow
held_rows held rows = filter (λ row. is_some (get held row.digest)) rows

-- what a cache gives: rows whose trees it holds, or nothing where its document is refused
abbrev pub given_by : Held → List ℕ → Option (List LayerRow)
given_by held document = option_map (held_rows held) (document_rows document)

-- a shelf gave this; of one that doesn't tell nothing is said
abbrev pub HasGiven : Turn → Given → Type 0
HasGiven t given = (given.number ≡ t.number) × IfSome t.after.rows
    (λ document. IfSome t.after.held (λ held. given.rows ≡ given_by held document))

-- these shelves gave these, each its own
abbrev pub HaveGiven : List Turn → List Given → Type 0
HaveGiven [] given = given ≡ []
HaveGiven (t ∷ ts) [] = ⊥
HaveGiven (t ∷ ts) (given ∷ others) = HasGiven t given × HaveGiven ts others

-- a row more, unless one of its layer is there
abbrev pub with_row : List LayerRow → LayerRow → List LayerRow
with_row rows row = if has_key same_layer layer_key rows (layer_key row) then rows else rows ++ row ∷ []

-- of rows of one layer the first
abbrev pub first_rows : List LayerRow → List LayerRow
first_rows rows = fold with_row [] rows

abbrev pub all_rows : List Given → List LayerRow
all_rows given = flat_map (λ one. unwrap_or one.rows []) given

-- the numbers of the shelves whose documents are refused
abbrev pub unread_of : List Given → List ℕ
unread_of given = map (λ one. one.number) (filter (λ one. is_none one.rows) given)

-- What is answered and left: the failed shelves are dropped, all shelves tell what they told, and the rows are those
-- that the shelves left gave, in order, of one layer the first.
pub record Gathers (old : List ShelfState) (places : List ℕ) (answer : Gathered) (new : List ShelfState)
    (standing : List ℕ) : Type 0 where
  pub turns : List Turn
  pub drops : Drops turns old new places standing answer.gone
  pub same : AllByRecursion TellsSame turns
  pub given : List Given
  pub gave : HaveGiven (left_of turns) given
  pub rows : answer.rows ≡ first_rows (all_rows given)
  pub unread : answer.unread ≡ unread_of given
