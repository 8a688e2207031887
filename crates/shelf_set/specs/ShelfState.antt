-- What contracts see of a shelf.
pub use Rattle.tree_store.specs.ShelfState.{ShelfState, state_of, shelf_seen, shelves_seen}
