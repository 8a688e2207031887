-- Layers whose folders were stored in caches, where their rows can be read if another fact holds.
use Rattle.std.proofs.Common.{ℕ, Bool, IsTrue, List, Result, Ok, Err, inl, inr}
use Rattle.image_docs.specs.declared.layer_row.LayerRow.{LayerRow}
use Rattle.shelf_set.specs.Caches.{Caches, WorldAndCaches}
use Rattle.shelf_set.specs.Caching.{StoresRead, StoresSomeRows, stores_folders}
use Rattle.shelf_set.specs.ShelfState.{ShelfState}
use Rattle.tree_canon.specs.declared.node.Node.{Node}
use Rattle.tree_store.specs.declared.fault.StoreFault.{StoreFault}

module _ (readable given : Bool) (follows : IsTrue given → IsTrue readable) (rows : List LayerRow) where
  part_where : (trees : List Node) (old : List ShelfState) (places : List ℕ) (new : List ShelfState)
      (standing : List ℕ) → StoresSomeRows readable rows trees old places new standing
      → StoresSomeRows given rows trees old places new standing
  part_where trees old places new standing (inl none) = inl none
  part_where trees old places new standing (inr part) = inr (record {
    named = part.named;
    document = part.document;
    reads = λ known. part.reads (follows known);
    stores = part.stores;
  })

  read_where : (read : Result (List Node) StoreFault) (result : Result (List ℕ) StoreFault) (old new : Caches)
      → StoresRead readable rows read result old new → StoresRead given rows read result old new
  read_where (Ok trees) (Ok gone) old new h = record {
    named = h.named;
    document = h.document;
    reads = λ known. h.reads (follows known);
    stores = h.stores;
  }
  read_where (Err refusal) (Err fault) old new (same, (trees, part)) =
      (same, (trees, part_where trees old.shelves old.standing new.shelves new.standing part))
  read_where (Ok trees) (Err fault) old new h = absurd h
  read_where (Err refusal) (Ok gone) old new h = absurd h

  pub stored_where : (folders : List (List ℕ)) (old : WorldAndCaches) (result : Result (List ℕ) StoreFault)
      (new : WorldAndCaches) → stores_folders readable rows folders old result new
      → stores_folders given rows folders old result new
  unfolding stores_folders
  stored_where folders old result new h = record {
    read = h.read;
    reads = h.reads;
    stores = read_where h.read result old.caches new.caches h.stores;
  }
