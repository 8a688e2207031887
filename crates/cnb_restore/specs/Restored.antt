-- What was restored, step by step.
use Rattle.std.specs.Prelude.{ℕ, Bool, ◌++◌, List, [], ◌∷◌, length}
use Rattle.image_docs.specs.declared.layer_row.LayerRow.{LayerRow}
use Rattle.cnb_restore.specs.declared.restored.Restored.{Restored}
use Rattle.cnb_restore.specs.declared.restored.RestoredRow.{RestoredRow}

-- nothing before the first buildpack; these caches are refused their rows, and these were dropped
abbrev pub gathered_first : List ℕ → List ℕ → Restored
gathered_first unread gone = record { rows = []; unread = unread; gone = gone; searches = length gone ∷ [] }

-- one search more, which dropped these caches
abbrev pub after_search : List ℕ → Restored → Restored
after_search more restored = record {
  rows = restored.rows;
  unread = restored.unread;
  gone = restored.gone ++ more;
  searches = restored.searches ++ length (restored.gone ++ more) ∷ [];
}

-- a layer that was restored, with its contents or without
abbrev pub restored_row : LayerRow → Bool → RestoredRow
restored_row row contents = record { id = row.id; layer = row.layer; contents = contents }

-- one layer more
abbrev pub with_layer : LayerRow → Bool → Restored → Restored
with_layer row contents restored = record {
  rows = restored.rows ++ restored_row row contents ∷ [];
  unread = restored.unread;
  gone = restored.gone;
  searches = restored.searches;
}
