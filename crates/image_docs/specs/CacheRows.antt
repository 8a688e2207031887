-- The layers that a cache keeps.
use Rattle.std.specs.Prelude.{ℕ, Bool, true, List, Result, codes}
use Rattle.toml.specs.Data.{Members, no_members, member}
use Rattle.cnb_toml.specs.declared.fault.DocFault.{DocFault}
use Rattle.cnb_toml.specs.Document.{document_of}
use Rattle.image_docs.specs.declared.layer_row.LayerRow.{LayerRow}
use Rattle.image_docs.specs.LayerRow.{layers_at, are_layers, layers_data}

-- the layers that bytes read as, or their first fault
abbrev pub cache_in : List ℕ → Result (List LayerRow) DocFault
cache_in bytes = document_of (layers_at true) bytes

-- layers that can be read: no two are one, and each has the flag `cache` and kept metadata
abbrev pub is_cache_doc : List LayerRow → Bool
is_cache_doc rows = are_layers true rows

-- what is written of them
abbrev pub cache_members : List LayerRow → Members
cache_members rows = member (codes "layers") (layers_data rows) no_members
