-- What is written of a restored layer (platform.md, "restorer"; buildpack.md, "Layer Content Metadata (TOML)").
use Rattle.std.specs.Prelude.{ℕ, false, ◌≡◌, List, codes, Option, Some, None, Result, Ok, IsTrue}
use Rattle.cnb_toml.specs.Meta.{is_kept}
use Rattle.cnb_toml.specs.declared.meta.Meta.{Meta}
use Rattle.cnb_world.specs.Path.{joined}
use Rattle.image_docs.specs.declared.layer_row.LayerRow.{LayerRow}
use Rattle.image_docs.specs.declared.store_row.StoreRow.{StoreRow}
use Rattle.run_docs.specs.Layer.{layer_in}
use Rattle.run_docs.specs.Store.{store_in}
use Rattle.run_docs.specs.declared.layer.LayerDoc.{LayerDoc}
use Rattle.steps.specs.Outside.{Seen}
use Rattle.steps.specs.Steps.{writes, yields}
use Rattle.cnb_restore.specs.declared.fault.RestoreFault.{RestoreFault}
use Rattle.cnb_restore.specs.Faults.{cause_of}
use Rattle.image_files.specs.Paths.{document_name}

-- its document: the metadata, for nothing yet
abbrev pub restored_doc : Meta → LayerDoc
restored_doc meta = record { launch = false; build = false; cache = false; meta = meta }

-- bytes that read as it; metadata that was read from a document can be written
abbrev pub ReadsAsLayer : Meta → List ℕ → Type 0
ReadsAsLayer meta bytes = IsTrue (is_kept meta) → layer_in bytes ≡ Ok (restored_doc meta)

abbrev pub ReadsAsStore : Meta → List ℕ → Type 0
ReadsAsStore meta bytes = IsTrue (is_kept meta) → store_in bytes ≡ Ok (record { meta = meta })

unfoldable pub writes_layer : List ℕ → LayerRow → Seen → Result (Unit {0}) RestoreFault → Seen → Type 0
writes_layer folder row = writes cause_of (joined folder (document_name row.layer)) (ReadsAsLayer row.meta)

-- `store.toml`, where the previous image keeps something for the buildpack
unfoldable pub writes_store : List ℕ → Option StoreRow → Seen → Result (Unit {0}) RestoreFault → Seen → Type 0
writes_store folder None = yields tt
writes_store folder (Some row) = writes cause_of (joined folder (codes "store.toml")) (ReadsAsStore row.meta)
