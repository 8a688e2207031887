-- The target of the run image that was analyzed (platform.md, "analyzed.toml (TOML)").
use Rattle.std.specs.Prelude.{ℕ, Bool, List, codes, Option, Result, Ok}
use Rattle.std.specs.Option.{option_map}
use Rattle.cnb_world.specs.Path.{joined}
use Rattle.cnb_world.specs.Tree.{Tree}
use Rattle.cnb_toml.specs.declared.target.Target.{Target}
use Rattle.doc_files.specs.declared.fault.ReadFault.{ReadFault}
use Rattle.image_docs.specs.Analyzed.{table_in}
use Rattle.image_docs.specs.declared.analyzed.Analyzed.{Analyzed}
use Rattle.steps.specs.Results.{◌>>=◌}
use Rattle.image_files.specs.Documents.{document_in, is_fit_document}

abbrev pub analyzed_document : List ℕ → List ℕ
analyzed_document work = joined work (codes "analyzed.toml")

abbrev pub target_of : Analyzed → Target
target_of analyzed = record { os = analyzed.os; arch = analyzed.arch }

-- the target that a work folder's document says; there is none where the document isn't there
abbrev pub target_at : List ℕ → Tree → Result (Option Target) ReadFault
target_at work files = document_in table_in (analyzed_document work) files
    >>= (λ found. Ok (option_map target_of found))

-- what stands where the target is read is of the kind that is needed
abbrev pub is_fit_target : List ℕ → Tree → Bool
is_fit_target work files = is_fit_document (analyzed_document work) files
