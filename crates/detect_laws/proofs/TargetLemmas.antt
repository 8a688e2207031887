-- A sound target is read.
use Rattle.std.proofs.Common.{◌≡◌, ◌∙◌, ap, ℕ, List, Option, Some, None, Result, Ok, inl, inr}
use Rattle.std.specs.Option.{option_map}
use Rattle.cnb_toml.specs.declared.target.Target.{Target}
use Rattle.cnb_world.specs.Tree.{Tree, item_at}
use Rattle.doc_files.specs.Reading.{read_at}
use Rattle.doc_files.specs.declared.fault.ReadFault.{ReadFault}
use Rattle.image_docs.specs.Analyzed.{analyzed_in, table_in}
use Rattle.image_docs.specs.declared.analyzed.Analyzed.{Analyzed}
use Rattle.image_files.specs.Documents.{found_of, some_of}
use Rattle.image_files.specs.Target.{analyzed_document, target_at, target_of}
use Rattle.steps.specs.Results.{and_then}
use Rattle.detect_laws.specs.Documents.{IsAbsentOr}
use Rattle.detect_laws.proofs.BuildpackLemmas.{Reads}
use Rattle.detect_laws.proofs.DocumentLemmas.{then_bytes, then_nothing}

abbrev with_target : Result (Option Analyzed) ReadFault → Result (Option Target) ReadFault
with_target found = and_then found (λ analyzed. Ok (option_map target_of analyzed))

pub target_unknown : (files : Tree) (work : List ℕ) → item_at files (analyzed_document work) ≡ None
    → target_at work files ≡ Ok None
target_unknown files work absent = ap with_target
    (then_nothing files (analyzed_document work) (found_of table_in (analyzed_document work)) absent)

pub target_read : (files : Tree) (work : List ℕ)
    → IsAbsentOr analyzed_in files (analyzed_document work) (λ analyzed. Unit {0}) → Reads (target_at work files)
target_read files work (inl absent) = (None, target_unknown files work absent)
target_read files work (inr (analyzed, h, u)) = (
  Some (target_of analyzed),
  ap with_target (then_bytes files (analyzed_document work) (found_of table_in (analyzed_document work))
      analyzed_in analyzed h ∙ ap (λ r. some_of (read_at (analyzed_document work) r)) h.valid),
)
