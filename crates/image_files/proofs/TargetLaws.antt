-- What was read of `analyzed.toml` says a target of names.
use Rattle.std.proofs.Common.{◌≡◌, refl, sym, subst, ℕ, ◌&&◌, List, codes, Option, Some, None, Result, Ok, Err}
use Rattle.std.specs.Prelude.{IfSome, IsTrue}
use Rattle.std.specs.Option.{option_map}
use Rattle.std.proofs.lemmas.Bool.{and_from}
use Rattle.cnb_world.specs.Calls.{MayMisuse}
use Rattle.cnb_world.specs.Tree.{Tree}
use Rattle.cnb_toml.specs.Document.{document_of}
use Rattle.cnb_toml.specs.Fields.{optional_at, required_at}
use Rattle.cnb_toml.specs.Form.{name_of}
use Rattle.cnb_toml.specs.Names.{is_image_name, is_target_name}
use Rattle.cnb_toml.specs.Reading.{◌>>=◌}
use Rattle.cnb_toml.specs.declared.fault.DocFault.{DocFault}
use Rattle.cnb_toml.specs.declared.target.Target.{Target}
use Rattle.doc_files.specs.Faults.{read_cause}
use Rattle.doc_files.specs.declared.fault.ReadFault.{ReadFault}
use Rattle.image_docs.specs.Analyzed.{is_analyzed, table_in}
use Rattle.image_docs.specs.declared.analyzed.Analyzed.{Analyzed}
use Rattle.image_docs.proofs.Answered.{Holds, at_required, holds_of, in_document, in_name}
use Rattle.steps.specs.Causes.{IsAnswer}
use Rattle.steps.proofs.ReadingLaws.{refused_where}
use Rattle.image_files.specs.Documents.{IsRead, document_in, is_fit_document}
use Rattle.image_files.specs.Target.{analyzed_document, is_fit_target, target_at, target_of}
use Rattle.image_files.proofs.ToldReads.{decided_by}

analyzed_made : (run os arch : Result (List ℕ) DocFault) (previous : Result (Option (List ℕ)) DocFault)
    → Holds is_target_name os → Holds is_target_name arch
    → Holds is_analyzed (run >>= (λ r. os >>= (λ o. arch >>=
    (λ a. previous >>= (λ p. Ok (record { run = r; os = o; arch = a; previous = p }))))))
analyzed_made (Err fault) os arch previous h k = tt
analyzed_made (Ok r) (Err fault) arch previous h k = tt
analyzed_made (Ok r) (Ok o) (Err fault) previous h k = tt
analyzed_made (Ok r) (Ok o) (Ok a) (Err fault) h k = tt
analyzed_made (Ok r) (Ok o) (Ok a) (Ok p) h k = and_from (is_target_name o) (is_target_name a) h k

pub analyzed_named : (analyzed : Analyzed) → IsRead table_in analyzed → IsTrue (is_analyzed analyzed)
analyzed_named analyzed (bytes, h) =
    holds_of is_analyzed (document_of table_in bytes) analyzed
    (in_document table_in is_analyzed
    (λ table. analyzed_made (required_at (name_of is_image_name) (codes "run") table)
    (required_at (name_of is_target_name) (codes "os") table)
    (required_at (name_of is_target_name) (codes "arch") table)
    (optional_at (name_of is_image_name) (codes "previous") table)
    (at_required (name_of is_target_name) is_target_name (in_name is_target_name) (codes "os") table)
    (at_required (name_of is_target_name) is_target_name (in_name is_target_name) (codes "arch") table))
    bytes) h

named_target : (found : Option Analyzed) → IfSome found (IsRead table_in)
    → IfSome (option_map target_of found) (λ target. IsTrue
    (is_target_name target.os && is_target_name target.arch))
named_target None h = tt
named_target (Some analyzed) h = analyzed_named analyzed h

module _ (path work : List ℕ) (e : path ≡ analyzed_document work) where
  -- the document was read
  pub target_read : (found : Option Analyzed) (target : Option Target) (o : Option Tree)
      → target ≡ option_map target_of found → IfSome o (λ files. IsAnswer read_cause (Ok found)
      (document_in table_in path files))
      → IfSome o (λ files. IsAnswer read_cause (Ok target) (target_at work files))
  target_read found target o is h =
      subst (λ t. IfSome o (λ files. IsAnswer read_cause (Ok t) (target_at work files))) (sym is)
      (decided_by read_cause (document_in table_in (analyzed_document work))
      (λ f. Ok (option_map target_of f)) o found (Ok (option_map target_of found))
      (subst (λ p. IfSome o (λ files. IsAnswer read_cause (Ok found) (document_in table_in p files))) e h) refl)

  -- or it was refused
  pub target_refused : (fault : ReadFault) (o : Option Tree)
      → IfSome o (λ files. IsAnswer {A = Option Analyzed} read_cause (Err fault)
      (document_in table_in path files))
      → IfSome o (λ files. IsAnswer {A = Option Target} read_cause (Err fault) (target_at work files))
  target_refused fault o h =
      refused_where read_cause o (document_in table_in (analyzed_document work))
      (λ found files. Ok (option_map target_of found)) fault
      (subst (λ p. IfSome o (λ files. IsAnswer {A = Option Analyzed} read_cause (Err fault)
      (document_in table_in p files))) e h)

  pub target_fits : (o : Option Tree) (before now : ℕ) → MayMisuse
      (option_map (is_fit_document path) o) before now → MayMisuse (option_map (is_fit_target work) o) before now
  target_fits o before now h = subst (λ p. MayMisuse (option_map (is_fit_document p) o) before now) e h

pub target_named : (found : Option Analyzed) (target : Option Target) → target ≡ option_map target_of found
    → IfSome found (IsRead table_in) → IfSome target (λ t. IsTrue (is_target_name t.os && is_target_name t.arch))
target_named found target is h = subst (λ o. IfSome o
    (λ t. IsTrue (is_target_name t.os && is_target_name t.arch))) (sym is) (named_target found h)
