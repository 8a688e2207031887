-- The document that says how an image is launched, at its path.
use Rattle.std.proofs.Common.{◌≡◌, subst, ℕ, List, Option, Result, Err}
use Rattle.std.specs.Prelude.{IfSome}
use Rattle.cnb_world.specs.Tree.{Tree}
use Rattle.steps.specs.Causes.{IsAnswer}
use Rattle.doc_files.specs.Faults.{read_cause}
use Rattle.doc_files.specs.declared.fault.ReadFault.{ReadFault}
use Rattle.image_docs.specs.declared.launch_doc.LaunchDoc.{LaunchDoc}
use Rattle.cnb_launch.specs.Documents.{launch_doc_at, launch_doc_under}
use Rattle.cnb_launch.specs.Places.{launch_doc_path}

pub doc_read : (root path : List ℕ) (o : Option Tree) (result : Result LaunchDoc ReadFault)
    → path ≡ launch_doc_path root → IfSome o (λ files. IsAnswer read_cause result (launch_doc_at path files))
    → IfSome o (λ files. IsAnswer read_cause result (launch_doc_under root files))
unfolding launch_doc_under
doc_read root path o result same h = let P : List ℕ → Type 0 = λ p. IfSome o
    (λ files. IsAnswer read_cause result (launch_doc_at p files)) in subst P same h

pub doc_refused : (root path : List ℕ) (o : Option Tree) (fault : ReadFault) → path ≡ launch_doc_path root
    → IfSome o (λ files. IsAnswer {A = LaunchDoc} read_cause (Err fault) (launch_doc_at path files))
    → IfSome o (λ files. IsAnswer {A = LaunchDoc} read_cause (Err fault) (launch_doc_under root files))
doc_refused root path o fault same h = doc_read root path o (Err fault) same h
