-- Images that were read, as steps.
use Rattle.std.proofs.Common.{◌≡◌, refl, subst, ℕ, ◌&&◌, List, true, Option, Some, None, Result, Ok, Err}
use Rattle.std.specs.Prelude.{IfOk, IfSome, IsTrue}
use Rattle.std.proofs.lemmas.Bool.{and_parts}
use Rattle.cnb_toml.specs.Names.{is_target_name}
use Rattle.cnb_world.specs.Tree.{Tree}
use Rattle.doc_files.specs.Faults.{read_cause}
use Rattle.doc_files.specs.declared.fault.ReadFault.{ReadFault}
use Rattle.doc_files.specs.declared.fault.ReadFault.TheVariants as read
use Rattle.image_docs.specs.declared.analyzed.Analyzed.{Analyzed}
use Rattle.image_docs.specs.declared.image.ImageDoc.{ImageDoc}
use Rattle.image_docs.specs.declared.run_image.RunDoc.{RunDoc}
use Rattle.image_docs.specs.EnvRows.{is_env}
use Rattle.image_docs.specs.RunImage.{is_run_doc, table_in}
use Rattle.cnb_toml.specs.Written.{is_filled}
use Rattle.image_files.specs.Documents.{IsRead}
use Rattle.image_files.proofs.ReadableLaws.{run_image_readable}
use Rattle.steps.specs.Causes.{IsAnswer}
use Rattle.steps.specs.Outside.{Seen}
use Rattle.steps.specs.Steps.{reads}
use Rattle.steps.proofs.EndLaws.{files_rest}
use Rattle.steps.proofs.StepLemmas.{allowed_by}
use Rattle.cnb_restore.specs.declared.fault.RestoreFault.{RestoreFault}
use Rattle.cnb_restore.specs.Analyzes.{OnlyImage, analyzes, is_fit_image, previous_in}
use Rattle.cnb_restore.specs.Faults.{cause_of, of_read_fault}

pub same_cause : (fault : ReadFault) → cause_of (of_read_fault fault) ≡ read_cause fault
same_cause (read.File path) = refl
same_cause (read.Document path fault) = refl
same_cause (read.Limit kind) = refl
same_cause read.Memory = refl

-- a name that there is none of needs no reading
no_image : {A : Type 0} (value : A) (o : Option Tree) → IfSome o (λ files. IsAnswer cause_of (Ok value) (Ok value))
no_image value None = tt
no_image value (Some files) = refl

pub read_nothing : {A : Type 0} (Among : List ℕ → Type 0) (value : A) (old : Seen)
    → reads cause_of Among (λ files. true) (λ files. Ok value) old (Ok value) old
unfolding reads
read_nothing Among value old = record {
  same = record { files = refl; runs = refl };
  answer = no_image value old.files;
  cause = tt;
  named = tt;
  allows = allowed_by (λ files. true) old.files old.misused old.misused refl;
  counts =
      files_rest.none old;
}

-- the same of a name that is equal
pub previous_as : (store : List ℕ) (name want : Option (List ℕ)) (old : Seen)
    (result : Result (Option ImageDoc) RestoreFault) (new : Seen) → name ≡ want
    → reads cause_of (OnlyImage store name) (is_fit_image store name) (previous_in store name) old result new
    → reads cause_of (OnlyImage store want) (is_fit_image store want) (previous_in store want) old result new
previous_as store name want old result new same h = subst
    (λ n. reads cause_of (OnlyImage store n) (is_fit_image store n) (previous_in store n) old result new) same h

pub analyzes_as : (store run : List ℕ) (previous want : Option (List ℕ)) (old : Seen)
    (result : Result Analyzed RestoreFault) (new : Seen) → previous ≡ want
    → analyzes store run previous old result new → analyzes store run want old result new
analyzes_as store run previous want old result new same h = subst (λ p. analyzes store run p old result new) same h

-- a run image that was found was read
pub readable_named : (found : Option RunDoc) (result : Result RunDoc RestoreFault)
    → IfSome found (IsRead table_in) → IfOk result (λ image. found ≡ Some image)
    → IfOk result (λ image. IsTrue (is_run_doc image))
readable_named found (Err fault) read is = tt
readable_named found (Ok image) read is = run_image_readable image
    (let at : IfSome (Some image) (IsRead table_in) = subst (λ o. IfSome o (IsRead table_in)) is read in at)

pub run_named : (run : RunDoc) → IsTrue (is_run_doc run) → IsTrue (is_target_name run.os && is_target_name run.arch)
run_named run h = (and_parts (is_target_name run.os && is_target_name run.arch)
    (is_filled run.rows && is_env run.env) h).0
