-- What the calls of the layers below say, as steps of `check`.
use Rattle.std.proofs.Common.{refl, ℕ, Bool, List, Option, Some, None, Result, Err}
use Rattle.std.specs.Prelude.{IfSome}
use Rattle.cnb_world.specs.Tree.{Tree}
use Rattle.detect_record.specs.Checking.{cause_of as check_cause}
use Rattle.detect_record.specs.declared.outcome.CheckFault.{CheckFault}
use Rattle.detect_record.specs.declared.outcome.CheckFault.TheVariants as check
use Rattle.detect_record.specs.declared.outcome.Checked.{Checked}
use Rattle.doc_files.specs.Faults.{read_cause}
use Rattle.doc_files.specs.declared.fault.ReadFault.{ReadFault}
use Rattle.doc_files.specs.declared.fault.ReadFault.TheVariants as read
use Rattle.steps.specs.Causes.{IsAnswer}
use Rattle.steps.specs.Outside.{Seen}
use Rattle.steps.specs.Steps.{gives, map_err, reads}
use Rattle.steps.proofs.EndLaws.{files_rest}
use Rattle.steps.proofs.StepLemmas.{allowed_by, given_fault, mapped_fault}
use Rattle.cnb_record.specs.declared.refusal.CheckRefusal.TheVariants.{Memory}
use Rattle.cnb_record.specs.Refusals.{of_read_fault}

-- a record that was refused
pub follow_step : {S : Type 0} (fault : CheckFault) (want : Result Checked CheckFault) (old : S)
    → IsAnswer {A = Checked} check_cause (Err fault) want → gives check_cause want old (Err fault) old
follow_step (check.Bad line) want old h = given_fault check_cause want old (check.Bad line) h tt
follow_step check.Memory want old h = given_fault check_cause want old check.Memory tt tt

any_files : (o : Option Tree) → IfSome o (λ files. Unit {0})
any_files None = tt
any_files (Some files) = tt

-- memory ran out before a file was read
pub not_read : {T : Type 0} (Among : List ℕ → Type 0) (fits : Tree → Bool) (want : Tree → Result T ReadFault)
    (old : Seen) → map_err of_read_fault (reads read_cause Among fits want) old (Err Memory) old
unfolding reads
not_read Among fits want old =
    mapped_fault of_read_fault (reads read_cause Among fits want) old old read.Memory
    (record {
      same = record { files = refl; runs = refl };
      answer = any_files old.files;
      cause = tt;
      named = tt;
      allows = allowed_by fits old.files old.misused old.misused refl;
      counts = files_rest.memory old;
    })
