use Rattle.std.proofs.Common.{◌≡◌, refl}
use Rattle.steps.proofs.StepLemmas.{write_refused, written_so}
use Rattle.cnb_build.specs.Refusals.{cause_of}
use Rattle.cnb_build.proofs.BuildSteps.{call_counted, write_cause}
use Rattle.cnb_build.proofs.preparing.write_at.Goals as goal

pub returns-in-Ok : goal.returns-in-Ok
returns-in-Ok g c =
    record {
      step = written_so g.W.World cause_of c.args.path.now
          (λ written. written ≡ c.args.bytes.now) c.args.bytes.now _ _ refl c.in-Ok.ensures.ok c.in-Ok.ensures.fit
          c.write_whole.ensures.runs c.write_whole.ensures.misused
          (record { ends = tt; files = c.in-Ok.ensures.files; children = c.write_whole.ensures.children });
    }

pub returns-in-Err : goal.returns-in-Err
returns-in-Err g c =
    record {
      step = write_refused g.W.World cause_of c.args.path.now
          (λ written. written ≡ c.args.bytes.now) c.args.bytes.now _ _ _
          (write_cause c.args.path.now _ c.blamed.result _ c.blamed.ensures c.from.ensures) refl
          c.in-Err.ensures.err c.write_whole.ensures.runs c.write_whole.ensures.misused
          (call_counted (Unit {0}) c.args.path.now _ c.blamed.result _ _ _ c.in-Err.ensures.files
          c.write_whole.ensures.children c.blamed.ensures c.from.ensures);
    }
