use Rattle.std.proofs.Common.{refl}
use Rattle.cnb_lifecycle.proofs.EndLemmas.{arm, busy, known, lifted_caches, lifted_outside, lifted_world}
use Rattle.cnb_lifecycle.proofs.top.run_asked.Goals as goal

pub returns-in-Detect-clause-does : goal.returns-in-Detect-clause-does
returns-in-Detect-clause-does g c = (
  c.args.places,
  arm _ _ _ _ _ _ c.in-Detect.is
      (lifted_outside _ _ _ _ _ c.run_detect.ensures.steps),
)

pub returns-in-Build-clause-does : goal.returns-in-Build-clause-does
returns-in-Build-clause-does g c = (
  c.args.places,
  arm _ _ _ _ _ _ c.in-Build.is
      (lifted_world _ _ _ _ _ _ c.run_build.ensures.steps),
)

pub returns-in-Analyze-clause-does : goal.returns-in-Analyze-clause-does
returns-in-Analyze-clause-does g c = (
  c.args.places,
  arm _ _ _ _ _ _ c.in-Analyze.is
      (lifted_world _ _ _ _ _ _ c.run_analyze.ensures.steps),
)

pub returns-in-Restore-clause-does : goal.returns-in-Restore-clause-does
returns-in-Restore-clause-does g c = (
  c.run_restore.ensures.steps.0,
  arm _ _ _ _ _ _ c.in-Restore.is
      (lifted_caches _ _ _ _ _ _ _ c.run_restore.ensures.steps.1),
)

pub returns-in-Restore-clause-shelves : goal.returns-in-Restore-clause-shelves
returns-in-Restore-clause-shelves g c = busy _ _ _ c.in-Restore.is refl

pub returns-in-Export-clause-does : goal.returns-in-Export-clause-does
returns-in-Export-clause-does g c = (
  c.run_export.ensures.steps.0,
  arm _ _ _ _ _ _ c.in-Export.is
      (lifted_caches _ _ _ _ _ _ _ c.run_export.ensures.steps.1),
)

pub returns-in-Export-clause-shelves : goal.returns-in-Export-clause-shelves
returns-in-Export-clause-shelves g c = busy _ _ _ c.in-Export.is refl

pub returns-in-Rebase-clause-does : goal.returns-in-Rebase-clause-does
returns-in-Rebase-clause-does g c = (
  c.args.places,
  arm _ _ _ _ _ _ c.in-Rebase.is
      (lifted_world _ _ _ _ _ _ c.run_rebase.ensures.steps),
)

pub returns-in-Base-clause-does : goal.returns-in-Base-clause-does
returns-in-Base-clause-does g c = (
  c.args.places,
  arm _ _ _ _ _ _ c.in-Base.is
      (lifted_world _ _ _ _ _ _ c.run_base.ensures.steps),
)

pub returns-in-Unpack-clause-does : goal.returns-in-Unpack-clause-does
returns-in-Unpack-clause-does g c = (
  c.args.places,
  arm _ _ _ _ _ _ c.in-Unpack.is
      (lifted_world _ _ _ _ _ _ c.run_unpack.ensures.steps),
)

pub returns-in-Show-clause-does : goal.returns-in-Show-clause-does
returns-in-Show-clause-does g c = (
  c.args.places,
  arm _ _ _ _ _ _ c.in-Show.is
      (lifted_world _ _ _ _ _ _ c.run_show.ensures.steps),
)

pub returns-in-Prune-clause-does : goal.returns-in-Prune-clause-does
returns-in-Prune-clause-does g c = (
  c.args.places,
  arm _ _ _ _ _ _ c.in-Prune.is
      (lifted_world _ _ _ _ _ _ c.run_prune.ensures.steps),
)

pub returns-in-Verify-clause-does : goal.returns-in-Verify-clause-does
returns-in-Verify-clause-does g c = (
  c.args.places,
  arm _ _ _ _ _ _ c.in-Verify.is
      (lifted_world _ _ _ _ _ _ c.run_verify.ensures.steps),
)

pub returns-in-Check-clause-does : goal.returns-in-Check-clause-does
returns-in-Check-clause-does g c = (
  c.args.places,
  arm _ _ _ _ _ _ c.in-Check.is
      (lifted_world _ _ _ _ _ _ c.run_check.ensures.steps),
)

pub returns-in-Drill-clause-does : goal.returns-in-Drill-clause-does
returns-in-Drill-clause-does g c = (
  c.args.places,
  arm _ _ _ _ _ _ c.in-Drill.is
      (known _ _ _ c.run_drill.ensures.text c.run_drill.ensures.memory),
)

pub returns-in-Launch-clause-does : goal.returns-in-Launch-clause-does
returns-in-Launch-clause-does g c = (
  c.args.places,
  arm _ _ _ _ _ _ c.in-Launch.is
      (lifted_world _ _ _ _ _ _ c.run_launch.ensures.steps),
)

pub returns-in-Create-clause-does : goal.returns-in-Create-clause-does
returns-in-Create-clause-does g c = (
  c.run_create.ensures.steps.0,
  arm _ _ _ _ _ _ c.in-Create.is
      c.run_create.ensures.steps.1,
)

pub returns-in-Create-clause-shelves : goal.returns-in-Create-clause-shelves
returns-in-Create-clause-shelves g c = busy _ _ _ c.in-Create.is refl
