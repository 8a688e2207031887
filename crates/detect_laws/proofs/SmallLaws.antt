-- The small detection is sound.
use Rattle.std.proofs.Common.{ap, refl, ◌&&◌, inl, ◌∙◌}
use Rattle.std.specs.Prelude.{codes}
use Rattle.cnb_detect.specs.declared.target.TargetSource.TheVariants.{Document}
use Rattle.cnb_world.specs.Whole.{can_write}
use Rattle.detect_laws.specs.Small.{small_files, small_order}
use Rattle.detect_laws.specs.SmallRun.{small_options}
use Rattle.detect_laws.specs.Sound.{IsSound}
use Rattle.detect_laws.proofs.SmallLemmas.{buildpacks_there, entries_there, group_writable, order_there, plan_writable}
use Rattle.detect_laws.proofs.SmallLemmas.{target_absent, variables_absent}

pub small_detection_is_sound : IsSound Document small_options small_files
small_detection_is_sound = record {
  order = small_order;
  order_file = order_there;
  buildpacks = buildpacks_there;
  entries = entries_there;
  target = inl target_absent;
  variables = variables_absent;
  work = refl;
  writable = ap (λ b. b && can_write (codes "/w/plan.toml") small_files) group_writable ∙ plan_writable;
}
