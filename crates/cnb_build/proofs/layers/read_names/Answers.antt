use Rattle.std.proofs.Common.{◌≡◌, true, false}
use Rattle.std.proofs.lemmas.Result.{err_from_is_err_and}
use Rattle.steps.specs.Outside.{seen}
use Rattle.steps.proofs.StepLemmas.{ended, went}
use Rattle.cnb_env.specs.Files.{is_absent}
use Rattle.cnb_build.specs.Layers.{reads_names}
use Rattle.cnb_build.proofs.LayerLemmas.{listed_names, no_names}
use Rattle.cnb_build.proofs.layers.read_names.Goals as goal

pub returns-in_err-kind : goal.returns-in_err-kind
unfolding reads_names
returns-in_err-kind g c =
    let exit = err_from_is_err_and c.from_residual.result c.from_residual.ensures.1 in
    rw (exit.1, exit.2) (record { step = ended _ _ _ _ _ c.in_err-kind.ensures.step })

pub returns-then-is_absent : goal.returns-then-is_absent
unfolding reads_names
returns-then-is_absent g c =
    let absent : is_absent c.in_ok-kind.kind ≡ true = cc in
    record {
      step = went _ _ _ _ _ _ _ c.in_ok-kind.ensures.step
          (no_names c.args.folder.now c.in_ok-kind.kind c.new.result
          (seen g.W.World c.kind_at.new.world) absent c.new.ensures);
    }

pub returns : goal.returns
unfolding reads_names
returns g c =
    let there : is_absent c.in_ok-kind.kind ≡ false = cc in
    record {
      step = went _ _ _ _ _ _ _ c.in_ok-kind.ensures.step
          (listed_names c.args.folder.now c.in_ok-kind.kind c.names_in.result (seen g.W.World c.kind_at.new.world)
          (seen g.W.World c.names_in.new.world) there c.names_in.ensures.step);
    }
