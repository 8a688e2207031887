use Rattle.cnb_drill.proofs.SpawnerLemmas.{new_answer, new_some}
use Rattle.cnb_lifecycle.proofs.drilling.run_drill.Goals as goal

pub drill-requires-clause-some : goal.drill-requires-clause-some
drill-requires-clause-some g c κs within = new_some c.args.options.now.number _ _ c.in_ok-spawners.ensures

pub drill-requires-clause-says : goal.drill-requires-clause-says
drill-requires-clause-says g c κs within = new_answer c.args.options.now.number _ c.in_ok-spawners.ensures
