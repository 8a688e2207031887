use Rattle.std.proofs.Common.{◌≡◌, take, map}
use Rattle.std.specs.List.{filter}
use Rattle.plan_resolve.specs.Trials.{has_name}
use Rattle.plan_resolve.proofs.plan.providers.Given as goal

abbrev pub invariant-loop-row : goal.invariant-loop-row
invariant-loop-row l = l.keys ≡ map (λ k. k.key)
    (filter (λ k. has_name k.row.provides l.name) (take l.row-index l.kept))
