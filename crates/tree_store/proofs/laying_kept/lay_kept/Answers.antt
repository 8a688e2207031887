use Rattle.std.proofs.Common.{subst, sym}
use Rattle.std.proofs.lemmas.Result.{err_from_is_err_and}
use Rattle.steps.specs.Outside.{seen}
use Rattle.tree_store.specs.Origin.{Leaves}
use Rattle.tree_store.specs.Source.{source_seen}
use Rattle.tree_store.proofs.Stored.{lays_ended, leaves_ended}
use Rattle.tree_store.proofs.Takes.{laid_ended}
use Rattle.tree_store.proofs.laying_kept.lay_kept.Goals as goal

pub returns-in_err-lay_ahead-clause-leaves : goal.returns-in_err-lay_ahead-clause-leaves
returns-in_err-lay_ahead-clause-leaves g c =
    let exit = err_from_is_err_and c.from_residual.result c.from_residual.ensures.1 in
    rw (exit.1, exit.2) c.in_err-lay_ahead.ensures.leaves

pub returns-in_err-lay_ahead-clause-lays : goal.returns-in_err-lay_ahead-clause-lays
returns-in_err-lay_ahead-clause-lays g c = λ tree fit ahead.
    let exit = err_from_is_err_and c.from_residual.result c.from_residual.ensures.1 in
    rw (exit.1, exit.2) (c.in_err-lay_ahead.ensures.lays tree fit ahead)

pub returns-clause-leaves : goal.returns-clause-leaves
returns-clause-leaves g c = subst (λ o. Leaves c.args.root.now (g.O.Origin.state c.args.source.now.origin)
    (seen g.W.World c.args.world.now) c.end.result (g.O.Origin.state o) (seen g.W.World c.lay_ahead.new.world))
    (sym c.end.ensures.stays)
    (leaves_ended _ _ _ _ _ _ c.end.ensures.decided c.in_ok-lay_ahead.ensures.leaves)

pub returns-clause-lays : goal.returns-clause-lays
returns-clause-lays g c = λ tree fit ahead. lays_ended _ _ _ (source_seen g.O.Origin.state c.lay_ahead.new.source)
    _ _ _ c.end.ensures.digest (c.in_ok-lay_ahead.ensures.ended tree fit ahead)
    (c.in_ok-lay_ahead.ensures.lays tree fit ahead)

pub returns-clause-laid : goal.returns-clause-laid
returns-clause-laid g c = laid_ended _ _ (source_seen g.O.Origin.state c.lay_ahead.new.source) _ _ c.end.result
    c.end.ensures.digest c.in_ok-lay_ahead.ensures.takes
