use Rattle.std.proofs.Common.{◌≡◌, ◌<◌, arith, rules, true}
use Rattle.tree_canon.specs.Names.{is_target}
use Rattle.tree_store.proofs.Descents.{link_fits_in}
use Rattle.tree_store.proofs.reading.link_size.Goals as goal

pub returns-clause-fit : goal.returns-clause-fit
returns-clause-fit c =
    let form : is_target c.args.target.now ≡ true = search rules in
    let some : 0 < c.args.levels = omega (arith, c.if-levels-eq0.false) in
    link_fits_in c.args.target.now c.args.size c.in_ok-size.size c.args.levels form some c.in_ok-size.ensures
