use Rattle.std.proofs.Common.{arith}
use Rattle.tree_canon.proofs.Held.{few_held}
use Rattle.tree_canon.proofs.scan.Scan.held.Goals as goal

pub returns-clause-few : goal.returns-clause-few
returns-clause-few c =
    let scan = c.args.self.now in
    omega (arith, c.held.ensures, few_held scan.scanner scan.small scan.partial)
