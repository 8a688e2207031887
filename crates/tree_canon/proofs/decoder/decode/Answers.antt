use Rattle.std.proofs.Common.{arith}
use Rattle.tree_canon.proofs.Total.{one_of_three}
use Rattle.tree_canon.proofs.Divided.{divided}
use Rattle.tree_canon.proofs.decoder.decode.Goals as goal

pub returns-in_err-decoder-clause-divided : goal.returns-in_err-decoder-clause-divided
returns-in_err-decoder-clause-divided c = divided c.args.bytes.now
    (one_of_three c.args.bytes.now (λ i. omega (arith, c.type_inv.bytes i)))

pub returns-in_err-feed-clause-divided : goal.returns-in_err-feed-clause-divided
returns-in_err-feed-clause-divided c = divided c.args.bytes.now
    (one_of_three c.args.bytes.now (λ i. omega (arith, c.type_inv.bytes i)))

pub returns-clause-divided : goal.returns-clause-divided
returns-clause-divided c = divided c.args.bytes.now
    (one_of_three c.args.bytes.now (λ i. omega (arith, c.type_inv.bytes i)))
