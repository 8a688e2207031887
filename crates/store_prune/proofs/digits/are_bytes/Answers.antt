use Rattle.std.proofs.Common.{arith}
use Rattle.image_docs.proofs.Bytes.{all_in_range}
use Rattle.store_prune.proofs.digits.are_bytes.Goals as goal

pub returns : goal.returns
returns c = all_in_range c.args.bytes.now (λ i. omega (arith, c.type_inv.bytes i))
