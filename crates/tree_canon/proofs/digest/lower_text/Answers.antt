use Rattle.std.proofs.Common.{arith}
use Rattle.tree_canon.proofs.DigestTexts as texts
use Rattle.tree_canon.proofs.digest.lower_text.Goals as goal

pub returns-in_err-encode-clause-digits : goal.returns-in_err-encode-clause-digits
returns-in_err-encode-clause-digits c = texts.lower_text c.args.bytes.now c.requires
    (λ i. omega (arith, c.type_inv.bytes i))

pub returns-clause-digits : goal.returns-clause-digits
returns-clause-digits c = texts.lower_text c.args.bytes.now c.requires (λ i. omega (arith, c.type_inv.bytes i))
