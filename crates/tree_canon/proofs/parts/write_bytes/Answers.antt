use Rattle.std.proofs.Common.{rules, arith}
use Rattle.tree_canon.proofs.PartLemmas.{writes_one}
use Rattle.tree_canon.proofs.parts.write_bytes.Goals as goal

pub returns : goal.returns
returns c = writes_one _ _ _ _ _ _ _ c.in_ok-push.ensures.items c.in_ok-extend_from_slice-2.ensures.items
    (search rules) (omega (arith, c.requires))
