use Rattle.tree_canon.proofs.PartLemmas.{next_fewer, next_written}
use Rattle.tree_canon.proofs.parts.Parts.write.Goals as goal

pub loop-self-smaller : goal.loop-self-smaller
loop-self-smaller c = next_fewer _ _ _ _ _ c.in-Some.part c.in-Some.ensures.items c.in_ok-write_part.ensures

pub loop-self-preserved : goal.loop-self-preserved
loop-self-preserved c = next_written _ _ _ _ _ _ c.in-Some.part c.in-Some.ensures.items c.in_ok-write_part.ensures
    c.loop-self.invariant
