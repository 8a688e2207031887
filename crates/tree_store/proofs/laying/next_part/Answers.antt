use Rattle.tree_store.proofs.Ways.{next_parts, next_lengths}
use Rattle.tree_store.proofs.laying.next_part.Goals as goal

pub returns-clause-parts : goal.returns-clause-parts
returns-clause-parts c = next_parts c.args.way.now c.split_once.result c.split_once.ensures.cases

pub returns-clause-lengths : goal.returns-clause-lengths
returns-clause-lengths c = next_lengths c.args.way.now c.split_once.result c.split_once.ensures.cases
