use Rattle.tree_store.proofs.Matching.{read_matches}
use Rattle.tree_store.proofs.laws.read_trees_match.Goals as goal

pub returns : goal.returns
returns c = record { paths = read_matches }
