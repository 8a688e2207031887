use Rattle.tree_store.proofs.Receivings.{appended_nowhere}
use Rattle.tree_store.proofs.target.HashOnlyTarget.append.Goals as goal

pub returns : goal.returns
returns g c = appended_nowhere _ _
