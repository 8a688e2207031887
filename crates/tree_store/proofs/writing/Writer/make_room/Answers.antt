use Rattle.std.proofs.Common.{Ok, refl}
use Rattle.tree_store.proofs.Written.{leaves_local}
use Rattle.tree_store.proofs.writing.Writer.make_room.Goals as goal

pub returns-else-len-clause-leaves : goal.returns-else-len-clause-leaves
returns-else-len-clause-leaves g c = λ path. leaves_local path _ _ _ (Ok tt) refl (λ n. refl)
