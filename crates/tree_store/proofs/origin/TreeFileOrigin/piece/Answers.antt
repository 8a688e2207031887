use Rattle.std.proofs.Common.{refl}
use Rattle.tree_store.specs.Origin.{of_file}
use Rattle.tree_store.proofs.Ahead.{piece_file}
use Rattle.tree_store.proofs.origin.TreeFileOrigin.piece.Goals as goal

pub returns : goal.returns
returns g c = piece_file g.W.World (of_file c.args.self.now.path) c.args._digest.now c.args.at _ _ _ refl
    c.read_piece.ensures.told c.read_piece.ensures.free c.read_piece.ensures.blames c.read_piece.ensures.leaves
    c.read_piece.ensures.misused
