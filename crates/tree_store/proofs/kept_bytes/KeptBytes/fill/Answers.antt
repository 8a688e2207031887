use Rattle.std.proofs.Common.{refl, arith, ◌≡◌, ◌≤◌, ◌+◌, [], length, false, true}
use Rattle.std.proofs.lemmas.Result.{err_from_is_err_and}
use Rattle.tree_store.specs.Source.{source_seen}
use Rattle.tree_store.proofs.Ahead.{does_failed, does_never, does_read, leaves_broken, leaves_ok, leaves_stop}
use Rattle.tree_store.proofs.Ahead.{leaves_value}
use Rattle.tree_store.proofs.Fields.{ahead_filled, piece_long, read_right}
use Rattle.tree_store.proofs.Takes.{itself, takes_filled, takes_none}
use Rattle.tree_store.proofs.kept_bytes.KeptBytes.fill.Goals as goal

pub returns-then-holds-clause-leaves : goal.returns-then-holds-clause-leaves
returns-then-holds-clause-leaves g c = λ path. leaves_ok path _ _ _

pub returns-in_err-self-clause-leaves : goal.returns-in_err-self-clause-leaves
returns-in_err-self-clause-leaves g c = λ path.
    let exit = err_from_is_err_and c.from_residual.result c.from_residual.ensures.1 in
    rw (exit.1, exit.2) (leaves_stop path _ _ _ _ _ (c.in_err-self.ensures.leaves path))

pub returns-in_err-self-clause-reads : goal.returns-in_err-self-clause-reads
returns-in_err-self-clause-reads g c = λ bytes folders long.
    let exit = err_from_is_err_and c.from_residual.result c.from_residual.ensures.1 in
    rw (exit.1, exit.2) (does_failed _ bytes bytes _ _ _ (source_seen g.O.Origin.state c.args.self.now) _ _ _ _
    (λ ahead. read_right (source_seen g.O.Origin.state c.args.self.now) (g.W.World.tree c.args.world.now) bytes _ _
    ahead c.in_err-self.ensures.right) c.in_err-self.ensures.free)

pub returns-then-holds-2-clause-leaves : goal.returns-then-holds-2-clause-leaves
returns-then-holds-2-clause-leaves g c = λ path.
    leaves_value path _ _ _ _ c.in_ok-self.field-0 _ (c.in_ok-self.ensures.leaves path)

pub returns-then-holds-2-clause-reads : goal.returns-then-holds-2-clause-reads
returns-then-holds-2-clause-reads g c = λ bytes folders long.
    let leaves = c.in_ok-self.ensures.leaves [] in
    does_read _ _ bytes bytes folders (source_seen g.O.Origin.state c.args.self.now) _ _ _ c.in_ok-self.ensures.files
    (λ ahead. tt)
    (λ ahead. ahead_filled (source_seen g.O.Origin.state c.args.self.now) _ (g.W.World.tree c.args.world.now) _ bytes
    c.in_ok-self.field-0 c.in_ok-self.ensures.files c.in_ok-self.ensures.told refl leaves.stays leaves.shelf.stands
    leaves.shelf.held refl refl refl refl ahead)
    (λ ahead. read_right (source_seen g.O.Origin.state c.args.self.now) (g.W.World.tree c.args.world.now) bytes _ _
    ahead c.in_ok-self.ensures.right)

pub returns-else-holds-2-clause-leaves : goal.returns-else-holds-2-clause-leaves
returns-else-holds-2-clause-leaves g c = λ path.
    rw c.broken.ensures (leaves_broken path _ _ _ _ c.in_ok-self.field-0 _ _ _ (c.in_ok-self.ensures.leaves path))

pub returns-else-holds-2-clause-reads : goal.returns-else-holds-2-clause-reads
returns-else-holds-2-clause-reads g c = λ bytes folders long. does_never _ bytes bytes _ _ _
    (source_seen g.O.Origin.state c.args.self.now) _ _ _ _ (λ ahead.
    let some : c.args.len ≤ length c.in_ok-self.field-0 = piece_long (source_seen g.O.Origin.state c.args.self.now)
    (g.W.World.tree c.args.world.now) c.in_ok-self.field-0 bytes c.args.len c.requires long
    c.in_ok-self.ensures.told ahead in
    let holds : 0 + c.args.len ≤ length c.in_ok-self.field-0 = omega (arith, some) in
    let no : false ≡ true = c.if-holds-2.ensures.1 holds in cc)

pub returns-then-holds-clause-takes : goal.returns-then-holds-clause-takes
returns-then-holds-clause-takes g c = takes_none (itself _)

pub returns-then-holds-2-clause-takes : goal.returns-then-holds-2-clause-takes
returns-then-holds-2-clause-takes g c = takes_filled (source_seen g.O.Origin.state c.args.self.now) _ _ _ refl refl refl
    c.in_ok-self.ensures.files
