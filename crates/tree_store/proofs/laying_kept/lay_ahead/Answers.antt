use Rattle.std.proofs.Common.{Ok, Err, [], refl, sym, subst}
use Rattle.std.proofs.lemmas.Result.{err_from_is_err_and}
use Rattle.cnb_world.specs.Tree.{can_make_folder}
use Rattle.steps.specs.Outside.{seen}
use Rattle.tree_canon.specs.Spelling.{node_bytes}
use Rattle.tree_store.proofs.Ahead.{ahead_kept, leaves_called, leaves_then, plain_path, untold_by}
use Rattle.tree_store.proofs.Around.{made_so}
use Rattle.tree_store.proofs.Stored.{tree_ended, tree_kept, tree_stopped}
use Rattle.tree_store.proofs.Ways.{when_ok}
use Rattle.std.proofs.lemmas.List.{append-nil}
use Rattle.tree_store.specs.Overlay.{parts_of}
use Rattle.tree_store.specs.Ahead.{Ahead}
use Rattle.tree_store.specs.Source.{source_seen}
use Rattle.tree_store.proofs.Right.{way_made}
use Rattle.tree_store.proofs.PartlyLaid.{root_made, root_partly}
use Rattle.tree_store.proofs.Takes.{done_then, takes_tree}
use Rattle.tree_store.proofs.laying_kept.lay_ahead.Goals as goal

pub returns-in_err-or_blame-clause-leaves : goal.returns-in_err-or_blame-clause-leaves
returns-in_err-or_blame-clause-leaves g c =
    let exit = err_from_is_err_and c.from_residual.result c.from_residual.ensures.1 in
    rw (exit.1, exit.2) (leaves_called g.W.World c.args.root.now _ c.make_folder.result
    (Err _) _ _ c.make_folder.ensures.files c.in_err-or_blame.ensures.counts c.in_err-or_blame.ensures.blames
    c.make_folder.ensures.children
    (made_so g.W.World _ c.make_folder.result _ _ c.make_folder.ensures.ok c.make_folder.ensures.err
    c.make_folder.ensures.runs c.make_folder.ensures.misused)
    (untold_by _ (λ files. can_make_folder files c.args.root.now) c.make_folder.result _ _
    c.make_folder.ensures.misused))

pub returns-in_err-or_blame-clause-lays : goal.returns-in_err-or_blame-clause-lays
returns-in_err-or_blame-clause-lays g c = λ tree fit ahead.
    let exit = err_from_is_err_and c.from_residual.result c.from_residual.ensures.1 in
    rw (exit.1, exit.2) (tree_stopped c.args.root.now c.args.place.now tree (seen g.W.World c.args.world.now)
    (seen g.W.World c.make_folder.new.self) c.make_folder.result _ c.in_err-or_blame.ensures.free
    c.make_folder.ensures.misused)

pub returns-clause-leaves : goal.returns-clause-leaves
returns-clause-leaves g c = leaves_then (leaves_called g.W.World c.args.root.now _
    c.make_folder.result (Ok tt) _ _ c.make_folder.ensures.files c.in_ok-or_blame.ensures.counts tt
    c.make_folder.ensures.children
    (made_so g.W.World _ c.make_folder.result _ _ c.make_folder.ensures.ok c.make_folder.ensures.err
    c.make_folder.ensures.runs c.make_folder.ensures.misused)
    (untold_by _ (λ files. can_make_folder files c.args.root.now) c.make_folder.result _ _
    c.make_folder.ensures.misused))
    c.lay_kept_at.ensures.leaves

pub returns-clause-lays : goal.returns-clause-lays
returns-clause-lays g c = λ tree fit ahead.
    tree_kept c.args.root.now c.args.place.now tree _ _ (seen g.W.World c.args.world.now)
    (seen g.W.World c.make_folder.new.self) (seen g.W.World c.lay_kept_at.new.world) c.make_folder.result
    c.lay_kept_at.result
    (plain_path c.args.root.now _ c.requires.apart) fit
    (when_ok c.make_folder.result c.in_ok-or_blame.ensures.ok c.make_folder.ensures.ok)
    c.make_folder.ensures.misused (g.W.World.standing c.args.world.now)
    (g.W.World.standing c.make_folder.new.self)
    c.lay_kept_at.ensures.names c.lay_kept_at.ensures.leaves.around
    (ahead_kept _ c.args.root.now (node_bytes tree) _ _ c.requires.apart
    (made_so g.W.World _ c.make_folder.result _ _ c.make_folder.ensures.ok c.make_folder.ensures.err
    c.make_folder.ensures.runs c.make_folder.ensures.misused).files ahead)
    (c.lay_kept_at.ensures.lays tree [] fit)

pub returns-in_err-or_blame-clause-partly : goal.returns-in_err-or_blame-clause-partly
returns-in_err-or_blame-clause-partly g c = λ tree fit ahead. root_made c.args.root.now c.args.place.now tree
    c.make_folder.result _ _ c.make_folder.ensures.ok c.make_folder.ensures.err

pub returns-clause-partly : goal.returns-clause-partly
returns-clause-partly g c = λ tree fit ahead. root_partly c.args.root.now c.args.place.now tree
    (parts_of c.args.place.now) _ _ _ refl (root_made c.args.root.now c.args.place.now tree c.make_folder.result _
    _ c.make_folder.ensures.ok c.make_folder.ensures.err)
    ((c.lay_kept_at.ensures.partly tree [] fit).so
    (subst (Ahead (source_seen g.O.Origin.state c.args.source.now) (g.W.World.tree c.make_folder.new.self))
    (sym (append-nil (node_bytes tree)))
    (ahead_kept _ c.args.root.now (node_bytes tree) _ _ c.requires.apart
    (made_so g.W.World _ c.make_folder.result _ _ c.make_folder.ensures.ok c.make_folder.ensures.err
    c.make_folder.ensures.runs c.make_folder.ensures.misused).files ahead))
    (way_made c.args.root.now (g.W.World.tree c.args.world.now) (g.W.World.tree c.make_folder.new.self)
    (when_ok c.make_folder.result c.in_ok-or_blame.ensures.ok c.make_folder.ensures.ok)
    (g.W.World.standing c.make_folder.new.self)))

pub returns-clause-ended : goal.returns-clause-ended
returns-clause-ended g c = λ tree fit ahead.
    tree_ended c.args.root.now c.args.place.now tree _ _ (seen g.W.World c.args.world.now)
    (seen g.W.World c.make_folder.new.self) (seen g.W.World c.lay_kept_at.new.world) c.lay_kept_at.result
    (when_ok c.make_folder.result c.in_ok-or_blame.ensures.ok c.make_folder.ensures.ok)
    (g.W.World.standing c.make_folder.new.self)
    (ahead_kept _ c.args.root.now (node_bytes tree) _ _ c.requires.apart
    (made_so g.W.World _ c.make_folder.result _ _ c.make_folder.ensures.ok c.make_folder.ensures.err
    c.make_folder.ensures.runs c.make_folder.ensures.misused).files ahead)
    (c.lay_kept_at.ensures.lays tree [] fit)

pub returns-clause-takes : goal.returns-clause-takes
returns-clause-takes g c = done_then _ _ c.lay_kept_at.result
    (takes_tree c.args.root.now c.args.place.now _ _ _ _ _ (plain_path c.args.root.now _ c.requires.apart)
    (when_ok c.make_folder.result c.in_ok-or_blame.ensures.ok c.make_folder.ensures.ok)
    (g.W.World.standing c.args.world.now) c.lay_kept_at.ensures.names) c.lay_kept_at.ensures.takes
