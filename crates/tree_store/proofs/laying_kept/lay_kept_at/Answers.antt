use Rattle.std.proofs.Common.{ap, sym, subst, ◌++◌}
use Rattle.tree_store.specs.Laying.{laid_under}
use Rattle.tree_store.proofs.Ahead.{lays_as}
use Rattle.tree_store.specs.Right.{way_to}
use Rattle.tree_store.specs.Overlay.{items_under}
use Rattle.tree_store.specs.Ahead.{LaysPartly}
use Rattle.tree_canon.specs.Spelling.{node_bytes}
use Rattle.steps.specs.Outside.{seen}
use Rattle.tree_store.specs.Source.{source_seen}
use Rattle.tree_store.proofs.Takes.{done_then, node_so}
use Rattle.tree_store.proofs.laying_kept.lay_kept_at.Goals as goal

pub returns-in-Some-clause-lays : goal.returns-in-Some-clause-lays
returns-in-Some-clause-lays g c = λ node rest fit. lays_as
    (λ files. ap (λ parts. laid_under node parts c.args.root.now files) (sym c.in-Some.ensures.parts))
    (c.lay_kept_under.ensures.lays node rest fit)

pub returns-in-None-clause-lays : goal.returns-in-None-clause-lays
returns-in-None-clause-lays g c = λ node rest fit. lays_as
    (λ files. ap (λ parts. laid_under node parts c.args.root.now files) (sym c.in-None.ensures.parts))
    (c.lay_kept_node.ensures.lays node rest fit)

pub returns-in-Some-clause-partly : goal.returns-in-Some-clause-partly
returns-in-Some-clause-partly g c = λ node rest fit. subst
    (λ parts. LaysPartly c.args.root.now (items_under node parts c.args.root.now) (node_bytes node ++ rest)
    (way_to c.args.root.now) (source_seen g.O.Origin.state c.args.source.now)
    (seen g.W.World c.args.world.now)
    (seen g.W.World c.lay_kept_under.new.world)) (sym c.in-Some.ensures.parts)
    (c.lay_kept_under.ensures.partly node rest fit)

pub returns-in-None-clause-partly : goal.returns-in-None-clause-partly
returns-in-None-clause-partly g c = λ node rest fit. subst
    (λ parts. LaysPartly c.args.root.now (items_under node parts c.args.root.now) (node_bytes node ++ rest)
    (way_to c.args.root.now) (source_seen g.O.Origin.state c.args.source.now)
    (seen g.W.World c.args.world.now)
    (seen g.W.World c.lay_kept_node.new.world)) (sym c.in-None.ensures.parts)
    (c.lay_kept_node.ensures.partly node rest fit)

pub returns-in-Some-clause-takes : goal.returns-in-Some-clause-takes
returns-in-Some-clause-takes g c = done_then _ _ c.lay_kept_under.result
    (node_so 0 _ _ _ _ _ _ (λ node files. ap (λ parts. laid_under node parts c.args.root.now files)
    (sym c.in-Some.ensures.parts))) c.lay_kept_under.ensures.takes

pub returns-in-None-clause-takes : goal.returns-in-None-clause-takes
returns-in-None-clause-takes g c = done_then _ _ c.lay_kept_node.result
    (node_so 0 _ _ _ _ _ _ (λ node files. ap (λ parts. laid_under node parts c.args.root.now files)
    (sym c.in-None.ensures.parts))) c.lay_kept_node.ensures.takes
