use Rattle.std.proofs.Common.{subst}
use Rattle.cnb_world.specs.Memory.{tree_of, way_to}
use Rattle.cnb_world.specs.Names.{AddsStanding}
use Rattle.cnb_world.proofs.ListingLemmas.{more_ways}
use Rattle.cnb_world.proofs.memory.changes.Changes.+add_ways.Goals as goal

pub returns-clause-adds : goal.returns-clause-adds
returns-clause-adds t c =
    more_ways (tree_of c.args.self.now.list.items) c.args.folder.now c.args.items.now c.in-Some.later.now
    c.in-Some.first.now c.args.names.now.items c.add_way.new.names.items c.add_ways.new.names.items
    c.in-Some.ensures.cases.0
    (subst (λ path. AddsStanding (tree_of c.args.self.now.list.items) c.args.folder.now
    (way_to path) c.args.names.now.items c.add_way.new.names.items) c.as_str.ensures.text
    c.in_ok-add_way.ensures.adds)
    c.in_ok-add_ways.ensures.adds
