use Rattle.std.proofs.Common.{◌∙◌, ap, arith, false, map, subst, sym}
use Rattle.std.proofs.lemmas.List.{length-map}
use Rattle.steps.specs.Outside.{seen}
use Rattle.tree_store.specs.Origin.{Leaves, of_shelf}
use Rattle.tree_store.specs.ShelfState.{shelf_seen}
use Rattle.tree_store.proofs.HeldLaid.{held_laid}
use Rattle.tree_store.proofs.laying_held.lay_held.Goals as goal

pub returns : goal.returns
returns g c =
    let held = held_laid c.args.root.now c.args.digest.now
    (map (λ b. shelf_seen (goal.Shelf-dyn g (b.vtable, b.value)) b.value) c.args.shelves.now.items)
    (map (λ b. shelf_seen (goal.Shelf-dyn g (b.vtable, b.value)) b.value) c.into_origin-list.result.shelves.items)
    c.args.at c.into_origin-list.result.number c.into_origin-list.result.failed _
    (seen g.W.World c.args.world.now) (seen g.W.World c.lay_at-laid.new.world) c.lay_at-laid.result
    c.held_answer.result
    (let size = length-map c.args.shelves.now.items
    (λ b. shelf_seen (goal.Shelf-dyn g (b.vtable, b.value)) b.value) in omega (arith, size, c.requires.within))
    (ap (λ t. of_shelf (map (λ b. shelf_seen (goal.Shelf-dyn g (b.vtable, b.value)) b.value) t.shelves.items)
    t.number t.failed) c.new-source.ensures.origin
    ∙ ap (λ v. of_shelf (map (λ b. shelf_seen (goal.Shelf-dyn g (b.vtable, b.value)) b.value) v.items)
    c.args.at false) c.replace.ensures.value)
    (record {
      named = c.new-source.ensures.digest;
      hashed = c.new-source.ensures.hashed;
      at = c.new-source.ensures.at;
      piece = c.new-source.ensures.piece;
    })
    (subst (λ t. Leaves c.args.root.now
    (of_shelf (map (λ b. shelf_seen (goal.Shelf-dyn g (b.vtable, b.value)) b.value)
    c.new-source.result.origin.shelves.items) c.new-source.result.origin.number
    c.new-source.result.origin.failed) (seen g.W.World c.args.world.now) c.lay_at-laid.result
    (of_shelf (map (λ b. shelf_seen (goal.Shelf-dyn g (b.vtable, b.value)) b.value) t.shelves.items)
    t.number t.failed) (seen g.W.World c.lay_at-laid.new.world)) (sym c.into_origin-list.ensures)
    c.lay_at-laid.ensures.leaves)
    c.lay_at-laid.ensures.lays c.lay_at-laid.ensures.partly c.lay_at-laid.ensures.laid c.held_answer.ensures
    in record { lays = (held.before, held.after, held.replaces, held.lays) }
