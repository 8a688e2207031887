use Rattle.tree_store.proofs.Standing.{filled}
use Rattle.shelf_set.proofs.LayLemmas.{ends_cleared, ends_laid, ends_refused}
use Rattle.shelf_set.proofs.laying.lay_checked.Goals as goal

pub returns-in-Ok : goal.returns-in-Ok
returns-in-Ok g c =
    let (before, after, replaced, laid) = c.lay_held.ensures.lays in
    ends_laid _ _ _ _ _ before after c.lay_held.result _ _ replaced laid c.in-Ok.field-0 _ _ c.in-Ok.is
    c.ends.ensures.failed c.ends.ensures.end

pub returns-in-Err-Shelf : goal.returns-in-Err-Shelf
returns-in-Err-Shelf g c =
    let (before, after, replaced, laid) = c.lay_held.ensures.lays in
    ends_cleared _ _ _ _ _ before after c.lay_held.result _ _ replaced laid c.in-Err-Shelf.field-0 _ _ _
    c.in-Err-Shelf.is c.in-Err-Shelf.field-0-is c.clear.ensures.failed c.clear.ensures.clears c.requires.plain
    (filled c.args.root.now c.as_str-root.ensures.is_path) (g.W.World.standing c.args.world.now)
    (g.W.World.standing c.lay_held.new.world)

pub returns-in-Err-Store : goal.returns-in-Err-Store
returns-in-Err-Store g c =
    let (before, after, replaced, laid) = c.lay_held.ensures.lays in
    ends_refused _ _ _ _ _ before after c.lay_held.result _ _ replaced laid c.in-Err-Store.field-0 c.in-Err-Store.fault
    c.refused.result _ _ c.in-Err-Store.is c.in-Err-Store.field-0-is c.refused.ensures
    c.ends-in-Err-Store.ensures.failed
    c.ends-in-Err-Store.ensures.end
