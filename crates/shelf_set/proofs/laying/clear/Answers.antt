use Rattle.shelf_set.proofs.LayLemmas.{clears_all, clears_failed, clears_short}
use Rattle.shelf_set.proofs.laying.clear.Goals as goal

pub returns-in-Ok-clause-clears : goal.returns-in-Ok-clause-clears
returns-in-Ok-clause-clears g c = clears_all g.W.World c.args.root.now c.remove.result c.in-Ok.field-0
    c.passes.result.end _ _ c.requires c.in-Ok.is c.passes.ensures.end c.remove.ensures.ok c.remove.ensures.err
    c.remove.ensures.files c.remove.ensures.children c.remove.ensures.runs c.remove.ensures.misused

pub returns-in-Err-Failed-clause-clears : goal.returns-in-Err-Failed-clause-clears
returns-in-Err-Failed-clause-clears g c = clears_failed g.W.World c.args.root.now c.remove.result
    c.in-Err-Failed.field-0
    c.blamed.result _ _ c.requires c.in-Err-Failed.is c.in-Err-Failed.field-0-is c.blamed.ensures c.remove.ensures.ok
    c.remove.ensures.err c.remove.ensures.files c.remove.ensures.children c.remove.ensures.runs c.remove.ensures.misused

pub returns-in-Err-Memory-clause-clears : goal.returns-in-Err-Memory-clause-clears
returns-in-Err-Memory-clause-clears g c = clears_short g.W.World c.args.root.now c.remove.result c.in-Err-Memory.field-0
    _ _ c.requires c.in-Err-Memory.is c.in-Err-Memory.field-0-is c.remove.ensures.ok c.remove.ensures.err
    c.remove.ensures.files c.remove.ensures.children c.remove.ensures.runs c.remove.ensures.misused
