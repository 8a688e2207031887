use Rattle.shelf_set.proofs.LayLemmas.{whole_damaged, whole_fails, whole_lacks, whole_stops, whole_written}
use Rattle.shelf_set.proofs.laying.lay_whole.Goals as goal

pub returns-in-Ok-None : goal.returns-in-Ok-None
returns-in-Ok-None g c =
    let (before, after, replaced, asks) = c.ask_at.ensures in
    whole_lacks _ _ _ _ _ before after c.ask_at.result replaced asks c.in-Ok-None.field-0 _ _ _ c.in-Ok-None.is
    c.in-Ok-None.field-0-is c.passes.ensures.failed c.passes.ensures.end

pub returns-in-Ok : goal.returns-in-Ok
returns-in-Ok g c =
    let (before, after, replaced, asks) = c.ask_at.ensures in
    whole_written _ _ _ _ _ before after c.ask_at.result replaced asks c.in-Ok-Some.field-0 c.in-Ok-Some.judged
    c.tree_of.result c.in-Ok.tree c.write_whole.result _ _ _ _ c.in-Ok-Some.is c.in-Ok-Some.field-0-is c.tree_of.ensures
    c.in-Ok.is c.write_whole.ensures c.ends.ensures.failed c.ends.ensures.end

pub returns-in-Err : goal.returns-in-Err
returns-in-Err g c =
    let (before, after, replaced, asks) = c.ask_at.ensures in
    whole_damaged _ _ _ _ _ before after c.ask_at.result replaced asks c.in-Ok-Some.field-0 c.in-Ok-Some.judged
    c.tree_of.result c.in-Err.damaged _ _ _ c.in-Ok-Some.is c.in-Ok-Some.field-0-is c.tree_of.ensures c.in-Err.is
    c.ends-in-Err.ensures.failed c.ends-in-Err.ensures.end

pub returns-in-Err-Failed : goal.returns-in-Err-Failed
returns-in-Err-Failed g c =
    let (before, after, replaced, asks) = c.ask_at.ensures in
    whole_fails _ _ _ _ _ before after c.ask_at.result replaced asks c.in-Err-Failed.field-0 _ _ _ c.in-Err-Failed.is
    c.in-Err-Failed.field-0-is c.passes-in-Err-Failed.ensures.failed c.passes-in-Err-Failed.ensures.end

pub returns-in-Err-Memory : goal.returns-in-Err-Memory
returns-in-Err-Memory g c =
    let (before, after, replaced, asks) = c.ask_at.ensures in
    whole_stops _ _ _ _ _ before after c.ask_at.result replaced asks c.in-Err-Memory.field-0 _ _ _ c.in-Err-Memory.is
    c.in-Err-Memory.field-0-is c.ends-in-Err-Memory.ensures.failed c.ends-in-Err-Memory.ensures.end
