use Rattle.shelf_set.proofs.LayLemmas.{pieces_damaged, pieces_fail, pieces_lack, pieces_laid, pieces_stop}
use Rattle.shelf_set.proofs.laying.lay_pieces.Goals as goal

pub returns-in-Ok-None : goal.returns-in-Ok-None
returns-in-Ok-None g c =
    let (before, after, replaced, asked, checked, asks) = c.check_at.ensures in
    pieces_lack _ _ _ _ _ before after asked c.check_at.result replaced checked asks c.in-Ok-None.field-0 _ _ _
    c.in-Ok-None.is c.in-Ok-None.field-0-is c.passes.ensures.failed c.passes.ensures.end

pub returns-in-None : goal.returns-in-None
returns-in-None g c =
    let (before, after, replaced, asked, checked, asks) = c.check_at.ensures in
    pieces_laid _ _ _ _ _ before after asked c.check_at.result replaced checked asks c.in-Ok-Some.field-0
    c.in-Ok-Some.checked c.damage_of.result _ _ _ _ _ c.in-Ok-Some.is c.in-Ok-Some.field-0-is c.damage_of.ensures
    c.in-None.is c.lay_checked.ensures

pub returns-in-Some : goal.returns-in-Some
returns-in-Some g c =
    let (before, after, replaced, asked, checked, asks) = c.check_at.ensures in
    pieces_damaged _ _ _ _ _ before after asked c.check_at.result replaced checked asks c.in-Ok-Some.field-0
    c.in-Ok-Some.checked c.damage_of.result c.in-Some.damaged _ _ _ c.in-Ok-Some.is c.in-Ok-Some.field-0-is
    c.damage_of.ensures c.in-Some.is c.ends.ensures.failed c.ends.ensures.end

pub returns-in-Err-Failed : goal.returns-in-Err-Failed
returns-in-Err-Failed g c =
    let (before, after, replaced, asked, checked, asks) = c.check_at.ensures in
    pieces_fail _ _ _ _ _ before after asked c.check_at.result replaced checked asks c.in-Err-Failed.field-0 _ _ _
    c.in-Err-Failed.is c.in-Err-Failed.field-0-is c.passes-in-Err-Failed.ensures.failed
    c.passes-in-Err-Failed.ensures.end

pub returns-in-Err-Memory : goal.returns-in-Err-Memory
returns-in-Err-Memory g c =
    let (before, after, replaced, asked, checked, asks) = c.check_at.ensures in
    pieces_stop _ _ _ _ _ before after asked c.check_at.result replaced checked asks c.in-Err-Memory.field-0 _ _ _
    c.in-Err-Memory.is c.in-Err-Memory.field-0-is c.ends-in-Err-Memory.ensures.failed c.ends-in-Err-Memory.ensures.end
