use Rattle.shelf_set.proofs.AskLemmas.{reading_last, reading_more, reading_none}
use Rattle.tree_canon.specs.Judging.{HasTaken}
use Rattle.shelf_set.proofs.ask.ask.Goals as goal

pub loop-number-init : goal.loop-number-init
loop-number-init g c = reading_none c.args.digest.now (HasTaken c.in_ok-judging.judging) _ c.in_ok-judging.ensures

pub loop-number-preserved : goal.loop-number-preserved
loop-number-preserved g c =
    reading_more c.args.digest.now c.in-Some.piece c.as_slice.result.now c.loop-number.number c.read_piece.result
    c.in_ok-piece.field-0 (HasTaken c.loop-number.judging) (HasTaken c.take.new.self) _ _ _ c.loop-number.invariant
    c.in_ok-piece.was c.in-Some.is c.as_slice.ensures c.read_piece.ensures c.in_ok-take.ensures

pub returns-then-is_last : goal.returns-then-is_last
returns-then-is_last g c =
    reading_last c.args.digest.now c.in-Some.piece c.as_slice.result.now c.loop-number.number c.read_piece.result
    c.in_ok-piece.field-0 (HasTaken c.loop-number.judging) (HasTaken c.take.new.self) _ _ _ c.loop-number.invariant
    c.in_ok-piece.was c.in-Some.is c.as_slice.ensures c.read_piece.ensures c.in_ok-take.ensures
    c.in_ok-end.field-0 (c.is_last.ensures.0 c.if-is_last.true) c.in_ok-end.ensures
