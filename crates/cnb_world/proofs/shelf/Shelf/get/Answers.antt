use Rattle.std.proofs.Common.{◌∙◌}
use Rattle.cnb_world.proofs.ShelfPieces.{read_first, read_next}
use Rattle.cnb_world.proofs.shelf.Shelf.get.Goals as goal

pub loop-more-init : goal.loop-more-init
loop-more-init g c = record {
  read = read_first (g.Self.Shelf.held c.args.self.now) c.args.digest.now c.in-Some.bytes c.as_slice.result.now
      c.in_ok-bytes.field-0 c.in-Some.is c.in_ok-bytes.ensures.told c.as_slice.ensures;
  held = c.in_ok-bytes.ensures.held;
  rows = c.in_ok-bytes.ensures.rows;
  faults = c.in_ok-bytes.ensures.faults;
}

pub loop-more-preserved : goal.loop-more-preserved
loop-more-preserved g c = record {
  read = read_next (g.Self.Shelf.held c.args.self.now) (g.Self.Shelf.held c.loop-more.self) c.args.digest.now
      c.loop-more.bytes c.as_slice-in-loop-more.result.now c.in-Some-2.piece c.as_slice-in-loop-more-2.result.now
      c.append.new.self c.as_slice-in-loop-more-3.result.now c.in_ok-piece.field-0
      (rw c.loop-more-test.true at c.loop-more.invariant.read) c.loop-more.invariant.held
      c.as_slice-in-loop-more.ensures c.in-Some-2.is
      c.in_ok-piece.ensures.told c.as_slice-in-loop-more-2.ensures c.in_ok-append.ensures.ok
      c.as_slice-in-loop-more-3.ensures;
  held = c.in_ok-piece.ensures.held ∙ c.loop-more.invariant.held;
  rows = c.in_ok-piece.ensures.rows ∙ c.loop-more.invariant.rows;
  faults = c.in_ok-piece.ensures.faults ∙ c.loop-more.invariant.faults;
}
