use Rattle.std.proofs.Common.{◌∙◌}
use Rattle.std.proofs.lemmas.List.{take-append-drop}
use Rattle.cnb_world.proofs.ShelfPieces.{begun_more}
use Rattle.cnb_world.proofs.shelf.Shelf.put.Goals as goal

pub loop-rest-preserved : goal.loop-rest-preserved
loop-rest-preserved g c = record {
  begun = begun_more (g.Self.Shelf.held c.args.self.now) (g.Self.Shelf.begun c.loop-rest.self)
      (g.Self.Shelf.begun c.append.new.self) c.args.digest.now c.args.bytes.now c.loop-rest.rest.now
      c.split_at.result.0.now c.split_at.result.1.now c.loop-rest.invariant.begun
      (rw (c.split_at.ensures.front, c.split_at.ensures.back) (take-append-drop _ _)) c.in_ok-append.ensures.ok;
  held = c.in_ok-append.ensures.held ∙ c.loop-rest.invariant.held;
  rows = c.in_ok-append.ensures.rows ∙ c.loop-rest.invariant.rows;
  faults = c.in_ok-append.ensures.faults ∙ c.loop-rest.invariant.faults;
}
