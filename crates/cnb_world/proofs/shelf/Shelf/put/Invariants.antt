use Rattle.std.proofs.Common.{◌≡◌, length}
use Rattle.cnb_world.proofs.ShelfPieces.{HasBegun}
use Rattle.cnb_world.proofs.shelf.Shelf.put.Given as goal

abbrev pub invariant-loop-rest : goal.invariant-loop-rest
invariant-loop-rest g l = record {
  begun : HasBegun (g.Self.Shelf.held l.fn.self) (g.Self.Shelf.begun l.self) l.digest l.bytes l.rest;
  held : g.Self.Shelf.held l.self ≡ g.Self.Shelf.held l.fn.self;
  rows : g.Self.Shelf.rows l.self ≡ g.Self.Shelf.rows l.fn.self;
  faults : g.Self.Shelf.faults l.self ≡ g.Self.Shelf.faults l.fn.self;
}

abbrev pub decreases-loop-rest : goal.decreases-loop-rest
decreases-loop-rest g l = length l.rest
