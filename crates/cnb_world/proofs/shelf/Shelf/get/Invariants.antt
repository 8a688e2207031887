use Rattle.std.proofs.Common.{◌≡◌, ◌-◌, cond, IfSome, length}
use Rattle.std.specs.FinMap.{get}
use Rattle.cnb_world.proofs.ShelfPieces.{HasRead}
use Rattle.cnb_world.proofs.shelf.Shelf.get.Given as goal

abbrev pub invariant-loop-more : goal.invariant-loop-more
invariant-loop-more g l = record {
  read : IfSome (g.Self.Shelf.held l.fn.self) (λ h. HasRead (get h l.digest) l.bytes l.more);
  held : g.Self.Shelf.held l.self ≡ g.Self.Shelf.held l.fn.self;
  rows : g.Self.Shelf.rows l.self ≡ g.Self.Shelf.rows l.fn.self;
  faults : g.Self.Shelf.faults l.self ≡ g.Self.Shelf.faults l.fn.self;
}

abbrev pub decreases-loop-more : goal.decreases-loop-more
decreases-loop-more g l = cond l.more (18446744073709551616 - length l.bytes) 0
