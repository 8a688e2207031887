use Rattle.plan_resolve.specs.Prefixes.{CoversClosed}
use Rattle.plan_resolve.proofs.ChoiceLemmas.{IsChoosing}
use Rattle.plan_resolve.proofs.choosing.choose.Given as goal

abbrev pub invariant-loop-row : goal.invariant-loop-row
invariant-loop-row l = record {
  choosing : IsChoosing l.rows l.fn.number l.row-index l.later l.number l.prefix.rows.items;
  covers : CoversClosed l.prefix.rows.items l.prefix.places.items;
}
