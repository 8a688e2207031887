use Rattle.std.proofs.Common.{refl}
use Rattle.tree_canon.proofs.ScanFeeds.{fresh, fresh_given}
use Rattle.tree_canon.proofs.scan.Scan.new.Goals as goal

pub returns-clause-fed : goal.returns-clause-fed
returns-clause-fed c = (
  refl,
  fresh c.new.result c.new.ensures.at c.new.ensures.folders c.new.ensures.next
      c.new.ensures.part,
)

pub returns-clause-given : goal.returns-clause-given
returns-clause-given c = fresh_given _ refl c.new.ensures.at c.new.ensures.folders c.new.ensures.next
    c.new.ensures.part c.new.ensures.owed
