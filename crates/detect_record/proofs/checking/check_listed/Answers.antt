use Rattle.std.proofs.Common.{sym, subst}
use Rattle.detect_core.specs.Searching.{AreWithin}
use Rattle.detect_core.proofs.LimitLemmas.{listed_within}
use Rattle.detect_record.proofs.checking.check_listed.Goals as goal

pub check_groups-requires : goal.check_groups-requires
check_groups-requires c = subst AreWithin (sym c.in_ok-walk.ensures)
    (listed_within c.args.catalog.now c.args.order.now c.requires)
