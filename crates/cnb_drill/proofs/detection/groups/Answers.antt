use Rattle.std.specs.Prelude.{Ok, Err}
use Rattle.cnb_drill.proofs.ChoiceLemmas.{checks, checks_ok, checks_err}
use Rattle.cnb_drill.proofs.detection.groups.Goals as goal

pub memory_of_order-requires : goal.memory_of_order-requires
memory_of_order-requires c =
    checks_err c.in-Err.fault (checks (Err c.in-Err.fault) c.args.setting.now.catalog c.args.setting.now.order
    c.requires.order c.requires.catalog c.in-Err.ensures.answer)

pub returns-in-Ok : goal.returns-in-Ok
returns-in-Ok c =
    checks_ok c.in-Ok.groups (checks (Ok c.in-Ok.groups) c.args.setting.now.catalog c.args.setting.now.order
    c.requires.order c.requires.catalog c.in-Ok.ensures.answer)
