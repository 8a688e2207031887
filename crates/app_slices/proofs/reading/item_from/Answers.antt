use Rattle.std.proofs.Common.{chars, subst}
use Rattle.app_slices.specs.Spelling.{IsLed, lead_of}
use Rattle.app_slices.proofs.reading.item_from.Goals as goal

pub returns-in-91-clause-bad : goal.returns-in-91-clause-bad
returns-in-91-clause-bad c = λ b item rest h. c.class.ensures.bad b item rest
    (subst (λ x. IsLed (lead_of x) x item (chars c.args.behind.now) rest) c.in-91.is h)
