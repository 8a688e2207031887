use Rattle.std.proofs.Common.{◌∙◌, sym, ap}
use Rattle.std.specs.List.{list_all}
use Rattle.plan_resolve.specs.Resolution.{has_options}
use Rattle.detect_core.specs.Kept.{keys_of}
use Rattle.detect_core.proofs.EndingLemmas.{no_ending}
use Rattle.detect_core.proofs.ending.end_of.Goals as goal

pub returns-then-not-have_options : goal.returns-then-not-have_options
returns-then-not-have_options c =
    no_ending c.args.place c.args.judged.now.alive c.in-Some.alive (keys_of c.args.kept.now) (sym c.in-Some.is)
    (ap (list_all has_options) (sym c.as_slice.ensures) ∙ (sym c.have_options.ensures ∙ c.if-not-have_options.true))
