use Rattle.std.proofs.Common.{◌∙◌, sym, ap}
use Rattle.std.specs.Prelude.{◌||◌}
use Rattle.std.specs.List.{list_any}
use Rattle.cnb_toml.specs.Keys.{same_key}
use Rattle.detect_core.proofs.AskingLemmas.{met_by}
use Rattle.detect_core.proofs.questions.was_met.Goals as goal

pub returns-then-has : goal.returns-then-has
returns-then-has c =
    c.if-has.true
    ∙ sym (met_by c.args.kept.now c.args.keys.now c.args.key.now
    ∙ ap (λ b. b || list_any (same_key c.args.key.now) c.args.keys.now) (sym c.has.ensures ∙ c.if-has.true))

pub returns-else-has : goal.returns-else-has
returns-else-has c =
    c.is_among.ensures
    ∙ sym (met_by c.args.kept.now c.args.keys.now c.args.key.now
    ∙ ap (λ b. b || list_any (same_key c.args.key.now) c.args.keys.now) (sym c.has.ensures ∙ c.if-has.false))
