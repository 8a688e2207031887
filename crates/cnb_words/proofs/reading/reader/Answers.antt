use Rattle.std.proofs.Common.{◌∙◌, ap, arith, map, refl}
use Rattle.clap.specs.Simple.{with_rule}
use Rattle.clap.specs.Words.{app_of}
use Rattle.cnb_words.proofs.RowLemmas.{often_more, once_more}
use Rattle.cnb_words.proofs.reading.reader.Goals as goal

pub loop-name-preserved : goal.loop-name-preserved
loop-name-preserved c =
    once_more (app_of c.loop-name.command) (app_of c.in_ok-command.command) c.args.once.now c.loop-name.name-index
    _ _ (omega arith) refl
    (c.in_ok-command.ensures.shape c.option.ensures.local ∙ ap
    (with_rule (app_of c.loop-name.command)) c.option.ensures.rule) c.loop-name.invariant

pub loop-name-2-preserved : goal.loop-name-2-preserved
loop-name-2-preserved c =
    often_more (app_of c.loop-name-2.command) (app_of c.in_ok-command-2.command)
    (map (λ name. name.now) c.args.once.now) c.args.often.now c.loop-name-2.name-index _ _ (omega arith) refl
    (c.in_ok-command-2.ensures.shape c.option-in-loop-name-2.ensures.local
    ∙ ap (with_rule (app_of c.loop-name-2.command)) c.option-in-loop-name-2.ensures.rule)
    c.loop-name-2.invariant
