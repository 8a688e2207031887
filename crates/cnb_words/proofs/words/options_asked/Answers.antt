use Rattle.std.proofs.Common.{map, string_bytes, subst}
use Rattle.cnb_words.specs.Options.{options_in}
use Rattle.cnb_words.specs.Faults.{cause_of}
use Rattle.cnb_words.proofs.ChosenLemmas.{phase_law}
use Rattle.cnb_words.proofs.words.options_asked.Goals as goal
use Rattle.steps.specs.Causes.{IsAnswer}

pub returns-clause-words : goal.returns-clause-words
returns-clause-words c =
    subst (IsAnswer cause_of c.phase_asked.result)
    (phase_law c.args.command.now (options_in (map string_bytes c.args.words.now)))
    c.phase_asked.ensures.words
