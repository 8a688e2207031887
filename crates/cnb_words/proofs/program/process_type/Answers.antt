use Rattle.std.proofs.Common.{◌∙◌, ap, sym}
use Rattle.std.specs.Option.{option_copied}
use Rattle.cnb_words.proofs.TypeLemmas.{type_in}
use Rattle.cnb_words.proofs.program.process_type.Goals as goal

pub returns-then-is_process_path-clause-kind : goal.returns-then-is_process_path-clause-kind
returns-then-is_process_path-clause-kind c =
    ap option_copied c.ok.ensures.value
    ∙ type_in _ c.args.program.now c.last_part.result.now c.from_utf8.result
    (sym c.is_process_path.ensures ∙ c.if-is_process_path.true) c.last_part.ensures c.from_utf8.ensures.cases
