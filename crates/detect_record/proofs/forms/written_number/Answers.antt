use Rattle.detect_record.proofs.FormLemmas.{decimal_text, parsed_number}
use Rattle.std.proofs.Common.{◌∙◌}
use Rattle.detect_record.proofs.forms.written_number.Goals as goal

pub returns-in-Ok : goal.returns-in-Ok
returns-in-Ok c =
    let same = c.in-Ok.ensures.cases.0 in
    c.ok.ensures.value ∙ parsed_number c.args.text.now c.parse.result c.requires (rw same at c.parse.ensures.value.0)

pub returns-in-Err : goal.returns-in-Err
returns-in-Err c = absurd (c.in-Err.ensures.cases.0 (decimal_text c.args.text.now c.requires))
