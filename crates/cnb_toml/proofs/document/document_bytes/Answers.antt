use Rattle.std.proofs.Common.{◌∙◌, ap, string_bytes}
use Rattle.std.proofs.lemmas.Bool.{cond-true}
use Rattle.std.proofs.lemmas.Str.{IsUtf8-string_bytes}
use Rattle.cnb_toml.specs.Document.{document_in, or_not_toml}
use Rattle.cnb_toml.proofs.Texts.{is_text}
use Rattle.cnb_toml.proofs.document.document_bytes.Goals as goal

pub returns-in-Ok : goal.returns-in-Ok
returns-in-Ok c = λ within.
    let text = c.in-Ok.text in
    ap document_in (c.from_vec.ensures ∙ ap (λ v. v.items) c.into_bytes.ensures.value)
    ∙ cond-true _ _ _ (is_text (string_bytes text) (IsUtf8-string_bytes text))
    ∙ ap or_not_toml (c.in-Ok.ensures.reads_back within)
