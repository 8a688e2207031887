use Rattle.std.proofs.Common.{◌∙◌, ◌++◌, ap}
use Rattle.std.specs.Prelude.{flat_map}
use Rattle.cnb_rebase.specs.Report.{row_line}
use Rattle.cnb_rebase.proofs.showing.show.Goals as goal

pub returns : goal.returns
returns c =
    c.from_string.ensures ∙ c.in_ok-push_str.ensures.bytes ∙ ap (λ t. t ++ c.as_str.result.now)
    (c.in_ok-text.ensures ∙ ap (flat_map row_line) c.as_slice.ensures)
    ∙ ap (λ t. flat_map row_line c.args.image.now.rows ++ t) (c.as_str.ensures.value ∙ c.in_ok-line.ensures)
