use Rattle.std.proofs.Common.{◌∙◌, ◌++◌, ap}
use Rattle.std.specs.Prelude.{flat_map}
use Rattle.store_prune.specs.Report.{removed_line}
use Rattle.store_prune.proofs.report.pruned_text.Goals as goal

pub returns : goal.returns
returns c =
    c.from_string.ensures ∙ c.in_ok-push_str.ensures.bytes ∙ ap (λ t. t ++ c.as_str.result.now)
    (c.in_ok-text.ensures ∙ ap (flat_map removed_line) c.as_slice.ensures)
    ∙ ap (λ t. flat_map removed_line c.args.pruned.now.removed ++ t) (c.as_str.ensures.value ∙ c.in_ok-line.ensures)
