use Rattle.std.proofs.Common.{◌∙◌, ◌++◌, ap, string_bytes}
use lib.Utf8.{encode}
use Rattle.image_docs.specs.ByLaws.{plain_more}
use Rattle.image_docs.proofs.by.plain.Goals as goal

pub loop-c-preserved : goal.loop-c-preserved
loop-c-preserved c =
    plain_more _ _ _ _ _ c.in-Some.c c.in-Some.ensures.steps.0
    (c.in_ok-push.ensures.bytes ∙ ap (λ x. string_bytes c.loop-c.made ++ encode x) c.plain_char.ensures)
    c.loop-c.invariant
