use Rattle.std.proofs.Common.{◌∙◌, nat_lt, ap, sym, length}
use Rattle.std.specs.List.{list_all}
use Rattle.std.proofs.lemmas.Bool.{and_from, eq-eqb}
use Rattle.image_docs.proofs.digest_text.are_sized.Goals as goal

pub returns : goal.returns
returns c = and_from _ _ (eq-eqb (length c.args.bytes.now) 32 c.told-bytes)
    (sym (ap (list_all (λ byte. nat_lt byte 256)) c.as_slice.ensures) ∙ c.are_bytes.ensures)
