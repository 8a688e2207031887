use Rattle.std.proofs.Common.{refl, ◌≡◌, ◌∙◌, ap, [], ◌∷◌}
use Rattle.std.proofs.lemmas.Result.{err_from_is_err_and}
use Rattle.tree_canon.specs.Rules.{first_byte}
use Rattle.tree_store.proofs.Ahead.{does_stop, does_value, leaves_stop, leaves_value}
use Rattle.tree_store.proofs.Takes.{one_byte, takes_so}
use Rattle.tree_store.proofs.kept_bytes.KeptBytes.byte.Goals as goal

pub returns-in_err-field-clause-leaves : goal.returns-in_err-field-clause-leaves
returns-in_err-field-clause-leaves g c = λ path.
    let exit = err_from_is_err_and c.from_residual.result c.from_residual.ensures.1 in
    rw (exit.1, exit.2) (leaves_stop path _ _ _ _ _ (c.in_err-field.ensures.leaves path))

pub returns-in_err-field-clause-reads : goal.returns-in_err-field-clause-reads
returns-in_err-field-clause-reads g c = λ b rest folders.
    let exit = err_from_is_err_and c.from_residual.result c.from_residual.ensures.1 in
    rw (exit.1, exit.2) (does_stop _ _ (b ∷ rest) rest rest _ _ folders folders folders _ _ _ _ _
    (c.in_err-field.ensures.reads (b ∷ []) rest folders refl))

pub returns-clause-leaves : goal.returns-clause-leaves
returns-clause-leaves g c = λ path. leaves_value path _ _ _ _ _ _ (c.in_ok-field.ensures.leaves path)

pub returns-clause-reads : goal.returns-clause-reads
returns-clause-reads g c = λ b rest folders. does_value (λ read. read ≡ b ∷ []) (λ read. read ≡ b) _ _
    (b ∷ rest) rest _ _ _ _ _ _ _ (λ e. c.first_byte.ensures ∙ ap first_byte (c.as_slice.ensures ∙ e))
    (c.in_ok-field.ensures.reads (b ∷ []) rest folders refl)

pub returns-clause-takes : goal.returns-clause-takes
returns-clause-takes g c = takes_so (one_byte c.in_ok-field.field _ _ c.in_ok-field.ensures.length c.as_slice.ensures
    c.first_byte.ensures) c.in_ok-field.ensures.takes
