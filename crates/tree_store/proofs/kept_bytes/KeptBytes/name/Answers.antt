use Rattle.std.proofs.Common.{◌≡◌, ◌∙◌, ap, sym, true, false, ℕ, List, ◌&&◌, not}
use Rattle.std.proofs.lemmas.Bool.{and_parts}
use Rattle.std.proofs.lemmas.Result.{err_from_is_err_and}
use Rattle.cnb_world.specs.Path.{is_part}
use Rattle.tree_canon.specs.Names.{is_dots, is_name, is_plain, is_text}
use Rattle.tree_store.proofs.Ahead.{leaves_broken, leaves_stop, reads_on, reads_stop}
use Rattle.tree_store.proofs.Fields.{name_part}
use Rattle.tree_store.proofs.Fitting.{utf8_name}
use Rattle.tree_store.proofs.kept_bytes.KeptBytes.name.Goals as goal

text_of : (name : List ℕ) → is_name name ≡ true → is_text 255 name ≡ true
text_of name is = (and_parts (is_text 255 name) (is_plain name && not (is_dots name)) is).0

pub returns-in_err-name-clause-leaves : goal.returns-in_err-name-clause-leaves
returns-in_err-name-clause-leaves g c = λ path.
    let exit = err_from_is_err_and c.from_residual.result c.from_residual.ensures.1 in
    rw (exit.1, exit.2) (leaves_stop path _ _ _ _ _ (c.in_err-name.ensures.leaves path))

pub returns-in_err-name-clause-reads : goal.returns-in_err-name-clause-reads
returns-in_err-name-clause-reads g c = λ name rest folders is.
    let exit = err_from_is_err_and c.from_residual.result c.from_residual.ensures.1 in
    rw (exit.1, exit.2) (reads_stop (λ read. read ≡ name) (λ read. read ≡ name)
    (c.in_err-name.ensures.reads name rest folders (text_of name is)))

pub returns-then-is_part-clause-reads : goal.returns-then-is_part-clause-reads
returns-then-is_part-clause-reads g c = λ name rest folders is. c.in_ok-name.ensures.reads name rest folders
    (text_of name is)

pub returns-else-is_part-clause-leaves : goal.returns-else-is_part-clause-leaves
returns-else-is_part-clause-leaves g c = λ path. rw c.broken.ensures
    (leaves_broken path _ _ _ _ c.in_ok-name.name _ _ _ (c.in_ok-name.ensures.leaves path))

pub returns-else-is_part-clause-reads : goal.returns-else-is_part-clause-reads
returns-else-is_part-clause-reads g c = λ name rest folders is.
    reads_on (λ read. read ≡ name) (λ read. read ≡ name)
    (c.in_ok-name.ensures.reads name rest folders (text_of name is))
    (λ value. absurd (let no : false ≡ true = c.if-is_part.ensures
    ∙ ap is_part (c.as_bytes.ensures.value ∙ c.as_str.ensures ∙ value) ∙ name_part name is in cc))

pub returns-then-is_part-clause-form : goal.returns-then-is_part-clause-form
returns-then-is_part-clause-form g c = utf8_name c.in_ok-name.name _ _
    (sym (ap is_part (c.as_bytes.ensures.value ∙ c.as_str.ensures)) ∙ sym c.if-is_part.ensures) c.as_str.ensures
    c.as_bytes.ensures.value c.as_bytes.ensures.utf8
