use Rattle.std.proofs.Common.{◌∙◌, ap}
use Rattle.std.proofs.lemmas.Result.{err_from_is_err_and}
use Rattle.tree_store.specs.Writing.{new_path}
use Rattle.tree_store.proofs.Written.{others_memory, written_first}
use Rattle.tree_store.proofs.writing.begin.Goals as goal

pub returns-in_err-path-clause-leaves : goal.returns-in_err-path-clause-leaves
returns-in_err-path-clause-leaves g c =
    let exit = err_from_is_err_and c.from_residual.result c.from_residual.ensures.1 in
    rw (exit.1, exit.2) (others_memory (new_path c.args.store.now) _)

pub returns-clause-begun : goal.returns-clause-begun
returns-clause-begun g c = written_first _ c.new.ensures.piece c.new.ensures.hashed (record {
  went = (ap (λ f. f.path) c.new.ensures.target ∙ c.in_ok-path.ensures, c.in_ok-begin_file.ensures.ok);
  kept = c.in_ok-begin_file.ensures.leaves.around.files;
})
