use Rattle.std.proofs.Common.{◌∙◌, ap}
use Rattle.std.specs.Prelude.{is_some}
use Rattle.std.proofs.lemmas.Result.{err_from_is_err_and}
use Rattle.tree_store.specs.Origin.{of_file}
use Rattle.tree_store.proofs.Stored.{judged_and_laid, not_judged}
use Rattle.tree_store.proofs.folders.lay_judged.Goals as goal

pub returns-in_err-check_file : goal.returns-in_err-check_file
returns-in_err-check_file g c =
    let exit = err_from_is_err_and c.from_residual.result c.from_residual.ensures.1 in
    rw (exit.1, exit.2) (record {
      steps = (not_judged g.W.World c.args.store.now c.args.digest.now c.args.root.now
          c.args.place.now _ _ _ c.in_err-check_file.ensures.checks c.in_err-check_file.ensures.blames
          c.in_err-check_file.ensures.leaves c.in_err-check_file.ensures.misused);
    })

pub returns : goal.returns
returns g c = record {
  steps =
      judged_and_laid g.W.World c.args.store.now c.args.digest.now c.args.root.now c.args.place.now _ _ _ _ _ _
      c.lay_kept.result c.in_ok-check_file.ensures.checks c.in_ok-check_file.ensures.leaves
      c.in_ok-check_file.ensures.misused
      (ap (λ file. file.path) c.new-source.ensures.origin ∙ c.requires.path)
      (ap (λ file. is_some (of_file file.path).shelf) c.new-source.ensures.origin)
      (record {
        named = c.new-source.ensures.digest;
        hashed = c.new-source.ensures.hashed;
        at = c.new-source.ensures.at;
        piece = c.new-source.ensures.piece;
      }) c.lay_kept.ensures.leaves c.lay_kept.ensures.lays c.lay_kept.ensures.partly;
}
