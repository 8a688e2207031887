use Rattle.std.proofs.Common.{[], refl}
use Rattle.std.proofs.lemmas.Result.{err_from_is_err_and}
use Rattle.tree_store.proofs.Givings.{digest_refused, digest_walked, walked_err, walked_ok}
use Rattle.tree_store.proofs.caching.digest_folder.Goals as goal

pub returns-in_err-walk : goal.returns-in_err-walk
returns-in_err-walk g c =
    let exit = err_from_is_err_and c.from_residual.result c.from_residual.ensures.1 in
    rw (exit.1, exit.2) (record {
      steps = digest_refused c.args.path.now _ _ _ (walked_err c.args.path.now _ _ [] [] [] _ _ _ (record {
        target = refl;
        piece = c.new-writer.ensures.piece;
        hashed = c.new-writer.ensures.hashed;
        begun = tt;
        plain = c.requires.plain;
      }) c.in_err-walk.ensures);
    })

pub returns : goal.returns
returns g c = record {
  steps = digest_walked c.args.path.now _ _ _ _ (walked_ok c.args.path.now _ _ [] [] [] _ _ _ (record {
    target = refl;
    piece = c.new-writer.ensures.piece;
    hashed = c.new-writer.ensures.hashed;
    begun = tt;
    plain = c.requires.plain;
  }) c.in_ok-walk.ensures) c.end-digest.ensures.digest;
}
