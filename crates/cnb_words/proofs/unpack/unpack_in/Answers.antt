use Rattle.std.proofs.Common.{[], ◌∷◌, codes, map, refl, string_bytes}
use Rattle.std.proofs.lemmas.Result.{err_from_is_err_and}
use Rattle.cnb_words.specs.Unpack.{unpack_in}
use Rattle.cnb_words.proofs.ChosenLemmas.{refused_words}
use Rattle.cnb_words.proofs.unpack.unpack_in.Goals as goal

pub returns-in_err-options-clause-reads : goal.returns-in_err-options-clause-reads
returns-in_err-options-clause-reads c =
    let exit = err_from_is_err_and c.from_residual.result c.from_residual.ensures.1 in
    rw (exit.1, exit.2) (refused_words (codes "store" ∷ codes "image" ∷ codes "root" ∷ []) []
    (map string_bytes c.args.words.now) unpack_in _ (λ options e. rw e refl) c.in_err-options.ensures.refused)
