use Rattle.std.proofs.Common.{◌≡◌, ℕ, List, Ok, Err, inl, subst, sym}
use Rattle.std.specs.Prelude.{IfSome}
use Rattle.std.proofs.lemmas.Result.{err_from_is_err_and}
use Rattle.cnb_world.specs.Tree.{Tree}
use Rattle.steps.proofs.ReadingLaws.{answers_where, refused_where}
use Rattle.doc_files.proofs.Blame.{fails_among}
use Rattle.doc_files.proofs.NamesRead.{told}
use Rattle.doc_files.specs.Faults.{read_cause}
use Rattle.doc_files.specs.Reading.{names_at}
use Rattle.cnb_env.specs.Files.{IsOfFolder, files_of}
use Rattle.cnb_env.proofs.folder.read_folder.Goals as goal

pub returns-in_err-names-clause-reads : goal.returns-in_err-names-clause-reads
returns-in_err-names-clause-reads g c =
    let exit = err_from_is_err_and c.from_residual.result c.from_residual.ensures.1 in
    rw (exit.1, exit.2) (refused_where read_cause _ (λ (files : Tree). names_at files c.args.folder.now)
    (λ (names : List (List ℕ)) (files : Tree). files_of c.args.naming files c.args.folder.now names) _
    c.in_err-names.ensures.reads)

pub returns-in_err-names-clause-blames : goal.returns-in_err-names-clause-blames
returns-in_err-names-clause-blames g c =
    let exit = err_from_is_err_and c.from_residual.result c.from_residual.ensures.1 in
    rw (exit.1, exit.2) (fails_among c.args.folder.now (IsOfFolder c.args.folder.now)
    (λ blamed e. inl e) _ c.in_err-names.ensures.blames)

pub returns-in_err-files-clause-reads : goal.returns-in_err-files-clause-reads
returns-in_err-files-clause-reads g c =
    let folder = c.args.folder.now in
    let N : List (List ℕ) → Type 0 = λ names. IfSome (g.W.World.tree c.args.world.now)
    (λ files. names_at files folder ≡ told names) in
    let names = subst N (sym c.as_slice.ensures) c.in_ok-names.ensures.reads in
    let exit = err_from_is_err_and c.from_residual-in_err-files.result c.from_residual-in_err-files.ensures.1 in
    rw (exit.1, exit.2) (answers_where read_cause _ _ (λ (files : Tree). names_at files folder)
    (λ (names : List (List ℕ)) (files : Tree). files_of c.args.naming files folder names)
    c.as_slice.result.now (Err _) c.in_ok-names.ensures.leaves.files names c.in_err-files.ensures.reads)

pub returns-clause-reads : goal.returns-clause-reads
returns-clause-reads g c =
    let folder = c.args.folder.now in
    let N : List (List ℕ) → Type 0 = λ names. IfSome (g.W.World.tree c.args.world.now)
    (λ files. names_at files folder ≡ told names) in
    let names = subst N (sym c.as_slice.ensures) c.in_ok-names.ensures.reads in
    answers_where read_cause _ _ (λ (files : Tree). names_at files folder)
    (λ (names : List (List ℕ)) (files : Tree). files_of c.args.naming files folder names)
    c.as_slice.result.now (Ok c.in_ok-files.files) c.in_ok-names.ensures.leaves.files names
    c.in_ok-files.ensures.reads
