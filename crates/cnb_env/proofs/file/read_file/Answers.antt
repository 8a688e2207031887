use Rattle.std.proofs.Common.{◌≡◌, ◌∙◌, refl, ap, true, false, Option, Err}
use Rattle.std.proofs.lemmas.Result.{err_from_is_err_and}
use Rattle.cnb_world.specs.Path.{joined}
use Rattle.cnb_env.specs.Names.{is_ignored}
use Rattle.doc_files.proofs.Blame.{blames_same}
use Rattle.doc_files.proofs.Counts.{counts_after, names_none}
use Rattle.cnb_env.specs.declared.files.EnvFile.{EnvFile}
use Rattle.cnb_env.proofs.FileLemmas.{no_file, refused_file, found_refused, found_file}
use Rattle.cnb_env.proofs.file.read_file.Goals as goal

pub returns-then-is_ignored-clause-reads : goal.returns-then-is_ignored-clause-reads
returns-then-is_ignored-clause-reads g c =
    let ignored : is_ignored c.args.naming c.args.name.now ≡ true = cc in
    no_file c.args.naming c.args.folder.now c.args.name.now (joined c.args.folder.now c.args.name.now) refl _ ignored

pub returns-in_err-found-clause-reads : goal.returns-in_err-found-clause-reads
returns-in_err-found-clause-reads g c =
    let other : is_ignored c.args.naming c.args.name.now ≡ false = cc in
    let exit = err_from_is_err_and c.from_residual-in_err-found.result c.from_residual-in_err-found.ensures.1 in
    rw (exit.1, exit.2) (refused_file c.args.naming c.args.folder.now c.args.name.now _
    (c.in_ok-path.ensures.0 ∙ ap (joined c.args.folder.now) c.as_str-2.ensures) _ _ other
    c.in_err-found.ensures.reads)

pub returns-in_err-file_of-clause-reads : goal.returns-in_err-file_of-clause-reads
returns-in_err-file_of-clause-reads g c =
    let other : is_ignored c.args.naming c.args.name.now ≡ false = cc in
    let exit = err_from_is_err_and c.from_residual-in_err-file_of.result c.from_residual-in_err-file_of.ensures.1 in
    rw (exit.1, exit.2) (found_refused c.args.naming c.args.folder.now c.args.name.now _
    (c.in_ok-path.ensures.0 ∙ ap (joined c.args.folder.now) c.as_str-2.ensures) _ c.in_ok-found.found _ other
    c.in_ok-found.ensures.reads c.in_err-file_of.ensures.reads)

pub returns-clause-reads : goal.returns-clause-reads
returns-clause-reads g c =
    let other : is_ignored c.args.naming c.args.name.now ≡ false = cc in
    found_file c.args.naming c.args.folder.now c.args.name.now _
    (c.in_ok-path.ensures.0 ∙ ap (joined c.args.folder.now) c.as_str-2.ensures) _ c.in_ok-found.found
    c.in_ok-file_of.field-0 other c.in_ok-found.ensures.reads c.in_ok-file_of.ensures.reads

pub returns-in_err-found-clause-blames : goal.returns-in_err-found-clause-blames
returns-in_err-found-clause-blames g c =
    let exit = err_from_is_err_and c.from_residual-in_err-found.result c.from_residual-in_err-found.ensures.1 in
    rw (exit.1, exit.2) (blames_same _ _ (c.in_ok-path.ensures.0
    ∙ ap (joined c.args.folder.now) c.as_str-2.ensures) _ c.in_err-found.ensures.blames)

pub returns-in_err-file_of-clause-blames : goal.returns-in_err-file_of-clause-blames
returns-in_err-file_of-clause-blames g c =
    let exit = err_from_is_err_and c.from_residual-in_err-file_of.result c.from_residual-in_err-file_of.ensures.1 in
    rw (exit.1, exit.2) (blames_same _ _ (c.in_ok-path.ensures.0
    ∙ ap (joined c.args.folder.now) c.as_str-2.ensures) _ c.in_err-file_of.ensures.blames)

pub returns-in_err-file_of-clause-leaves : goal.returns-in_err-file_of-clause-leaves
returns-in_err-file_of-clause-leaves g c =
    let exit = err_from_is_err_and c.from_residual-in_err-file_of.result c.from_residual-in_err-file_of.ensures.1 in
    let left = c.in_ok-found.ensures.leaves in
    rw (exit.1, exit.2) (record {
      files = left.files;
      runs = left.runs;
      children = left.children;
      counts = counts_after (Option EnvFile) (Err _) _ _ left.counts c.in_err-file_of.ensures.files;
      cause = names_none _ _ c.in_err-file_of.ensures.files;
    })
