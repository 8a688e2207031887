use Rattle.std.proofs.lemmas.Result.{err_from_is_err_and}
use Rattle.doc_files.proofs.Blame.{blames_same}
use Rattle.image_files.proofs.TargetLaws.{target_fits, target_named, target_read, target_refused}
use Rattle.image_files.proofs.target.read_target.Goals as goal

pub returns-in_err-found-clause-reads : goal.returns-in_err-found-clause-reads
returns-in_err-found-clause-reads g c =
    let exit = err_from_is_err_and c.from_residual-in_err-found.result c.from_residual-in_err-found.ensures.1 in
    rw (exit.1, exit.2) (target_refused c.in_ok-path.path c.args.work.now c.in_ok-path.ensures _ _
    c.in_err-found.ensures.reads)

pub returns-in_err-found-clause-blames : goal.returns-in_err-found-clause-blames
returns-in_err-found-clause-blames g c =
    let exit = err_from_is_err_and c.from_residual-in_err-found.result c.from_residual-in_err-found.ensures.1 in
    rw (exit.1, exit.2) (blames_same c.in_ok-path.path _ c.in_ok-path.ensures _ c.in_err-found.ensures.blames)

pub returns-in_err-found-clause-misused : goal.returns-in_err-found-clause-misused
returns-in_err-found-clause-misused g c = target_fits c.in_ok-path.path c.args.work.now c.in_ok-path.ensures _ _ _
    c.in_err-found.ensures.misused

pub returns-clause-reads : goal.returns-clause-reads
returns-clause-reads g c = target_read c.in_ok-path.path c.args.work.now c.in_ok-path.ensures c.in_ok-found.found
    _ _ c.target_of.ensures c.in_ok-found.ensures.reads

pub returns-clause-misused : goal.returns-clause-misused
returns-clause-misused g c = target_fits c.in_ok-path.path c.args.work.now c.in_ok-path.ensures _ _ _
    c.in_ok-found.ensures.misused

pub returns-clause-named : goal.returns-clause-named
returns-clause-named g c = target_named c.in_ok-found.found _ c.target_of.ensures c.in_ok-found.ensures.read
