use Rattle.std.proofs.Common.{Ok}
use Rattle.std.proofs.lemmas.Result.{err_from_is_err_and}
use Rattle.doc_files.proofs.Blame.{blames_same}
use Rattle.cnb_launch.proofs.DocumentLemmas.{doc_read, doc_refused}
use Rattle.cnb_launch.proofs.documents.read_launch.Goals as goal

pub returns-in_err-doc-clause-reads : goal.returns-in_err-doc-clause-reads
returns-in_err-doc-clause-reads g c =
    let exit = err_from_is_err_and c.from_residual-in_err-doc.result c.from_residual-in_err-doc.ensures.1 in
    rw (exit.1, exit.2) (doc_refused c.args.root.now c.in_ok-path.path
    (g.W.World.tree c.args.world.now) _ c.in_ok-path.ensures c.in_err-doc.ensures.reads)

pub returns-in_err-doc-clause-blames : goal.returns-in_err-doc-clause-blames
returns-in_err-doc-clause-blames g c =
    let exit = err_from_is_err_and c.from_residual-in_err-doc.result c.from_residual-in_err-doc.ensures.1 in
    rw (exit.1, exit.2) (blames_same c.in_ok-path.path _ c.in_ok-path.ensures _ c.in_err-doc.ensures.blames)

pub returns-clause-reads : goal.returns-clause-reads
returns-clause-reads g c = doc_read c.args.root.now c.in_ok-path.path (g.W.World.tree c.args.world.now)
    (Ok c.in_ok-doc.doc) c.in_ok-path.ensures c.in_ok-doc.ensures.reads
