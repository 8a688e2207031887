use Rattle.doc_files.proofs.NamesRead.{names_read}
use Rattle.doc_files.proofs.folder.list_names.Goals as goal

pub returns-in-Ok-clause-reads : goal.returns-in-Ok-clause-reads
returns-in-Ok-clause-reads g c = names_read c.args.folder.now c.in-Ok.names
    (g.W.World.tree c.args.world.now) _ _ c.in-Ok.ensures.names c.in-Ok.ensures.told c.in-Ok.ensures.misused
