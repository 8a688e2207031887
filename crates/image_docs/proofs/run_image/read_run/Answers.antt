use Rattle.image_docs.specs.RunImage.{is_run_doc, table_in}
use Rattle.image_docs.proofs.Answered.{answered, in_document}
use Rattle.image_docs.proofs.ReadLaws.{run_holds}
use Rattle.image_docs.proofs.run_image.read_run.Goals as goal

pub returns-clause-readable : goal.returns-clause-readable
returns-clause-readable c = answered is_run_doc _ _ c.read_document.ensures
    (in_document table_in is_run_doc run_holds c.args.bytes.now)
