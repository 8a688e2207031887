use Rattle.image_docs.specs.Image.{image_table_in, is_image_doc}
use Rattle.image_docs.proofs.Answered.{answered, in_document}
use Rattle.image_docs.proofs.ReadLaws.{image_holds}
use Rattle.image_docs.proofs.image.read_image.Goals as goal

pub returns-clause-readable : goal.returns-clause-readable
returns-clause-readable c = answered is_image_doc _ _ c.read_document.ensures
    (in_document image_table_in is_image_doc image_holds c.args.bytes.now)
