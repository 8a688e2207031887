use Rattle.tree_store.proofs.Fitting.{utf8_name}
use Rattle.tree_store.proofs.reading.head_length.Goals as goal

pub returns-clause-name : goal.returns-clause-name
returns-clause-name c = utf8_name c.args.name.now c.as_str.result.now c.as_bytes.result.now c.requires
    c.as_str.ensures c.as_bytes.ensures.value c.as_bytes.ensures.utf8
