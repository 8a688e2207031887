use Rattle.tree_store.proofs.Ways.{behind_slash}
use Rattle.tree_store.proofs.laying.way_to.Goals as goal

pub range_from-way-requires : goal.range_from-way-requires
range_from-way-requires c = λ _. behind_slash c.args.place.now c.as_str.result.now c.as_str.ensures.text
    c.as_str.ensures.is_path c.as_str.utf8
