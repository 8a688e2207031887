use Rattle.std.proofs.Common.{◌∙◌}
use Rattle.hex.specs.Hex.{encode_lower}
use Rattle.tree_store.proofs.StorePaths.{digest_part}
use Rattle.store_prune.proofs.trees.tree_file.Goals as goal

pub below-requires-clause-part : goal.below-requires-clause-part
below-requires-clause-part c = digest_part (encode_lower c.args.digest.now) c.as_str.result.now
    (c.as_str.ensures ∙ c.in_ok-name.ensures.text) c.in_ok-name.ensures.digits
