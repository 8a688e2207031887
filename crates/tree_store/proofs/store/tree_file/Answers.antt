use Rattle.std.proofs.Common.{◌∙◌}
use Rattle.hex.specs.Hex.{encode_lower}
use Rattle.tree_store.proofs.StorePaths.{digest_part, tree_beside}
use Rattle.tree_store.proofs.Settled.{tree_apart, tree_parent, tree_within}
use Rattle.tree_store.proofs.store.tree_file.Goals as goal

pub below-requires-2-clause-part : goal.below-requires-2-clause-part
below-requires-2-clause-part c = digest_part (encode_lower c.args.digest.now) c.as_str.result.now
    (c.as_str.ensures ∙ c.in_ok-name.ensures.text) c.in_ok-name.ensures.digits

pub returns-clause-beside : goal.returns-clause-beside
returns-clause-beside c = tree_beside c.args.store.now c.in_ok-trees.trees
    (encode_lower c.args.digest.now) c.as_str.result.now c.in_ok-path.path c.requires c.in_ok-trees.ensures.0
    c.in_ok-trees.ensures.1 (c.as_str.ensures ∙ c.in_ok-name.ensures.text) c.in_ok-name.ensures.digits
    c.in_ok-path.ensures.0

pub returns-clause-apart : goal.returns-clause-apart
returns-clause-apart c = tree_apart c.args.store.now c.in_ok-trees.trees
    (encode_lower c.args.digest.now) c.as_str.result.now c.in_ok-path.path c.in_ok-trees.ensures.0
    (c.as_str.ensures ∙ c.in_ok-name.ensures.text) c.in_ok-name.ensures.digits c.in_ok-path.ensures.0

pub returns-clause-parent : goal.returns-clause-parent
returns-clause-parent c = tree_parent c.args.store.now c.in_ok-trees.trees
    (encode_lower c.args.digest.now) c.as_str.result.now c.in_ok-path.path c.in_ok-trees.ensures.0
    c.in_ok-trees.ensures.1 (c.as_str.ensures ∙ c.in_ok-name.ensures.text) c.in_ok-name.ensures.digits
    c.in_ok-path.ensures.0

pub returns-clause-within : goal.returns-clause-within
returns-clause-within c = tree_within c.args.store.now c.in_ok-trees.trees
    (encode_lower c.args.digest.now) c.as_str.result.now c.in_ok-path.path c.in_ok-trees.ensures.0
    (c.as_str.ensures ∙ c.in_ok-name.ensures.text) c.in_ok-name.ensures.digits c.in_ok-path.ensures.0
