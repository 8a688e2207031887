use Rattle.store_prune.proofs.FilterLemmas.{fewer, pruned_is}
use Rattle.store_prune.proofs.surveying.pruned_of.Goals as goal

pub kept_of-kept-requires : goal.kept_of-kept-requires
kept_of-kept-requires c = fewer c.args.named c.args.trees.now c.in_ok-removed.removed c.as_slice.result.now
    c.in_ok-removed.ensures c.as_slice.ensures

pub returns : goal.returns
returns c = pruned_is c.args.named c.args.trees.now c.in_ok-removed.removed c.as_slice.result.now
    c.kept_of-kept.result c.in_ok-removed.ensures c.as_slice.ensures c.kept_of-kept.ensures
