use Rattle.std.proofs.Common.{◌∙◌}
use Rattle.store_prune.proofs.FilterLemmas.{unless_in}
use Rattle.store_prune.proofs.digits.unnamed.Goals as goal

pub returns : goal.returns
returns c = c.in_ok-found.ensures ∙ unless_in c.args.named c.args.digests.now c.in_ok-digits.digits
    c.in_ok-digits.ensures
