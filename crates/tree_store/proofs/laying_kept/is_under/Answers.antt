use Rattle.std.proofs.Common.{sym, ap, ◌∙◌, ◌++◌}
use Rattle.cnb_world.specs.Tree.{is_under}
use Rattle.cnb_world.specs.Effects.{is_slashed}
use Rattle.cnb_world.proofs.EffectLemmas.{within_more, not_within}
use Rattle.tree_store.proofs.laying_kept.is_under.Goals as goal

pub returns-in-Some : goal.returns-in-Some
returns-in-Some c =
    let found = c.in-Some.ensures.cases in
    c.is_slashed.ensures ∙ ap is_slashed c.as_bytes.ensures.value
    ∙ sym (within_more c.args.folder.now c.in-Some.rest.now)
    ∙ ap (is_under c.args.folder.now) (ap (λ rest. c.args.folder.now ++ rest) found.2 ∙ sym found.1.1)

pub returns-in-None : goal.returns-in-None
returns-in-None c = sym (not_within c.args.folder.now c.args.path.now c.in-None.ensures.cases)
