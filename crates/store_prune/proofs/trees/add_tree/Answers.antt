use Rattle.std.proofs.Common.{◌∙◌, refl, subst, sym, Ok}
use Rattle.steps.specs.Outside.{seen}
use Rattle.steps.specs.Steps.{yields}
use Rattle.store_prune.specs.Trees.{adds_digest, adds_tree}
use Rattle.store_prune.proofs.trees.add_tree.Goals as goal

pub returns-in-Some : goal.returns-in-Some
unfolding adds_tree
returns-in-Some g c = record {
  steps = subst (λ found. adds_digest c.args.store.now found c.args.trees
      (seen g.W.World c.args.world.now) c.add_digest.result (seen g.W.World c.add_digest.new.world))
      (sym c.in-Some.is ∙ c.tree_digest.ensures) c.add_digest.ensures.steps;
}

pub returns-in-None : goal.returns-in-None
unfolding adds_tree adds_digest yields
returns-in-None g c = record {
  steps = subst (λ found. adds_digest c.args.store.now found c.args.trees
      (seen g.W.World c.args.world.now) (Ok c.args.trees) (seen g.W.World c.args.world.now))
      (sym c.in-None.is ∙ c.tree_digest.ensures) (refl, refl);
}
