use Rattle.std.proofs.Common.{◌∙◌, ap, codes}
use Rattle.cnb_world.specs.Path.{joined}
use Rattle.cnb_build.specs.declared.places.Left.{Left}
use Rattle.cnb_build.proofs.places.places_of.Goals as goal

pub returns-clause-places : goal.returns-clause-places
returns-clause-places c =
    let buildpack = c.in_ok-buildpack.ensures.folder in
    let layers = c.in_ok-layers.ensures.path in
    let descriptor = c.in_ok-descriptor.ensures.0 ∙ ap (λ folder. joined folder (codes "buildpack.toml")) buildpack in
    let unmet = ap (λ (left : Left). left.unmet) c.in_ok-left.ensures
    ∙ ap (λ folder. joined folder (codes "build.toml")) layers in
    let launch = ap (λ (left : Left). left.launch) c.in_ok-left.ensures
    ∙ ap (λ folder. joined folder (codes "launch.toml")) layers in
    let store = ap (λ (left : Left). left.store) c.in_ok-left.ensures
    ∙ ap (λ folder. joined folder (codes "store.toml")) layers in
    λ i. record {
      buildpack = buildpack i;
      descriptor = descriptor i;
      layers = layers i;
      plan = c.in_ok-plan.ensures.path i;
      unmet = unmet i;
      launch = launch i;
      store = store i;
    }
