use Rattle.std.proofs.Common.{◌≡◌, false, sym, ◌∙◌, ap, List, [], ◌∷◌, ◌++◌, map, rules}
use Rattle.bp_docs.specs.declared.descriptor.Descriptor.{Descriptor}
use Rattle.order_expand.specs.Catalog.{has_key, has_distinct_keys}
use Rattle.order_expand.specs.Fingerprints.{descriptor_fingerprint}
use Rattle.order_expand.proofs.Keys.{distinct_push}
use Rattle.order_expand.proofs.Tables.{table_push}
use Rattle.order_expand.proofs.catalog.Catalog.add.Goals as goal

pub invariant_of-self-else-is_err : goal.invariant_of-self-else-is_err
invariant_of-self-else-is_err c =
    let items = c.self.inside.descriptors.items in
    let prints = c.self.inside.fingerprints.items in
    let new : has_key items c.args.descriptor.key ≡ false =
    ap (λ (xs : List Descriptor). has_key xs c.args.descriptor.key) c.self.view_is
    ∙ (sym c.has.ensures ∙ c.if-has.false) in
    let pushed : c.push-2.new.self.items ≡ prints ++ c.fingerprint_of-print.result ∷ [] = search rules in (
      ap has_distinct_keys c.in_ok-push.ensures.items ∙ distinct_push items c.args.descriptor c.self.invariant.0 new,
      pushed ∙ (ap (λ print. prints ++ print ∷ []) c.fingerprint_of-print.ensures
          ∙ (table_push descriptor_fingerprint prints items c.args.descriptor c.self.invariant.1
          ∙ ap (map descriptor_fingerprint) (sym c.in_ok-push.ensures.items))),
    )
