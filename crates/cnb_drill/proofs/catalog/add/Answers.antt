use Rattle.std.proofs.Common.{◌≡◌, true, subst, Err}
use Rattle.order_expand.specs.Added.{AddsTo}
use Rattle.order_expand.specs.Catalog.{has_key}
use Rattle.order_expand.specs.declared.catalog.CatalogFault.{CatalogFault}
use Rattle.cnb_drill.proofs.catalog.add.Goals as goal

pub unreachable-requires : goal.unreachable-requires
unreachable-requires c =
    let A : CatalogFault → Type 0 = λ fault. AddsTo (Err fault) c.args.catalog.now c.args.descriptor c.add.new.self in
    let there : has_key c.args.catalog.now c.args.descriptor.key
    ≡ true = (subst A c.in-Err-Twice.field-0-is c.in-Err-Twice.ensures.added).0 in
    let new = c.requires in
    cc
