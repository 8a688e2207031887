use Rattle.std.proofs.Common.{◌≡◌, true, false, subst, Err}
use Rattle.order_expand.specs.Added.{AddsTo}
use Rattle.order_expand.specs.Catalog.{has_key}
use Rattle.order_expand.specs.declared.catalog.CatalogFault.{CatalogFault}
use Rattle.order_files.specs.Places.{BelongsTo, IsPlaced}
use Rattle.order_files.proofs.PlaceLemmas.{keeps_others, new_key}
use Rattle.order_files.proofs.version.with_descriptor.Goals as goal

pub unreachable-requires : goal.unreachable-requires
unreachable-requires c =
    let placed : BelongsTo c.args.id_folder.now c.args.version.now c.in-Some.descriptor = subst
    (IsPlaced c.args.id_folder.now c.args.version.now) c.in-Some.is c.requires.placed in
    let new : has_key c.args.catalog c.in-Some.descriptor.key
    ≡ false = new_key c.args.id_folder.now c.args.version.now c.in-Some.descriptor placed c.args.catalog
    c.requires.vacant in
    let A : CatalogFault → Type 0 = λ fault. AddsTo (Err fault) c.args.catalog c.in-Some.descriptor c.add.new.self in
    let there : has_key c.args.catalog c.in-Some.descriptor.key
    ≡ true = (subst A c.in-Err-Twice.field-0-is c.in-Err-Twice.ensures.added).0 in
    cc

pub returns-in-Ok-clause-others : goal.returns-in-Ok-clause-others
returns-in-Ok-clause-others c =
    let placed : BelongsTo c.args.id_folder.now c.args.version.now c.in-Some.descriptor = subst
    (IsPlaced c.args.id_folder.now c.args.version.now) c.in-Some.is c.requires.placed in
    keeps_others c.args.id_folder.now c.args.version.now c.in-Some.descriptor placed c.args.catalog c.add.new.self
    c.in-Ok.ensures.added.1
