use Rattle.std.proofs.Common.{◌≡◌, ◌∙◌, ◌<◌, ◌-◌, length, reverse, ap, subst, sym, arith}
use Rattle.std.specs.Prelude.{min, OnOk}
use Rattle.tree_canon.specs.declared.building.Current.TheVariants as current
use Rattle.tree_canon.specs.Making.{Made, made_at}
use Rattle.tree_canon.specs.Decoding.{made}
use Rattle.tree_canon.proofs.Making.{part_made, whole_made, others_stay}
use Rattle.tree_canon.proofs.building.Building.append.Goals as goal

pub returns-then-share-left : goal.returns-then-share-left
returns-then-share-left c =
    let old = c.args.self.now in
    let is : c.args.self.now.current ≡ current.File c.in-File.exec c.in-File.size c.in-File.bytes = sym
    c.replace.ensures.value ∙ c.in-File.is in
    let lacks : length c.in-File.bytes < c.in-File.size = c.args.self.now.partial c.in-File.exec c.in-File.size
    c.in-File.bytes is in
    let least : c.min-share.result ≡ min (c.in-File.size - length c.in-File.bytes)
    (length c.args.next.now) = omega (arith, c.min-share.ensures, ap length c.as_slice.ensures) in
    part_made (reverse old.folders.items) old.current c.in-File.exec c.in-File.size c.in-File.bytes
    c.args.next.now c.min-share.result is lacks least c.append.new.self c.in_ok-append-in-File.ensures.ok
    (omega (arith, c.if-share-left.true, ap length c.as_slice.ensures))

pub returns-else-share-left : goal.returns-else-share-left
returns-else-share-left c =
    let old = c.args.self.now in
    let is : c.args.self.now.current ≡ current.File c.in-File.exec c.in-File.size c.in-File.bytes = sym
    c.replace.ensures.value ∙ c.in-File.is in
    let lacks : length c.in-File.bytes < c.in-File.size = c.args.self.now.partial c.in-File.exec c.in-File.size
    c.in-File.bytes is in
    let least : c.min-share.result ≡ min (c.in-File.size - length c.in-File.bytes)
    (length c.args.next.now) = omega (arith, c.min-share.ensures, ap length c.as_slice.ensures) in
    subst (λ (m : Made). OnOk c.put.result (made c.put.new.self ≡ m))
    (whole_made (reverse old.folders.items) old.current c.in-File.exec c.in-File.size c.in-File.bytes
    c.args.next.now c.min-share.result is lacks least c.append.new.self c.in_ok-append-in-File.ensures.ok
    (omega (arith, c.if-share-left.false, ap length c.as_slice.ensures)))
    c.put.ensures

pub returns-in_default : goal.returns-in_default
returns-in_default c =
    let old = c.args.self.now in
    let same = c.replace.ensures.value in
    ap (λ u. made_at (reverse old.folders.items) u) same ∙ sym
    (others_stay (reverse old.folders.items) old.current c.args.next.now
    (λ exec size bytes is. c.in_default.not-File exec size bytes (same ∙ is)))
