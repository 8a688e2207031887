-- Ids and their fingerprints.
use Rattle.std.proofs.Common.{◌≡◌, ℕ, true, false, ◌&&◌, List, sym, ap}
use Rattle.std.specs.Str.{bytes_eq}
use Rattle.std.specs.Option.{option_map_or}
use Rattle.std.proofs.lemmas.Bool.{false_from_ne_true}
use Rattle.std.proofs.lemmas.Slice.Eq.{bytes_eq-Decides}
use Rattle.bp_docs.specs.declared.descriptor.Entry.{Entry}
use Rattle.bp_docs.specs.declared.descriptor.Descriptor.{Descriptor}
use Rattle.order_expand.specs.Fingerprints.{fingerprint, descriptor_fingerprint}
use Rattle.order_expand.specs.Groups.{may_mean}

-- ids of other fingerprints differ
pub other_ids : (a b : List ℕ) → (fingerprint a ≡ fingerprint b → ⊥) → bytes_eq a b ≡ false
other_ids a b ne = false_from_ne_true (bytes_eq a b) (λ h. ne (ap fingerprint ((bytes_eq-Decides a b).0 h)))

-- an entry means no descriptor of another fingerprint
pub not_meant : (entry : Entry) (descriptor : Descriptor)
    → (descriptor_fingerprint descriptor ≡ fingerprint entry.id → ⊥) → may_mean entry descriptor ≡ false
not_meant entry descriptor ne =
    ap (λ b. b && option_map_or (λ version. bytes_eq version descriptor.key.version) entry.version true)
    (other_ids entry.id descriptor.key.id (λ e. ne (sym e)))
