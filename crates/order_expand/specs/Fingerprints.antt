-- Numbers that tell most ids apart.
use Rattle.std.specs.Prelude.{ℕ, ◌+◌, ◌*◌, ◌%◌, List, fold}
use Rattle.bp_docs.specs.declared.descriptor.Descriptor.{Descriptor}
use Rattle.order_expand.specs.declared.member.Member.{Member}

abbrev pub with_byte : ℕ → ℕ → ℕ
with_byte print byte = (print * 31 + byte) % 65536

-- the fingerprint of an id's bytes
unfoldable pub fingerprint : List ℕ → ℕ
fingerprint id = fold with_byte 0 id

abbrev pub descriptor_fingerprint : Descriptor → ℕ
descriptor_fingerprint descriptor = fingerprint descriptor.key.id

abbrev pub member_fingerprint : Member → ℕ
member_fingerprint member = fingerprint member.key.id
