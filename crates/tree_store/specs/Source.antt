-- What contracts see of a reader of a tree's bytes.
use Rattle.std.specs.Prelude.{ℕ, List}
use Rattle.sha2.specs.declared.Sha256.{Sha256}
use Rattle.tree_store.specs.Origin.{OriginState}
use Rattle.tree_store.specs.declared.kept_bytes.KeptBytes as declared

-- where it reads, the digest, the bytes that were hashed, the place that comes next, and a piece of which some were
-- used
pub record Source : Type 0 where
  pub origin : OriginState
  pub digest : List ℕ
  pub hasher : Sha256
  pub at : ℕ
  pub piece : List ℕ
  pub used : ℕ

abbrev pub source_seen : {O : Type 0} → (O → OriginState) → declared.KeptBytes O → Source
source_seen state source = record {
  origin = state source.origin;
  digest = source.digest;
  hasher = source.hasher;
  at = source.at;
  piece = source.piece;
  used = source.used;
}
