-- A store reads back.
use Rattle.std.specs.Prelude.{◌≡◌, ◌≤◌, true, Ok, codes}
use Rattle.std.proofs.Common.{refl}
use Rattle.std.proofs.Math.Nat.{max-le}
use Rattle.std.proofs.lemmas.Bool.{and_from}
use Rattle.toml.specs.Data.{members_depth, members_have_valid_dates}
use Rattle.cnb_toml.specs.WrittenLaws.{zero_within}
use Rattle.cnb_toml.proofs.DataLaws.{metadata_dates, metadata_within}
use Rattle.cnb_toml.proofs.RoundTrip.{kept_read}
use Rattle.run_docs.specs.declared.store.StoreToml.{StoreToml}
use Rattle.run_docs.specs.Store.{table_in, is_store_toml, store_members}

pub store_read : (store : StoreToml) → true ≡ true → is_store_toml store ≡ true
    → table_in (store_members store) ≡ Ok store
store_read store typed sound = rw (kept_read store.meta sound (codes "metadata"))

pub store_dates : (store : StoreToml) → members_have_valid_dates (store_members store) ≡ true
store_dates store = and_from _ _ (metadata_dates store.meta) refl

pub store_within : (store : StoreToml) → is_store_toml store ≡ true → members_depth (store_members store) ≤ 33
store_within store sound = max-le (metadata_within store.meta sound) (zero_within 33)
