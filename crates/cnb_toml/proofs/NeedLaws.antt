-- A requirement reads back.
use Rattle.std.specs.Prelude.{◌≡◌, ◌≤◌, true, Ok, codes}
use Rattle.std.proofs.Common.{refl}
use Rattle.std.proofs.Math.Nat.{max-le}
use Rattle.std.proofs.lemmas.Bool.{and_from}
use Rattle.toml.specs.Data.{members_depth, members_have_valid_dates}
use Rattle.cnb_toml.specs.declared.meta.Need.{Need}
use Rattle.cnb_toml.specs.Need.{need_in, is_kept_need, need_members}
use Rattle.cnb_toml.specs.WrittenLaws.{zero_within}
use Rattle.cnb_toml.proofs.DataLaws.{metadata_dates, metadata_within}
use Rattle.cnb_toml.proofs.RoundTrip.{kept_read}

pub need_read : (need : Need) → true ≡ true → is_kept_need need ≡ true → need_in (need_members need) ≡ Ok need
need_read need typed sound = rw (kept_read need.meta sound (codes "metadata"))

pub need_dates : (need : Need) → members_have_valid_dates (need_members need) ≡ true
need_dates need = and_from _ _ (metadata_dates need.meta) refl

pub need_within : (need : Need) → is_kept_need need ≡ true → members_depth (need_members need) ≤ 33
need_within need sound = max-le (metadata_within need.meta sound) (zero_within 33)
