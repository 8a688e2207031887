-- Unmet names read back.
use Rattle.std.specs.Prelude.{◌≡◌, ◌≤◌, ℕ, true, List, Ok}
use Rattle.std.proofs.Common.{refl}
use Rattle.std.proofs.Math.Nat.{le_refl, max-le}
use Rattle.std.proofs.lemmas.Bool.{and_from}
use Rattle.toml.specs.Data.{members_depth, members_have_valid_dates}
use Rattle.cnb_toml.specs.Form.{table_of}
use Rattle.cnb_toml.specs.Written.{table_data}
use Rattle.cnb_toml.specs.WrittenLaws.{all_true, zero_within, list_read, list_dates, list_within}
use Rattle.run_docs.specs.Build.{unmet_in, table_in, unmet_members, build_members}

pub build_read : (names : List (List ℕ)) → true ≡ true → true ≡ true → table_in (build_members names) ≡ Ok names
build_read names typed sound =
    rw (list_read (table_data unmet_members) (table_of unmet_in) (λ name. true) (λ name. true)
    (λ name typed sound. refl) names (all_true names) (all_true names))

pub build_dates : (names : List (List ℕ)) → members_have_valid_dates (build_members names) ≡ true
build_dates names = and_from _ _ (list_dates (table_data unmet_members) (λ name. refl) names) refl

pub build_within : (names : List (List ℕ)) → true ≡ true → members_depth (build_members names) ≤ 2
build_within names sound = max-le (list_within (table_data unmet_members) (λ name. true) 1
    (λ name sound. le_refl 1) names (all_true names)) (zero_within 2)
