-- The buildpacks that a trial keeps.
use Rattle.std.proofs.Common.{◌≡◌, ℕ, zero, suc, List, [], ◌∷◌, refl, ap, Some, None}
use Rattle.std.specs.Prelude.{slice_get}
use Rattle.plan_resolve.specs.declared.rows.TrialRow.{TrialRow}
use Rattle.plan_resolve.specs.declared.rows.AliveRow.{AliveRow}
use Rattle.plan_resolve.specs.Plan.{with_keys}

pub with_keys_at : (rows : List AliveRow) (trial : List TrialRow) (place : ℕ) (alive : AliveRow) (row : TrialRow) →
    slice_get rows place ≡ Some alive → slice_get trial place ≡ Some row
    → slice_get (with_keys rows trial) place ≡ Some (record { key = alive.key; row = row })
with_keys_at [] trial place alive row d e = absurd cc
with_keys_at (a ∷ rows) [] place alive row d e = absurd cc
with_keys_at (a ∷ rows) (r ∷ trial) zero alive row d e = ap Some
    (let p : a ≡ alive = cc in let q : r ≡ row = cc in λ i. record { key = (p i).key; row = q i })
with_keys_at (a ∷ rows) (r ∷ trial) (suc place) alive row d e = with_keys_at rows trial place alive row d e

pub with_keys_past : (rows : List AliveRow) (trial : List TrialRow) (place : ℕ) → slice_get rows place ≡ None
    → slice_get (with_keys rows trial) place ≡ None
with_keys_past [] trial place d = refl
with_keys_past (a ∷ rows) [] place d = refl
with_keys_past (a ∷ rows) (r ∷ trial) zero d = absurd cc
with_keys_past (a ∷ rows) (r ∷ trial) (suc place) d = with_keys_past rows trial place d

pub with_keys_past_trial : (rows : List AliveRow) (trial : List TrialRow) (place : ℕ)
    → slice_get trial place ≡ None → slice_get (with_keys rows trial) place ≡ None
with_keys_past_trial [] trial place d = refl
with_keys_past_trial (a ∷ rows) [] place d = refl
with_keys_past_trial (a ∷ rows) (r ∷ trial) zero d = absurd cc
with_keys_past_trial (a ∷ rows) (r ∷ trial) (suc place) d = with_keys_past_trial rows trial place d
