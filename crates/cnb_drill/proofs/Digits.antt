-- Facts on digits, by their eight cases.
use Rattle.std.proofs.Common.{◌≡◌, refl, ℕ, zero, suc, ◌+◌, ◌<◌, true, ◌∷◌, ◌++◌, drop, arith}
use Rattle.std.specs.Prelude.{nat_lt}
use Rattle.std.specs.List.{list_all}
use Rattle.plan_resolve.specs.Trials.{numbers_below}
use Rattle.cnb_drill.specs.Buildpacks.{eight}

pub by_eight : (P : ℕ → Type 0) → P 0 → P 1 → P 2 → P 3 → P 4 → P 5 → P 6 → P 7 → (digit : ℕ) → digit < 8 → P digit
by_eight P p0 p1 p2 p3 p4 p5 p6 p7 zero h = p0
by_eight P p0 p1 p2 p3 p4 p5 p6 p7 (suc zero) h = p1
by_eight P p0 p1 p2 p3 p4 p5 p6 p7 (suc (suc zero)) h = p2
by_eight P p0 p1 p2 p3 p4 p5 p6 p7 (suc (suc (suc zero))) h = p3
by_eight P p0 p1 p2 p3 p4 p5 p6 p7 (suc (suc (suc (suc zero)))) h = p4
by_eight P p0 p1 p2 p3 p4 p5 p6 p7 (suc (suc (suc (suc (suc zero))))) h = p5
by_eight P p0 p1 p2 p3 p4 p5 p6 p7 (suc (suc (suc (suc (suc (suc zero)))))) h = p6
by_eight P p0 p1 p2 p3 p4 p5 p6 p7 (suc (suc (suc (suc (suc (suc (suc zero))))))) h = p7
by_eight P p0 p1 p2 p3 p4 p5 p6 p7 (suc (suc (suc (suc (suc (suc (suc (suc n)))))))) h = absurd (omega arith)

-- the digits below one, it, and those above it
pub eight_at : (digit : ℕ) → digit < 8 → eight ≡ numbers_below digit ++ digit ∷ drop (digit + 1) eight
eight_at = by_eight (λ digit. eight ≡ numbers_below digit ++ digit ∷ drop (digit + 1) eight) refl refl refl refl
    refl refl refl refl

-- numbers below are below
pub below-lt : (digit : ℕ) → digit < 8 → list_all (λ x. nat_lt x digit) (numbers_below digit) ≡ true
below-lt = by_eight (λ digit. list_all (λ x. nat_lt x digit) (numbers_below digit) ≡ true) refl refl refl refl
    refl refl refl refl
