-- Placings by number: every placing of r services on s cabinets has a number below s ^ r.
use Prim.Native.Nat.{ℕ, zero, suc, ◌+◌, ◌*◌, ◌/◌, ◌^◌, ◌<◌}
use native.Mathlib.Nat.{pow-zero, pow-suc, mod-lt}
use native.Mathlib.Omega.{arith}
use mathlib.Core.Path.{◌≡◌, ap, ◌∙◌}
use lib.Arith.{digits_lt, digits_div, digits_mod}
use Rattle.embedding.specs.Plan.{digit}

-- a digit is below the base
pub digit_lt : (s n i : ℕ) → 0 < s → digit s n i < s
unfolding digit
digit_lt s n zero h = mod-lt n h
digit_lt s n (suc i) h = digit_lt s (n / s) i h

-- the number of the placing σ
pub number : (s r : ℕ) (σ : ℕ → ℕ) → ((i : ℕ) → i < r → σ i < s) → (n : ℕ) × (n < s ^ r) × ((i : ℕ) → i < r → digit s n i ≡ σ i)
unfolding digit
number s zero σ h = (0, omega (arith, pow-zero s), λ i k. absurd (omega arith))
number s (suc r) σ h = go (number s r (λ i. σ (suc i)) (λ i k. h (suc i) (omega arith)))
  where
    go : (n : ℕ) × (n < s ^ r) × ((i : ℕ) → i < r → digit s n i ≡ σ (suc i)) → (n : ℕ) × (n < s ^ suc r) × ((i : ℕ) → i < suc r → digit s n i ≡ σ i)
    go w = (w.0 * s + σ 0, rw pow-suc (digits_lt w.1 (h 0 (omega arith))), at)
      where
        at : (i : ℕ) → i < suc r → digit s (w.0 * s + σ 0) i ≡ σ i
        at zero k = digits_mod w.0 (h 0 (omega arith))
        at (suc i) k = ap (λ (z : ℕ). digit s z i) (digits_div w.0 (h 0 (omega arith))) ∙ w.2 i (omega arith)
