-- Laws of the powers of three that fit 64 bits.
use Rattle.std.proofs.Common.{◌≡◌, ℕ, suc, ◌+◌, ◌*◌, ◌^◌, ◌<◌, ◌≤◌, Bool, true, false, cond, ltb, sym, refl, ap, ◌∙◌, arith, ltb-false, le-ltb, lt-ltb}
use native.Mathlib.Nat.{pow-le-pow_right}
use Rattle.std.specs.Prelude.{Option, Some, None}
use Rattle.subsets.specs.Powers.{power_of_three}

-- 3^40 is the last that fits
last_power : (power_of_three 40 ≡ Some 12157665459056928801) × (power_of_three 41 ≡ None)
unfolding power_of_three
last_power = (refl, refl)

-- after r factors a number that fits is the power
pub power_fits : (r i n : ℕ) → i ≤ r → r ≤ i → n ≡ 3 ^ i → n < 2 ^ 64 → Some n ≡ power_of_three r
unfolding power_of_three
power_fits r i n h k e f =
    let z : n ≡ 3 ^ r = e ∙ ap (λ (j : ℕ). 3 ^ j) (let q : i ≡ r = omega arith in q) in
    rw (lt-ltb (3 ^ r) (2 ^ 64) (omega (arith, z))) (ap Some z)

-- where a factor fewer than r are left and one more does not fit, no power is there
pub power_past : (r i n : ℕ) (o : Option ℕ) → o ≡ None → i < r → n ≡ 3 ^ i → (n * 3 < 2 ^ 64 → ⊥) → o ≡ power_of_three r
unfolding power_of_three
power_past r i n o d h e k =
    let z : 3 ^ suc i ≤ 3 ^ r = pow-le-pow_right {n = 3} (omega arith) h in
    d ∙ rw (le-ltb (3 ^ r) (2 ^ 64) (omega (arith, z, e, k))) refl

-- the value that a test lets through
value_of : (t : Bool) (m n : ℕ) → cond t (Some m) None ≡ Some n → n ≡ m
value_of true m n e = cc
value_of false m n e = absurd (let z : ◌≡◌ {A = ℕ} 0 1 = cc in omega arith)

-- a test that lets nothing through fails
outside_of : (t : Bool) (m : ℕ) → cond t (Some m) None ≡ None → t ≡ false
outside_of true m e = absurd (let z : ◌≡◌ {A = ℕ} 0 1 = cc in omega arith)
outside_of false m e = refl

-- what an answer tells: it is the power, or the power does not fit
module _ (r : ℕ) (p : Option ℕ) (e : p ≡ power_of_three r) where
  pub power_value : (n : ℕ) → p ≡ Some n → n ≡ 3 ^ r
  unfolding power_of_three
  power_value n f = value_of (ltb (3 ^ r) (2 ^ 64)) (3 ^ r) n (sym e ∙ f)

  pub power_outside : p ≡ None → 2 ^ 64 ≤ 3 ^ r
  unfolding power_of_three
  power_outside f = ltb-false (3 ^ r) (2 ^ 64) (outside_of (ltb (3 ^ r) (2 ^ 64)) (3 ^ r) (sym e ∙ f))
