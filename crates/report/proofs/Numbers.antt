-- The digits that are fewest for a number are its decimal.
use Prim.Native.Nat.{ℕ, zero, suc, ◌+◌, ◌-◌, ◌*◌, ◌/◌, ◌%◌, ◌^◌, ◌≤◌, ◌<◌}
use native.Mathlib.Nat.{pow-succ', pow-le-pow_right}
use native.Mathlib.Omega.{arith}
use mathlib.Core.Bool.{Bool, true, false}
use mathlib.Core.Path.{◌≡◌, refl, ap}
use mathlib.Core.List.{List, [], ◌∷◌, ◌++◌}
use lib.Dec.{ltb}
use borrow.Author.Tests.{lt-ltb, le-ltb, ltb-true, ltb-false}
use Rattle.io.specs.Digits.{last_digits, IsDigitCount}
use Rattle.report.specs.Text.{digits_within, decimal}

-- one digit and k more
same : (k f n : ℕ) → n < 10 * 10 ^ k → (0 < k → 10 ^ k ≤ n) → n < f → last_digits 10 (suc k) n ≡ digits_within f n
unfolding digits_within
same k zero n b l h = absurd (omega arith)
same zero (suc f) n b l h =
    let s : n < 10 = b in
    let m : n % 10 ≡ n = omega arith in
    rw (m, lt-ltb n 10 s)
same (suc k) (suc f) n b l h =
    let p : 10 ^ suc k ≡ 10 * 10 ^ k = pow-succ' 10 k in
    let one : 1 ≤ 10 ^ k = pow-le-pow_right {n = 10} (omega arith) {i = 0} {j = k} (omega arith) in
    let many : 10 ^ suc k ≤ n = l (omega arith) in
    let big : 10 ≤ n = omega arith in
    let d : n % 10 < 10 = omega arith in
    rw (le-ltb n 10 big, lt-ltb (n % 10) 10 d)
    (ap (λ (l : List ℕ). l ++ ((48 + n % 10) ∷ [])) (same k f (n / 10) (omega arith) (λ z. omega arith) (omega arith)))

pub fewest_digits : (k n : ℕ) → IsDigitCount 10 1 n k → last_digits 10 k n ≡ decimal n
unfolding decimal
fewest_digits zero n f = absurd (omega arith)
fewest_digits (suc k) n f =
    let p : 10 ^ suc k ≡ 10 * 10 ^ k = pow-succ' 10 k in
    let m : suc k - 1 ≡ k = omega arith in
    same k (suc n) n (omega (arith, f.1)) (λ z. rw m at (f.2 (omega arith))) (omega arith)

-- a 64-bit number has at most 20
pub at_most_20 : (k n : ℕ) → IsDigitCount 10 1 n k → n < 2 ^ 64 → k ≤ 20
at_most_20 k n f h = go (ltb 20 k) refl
  where
    go : (t : Bool) → ltb 20 k ≡ t → k ≤ 20
    go true e =
        let g : 20 < k = ltb-true 20 k e in
        let many : 10 ^ 20 ≤ 10 ^ (k - 1) = pow-le-pow_right {n = 10} (omega arith) {i = 20} {j = k - 1} (omega arith) in
        let low : 10 ^ (k - 1) ≤ n = f.2 (omega arith) in
        absurd (omega arith)
    go false e = ltb-false 20 k e
