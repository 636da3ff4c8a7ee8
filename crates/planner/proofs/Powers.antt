-- The powers of three within the limits of a sheet.
use Prim.Native.Nat.{ℕ, ◌-◌, ◌*◌, ◌^◌, ◌≤◌}
use native.Mathlib.Omega.{arith}
use native.Mathlib.Nat.{pow-le-pow_right, mul-le-mul}
use mathlib.Core.Path.{◌≡◌}
use borrow.Author.Tests.{lt-ltb}
use Rattle.std.specs.Prelude.{Some}
use Rattle.subsets.specs.Powers.{power_of_three}

low : (r : ℕ) → r ≤ 10 → 3 ^ r ≤ 3 ^ 10
low r h = pow-le-pow_right {n = 3} (omega arith) h

-- each of them fits 64 bits
pub power_there : (r : ℕ) → r ≤ 10 → power_of_three r ≡ Some (3 ^ r)
unfolding power_of_three
power_there r h = rw (lt-ltb (3 ^ r) (2 ^ 64) (omega (arith, low r h)))

-- and so does the bound
pub few_splits : (r s : ℕ) → r ≤ 10 → s ≤ 200 → (s - 1) * 3 ^ r ≤ 200 * 3 ^ 10
few_splits r s h k = mul-le-mul (let z : s - 1 ≤ 200 = omega arith in z) (low r h)
