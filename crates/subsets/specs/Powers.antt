-- The powers of three that fit 64 bits.
use Rattle.std.specs.Prelude.{ℕ, ◌^◌, cond, nat_lt, Option, Some, None}

-- 3^r, or nothing where it does not fit
unfoldable pub power_of_three : ℕ → Option ℕ
power_of_three r = cond (nat_lt (3 ^ r) (2 ^ 64)) (Some (3 ^ r)) None
