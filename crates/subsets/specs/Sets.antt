-- Sets of services as the binary digits of a number: service i is a member where digit i is 1.
use Rattle.std.specs.Prelude.{ℕ, zero, suc, ◌/◌, ◌%◌, ◌^◌, Bool, cond, ◌==◌, nat_lt}
use Rattle.finite.specs.Below.{◌⇒◌, all_below}

-- service i is in the set x
unfoldable pub has : ℕ → ℕ → Bool
has x zero = x % 2 == 1
has x (suc i) = has (x / 2) i

-- of the first n services, every one that is in a is in x
unfoldable pub subset : ℕ → ℕ → ℕ → Bool
subset n a x = all_below n (λ i. has a i ⇒ has x i)

-- how many sets of r services there are, and 0 where no 64 bits hold their number
unfoldable pub set_count : ℕ → ℕ
set_count r = cond (nat_lt r 64) (2 ^ r) 0
