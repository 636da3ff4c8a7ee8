-- Sets of services as numbers: the set of all, filters, subsets by shared digits, and sizes.
use Rattle.std.specs.Prelude.{ℕ, zero, suc, ◌+◌, ◌-◌, ◌*◌, ◌/◌, ◌%◌, ◌^◌, Bool, ◌==◌, bit_and}
use Rattle.finite.specs.Below.{only, sum_below}
use Rattle.subsets.specs.Sets.{has}

-- the set of the services below n
abbrev pub full : ℕ → ℕ
full n = 2 ^ n - 1

-- those services of x, of the first n, for which p holds
unfoldable pub keep : ℕ → (ℕ → Bool) → ℕ → ℕ
keep zero p x = 0
keep (suc n) p x = keep n (λ i. p (suc i)) (x / 2) * 2 + only (p 0) (x % 2)

-- a is a subset of x, by the digits that the two share
abbrev pub within : ℕ → ℕ → Bool
within a x = bit_and a x == a

-- how many of the first n services are in x
unfoldable pub size : ℕ → ℕ → ℕ
size n x = sum_below n (λ i. only (has x i) 1)
