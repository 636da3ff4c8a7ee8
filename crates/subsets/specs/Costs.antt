-- Costs: a number, or none where there is no way at all.
use Rattle.std.specs.Prelude.{ℕ, zero, suc, min, Bool, true, false}

-- a number, or none
pub data Cost : Type 0 where
  none : Cost
  some : ℕ → Cost

-- the lesser of two
unfoldable pub lesser : Cost → Cost → Cost
lesser none y = y
lesser (some a) none = some a
lesser (some a) (some b) = some (min a b)

-- the least of f 0, .., f (n - 1)
unfoldable pub least_below : ℕ → (ℕ → Cost) → Cost
least_below zero f = none
least_below (suc n) f = lesser (least_below n f) (f n)

-- n where the test passes, else none
unfoldable pub provided : Bool → ℕ → Cost
provided true n = some n
provided false n = none

-- it is a number
abbrev pub is_some : Cost → Bool
is_some none = false
is_some (some n) = true
