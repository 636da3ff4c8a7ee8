-- Sums and order of costs. A sum with none is none, and none is the largest.
use Rattle.std.specs.Prelude.{ℕ, zero, suc, ◌+◌, ◌≤◌, Bool, true, false}
use Rattle.subsets.specs.Costs.{Cost, none, some}

infixl 65 ◌⊕◌
-- the sum
unfoldable pub ◌⊕◌ : Cost → Cost → Cost
◌⊕◌ none y = none
◌⊕◌ (some a) none = none
◌⊕◌ (some a) (some b) = some (a + b)

-- x is at most y
unfoldable pub Le : Cost → Cost → Type 0
Le x none = Unit {0}
Le none (some b) = ⊥
Le (some a) (some b) = a ≤ b

-- the sum of f 0, .., f (n - 1)
unfoldable pub total_below : ℕ → (ℕ → Cost) → Cost
total_below zero f = some 0
total_below (suc n) f = total_below n f ⊕ f n

-- x where the test passes, else no charge
unfoldable pub charged : Bool → Cost → Cost
charged true x = x
charged false x = some 0
