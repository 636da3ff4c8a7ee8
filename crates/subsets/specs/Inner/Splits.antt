-- The splits of a set x into a subset a, which is placed on a part, and the rest, which goes under a child: the least charge, and the split that wins.
use Rattle.std.specs.Prelude.{ℕ, zero, suc, ◌-◌, Bool, true, false, ◌&&◌, ◌==◌}
use Rattle.subsets.specs.Inner.Masks.{within}
use Rattle.subsets.specs.Costs.{Cost, none, some, least_below}
use Rattle.subsets.specs.Inner.Totals.{◌⊕◌}

-- the least of F over the subsets of x
unfoldable pub least_subset : (ℕ → Cost) → ℕ → Cost
least_subset F x = least_below (suc x) (λ a. elim (within a x) [ true ↦ F a | false ↦ none ])

-- the charge of the split of x that places a: f for a, g for the rest, and l for the link that the rest lies under
abbrev pub split_charge : (ℕ → Cost) → (ℕ → Cost) → (ℕ → Cost) → ℕ → ℕ → Cost
split_charge f g l x a = f a ⊕ g (x - a) ⊕ l (x - a)

-- the least charge over the splits of x
abbrev pub least_split : (ℕ → Cost) → (ℕ → Cost) → (ℕ → Cost) → ℕ → Cost
least_split f g l x = least_subset (split_charge f g l x) x

-- the largest number below n that passes the test, or 0
unfoldable pub largest_below : ℕ → (ℕ → Bool) → ℕ
largest_below zero p = 0
largest_below (suc n) p = elim (p n) [ true ↦ n | false ↦ largest_below n p ]

-- both are costs, and the same
abbrev pub same_cost : Cost → Cost → Bool
same_cost none y = false
same_cost (some a) none = false
same_cost (some a) (some b) = a == b

-- the subset of x that wins: the largest of those with the least of F, or the empty set where the least is none
unfoldable pub winner : (ℕ → Cost) → ℕ → ℕ
winner F x = largest_below (suc x) (λ a. within a x && same_cost (F a) (least_subset F x))
