-- 02 (c): of all cheapest plans, the one with the lowest cabinet for service 0, then for service 1, and so on.
use Rattle.std.specs.Prelude.{ℕ, zero, suc, ◌-◌, ◌^◌, Bool, true, false, ◌&&◌, List, [], ◌∷◌, eqb}
use Rattle.subsets.specs.Costs.{Cost, none, some}
use Rattle.sheet.specs.Instance.{Instance}
use Rattle.embedding.specs.Plan.{digit, valid, plan_cost, cheapest}

-- the cabinet of service i in the plan numbered n, of the s ^ r plans of r services on s cabinets; service 0 has the first digit, so the plan with the lower number comes first
unfoldable pub nth_plan : ℕ → ℕ → ℕ → ℕ → ℕ
nth_plan s r n i = digit s n (r - 1 - i)

-- the first of the n numbers from a on that passes the test, or a + n where none does
unfoldable pub first_from : ℕ → ℕ → (ℕ → Bool) → ℕ
first_from zero a test = a
first_from (suc n) a test = elim (test a) [ true ↦ a | false ↦ first_from n (suc a) test ]

-- the number n is this cost
unfoldable pub equals : ℕ → Cost → Bool
equals n none = false
equals n (some m) = eqb n m

module _ (I : Instance) where
  -- a cheapest plan: it is valid, and it costs the least that a valid plan costs
  unfoldable pub is_cheapest : (ℕ → ℕ) → Bool
  is_cheapest π = valid I π && equals (plan_cost I π) (cheapest I)

  -- the number of the first of the cheapest plans, all plans tried in order; s ^ r where no plan is valid
  unfoldable pub first_number : ℕ
  first_number = first_from (I.s ^ I.r) 0 (λ n. is_cheapest (nth_plan I.s I.r n))

  -- the first of the cheapest plans; where no plan is valid it has all services on cabinet 0, and means nothing
  unfoldable pub first_plan : ℕ → ℕ
  first_plan i = nth_plan I.s I.r first_number i

-- a plan of r services, written as a list: the cabinet of service 0, then that of service 1, and so on
unfoldable pub places : ℕ → (ℕ → ℕ) → List ℕ
places zero π = []
places (suc r) π = π 0 ∷ places r (λ i. π (suc i))
