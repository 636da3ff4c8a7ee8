-- The loop `a = (a - 1) & x` over the subsets of a set x.
use Rattle.std.specs.Prelude.{ℕ, zero, suc, ◌-◌, true, false, cond, List, [], ◌∷◌, ◌==◌, bit_and}
use Rattle.subsets.specs.Inner.Masks.{within}

-- the subsets of x below n, each once, in falling order
unfoldable pub falling : ℕ → ℕ → List ℕ
falling x zero = []
falling x (suc a) = cond (within a x) (a ∷ falling x a) (falling x a)

-- what the loop meets in its next n turns, from a on; it ends after the empty set
unfoldable pub turns : ℕ → ℕ → ℕ → List ℕ
turns x zero a = []
turns x (suc n) a = a ∷ elim (a == 0) [ true ↦ [] | false ↦ turns x n (bit_and (a - 1) x) ]
