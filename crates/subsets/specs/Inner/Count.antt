-- 01's "Splits weighed": how many triples (c, X, A) there are whose set A can be placed on the part before c.
use Rattle.std.specs.Prelude.{◌≡◌, ℕ, ◌^◌, Bool, ◌&&◌, nat_lt}
use Rattle.finite.specs.Below.{only, sum_below}
use Rattle.subsets.specs.Sets.{subset}
use Rattle.subsets.specs.Costs.{some, is_some}
use Rattle.subsets.specs.Inner.Net.{Net, charge, Sits}
use Rattle.subsets.specs.Inner.Rows.{child, row_at}

-- a can be placed on the part T with top v: some placing of it there has a charge
abbrev pub Placed : Net → (ℕ → Bool) → ℕ → ℕ → Type 0
Placed N T v a = (π : ℕ → ℕ) × Sits N T a π × (k : ℕ) × (charge N T v a π ≡ some k)

-- the pairs (X, A) of sets of r services, A a subset of X that passes the test
unfoldable pub pairs : ℕ → (ℕ → Bool) → ℕ
pairs r t = sum_below (2 ^ r) (λ x. sum_below (2 ^ r) (λ a. only (subset r a x && t a) 1))

-- the triples (c, X, A) with c a node of s but the root, and A a subset of X that passes the test at c
unfoldable pub triples : ℕ → ℕ → (ℕ → ℕ → Bool) → ℕ
triples r s t = sum_below s (λ c. only (nat_lt 0 c) (pairs r (t c)))

-- the figure of A on the part before c is a cost
abbrev pub flagged : Net → ℕ → ℕ → Bool
flagged N c a = is_some (row_at N (N.parent c) c a)

-- the count weighed: the sum of the weighing flags over all c, X and A
abbrev pub weighed : Net → ℕ
weighed N = triples N.r N.s (flagged N)

-- the flags of the joins of p's children below k, as the planner meets them
unfoldable pub joins : Net → ℕ → ℕ → ℕ
joins N p k = sum_below k (λ c. only (child N p c) (pairs N.r (flagged N c)))
