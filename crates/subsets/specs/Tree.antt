-- A rooted tree given by each node's parent, where a parent has a smaller number than its child and 0 is the root.
use Rattle.std.specs.Prelude.{ℕ, zero, suc, Bool, ◌&&◌, ◌||◌, ◌==◌, nat_lt}
use Rattle.finite.specs.Below.{any_below}

-- one step up from d; from the root there is none
abbrev pub step : (ℕ → ℕ) → ℕ → ℕ
step parent zero = 0
step parent (suc d) = parent (suc d)

-- c is met within k steps up from d
unfoldable pub climb : (ℕ → ℕ) → ℕ → ℕ → ℕ → Bool
climb parent zero c d = d == c
climb parent (suc k) c d = d == c || climb parent k c (step parent d)

-- d is under c: it is c, or c is an ancestor of it
unfoldable pub under : (ℕ → ℕ) → ℕ → ℕ → Bool
under parent c d = climb parent d c d

-- p, its children numbered below k, and all nodes under those children
unfoldable pub part : (ℕ → ℕ) → ℕ → ℕ → ℕ → Bool
part parent p k d = d == p || any_below k (λ b. nat_lt 0 b && (parent b == p && under parent b d))

-- 01's "part before c"
abbrev pub before : (ℕ → ℕ) → ℕ → ℕ → Bool
before parent c = part parent (parent c) c
