-- The order of plans: by the node of service 0, then by that of service 1, and so on.
use Rattle.std.specs.Prelude.{◌≡◌, ℕ, ◌<◌, ◌≤◌}

-- π is not after ρ: each of the r services has, where all before it have the same node in both, no higher a node in π
abbrev pub NotAfter : ℕ → (ℕ → ℕ) → (ℕ → ℕ) → Type 0
NotAfter r π ρ = (i : ℕ) → i < r → ((j : ℕ) → j < i → π j ≡ ρ j) → π i ≤ ρ i
