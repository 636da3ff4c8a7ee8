-- Two nets over one tree that differ at most in what one node and the link above it charge.
use Rattle.std.specs.Prelude.{◌≡◌, ℕ, false, ◌≢◌}
use Rattle.subsets.specs.Tree.{under}
use Rattle.subsets.specs.Inner.Net.{Net}

-- N₁ is N but for what the node e and its link charge
pub record Differ (e : ℕ) (N N₁ : Net) : Type 0 where
  pub services : N.r ≡ N₁.r
  pub nodes : N.s ≡ N₁.s
  pub parents : (c : ℕ) → N.parent c ≡ N₁.parent c
  pub node : (c x : ℕ) → (c ≢ e) → N.node c x ≡ N₁.node c x
  pub link : (c x : ℕ) → (c ≢ e) → N.link c x ≡ N₁.link c x

-- p is off the path from e to the root: it is neither e nor above it
abbrev pub Off : Net → ℕ → ℕ → Type 0
Off N e p = under N.parent p e ≡ false
