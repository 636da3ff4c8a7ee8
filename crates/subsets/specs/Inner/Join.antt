-- A part of a tree, and the subtree of one more child that is joined to it.
use Rattle.std.specs.Prelude.{◌≡◌, ℕ, ◌<◌, Bool, true, false, ◌||◌, ◌==◌}
use Rattle.subsets.specs.Tree.{under}
use Rattle.subsets.specs.Inner.Net.{Net}

-- T with all that is under c
abbrev pub joined : Net → (ℕ → Bool) → ℕ → ℕ → Bool
joined N T c d = T d || under N.parent c d

-- The part T with top v stands beside the subtree of c: the two are apart, and T has all that is under its nodes but the top.
pub record Beside (N : Net) (T : ℕ → Bool) (v c : ℕ) : Type 0 where
  pub inside : c < N.s
  pub top : T v ≡ true
  pub apart : (d : ℕ) → T d ≡ true → under N.parent c d ≡ false
  pub closed : (d e : ℕ) → T d ≡ true → (d == v) ≡ false → under N.parent d e ≡ true → T e ≡ true
