-- The first rule that applies: a rule whose test fails is passed.
use mathlib.Core.Path.{◌≡◌}
use mathlib.Core.Bool.{false}
use mathlib.Core.List.{List, ◌∷◌}
use Rattle.sheet.specs.Refusals.{Rule, first_applying}

pub pass : (x : Rule) (xs : List Rule) → x.applies ≡ false → first_applying (x ∷ xs) ≡ first_applying xs
unfolding first_applying
pass x xs e = simp e
