-- `own_keys` meets its contract.
use Prim.Native.Nat.{ℕ, ◌<◌}
use mathlib.Core.Path.{◌≡◌}
use Rattle.rows.specs.Keys.{key_in, weight_at, times_key}
use Rattle.rows.proofs.keys.own_keys.Given as goal

abbrev pub invariant-loop-x : goal.invariant-loop-x
invariant-loop-x l = (d : ℕ) → d < l.x → key_in l.keys d ≡ times_key (weight_at l.weights d) l.p
