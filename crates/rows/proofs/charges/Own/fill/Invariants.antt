-- `Own::fill` meets its contract.
use Prim.Native.Nat.{ℕ, ◌<◌}
use mathlib.Core.Path.{◌≡◌}
use lib.ListN.{get_or}
use Rattle.rows.specs.Charges.{own_figure, demanded}
use Rattle.rows.proofs.charges.Own.fill.Given as goal

abbrev pub invariant-loop-x : goal.invariant-loop-x
invariant-loop-x l = (d : ℕ) → d < l.x → get_or l.row d 0 ≡ own_figure l.self d (demanded l.sums d)
