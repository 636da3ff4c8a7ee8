-- `Link::fill` meets its contract.
use Prim.Native.Nat.{ℕ, ◌<◌}
use mathlib.Core.Path.{◌≡◌}
use lib.ListN.{get_or}
use Rattle.rows.specs.Charges.{link_figure, run_out, run_in}
use Rattle.rows.proofs.charges.Link.fill.Given as goal

abbrev pub invariant-loop-x : goal.invariant-loop-x
invariant-loop-x l = (d : ℕ) → d < l.x → get_or l.row d 0 ≡ link_figure l.self (run_out l.sums d) (run_in l.sums d)
