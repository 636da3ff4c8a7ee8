-- `read_places` meets its contract.
use Rattle.std.specs.Prelude.{◌≡◌, ℕ, ◌-◌, ◌<◌, get_or}
use Rattle.subsets.specs.Inner.Keys.{digit_in}
use Rattle.rows.specs.Keys.{base, low_digits}
use Rattle.solver.proofs.back.read_places.Given as goal

abbrev pub invariant-loop-i : goal.invariant-loop-i
invariant-loop-i l = (d : ℕ) → d < l.i → get_or l.output d 0 ≡ digit_in base low_digits l.key (l.r - 1 - d)
