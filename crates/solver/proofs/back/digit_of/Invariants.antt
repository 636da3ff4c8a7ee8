-- `digit_of` meets its contract.
use Rattle.std.specs.Prelude.{◌≡◌, ◌/◌, ◌^◌}
use Rattle.rows.specs.Keys.{base}
use Rattle.solver.proofs.back.digit_of.Given as goal

abbrev pub invariant-loop : goal.invariant-loop
invariant-loop l = l.rest ≡ l.number / base ^ l.counter
