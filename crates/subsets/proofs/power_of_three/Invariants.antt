-- `subsets::power_of_three` meets its contract: after i turns the number is 3^i.
use Rattle.std.proofs.Common.{◌≡◌, ◌^◌, ◌<◌}
use Rattle.subsets.proofs.power_of_three.Given as goal

abbrev pub invariant-loop : goal.invariant-loop
invariant-loop l = (l.power ≡ 3 ^ l.counter) × (l.power < 2 ^ 64)
