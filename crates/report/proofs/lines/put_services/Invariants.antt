-- `put_services` meets its contract: what was put and the lines that are left are the whole.
use Prim.Native.Nat.{◌+◌, ◌*◌, ◌≤◌}
use mathlib.Core.Path.{◌≡◌}
use mathlib.Core.List.{◌++◌}
use lib.ListN.{take, drop}
use Rattle.report.specs.Inner.Room.{most_service}
use Rattle.report.specs.Text.{service_lines}
use Rattle.report.proofs.lines.put_services.Given as goal

abbrev pub invariant-loop-i : goal.invariant-loop-i
invariant-loop-i l = (l.end ≤ l.at + l.i * most_service) × (take l.end l.text ++ service_lines l.i (drop l.i l.plan) ≡ take l.at l.initial.text ++ service_lines 0 l.plan)
