-- `best_split` meets its contract.
use Prim.Native.Nat.{suc, ◌+◌, ◌≤◌}
use mathlib.Core.Path.{◌≡◌}
use Rattle.subsets.specs.Inner.Folds.{figures, scan, by_key}
use Rattle.subsets.proofs.Sets.{Sub}
use Rattle.rows.specs.Keys.{key_in}
use Rattle.rows.specs.Joins.{best_of}
use Rattle.rows.proofs.joins.best_split.Given as goal

abbrev pub invariant-loop-a : goal.invariant-loop-a
invariant-loop-a l = (l.a ≤ l.x) × Sub l.a l.x × Sub l.best.chosen l.x × (l.best.counted + l.a ≤ l.x) × (scan (by_key (key_in l.keys) (key_in l.child.keys.now) l.x) (figures l.row) (figures l.child.row.now) (figures l.child.link.now) l.x (suc l.a) l.best ≡ best_of l.row l.child.row.now l.child.link.now l.keys l.child.keys.now l.x)

abbrev pub decreases-loop-a : goal.decreases-loop-a
decreases-loop-a l = l.a
