-- `join_child` meets its contract.
use native.Mathlib.Omega.{arith}
use mathlib.Core.Path.{sym}
use Rattle.rows.proofs.Joinable.{count_fits, joins_child}
use Rattle.rows.proofs.Parted.{copied}
use Rattle.rows.proofs.tables.join_child.Goals as goal

pub overflow_cast-choices : goal.overflow_cast-choices
overflow_cast-choices c =
    let a = c.args in
    let J = c.join-count in
    omega (arith, count_fits c.above.result a.from.sums.now a.child_keys.now c.requires.room _ c.fill.new.row (copied _ _ _ c.copy_from_slice.ensures.after) c.fill.ensures _ _ _ J.result J.ensures)

pub returns-clause-joined : goal.returns-clause-joined
returns-clause-joined c =
    let a = c.args in
    let J = c.join-count in
    rw (sym c.above.ensures) (joins_child c.above.result a.from.sums.now a.child_keys.now c.requires.room _ c.fill.new.row (copied _ _ _ c.copy_from_slice.ensures.after) c.fill.ensures
    J.new.row J.new.choice J.new.keys J.result J.auto.row J.auto.choice J.auto.keys J.ensures)
