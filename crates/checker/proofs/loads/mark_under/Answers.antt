-- `mark_under` meets its contract: each cabinet after c takes the mark of its parent.
use Prim.Native.Nat.{ℕ, ◌<◌}
use native.Mathlib.Omega.{arith}
use mathlib.Core.Path.{◌≡◌, ap, ◌∙◌}
use lib.ListN.{get_or}
use mathlib.Core.Bool.{false}
use Rattle.sheet.specs.Limits.{max_cabinets}
use Rattle.records.specs.Told.{told}
use Rattle.checker.proofs.Told.{counts, parent_at, parent_past}
use Rattle.checker.proofs.Marks.{marks_start, marks_next, marks_end}
use Rattle.checker.proofs.loads.mark_under.Goals as goal

pub loop-d-init : goal.loop-d-init
loop-d-init c =
    let a = c.args in
    marks_start (told a.records.now) a.c c.requires.0 (omega (arith, c.requires.1, c.requires.2))

pub bounds-marks-d : goal.bounds-marks-d
bounds-marks-d c = omega (arith, c.loop-d-test.true, (counts c.args.records.now).1, c.requires.2)

pub loop-d-preserved : goal.loop-d-preserved
loop-d-preserved c =
    let a = c.args in
    let k = a.records.now in
    let l = c.loop-d in
    -- the cabinet is there, within the limit
    let below : l.d < max_cabinets = omega (arith, c.loop-d-test.true, (counts k).1, c.requires.2) in
    let mark = c.is_marked.ensures ∙ ap (λ (k : ℕ). get_or l.marks k false) (c.from-parent.ensures ∙ c.field.ensures ∙ parent_at k l.d) in
    marks_next (told k) a.c c.requires.0 l.marks l.d c.is_marked.result below mark l.invariant

pub returns : goal.returns
returns c =
    let a = c.args in
    let k = a.records.now in
    let l = c.loop-d in
    let all : l.d ≡ (told k).s = omega (arith, l.auto.d-end (omega (arith, c.requires.1, (counts k).1)), c.loop-d-test.false, (counts k).1) in
    marks_end (told k) a.c c.requires.0 l.marks l.d c.requires.1 (parent_past k) all l.invariant
