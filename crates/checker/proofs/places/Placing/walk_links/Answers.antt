-- `walk_links` meets its contract: a link that is overfull decides, and else one more is passed, and its cost is added.
use Prim.Native.Nat.{ℕ, ◌+◌, ◌*◌}
use native.Mathlib.Omega.{arith}
use mathlib.Core.Path.{◌≡◌, sym, ap₂, ◌∙◌, subst}
use Rattle.records.specs.Told.{told}
use Rattle.embedding.specs.Plan.{place}
use Rattle.checker.proofs.Told.{counts}
use Rattle.checker.proofs.Flows.{one_more}
use Rattle.checker.proofs.Walking as walking
use Rattle.checker.proofs.Walking.{Passed}
use Rattle.checker.proofs.places.Placing.walk_links.Goals as goal

pub loop-c-init : goal.loop-c-init
loop-c-init c =
    let I = told c.args.self.now.records.now in
    let π = place c.args.self.now.plan.now in
    let p = c.args.self.now in
    subst (λ (n : ℕ). Passed I π 1 n) (sym c.cabinets_cost-cost.ensures) (walking.first I π p.well_formed p.range)

pub mark_under-marks-requires : goal.mark_under-marks-requires
mark_under-marks-requires c =
    (c.loop-c.invariant.above, omega (arith, c.loop-c-test.true, (counts c.args.self.now.records.now).1), c.args.self.now.well_formed.cabinets)

pub loop-j-init : goal.loop-j-init
loop-j-init c =
    let p = c.args.self.now in
    walking.enter (told c.args.self.now.records.now) (place c.args.self.now.plan.now) p.well_formed p.range c.loop-c.c

pub with_stream-flows-requires : goal.with_stream-flows-requires
with_stream-flows-requires c =
    (c.loop-j.invariant.few, omega (arith, c.loop-j-test.true, (counts c.args.self.now.records.now).2, c.args.self.now.well_formed.streams))

pub loop-j-preserved : goal.loop-j-preserved
loop-j-preserved c =
    let I = told c.args.self.now.records.now in
    let π = place c.args.self.now.plan.now in
    let p = c.args.self.now in
    let l = c.loop-j in
    let s = c.with_stream-flows.ensures in
    walking.again I π p.well_formed p.range c.loop-c.c c.cabinet-link.ensures l.j
    (s.flows ∙ one_more I π l.j c.mark_under-marks.ensures l.invariant.flows_are) c.is_overfull.ensures s.few c.if-is_overfull.false

pub returns-then-is_overfull : goal.returns-then-is_overfull
returns-then-is_overfull c =
    let I = told c.args.self.now.records.now in
    let π = place c.args.self.now.plan.now in
    let p = c.args.self.now in
    let k = counts c.args.self.now.records.now in
    let l = c.loop-j in
    walking.left I π p.well_formed p.range c.loop-c.c c.cabinet-link.ensures l.j
    (c.with_stream-flows.ensures.flows ∙ one_more I π l.j c.mark_under-marks.ensures l.invariant.flows_are) c.is_overfull.ensures
    c.loop-c.invariant.above (omega (arith, c.loop-c-test.true, k.1)) (omega (arith, c.loop-j-test.true, k.2)) c.if-is_overfull.true

pub loop-c-preserved : goal.loop-c-preserved
loop-c-preserved c =
    let I = told c.args.self.now.records.now in
    let π = place c.args.self.now.plan.now in
    let p = c.args.self.now in
    let k = counts c.args.self.now.records.now in
    let l = c.cabinet-link.result in
    let all : c.loop-j.j ≡ I.q = omega (arith, c.loop-j.auto.j-end, c.loop-j-test.false, k.2) in
    subst (Passed I π (c.loop-c.c + 1))
    (sym (ap₂ (λ (m n : ℕ). c.loop-c.cost + (m * l.up_price + n * l.down_price)) c.from.ensures c.from-in-loop-c.ensures))
    (walking.next I π p.well_formed p.range c.loop-c.c c.cabinet-link.ensures c.loop-c.invariant (omega (arith, c.loop-c-test.true, k.1)) c.loop-j.invariant all)

pub overflow_add-cost-in-loop-c : goal.overflow_add-cost-in-loop-c
overflow_add-cost-in-loop-c c =
    let p = c.args.self.now in
    omega (arith, walking.cost_low (told c.args.self.now.records.now) (place c.args.self.now.plan.now) p.well_formed p.range (c.loop-c.c + 1) _ (loop-c-preserved c))

pub returns-after-loop-c : goal.returns-after-loop-c
returns-after-loop-c c =
    let p = c.args.self.now in
    walking.accepted (told c.args.self.now.records.now) (place c.args.self.now.plan.now) p.well_formed p.range c.loop-c.c c.loop-c.cost c.loop-c.invariant
    (omega (arith, c.loop-c-test.false, (counts c.args.self.now.records.now).1))
