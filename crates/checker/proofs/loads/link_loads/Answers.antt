-- `link_loads` meets its contract: each stream joins the flow that it takes the link in.
use Prim.Native.Nat.{ℕ}
use native.Mathlib.Omega.{arith}
use mathlib.Core.Path.{◌≡◌, sym, ap, ap₂, ◌∙◌}
use Rattle.records.specs.Flows.{load_of}
use Rattle.records.specs.Told.{told}
use Rattle.embedding.specs.Plan.{place}
use Rattle.checker.proofs.Told.{counts}
use Rattle.checker.proofs.Carried.{link_there, no_load, all_loads}
use Rattle.checker.proofs.Flows.{flows_of, none_yet, one_more}
use Rattle.checker.specs.declared.streams.Flows.{Flows}
use Rattle.checker.proofs.loads.link_loads.Goals as goal

pub returns-then-not-has_link : goal.returns-then-not-has_link
returns-then-not-has_link c =
    let a = c.args in
    no_load (told a.records.now) (place a.plan.now) a.c (sym c.has_link.ensures ∙ c.if-not-has_link.true)

pub mark_under-marks-requires : goal.mark_under-marks-requires
mark_under-marks-requires c =
    let t = link_there (told c.args.records.now) c.args.c (sym c.has_link.ensures ∙ c.if-not-has_link.false) in
    (t.0, t.1, t.2)

pub loop-j-init : goal.loop-j-init
loop-j-init c =
    let a = c.args in
    (none_yet (told a.records.now) (place a.plan.now) a.c, ((omega arith, omega arith), (omega arith, omega arith)))

pub with_stream-flows-requires : goal.with_stream-flows-requires
with_stream-flows-requires c =
    let a = c.args in
    let t = link_there (told a.records.now) a.c (sym c.has_link.ensures ∙ c.if-not-has_link.false) in
    (c.loop-j.invariant.1, omega (arith, c.loop-j-test.true, (counts a.records.now).2, t.3))

pub loop-j-preserved : goal.loop-j-preserved
loop-j-preserved c =
    let a = c.args in
    let l = c.loop-j in
    let s = c.with_stream-flows.ensures in
    (s.flows ∙ one_more (told a.records.now) (place a.plan.now) l.j c.mark_under-marks.ensures l.invariant.0, s.few)

pub returns : goal.returns
returns c =
    let a = c.args in
    let l = c.loop-j in
    let I = told a.records.now in
    let π = place a.plan.now in
    let e : l.j ≡ I.q = omega (arith, l.auto.j-end, c.loop-j-test.false, (counts a.records.now).2) in
    let all = l.invariant.0 ∙ ap (flows_of I π a.c) e in
    ap₂ (λ (m n : ℕ). record { up = m; down = n })
    (c.load.ensures ∙ ap (λ (f : Flows). load_of f.up) all)
    (c.load-2.ensures ∙ ap (λ (f : Flows). load_of f.down) all)
    ∙ all_loads I π a.c (sym c.has_link.ensures ∙ c.if-not-has_link.false)
