-- `children_of` meets its contract.
use native.Mathlib.Omega.{arith}
use mathlib.Core.Path.{refl}
use Rattle.rows.proofs.Linking.{begin, step, stopped, finish}
use Rattle.rows.proofs.children.children_of.Goals as goal

pub loop-c-init : goal.loop-c-init
loop-c-init c = begin c.args.n c.args.parent.now c.requires

pub returns-then-c-p : goal.returns-then-c-p
returns-then-c-p c = stopped c.args.n c.loop-c.c c.from-p.result c.args.parent.now (omega arith) (omega arith) c.from-p.ensures (omega arith)

pub loop-c-preserved : goal.loop-c-preserved
loop-c-preserved c =
    let a = c.args in
    let l = c.loop-c in
    step a.n l.c c.from-p.result _ a.parent.now l.lists c.requires (omega arith) (omega arith) c.from-p.ensures (omega arith) refl l.invariant

pub returns : goal.returns
returns c = finish c.args.n c.loop-c.c c.args.parent.now c.loop-c.lists (omega arith) (λ z. omega (arith, z)) c.loop-c.invariant
