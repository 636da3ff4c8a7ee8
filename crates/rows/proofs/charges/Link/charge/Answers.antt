-- `Link::charge` meets its contract: the products have at most 48 bits.
use Prim.Native.Nat.{◌≤◌, ◌<◌}
use native.Mathlib.Omega.{arith}
use borrow.Author.Tests.{le-leb, lt-leb}
use Rattle.subsets.specs.Costs.{provided}
use Rattle.subsets.specs.Inner.Encoded.{figure}
use Rattle.records.specs.Flows.{load_of}
use Rattle.rows.proofs.charges.Link.charge.Goals as goal

pub returns-then-from-load : goal.returns-then-from-load
unfolding figure provided
returns-then-from-load c =
    let h : c.args.self.up_capacity < load_of c.args.up = omega (arith, c.if-from-load.true, c.load.ensures) in
    simp (lt-leb _ _ h)

pub returns-then-from-load-2 : goal.returns-then-from-load-2
unfolding figure provided
returns-then-from-load-2 c =
    let h : load_of c.args.up ≤ c.args.self.up_capacity = omega (arith, c.if-from-load.false, c.load.ensures) in
    let l : c.args.self.down_capacity < load_of c.args.down = omega (arith, c.if-from-load-2.true, c.load-2.ensures) in
    simp (le-leb _ _ h, lt-leb _ _ l)

pub returns : goal.returns
unfolding figure provided
returns c =
    let h : load_of c.args.up ≤ c.args.self.up_capacity = omega (arith, c.if-from-load.false, c.load.ensures) in
    let l : load_of c.args.down ≤ c.args.self.down_capacity = omega (arith, c.if-from-load-2.false, c.load-2.ensures) in
    simp (le-leb _ _ h, le-leb _ _ l) (omega (arith, c.priced-2.ensures.0, c.priced.ensures.0))
