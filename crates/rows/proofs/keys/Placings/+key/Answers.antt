-- `Placings::key` meets its contract, step by step; what is read for itself is a smaller set, which is a measure.
use Prim.Native.Nat.{ℕ, ◌<◌}
use native.Mathlib.Omega.{arith}
use mathlib.Core.Path.{◌≡◌, refl, sym, ap, subst}
use lib.Bits.{bit_and}
use Rattle.sheet.specs.Limits.{max_cabinets}
use Rattle.rows.specs.Reads.{Started}
use Rattle.rows.specs.Rebuilds.{entry}
use Rattle.rows.proofs.Reading.{walk_down, is_child, child_small, in_table, index_small, prior_less, last_small, stays_le, pass, descend, sibling, divide, sums_small, finish_small, finished}
use Rattle.rows.proofs.keys.Placings.+key.Goals as goal

pub overflow_mul-child : goal.overflow_mul-child
overflow_mul-child t c =
    let l = c.loop-next in
    let R = c.requires.2 in
    let B = c.requires.3 in
    let G = l.invariant _ _ R B in
    let z : 0 < l.next = omega (arith, c.loop-next-test.true) in
    omega (arith, index_small _ _ _ _ _ R _ _ _ _ B _ _ _ _ _ G z)

pub overflow_add-child : goal.overflow_add-child
overflow_add-child t c =
    let l = c.loop-next in
    let R = c.requires.2 in
    let B = c.requires.3 in
    let G = l.invariant _ _ R B in
    let z : 0 < l.next = omega (arith, c.loop-next-test.true) in
    omega (arith, index_small _ _ _ _ _ R _ _ _ _ B _ _ _ _ _ G z)

pub offset_bounds-self-child : goal.offset_bounds-self-child
offset_bounds-self-child t c =
    let l = c.loop-next in
    let R = c.requires.2 in
    let B = c.requires.3 in
    let G = l.invariant _ _ R B in
    let z : 0 < l.next = omega (arith, c.loop-next-test.true) in
    omega (arith, index_small _ _ _ _ _ R _ _ _ _ B _ _ _ _ _ G z)

pub bounds-self-child : goal.bounds-self-child
bounds-self-child t c =
    let l = c.loop-next in
    let R = c.requires.2 in
    let B = c.requires.3 in
    let G = l.invariant _ _ R B in
    let z : 0 < l.next = omega (arith, c.loop-next-test.true) in
    omega (arith, in_table _ _ _ _ _ R _ _ _ _ B _ _ _ _ _ G z)

pub offset_bounds-self-child-then-rest-eq0 : goal.offset_bounds-self-child-then-rest-eq0
offset_bounds-self-child-then-rest-eq0 t c =
    omega (arith, child_small _ _ _ _ _ c.requires.2 _ _ _ _ c.requires.3 _ _ _ _ _ (c.loop-next.invariant _ _ c.requires.2 c.requires.3) (omega (arith, c.loop-next-test.true)))

pub bounds-self-child-then-rest-eq0 : goal.bounds-self-child-then-rest-eq0
bounds-self-child-then-rest-eq0 t c =
    omega (arith, child_small _ _ _ _ _ c.requires.2 _ _ _ _ c.requires.3 _ _ _ _ _ (c.loop-next.invariant _ _ c.requires.2 c.requires.3) (omega (arith, c.loop-next-test.true)))

pub offset_bounds-self-child-then-stays-eq0 : goal.offset_bounds-self-child-then-stays-eq0
offset_bounds-self-child-then-stays-eq0 t c =
    omega (arith, child_small _ _ _ _ _ c.requires.2 _ _ _ _ c.requires.3 _ _ _ _ _ (c.loop-next.invariant _ _ c.requires.2 c.requires.3) (omega (arith, c.loop-next-test.true)))

pub bounds-self-child-then-stays-eq0 : goal.bounds-self-child-then-stays-eq0
bounds-self-child-then-stays-eq0 t c =
    omega (arith, child_small _ _ _ _ _ c.requires.2 _ _ _ _ c.requires.3 _ _ _ _ _ (c.loop-next.invariant _ _ c.requires.2 c.requires.3) (omega (arith, c.loop-next-test.true)))

pub bounds-self-child-in-loop-next : goal.bounds-self-child-in-loop-next
bounds-self-child-in-loop-next t c =
    omega (arith, child_small _ _ _ _ _ c.requires.2 _ _ _ _ c.requires.3 _ _ _ _ _ (c.loop-next.invariant _ _ c.requires.2 c.requires.3) (omega (arith, c.loop-next-test.true)))

pub bounds-self-child-in-loop-next-2 : goal.bounds-self-child-in-loop-next-2
bounds-self-child-in-loop-next-2 t c =
    omega (arith, child_small _ _ _ _ _ c.requires.2 _ _ _ _ c.requires.3 _ _ _ _ _ (c.loop-next.invariant _ _ c.requires.2 c.requires.3) (omega (arith, c.loop-next-test.true)))

pub loop-next-smaller-then-rest-eq0 : goal.loop-next-smaller-then-rest-eq0
loop-next-smaller-then-rest-eq0 t c =
    let l = c.loop-next in
    let R = c.requires.2 in
    let B = c.requires.3 in
    let G = l.invariant _ _ R B in
    let z : 0 < l.next = omega (arith, c.loop-next-test.true) in
    omega (arith, c.from-next.ensures, prior_less _ _ _ _ _ R _ _ _ _ B _ _ _ _ _ G z)

pub loop-next-smaller-then-stays-eq0 : goal.loop-next-smaller-then-stays-eq0
loop-next-smaller-then-stays-eq0 t c =
    let l = c.loop-next in
    let R = c.requires.2 in
    let B = c.requires.3 in
    let G = l.invariant _ _ R B in
    let z : 0 < l.next = omega (arith, c.loop-next-test.true) in
    let q = is_child _ _ _ _ _ R _ _ _ _ B _ _ _ _ _ G z in
    let m : c.from-next-then-stays-eq0.result < max_cabinets = omega (arith, c.from-next-then-stays-eq0.ensures, last_small _ _ _ _ _ R _ _ _ _ B _ _ _ _ _ G z) in
    let n : l.next < max_cabinets = omega (arith, q.1, R.nodes) in
    walk_down l.here l.next c.from-next-then-stays-eq0.result q.2 n m

pub loop-next-smaller : goal.loop-next-smaller
loop-next-smaller t c =
    let l = c.loop-next in
    let R = c.requires.2 in
    let B = c.requires.3 in
    let G = l.invariant _ _ R B in
    let z : 0 < l.next = omega (arith, c.loop-next-test.true) in
    let q = is_child _ _ _ _ _ R _ _ _ _ B _ _ _ _ _ G z in
    let m : c.from-next-in-loop-next.result < max_cabinets = omega (arith, c.from-next-in-loop-next.ensures, last_small _ _ _ _ _ R _ _ _ _ B _ _ _ _ _ G z) in
    let n : l.next < max_cabinets = omega (arith, q.1, R.nodes) in
    walk_down l.here l.next c.from-next-in-loop-next.result q.2 n m

pub loop-next-preserved-then-rest-eq0 : goal.loop-next-preserved-then-rest-eq0
loop-next-preserved-then-rest-eq0 t c =
    let l = c.loop-next in
    let z : 0 < l.next = omega (arith, c.loop-next-test.true) in
    let s : bit_and c.from.result l.set ≡ bit_and (entry c.args.self.now.size c.args.self.now.choices.now l.next l.set) l.set = ap (λ (n : ℕ). bit_and n l.set) c.from.ensures in
    λ N k R B.
    let G = l.invariant N k R B in
    rw c.from-next.ensures (pass _ _ _ _ _ R _ _ _ _ B _ _ _ _ _ G _ z s c.if-rest-eq0.true)

pub loop-next-preserved-then-stays-eq0 : goal.loop-next-preserved-then-stays-eq0
loop-next-preserved-then-stays-eq0 t c =
    let l = c.loop-next in
    let z : 0 < l.next = omega (arith, c.loop-next-test.true) in
    let s : bit_and c.from.result l.set ≡ bit_and (entry c.args.self.now.size c.args.self.now.choices.now l.next l.set) l.set = ap (λ (n : ℕ). bit_and n l.set) c.from.ensures in
    λ N k R B.
    let G = l.invariant N k R B in
    rw c.from-next-then-stays-eq0.ensures (descend _ _ _ _ _ R _ _ _ _ B _ _ _ _ _ G _ z s c.if-stays-eq0.true)

pub key-part-requires : goal.key-part-requires
key-part-requires t c =
    let l = c.loop-next in
    let R = c.requires.2 in
    let B = c.requires.3 in
    let G = l.invariant _ _ R B in
    let N = c.requires.0 in
    let z : 0 < l.next = omega (arith, c.loop-next-test.true) in
    let s : bit_and c.from.result l.set ≡ bit_and (entry c.args.self.now.size c.args.self.now.choices.now l.next l.set) l.set = ap (λ (n : ℕ). bit_and n l.set) c.from.ensures in
    let few = stays_le _ _ _ _ _ R _ _ _ _ B _ _ _ _ _ G _ z s in
    let fewer = G.fewer in
    (omega (arith, c.decreases, c.if-rest-eq0.false, few, fewer), (N, l.next, R, subst (λ (n : ℕ). Started N c.args.self.now.size l.next l.here n (bit_and c.from.result l.set)) (sym c.from-sibling.ensures) (sibling _ _ _ _ _ R _ _ _ _ B _ _ _ _ _ G _ z s)))

pub plus-sum-requires : goal.plus-sum-requires
plus-sum-requires t c =
    let l = c.loop-next in
    let R = c.requires.2 in
    let B = c.requires.3 in
    let G = l.invariant _ _ R B in
    let N = c.requires.0 in
    let z : 0 < l.next = omega (arith, c.loop-next-test.true) in
    let s : bit_and c.from.result l.set ≡ bit_and (entry c.args.self.now.size c.args.self.now.choices.now l.next l.set) l.set = ap (λ (n : ℕ). bit_and n l.set) c.from.ensures in
    let y = c.key-part.ensures N l.next R (subst (λ (n : ℕ). Started N c.args.self.now.size l.next l.here n (bit_and c.from.result l.set)) (sym c.from-sibling.ensures) (sibling _ _ _ _ _ R _ _ _ _ B _ _ _ _ _ G _ z s)) in
    let e = sums_small _ _ _ _ _ R _ _ _ _ B _ _ _ _ _ G _ z s _ y in
    ((omega (arith, e.0), omega (arith, e.1)), (omega (arith, e.0), omega (arith, e.1)))

pub loop-next-preserved : goal.loop-next-preserved
loop-next-preserved t c =
    let l = c.loop-next in
    let z : 0 < l.next = omega (arith, c.loop-next-test.true) in
    let s : bit_and c.from.result l.set ≡ bit_and (entry c.args.self.now.size c.args.self.now.choices.now l.next l.set) l.set = ap (λ (n : ℕ). bit_and n l.set) c.from.ensures in
    λ N k R B.
    let G = l.invariant N k R B in
    let y = c.key-part.ensures N l.next R (subst (λ (n : ℕ). Started N c.args.self.now.size l.next l.here n (bit_and c.from.result l.set)) (sym c.from-sibling.ensures) (sibling _ _ _ _ _ R _ _ _ _ B _ _ _ _ _ G _ z s)) in
    rw (c.from-next-in-loop-next.ensures, c.plus-sum.ensures) (divide _ _ _ _ _ R _ _ _ _ B _ _ _ _ _ G _ z s _ y)

pub times-requires : goal.times-requires
times-requires t c =
    let G = c.loop-next.invariant _ _ c.requires.2 c.requires.3 in
    omega (arith, G.node, c.requires.2.nodes)

pub plus-requires : goal.plus-requires
plus-requires t c =
    let l = c.loop-next in
    let R = c.requires.2 in
    let B = c.requires.3 in
    let G = l.invariant _ _ R B in
    let e = finish_small _ _ _ _ _ R _ _ _ _ B _ _ _ _ _ G (omega (arith, c.loop-next-test.false)) in
    rw c.times.ensures ((omega (arith, e.0), omega (arith, e.1)), (omega (arith, e.0), omega (arith, e.1)))

pub returns : goal.returns
returns t c =
    let l = c.loop-next in
    let e : l.next ≡ 0 = omega (arith, c.loop-next-test.false) in
    λ N k R B.
    let G = l.invariant N k R B in
    finished _ _ _ _ _ R _ _ _ _ B _ _ _ _ _ G e _ (rw (c.plus.ensures, c.times.ensures) refl) (rw (c.plus.ensures, c.times.ensures) refl)
