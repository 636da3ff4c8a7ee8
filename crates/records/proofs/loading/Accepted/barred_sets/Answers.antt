-- `barred_sets` meets its contract: each pair adds its service to the set of its cabinet.
use Prim.Native.Nat.{ℕ, ◌+◌, ◌<◌}
use native.Mathlib.Omega.{arith}
use mathlib.Core.Path.{◌≡◌, sym, subst, ◌∙◌}
use lib.ListN.{set}
use Rattle.std.proofs.Common.{rules}
use Rattle.sheet.proofs.Promises.{pair_given}
use Rattle.records.specs.Inner.Loading.{Barring}
use Rattle.records.proofs.Bars.{none_barred, next_barred}
use Rattle.records.proofs.Given.{pair_read, pair_fits}
use Rattle.records.proofs.loading.Accepted.barred_sets.Goals as goal

pub loop-n-init : goal.loop-n-init
loop-n-init c = none_barred c.args.self.now.sheet c.args.self.now.bytes.now

pub unwrap-pair-requires : goal.unwrap-pair-requires
unwrap-pair-requires c =
    let a = c.args.self.now in
    let l : c.loop-n.n < a.sheet.pairs = omega (arith, c.loop-n-test.true, c.pairs-n-end.ensures) in
    let given = pair_given a.bytes.now a.sheet a.accepted c.loop-n.n l in
    let e = c.pair.ensures ∙ given.1 in
    search rules

pub offset_bounds-sets-c : goal.offset_bounds-sets-c
offset_bounds-sets-c c =
    let a = c.args.self.now in
    let l : c.loop-n.n < a.sheet.pairs = omega (arith, c.loop-n-test.true, c.pairs-n-end.ensures) in
    let fits = pair_fits a.bytes.now a.sheet a.accepted c.loop-n.n l _ _ c.pair.ensures c.unwrap-pair.ensures in
    omega (arith, fits.1)

pub bounds-sets-c : goal.bounds-sets-c
bounds-sets-c c =
    let a = c.args.self.now in
    let l : c.loop-n.n < a.sheet.pairs = omega (arith, c.loop-n-test.true, c.pairs-n-end.ensures) in
    let fits = pair_fits a.bytes.now a.sheet a.accepted c.loop-n.n l _ _ c.pair.ensures c.unwrap-pair.ensures in
    fits.1

pub with_service-requires : goal.with_service-requires
with_service-requires c =
    let a = c.args.self.now in
    let l : c.loop-n.n < a.sheet.pairs = omega (arith, c.loop-n-test.true, c.pairs-n-end.ensures) in
    let fits = pair_fits a.bytes.now a.sheet a.accepted c.loop-n.n l _ _ c.pair.ensures c.unwrap-pair.ensures in
    fits.0

pub offset_bounds-sets-c-in-loop-n : goal.offset_bounds-sets-c-in-loop-n
offset_bounds-sets-c-in-loop-n c =
    let a = c.args.self.now in
    let l : c.loop-n.n < a.sheet.pairs = omega (arith, c.loop-n-test.true, c.pairs-n-end.ensures) in
    let fits = pair_fits a.bytes.now a.sheet a.accepted c.loop-n.n l _ _ c.pair.ensures c.unwrap-pair.ensures in
    omega (arith, fits.1)

pub bounds-sets-c-in-loop-n : goal.bounds-sets-c-in-loop-n
bounds-sets-c-in-loop-n c =
    let a = c.args.self.now in
    let l : c.loop-n.n < a.sheet.pairs = omega (arith, c.loop-n-test.true, c.pairs-n-end.ensures) in
    let fits = pair_fits a.bytes.now a.sheet a.accepted c.loop-n.n l _ _ c.pair.ensures c.unwrap-pair.ensures in
    fits.1

pub loop-n-preserved : goal.loop-n-preserved
loop-n-preserved c =
    let a = c.args.self.now in
    let b = a.bytes.now in
    let h = a.sheet in
    let l : c.loop-n.n < h.pairs = omega (arith, c.loop-n-test.true, c.pairs-n-end.ensures) in
    let named = pair_read b h a.accepted c.loop-n.n l _ _ c.pair.ensures c.unwrap-pair.ensures in
    let fits = pair_fits b h a.accepted c.loop-n.n l _ _ c.pair.ensures c.unwrap-pair.ensures in
    let k = c.unwrap-pair.result in
    subst (λ (x : ℕ). Barring h b (c.loop-n.n + 1) (set c.loop-n.sets k.cabinet x)) (sym c.with_service.ensures)
    (next_barred h b c.loop-n.n c.loop-n.sets k named.0 fits.1 c.loop-n.invariant)

pub returns : goal.returns
returns c =
    let a = c.args.self.now in
    let e : c.loop-n.n ≡ a.sheet.pairs = omega (arith, c.loop-n-test.false, c.loop-n.auto.n-end, c.pairs-n-end.ensures) in
    subst (λ n. Barring a.sheet a.bytes.now n c.loop-n.sets) e c.loop-n.invariant
