-- `placed_demand` meets its contract: each service that is on the cabinet adds its demand.
use Prim.Native.Nat.{ℕ, ◌+◌}
use native.Mathlib.Omega.{arith}
use mathlib.Core.Path.{◌≡◌, sym, ap, ap₂, ◌∙◌}
use lib.Dec.{eqb}
use Rattle.finite.specs.Below.{only, sum_below}
use Rattle.finite.proofs.Sums.{sum_start, sum_next}
use Rattle.sheet.specs.Instance.{Instance}
use Rattle.records.specs.Told.{told}
use Rattle.embedding.specs.Plan.{place}
use Rattle.embedding.proofs.Reckoning.{demand_sum}
use Rattle.checker.proofs.Told.{counts, demand_at}
use Rattle.checker.proofs.Placing.{put_on, placed_le}
use Rattle.checker.proofs.places.Placing.placed_demand.Goals as goal

-- the sum after one more service: its place is k, its demand d
next : (I : Instance) (π : ℕ → ℕ) (c i sum k d n : ℕ) → sum ≡ sum_below i (put_on I π c) → k ≡ π i → d ≡ I.demand i → n ≡ only (eqb k c) d
    → sum + n ≡ sum_below (i + 1) (put_on I π c)
next I π c i sum k d n s e f q =
    ap₂ (λ (m n : ℕ). m + n) s (q ∙ ap₂ (λ (k n : ℕ). only (eqb k c) n) e f) ∙ sym (sum_next i (put_on I π c))

pub loop-i-init : goal.loop-i-init
loop-i-init c = sum_start _

pub loop-i-preserved : goal.loop-i-preserved
loop-i-preserved c =
    let a = c.args in
    let l = c.loop-i in
    next (told a.self.now.records.now) (place a.self.now.plan.now) a.c l.i l.sum _ _ _ l.invariant c.place_of.ensures
    (c.from.ensures ∙ c.field.ensures ∙ demand_at a.self.now.records.now l.i) c.only_if-sum.ensures

pub overflow_add-sum : goal.overflow_add-sum
overflow_add-sum c =
    let a = c.args in
    omega (
      arith,
      loop-i-preserved c,
      placed_le (told a.self.now.records.now) (place a.self.now.plan.now) a.self.now.well_formed a.c (c.loop-i.i + 1)
          (omega (arith, c.loop-i-test.true, (counts a.self.now.records.now).0)),
    )

pub returns : goal.returns
returns c =
    let a = c.args in
    let l = c.loop-i in
    let I = told a.self.now.records.now in
    let e : l.i ≡ I.r = omega (arith, l.auto.i-end, c.loop-i-test.false, (counts a.self.now.records.now).0) in
    l.invariant ∙ ap (λ (n : ℕ). sum_below n (put_on I (place a.self.now.plan.now) a.c)) e ∙ sym (demand_sum I (λ k. eqb (place a.self.now.plan.now k) a.c))
