-- `cabinets_cost` meets its contract: each service adds its demand times the price of its cabinet.
use Prim.Native.Nat.{ℕ, ◌+◌, ◌*◌}
use native.Mathlib.Omega.{arith}
use mathlib.Core.Path.{◌≡◌, ap, ap₂, ◌∙◌}
use Rattle.finite.proofs.Sums.{sum_start}
use Rattle.sheet.specs.Instance.{Instance}
use Rattle.sheet.specs.Inner.Fields.{service_of, cabinet_of}
use Rattle.sheet.specs.declared.Service.{Service}
use Rattle.sheet.specs.declared.Cabinet.{Cabinet}
use Rattle.records.specs.Told.{told}
use Rattle.embedding.specs.Plan.{place}
use Rattle.checker.proofs.Told.{counts}
use Rattle.checker.proofs.Placing.{charged_next, charged_all, charged_low}
use Rattle.checker.proofs.places.Placing.cabinets_cost.Goals as goal

-- what a service costs: its record, that of its cabinet, and the cabinet's number
fee_now : (I : Instance) (i d e : ℕ) (s : Service) (k : Cabinet) → s ≡ service_of I i → k ≡ cabinet_of I d → d ≡ e → s.demand * k.price ≡ I.demand i * I.price e
fee_now I i d e s k p q r = ap₂ (λ (s : Service) (k : Cabinet). s.demand * k.price) p q ∙ ap (λ (d : ℕ). I.demand i * I.price d) r

pub loop-i-init : goal.loop-i-init
loop-i-init c = sum_start _

pub loop-i-preserved : goal.loop-i-preserved
loop-i-preserved c =
    let a = c.args in
    let l = c.loop-i in
    let I = told a.self.now.records.now in
    ap₂ (λ (m n : ℕ). m + n) l.invariant (fee_now I l.i _ _ _ _ c.service.ensures c.cabinet.ensures c.place_of.ensures)
    ∙ charged_next I (place a.self.now.plan.now) l.i

pub overflow_add-cost : goal.overflow_add-cost
overflow_add-cost c =
    let a = c.args in
    let p = a.self.now in
    omega (
      arith,
      loop-i-preserved c,
      charged_low (told a.self.now.records.now) (place a.self.now.plan.now) p.well_formed p.range (c.loop-i.i + 1) (omega (arith, c.loop-i-test.true, (counts a.self.now.records.now).0)),
    )

pub returns : goal.returns
returns c =
    let a = c.args in
    let l = c.loop-i in
    let k = (counts a.self.now.records.now).0 in
    l.invariant ∙ charged_all (told a.self.now.records.now) (place a.self.now.plan.now) l.i (omega (arith, l.auto.i-end, k)) (omega (arith, c.loop-i-test.false, k))
