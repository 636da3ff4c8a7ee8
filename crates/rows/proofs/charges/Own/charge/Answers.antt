-- `Own::charge` meets its contract: the products have at most 48 bits.
use Prim.Native.Nat.{ℕ, ◌<◌, ◌≤◌}
use native.Mathlib.Omega.{arith}
use mathlib.Core.Path.{◌≡◌, refl, sym, ap, ◌∙◌}
use mathlib.Core.Bool.{Bool, true, false, ◌&&◌, cond, and_assoc, and-false}
use borrow.Author.Tests.{eqb-true, le-leb, lt-leb, eq-eqb, ne_eqb}
use lib.Bits.{bit_and, and_le_l}
use lib.Dec.{eqb, leb}
use Rattle.finite.specs.Below.{◌⇒◌}
use Rattle.finite.proofs.Booleans.{both}
use Rattle.subsets.specs.Costs.{provided}
use Rattle.subsets.specs.Inner.Encoded.{figure}
use Rattle.rows.specs.declared.charges.Own.{Own}
use Rattle.rows.proofs.charges.Own.charge.Goals as goal

-- ---- none of x is kept off exactly when there is power for x and none is barred

absorbed : (s t : Bool) → (s ≡ true → t ≡ true) → s && t ≡ s
absorbed true t f = f refl
absorbed false t f = refl

none_off : (joint : Bool) (x barred : ℕ) → (joint ⇒ eqb x 0) && eqb (bit_and x barred) 0 ≡ eqb (cond joint x (bit_and x barred)) 0
unfolding ◌⇒◌
none_off true x barred = absorbed (eqb x 0) (eqb (bit_and x barred) 0) (λ e. eq-eqb (bit_and x barred) 0 (omega (arith, and_le_l x barred, eqb-true x 0 e)))
none_off false x barred = refl

-- what is asked of x on a cabinet, by its room and what is kept off
lets_in : (k : Own) (x demand y : ℕ) → y ≡ cond k.joint x (bit_and x k.barred)
    → (leb demand k.capacity && (k.joint ⇒ eqb x 0)) && eqb (bit_and x k.barred) 0 ≡ leb demand k.capacity && eqb y 0
lets_in k x demand y e =
    and_assoc (leb demand k.capacity) (k.joint ⇒ eqb x 0) (eqb (bit_and x k.barred) 0)
    ∙ ap (λ (t : Bool). leb demand k.capacity && t) (none_off k.joint x k.barred ∙ ap (λ (n : ℕ). eqb n 0) (sym e))

pub returns-then-from-demand : goal.returns-then-from-demand
unfolding figure provided
returns-then-from-demand c =
    let h : c.args.self.capacity < c.args.demand = omega (arith, c.if-from-demand.true) in
    simp (lt-leb _ _ h)

pub returns-then-kept_off-ne0 : goal.returns-then-kept_off-ne0
unfolding figure provided
returns-then-kept_off-ne0 c =
    let a = c.args in
    simp (lets_in a.self a.x a.demand _ c.kept_off.ensures, ne_eqb _ 0 c.if-kept_off-ne0.true, and-false)

pub returns : goal.returns
unfolding figure provided
returns c =
    let a = c.args in
    let h : a.demand ≤ a.self.capacity = omega (arith, c.if-from-demand.false) in
    let fits = lets_in a.self a.x a.demand _ c.kept_off.ensures ∙ both _ _ (le-leb a.demand a.self.capacity h) (eq-eqb _ 0 c.if-kept_off-ne0.false) in
    simp fits c.priced.ensures.0
