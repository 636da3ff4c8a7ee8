-- `fill` meets its contract.
use Prim.Native.Nat.{ℕ}
use native.Mathlib.Omega.{arith}
use mathlib.Core.Path.{◌≡◌, refl, sym, ◌∙◌}
use lib.ListN.{length}
use mathlib.Core.Bool.{Bool, true}
use Rattle.std.proofs.Common.{rules}
use Rattle.finite.proofs.Booleans.{both}
use Rattle.rows.specs.Rebuilds.{has_rows}
use Rattle.rows.proofs.Guards.{Passed, passed, no_rows, filled, in_room}
use Rattle.rows.proofs.fill.Goals as goal

-- the counts are within the arrays, and the tables have room
roomy : {r s sums costs choices : ℕ} {b : Bool} → b ≡ has_rows r s sums costs choices → b ≡ true → Passed r s sums costs choices
roomy e h = passed _ _ _ _ _ (sym e ∙ h)

pub children_of-requires : goal.children_of-requires
children_of-requires c = (roomy c.are_rows.ensures c.if-not-are_rows.false).cabinets

pub returns-then-n-lt1 : goal.returns-then-n-lt1
returns-then-n-lt1 c =
    let a = c.args in
    filled a.records.now a.sums.now a.costs.now a.choices.now refl
    (both (has_rows a.records.now.services a.records.now.cabinets (length a.sums.now) (length a.costs.now) (length a.choices.now)) _
    (sym c.are_rows.ensures ∙ c.if-not-are_rows.false) c.in-Some.ensures.tested)
    (no_rows a.records.now a.sums.now a.costs.now a.choices.now c.if-n-lt1.true)

pub rebuild_rows-requires : goal.rebuild_rows-requires
rebuild_rows-requires c =
    let a = c.args in
    let P = roomy c.are_rows.ensures c.if-not-are_rows.false in
    let size = c.sets_of-size.ensures.power (omega (arith, P.services)) in
    record {
      room = in_room a.records.now a.sums.now a.costs.now a.choices.now size P c.in-Some.ensures;
      cabinet = (omega (arith, c.if-n-lt1.false), λ w. omega (arith, c.if-n-lt1.false));
    }

pub returns : goal.returns
returns c =
    let size = c.sets_of-size.ensures.power (omega (arith, (roomy c.are_rows.ensures c.if-not-are_rows.false).services)) in
    search rules
