-- `rebuild_path` meets its contract.
use Prim.Native.Nat.{ℕ}
use native.Mathlib.Omega.{arith}
use mathlib.Core.Path.{◌≡◌, sym, ◌∙◌}
use mathlib.Core.Bool.{Bool, true}
use Rattle.std.proofs.Common.{rules}
use Rattle.finite.proofs.Booleans.{clash}
use Rattle.rows.specs.Rebuilds.{has_rows}
use Rattle.rows.proofs.Guards.{Passed, passed, in_room}
use Rattle.rows.proofs.rebuild_path.Goals as goal

-- the counts are within the arrays, and the tables have room
roomy : {r s sums costs choices : ℕ} {b : Bool} → b ≡ has_rows r s sums costs choices → b ≡ true → Passed r s sums costs choices
roomy e h = passed _ _ _ _ _ (sym e ∙ h)

pub children_of-requires : goal.children_of-requires
children_of-requires c = (roomy c.are_rows.ensures c.if-not-are_rows.false).cabinets

pub rebuild_rows-requires : goal.rebuild_rows-requires
rebuild_rows-requires c =
    let a = c.args in
    let P = roomy c.are_rows.ensures c.if-not-are_rows.false in
    let size = c.sets_of-size.ensures.power (omega (arith, P.services)) in
    record {
      room = in_room a.records.now a.sums.now a.costs.now a.choices.now size P c.in-Some.ensures;
      cabinet = (c.if-n-e.false, λ w. clash (sym w));
    }

pub returns : goal.returns
returns c =
    let size = c.sets_of-size.ensures.power (omega (arith, (roomy c.are_rows.ensures c.if-not-are_rows.false).services)) in
    search rules
