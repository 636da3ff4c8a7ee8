-- `root_key` meets its contract.
use Prim.Native.Nat.{ℕ, ◌^◌, ◌≤◌}
use native.Mathlib.Omega.{arith}
use mathlib.Core.Path.{◌≡◌, sym, ◌∙◌}
use lib.ListN.{length}
use mathlib.Core.Bool.{Bool, true}
use lib.Dec.{leb}
use native.Mathlib.Nat.{pow-le-pow_right}
use borrow.Author.Tests.{le-leb}
use Rattle.finite.proofs.Booleans.{both}
use Rattle.sheet.specs.Limits.{max_services}
use Rattle.rows.specs.Charges.{max_sets, all_sums}
use Rattle.rows.specs.Keys.{tree}
use Rattle.rows.specs.Rebuilds.{has_rows}
use Rattle.rows.proofs.Guards.{Passed, passed, root_keyed, root_readable, root_started}
use Rattle.rows.proofs.root_key.Goals as goal

-- the counts are within the arrays, and the table has room
roomy : {r s sums costs choices : ℕ} {b : Bool} → b ≡ has_rows r s sums costs choices → b ≡ true → Passed r s sums costs choices
roomy e h = passed _ _ _ _ _ (sym e ∙ h)

-- a row has no more entries than there are sets
few : {r size : ℕ} → size ≡ 2 ^ r → r ≤ max_services → size ≤ max_sets
few {r} e h = omega (arith, e, let z : 2 ^ r ≤ 2 ^ max_services = pow-le-pow_right {n = 2} (omega arith) h in z)

pub children_of-requires : goal.children_of-requires
children_of-requires c = (roomy c.are_rows.ensures c.if-not-are_rows.false).cabinets

pub weigh_sets-requires : goal.weigh_sets-requires
weigh_sets-requires c =
    let P = roomy c.are_rows.ensures c.if-not-are_rows.false in
    (P.services, omega (arith, few (c.sets_of-size.ensures.power (omega (arith, P.services))) P.services))

pub key-requires : goal.key-requires
key-requires c =
    let k = c.args.records.now in
    let u = c.args.choices.now in
    let P = roomy c.are_rows.ensures c.if-not-are_rows.false in
    let size = c.sets_of-size.ensures.power (omega (arith, P.services)) in
    let able = root_readable k u size P c.in-Some.ensures c.weigh_sets.ensures (omega (arith, few size P.services, c.weigh_sets.auto.weights)) in
    (tree k, k.cabinets, able, root_started k u (omega (arith, c.if-n-lt1.false)) c.from-child.ensures able)

pub overflow_sub-size : goal.overflow_sub-size
overflow_sub-size c =
    let P = roomy c.are_rows.ensures c.if-not-are_rows.false in
    let low : 0 ≤ c.args.records.now.services = omega arith in
    let one : 2 ^ 0 ≤ 2 ^ c.args.records.now.services = pow-le-pow_right {n = 2} (omega arith) low in
    omega (arith, one, c.sets_of-size.ensures.power (omega (arith, P.services)))

pub returns : goal.returns
returns c =
    let k = c.args.records.now in
    let u = c.args.choices.now in
    let P = roomy c.are_rows.ensures c.if-not-are_rows.false in
    let size = c.sets_of-size.ensures.power (omega (arith, P.services)) in
    let able = root_readable k u size P c.in-Some.ensures c.weigh_sets.ensures (omega (arith, few size P.services, c.weigh_sets.auto.weights)) in
    root_keyed k u size
    (both (leb 1 k.cabinets) _ (le-leb 1 k.cabinets (omega (arith, c.if-n-lt1.false)))
    (both (has_rows k.services k.cabinets all_sums (length u) (length u)) _
    (sym c.are_rows.ensures ∙ c.if-not-are_rows.false) c.in-Some.ensures.tested))
    (c.key.ensures (tree k) k.cabinets able (root_started k u (omega (arith, c.if-n-lt1.false)) c.from-child.ensures able))
