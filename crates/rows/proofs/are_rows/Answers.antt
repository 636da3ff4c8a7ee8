-- `are_rows` meets its contract.
use Prim.Native.Nat.{ℕ, ◌*◌, ◌^◌}
use native.Mathlib.Omega.{arith}
use mathlib.Core.Path.{◌≡◌, refl, ap}
use lib.Dec.{leb}
use borrow.Author.Tests.{lt-leb, le-leb}
use Rattle.sheet.specs.Limits.{max_services, max_cabinets}
use Rattle.rows.specs.Charges.{all_sums}
use Rattle.rows.specs.Rebuilds.{has_rows}
use Rattle.rows.proofs.are_rows.Goals as goal

pub returns-then-services-gt-MAX_SERVICES : goal.returns-then-services-gt-MAX_SERVICES
unfolding has_rows
returns-then-services-gt-MAX_SERVICES c = rw (lt-leb _ max_services c.if-services-gt-MAX_SERVICES.true) refl

pub returns-then-cabinets-gt-MAX_CABINETS : goal.returns-then-cabinets-gt-MAX_CABINETS
unfolding has_rows
returns-then-cabinets-gt-MAX_CABINETS c = rw (le-leb _ max_services c.if-services-gt-MAX_SERVICES.false, lt-leb _ max_cabinets c.if-cabinets-gt-MAX_CABINETS.true) refl

pub returns-then-sums-lt-SUMS : goal.returns-then-sums-lt-SUMS
unfolding has_rows
returns-then-sums-lt-SUMS c = rw (le-leb _ max_services c.if-services-gt-MAX_SERVICES.false, le-leb _ max_cabinets c.if-cabinets-gt-MAX_CABINETS.false, lt-leb all_sums _ c.if-sums-lt-SUMS.true) refl

pub returns-then-costs-entries : goal.returns-then-costs-entries
unfolding has_rows
returns-then-costs-entries c =
    let a = c.args in
    let e : a.cabinets * c.sets_of.result ≡ a.cabinets * 2 ^ a.services = ap (λ (z : ℕ). a.cabinets * z) (c.sets_of.ensures.power (omega (arith, c.if-services-gt-MAX_SERVICES.false))) in
    rw (le-leb _ max_services c.if-services-gt-MAX_SERVICES.false, le-leb _ max_cabinets c.if-cabinets-gt-MAX_CABINETS.false, le-leb all_sums _ c.if-sums-lt-SUMS.false, lt-leb (a.cabinets * 2 ^ a.services) a.costs (omega (arith, e, c.if-costs-entries.true))) refl

pub returns : goal.returns
unfolding has_rows
returns c =
    let a = c.args in
    let e : a.cabinets * c.sets_of.result ≡ a.cabinets * 2 ^ a.services = ap (λ (z : ℕ). a.cabinets * z) (c.sets_of.ensures.power (omega (arith, c.if-services-gt-MAX_SERVICES.false))) in
    rw (le-leb _ max_services c.if-services-gt-MAX_SERVICES.false, le-leb _ max_cabinets c.if-cabinets-gt-MAX_CABINETS.false, le-leb all_sums _ c.if-sums-lt-SUMS.false, le-leb (a.cabinets * 2 ^ a.services) a.costs (omega (arith, e, c.if-costs-entries.false))) (ap (λ (z : ℕ). leb z a.choices) e)
