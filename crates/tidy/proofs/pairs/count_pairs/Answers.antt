-- `count_pairs` meets its contract. The invariant: the count is that of the services passed.
use Prim.Native.Nat.{ℕ, ◌+◌}
use native.Mathlib.Omega.{arith}
use mathlib.Core.Path.{◌≡◌, sym, ap, ap₂, ◌∙◌}
use Rattle.finite.specs.Below.{sum_below}
use Rattle.finite.proofs.Sums.{sum_start, sum_next, sum_le}
use Rattle.sheet.specs.Limits.{max_cabinets}
use Rattle.records.specs.Told.{told}
use Rattle.tidy.specs.Copy.{service_count, pair_count}
use Rattle.tidy.proofs.Barred.{service_most}
use Rattle.tidy.proofs.pairs.count_pairs.Goals as goal

pub loop-i-init : goal.loop-i-init
loop-i-init c = sum_start _

pub count_of_service-count-requires : goal.count_of_service-count-requires
unfolding told
count_of_service-count-requires c = omega arith

pub overflow_add-count : goal.overflow_add-count
unfolding told
overflow_add-count c =
    let l = c.loop-i in
    let I = told c.args.records.now in
    let n = sum_le l.i max_cabinets (service_count I) (λ d k. omega (arith, service_most I d, c.requires.1)) in
    omega (arith, n, c.count_of_service-count.ensures, service_most I l.i)

pub loop-i-preserved : goal.loop-i-preserved
loop-i-preserved c =
    let l = c.loop-i in
    ap₂ (λ (m n : ℕ). m + n) l.invariant c.count_of_service-count.ensures ∙ sym (sum_next l.i (service_count (told c.args.records.now)))

pub returns : goal.returns
unfolding told pair_count
returns c =
    let l = c.loop-i in
    let I = told c.args.records.now in
    let e : l.i ≡ I.r = omega arith in
    l.invariant ∙ ap (λ (n : ℕ). sum_below n (service_count I)) e
