-- `fill` meets its contract.
use Rattle.std.specs.Prelude.{◌≡◌, ℕ, ◌*◌, ◌^◌, length, take}
use native.Mathlib.Omega.{arith}
use mathlib.Core.Path.{sym, ap, ◌∙◌, subst}
use lib.Seq.{length-take-le, length_front}
use Rattle.rows.proofs.Parted.{zeros_first}
use Rattle.solver.specs.Sums.{SumsOf}
use Rattle.solver.proofs.Sounding.{good}
use Rattle.solver.proofs.Filling.{filled, all_tests, first_row}
use Rattle.solver.proofs.tables.fill.Goals as goal

pub slice_bounds-fill-end-2 : goal.slice_bounds-fill-end-2
slice_bounds-fill-end-2 c = sym (length-take-le _ _ (first_row c.requires))

pub returns : goal.returns
returns c =
    let a = c.args in
    let k = a.records.now in
    let P = c.requires in
    let G = good k P.is_sound in
    let E = P.row_size in
    let e : length (take a.size a.choices.now) ≡ a.size = length-take-le _ _ (first_row P) in
    let sums : SumsOf k (2 ^ k.services) c.sum_sets.new.of = subst (λ (z : ℕ). SumsOf k z c.sum_sets.new.of) E c.sum_sets.ensures in
    filled k G sums
    (c.fill-2.ensures.done (all_tests k P.is_sound G _ _ _ sums.size (P.costs ∙ ap (λ (z : ℕ). k.cabinets * z) E)
    (length_front a.choices.now c.fill.new.self a.size c.fill.auto.self ∙ P.choices ∙ ap (λ (z : ℕ). k.cabinets * z) E)))
    (λ x l. zeros_first (2 ^ k.services) (length (take a.size a.choices.now)) c.fill.new.self _ x (c.fill.ensures.after (λ y q. q)) (omega (arith, e, E)))
