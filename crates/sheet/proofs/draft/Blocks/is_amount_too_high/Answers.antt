-- `is_amount_too_high` answers whether an amount of a service, of a cabinet or of a stream is too high: each block's test, in the part that starts there.
use Rattle.std.proofs.Common.{◌≡◌, arith}
use Rattle.std.proofs.lemmas.Grind.{common_steps}
use Rattle.finite.specs.Below.{any_below}
use Rattle.finite.proofs.Ranges.{any_in_range}
use Rattle.sheet.specs.Layout.{service, cabinet, stream}
use Rattle.sheet.specs.Conditions.{too_high, cabinet_too_high, some_amount_too_high}
use Rattle.sheet.proofs.draft.Blocks.is_amount_too_high.Goals as goal
use Rattle.sheet.proofs.draft.Blocks.is_amount_too_high.Goals.{then-x, else-x}

pub returns-then-y : goal.returns-then-y
unfolding some_amount_too_high service cabinet
returns-then-y c =
    let d = c.args.self.now.draft in
    let x : c.any-x.result ≡ any_below d.sheet.services (λ i. too_high (service d.sheet d.bytes.now i).demand) =
    any_in_range _ _ c.any-x.ensures.ran (λ x b q k. grind (arith, common_steps)) in
    let y : c.any-y.result ≡ any_below d.sheet.cabinets (λ k. cabinet_too_high (cabinet d.sheet d.bytes.now k)) =
    any_in_range _ _ c.any-y.ensures.ran (λ x b q k. grind (arith, common_steps)) in
    elim c.if-x.branch [ then-x w ↦ grind (arith, common_steps) | else-x w ↦ grind (arith, common_steps) ]

pub returns-else-y : goal.returns-else-y
unfolding some_amount_too_high service cabinet stream
returns-else-y c =
    let d = c.args.self.now.draft in
    let x : c.any-x.result ≡ any_below d.sheet.services (λ i. too_high (service d.sheet d.bytes.now i).demand) =
    any_in_range _ _ c.any-x.ensures.ran (λ x b q k. grind (arith, common_steps)) in
    let y : c.any-y.result ≡ any_below d.sheet.cabinets (λ k. cabinet_too_high (cabinet d.sheet d.bytes.now k)) =
    any_in_range _ _ c.any-y.ensures.ran (λ x b q k. grind (arith, common_steps)) in
    let z : c.any-z.result ≡ any_below d.sheet.streams (λ j. too_high (stream d.sheet d.bytes.now j).demand) =
    any_in_range _ _ c.any-z.ensures.ran (λ x b q k. grind (arith, common_steps)) in
    grind (arith, common_steps)
