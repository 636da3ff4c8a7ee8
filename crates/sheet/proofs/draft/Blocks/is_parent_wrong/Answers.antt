-- `is_parent_wrong` meets its contract: the cabinets' block is lent as a part, and read cabinet by cabinet.
use Rattle.std.proofs.Common.{arith}
use Rattle.std.proofs.lemmas.Grind.{common_steps}
use Rattle.finite.proofs.Ranges.{any_in_range}
use Rattle.sheet.specs.Layout.{cabinet}
use Rattle.sheet.specs.Conditions.{wrong_parent, some_parent_wrong}
use Rattle.sheet.proofs.draft.Blocks.is_parent_wrong.Goals as goal

pub returns : goal.returns
unfolding some_parent_wrong cabinet
returns c =
    let d = c.args.self.now.draft in
    any_in_range _ (λ n. wrong_parent n (cabinet d.sheet d.bytes.now n)) c.any.ensures.ran (λ x b q k. grind (arith, common_steps))
