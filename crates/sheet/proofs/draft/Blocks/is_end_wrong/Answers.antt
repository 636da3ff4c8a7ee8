-- `is_end_wrong` meets its contract: the streams' block is lent as a part, and read stream by stream.
use Rattle.std.proofs.Common.{arith}
use Rattle.std.proofs.lemmas.Grind.{common_steps}
use Rattle.finite.proofs.Ranges.{any_in_range}
use Rattle.sheet.specs.Layout.{stream}
use Rattle.sheet.specs.Conditions.{wrong_ends, some_ends_wrong}
use Rattle.sheet.proofs.draft.Blocks.is_end_wrong.Goals as goal

pub returns : goal.returns
unfolding some_ends_wrong stream
returns c =
    let d = c.args.self.now.draft in
    any_in_range _ (λ n. wrong_ends d.sheet.services (stream d.sheet d.bytes.now n)) c.any.ensures.ran (λ x b q k. grind (arith, common_steps))
