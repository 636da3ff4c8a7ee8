-- `is_pair_wrong` meets its contract: the pairs' block is lent as a part, and read pair by pair.
use Rattle.std.proofs.Common.{arith}
use Rattle.std.proofs.lemmas.Grind.{common_steps}
use Rattle.finite.proofs.Ranges.{any_in_range}
use Rattle.sheet.specs.Layout.{pair}
use Rattle.sheet.specs.Conditions.{wrong_pair, some_pair_wrong}
use Rattle.sheet.proofs.draft.Draft.is_pair_wrong.Goals as goal

pub returns : goal.returns
unfolding some_pair_wrong pair
returns c =
    let d = c.args.self.now in
    any_in_range _ (λ n. wrong_pair d.sheet.services d.sheet.cabinets (pair d.sheet d.bytes.now n)) c.any.ensures.ran (λ x b q k. grind (arith, common_steps))
