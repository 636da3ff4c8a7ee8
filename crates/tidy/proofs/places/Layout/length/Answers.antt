-- `length` meets its contract: no sheet has more than the limits let it.
use Rattle.std.proofs.Common.{arith}
use Rattle.tidy.proofs.Fourth.{size_most}
use Rattle.tidy.proofs.places.Layout.length.Goals as goal

pub overflow_add-result : goal.overflow_add-result
overflow_add-result c = omega (arith, size_most c.args.self.now.pairs)

pub returns-clause-word : goal.returns-clause-word
returns-clause-word c = omega (arith, size_most c.args.self.now.pairs)
