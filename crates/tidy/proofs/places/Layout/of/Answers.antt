-- `of` meets its contract: the counts are those of the records, and no sheet has more pairs than its limits let it.
use Rattle.std.proofs.Common.{refl, arith}
use Rattle.records.specs.Told.{told}
use Rattle.tidy.proofs.Barred.{pairs_most}
use Rattle.tidy.proofs.places.Layout.of.Goals as goal

pub invariant_of-result : goal.invariant_of-result
unfolding told
invariant_of-result c =
    record { limited = c.requires; few_pairs = omega (arith, c.count_pairs.ensures, pairs_most (told c.args.records.now) c.requires.services c.requires.cabinets) }

pub returns : goal.returns
unfolding told
returns c = record { services = refl; cabinets = refl; streams = refl; pairs = c.count_pairs.ensures }
