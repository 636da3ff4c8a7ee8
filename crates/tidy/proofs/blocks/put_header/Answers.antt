-- `put_header` meets its contract: each number fits a word.
use Rattle.std.proofs.Common.{arith}
use Rattle.tidy.proofs.Fourth.{offset_most}
use Rattle.tidy.proofs.blocks.put_header.Goals as goal

pub overflow_cast-fourth_from : goal.overflow_cast-fourth_from
overflow_cast-fourth_from c =
    let l = c.args.layout.now in
    omega (arith, offset_most l.services l.cabinets l.streams l.pairs)
