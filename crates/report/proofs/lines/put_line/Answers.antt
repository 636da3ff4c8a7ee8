-- `put_line` meets its contract: a word, a space, a number and the line's end.
use lib.ListN.{take}
use Rattle.report.proofs.Pieces.{line_put}
use Rattle.report.proofs.lines.put_line.Goals as goal

pub returns-clause-text : goal.returns-clause-text
returns-clause-text c =
    let a = c.args in
    line_put (take a.at a.text.now) _ _ _ _ a.word.now a.n c.put-space.ensures.text c.put-number.ensures.text c.put_number-end.ensures.text c.put.ensures.text
