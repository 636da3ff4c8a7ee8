-- `respond` meets its contract, for too many bytes and for a sheet.
use borrow.Author.Tests.{lt-ltb, le-ltb}
use lib.ListN.{length}
use Rattle.report.specs.Text.{longest, printed}
use Rattle.report.proofs.respond.Goals as goal

pub returns-then-sheet-gt-LONGEST-clause-text : goal.returns-then-sheet-gt-LONGEST-clause-text
unfolding printed
returns-then-sheet-gt-LONGEST-clause-text c = rw (lt-ltb longest (length c.args.sheet.now) c.if-sheet-gt-LONGEST.true) c.put_line.ensures.text

pub returns-clause-text : goal.returns-clause-text
unfolding printed
returns-clause-text c = rw (le-ltb longest (length c.args.sheet.now) c.if-sheet-gt-LONGEST.false) c.answer.ensures.text
