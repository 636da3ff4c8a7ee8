-- `run` meets its contract: the length that was written fits the buffer.
use mathlib.Core.Path.{sym}
use lib.Seq.{length-take-le}
use Rattle.tidy.proofs.Answers.{written_fits}
use Rattle.program.proofs.tidying.run.Goals as goal

pub slice_bounds-copy-end : goal.slice_bounds-copy-end
slice_bounds-copy-end c = written_fits _ _ c.tidy.new.output c.tidy.result c.in-Ok.n c.tidy.ensures.answer c.tidy.ensures.output c.in-Ok.is

pub slice_bounds-give-end : goal.slice_bounds-give-end
slice_bounds-give-end c = sym (length-take-le _ _ (written_fits _ _ c.tidy.new.output c.tidy.result c.in-Ok.n c.tidy.ensures.answer c.tidy.ensures.output c.in-Ok.is))
