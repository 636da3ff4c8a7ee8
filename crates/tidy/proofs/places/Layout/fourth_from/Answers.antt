-- `fourth_from` meets its contract, with some pairs and without one.
use Rattle.std.proofs.Common.{sym, ◌∙◌, arith}
use Rattle.tidy.proofs.Fourth.{no_offset, some_offset}
use Rattle.tidy.proofs.places.Layout.fourth_from.Goals as goal

pub returns-then-self-gt0 : goal.returns-then-self-gt0
returns-then-self-gt0 c = c.streams_end.ensures ∙ sym (some_offset _ _ _ _ c.if-self-gt0.true)

pub returns : goal.returns
returns c = sym (no_offset _ _ _ _ (omega arith))
