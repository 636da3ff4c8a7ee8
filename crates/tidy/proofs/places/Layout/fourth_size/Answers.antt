-- `fourth_size` meets its contract, without a pair and with some.
use Rattle.std.proofs.Common.{sym, arith}
use Rattle.tidy.proofs.Fourth.{no_size, some_size}
use Rattle.tidy.proofs.places.Layout.fourth_size.Goals as goal

pub returns-then-self-eq0 : goal.returns-then-self-eq0
returns-then-self-eq0 c = sym (no_size _ c.if-self-eq0.true)

pub returns : goal.returns
returns c = sym (some_size _ (omega arith))
