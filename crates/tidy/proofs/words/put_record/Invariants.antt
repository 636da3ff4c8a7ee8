-- `put_record` meets its contract. The invariant: the fields of the columns passed stand there.
use mathlib.Core.Path.{◌≡◌}
use lib.ListN.{take}
use Rattle.tidy.specs.Inner.Put.{put}
use Rattle.tidy.specs.Inner.Columns.{row}
use Rattle.tidy.proofs.words.put_record.Given as goal

abbrev pub invariant-loop-k : goal.invariant-loop-k
invariant-loop-k l = l.out ≡ put l.initial.out l.at (row l.count (take l.k l.columns) l.i)
