-- `put_records` meets its contract. The invariant: the records passed stand one behind the other.
use mathlib.Core.Path.{◌≡◌}
use Rattle.tidy.specs.Words.{concat_below}
use Rattle.tidy.specs.Inner.Put.{put}
use Rattle.tidy.specs.Inner.Columns.{row}
use Rattle.tidy.proofs.words.put_records.Given as goal

abbrev pub invariant-loop-i : goal.invariant-loop-i
invariant-loop-i l = l.out ≡ put l.initial.out l.at (concat_below l.i (row l.count l.columns))
