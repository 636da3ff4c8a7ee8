-- `put_words` meets its contract. The invariant: the words passed stand there, two bytes each.
use mathlib.Core.Path.{◌≡◌}
use lib.ListN.{take}
use Rattle.tidy.specs.Inner.Put.{put}
use Rattle.tidy.proofs.words.put_words.Given as goal

abbrev pub invariant-loop-k : goal.invariant-loop-k
invariant-loop-k l = l.out ≡ put l.initial.out l.at (take l.k l.words)
