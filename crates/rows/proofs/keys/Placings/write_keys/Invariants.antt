-- `Placings::write_keys` meets its contract.
use Prim.Native.Nat.{ℕ, ◌<◌}
use mathlib.Core.Path.{◌≡◌}
use Rattle.subsets.specs.Inner.Net.{Net}
use Rattle.subsets.specs.Inner.Keys.{key_parts}
use Rattle.rows.specs.Keys.{base, low_digits, key_in}
use Rattle.rows.specs.Reads.{Reads}
use Rattle.rows.specs.Rebuilds.{entry}
use Rattle.rows.proofs.keys.Placings.write_keys.Given as goal

abbrev pub invariant-loop-x : goal.invariant-loop-x
invariant-loop-x l = (N : Net) → Reads N l.self → l.c < N.s → (d : ℕ) → d < l.x → key_in l.keys d ≡ key_parts base low_digits N (entry l.self.size l.self.choices.now) l.c N.s d
