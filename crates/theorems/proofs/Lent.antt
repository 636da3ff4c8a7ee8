-- What is written to the front of memory lent: the work behind what calls leave there.
use Prim.Native.Nat.{ℕ, ◌≤◌}
use mathlib.Core.Path.{◌≡◌, ap, ◌∙◌}
use mathlib.Core.List.{List, ◌++◌}
use lib.ListN.{length, drop, get_or}
use Rattle.finite.proofs.Fronts.{front_length, front_behind}
use Rattle.theorems.specs.Promised.{Written}

pub front_written : (n : ℕ) (part output output' : List ℕ) → length part ≡ n → n ≤ length output → output' ≡ part ++ drop n output
    → Written n output output'
front_written n part output output' e h o =
    record {
      there = h;
      length_stays = ap length o ∙ front_length n part output e h;
      rest = λ i k. ap (λ (l : List ℕ). get_or l i 0) o ∙ front_behind n part output e i k;
    }
