-- A small net, computed by the definitions: two services and a root with two children. The children's order and each link's charge matter to its figures.
use Rattle.std.proofs.Common.{◌≡◌, ℕ, ◌+◌, ◌*◌, true, false, eqb, leb, [], ◌∷◌, get_or, refl}
use Rattle.finite.specs.Below.{only, sum_below, all_below, ◌⇒◌}
use Rattle.subsets.specs.Sets.{has, subset}
use Rattle.subsets.specs.Costs.{none, some, lesser, least_below, provided}
use Rattle.subsets.specs.Inner.Totals.{◌⊕◌}
use Rattle.subsets.specs.Inner.Net.{Net}
use Rattle.subsets.specs.Inner.Splits.{least_subset, largest_below, winner}
use Rattle.subsets.specs.Inner.Rows.{grown, whole, row_at, choice_at}
use Rattle.subsets.specs.Inner.Count.{pairs, triples, weighed}
use Rattle.subsets.specs.Inner.Back.{walk, descent, seat}

-- each service takes room 2 on a node
abbrev room : ℕ → ℕ
room x = only (has x 0) 2 + only (has x 1) 2

-- k is the root's room; a link charges for service 0 without service 1 under it, up to the width w of the first, and for service 1 without 0
abbrev net : ℕ → ℕ → Net
net k w = record {
  r = 2;
  s = 3;
  parent = λ c. 0;
  node = λ c x. provided (leb (room x) (get_or (k ∷ 3 ∷ 3 ∷ []) c 0)) (room x * get_or (5 ∷ 1 ∷ 2 ∷ []) c 0);
  link = λ c x.
      elim (eqb x 1) [
        | true ↦ provided (leb 3 (get_or (0 ∷ w ∷ 2 ∷ []) c 0)) (3 * get_or (0 ∷ 2 ∷ 1 ∷ []) c 0)
        | false ↦ elim (eqb x 2) [ true ↦ some 3 | false ↦ some 0 ]
      ];
}

costs : (row_at (net 4 6) 0 3 3 ≡ some 15) × (row_at (net 0 6) 0 3 3 ≡ some 15) × (row_at (net 0 2) 0 3 3 ≡ none)
unfolding row_at grown whole least_subset least_below lesser ◌⊕◌ provided has only
costs = (refl, refl, refl)

counts : (weighed (net 4 6) ≡ 18) × (weighed (net 3 6) ≡ 17) × (weighed (net 0 6) ≡ 12) × (weighed (net 0 2) ≡ 10)
unfolding row_at grown whole least_subset least_below lesser ◌⊕◌ provided has only triples pairs sum_below subset all_below ◌⇒◌
counts = (refl, refl, refl, refl)

-- the placing read back from the choice table of the net whose root has no room
seats : (seat (net 0 6) (choice_at (net 0 6)) 0 3 3 0 ≡ 1) × (seat (net 0 6) (choice_at (net 0 6)) 0 3 3 1 ≡ 2)
unfolding row_at grown whole least_subset least_below lesser ◌⊕◌ provided has only seat walk descent choice_at winner largest_below
seats = (refl, refl)
