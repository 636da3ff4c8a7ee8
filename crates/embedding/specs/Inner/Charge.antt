-- What cabinets and links charge for sets of services. This is how a planner reckons; the theorems tie it to plans and splits.
use Rattle.std.specs.Prelude.{ℕ, Bool, ◌&&◌, not}
use Rattle.finite.specs.Below.{only, sum_below}
use Rattle.subsets.specs.Sets.{has}
use Rattle.subsets.specs.Costs.{Cost, provided}
use Rattle.subsets.specs.Inner.Net.{Net}
use Rattle.sheet.specs.Instance.{Instance}
use Rattle.embedding.specs.Limits.{weight}
use Rattle.embedding.specs.Plan.{admits, link_fits, fee, toll}

module _ (I : Instance) where
  -- the sum of f over the streams from a service for which x holds to one for which it does not
  unfoldable pub leaving : (ℕ → ℕ) → (ℕ → Bool) → ℕ
  leaving f x = sum_below I.q (λ j. only (x (I.from j) && not (x (I.to j))) (f j))

  -- the sum of f over the streams the other way: to a service for which x holds from one for which it does not
  unfoldable pub entering : (ℕ → ℕ) → (ℕ → Bool) → ℕ
  entering f x = sum_below I.q (λ j. only (x (I.to j) && not (x (I.from j))) (f j))

  -- what cabinet c charges for the services x on it; none where it does not admit them
  unfoldable pub cabinet_charge : ℕ → ℕ → Cost
  cabinet_charge c x = provided (admits I c (has x)) (sum_below I.r (λ i. only (has x i) (fee I c i)))

  -- what the link above c charges for the services x under c; none where a direction of it is overfull
  unfoldable pub link_charge : ℕ → ℕ → Cost
  link_charge c x =
      provided (link_fits I c (leaving (weight I) (has x)) (entering (weight I) (has x)))
      (toll I c (leaving I.load (has x)) (entering I.load (has x)))

  -- the road with these charges
  abbrev pub net : Net
  net = record { r = I.r; s = I.s; parent = I.parent; node = cabinet_charge; link = link_charge }
