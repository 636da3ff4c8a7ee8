-- 01, "Splits weighed", with the barred pairs of 02 (a), the framing of 02 (e) and the joints of 02 (i): the sets of services that can be placed on the part before a cabinet, and the count of splits.
use Rattle.std.specs.Prelude.{ℕ, ◌^◌, Bool, true, false, ◌&&◌, eqb, ltb}
use Rattle.finite.specs.Below.{◌⇒◌, only, sum_below, all_below, any_below}
use Rattle.subsets.specs.Sets.{has, subset}
use Rattle.subsets.specs.Tree.{before}
use Rattle.sheet.specs.Instance.{Instance}
use Rattle.embedding.specs.Plan.{admits, link_keeps, digit}

module _ (I : Instance) where
  -- where the streams of service i end while only the services of a are placed: at its cabinet if it is in a, else at p
  unfoldable pub stands : ℕ → ℕ → (ℕ → ℕ) → ℕ → ℕ
  stands a p π i = elim (has a i) [ true ↦ π i | false ↦ p ]

  -- π places a on the part T with top p, uses no barred pair and no joint, and keeps every capacity of its cabinets and of the links between them
  unfoldable pub keeps : (ℕ → Bool) → ℕ → ℕ → (ℕ → ℕ) → Bool
  keeps T p a π =
      all_below I.r (λ i. has a i ⇒ T (π i) && ltb (π i) I.s)
      && (all_below I.s (λ c. T c ⇒ admits I c (λ i. has a i && eqb (π i) c))
      && all_below I.s (λ c. T c && (ltb 0 c && T (I.parent c)) ⇒ link_keeps I (stands a p π) c))

  -- some placing of a on the part before c uses no barred pair and no joint and keeps its capacities
  unfoldable pub placeable : ℕ → ℕ → Bool
  placeable c a = any_below (I.s ^ I.r) (λ n. keeps (before I.parent c) (I.parent c) a (digit I.s n))

  -- the number of splits (c, x, a): c is not the root, and a is a subset of x that can be placed on the part before c
  unfoldable pub weighed : ℕ
  weighed =
      sum_below I.s (λ c. only (ltb 0 c)
      (sum_below (2 ^ I.r) (λ x. sum_below (2 ^ I.r) (λ a. only (subset I.r a x && placeable c a) 1))))
