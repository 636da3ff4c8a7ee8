-- The counts of the joins, summed over the rows of a choice table.
use Rattle.std.specs.Prelude.{◌≡◌, ℕ, suc, ◌+◌, ◌*◌, ◌<◌, ltb, List, get_or}
use native.Mathlib.Omega.{arith}
use mathlib.Core.Path.{refl, ap, ◌∙◌}
use borrow.Author.Tests.{lt-ltb}
use Rattle.finite.specs.Below.{only, sum_below}
use Rattle.rows.specs.Rebuilds.{entry}

module _ (size : ℕ) (u : List ℕ) where
  -- those of the cabinets below n; the root has none
  abbrev pub counted : ℕ → ℕ
  counted n = sum_below n (λ c. only (ltb 0 c) (entry size u c 0))

  pub counted_one : counted 1 ≡ 0
  unfolding sum_below only
  counted_one = refl

  counted_suc : (c : ℕ) → 0 < c → counted (suc c) ≡ counted c + get_or u (c * size) 0
  unfolding sum_below only
  counted_suc c z = rw (lt-ltb 0 c z) (ap (λ (i : ℕ). counted c + get_or u i 0) (let e : c * size + 0 ≡ c * size = omega arith in e))

  pub counted_next : (c : ℕ) → 0 < c → counted (c + 1) ≡ counted c + get_or u (c * size) 0
  counted_next c z = ap counted (let e : c + 1 ≡ suc c = omega arith in e) ∙ counted_suc c z
