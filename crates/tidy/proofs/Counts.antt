-- What an iterator's sum or count over the numbers of a range comes to: the sum over the numbers below n.
use Prim.Native.Nat.{ℕ, zero, suc, ◌+◌}
use Rattle.std.proofs.Common.{add-zero, zero-add}
use native.Mathlib.Omega.{arith}
use mathlib.Core.Path.{◌≡◌, refl, sym, ap, ap₂, ◌∙◌}
use mathlib.Core.Bool.{Bool, true, false, cond}
use mathlib.Core.List.{[], ◌∷◌, ◌++◌}
use Rattle.std.specs.List.{sum_by, filter, range_with_len}
use Rattle.std.proofs.lemmas.List.Sums.{sum_by_push, length-filter}
use lib.ListN.{length}
use Rattle.finite.specs.Below.{only, sum_below}
use Rattle.finite.proofs.Sums.{sum_ext}

-- the numbers from a on, one more at the end
one_more : (a n : ℕ) → range_with_len a (suc n) ≡ range_with_len a n ++ (a + n) ∷ []
one_more a zero = ap (λ k. k ∷ []) (sym (add-zero a))
one_more a (suc n) = ap (λ l. a ∷ l) (one_more (a + 1) n ∙ ap (λ k. range_with_len (a + 1) n ++ k ∷ []) (omega arith))

pub sum_of_numbers : (n : ℕ) (f : ℕ → ℕ) → sum_by f (range_with_len 0 n) ≡ sum_below n f
unfolding sum_below
sum_of_numbers zero f = refl
sum_of_numbers (suc n) f =
    ap (sum_by f) (one_more 0 n)
    ∙ sum_by_push f (range_with_len 0 n) (0 + n)
    ∙ ap₂ (λ (a b : ℕ). a + b) (sum_of_numbers n f) (ap f (zero-add n))

one : (t : Bool) → cond t 1 0 ≡ only t 1
unfolding only
one true = refl
one false = refl

pub count_of_numbers : (n : ℕ) (p : ℕ → Bool) → length (filter p (range_with_len 0 n)) ≡ sum_below n (λ d. only (p d) 1)
count_of_numbers n p =
    length-filter p (range_with_len 0 n) ∙ sum_of_numbers n (λ d. cond (p d) 1 0) ∙ sum_ext n (λ d. cond (p d) 1 0) _ (λ d l. one (p d))
