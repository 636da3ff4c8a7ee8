-- What the tests of some elements of a list, and of the numbers from 1 on, come to.
use Rattle.std.specs.Prelude.{◌≡◌, ℕ, zero, suc, ◌-◌, ◌≤◌, Bool, ◌&&◌, ◌||◌, leb, List, [], ◌∷◌, length, get_or, map}
use Rattle.std.proofs.Common.{take}
use native.Mathlib.Omega.{arith}
use native.Mathlib.Numerals.{add-one}
use borrow.Author.Tests.{lt-leb}
use mathlib.Core.Bool.{and-true}
use mathlib.Core.Path.{refl, sym, ap, ap₂, ◌∙◌}
use Rattle.std.specs.List.{list_all, range_with_len}
use Rattle.std.proofs.lemmas.List.Folds.{list_all_more, list_all-append, list_all-map}
use Rattle.std.proofs.lemmas.List.FromFn.{map-range_with_len_more}
use Rattle.finite.specs.Below.{all_below}

-- a test of the first n elements
pub all_of_first : (n : ℕ) (l : List ℕ) (p : ℕ → Bool) → n ≤ length l → list_all p (take n l) ≡ all_below n (λ i. p (get_or l i 0))
unfolding all_below
all_of_first zero l p h = refl
all_of_first (suc n) l p h =
    ap (λ (m : ℕ). list_all p (take m l)) (sym (add-one n))
    ∙ list_all_more p l n 0 (omega arith)
    ∙ ap (λ (b : Bool). b && p (get_or l n 0)) (all_of_first n l p (omega arith))

-- a test of the numbers from 1 on, one more at the end
one_more : (n : ℕ) (p : ℕ → Bool) → list_all p (range_with_len 1 (suc n)) ≡ list_all p (range_with_len 1 n) && p (suc n)
one_more n p =
    sym (list_all-map (λ b. b) p (range_with_len 1 (suc n)))
    ∙ ap (list_all (λ b. b)) (ap (λ (m : ℕ). map p (range_with_len 1 m)) (sym (add-one n)) ∙ map-range_with_len_more p 1 n (suc n) (omega arith))
    ∙ list_all-append (λ b. b) (map p (range_with_len 1 n)) (p (suc n) ∷ [])
    ∙ ap₂ ◌&&◌ (list_all-map (λ b. b) p (range_with_len 1 n)) (and-true (p (suc n)))

-- a test of them all, where the number 0 passes
pub all_after : (n : ℕ) (p : ℕ → Bool) → list_all p (range_with_len 1 n) ≡ all_below (suc n) (λ i. leb i 0 || p i)
unfolding all_below
all_after zero p = refl
all_after (suc n) p =
    one_more n p ∙ ap₂ ◌&&◌ (all_after n p) (ap (λ (b : Bool). b || p (suc n)) (sym (lt-leb (suc n) 0 (omega arith))))

pub all_from_one : (n : ℕ) (p : ℕ → Bool) → list_all p (range_with_len 1 (n - 1)) ≡ all_below n (λ i. leb i 0 || p i)
unfolding all_below
all_from_one zero p = refl
all_from_one (suc n) p = ap (λ (m : ℕ). list_all p (range_with_len 1 m)) (let e : suc n - 1 ≡ n = omega arith in e) ∙ all_after n p
