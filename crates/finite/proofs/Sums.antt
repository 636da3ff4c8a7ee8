-- Laws of sums over the numbers below n and over lists.
use Prim.Native.Nat.{ℕ, zero, suc, ◌+◌, ◌*◌, ◌≤◌, ◌<◌}
use native.Mathlib.Nat.{add-mul, zero-mul, zero-add, add-zero}
use native.Mathlib.Numerals.{add-one}
use native.Mathlib.Decide.{le_ind}
use native.Mathlib.Omega.{arith}
use mathlib.Core.Path.{◌≡◌, refl, sym, ap, ap₂, ◌∙◌}
use mathlib.Core.Bool.{Bool, true, false, ◌&&◌, not}
use mathlib.Core.List.{List, [], ◌∷◌}
use lib.Dec.{eqb}
use borrow.Author.Tests.{eqb-true, eqb-false, ne_eqb}
use Rattle.finite.specs.Below.{only, sum_below, sum_over}

-- a sum depends only on the numbers summed
pub sum_ext : (n : ℕ) (f g : ℕ → ℕ) → ((d : ℕ) → d < n → f d ≡ g d) → sum_below n f ≡ sum_below n g
unfolding sum_below
sum_ext zero f g h = refl
sum_ext (suc n) f g h = ap₂ (λ (x y : ℕ). x + y) (sum_ext n f g (λ d k. h d (omega arith))) (h n (omega arith))

-- a sum of sums
pub sum_add : (n : ℕ) (f g : ℕ → ℕ) → sum_below n (λ d. f d + g d) ≡ sum_below n f + sum_below n g
unfolding sum_below
sum_add zero f g = refl
sum_add (suc n) f g = omega (arith, sum_add n f g)

-- nothing but zeros
pub sum_zero : (n : ℕ) (f : ℕ → ℕ) → ((d : ℕ) → d < n → f d ≡ 0) → sum_below n f ≡ 0
unfolding sum_below
sum_zero zero f h = refl
sum_zero (suc n) f h = omega (arith, sum_zero n f (λ d k. h d (omega arith)), h n (omega arith))

-- a sum with one place that counts
pub sum_one : (n c x : ℕ) → c < n → sum_below n (λ d. only (eqb d c) x) ≡ x
unfolding sum_below only
sum_one zero c x h = absurd (omega arith)
sum_one (suc n) c x h = go (eqb n c) refl (sum_one n c x)
  where
    go : (t : Bool) → eqb n c ≡ t → (c < n → sum_below n (λ d. only (eqb d c) x) ≡ x) → sum_below n (λ d. only (eqb d c) x) + only (eqb n c) x ≡ x
    go true e ih =
        let q : n ≡ c = eqb-true n c e in
        rw (e, sum_zero n (λ d. only (eqb d c) x) (λ d k. ap (λ (t : Bool). only t x) (ne_eqb d c (λ r. omega arith)))) (zero-add x)
    go false e ih =
        let q : (n ≡ c → ⊥) = eqb-false n c e in
        rw (e, ih (omega arith)) (add-zero x)

-- a factor of every number
pub sum_mul : (n : ℕ) (f : ℕ → ℕ) (k : ℕ) → sum_below n f * k ≡ sum_below n (λ d. f d * k)
unfolding sum_below
sum_mul zero f k = zero-mul k
sum_mul (suc n) f k = omega (arith, add-mul (sum_below n f) (f n) k, sum_mul n f k)

-- two sums change places
pub sum_swap : (n m : ℕ) (f : ℕ → ℕ → ℕ) → sum_below n (λ i. sum_below m (λ c. f i c)) ≡ sum_below m (λ c. sum_below n (λ i. f i c))
unfolding sum_below
sum_swap zero m f = sym (sum_zero m (λ c. 0) (λ c k. refl))
sum_swap (suc n) m f = ap (λ (z : ℕ). z + sum_below m (λ c. f n c)) (sum_swap n m f) ∙ sym (sum_add m (λ c. sum_below n (λ i. f i c)) (λ c. f n c))

-- a sum over a list depends only on the numbers summed
pub sum_over_ext : {A : Type 0} (f g : A → ℕ) → ((x : A) → f x ≡ g x) → (l : List A) → sum_over f l ≡ sum_over g l
unfolding sum_over
sum_over_ext f g h [] = refl
sum_over_ext f g h (x ∷ l) = omega (arith, h x, sum_over_ext f g h l)

-- a sum is at most as great as one whose numbers are at least as great
pub sum_mono : (n : ℕ) (f g : ℕ → ℕ) → ((d : ℕ) → d < n → f d ≤ g d) → sum_below n f ≤ sum_below n g
unfolding sum_below
sum_mono zero f g h = omega arith
sum_mono (suc n) f g h = omega (arith, sum_mono n f g (λ d k. h d (omega arith)), h n (omega arith))

-- numbers of at most m sum to at most n × m
pub sum_le : (n m : ℕ) (f : ℕ → ℕ) → ((d : ℕ) → d < n → f d ≤ m) → sum_below n f ≤ n * m
unfolding sum_below
sum_le zero m f h = omega arith
sum_le (suc n) m f h = omega (arith, sum_le n m f (λ d k. h d (omega arith)), h n (omega arith))

-- what a test lets through is at most the number
pub only_le : (b : Bool) (n : ℕ) → only b n ≤ n
unfolding only
only_le true n = omega arith
only_le false n = omega arith

-- the first place of a sum taken out
pub sum_first : (n : ℕ) (f : ℕ → ℕ) → sum_below (suc n) f ≡ f 0 + sum_below n (λ d. f (suc d))
unfolding sum_below
sum_first zero f = omega arith
sum_first (suc n) f = omega (arith, sum_first n f)

-- an even and an odd place at a time
pub sum_two : (n : ℕ) (f : ℕ → ℕ) → sum_below (n * 2) f ≡ sum_below n (λ d. f (d * 2) + f (d * 2 + 1))
unfolding sum_below
sum_two zero f = refl
sum_two (suc n) f =
    rw (let q : suc n * 2 ≡ suc (suc (n * 2)) = omega arith in q)
    (omega (arith, sum_two n f, ap f (let q : suc (n * 2) ≡ n * 2 + 1 = omega arith in q)))

-- a sum whose last places are zeros
pub sum_more : (n m : ℕ) (f : ℕ → ℕ) → n ≤ m → ((d : ℕ) → n ≤ d → d < m → f d ≡ 0) → sum_below m f ≡ sum_below n f
unfolding sum_below
sum_more n m f l = le_ind (λ (m : ℕ). ((d : ℕ) → n ≤ d → d < m → f d ≡ 0) → sum_below m f ≡ sum_below n f)
    (λ h. refl)
    (λ m k ih h. omega (arith, ih (λ d i j. h d i (omega arith)), h m k (omega arith))) m l

-- the first places of a sum, and those behind them
pub sum_parts : (n m : ℕ) (f : ℕ → ℕ) → sum_below (n + m) f ≡ sum_below n f + sum_below m (λ d. f (n + d))
unfolding sum_below
sum_parts n zero f = ap (λ (k : ℕ). sum_below k f) (add-zero n) ∙ sym (add-zero (sum_below n f))
sum_parts n (suc m) f =
    ap (λ (k : ℕ). sum_below k f) (let q : n + suc m ≡ suc (n + m) = omega arith in q) ∙ omega (arith, sum_parts n m f)

-- what passes two tests passes each
pub only_both_l : (s t : Bool) (n : ℕ) → only (s && t) n ≤ only s n
unfolding only
only_both_l true t n = only_le t n
only_both_l false t n = omega arith

-- and the other
pub only_both_r : (s t : Bool) (n : ℕ) → only (s && t) n ≤ only t n
unfolding only
only_both_r true t n = omega arith
only_both_r false t n = omega arith

-- a test or its opposite lets the number through
pub only_not : (t : Bool) (n : ℕ) → only t n + only (not t) n ≡ n
unfolding only
only_not true n = omega arith
only_not false n = omega arith

-- numbers that agree where the test passes
pub only_ext : (t : Bool) (m n : ℕ) → (t ≡ true → m ≡ n) → only t m ≡ only t n
unfolding only
only_ext true m n h = h refl
only_ext false m n h = refl

-- each number is at most the sum
pub le_sum : (n : ℕ) (f : ℕ → ℕ) (d : ℕ) → d < n → f d ≤ sum_below n f
unfolding sum_below
le_sum zero f d h = absurd (omega arith)
le_sum (suc n) f d h = go (eqb d n) refl (le_sum n f d)
  where
    go : (t : Bool) → eqb d n ≡ t → (d < n → f d ≤ sum_below n f) → f d ≤ sum_below n f + f n
    go true e ih = omega (arith, ap f (eqb-true d n e))
    go false e ih = let q : (d ≡ n → ⊥) = eqb-false d n e in omega (arith, ih (omega arith))

-- a sum that a loop has begun, and then one more number
pub sum_start : (f : ℕ → ℕ) → 0 ≡ sum_below 0 f
unfolding sum_below
sum_start f = refl

pub sum_next : (n : ℕ) (f : ℕ → ℕ) → sum_below (n + 1) f ≡ sum_below n f + f n
unfolding sum_below
sum_next n f = rw add-one

-- the first places of a sum sum to at most the whole
pub sum_part : (n m : ℕ) (f : ℕ → ℕ) → n ≤ m → sum_below n f ≤ sum_below m f
unfolding sum_below
sum_part n m f = le_ind (λ (m : ℕ). sum_below n f ≤ sum_below m f) (omega arith) (λ m l ih. omega (arith, ih)) m
