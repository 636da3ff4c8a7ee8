-- The loop `a = (a - 1) & x` meets every subset of x once, in falling order; x has 2^|x| subsets, and all sets of r services have 3^r together.
use Rattle.std.proofs.Common.{◌≡◌, ℕ, zero, suc, ◌+◌, ◌-◌, ◌*◌, ◌/◌, ◌%◌, ◌^◌, ◌<◌, ◌≤◌, Bool, true, false, cond, ◌&&◌, eqb, List, ◌∷◌, length, sym, refl, ap, ◌∙◌, ap₂, arith, eq-eqb, ne_eqb, eqb-true}
use native.Mathlib.Decide.{le_ind}
use lib.Arith.{bin_ind}
use lib.Bits.{bit_and, and_step, and_le_l, and_self}
use borrow.Author.Tests.{eqb-false}
use Rattle.finite.specs.Below.{only, sum_below}
use Rattle.finite.proofs.Booleans.{both, both_l, both_r, same_test}
use Rattle.finite.proofs.Sums.{sum_ext, sum_add, sum_mul, sum_first, sum_two}
use Rattle.subsets.specs.Sets.{has, subset}
use Rattle.subsets.specs.Inner.Masks.{within, size}
use Rattle.subsets.specs.Inner.Loop.{falling, turns}
use Rattle.subsets.proofs.Sets.{Sub, sub_and, subset_within}

-- ---- one step

sub_half : (a x : ℕ) → Sub a x → Sub (a / 2) (x / 2) × (a % 2 ≤ x % 2)
sub_half a x s = (omega (arith, and_step a x), omega (arith, and_step a x))

-- no subset of x lies between a and the next
pub next_largest : (a x b : ℕ) → Sub a x → Sub b x → b < a → b ≤ bit_and (a - 1) x
next_largest = bin_ind (λ (a : ℕ). (x b : ℕ) → Sub a x → Sub b x → b < a → b ≤ bit_and (a - 1) x)
    (λ x b s t h. absurd (omega arith))
    (λ a ih x b s t h. go a x b s t h (a % 2) refl (ih (x / 2) (b / 2)))
  where
    go : (a x b : ℕ) → Sub a x → Sub b x → b < a → (d : ℕ) → a % 2 ≡ d
        → (Sub (a / 2) (x / 2) → Sub (b / 2) (x / 2) → b / 2 < a / 2 → b / 2 ≤ bit_and (a / 2 - 1) (x / 2)) → b ≤ bit_and (a - 1) x
    go a x b s t h zero q ih =
        let e : bit_and ((a - 1) / 2) (x / 2) ≡ bit_and (a / 2 - 1) (x / 2) =
        ap (λ (z : ℕ). bit_and z (x / 2)) (let q : (a - 1) / 2 ≡ a / 2 - 1 = omega arith in q) in
        omega (arith, and_step (a - 1) x, e, (sub_half b x t).1, ih (sub_half a x s).0 (sub_half b x t).0 (omega arith))
    go a x b s t h (suc d) q ih =
        let e : bit_and ((a - 1) / 2) (x / 2) ≡ a / 2 =
        ap (λ (z : ℕ). bit_and z (x / 2)) (let q : (a - 1) / 2 ≡ a / 2 = omega arith in q) ∙ (sub_half a x s).0 in
        omega (arith, and_step (a - 1) x, e)

-- the next is below a
pub next_below : (a x : ℕ) → 0 < a → bit_and (a - 1) x < a
next_below a x z = omega (arith, and_le_l (a - 1) x)

-- ---- all subsets, each once, falling

falling_skip : (x b m : ℕ) → b ≤ m → ((k : ℕ) → b ≤ k → k < m → Sub k x → ⊥) → falling x m ≡ falling x b
unfolding falling
falling_skip x b m = le_ind (λ (m : ℕ). ((k : ℕ) → b ≤ k → k < m → Sub k x → ⊥) → falling x m ≡ falling x b)
    (λ h. refl)
    (λ m l ih h. simp (ne_eqb (bit_and m x) m (h m l (omega arith))) (ih (λ k i j. h k i (omega arith)))) m

falling_at : (x a : ℕ) → Sub a x → falling x (suc a) ≡ a ∷ falling x a
unfolding falling
falling_at x a s = simp (eq-eqb (bit_and a x) a s)

falling_down : (x a : ℕ) → Sub a x → 0 < a → falling x a ≡ falling x (suc (bit_and (a - 1) x))
falling_down x a s z =
    falling_skip x (suc (bit_and (a - 1) x)) a (omega (arith, next_below a x z)) (λ k l m t. omega (arith, next_largest a x k s t m))

turns_from : (x n a : ℕ) → Sub a x → a < n → turns x n a ≡ falling x (suc a)
unfolding turns
turns_from x zero a s h = absurd (omega arith)
turns_from x (suc n) a s h = go (eqb a 0) refl (turns_from x n (bit_and (a - 1) x) (sub_and (a - 1) x)) ∙ sym (falling_at x a s)
  where
    go : (t : Bool) → eqb a 0 ≡ t → (bit_and (a - 1) x < n → turns x n (bit_and (a - 1) x) ≡ falling x (suc (bit_and (a - 1) x))) → turns x (suc n) a ≡ a ∷ falling x a
    go true e ih = rw (eqb-true a 0 e) (unfold falling in refl)
    go false e ih =
        let z : (a ≡ 0 → ⊥) = eqb-false a 0 e in
        rw (e, turns) (ap (λ (l : List ℕ). a ∷ l) (ih (omega (arith, next_below a x (omega arith))) ∙ sym (falling_down x a s (omega arith))))

-- The loop that starts at x meets all subsets of x, each once, in falling order.
pub turns_all : (x : ℕ) → turns x (suc x) x ≡ falling x (suc x)
turns_all x = turns_from x (suc x) x (and_self x) (omega arith)

-- ---- how many they are

falling_length : (x n : ℕ) → length (falling x n) ≡ sum_below n (λ a. only (within a x) 1)
unfolding falling sum_below
falling_length x zero = refl
falling_length x (suc n) = go (within n x) refl (falling_length x n)
  where
    go : (t : Bool) → within n x ≡ t → length (falling x n) ≡ sum_below n (λ a. only (within a x) 1)
        → length (cond (within n x) (n ∷ falling x n) (falling x n)) ≡ sum_below n (λ a. only (within a x) 1) + only (within n x) 1
    go true e ih = rw e (unfold only in omega arith)
    go false e ih = rw e (unfold only in omega arith)

within_even : (b x : ℕ) → within (b * 2) x ≡ within b (x / 2)
within_even b x =
    let d : bit_and (b * 2 / 2) (x / 2) ≡ bit_and b (x / 2) = ap (λ (z : ℕ). bit_and z (x / 2)) (let q : b * 2 / 2 ≡ b = omega arith in q) in
    let e : bit_and (b * 2) x ≡ bit_and b (x / 2) * 2 = omega (arith, and_step (b * 2) x, d) in
    same_test (within (b * 2) x) (within b (x / 2))
    (λ h. eq-eqb (bit_and b (x / 2)) b (omega (arith, e, eqb-true (bit_and (b * 2) x) (b * 2) h)))
    (λ h. eq-eqb (bit_and (b * 2) x) (b * 2) (omega (arith, e, eqb-true (bit_and b (x / 2)) b h)))

within_odd : (b x : ℕ) → within (b * 2 + 1) x ≡ has x 0 && within b (x / 2)
unfolding has
within_odd b x =
    let d : bit_and ((b * 2 + 1) / 2) (x / 2) ≡ bit_and b (x / 2) = ap (λ (z : ℕ). bit_and z (x / 2)) (let q : (b * 2 + 1) / 2 ≡ b = omega arith in q) in
    let e : bit_and (b * 2 + 1) x ≡ bit_and b (x / 2) * 2 + x % 2 = omega (arith, and_step (b * 2 + 1) x, d) in
    same_test (within (b * 2 + 1) x) (eqb (x % 2) 1 && within b (x / 2))
    (λ h. let k : bit_and (b * 2 + 1) x ≡ b * 2 + 1 = eqb-true _ _ h in
    both (eqb (x % 2) 1) (within b (x / 2)) (eq-eqb (x % 2) 1 (omega (arith, e))) (eq-eqb (bit_and b (x / 2)) b (omega (arith, e))))
    (λ h. eq-eqb (bit_and (b * 2 + 1) x) (b * 2 + 1) (omega (arith, e, eqb-true (x % 2) 1 (both_l (eqb (x % 2) 1) _ h), eqb-true (bit_and b (x / 2)) b (both_r (eqb (x % 2) 1) _ h))))

only_and : (s t : Bool) → only (s && t) 1 ≡ only t 1 * only s 1
unfolding only
only_and true true = refl
only_and true false = refl
only_and false true = refl
only_and false false = refl

size_step : (n x : ℕ) → size (suc n) x ≡ only (has x 0) 1 + size n (x / 2)
unfolding size has
size_step n x = sum_first n (λ i. only (has x i) 1)

pow_flag : (t : Bool) (k : ℕ) → 2 ^ (only t 1 + k) ≡ 2 ^ k + 2 ^ k * only t 1
unfolding only
pow_flag true k = ap (λ (y : ℕ). 2 ^ y) (let q : 1 + k ≡ suc k = omega arith in q) ∙ (let q : 2 ^ suc k ≡ 2 ^ k + 2 ^ k * 1 = omega arith in q)
pow_flag false k = ap (λ (y : ℕ). 2 ^ y) (let q : 0 + k ≡ k = omega arith in q) ∙ (let q : 2 ^ k ≡ 2 ^ k + 2 ^ k * 0 = omega arith in q)

-- A set has 2 to the number of its services subsets.
pub subsets_count : (n x : ℕ) → sum_below (2 ^ n) (λ a. only (within a x) 1) ≡ 2 ^ size n x
subsets_count zero x = unfold sum_below size only in refl
subsets_count (suc n) x =
    rw (let q : 2 ^ suc n ≡ 2 ^ n * 2 = omega arith in q)
    (sum_two (2 ^ n) (λ a. only (within a x) 1)
    ∙ sum_ext (2 ^ n) _ (λ b. only (within b (x / 2)) 1 + only (within b (x / 2)) 1 * only (has x 0) 1)
    (λ b k. ap₂ (λ (y z : ℕ). y + z) (ap (λ (t : Bool). only t 1) (within_even b x)) (ap (λ (t : Bool). only t 1) (within_odd b x) ∙ only_and (has x 0) (within b (x / 2))))
    ∙ sum_add (2 ^ n) _ _
    ∙ ap₂ (λ (y z : ℕ). y + z) (subsets_count n (x / 2))
    (sym (sum_mul (2 ^ n) (λ b. only (within b (x / 2)) 1) (only (has x 0) 1)) ∙ ap (λ (y : ℕ). y * only (has x 0) 1) (subsets_count n (x / 2)))
    ∙ sym (ap (λ (y : ℕ). 2 ^ y) (size_step n x) ∙ pow_flag (has x 0) (size n (x / 2))))

-- the same by the test of membership
pub subset_count : (n x : ℕ) → sum_below (2 ^ n) (λ a. only (subset n a x) 1) ≡ 2 ^ size n x
subset_count n x = sum_ext (2 ^ n) _ _ (λ a k. ap (λ (t : Bool). only t 1) (subset_within n a x k)) ∙ subsets_count n x

first_flag : (x : ℕ) → only (has x 0) 1 ≡ x % 2
unfolding has only
first_flag x = go (eqb (x % 2) 1) refl
  where
    go : (t : Bool) → eqb (x % 2) 1 ≡ t → only t 1 ≡ x % 2
    go true e = sym (eqb-true (x % 2) 1 e)
    go false e = let q : (x % 2 ≡ 1 → ⊥) = eqb-false (x % 2) 1 e in omega arith

-- a set without the first service, and the same with it
both_sizes : (n y : ℕ) → 2 ^ size (suc n) (y * 2) + 2 ^ size (suc n) (y * 2 + 1) ≡ 2 ^ size n y * 3
both_sizes n y =
    let h : size n (y * 2 / 2) ≡ size n y = ap (size n) (let q : y * 2 / 2 ≡ y = omega arith in q) in
    let k : size n ((y * 2 + 1) / 2) ≡ size n y = ap (size n) (let q : (y * 2 + 1) / 2 ≡ y = omega arith in q) in
    let e : 2 ^ size (suc n) (y * 2) ≡ 2 ^ size n y =
    ap (λ (z : ℕ). 2 ^ z) (let q : size (suc n) (y * 2) ≡ size n y = omega (arith, size_step n (y * 2), first_flag (y * 2), h) in q) in
    let o : 2 ^ size (suc n) (y * 2 + 1) ≡ 2 ^ suc (size n y) =
    ap (λ (z : ℕ). 2 ^ z) (let q : size (suc n) (y * 2 + 1) ≡ suc (size n y) = omega (arith, size_step n (y * 2 + 1), first_flag (y * 2 + 1), k) in q) in
    omega (arith, e, o)

-- All sets of r services have 3^r subsets together.
pub three : (r : ℕ) → sum_below (2 ^ r) (λ x. 2 ^ size r x) ≡ 3 ^ r
three zero = unfold sum_below size in refl
three (suc r) =
    rw (let q : 2 ^ suc r ≡ 2 ^ r * 2 = omega arith in q)
    (sum_two (2 ^ r) (λ x. 2 ^ size (suc r) x)
    ∙ sum_ext (2 ^ r) _ (λ y. 2 ^ size r y * 3) (λ y k. both_sizes r y)
    ∙ sym (sum_mul (2 ^ r) (λ y. 2 ^ size r y) 3)
    ∙ (let q : sum_below (2 ^ r) (λ y. 2 ^ size r y) * 3 ≡ 3 ^ suc r = omega (arith, three r) in q))
