-- Laws of sets as binary digits: membership, what a test keeps of a set, subsets, complement by subtraction, one more service, and sets apart.
use Rattle.std.proofs.Common.{◌≡◌, ℕ, zero, suc, ◌+◌, ◌-◌, ◌*◌, ◌/◌, ◌%◌, ◌^◌, ◌<◌, ◌≤◌, min, max, Bool, true, false, not, ◌&&◌, ◌||◌, eqb, ltb, sym, refl, ap, ◌∙◌, mod-eq_of_lt, div-one, arith, shr-shr, le-ltb, eq-eqb, ne_eqb, eqb-true}
use mathlib.Core.Bool.{and-true, and-false, and_assoc}
use native.Mathlib.Nat.{one-le-pow}
use lib.Dec.{eqb-zero-suc, eqb-suc-zero, eqb-suc-suc}
use lib.Bits.{bit_and, bit_or, and_step, or_step, and_le_l, and_le_r, and_comm, and_mask}
use lib.Arith.{bin_ind}
use borrow.Author.Tests.{eqb-false, not-true}
use Rattle.finite.specs.Below.{only, all_below, ◌⇒◌}
use Rattle.finite.proofs.Booleans.{clash, both_l, implies, implied, same_test}
use Rattle.finite.proofs.Sums.{only_le, only_not}
use Rattle.finite.proofs.Tests.{all_in, all_at}
use Rattle.subsets.specs.Sets.{has, subset}
use Rattle.subsets.specs.Inner.Masks.{full, keep, within}

-- ---- the digits of what a test keeps

odd_only : (b : Bool) (k a : ℕ) → a < 2 → eqb ((k * 2 + only b a) % 2) 1 ≡ eqb a 1 && b
unfolding only
odd_only true k a h = ap (λ (t : ℕ). eqb t 1) (let q : (k * 2 + a) % 2 ≡ a = omega arith in q) ∙ sym (and-true (eqb a 1))
odd_only false k a h = ap (λ (t : ℕ). eqb t 1) (let q : (k * 2 + 0) % 2 ≡ 0 = omega arith in q) ∙ sym (and-false (eqb a 1))

half_only : (b : Bool) (k a : ℕ) → a < 2 → (k * 2 + only b a) / 2 ≡ k
half_only b k a h = omega (arith, only_le b a)

odd_eq : (a b : ℕ) → a < 2 → b < 2 → eqb a 1 ≡ eqb b 1 → a ≡ b
odd_eq a b ha hb e = go (eqb b 1) refl
  where
    go : (t : Bool) → eqb b 1 ≡ t → a ≡ b
    go true q = eqb-true a 1 (e ∙ q) ∙ sym (eqb-true b 1 q)
    go false q =
        let h : (a ≡ 1 → ⊥) = eqb-false a 1 (e ∙ q) in
        let k : (b ≡ 1 → ⊥) = eqb-false b 1 q in
        omega arith

-- what is kept has no service past the first n
pub keep_lt : (n : ℕ) (p : ℕ → Bool) (x : ℕ) → keep n p x < 2 ^ n
unfolding keep
keep_lt zero p x = omega arith
keep_lt (suc n) p x = omega (arith, keep_lt n (λ i. p (suc i)) (x / 2), only_le (p 0) (x % 2))

-- a set is what a test keeps of it, and the rest
pub keep_sum : (n : ℕ) (p : ℕ → Bool) (x : ℕ) → x < 2 ^ n → keep n p x + keep n (λ i. not (p i)) x ≡ x
unfolding keep
keep_sum zero p x h = omega arith
keep_sum (suc n) p x h = omega (arith, keep_sum n (λ i. p (suc i)) (x / 2) (omega arith), only_not (p 0) (x % 2))

-- the services kept are those of the set for which the test holds
pub has_keep : (n : ℕ) (p : ℕ → Bool) (x i : ℕ) → i < n → has (keep n p x) i ≡ has x i && p i
unfolding keep has
has_keep zero p x i h = absurd (omega arith)
has_keep (suc n) p x zero h = odd_only (p 0) (keep n (λ i. p (suc i)) (x / 2)) (x % 2) (omega arith)
has_keep (suc n) p x (suc i) h =
    ap (λ (y : ℕ). has y i) (half_only (p 0) (keep n (λ i. p (suc i)) (x / 2)) (x % 2) (omega arith))
    ∙ has_keep n (λ i. p (suc i)) (x / 2) i (omega arith)

-- two sets with the same services are the same number
pub has_ext : (n a b : ℕ) → a < 2 ^ n → b < 2 ^ n → ((i : ℕ) → i < n → has a i ≡ has b i) → a ≡ b
unfolding has
has_ext zero a b ha hb e = omega arith
has_ext (suc n) a b ha hb e =
    let q : a / 2 ≡ b / 2 = has_ext n (a / 2) (b / 2) (omega arith) (omega arith) (λ i k. e (suc i) (omega arith)) in
    omega (arith, q, odd_eq (a % 2) (b % 2) (omega arith) (omega arith) (e 0 (omega arith)))

-- a number below 2^n has no service past the first n
pub has_past : (n x i : ℕ) → x < 2 ^ n → n ≤ i → has x i ≡ false
unfolding has
has_past zero x zero h k = ap (λ (y : ℕ). eqb (y % 2) 1) (let q : x ≡ 0 = omega arith in q)
has_past zero x (suc i) h k = has_past zero (x / 2) i (omega arith) (omega arith)
has_past (suc n) x zero h k = absurd (omega arith)
has_past (suc n) x (suc i) h k = has_past n (x / 2) i (omega arith) (omega arith)

-- so a number of 64 bits has no service from 64 on
pub past_64 : (x i : ℕ) → x < 2 ^ 64 → 64 ≤ i → ltb i 64 ≡ has x i
past_64 x i h k = le-ltb i 64 k ∙ sym (has_past 64 x i h k)

-- ---- what a test keeps, with no digits

and_when : (h a b : Bool) → (h ≡ true → a ≡ b) → h && a ≡ h && b
and_when true a b e = e refl
and_when false a b e = refl

-- what is kept depends on the test only at the services of the set
pub keep_ext : (n : ℕ) (p q : ℕ → Bool) (x : ℕ) → ((i : ℕ) → i < n → has x i ≡ true → p i ≡ q i) → keep n p x ≡ keep n q x
keep_ext n p q x e =
    has_ext n (keep n p x) (keep n q x) (keep_lt n p x) (keep_lt n q x)
    (λ i k. has_keep n p x i k ∙ and_when (has x i) (p i) (q i) (e i k) ∙ sym (has_keep n q x i k))

-- what one test keeps of what another kept
pub keep_keep : (n : ℕ) (p q t : ℕ → Bool) (x : ℕ) → ((i : ℕ) → i < n → has x i ≡ true → q i && p i ≡ t i) → keep n p (keep n q x) ≡ keep n t x
keep_keep n p q t x e =
    has_ext n (keep n p (keep n q x)) (keep n t x) (keep_lt n p (keep n q x)) (keep_lt n t x)
    (λ i k. has_keep n p (keep n q x) i k ∙ ap (λ (b : Bool). b && p i) (has_keep n q x i k)
    ∙ and_assoc (has x i) (q i) (p i) ∙ and_when (has x i) (q i && p i) (t i) (e i k) ∙ sym (has_keep n t x i k))

-- what is kept is the set a, where its services are those of a
pub keep_is : (n : ℕ) (p : ℕ → Bool) (x a : ℕ) → a < 2 ^ n → ((i : ℕ) → i < n → has x i && p i ≡ has a i) → keep n p x ≡ a
keep_is n p x a h e = has_ext n (keep n p x) a (keep_lt n p x) h (λ i k. has_keep n p x i k ∙ e i k)

-- the rest is the difference
pub keep_rest : (n : ℕ) (p : ℕ → Bool) (x : ℕ) → x < 2 ^ n → x - keep n p x ≡ keep n (λ i. not (p i)) x
keep_rest n p x h = omega (arith, keep_sum n p x h)

-- ---- subsets: a & x is a

-- a is a subset of x
abbrev pub Sub : ℕ → ℕ → Type 0
Sub a x = bit_and a x ≡ a

min_bits : (a b : ℕ) → a < 2 → b < 2 → eqb (min a b) 1 ≡ eqb a 1 && eqb b 1
min_bits zero zero ha hb = refl
min_bits zero (suc zero) ha hb = refl
min_bits zero (suc (suc b)) ha hb = absurd (omega arith)
min_bits (suc zero) zero ha hb = refl
min_bits (suc zero) (suc zero) ha hb = refl
min_bits (suc zero) (suc (suc b)) ha hb = absurd (omega arith)
min_bits (suc (suc a)) b ha hb = absurd (omega arith)

-- a & b holds the services of both
pub has_and : (i a b : ℕ) → has (bit_and a b) i ≡ has a i && has b i
unfolding has
has_and zero a b =
    ap (λ (y : ℕ). eqb y 1) (let q : bit_and a b % 2 ≡ min (a % 2) (b % 2) = omega (arith, and_step a b) in q)
    ∙ min_bits (a % 2) (b % 2) (omega arith) (omega arith)
has_and (suc i) a b = ap (λ (y : ℕ). has y i) (let q : bit_and a b / 2 ≡ bit_and (a / 2) (b / 2) = omega (arith, and_step a b) in q) ∙ has_and i (a / 2) (b / 2)

and_true_r : (s t : Bool) → s && t ≡ s → s ≡ true → t ≡ true
and_true_r true t e h = e
and_true_r false t e h = clash (sym h)

-- a subset's services are the set's
pub sub_has : (a x i : ℕ) → Sub a x → has a i ≡ true → has x i ≡ true
sub_has a x i s h = and_true_r (has a i) (has x i) (sym (has_and i a x) ∙ ap (λ (y : ℕ). has y i) s) h

and_absorb : (s t : Bool) → (s ≡ true → t ≡ true) → s && t ≡ s
and_absorb true t e = e refl
and_absorb false t e = refl

-- a set whose services are all those of x is a subset of x
pub has_sub : (n a x : ℕ) → a < 2 ^ n → ((i : ℕ) → i < n → has a i ≡ true → has x i ≡ true) → Sub a x
has_sub n a x h e =
    has_ext n (bit_and a x) a (omega (arith, and_le_l a x)) h (λ i k. has_and i a x ∙ and_absorb (has a i) (has x i) (e i k))

-- what a test keeps is a subset
pub sub_keep : (n : ℕ) (p : ℕ → Bool) (x : ℕ) → Sub (keep n p x) x
sub_keep n p x = has_sub n (keep n p x) x (keep_lt n p x) (λ i k e. both_l (has x i) (p i) (sym (has_keep n p x i k) ∙ e))

-- a subset is what its own membership keeps
pub keep_sub : (n x a : ℕ) → x < 2 ^ n → Sub a x → keep n (has a) x ≡ a
keep_sub n x a h s =
    keep_is n (has a) x a (omega (arith, and_le_r a x)) (λ i k. sym (has_and i x a) ∙ ap (λ (y : ℕ). has y i) (and_comm x a ∙ s))

-- the complement's services
pub has_minus : (n x a i : ℕ) → x < 2 ^ n → Sub a x → i < n → has (x - a) i ≡ has x i && not (has a i)
has_minus n x a i h s k =
    ap (λ (z : ℕ). has (x - z) i) (sym (keep_sub n x a h s)) ∙ ap (λ (z : ℕ). has z i) (keep_rest n (has a) x h)
    ∙ has_keep n (λ i. not (has a i)) x i k

-- a subset is no larger a number
pub sub_le : (a x : ℕ) → Sub a x → a ≤ x
sub_le a x s = omega (arith, and_le_r a x)

-- a & x is a subset of x
pub sub_and : (a x : ℕ) → Sub (bit_and a x) x
sub_and = bin_ind (λ (a : ℕ). (x : ℕ) → Sub (bit_and a x) x) (λ x. refl)
    (λ a ih x.
    let e : bit_and (bit_and a x / 2) (x / 2) ≡ bit_and (a / 2) (x / 2) =
    ap (λ (z : ℕ). bit_and z (x / 2)) (let q : bit_and a x / 2 ≡ bit_and (a / 2) (x / 2) = omega (arith, and_step a x) in q) ∙ ih (x / 2) in
    omega (arith, and_step (bit_and a x) x, and_step a x, e))

-- the two tests of a subset agree
pub subset_within : (n a x : ℕ) → a < 2 ^ n → subset n a x ≡ within a x
unfolding subset
subset_within n a x h =
    same_test (subset n a x) (within a x)
    (λ e. eq-eqb (bit_and a x) a (has_sub n a x h (λ i k m. implied (has a i) (has x i) (all_at n (λ i. has a i ⇒ has x i) e i k) m)))
    (λ e. all_in n (λ i. has a i ⇒ has x i) (λ i k. implies (has a i) (has x i) (sub_has a x i (eqb-true (bit_and a x) a e))))

-- every service below n is in the full set
pub has_full : (n i : ℕ) → i < n → has (full n) i ≡ true
unfolding has
has_full zero i h = absurd (omega arith)
has_full (suc n) zero h = eq-eqb ((2 ^ suc n - 1) % 2) 1 (omega (arith, one-le-pow n 2 (omega arith)))
has_full (suc n) (suc i) h =
    ap (λ (y : ℕ). has y i) (let q : (2 ^ suc n - 1) / 2 ≡ 2 ^ n - 1 = omega (arith, one-le-pow n 2 (omega arith)) in q) ∙ has_full n i (omega arith)

-- and it is a set of n services
pub full_lt : (n : ℕ) → full n < 2 ^ n
full_lt n = omega (arith, one-le-pow n 2 (omega arith))

-- the services of x below n: all of them where x holds no other
pub and_full : (n x : ℕ) → x < 2 ^ n → bit_and x (full n) ≡ x
and_full n x h = and_mask x n ∙ mod-eq_of_lt h

pub has_and_full : (n x i : ℕ) → i < n → has (bit_and x (full n)) i ≡ has x i
has_and_full n x i h = has_and i x (full n) ∙ ap (λ (b : Bool). has x i && b) (has_full n i h) ∙ and-true (has x i)

-- ---- one more service in a set: a | 2^i

-- the empty set has no service
pub has_zero : (i : ℕ) → has 0 i ≡ false
has_zero i = has_past 0 0 i (omega arith) (omega arith)

-- 2^i holds service i alone
pub has_power : (i j : ℕ) → has (2 ^ i) j ≡ eqb i j
unfolding has
has_power zero zero = refl
has_power zero (suc j) = has_zero j ∙ sym (eqb-zero-suc j)
has_power (suc i) zero = ne_eqb (2 ^ suc i % 2) 1 (λ e. omega arith) ∙ sym (eqb-suc-zero i)
has_power (suc i) (suc j) = ap (λ (y : ℕ). has y j) (let q : 2 ^ suc i / 2 ≡ 2 ^ i = omega arith in q) ∙ has_power i j ∙ sym (eqb-suc-suc i j)

max_bits : (a b : ℕ) → a < 2 → b < 2 → eqb (max a b) 1 ≡ eqb a 1 || eqb b 1
max_bits zero zero ha hb = refl
max_bits zero (suc zero) ha hb = refl
max_bits zero (suc (suc b)) ha hb = absurd (omega arith)
max_bits (suc zero) zero ha hb = refl
max_bits (suc zero) (suc zero) ha hb = refl
max_bits (suc zero) (suc (suc b)) ha hb = absurd (omega arith)
max_bits (suc (suc a)) b ha hb = absurd (omega arith)

-- a | b holds the services of either
pub has_or : (i a b : ℕ) → has (bit_or a b) i ≡ has a i || has b i
unfolding has
has_or zero a b =
    ap (λ (y : ℕ). eqb y 1) (let q : bit_or a b % 2 ≡ max (a % 2) (b % 2) = omega (arith, or_step a b) in q)
    ∙ max_bits (a % 2) (b % 2) (omega arith) (omega arith)
has_or (suc i) a b = ap (λ (y : ℕ). has y i) (let q : bit_or a b / 2 ≡ bit_or (a / 2) (b / 2) = omega (arith, or_step a b) in q) ∙ has_or i (a / 2) (b / 2)

-- ---- sets apart: a & x is 0

-- where a & x holds none but the first n services: a and x have none of these in common exactly when a & x is 0
pub apart_and : (n a x : ℕ) → bit_and a x < 2 ^ n → all_below n (λ i. has a i ⇒ not (has x i)) ≡ eqb (bit_and a x) 0
apart_and n a x h =
    same_test (all_below n (λ i. has a i ⇒ not (has x i))) (eqb (bit_and a x) 0)
    (λ e. eq-eqb (bit_and a x) 0 (has_ext n (bit_and a x) 0 h (omega (arith, one-le-pow n 2 (omega arith))) (λ i k.
    has_and i a x ∙ off (has a i) (has x i) (implied (has a i) (not (has x i)) (all_at n (λ i. has a i ⇒ not (has x i)) e i k)) ∙ sym (has_zero i))))
    (λ e. all_in n (λ i. has a i ⇒ not (has x i)) (λ i k. implies (has a i) (not (has x i)) (λ m.
    ap not (ap (λ (t : Bool). t && has x i) (sym m) ∙ sym (has_and i a x) ∙ ap (λ (y : ℕ). has y i) (eqb-true (bit_and a x) 0 e) ∙ has_zero i))))
  where
    off : (s t : Bool) → (s ≡ true → not t ≡ true) → s && t ≡ false
    off true t f = not-true t (f refl)
    off false t f = refl

-- ---- the code's test of one service: (x >> i) & 1 is 1

has_shr : (i x : ℕ) → has x i ≡ eqb (x / 2 ^ i % 2) 1
unfolding has
has_shr zero x = ap (λ (y : ℕ). eqb (y % 2) 1) (sym (div-one x))
has_shr (suc i) x = has_shr i (x / 2) ∙ ap (λ (y : ℕ). eqb (y % 2) 1) (shr-shr x 1 i ∙ ap (λ (y : ℕ). x / 2 ^ y) (let q : 1 + i ≡ suc i = omega arith in q))

-- shift and mask test membership
pub has_bit : (i x : ℕ) → has x i ≡ eqb (bit_and (x / 2 ^ i) 1) 1
has_bit i x = has_shr i x ∙ ap (λ (y : ℕ). eqb y 1) (sym (and_mask (x / 2 ^ i) 1))
