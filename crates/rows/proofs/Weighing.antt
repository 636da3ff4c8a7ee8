-- The weights of services and of sets of services, in two parts: no part is large, and a set's weight is summed service by service.
use Prim.Native.Nat.{ℕ, ◌+◌, ◌-◌, ◌*◌, ◌^◌, ◌≤◌, ◌<◌}
use native.Mathlib.Nat.{pow-le-pow_right}
use native.Mathlib.Omega.{arith}
use mathlib.Core.Path.{◌≡◌, refl, sym, ap, ap₂, ◌∙◌, subst}
use mathlib.Core.Bool.{Bool, true, false}
use lib.Dec.{ltb, leb}
use borrow.Author.Tests.{ltb-true, lt-ltb, le-ltb, lt-leb, le-leb}
use Rattle.finite.specs.Below.{only}
use Rattle.finite.proofs.Sums.{sum_start, sum_next, sum_le, only_le}
use Rattle.subsets.specs.Sets.{has}
use Rattle.subsets.specs.Inner.Folds.{plus}
use Rattle.subsets.specs.Inner.Keys.{weight, key, high, low}
use Rattle.subsets.specs.declared.Key.{Key}
use Rattle.subsets.proofs.Keys.{key_own}
use Rattle.subsets.proofs.KeyParts.{low_weight, high_weight, low_lt, high_lt}
use Rattle.sheet.specs.Limits.{max_services}
use Rattle.rows.specs.Keys.{base, low_digits, service_weight, set_weight}
use Rattle.rows.specs.Joins.{Addable}

-- the greatest part of a service's weight
abbrev pub most : ℕ
most = base ^ (low_digits - 1)

pub power_le : (e : ℕ) → e < low_digits → base ^ e ≤ most
power_le e h = pow-le-pow_right {n = base} (omega arith) {i = e} {j = low_digits - 1} (omega arith)

-- ---- a service's weight

abbrev highs : ℕ → ℕ → ℕ
highs r = high (base ^ low_digits) (weight base r)

abbrev lows : ℕ → ℕ → ℕ
lows r = low (base ^ low_digits) (weight base r)

abbrev two : ℕ → ℕ → Key
two h l = record { high = h; low = l }

only_small : (t : Bool) (n : ℕ) → (t ≡ true → n ≤ most) → only t n ≤ most
unfolding only
only_small true n h = h refl
only_small false n h = omega arith

high_le : (r i : ℕ) → r ≤ max_services → highs r i ≤ most
high_le r i h =
    subst (λ (n : ℕ). n ≤ most) (sym (high_weight base low_digits (r - 1 - i) (omega arith)))
    (only_small (leb low_digits (r - 1 - i)) _ (λ e. power_le (r - 1 - i - low_digits) (omega arith)))

low_le : (r i : ℕ) → lows r i ≤ most
low_le r i =
    subst (λ (n : ℕ). n ≤ most) (sym (low_weight base low_digits (r - 1 - i) (omega arith)))
    (only_small (ltb (r - 1 - i) low_digits) _ (λ e. power_le (r - 1 - i) (ltb-true _ _ e)))

-- the weight of one of the last services
pub near_weight : (r i n : ℕ) → r - 1 - i < low_digits → n ≡ base ^ (r - 1 - i) → two 0 n ≡ service_weight r i
unfolding only
near_weight r i n h e =
    ap₂ two
    (sym (high_weight base low_digits (r - 1 - i) (omega arith) ∙ ap (λ (t : Bool). only t (base ^ (r - 1 - i - low_digits))) (lt-leb low_digits (r - 1 - i) h)))
    (e ∙ sym (low_weight base low_digits (r - 1 - i) (omega arith) ∙ ap (λ (t : Bool). only t (base ^ (r - 1 - i))) (lt-ltb (r - 1 - i) low_digits h)))

-- and of any other
pub far_weight : (r i n : ℕ) → low_digits ≤ r - 1 - i → n ≡ base ^ (r - 1 - i - low_digits) → two n 0 ≡ service_weight r i
unfolding only
far_weight r i n h e =
    ap₂ two
    (e ∙ sym (high_weight base low_digits (r - 1 - i) (omega arith) ∙ ap (λ (t : Bool). only t (base ^ (r - 1 - i - low_digits))) (le-leb low_digits (r - 1 - i) h)))
    (sym (low_weight base low_digits (r - 1 - i) (omega arith) ∙ ap (λ (t : Bool). only t (base ^ (r - 1 - i))) (le-ltb (r - 1 - i) low_digits h)))

-- ---- a set's weight

-- the parts of the weight of those of the first n services of r that are in x
abbrev pub high_in : ℕ → ℕ → ℕ → ℕ
high_in r x n = key n (highs r) x (λ d. 1)

abbrev pub low_in : ℕ → ℕ → ℕ → ℕ
low_in r x n = key n (lows r) x (λ d. 1)

start : (w : ℕ → ℕ) (x : ℕ) → 0 ≡ key 0 w x (λ d. 1)
unfolding key
start w x = sum_start _

next : (w : ℕ → ℕ) (x n : ℕ) → key (n + 1) w x (λ d. 1) ≡ key n w x (λ d. 1) + only (has x n) (w n)
unfolding key
next w x n =
    sum_next n (λ i. only (has x i) (1 * w i))
    ∙ ap (λ (k : ℕ). key n w x (λ d. 1) + only (has x n) k) (let q : 1 * w n ≡ w n = omega arith in q)

small : (w : ℕ → ℕ) (x n : ℕ) → ((i : ℕ) → w i ≤ most) → key n w x (λ d. 1) ≤ n * most
unfolding key
small w x n h = sum_le n most _ (λ i k. omega (arith, only_le (has x i) (1 * w i), h i))

-- the weight of those
abbrev pub weight_below : ℕ → ℕ → ℕ → Key
weight_below r x n = two (high_in r x n) (low_in r x n)

pub weigh_start : (r x : ℕ) → two 0 0 ≡ weight_below r x 0
weigh_start r x = ap₂ two (start (highs r) x) (start (lows r) x)

-- one service more: in x, or not
more : (t : Bool) (w : ℕ → ℕ) (x n m : ℕ) → has x n ≡ t → only t (w n) ≡ m → key n w x (λ d. 1) + m ≡ key (n + 1) w x (λ d. 1)
more t w x n m e f = sym (next w x n ∙ ap (λ (k : ℕ). key n w x (λ d. 1) + k) (ap (λ (b : Bool). only b (w n)) e ∙ f))

pub weigh_in : (r x n : ℕ) → has x n ≡ true → (k l : Key) → k ≡ weight_below r x n → l ≡ service_weight r n → plus k l ≡ weight_below r x (n + 1)
unfolding only
weigh_in r x n e k l f g = ap₂ plus f g ∙ ap₂ two (more true (highs r) x n (highs r n) e refl) (more true (lows r) x n (lows r n) e refl)

pub weigh_out : (r x n : ℕ) → has x n ≡ false → weight_below r x n ≡ weight_below r x (n + 1)
unfolding only
weigh_out r x n e = ap₂ two (omega (arith, more false (highs r) x n 0 e refl)) (omega (arith, more false (lows r) x n 0 e refl))

-- both can be added
pub weigh_le : (r x n : ℕ) → r ≤ max_services → n < r → Addable (weight_below r x n) × Addable (service_weight r n)
weigh_le r x n h l = (
  (omega (arith, small (highs r) x n (λ i. high_le r i h)), omega (arith, small (lows r) x n (λ i. low_le r i))),
  (omega (arith, high_le r n h), omega (arith, low_le r n)),
)

pub weigh_end : (r x : ℕ) → weight_below r x r ≡ set_weight r x
unfolding set_weight
weigh_end r x = refl

-- no part of a set's weight is large: with the largest digit for every service it is still a part of a key
pub set_weight_le : (r x : ℕ) → r ≤ max_services → ((set_weight r x).high < 2 ^ 32) × ((set_weight r x).low < 2 ^ 32)
unfolding set_weight
set_weight_le r x h = (
  omega (arith, key_own r (high (base ^ low_digits) (weight base r)) x 199, high_lt base r low_digits low_digits x (λ i. 199) (omega arith) (omega arith) (λ i k e. omega arith)),
  omega (arith, key_own r (low (base ^ low_digits) (weight base r)) x 199, low_lt base r low_digits x (λ i. 199) (omega arith) (λ i k e. omega arith)),
)
