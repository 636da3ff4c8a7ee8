-- Numbers to a base keep the order of placings: the lesser number belongs to the placing that is first.
use Rattle.std.proofs.Common.{◌≡◌, ℕ, zero, suc, ◌+◌, ◌-◌, ◌*◌, ◌^◌, ◌<◌, ◌≤◌, Bool, true, false, eqb, sym, refl, ap, ◌∙◌, ap₂, mul-le-mul_right, mul_assoc, pow-suc, mul-one, arith, eqb-true}
use native.Mathlib.Nat.{pow-zero}
use native.Mathlib.Decide.{dec_lt}
use lib.Arith.{digits_lt}
use borrow.Author.Tests.{eqb-false}
use Rattle.finite.specs.Below.{only, sum_below}
use Rattle.finite.proofs.Sums.{sum_ext, sum_mul}
use Rattle.subsets.specs.Sets.{has}
use Rattle.subsets.specs.Inner.Masks.{full}
use Rattle.subsets.specs.Order.{NotAfter}
use Rattle.subsets.specs.Inner.Keys.{weight, key}
use Rattle.subsets.proofs.Sets.{has_full}

-- the number whose digits to the base b are π 0, .., π (r - 1)
unfoldable pub number : ℕ → ℕ → (ℕ → ℕ) → ℕ
number b zero π = 0
number b (suc r) π = number b r π * b + π r

-- it is the sum of the digits with their weights
pub number_sum : (b r : ℕ) (π : ℕ → ℕ) → sum_below r (λ i. π i * weight b r i) ≡ number b r π
unfolding number sum_below
number_sum b zero π = refl
number_sum b (suc r) π =
    ap₂ ◌+◌
    (sum_ext r _ (λ i. π i * weight b r i * b) (λ i k.
    ap (λ (e : ℕ). π i * b ^ e) (let q : suc r - 1 - i ≡ suc (r - 1 - i) = omega arith in q)
    ∙ ap (λ (z : ℕ). π i * z) (pow-suc b (r - 1 - i)) ∙ sym (mul_assoc (π i) (weight b r i) b))
    ∙ sym (sum_mul r (λ i. π i * weight b r i) b) ∙ ap (λ (z : ℕ). z * b) (number_sum b r π))
    (ap (λ (e : ℕ). π r * b ^ e) (let q : suc r - 1 - r ≡ 0 = omega arith in q) ∙ ap (λ (z : ℕ). π r * z) (pow-zero b) ∙ mul-one (π r))

-- it depends on the digits alone
pub number_ext : (b r : ℕ) (π ρ : ℕ → ℕ) → ((i : ℕ) → i < r → π i ≡ ρ i) → number b r π ≡ number b r ρ
unfolding number
number_ext b zero π ρ h = refl
number_ext b (suc r) π ρ h = ap₂ (λ (m n : ℕ). m * b + n) (number_ext b r π ρ (λ i k. h i (omega arith))) (h r (omega arith))

-- it has r digits
pub number_lt : (b r : ℕ) (π : ℕ → ℕ) → ((i : ℕ) → i < r → π i < b) → number b r π < b ^ r
unfolding number
number_lt b zero π h = omega (arith, pow-zero b)
number_lt b (suc r) π h = rw pow-suc (digits_lt (number_lt b r π (λ i k. h i (omega arith))) (h r (omega arith)))

-- ---- two numbers of digits below the base

-- a digit more on both sides
first_digits : (m n a c b : ℕ) → c < b → m * b + a ≤ n * b + c → m ≤ n
first_digits m n a c b hc h = go (dec_lt n m)
  where
    go : Dec (n < m) → m ≤ n
    go (yes l) = absurd (omega (arith, mul-le-mul_right {m = suc n} {n = m} b l))
    go (no l) = omega arith

-- the same number has the same digits
pub number_same : (b r : ℕ) (π ρ : ℕ → ℕ) → ((i : ℕ) → i < r → π i < b) → ((i : ℕ) → i < r → ρ i < b) → number b r π ≡ number b r ρ
    → (i : ℕ) → i < r → π i ≡ ρ i
unfolding number
number_same b zero π ρ hp hr e i k = absurd (omega arith)
number_same b (suc r) π ρ hp hr e i k = go (eqb i r) refl (number_same b r π ρ (λ i k. hp i (omega arith)) (λ i k. hr i (omega arith)) same)
  where
    m : ℕ
    m = number b r π

    n : ℕ
    n = number b r ρ

    same : m ≡ n
    same = omega (arith, first_digits m n (π r) (ρ r) b (hr r (omega arith)) (omega (arith, e)), first_digits n m (ρ r) (π r) b (hp r (omega arith)) (omega (arith, e)))

    last : π r ≡ ρ r
    last = let q : m * b ≡ n * b = ap (λ (z : ℕ). z * b) same in omega (arith, e)

    go : (t : Bool) → eqb i r ≡ t → ((i : ℕ) → i < r → π i ≡ ρ i) → π i ≡ ρ i
    go true q ih = ap π (eqb-true i r q) ∙ last ∙ sym (ap ρ (eqb-true i r q))
    go false q ih = let z : (i ≡ r → ⊥) = eqb-false i r q in ih i (omega arith)

-- the placing of the lesser number is not after the other
pub number_first : (b r : ℕ) (π ρ : ℕ → ℕ) → ((i : ℕ) → i < r → ρ i < b) → number b r π ≤ number b r ρ → NotAfter r π ρ
unfolding number
number_first b zero π ρ hr h i k same = absurd (omega arith)
number_first b (suc r) π ρ hr h i k same =
    go (eqb i r) refl (number_first b r π ρ (λ i k. hr i (omega arith)) (first_digits _ _ (π r) (ρ r) b (hr r (omega arith)) h))
  where
    go : (t : Bool) → eqb i r ≡ t → NotAfter r π ρ → π i ≤ ρ i
    go true q ih =
        let z : i ≡ r = eqb-true i r q in
        let e : number b r π * b ≡ number b r ρ * b = ap (λ (y : ℕ). y * b) (number_ext b r π ρ (λ j l. same j (omega arith))) in
        let l : π r ≤ ρ r = omega (arith, h) in
        rw z l
    go false q ih = let z : (i ≡ r → ⊥) = eqb-false i r q in ih i (omega arith) same

-- and the placing that is not after the other has no greater a number
pub first_number : (b r : ℕ) (π ρ : ℕ → ℕ) → ((i : ℕ) → i < r → π i < b) → ((i : ℕ) → i < r → ρ i < b) → NotAfter r π ρ → number b r π ≤ number b r ρ
unfolding number
first_number b zero π ρ hp hr h = omega arith
first_number b (suc r) π ρ hp hr h =
    go (dec_lt (number b r π) (number b r ρ)) (first_number b r π ρ (λ i k. hp i (omega arith)) (λ i k. hr i (omega arith)) (λ i k. h i (omega arith)))
  where
    go : Dec (number b r π < number b r ρ) → number b r π ≤ number b r ρ → number b r π * b + π r ≤ number b r ρ * b + ρ r
    go (yes l) m = omega (arith, mul-le-mul_right {m = suc (number b r π)} {n = number b r ρ} b l, hp r (omega arith))
    go (no l) m =
        let e : number b r π ≡ number b r ρ = omega arith in
        let f : number b r π * b ≡ number b r ρ * b = ap (λ (y : ℕ). y * b) e in
        omega (arith, h r (omega arith) (λ j k. number_same b r π ρ (λ i k. hp i (omega arith)) (λ i k. hr i (omega arith)) e j (omega arith)))

-- ---- the key of all services is their number

-- only the services of x have digits
abbrev digit_of : ℕ → (ℕ → ℕ) → ℕ → ℕ
digit_of x π i = only (has x i) (π i)

only_mul : (t : Bool) (m n : ℕ) → only t (m * n) ≡ only t m * n
unfolding only
only_mul true m n = refl
only_mul false m n = omega arith

key_digits : (b r x : ℕ) (π : ℕ → ℕ) → key r (weight b r) x π ≡ number b r (digit_of x π)
unfolding key
key_digits b r x π = sum_ext r _ _ (λ i k. only_mul (has x i) (π i) (weight b r i)) ∙ number_sum b r (digit_of x π)

-- the key of a placing of x on nodes below b has at most r digits
pub key_lt : (b r x : ℕ) (π : ℕ → ℕ) → 0 < b → ((i : ℕ) → i < r → has x i ≡ true → π i < b) → key r (weight b r) x π < b ^ r
unfolding only
key_lt b r x π z h = rw (key_digits b r x π) (number_lt b r (digit_of x π) (λ i k. go i k (has x i) refl))
  where
    go : (i : ℕ) → i < r → (t : Bool) → has x i ≡ t → only t (π i) < b
    go i k true e = h i k e
    go i k false e = z

-- the key of all services is the number of the placing
pub key_full : (b r : ℕ) (π : ℕ → ℕ) → key r (weight b r) (full r) π ≡ number b r π
unfolding only
key_full b r π = key_digits b r (full r) π ∙ number_ext b r _ π (λ i k. ap (λ (t : Bool). only t (π i)) (has_full r i k))
