-- A key in two numbers: its first digits and its others. Each part is a key by its own weights, so that both are summed as keys are.
use Rattle.std.proofs.Common.{◌≡◌, ℕ, zero, suc, ◌+◌, ◌-◌, ◌*◌, ◌/◌, ◌%◌, ◌^◌, ◌<◌, ◌≤◌, Bool, true, false, ltb, leb, sym, refl, ap, ◌∙◌, mod-eq_of_lt, mul_assoc, lt_of_mul-lt-mul_right, mul-le-mul_left, pow-suc, div-add-mod', mul-add, mul-div_cancel, arith, pow-add, ltb-false, ltb-true, le-ltb, leb-false, leb-true}
use native.Mathlib.Nat.{pow-zero, mul-mod_left, div-eq_of_lt, pow-le-pow_right, one-le-pow}
use lib.Arith.{digits_lt}
use Rattle.finite.specs.Below.{only}
use Rattle.finite.proofs.Sums.{sum_ext, sum_add, sum_mul}
use Rattle.subsets.specs.Sets.{has}
use Rattle.subsets.specs.Inner.Keys.{weight, key, high, low}
use Rattle.subsets.proofs.Order.{number, number_sum, key_lt}

-- a key is its high part, m times over, and its low part
pub key_two : (r m : ℕ) (w : ℕ → ℕ) (x : ℕ) (π : ℕ → ℕ) → key r w x π ≡ key r (high m w) x π * m + key r (low m w) x π
unfolding key only
key_two r m w x π =
    sum_ext r _ _ (λ i k. go i (has x i))
    ∙ sum_add r (λ i. only (has x i) (π i * high m w i) * m) (λ i. only (has x i) (π i * low m w i))
    ∙ ap (λ (z : ℕ). z + key r (low m w) x π) (sym (sum_mul r (λ i. only (has x i) (π i * high m w i)) m))
  where
    go : (i : ℕ) (t : Bool) → only t (π i * w i) ≡ only t (π i * high m w i) * m + only t (π i * low m w i)
    go i true = ap (λ (z : ℕ). π i * z) (sym (div-add-mod' (w i) m)) ∙ mul-add (π i) (w i / m * m) (w i % m) ∙ ap (λ (z : ℕ). z + π i * low m w i) (sym (mul_assoc (π i) (w i / m) m))
    go i false = omega arith

-- a number whose digits but the last h are 0
few_digits : (b r h : ℕ) (π : ℕ → ℕ) → 0 < b → ((i : ℕ) → i < r → π i < b) → ((i : ℕ) → i < r → h ≤ r - 1 - i → π i ≡ 0) → number b r π < b ^ h
unfolding number
few_digits b zero h π z d e = omega (arith, one-le-pow h b z)
few_digits b (suc r) zero π z d e =
    let q : number b r π < b ^ 0 = few_digits b r 0 π z (λ i k. d i (omega arith)) (λ i k l. e i (omega arith) (omega arith)) in
    let n : number b r π ≡ 0 = omega (arith, pow-zero b) in
    let m : number b r π * b ≡ 0 * b = ap (λ (y : ℕ). y * b) n in
    omega (arith, pow-zero b, e r (omega arith) (omega arith))
few_digits b (suc r) (suc h) π z d e =
    rw pow-suc (digits_lt (few_digits b r h π z (λ i k. d i (omega arith)) (λ i k l. e i (omega arith) (omega arith))) (d r (omega arith)))

pow_less : (b e h : ℕ) → 1 < b → e < h → b ^ e < b ^ h
pow_less b e h z l =
    omega (arith, one-le-pow e b (let y : 0 < b = omega arith in y), pow-suc b e, mul-le-mul_left {m = 2} {n = b} (b ^ e) z, pow-le-pow_right {n = b} (let y : 0 < b = omega arith in y) {i = suc e} {j = h} l)

-- the low weight of each of the last h services is its weight, and of any other 0
pub low_weight : (b h e : ℕ) → 1 < b → b ^ e % b ^ h ≡ only (ltb e h) (b ^ e)
unfolding only
low_weight b h e z = go (ltb e h) refl
  where
    go : (t : Bool) → ltb e h ≡ t → b ^ e % b ^ h ≡ only t (b ^ e)
    go true q = mod-eq_of_lt (pow_less b e h z (ltb-true e h q))
    go false q =
        let l : h ≤ e = ltb-false e h q in
        ap (λ (n : ℕ). b ^ n % b ^ h) (let y : e ≡ (e - h) + h = omega arith in y) ∙ ap (λ (n : ℕ). n % b ^ h) (pow-add b (e - h) h) ∙ mul-mod_left (b ^ (e - h)) (b ^ h)

-- and the high weight of each of the others is its weight without the last h digits, and of the last h services 0
pub high_weight : (b h e : ℕ) → 1 < b → b ^ e / b ^ h ≡ only (leb h e) (b ^ (e - h))
unfolding only
high_weight b h e z = go (leb h e) refl
  where
    go : (t : Bool) → leb h e ≡ t → b ^ e / b ^ h ≡ only t (b ^ (e - h))
    go true q =
        let l : h ≤ e = leb-true h e q in
        ap (λ (n : ℕ). b ^ n / b ^ h) (let y : e ≡ (e - h) + h = omega arith in y) ∙ ap (λ (n : ℕ). n / b ^ h) (pow-add b (e - h) h)
        ∙ mul-div_cancel (b ^ (e - h)) (one-le-pow h b (let y : 0 < b = omega arith in y))
    go false q = div-eq_of_lt (pow_less b e h z (leb-false h e q))

-- the low part of a key of nodes below b has h digits
pub low_lt : (b r h x : ℕ) (π : ℕ → ℕ) → 1 < b → ((i : ℕ) → i < r → has x i ≡ true → π i < b) → key r (low (b ^ h) (weight b r)) x π < b ^ h
unfolding key only
low_lt b r h x π z d =
    rw (sum_ext r (λ i. only (has x i) (π i * low (b ^ h) (weight b r) i)) (λ i. digit i * weight b r i) (λ i k. same i (has x i) (ltb (r - 1 - i) h) refl) ∙ number_sum b r digit)
    (few_digits b r h digit (omega arith) (λ i k. small i k (has x i) refl (ltb (r - 1 - i) h)) (λ i k l. rw (le-ltb (r - 1 - i) h l) (zero_in (has x i))))
  where
    digit : ℕ → ℕ
    digit i = only (has x i) (only (ltb (r - 1 - i) h) (π i))

    zero_in : (t : Bool) → only t 0 ≡ 0
    zero_in true = refl
    zero_in false = refl

    small : (i : ℕ) → i < r → (t : Bool) → has x i ≡ t → (u : Bool) → only t (only u (π i)) < b
    small i k true e true = d i k e
    small i k true e false = omega arith
    small i k false e u = omega arith

    same : (i : ℕ) (t u : Bool) → ltb (r - 1 - i) h ≡ u → only t (π i * low (b ^ h) (weight b r) i) ≡ only t (only u (π i)) * weight b r i
    same i false u e = omega arith
    same i true true e = ap (λ (y : ℕ). π i * y) (low_weight b h (r - 1 - i) z ∙ ap (λ (t : Bool). only t (weight b r i)) e)
    same i true false e =
        ap (λ (y : ℕ). π i * y) (low_weight b h (r - 1 - i) z ∙ ap (λ (t : Bool). only t (weight b r i)) e) ∙ (let y : π i * 0 ≡ 0 * weight b r i = omega arith in y)

-- and the high part has the others
pub high_lt : (b r h g x : ℕ) (π : ℕ → ℕ) → 0 < b → r ≤ g + h → ((i : ℕ) → i < r → has x i ≡ true → π i < b) → key r (high (b ^ h) (weight b r)) x π < b ^ g
high_lt b r h g x π z l d =
    lt_of_mul-lt-mul_right (b ^ h)
    (let y : key r (high (b ^ h) (weight b r)) x π * b ^ h < b ^ g * b ^ h =
    omega (arith, key_two r (b ^ h) (weight b r) x π, key_lt b r x π z d, pow-le-pow_right {n = b} z {i = r} {j = g + h} l, pow-add b g h) in y)
