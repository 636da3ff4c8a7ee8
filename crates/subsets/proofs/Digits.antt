-- The digits of a number, and of a number in two parts: those of the key of all services are their nodes.
use Rattle.std.proofs.Common.{◌≡◌, ℕ, zero, suc, ◌+◌, ◌-◌, ◌*◌, ◌/◌, ◌%◌, ◌^◌, ◌<◌, ◌≤◌, Bool, true, false, cond, eqb, ltb, sym, refl, ap, ◌∙◌, mod-eq_of_lt, mul_assoc, mul_comm, pow-suc, div-one, arith, pow-add, ltb-false, ltb-true, eqb-true}
use native.Mathlib.Nat.{pow-zero, div-eq_of_lt, mul-add-mod_self_right, mul-add-div_right, div-div-eq-div-mul, one-le-pow}
use borrow.Author.Tests.{eqb-false}
use Rattle.subsets.specs.Inner.Masks.{full}
use Rattle.subsets.specs.Inner.Keys.{weight, key, high, low, digit, digit_in}
use Rattle.subsets.proofs.Order.{number, key_full}
use Rattle.subsets.proofs.KeyParts.{key_two, low_lt}

-- the last digit
digit_last : (b m a : ℕ) → a < b → digit b (m * b + a) 0 ≡ a
digit_last b m a h =
    ap (λ (z : ℕ). (m * b + a) / z % b) (pow-zero b) ∙ ap (λ (z : ℕ). z % b) (div-one (m * b + a)) ∙ mul-add-mod_self_right m b a ∙ mod-eq_of_lt h

-- any other is one of those before it
digit_before : (b m a e : ℕ) → a < b → digit b (m * b + a) (suc e) ≡ digit b m e
digit_before b m a e h =
    ap (λ (z : ℕ). (m * b + a) / z % b) (pow-suc b e ∙ mul_comm (b ^ e) b)
    ∙ ap (λ (z : ℕ). z % b) (sym (div-div-eq-div-mul (m * b + a) b (b ^ e)))
    ∙ ap (λ (z : ℕ). z / b ^ e % b) (mul-add-div_right {m = b} (omega arith) m a ∙ ap (λ (z : ℕ). m + z) (div-eq_of_lt h) ∙ (let q : m + 0 ≡ m = omega arith in q))

-- the digits of a number are those that it is made of
pub number_digit : (b r : ℕ) (π : ℕ → ℕ) → ((i : ℕ) → i < r → π i < b) → (i : ℕ) → i < r → digit b (number b r π) (r - 1 - i) ≡ π i
unfolding number
number_digit b zero π d i h = absurd (omega arith)
number_digit b (suc r) π d i h = go (eqb i r) refl (number_digit b r π (λ i k. d i (omega arith)))
  where
    go : (t : Bool) → eqb i r ≡ t → ((i : ℕ) → i < r → digit b (number b r π) (r - 1 - i) ≡ π i) → digit b (number b r π * b + π r) (suc r - 1 - i) ≡ π i
    go true q ih =
        let z : i ≡ r = eqb-true i r q in
        ap (digit b (number b r π * b + π r)) (let y : suc r - 1 - i ≡ 0 = omega arith in y) ∙ digit_last b (number b r π) (π r) (d r (omega arith)) ∙ ap π (sym z)
    go false q ih =
        let z : (i ≡ r → ⊥) = eqb-false i r q in
        ap (digit b (number b r π * b + π r)) (let y : suc r - 1 - i ≡ suc (r - 1 - i) = omega arith in y)
        ∙ digit_before b (number b r π) (π r) (r - 1 - i) (d r (omega arith)) ∙ ih i (omega arith)

-- the last h digits are those of the low part
low_digit : (b h m n e : ℕ) → 0 < b → e < h → digit b (m * b ^ h + n) e ≡ digit b n e
low_digit b h m n e z l =
    ap (λ (y : ℕ). (y + n) / b ^ e % b) whole
    ∙ ap (λ (y : ℕ). y % b) (mul-add-div_right {m = b ^ e} (one-le-pow e b z) (m * b ^ (h - 1 - e) * b) n)
    ∙ mul-add-mod_self_right (m * b ^ (h - 1 - e)) b (n / b ^ e)
  where
    whole : m * b ^ h ≡ m * b ^ (h - 1 - e) * b * b ^ e
    whole =
        ap (λ (y : ℕ). m * b ^ y) (let q : h ≡ suc (h - 1 - e) + e = omega arith in q) ∙ ap (λ (y : ℕ). m * y) (pow-add b (suc (h - 1 - e)) e)
        ∙ sym (mul_assoc m (b ^ suc (h - 1 - e)) (b ^ e))
        ∙ ap (λ (y : ℕ). y * b ^ e) (ap (λ (y : ℕ). m * y) (pow-suc b (h - 1 - e)) ∙ sym (mul_assoc m (b ^ (h - 1 - e)) b))

-- and the others those of the high part
high_digit : (b h m n e : ℕ) → n < b ^ h → h ≤ e → digit b (m * b ^ h + n) e ≡ digit b m (e - h)
high_digit b h m n e s l =
    ap (λ (y : ℕ). (m * b ^ h + n) / y % b) (ap (λ (y : ℕ). b ^ y) (let q : e ≡ h + (e - h) = omega arith in q) ∙ pow-add b h (e - h))
    ∙ ap (λ (y : ℕ). y % b) (sym (div-div-eq-div-mul (m * b ^ h + n) (b ^ h) (b ^ (e - h))))
    ∙ ap (λ (y : ℕ). y / b ^ (e - h) % b) (mul-add-div_right {m = b ^ h} (omega arith) m n ∙ ap (λ (z : ℕ). m + z) (div-eq_of_lt s) ∙ (let q : m + 0 ≡ m = omega arith in q))

-- so the digits of both parts are those of the number
two_digits : (b h m n e : ℕ) → 0 < b → n < b ^ h → digit_in b h (record { high = m; low = n }) e ≡ digit b (m * b ^ h + n) e
two_digits b h m n e z s = go (ltb e h) refl
  where
    go : (t : Bool) → ltb e h ≡ t → cond t (digit b n e) (digit b m (e - h)) ≡ digit b (m * b ^ h + n) e
    go true q = sym (low_digit b h m n e z (ltb-true e h q))
    go false q = sym (high_digit b h m n e s (ltb-false e h q))

-- The digits of both parts of the key of all services are the services' nodes.
pub key_digit : (b r h : ℕ) (π : ℕ → ℕ) → 1 < b → ((i : ℕ) → i < r → π i < b) → (i : ℕ) → i < r
    → digit_in b h (record { high = key r (high (b ^ h) (weight b r)) (full r) π; low = key r (low (b ^ h) (weight b r)) (full r) π }) (r - 1 - i) ≡ π i
key_digit b r h π z d i l =
    two_digits b h _ _ (r - 1 - i) (omega arith) (low_lt b r h (full r) π z (λ i k e. d i k))
    ∙ ap (λ (n : ℕ). digit b n (r - 1 - i)) (sym (key_two r (b ^ h) (weight b r) (full r) π) ∙ key_full b r π)
    ∙ number_digit b r π d i l
