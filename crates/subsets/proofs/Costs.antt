-- Laws of costs: sums, order, the lesser, and sums over the numbers below n.
use Rattle.std.proofs.Common.{◌≡◌, ℕ, zero, suc, ◌+◌, ◌<◌, min, Bool, true, false, eqb, ◌⊎◌, sym, refl, ap, ◌∙◌, ap₂, inl, inr, le_trans, le_refl, add-zero, add_assoc, add_comm, zero-add, arith, ne_eqb, eqb-true}
use native.Mathlib.Decide.{dec_lt}
use borrow.Author.Tests.{eqb-false}
use Rattle.subsets.specs.Costs.{Cost, none, some, lesser, least_below}
use Rattle.subsets.specs.Inner.Totals.{◌⊕◌, Le, total_below, charged}

-- the grouping of a sum does not matter
pub ⊕-assoc : (x y z : Cost) → (x ⊕ y) ⊕ z ≡ x ⊕ (y ⊕ z)
unfolding ◌⊕◌
⊕-assoc none y z = refl
⊕-assoc (some a) none z = refl
⊕-assoc (some a) (some b) none = refl
⊕-assoc (some a) (some b) (some c) = ap some (add_assoc a b c)

-- nor does the order
pub ⊕-comm : (x y : Cost) → x ⊕ y ≡ y ⊕ x
unfolding ◌⊕◌
⊕-comm none none = refl
⊕-comm none (some b) = refl
⊕-comm (some a) none = refl
⊕-comm (some a) (some b) = ap some (add_comm a b)

-- the two together
pub ⊕-left-comm : (x y z : Cost) → x ⊕ (y ⊕ z) ≡ y ⊕ (x ⊕ z)
⊕-left-comm x y z = sym (⊕-assoc x y z) ∙ ap (λ (u : Cost). u ⊕ z) (⊕-comm x y) ∙ ⊕-assoc y x z

-- no charge adds nothing
pub ⊕-zero : (x : Cost) → x ⊕ some 0 ≡ x
unfolding ◌⊕◌
⊕-zero none = refl
⊕-zero (some a) = ap some (add-zero a)

-- on either side
pub zero_⊕ : (x : Cost) → some 0 ⊕ x ≡ x
unfolding ◌⊕◌
zero_⊕ none = refl
zero_⊕ (some a) = ap some (zero-add a)

-- a sum with none is none
pub ⊕-none : (x : Cost) → x ⊕ none ≡ none
unfolding ◌⊕◌
⊕-none none = refl
⊕-none (some a) = refl

-- a sum that is a number has numbers for its parts
pub ⊕-parts : (x y : Cost) (n : ℕ) → x ⊕ y ≡ some n → (a : ℕ) × (b : ℕ) × (x ≡ some a) × (y ≡ some b) × (n ≡ a + b)
unfolding ◌⊕◌
⊕-parts none y n e = absurd (let z : ◌≡◌ {A = ℕ} 0 1 = cc in omega arith)
⊕-parts (some a) none n e = absurd (let z : ◌≡◌ {A = ℕ} 0 1 = cc in omega arith)
⊕-parts (some a) (some b) n e = (a, b, refl, refl, cc)

-- ---- order

-- each cost is at most itself
pub Le-refl : (x : Cost) → Le x x
unfolding Le
Le-refl none = tt
Le-refl (some a) = le_refl a

-- at most, twice
pub Le-trans : (x y z : Cost) → Le x y → Le y z → Le x z
unfolding Le
Le-trans x y none p q = tt
Le-trans none none (some c) p q = q
Le-trans none (some b) (some c) p q = p
Le-trans (some a) none (some c) p q = absurd q
Le-trans (some a) (some b) (some c) p q = le_trans p q

-- two costs that are at most one another are the same
pub Le-antisym : (x y : Cost) → Le x y → Le y x → x ≡ y
unfolding Le
Le-antisym none none p q = refl
Le-antisym none (some b) p q = absurd p
Le-antisym (some a) none p q = absurd q
Le-antisym (some a) (some b) p q = ap some (let e : a ≡ b = omega arith in e)

-- none is the largest
pub Le-none : (x : Cost) → Le x none
unfolding Le
Le-none x = tt

-- of two costs one is at most the other
pub Le-not : (x y : Cost) → (Le x y → ⊥) → Le y x
unfolding Le
Le-not x none h = absurd (h tt)
Le-not none (some b) h = tt
Le-not (some a) (some b) h = omega arith

-- sums keep the order
pub Le-⊕ : (x y u v : Cost) → Le x u → Le y v → Le (x ⊕ y) (u ⊕ v)
unfolding Le ◌⊕◌
Le-⊕ x y none v p q = tt
Le-⊕ x y (some c) none p q = tt
Le-⊕ none y (some c) (some d) p q = p
Le-⊕ (some a) none (some c) (some d) p q = q
Le-⊕ (some a) (some b) (some c) (some d) p q = omega arith

-- ---- the lesser

-- none is never the lesser
pub lesser_none : (x : Cost) → lesser x none ≡ x
unfolding lesser
lesser_none none = refl
lesser_none (some a) = refl

-- the lesser is at most the first
pub lesser_l : (x y : Cost) → Le (lesser x y) x
unfolding lesser Le
lesser_l none y = tt
lesser_l (some a) none = le_refl a
lesser_l (some a) (some b) = omega arith

-- and at most the second
pub lesser_r : (x y : Cost) → Le (lesser x y) y
unfolding lesser Le
lesser_r none none = tt
lesser_r none (some b) = le_refl b
lesser_r (some a) none = tt
lesser_r (some a) (some b) = omega arith

-- ---- sums over the numbers below n

-- a sum depends only on the costs summed
pub total_ext : (n : ℕ) (f g : ℕ → Cost) → ((d : ℕ) → d < n → f d ≡ g d) → total_below n f ≡ total_below n g
unfolding total_below
total_ext zero f g h = refl
total_ext (suc n) f g h = ap₂ (λ (x y : Cost). x ⊕ y) (total_ext n f g (λ d k. h d (omega arith))) (h n (omega arith))

⊕-swap : (a b c d : Cost) → (a ⊕ b) ⊕ (c ⊕ d) ≡ (a ⊕ c) ⊕ (b ⊕ d)
⊕-swap a b c d = simp (⊕-assoc, ⊕-left-comm)

-- a sum of sums
pub total_add : (n : ℕ) (f g : ℕ → Cost) → total_below n (λ d. f d ⊕ g d) ≡ total_below n f ⊕ total_below n g
unfolding total_below ◌⊕◌
total_add zero f g = refl
total_add (suc n) f g = ap (λ (x : Cost). x ⊕ (f n ⊕ g n)) (total_add n f g) ∙ ⊕-swap (total_below n f) (total_below n g) (f n) (g n)

-- nothing is charged anywhere
pub total_zero : (n : ℕ) (f : ℕ → Cost) → ((d : ℕ) → d < n → f d ≡ some 0) → total_below n f ≡ some 0
unfolding total_below ◌⊕◌
total_zero zero f h = refl
total_zero (suc n) f h = ap₂ (λ (x y : Cost). x ⊕ y) (total_zero n f (λ d k. h d (omega arith))) (h n (omega arith))

-- one place alone is charged
pub total_one : (n c : ℕ) (x : Cost) → c < n → total_below n (λ d. charged (eqb d c) x) ≡ x
unfolding total_below charged ◌⊕◌
total_one zero c x h = absurd (omega arith)
total_one (suc n) c x h = go (eqb n c) refl (λ k. total_one n c x k)
  where
    go : (t : Bool) → eqb n c ≡ t → (c < n → total_below n (λ d. charged (eqb d c) x) ≡ x) → total_below n (λ d. charged (eqb d c) x) ⊕ charged (eqb n c) x ≡ x
    go true e ih =
        let q : n ≡ c = eqb-true n c e in
        rw (e, total_zero n (λ d. charged (eqb d c) x) (λ d k. ap (λ (t : Bool). charged t x) (ne_eqb d c (λ r. omega arith)))) (zero_⊕ x)
    go false e ih =
        let q : (n ≡ c → ⊥) = eqb-false n c e in
        rw (e, ih (omega arith)) (⊕-zero x)

-- ---- the least over the numbers below n

lesser_one : (x y : Cost) → (lesser x y ≡ x) ⊎ (lesser x y ≡ y)
unfolding lesser
lesser_one none y = inr refl
lesser_one (some a) none = inl refl
lesser_one (some a) (some b) = go (dec_lt b a)
  where
    go : Dec (b < a) → (some (min a b) ≡ some a) ⊎ (some (min a b) ≡ some b)
    go (yes h) = inr (ap some (let e : min a b ≡ b = omega arith in e))
    go (no h) = inl (ap some (let e : min a b ≡ a = omega arith in e))

-- the least is at most each
pub least_low : (n : ℕ) (f : ℕ → Cost) (d : ℕ) → d < n → Le (least_below n f) (f d)
unfolding least_below
least_low zero f d h = absurd (omega arith)
least_low (suc n) f d h = go (eqb d n) refl (least_low n f d)
  where
    go : (t : Bool) → eqb d n ≡ t → (d < n → Le (least_below n f) (f d)) → Le (lesser (least_below n f) (f n)) (f d)
    go true e ih = rw (eqb-true d n e) (lesser_r (least_below n f) (f n))
    go false e ih =
        let q : (d ≡ n → ⊥) = eqb-false d n e in
        Le-trans _ _ _ (lesser_l (least_below n f) (f n)) (ih (omega arith))

-- what is at most every f n is at most the least of them
pub least_high : (m : ℕ) (f : ℕ → Cost) (x : Cost) → ((n : ℕ) → n < m → Le x (f n)) → Le x (least_below m f)
unfolding least_below Le lesser
least_high zero f x h = tt
least_high (suc m) f x h = meet x (least_below m f) (f m) (least_high m f x (λ n k. h n (omega arith))) (h m (omega arith))
  where
    meet : (x y z : Cost) → Le x y → Le x z → Le x (lesser y z)
    meet x none z p q = q
    meet x (some b) none p q = p
    meet none (some b) (some c) p q = p
    meet (some a) (some b) (some c) p q = omega arith

-- a least that is a number is met
pub least_met : (n : ℕ) (f : ℕ → Cost) (k : ℕ) → least_below n f ≡ some k → (d : ℕ) × (d < n) × (f d ≡ least_below n f)
unfolding least_below
least_met zero f k e = absurd (let z : ◌≡◌ {A = ℕ} 0 1 = cc in omega arith)
least_met (suc n) f k e = go (lesser_one (least_below n f) (f n)) (least_met n f k)
  where
    go : (lesser (least_below n f) (f n) ≡ least_below n f) ⊎ (lesser (least_below n f) (f n) ≡ f n)
        → (least_below n f ≡ some k → (d : ℕ) × (d < n) × (f d ≡ least_below n f)) → (d : ℕ) × (d < suc n) × (f d ≡ lesser (least_below n f) (f n))
    go (inl q) ih = let w = ih (sym q ∙ e) in (w.0, (let l : w.0 < n = w.1 in omega arith), w.2 ∙ sym q)
    go (inr q) ih = (n, omega arith, sym q)
