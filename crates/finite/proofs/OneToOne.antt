-- Maps of the numbers below n that are one to one: into themselves they meet every number below n, and can be undone.
use Prim.Native.Nat.{ℕ, zero, suc, ◌+◌, ◌≤◌, ◌<◌}
use native.Mathlib.Omega.{arith}
use mathlib.Core.Path.{◌≡◌, refl, sym, ap, ◌∙◌}
use mathlib.Core.Bool.{Bool, true, false}
use lib.Dec.{eqb}
use borrow.Author.Tests.{eqb-true, eqb-false, eq-eqb, ne_eqb}
use Rattle.finite.specs.Below.{only, sum_below, any_below}
use Rattle.finite.proofs.Booleans.{is_false, same_test}
use Rattle.finite.proofs.Sums.{sum_ext, sum_add, sum_zero, sum_one, sum_swap, sum_mono}
use Rattle.finite.proofs.Tests.{any_at, none_at}

-- φ is one to one below n
abbrev pub OneToOne : ℕ → (ℕ → ℕ) → Type 0
OneToOne n φ = (a b : ℕ) → a < n → b < n → φ a ≡ φ b → a ≡ b

-- then it takes two numbers to the same one exactly when they are the same
pub eqb_over : (n : ℕ) (φ : ℕ → ℕ) → OneToOne n φ → (a b : ℕ) → a < n → b < n → eqb (φ a) (φ b) ≡ eqb a b
eqb_over n φ one a b k l =
    same_test (eqb (φ a) (φ b)) (eqb a b)
    (λ e. eq-eqb a b (one a b k l (eqb-true (φ a) (φ b) e)))
    (λ e. eq-eqb (φ a) (φ b) (ap φ (eqb-true a b e)))

-- a test that passes at most once counts at most 1
count_once : (n : ℕ) (t : ℕ → Bool) → ((a b : ℕ) → a < n → b < n → t a ≡ true → t b ≡ true → a ≡ b) → sum_below n (λ a. only (t a) 1) ≤ 1
unfolding sum_below only
count_once zero t h = omega arith
count_once (suc n) t h = go (t n) refl (count_once n t (λ a b k l. h a b (omega arith) (omega arith)))
  where
    go : (u : Bool) → t n ≡ u → sum_below n (λ a. only (t a) 1) ≤ 1 → sum_below n (λ a. only (t a) 1) + only u 1 ≤ 1
    go true e ih = omega (arith, sum_zero n (λ a. only (t a) 1) (λ a k. ap (λ (b : Bool). only b 1) (is_false (t a) (λ x. let q : a ≡ n = h a n (omega arith) (omega arith) x e in omega arith))))
    go false e ih = omega arith

-- as many ones as there are places
ones : (n : ℕ) → sum_below n (λ a. 1) ≡ n
unfolding sum_below
ones zero = refl
ones (suc n) = omega (arith, ones n)

module _ (n : ℕ) (φ : ℕ → ℕ) (inside : (a : ℕ) → a < n → φ a < n) (one : OneToOne n φ) where
  -- how often φ meets v
  met : ℕ → ℕ
  met v = sum_below n (λ a. only (eqb v (φ a)) 1)

  -- never twice
  met_once : (v : ℕ) → met v ≤ 1
  unfolding met
  met_once v = count_once n (λ a. eqb v (φ a)) (λ a b k l x y. one a b k l (sym (eqb-true v (φ a) x) ∙ eqb-true v (φ b) y))

  -- and n times in all
  met_all : sum_below n met ≡ n
  unfolding met
  met_all = sum_swap n n (λ v a. only (eqb v (φ a)) 1) ∙ sum_ext n _ (λ a. 1) (λ a k. sum_one n (φ a) 1 (inside a k)) ∙ ones n

  -- φ meets every number below n
  pub onto : (v : ℕ) → v < n → (a : ℕ) × (a < n) × (φ a ≡ v)
  unfolding met only
  onto v k = go (any_below n (λ a. eqb (φ a) v)) refl
    where
      zero_there : any_below n (λ a. eqb (φ a) v) ≡ false → met v ≡ 0
      zero_there e = sum_zero n (λ a. only (eqb v (φ a)) 1) (λ a l.
          ap (λ (b : Bool). only b 1) (ne_eqb v (φ a) (λ q. eqb-false (φ a) v (none_at n (λ a. eqb (φ a) v) e a l) (sym q))))

      room : met v ≡ 0 → (d : ℕ) → (t : Bool) → eqb d v ≡ t → met d + only t 1 ≤ 1
      room z d true e = omega (arith, ap met (eqb-true d v e))
      room z d false e = omega (arith, met_once d)

      go : (t : Bool) → any_below n (λ a. eqb (φ a) v) ≡ t → (a : ℕ) × (a < n) × (φ a ≡ v)
      go true e = let w = any_at n (λ a. eqb (φ a) v) e in (w.0, w.1, eqb-true (φ w.0) v w.2)
      go false e = absurd (omega (
        arith,
        sum_mono n (λ d. met d + only (eqb d v) 1) (λ d. 1) (λ d l. room (zero_there e) d (eqb d v) refl),
        sum_add n met (λ d. only (eqb d v) 1),
        sum_one n v 1 k,
        met_all,
        ones n,
      ))

-- the number that φ takes to v, where there is one
unfoldable pub inverse : ℕ → (ℕ → ℕ) → ℕ → ℕ
inverse n φ v = sum_below n (λ a. only (eqb (φ a) v) a)

-- it undoes φ
pub inverse_of : (n : ℕ) (φ : ℕ → ℕ) → OneToOne n φ → (a : ℕ) → a < n → inverse n φ (φ a) ≡ a
unfolding inverse only
inverse_of n φ one a k = sum_ext n _ (λ b. only (eqb b a) a) (λ b l. same b l (eqb b a) refl) ∙ sum_one n a a k
  where
    same : (b : ℕ) → b < n → (t : Bool) → eqb b a ≡ t → only (eqb (φ b) (φ a)) b ≡ only t a
    same b l true e =
        let q : b ≡ a = eqb-true b a e in
        rw (eq-eqb (φ b) (φ a) (ap φ q)) q
    same b l false e = rw (ne_eqb (φ b) (φ a) (λ x. eqb-false b a e (one b a l k x))) refl
