-- Tests that decide whether something holds, put together from tests of its parts.
use Prim.Native.Nat.{ℕ, ◌<◌}
use mathlib.Core.Path.{◌≡◌, refl, sym}
use mathlib.Core.Bool.{Bool, true, false, ◌&&◌, ◌||◌, not}
use mathlib.Core.Logic.{◌↔◌, ◌⊎◌, inl, inr, ⊎_elim}
use lib.Dec.{eqb, ltb}
use borrow.Author.Tests.{ltb-true, eqb-true, lt-ltb, eq-eqb, not-true}
use Rattle.finite.specs.Below.{◌⇒◌, all_below}
use Rattle.finite.proofs.Booleans.{both, both_l, both_r, either, either_l, either_r, implies, implied}
use Rattle.finite.proofs.Tests.{all_in, all_at}

-- the test passes exactly when A holds
abbrev pub Decides : Bool → Type 0 → Type 0
Decides t A = (t ≡ true) ↔ A

-- two numbers are the same
pub equal : (m n : ℕ) → Decides (eqb m n) (m ≡ n)
equal m n = (eqb-true m n, eq-eqb m n)

-- a number is below another
pub less : (m n : ℕ) → Decides (ltb m n) (m < n)
less m n = (ltb-true m n, lt-ltb m n)

-- two tests both pass, or both fail
unfoldable pub alike : Bool → Bool → Bool
alike true b = b
alike false b = not b

-- they are the same
pub same : (a b : Bool) → Decides (alike a b) (a ≡ b)
unfolding alike
same true b = (sym, sym)
same false b = (λ e. sym (not-true b e), λ e. go b e)
  where
    go : (b : Bool) → false ≡ b → not b ≡ true
    go true e = e
    go false e = refl

module _ {a b : Bool} {A B : Type 0} (d : Decides a A) (e : Decides b B) where
  -- both hold
  pub and : Decides (a && b) (A × B)
  and = (λ h. (d.0 (both_l a b h), e.0 (both_r a b h)), λ p. both a b (d.1 p.0) (e.1 p.1))

  -- the one or the other holds
  pub or : Decides (a || b) (A ⊎ B)
  or = (λ h. ⊎_elim (λ x. inl (d.0 x)) (λ y. inr (e.0 y)) (either a b h), ⊎_elim (λ x. either_l a b (d.1 x)) (λ y. either_r a b (e.1 y)))

  -- the other holds if the one does
  pub then : Decides (a ⇒ b) (A → B)
  then = (λ h x. e.0 (implied a b h (d.1 x)), λ f. implies a b (λ x. e.1 (f (d.0 x))))

-- three tests in a row
pub and₃ : {a b c : Bool} {A B C : Type 0} → Decides a A → Decides b B → Decides c C → Decides (a && (b && c)) (A × B × C)
and₃ d e f =
    let g = and d (and e f) in
    (λ h. let x = g.0 h in (x.0, x.1.0, x.1.1), λ x. g.1 (x.0, (x.1, x.2)))

-- a test of every number below n
pub all : (n : ℕ) {p : ℕ → Bool} {P : ℕ → Type 0} → ((d : ℕ) → Decides (p d) (P d)) → Decides (all_below n p) ((d : ℕ) → d < n → P d)
all n {p = p} h = (λ e d k. (h d).0 (all_at n p e d k), λ f. all_in n p (λ d k. (h d).1 (f d k)))
