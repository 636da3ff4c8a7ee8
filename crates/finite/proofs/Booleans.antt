-- Laws of Booleans: how a test that passed or failed is taken apart and put together.
use Prim.Native.Nat.{ℕ}
use native.Mathlib.Omega.{arith}
use mathlib.Core.Path.{◌≡◌, refl, sym, ◌∙◌}
use mathlib.Core.Bool.{Bool, true, false, ◌&&◌, ◌||◌}
use mathlib.Core.Logic.{◌⊎◌, inl, inr}
use Rattle.finite.specs.Below.{◌⇒◌}

-- true is not false
pub clash : {A : Type 0} → true ≡ false → A
clash e = absurd (let z : ◌≡◌ {A = ℕ} 0 1 = cc in omega arith)

pub both : (a b : Bool) → a ≡ true → b ≡ true → a && b ≡ true
both true b p q = q
both false b p q = p

pub both_l : (a b : Bool) → a && b ≡ true → a ≡ true
both_l true b p = refl
both_l false b p = p

pub both_r : (a b : Bool) → a && b ≡ true → b ≡ true
both_r true b p = p
both_r false b p = clash (sym p)

pub either : (a b : Bool) → a || b ≡ true → (a ≡ true) ⊎ (b ≡ true)
either true b p = inl refl
either false b p = inr p

pub either_l : (a b : Bool) → a ≡ true → a || b ≡ true
either_l true b p = refl
either_l false b p = clash (sym p)

pub either_r : (a b : Bool) → b ≡ true → a || b ≡ true
either_r true b p = refl
either_r false b p = p

-- neither of two tests passes
pub neither : (a b : Bool) → a ≡ false → b ≡ false → a || b ≡ false
neither true b p q = p
neither false b p q = q

pub neither_l : (a b : Bool) → a || b ≡ false → a ≡ false
neither_l true b p = p
neither_l false b p = refl

pub neither_r : (a b : Bool) → a || b ≡ false → b ≡ false
neither_r true b p = clash p
neither_r false b p = p

pub is_false : (a : Bool) → (a ≡ true → ⊥) → a ≡ false
is_false true h = absurd (h refl)
is_false false h = refl

-- two tests that pass together are the same
pub same_test : (a b : Bool) → (a ≡ true → b ≡ true) → (b ≡ true → a ≡ true) → a ≡ b
same_test true b f g = sym (f refl)
same_test false true f g = g refl
same_test false false f g = refl

pub implies : (a b : Bool) → (a ≡ true → b ≡ true) → a ⇒ b ≡ true
unfolding ◌⇒◌
implies true b h = h refl
implies false b h = refl

pub implied : (a b : Bool) → a ⇒ b ≡ true → a ≡ true → b ≡ true
unfolding ◌⇒◌
implied true b h e = h
implied false b h e = clash (sym e)

-- one more test in a row: the value v of the tests before is kept where it is true, else the value is that of the test
pub or_taken : (v a x : Bool) → v ≡ a → v ≡ true → v ≡ a || x
or_taken v true x e t = e
or_taken v false x e t = clash (sym t ∙ e)

pub or_left : (v a x : Bool) → v ≡ a → v ≡ false → x ≡ a || x
or_left v true x e t = clash (sym e ∙ t)
or_left v false x e t = refl
