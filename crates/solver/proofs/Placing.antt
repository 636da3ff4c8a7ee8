-- The digits of the key read back from the root are the cabinets of the services.
use Rattle.std.specs.Prelude.{◌≡◌, ℕ, suc, ◌+◌, ◌-◌, ◌/◌, ◌^◌, ◌<◌, true, leb, List, length}
use native.Mathlib.Omega.{arith}
use native.Mathlib.Nat.{div-div-eq-div-mul, pow-suc}
use mathlib.Core.Path.{refl, sym, ap, ◌∙◌}
use borrow.Author.Tests.{le-leb}
use Rattle.finite.proofs.Booleans.{both}
use Rattle.subsets.specs.Inner.Masks.{full}
use Rattle.subsets.specs.Inner.Back.{seat}
use Rattle.subsets.specs.Inner.Keys.{digit_in}
use Rattle.subsets.specs.declared.Key.{Key}
use Rattle.subsets.proofs.Back.{seat_below, seat_bare}
use Rattle.subsets.proofs.Digits.{key_digit}
use Rattle.rows.specs.Charges.{all_sums}
use Rattle.rows.specs.Keys.{base, low_digits, tree}
use Rattle.rows.specs.Rebuilds as rebuilds
use Rattle.rows.specs.Rebuilds.{entry, has_root_key, RootKey}
use Rattle.records.specs.declared.Records.{Records}
use Rattle.solver.specs.Tables.{netted, Readable}
use Rattle.solver.proofs.Sounding.{Good, good, falls}
use Rattle.solver.proofs.Filling.{all_tests}

-- a number without its last i digits, and without one more
pub next_quotient : (n i : ℕ) → n / base ^ i / base ≡ n / base ^ (i + 1)
next_quotient n i = div-div-eq-div-mul n (base ^ i) base ∙ ap (λ (z : ℕ). n / z) (sym (pow-suc base i)) ∙ ap (λ (z : ℕ). n / base ^ z) (let q : suc i ≡ i + 1 = omega arith in q)

module _ (k : Records) (o u : List ℕ) (P : Readable k o u) where
  sounds : Good k
  sounds = good k P.is_sound

  -- the tests at the head of the reading pass
  root_tests : has_root_key k (length u) ≡ true
  root_tests =
      both (leb 1 k.cabinets) _ (le-leb 1 k.cabinets sounds.some_cabinet) (all_tests k P.is_sound sounds all_sums (length u) (length u) refl P.choices P.choices)

  -- every service has a cabinet, whose number is one digit
  one_digit : (i : ℕ) → seat (tree k) (entry (2 ^ k.services) u) 0 k.cabinets (full k.services) i < base
  one_digit i =
      omega (arith, sounds.cabinets, seat_below (tree k) (entry (2 ^ k.services) u) (falls k sounds) 0 k.cabinets (full k.services) i sounds.some_cabinet (omega arith))

  -- service i of r has the digit with r - 1 - i digits after it
  pub root_digit : {a : Key} → RootKey k u a → (i : ℕ) → i < k.services
      → digit_in base low_digits a (k.services - 1 - i) ≡ seat (netted k) (entry (2 ^ k.services) u) 0 k.cabinets (full k.services) i
  unfolding rebuilds.back_key
  root_digit R i h =
      ap (λ (a : Key). digit_in base low_digits a (k.services - 1 - i)) (R.done root_tests)
      ∙ key_digit base k.services low_digits (seat (tree k) (entry (2 ^ k.services) u) 0 k.cabinets (full k.services)) (omega arith) (λ i l. one_digit i) i h
      ∙ seat_bare (tree k) (netted k) refl refl (entry (2 ^ k.services) u) 0 k.cabinets (full k.services) i
