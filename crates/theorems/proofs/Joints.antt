-- The work behind the page on joints.
use Prim.Native.Nat.{ℕ, ◌<◌}
use native.Mathlib.Omega.{arith}
use mathlib.Core.Path.{◌≡◌, sym, ap, ap₂, ◌∙◌}
use mathlib.Core.Bool.{Bool, true, false, ◌&&◌, not, and-false}
use mathlib.Core.List.{List}
use lib.Dec.{eqb}
use lib.ListN.{length}
use borrow.Author.Tests.{eqb-false, eq-eqb, lt-ltb}
use Rattle.finite.proofs.Tests.{all_stop}
use Rattle.subsets.specs.Sets.{has}
use Rattle.sheet.specs.Refusals.{refusal}
use Rattle.sheet.specs.Reading.{reading}
use Rattle.sheet.specs.Instance.{Instance, instance}
use Rattle.sheet.specs.declared.Sheet.{Sheet}
use Rattle.std.specs.Prelude.{Ok, Err}
use Rattle.sheet.proofs.Promises.{joints_by_capacity}
use Rattle.embedding.specs.Plan.{place, in_range, bars_keep, rooms_keep, joints_keep, cabinets_keep}
use Rattle.embedding.specs.Splits.{keeps}
use Rattle.embedding.proofs.Mappings.{Beyond, range_test, joints_test, valid_test}
use Rattle.embedding.proofs.Joints.{placed_off}
use Rattle.checker.specs.Check.{checked}
use Rattle.checker.proofs.Answers.{accepted_iff, accepted_reads, gets_15}

-- a plan with a service on a joint does not pass the test of the cabinets
on_joint : (I : Instance) (π : ℕ → ℕ) (i : ℕ) → i < I.r → I.joint (π i) ≡ true → cabinets_keep I π ≡ false
unfolding cabinets_keep joints_keep
on_joint I π i k e = ap (λ (t : Bool). rooms_keep I π && t) (sym (all_stop I.r (λ i. not (I.joint (π i))) i k (ap not e))) ∙ and-false (rooms_keep I π)

module _ (bytes : List ℕ) where
  abbrev I : Instance
  I = instance bytes

  -- a cabinet of capacity 0 is a joint
  is_joint : (c : ℕ) → c < I.s → I.capacity c ≡ 0 → I.joint c ≡ true
  is_joint c l e = joints_by_capacity bytes c ∙ ap₂ ◌&&◌ (lt-ltb c I.s l) (eq-eqb (I.capacity c) 0 e)

  -- and one that is no joint has another capacity
  has_capacity : (c : ℕ) → c < I.s → I.joint c ≡ false → 0 < I.capacity c
  has_capacity c l e =
      let t : eqb (I.capacity c) 0 ≡ false = sym (joints_by_capacity bytes c ∙ ap (λ (t : Bool). t && eqb (I.capacity c) 0) (lt-ltb c I.s l)) ∙ e in
      let z = eqb-false (I.capacity c) 0 t in
      omega (arith, z)

  -- a plan with a service on a cabinet of capacity 0
  pub refused : (h : Sheet) → reading bytes ≡ Ok h →
      (written : List ℕ) → length written ≡ I.r → in_range I (place written) ≡ true → bars_keep I (place written) ≡ true →
      (i : ℕ) → i < I.r → I.capacity (place written i) ≡ 0 → checked bytes written ≡ Err (refusal 15)
  refused h reads written places range bars i k e =
      let on = is_joint (place written i) ((range_test I (place written)).0 range i k) e in
      gets_15 bytes h reads written places range bars (on_joint I (place written) i k on)

  -- a plan that is accepted
  pub accepted : (written : List ℕ) (n : ℕ) → checked bytes written ≡ Ok n → (i : ℕ) → i < I.r → 0 < I.capacity (place written i)
  unfolding Beyond
  accepted written n e i k =
      let r = accepted_reads bytes written n e in
      let t = (valid_test I (place written)).0 ((accepted_iff bytes r.0 r.1 written n).0 e).1 in
      has_capacity (place written i) ((range_test I (place written)).0 t.0 i k) ((joints_test I (place written)).0 t.2.2 i k)

  -- a set that is placed on a part
  pub placed : (T : ℕ → Bool) (p a : ℕ) (π : ℕ → ℕ) → keeps I T p a π ≡ true → (i : ℕ) → i < I.r → has a i ≡ true → 0 < I.capacity (π i)
  placed T p a π h i k e = let o = placed_off I T p a π h i k e in has_capacity (π i) o.0 o.1
