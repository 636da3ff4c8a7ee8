-- Marking the cabinets under c in one pass: each one after c takes the mark that its parent has by then.
use Prim.Native.Nat.{ℕ, zero, suc, ◌+◌, ◌≤◌, ◌<◌}
use native.Mathlib.Omega.{arith}
use mathlib.Core.Path.{◌≡◌, refl, sym, ap, ◌∙◌}
use mathlib.Core.Bool.{Bool, true, false, ◌||◌}
use mathlib.Core.List.{List}
use lib.Dec.{eqb, ltb}
use lib.ListN.{length, get_or, set, replicate, length-set, length-replicate}
use lib.Seq.{get_or-set_same, get_or-set_other}
use borrow.Author.Tests.{eqb-true, eqb-false, ne_eqb, ltb-true, ltb-false, lt-ltb}
use Rattle.finite.specs.Below.{only}
use Rattle.subsets.specs.Inner.Net.{Falls}
use Rattle.subsets.specs.Tree.{climb, under}
use Rattle.subsets.proofs.Tree.{under_refl, under_small, under_step}
use Rattle.sheet.specs.Limits.{max_cabinets}
use Rattle.sheet.specs.Instance.{Instance, WellFormed}
use Rattle.records.proofs.Columns.{all_alike}
use Rattle.checker.specs.Loads.{lower_parent, is_under}
use Rattle.checker.specs.Inner.Records.{Marked}

-- two trees whose parents are the same below the root
climb_ext : (p q : ℕ → ℕ) → ((d : ℕ) → 0 < d → p d ≡ q d) → (k c d : ℕ) → climb p k c d ≡ climb q k c d
unfolding climb
climb_ext p q same zero c d = refl
climb_ext p q same (suc k) c zero = ap (λ (b : Bool). eqb 0 c || b) (climb_ext p q same k c 0)
climb_ext p q same (suc k) c (suc d) =
    ap (λ (b : Bool). eqb (suc d) c || b) (climb_ext p q same k c (p (suc d)) ∙ ap (climb q k c) (same (suc d) (omega arith)))

module _ (I : Instance) where
  -- a parent of smaller number is kept, any other is the root
  lower_is : (d : ℕ) → I.parent d < d → lower_parent I d ≡ I.parent d
  unfolding lower_parent only
  lower_is d h = rw (lt-ltb (I.parent d) d h) refl

  lower_root : (d : ℕ) → ltb (I.parent d) d ≡ false → lower_parent I d ≡ 0
  unfolding lower_parent only
  lower_root d h = rw h refl

  lower_falls : Falls (lower_parent I)
  lower_falls d z = go (ltb (I.parent d) d) refl
    where
      go : (t : Bool) → ltb (I.parent d) d ≡ t → lower_parent I d < d
      go true e = omega (arith, lower_is d (ltb-true (I.parent d) d e), ltb-true (I.parent d) d e)
      go false e = omega (arith, lower_root d e)

  -- in a well-formed instance this is the tree of the road
  pub is_under_tree : WellFormed I → (c d : ℕ) → is_under I c d ≡ under I.parent c d
  unfolding under
  is_under_tree W c d = climb_ext (lower_parent I) I.parent (λ e z. lower_is e (W.parents e z)) d c d

  -- between two cabinets of the pass: those below n have their marks, the others none
  pub record Marking (c : ℕ) (marks : List Bool) (n : ℕ) : Type 0 where
    pub after : c < n
    pub size : length marks ≡ max_cabinets
    pub first : (d : ℕ) → d < n → get_or marks d false ≡ is_under I c d
    pub rest : (d : ℕ) → n ≤ d → get_or marks d false ≡ false

  module _ (c : ℕ) (z : 0 < c) where
    -- the root is not under c
    off_root : is_under I c 0 ≡ false
    off_root = under_small (lower_parent I) lower_falls c 0 z

    -- a cabinet after c is under c where its parent is
    by_parent : (d : ℕ) → c < d → is_under I c d ≡ is_under I c (lower_parent I d)
    by_parent d h =
        under_step (lower_parent I) lower_falls c d (omega arith)
        ∙ ap (λ (b : Bool). b || is_under I c (lower_parent I d)) (ne_eqb d c (λ r. omega arith))

    -- before the pass only c is marked
    pub marks_start : c < max_cabinets → Marking c (set (replicate max_cabinets false) c true) (c + 1)
    marks_start h = record {
      after = omega arith;
      size = length-set (replicate max_cabinets false) c true ∙ length-replicate max_cabinets false;
      first = λ d l. go d l (eqb d c) refl;
      rest = λ d l. get_or-set_other (replicate max_cabinets false) c d true false (λ e. omega arith) ∙ all_alike max_cabinets d false;
    }
      where
        go : (d : ℕ) → d < c + 1 → (t : Bool) → eqb d c ≡ t → get_or (set (replicate max_cabinets false) c true) d false ≡ is_under I c d
        go d l true e =
            ap (λ (k : ℕ). get_or (set (replicate max_cabinets false) c true) k false) (eqb-true d c e)
            ∙ get_or-set_same (replicate max_cabinets false) c true false (omega (arith, length-replicate max_cabinets false))
            ∙ sym (under_refl (lower_parent I) c) ∙ ap (is_under I c) (sym (eqb-true d c e))
        go d l false e =
            let q : (d ≡ c → ⊥) = eqb-false d c e in
            get_or-set_other (replicate max_cabinets false) c d true false q ∙ all_alike max_cabinets d false
            ∙ sym (under_small (lower_parent I) lower_falls c d (omega arith))

    -- the next cabinet takes the mark of its parent
    pub marks_next : (marks : List Bool) (d : ℕ) (m : Bool) → d < max_cabinets → m ≡ get_or marks (I.parent d) false → Marking c marks d → Marking c (set marks d m) (d + 1)
    marks_next marks d m l e M = record {
      after = omega (arith, M.after);
      size = length-set marks d m ∙ M.size;
      first = λ k h. go k h (eqb k d) refl;
      rest = λ k h. get_or-set_other marks d k m false (λ r. omega arith) ∙ M.rest k (omega arith);
    }
      where
        own : (t : Bool) → ltb (I.parent d) d ≡ t → get_or marks (I.parent d) false ≡ is_under I c (lower_parent I d)
        own true q = M.first (I.parent d) (ltb-true (I.parent d) d q) ∙ ap (is_under I c) (sym (lower_is d (ltb-true (I.parent d) d q)))
        own false q = M.rest (I.parent d) (ltb-false (I.parent d) d q) ∙ sym (ap (is_under I c) (lower_root d q) ∙ off_root)

        go : (k : ℕ) → k < d + 1 → (t : Bool) → eqb k d ≡ t → get_or (set marks d m) k false ≡ is_under I c k
        go k h true q =
            ap (λ (k : ℕ). get_or (set marks d m) k false) (eqb-true k d q)
            ∙ get_or-set_same marks d m false (omega (arith, M.size))
            ∙ e ∙ own (ltb (I.parent d) d) refl ∙ sym (by_parent d M.after) ∙ ap (is_under I c) (sym (eqb-true k d q))
        go k h false q =
            let r : (k ≡ d → ⊥) = eqb-false k d q in
            get_or-set_other marks d k m false r ∙ M.first k (omega arith)

    -- the pass is over; a cabinet that is not there hangs from the root
    pub marks_end : (marks : List Bool) (n : ℕ) → c < I.s → ((d : ℕ) → I.s ≤ d → I.parent d ≡ 0) → n ≡ I.s → Marking c marks n → Marked I c marks
    unfolding lower_parent only
    marks_end marks n h past e M = record { size = M.size; mark = λ d. go d (ltb d n) refl }
      where
        hangs : (d : ℕ) (t : Bool) → I.s ≤ d → ltb (I.parent d) d ≡ t → lower_parent I d ≡ 0
        hangs d true l q = lower_is d (ltb-true (I.parent d) d q) ∙ past d l
        hangs d false l q = lower_root d q

        go : (d : ℕ) (t : Bool) → ltb d n ≡ t → get_or marks d false ≡ is_under I c d
        go d true q = M.first d (ltb-true d n q)
        go d false q =
            let l : n ≤ d = ltb-false d n q in
            M.rest d l ∙ sym (by_parent d (omega arith) ∙ ap (is_under I c) (hangs d (ltb (I.parent d) d) (omega arith) refl) ∙ off_root)
