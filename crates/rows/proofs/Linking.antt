-- The children linked one after the other, while every parent has a smaller number than its child.
use Prim.Native.Nat.{ℕ, zero, suc, ◌+◌, ◌≤◌, ◌<◌}
use native.Mathlib.Omega.{arith}
use mathlib.Core.Path.{◌≡◌, refl, sym, ap, ◌∙◌, subst}
use mathlib.Core.Bool.{Bool, true, false, ◌||◌}
use mathlib.Core.List.{List}
use lib.Dec.{eqb, ltb, leb}
use lib.ListN.{length, get_or, set, replicate, length-replicate, get_or-replicate, length-set}
use lib.Seq.{get_or-set_same, get_or-set_other}
use borrow.Author.Tests.{eqb-true, eqb-false, eq-eqb, lt-ltb, le-leb, lt-leb, le-ltb}
use Rattle.finite.specs.Below.{all_below}
use Rattle.finite.proofs.Booleans.{both, both_r, is_false, either_l, either_r, neither}
use Rattle.finite.proofs.Tests.{all_in, all_at, all_next, all_stop}
use Rattle.sheet.specs.Limits.{max_cabinets}
use Rattle.subsets.specs.Inner.Net.{Net}
use Rattle.subsets.specs.Inner.Rows.{child}
use Rattle.subsets.specs.Inner.Splits as splits
use Rattle.subsets.specs.Inner.Keys as keys
use Rattle.subsets.specs.Inner.Keys.{last_child}
use Rattle.subsets.proofs.KeyRows.{last_child_at, last_child_pass}
use Rattle.rows.specs.Cabinets.{falling}
use Rattle.rows.specs.Reads.{Linked, ListsOf}
use Rattle.rows.specs.declared.children.Children.{Children}

no_child : (N : Net) (d : ℕ) → last_child N d 1 ≡ 0
no_child N d = last_child_pass N d 0 refl ∙ unfold keys.last_child splits.largest_below in refl

-- the lists with one node more, of parent p
abbrev pub linked_to : Children → ℕ → ℕ → ℕ → Children
linked_to lists c p v = record { last = set lists.last p v; prior = set lists.prior c (get_or lists.last p 0) }

module _ (N : Net) (c p v : ℕ) (lists : Children) (some_node : 0 < c) (parent : p ≡ N.parent c) (same : v ≡ c) (up : p < c)
    (in_tree : p < N.s) (last_place : p < length lists.last) (prior_place : c < length lists.prior) where
  more : c + 1 ≡ suc c
  more = omega arith

  next_last : (d : ℕ) → get_or lists.last d 0 ≡ last_child N d c → (t : Bool) → eqb d p ≡ t → get_or (set lists.last p v) d 0 ≡ last_child N d (c + 1)
  next_last d h true e =
      let q : d ≡ p = eqb-true d p e in
      ap (λ (y : ℕ). get_or (set lists.last p v) y 0) q ∙ get_or-set_same lists.last p v 0 last_place ∙ same
      ∙ sym (ap (last_child N d) more ∙ last_child_at N d c (both (ltb 0 c) _ (lt-ltb 0 c some_node) (eq-eqb (N.parent c) d (sym parent ∙ sym q))))
  next_last d h false e =
      let q : (d ≡ p → ⊥) = eqb-false d p e in
      get_or-set_other lists.last p d v 0 q ∙ h
      ∙ sym (ap (last_child N d) more ∙ last_child_pass N d c (is_false (child N d c) (λ t. q (sym (parent ∙ eqb-true (N.parent c) d (both_r (ltb 0 c) _ t))))))

  next_prior : Linked N c lists → (d : ℕ) → 0 < d → d < c + 1 → (t : Bool) → eqb d c ≡ t
      → get_or (set lists.prior c (get_or lists.last p 0)) d 0 ≡ last_child N (N.parent d) d
  next_prior L d y k true e =
      let q : d ≡ c = eqb-true d c e in
      subst (λ (d : ℕ). get_or (set lists.prior c (get_or lists.last p 0)) d 0 ≡ last_child N (N.parent d) d) (sym q)
      (get_or-set_same lists.prior c (get_or lists.last p 0) 0 prior_place ∙ L.lasts p in_tree ∙ ap (λ (y : ℕ). last_child N y c) parent)
  next_prior L d y k false e =
      let q : (d ≡ c → ⊥) = eqb-false d c e in
      get_or-set_other lists.prior c d (get_or lists.last p 0) 0 q ∙ L.priors d y (omega arith)

  linked_next : Linked N c lists → Linked N (c + 1) (linked_to lists c p v)
  linked_next L = record {
    lasts = λ d k. next_last d (L.lasts d k) (eqb d p) refl;
    priors = λ d y k. next_prior L d y k (eqb d c) refl;
  }

-- ---- the lists of n nodes, of which those below c are linked and have parents of smaller numbers

abbrev falls : List ℕ → ℕ → Bool
falls parents c = leb c 0 || ltb (get_or parents c 0) c

pub record Begun (n : ℕ) (parents : List ℕ) (lists : Children) (c : ℕ) : Type 0 where
  pub last_places : length lists.last ≡ max_cabinets
  pub prior_places : length lists.prior ≡ max_cabinets
  pub fall : all_below c (falls parents) ≡ true
  pub linked : (N : Net) → N.s ≡ n → ((d : ℕ) → 0 < d → d < n → get_or parents d 0 ≡ N.parent d) → Linked N c lists

abbrev zeros : List ℕ
zeros = replicate max_cabinets 0

-- nothing is linked yet
pub begin : (n : ℕ) (parents : List ℕ) → n ≤ max_cabinets → Begun n parents (record { last = zeros; prior = zeros }) 1
begin n parents small = record {
  last_places = length-replicate {A = ℕ} max_cabinets 0;
  prior_places = length-replicate {A = ℕ} max_cabinets 0;
  fall = all_in 1 (falls parents) (λ d h. either_l (leb d 0) _ (le-leb d 0 (omega arith)));
  linked = λ N e H. record {
    lasts = λ d h. get_or-replicate {A = ℕ} max_cabinets d 0 0 (omega arith) ∙ sym (no_child N d);
    priors = λ d z h. absurd (omega arith);
  };
}

-- one node more
pub step : (n c p v : ℕ) (parents : List ℕ) (lists : Children) → n ≤ max_cabinets → 1 ≤ c → c < n → p ≡ get_or parents c 0 → p < c → v ≡ c → Begun n parents lists c
    → Begun n parents (linked_to lists c p v) (c + 1)
step n c p v parents lists small z h e up same B =
    let l : length lists.last ≡ max_cabinets = B.last_places in
    let m : length lists.prior ≡ max_cabinets = B.prior_places in
    record {
      last_places = length-set lists.last p v ∙ l;
      prior_places = length-set lists.prior c (get_or lists.last p 0) ∙ m;
      fall = all_next c (falls parents) B.fall (either_r (leb c 0) _ (lt-ltb (get_or parents c 0) c (omega arith)));
      linked = λ N s H. linked_next N c p v lists z (e ∙ H c z h) same up (omega arith) (omega arith) (omega arith) (B.linked N s H);
    }

-- a parent does not fall
pub stopped : (n c p : ℕ) (parents : List ℕ) → 1 ≤ c → c < n → p ≡ get_or parents c 0 → c ≤ p → falling n parents ≡ false
unfolding falling
stopped n c p parents z h e up =
    sym (all_stop n (falls parents) c h (neither (leb c 0) _ (lt-leb c 0 z) (le-ltb (get_or parents c 0) c (omega arith))))

linked_all : (N : Net) (n c : ℕ) (lists : Children) → N.s ≡ n → n ≤ c → (1 ≤ n → c ≤ n) → Linked N c lists → Linked N n lists
linked_all N zero c lists s h k L = record { lasts = λ d l. absurd (omega arith); priors = λ d z l. absurd (omega arith) }
linked_all N (suc n) c lists s h k L = subst (λ (c : ℕ). Linked N c lists) (let q : c ≡ suc n = omega (arith, k (omega arith)) in q) L

-- all n nodes are linked
pub finish : (n c : ℕ) (parents : List ℕ) (lists : Children) → n ≤ c → (1 ≤ n → c ≤ n) → Begun n parents lists c → ListsOf n parents lists
unfolding falling
finish n c parents lists h k B = record {
  tested = all_in n (falls parents) (λ d l. all_at c (falls parents) B.fall d (omega arith));
  linked = λ N s H. linked_all N n c lists s h k (B.linked N s H);
}
