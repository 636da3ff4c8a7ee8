-- Locality: the row of a node depends only on what the nodes and links under it charge. So where two nets differ at one node e alone, the rows, choices and
-- counts of all nodes off the path from e to the root are the same.
use Rattle.std.proofs.Common.{◌≡◌, ℕ, zero, suc, ◌-◌, ◌^◌, ◌<◌, Bool, true, false, cond, ◌&&◌, eqb, ltb, sym, refl, ap, ◌∙◌, subst, ap₂, arith, ne_eqb}
use Rattle.finite.proofs.Booleans.{clash, is_false}
use Rattle.subsets.specs.Costs.{Cost, some, is_some}
use Rattle.subsets.specs.Tree.{under}
use Rattle.subsets.specs.Inner.Totals.{◌⊕◌}
use Rattle.subsets.specs.Inner.Net.{Falls, Net}
use Rattle.subsets.specs.Inner.Splits.{split_charge}
use Rattle.subsets.specs.Inner.Rows.{child, grown, whole, row_at, choice_at}
use Rattle.subsets.specs.Inner.Count.{pairs, flagged}
use Rattle.subsets.specs.Inner.Keys.{weight, key, times, ordered}
use Rattle.subsets.specs.Inner.Kept.{kept_choice}
use Rattle.subsets.specs.Inner.Local.{Differ, Off}
use Rattle.subsets.proofs.Subsets.{subset_ext, winner_ext}
use Rattle.subsets.proofs.Tree.{under_refl, under_up, under_trans}
use Rattle.subsets.proofs.Rows.{child_parent, child_of, grown_child, grown_other}
use Rattle.subsets.proofs.Count.{pairs_ext}

-- splits of the same charges cost the same
split_all : (f f₁ g g₁ l l₁ : ℕ → Cost) (x : ℕ) → ((a : ℕ) → f a ≡ f₁ a) → ((a : ℕ) → g a ≡ g₁ a) → ((a : ℕ) → l a ≡ l₁ a) → (a : ℕ) → split_charge f g l x a ≡ split_charge f₁ g₁ l₁ x a
split_all f f₁ g g₁ l l₁ x p q o a = ap₂ (λ (y z : Cost). y ⊕ z) (ap₂ (λ (y z : Cost). y ⊕ z) (p a) (q (x - a))) (o (x - a))

module _ (N N₁ : Net) (e : ℕ) (falls : Falls N.parent) (D : Differ e N N₁) where
  -- a node off the path is not e
  pub off_other : (c : ℕ) → Off N e c → c ≡ e → ⊥
  off_other c o q = clash (sym (under_refl N.parent e) ∙ subst (Off N e) q o)

  -- a child of a node off the path is off the path
  pub off_child : (p c : ℕ) → Off N e p → child N p c ≡ true → Off N e c
  off_child p c o h =
      let w = child_parent N p c h in
      is_false (under N.parent c e) (λ u. clash (sym (under_trans N.parent falls p c e (up w.0 w.1) u) ∙ o))
    where
      up : 0 < c → N.parent c ≡ p → under N.parent p c ≡ true
      up z q = under_up N.parent falls p c z (subst (λ (v : ℕ). under N.parent p v ≡ true) (sym q) (under_refl N.parent p))

  -- both have the same children
  pub same_child : (p c : ℕ) → child N p c ≡ child N₁ p c
  same_child p c = ap (λ (v : ℕ). ltb 0 c && eqb v p) (D.parents c)

  grown_local : (done done₁ : ℕ → ℕ → Cost) → ((c y : ℕ) → Off N e c → done c y ≡ done₁ c y)
      → (p k x : ℕ) → Off N e p → grown N done p k x ≡ grown N₁ done₁ p k x
  unfolding grown
  grown_local done done₁ h p zero x o = D.node p x (off_other p o)
  grown_local done done₁ h p (suc k) x o = go (child N p k) refl (λ y. grown_local done done₁ h p k y o)
    where
      go : (t : Bool) → child N p k ≡ t → ((y : ℕ) → grown N done p k y ≡ grown N₁ done₁ p k y) → grown N done p (suc k) x ≡ grown N₁ done₁ p (suc k) x
      go true q ih =
          let c = off_child p k o q in
          grown_child N done p k x q
          ∙ subset_ext _ _ x (λ a s. split_all _ _ (done k) (done₁ k) (N.link k) (N₁.link k) x ih (λ y. h k y c) (λ y. D.link k y (off_other k c)) a)
          ∙ sym (grown_child N₁ done₁ p k x (sym (same_child p k) ∙ q))
      go false q ih = grown_other N done p k x q ∙ ih x ∙ sym (grown_other N₁ done₁ p k x (sym (same_child p k) ∙ q))

  whole_local : (n c x : ℕ) → Off N e c → whole N n c x ≡ whole N₁ n c x
  unfolding whole
  whole_local zero c x o = refl
  whole_local (suc n) c x o =
      grown_local (whole N n) (whole N₁ n) (whole_local n) c N.s x o ∙ ap (λ (k : ℕ). grown N₁ (whole N₁ n) c k x) D.nodes

  -- The row of a node off the path is the same.
  pub row_local : (p k x : ℕ) → Off N e p → row_at N p k x ≡ row_at N₁ p k x
  unfolding row_at
  row_local p k x o =
      grown_local (whole N N.s) (whole N₁ N.s) (whole_local N.s) p k x o
      ∙ ap (λ (n : ℕ). grown N₁ (whole N₁ n) p k x) D.nodes

  -- with all its children too
  pub row_all_local : (p x : ℕ) → Off N e p → row_at N p N.s x ≡ row_at N₁ p N₁.s x
  row_all_local p x o = row_local p N.s x o ∙ ap (λ (k : ℕ). row_at N₁ p k x) D.nodes

  -- So are the choices where the parent is off the path,
  pub choice_local : (c x : ℕ) → 0 < c → Off N e (N.parent c) → choice_at N c x ≡ choice_at N₁ c x
  unfolding choice_at
  choice_local c x z o =
      let k = off_child (N.parent c) c o (child_of N c z) in
      winner_ext _ _ x (λ a s.
      split_all (row_at N (N.parent c) c) (row_at N₁ (N₁.parent c) c) _ _ (N.link c) (N₁.link c) x
      (λ y. row_local (N.parent c) c y o ∙ ap (λ (v : ℕ). row_at N₁ v c y) (D.parents c))
      (λ y. row_all_local c y k) (λ y. D.link c y (off_other c k)) a)

  -- and what is counted when such a node is joined.
  pub flags_local : (c a : ℕ) → Off N e (N.parent c) → flagged N c a ≡ flagged N₁ c a
  flags_local c a o = ap is_some (row_local (N.parent c) c a o ∙ ap (λ (v : ℕ). row_at N₁ v c a) (D.parents c))

  pub pairs_local : (c : ℕ) → Off N e (N.parent c) → pairs N.r (flagged N c) ≡ pairs N₁.r (flagged N₁ c)
  pairs_local c o = pairs_ext N.r _ _ (λ a h. flags_local c a o) ∙ ap (λ (r : ℕ). pairs r (flagged N₁ c)) D.services

-- ---- with keys

-- Two nets that differ at one node alone do so with keys too: the keys are those of the nodes' numbers.
pub differ_ordered : (b e : ℕ) (N N₁ : Net) → Differ e N N₁ → Differ e (ordered b N) (ordered b N₁)
differ_ordered b e N N₁ D = record {
  services = D.services;
  nodes = D.nodes;
  parents = D.parents;
  node = λ c x n. ap₂ (λ (r : ℕ) (y : Cost). times (b ^ r) y ⊕ some (key r (weight b r) x (λ i. c))) D.services (D.node c x n);
  link = λ c x n. ap₂ (λ (r : ℕ) (y : Cost). times (b ^ r) y) D.services (D.link c x n);
}

-- What a kept choice table has for a node whose parent is off the path is the same.
pub kept_choice_local : (b : ℕ) (N N₁ : Net) (e : ℕ) → Falls N.parent → Differ e N N₁
    → (c x : ℕ) → 0 < c → Off N e (N.parent c) → kept_choice b N c x ≡ kept_choice b N₁ c x
unfolding kept_choice
kept_choice_local b N N₁ e falls D c x z o =
    ap₂ (λ (n a : ℕ). cond (eqb x 0) n a) (pairs_local N N₁ e falls D c o)
    (choice_local (ordered b N) (ordered b N₁) e falls (differ_ordered b e N N₁ D) c x z o)

-- For any set but the empty one it is the subset that stays.
pub kept_chosen : (b : ℕ) (N : Net) (c x : ℕ) → 0 < x → kept_choice b N c x ≡ choice_at (ordered b N) c x
unfolding kept_choice
kept_chosen b N c x z = rw (ne_eqb x 0 (λ e. omega arith)) refl
