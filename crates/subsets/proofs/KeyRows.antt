-- The keys of the placings read back, set by set: a node alone has its number × the weight of the set, and a child's key is added to that of those that stay.
-- All of it holds for any table and for any weights.
use Rattle.std.proofs.Common.{◌≡◌, ℕ, zero, suc, ◌+◌, ◌-◌, ◌*◌, ◌^◌, ◌<◌, ◌≤◌, Bool, true, false, eqb, sym, refl, ap, ◌∙◌, ap₂, arith, eqb-true}
use native.Mathlib.Decide.{le_ind}
use borrow.Author.Tests.{eqb-false}
use Rattle.finite.specs.Below.{only}
use Rattle.finite.proofs.Booleans.{clash}
use Rattle.finite.proofs.Sums.{sum_ext, sum_add, sum_zero}
use Rattle.subsets.specs.Sets.{has}
use Rattle.subsets.specs.Inner.Net.{Falls, Net}
use Rattle.subsets.specs.Inner.Splits.{largest_below}
use Rattle.subsets.specs.Inner.Rows.{child}
use Rattle.subsets.specs.Inner.Back.{stays, seat}
use Rattle.subsets.specs.Inner.Keys.{weight, key, high, low, key_at, key_parts, last_child}
use Rattle.subsets.proofs.Sets.{Sub, sub_and, sub_has, has_minus, has_past}
use Rattle.subsets.proofs.Join.{mix}
use Rattle.subsets.proofs.Rows.{child_parent}
use Rattle.subsets.proofs.Back.{seat_end, seat_pass, seat_mix, seat_below, seat_bare, seat_ext}
use Rattle.subsets.proofs.Keys.{Above, key_ext, key_own}

-- the key of a mix of two placings is the sum of theirs
pub key_mix : (r : ℕ) (w : ℕ → ℕ) (x a : ℕ) (f g : ℕ → ℕ) → x < 2 ^ r → Sub a x → key r w x (mix a f g) ≡ key r w a f + key r w (x - a) g
unfolding key only
key_mix r w x a f g hx s =
    sum_ext r _ _ (λ i k. go i k (has a i) refl (has x i) refl)
    ∙ sum_add r (λ i. only (has a i) (f i * w i)) (λ i. only (has (x - a) i) (g i * w i))
  where
    go : (i : ℕ) → i < r → (t : Bool) → has a i ≡ t → (u : Bool) → has x i ≡ u
        → only (has x i) (mix a f g i * w i) ≡ only (has a i) (f i * w i) + only (has (x - a) i) (g i * w i)
    go i k true e true q = rw (has_minus r x a i hx s k, q, e) (omega arith)
    go i k true e false q = clash (sym (sub_has a x i s e) ∙ q)
    go i k false e true q = rw (has_minus r x a i hx s k, q, e) (omega arith)
    go i k false e false q = rw (has_minus r x a i hx s k, q, e) (omega arith)

-- the empty set has no key
pub key_empty : (r : ℕ) (w : ℕ → ℕ) (π : ℕ → ℕ) → key r w 0 π ≡ 0
unfolding key only
key_empty r w π = sum_zero r _ (λ i k. ap (λ (t : Bool). only t (π i * w i)) (has_past 0 0 i (omega arith) (omega arith)))

-- ---- the last child

largest_at : (n : ℕ) (p : ℕ → Bool) → p n ≡ true → largest_below (suc n) p ≡ n
unfolding largest_below
largest_at n p e = rw (e, largest_below)

largest_pass : (n : ℕ) (p : ℕ → Bool) → p n ≡ false → largest_below (suc n) p ≡ largest_below n p
unfolding largest_below
largest_pass n p e = rw (e, largest_below)

-- a child is the last one below the number after it
pub last_child_at : (N : Net) (p k : ℕ) → child N p k ≡ true → last_child N p (suc k) ≡ k
unfolding last_child
last_child_at N p k e = largest_at k (child N p) e

-- any other node changes nothing
pub last_child_pass : (N : Net) (p k : ℕ) → child N p k ≡ false → last_child N p (suc k) ≡ last_child N p k
unfolding last_child
last_child_pass N p k e = largest_pass k (child N p) e

-- 0 says that there is none
pub last_child_none : (N : Net) (p k : ℕ) → last_child N p k ≡ 0 → (d : ℕ) → d < k → child N p d ≡ false
unfolding last_child
last_child_none N p zero e d h = absurd (omega arith)
last_child_none N p (suc k) e d h = go (child N p k) refl (last_child_none N p k)
  where
    go : (t : Bool) → child N p k ≡ t → (largest_below k (child N p) ≡ 0 → (d : ℕ) → d < k → child N p d ≡ false) → child N p d ≡ false
    go true q ih = absurd (omega (arith, (child_parent N p k q).0, largest_at k (child N p) q, e))
    go false q ih = at (eqb d k) refl
      where
        at : (t : Bool) → eqb d k ≡ t → child N p d ≡ false
        at true z = ap (child N p) (eqb-true d k z) ∙ q
        at false z = let y : (d ≡ k → ⊥) = eqb-false d k z in ih (sym (largest_pass k (child N p) q) ∙ e) d (omega arith)

-- any other number is a child below k, and no child is between the two
pub last_child_is : (N : Net) (p k : ℕ) → 0 < last_child N p k
    → (child N p (last_child N p k) ≡ true) × (last_child N p k < k) × ((d : ℕ) → last_child N p k < d → d < k → child N p d ≡ false)
unfolding last_child
last_child_is N p zero z = absurd (let y : largest_below 0 (child N p) ≡ 0 = unfold largest_below in refl in omega arith)
last_child_is N p (suc k) z = go (child N p k) refl (last_child_is N p k)
  where
    go : (t : Bool) → child N p k ≡ t
        → (0 < largest_below k (child N p) → (child N p (largest_below k (child N p)) ≡ true) × (largest_below k (child N p) < k)
        × ((d : ℕ) → largest_below k (child N p) < d → d < k → child N p d ≡ false))
        → (child N p (largest_below (suc k) (child N p)) ≡ true) × (largest_below (suc k) (child N p) < suc k)
        × ((d : ℕ) → largest_below (suc k) (child N p) < d → d < suc k → child N p d ≡ false)
    go true q ih =
        let e : largest_below (suc k) (child N p) ≡ k = largest_at k (child N p) q in
        (ap (child N p) e ∙ q, omega arith, λ d l m. absurd (omega arith))
    go false q ih =
        let e : largest_below (suc k) (child N p) ≡ largest_below k (child N p) = largest_pass k (child N p) q in
        let h = ih (omega arith) in
        let l : largest_below k (child N p) < k = h.1 in
        (ap (child N p) e ∙ h.0, omega arith, λ d i j. at d i j (eqb d k) refl h.2)
      where
        at : (d : ℕ) → largest_below (suc k) (child N p) < d → d < suc k → (t : Bool) → eqb d k ≡ t
            → ((d : ℕ) → largest_below k (child N p) < d → d < k → child N p d ≡ false) → child N p d ≡ false
        at d i j true z f = ap (child N p) (eqb-true d k z) ∙ q
        at d i j false z f = let y : (d ≡ k → ⊥) = eqb-false d k z in f d (omega (arith, largest_pass k (child N p) q)) (omega arith)

-- ---- what a key read back depends on

-- Tables that agree for all nodes whose parents are p or later, and all sets but the empty one, give the same key: a planner that has filled the entries
-- of all nodes whose parents come after p can read the keys of p's children.
pub key_at_ext : (N : Net) (w : ℕ → ℕ) → Falls N.parent → (choice choice₁ : ℕ → ℕ → ℕ) (q : ℕ)
    → ((d x : ℕ) → 0 < d → d < N.s → q ≤ N.parent d → 0 < x → x < 2 ^ N.r → choice d x ≡ choice₁ d x)
    → (p k x : ℕ) → q ≤ p → k ≤ N.s → x < 2 ^ N.r → key_at N w choice p k x ≡ key_at N w choice₁ p k x
key_at_ext N w falls choice choice₁ q same p k x hq hk hx = key_ext N.r w x _ _ (λ i l e. seat_ext N falls choice choice₁ q i same p k x hq hk hx)

-- Of the net it depends on the numbers of services and nodes and on the parents alone.
pub key_at_bare : (w : ℕ → ℕ) (N N₁ : Net) → N.r ≡ N₁.r → N.s ≡ N₁.s → N.parent ≡ N₁.parent → (choice : ℕ → ℕ → ℕ) (p k x : ℕ)
    → key_at N w choice p k x ≡ key_at N₁ w choice p k x
key_at_bare w N N₁ services nodes up choice p k x =
    key_ext N.r w x _ _ (λ i l e. seat_bare N N₁ nodes up choice p k x i) ∙ ap (λ (r : ℕ). key r w x (seat N₁ choice p k x)) services

-- So do both parts.
pub key_bare : (b h : ℕ) (N N₁ : Net) → N.r ≡ N₁.r → N.s ≡ N₁.s → N.parent ≡ N₁.parent → (choice : ℕ → ℕ → ℕ) (p k x : ℕ)
    → key_parts b h N choice p k x ≡ key_parts b h N₁ choice p k x
key_bare b h N N₁ services nodes up choice p k x =
    ap₂ (λ (y z : ℕ). record { high = y; low = z }) (at (high (b ^ h))) (at (low (b ^ h)))
  where
    at : (part : (ℕ → ℕ) → ℕ → ℕ) → key_at N (part (weight b N.r)) choice p k x ≡ key_at N₁ (part (weight b N₁.r)) choice p k x
    at part = key_at_bare (part (weight b N.r)) N N₁ services nodes up choice p k x ∙ ap (λ (r : ℕ). key_at N₁ (part (weight b r)) choice p k x) services

-- What holds of keys by any weights holds of both parts.
pub parts_ext : (b h : ℕ) (N : Net) (choice choice₁ : ℕ → ℕ → ℕ) (p k x p₁ k₁ x₁ : ℕ) → ((v : ℕ → ℕ) → key_at N v choice p k x ≡ key_at N v choice₁ p₁ k₁ x₁)
    → key_parts b h N choice p k x ≡ key_parts b h N choice₁ p₁ k₁ x₁
parts_ext b h N choice choice₁ p k x p₁ k₁ x₁ e = ap₂ (λ (y z : ℕ). record { high = y; low = z }) (e _) (e _)

module _ (N : Net) (w : ℕ → ℕ) (choice : ℕ → ℕ → ℕ) (falls : Falls N.parent) where
  -- a node alone: the weight of the set × the node
  pub key_alone : (p x : ℕ) → key_at N w choice p 0 x ≡ key N.r w x (λ i. 1) * p
  key_alone p x = key_ext N.r w x _ (λ i. p) (λ i k e. seat_end N choice falls p x i) ∙ key_own N.r w x p

  -- another's child leaves the key
  pub key_pass : (p c x : ℕ) → child N p c ≡ false → key_at N w choice p (suc c) x ≡ key_at N w choice p c x
  key_pass p c x e = key_ext N.r w x _ _ (λ i k h. seat_pass N choice falls p c x i e)

  -- a child: the key of those that stay, and that of the others on the child and all under it
  pub key_join : (p c x : ℕ) → child N p c ≡ true → c < N.s → x < 2 ^ N.r
      → key_at N w choice p (suc c) x ≡ key_at N w choice p c (stays choice c x) + key_at N w choice c N.s (x - stays choice c x)
  key_join p c x e l hx =
      ap (key N.r w x) (sym (seat_mix N choice falls p c x e l))
      ∙ key_mix N.r w x (stays choice c x) (seat N choice p c (stays choice c x)) (seat N choice c N.s (x - stays choice c x)) hx (sub_and (choice c x) x)

  -- a key read back is below k, whatever the table holds
  pub key_small : (k : ℕ) → Above k w N → (p j x : ℕ) → p < N.s → j ≤ N.s → key_at N w choice p j x < k
  key_small k small p j x hp hj = small x (seat N choice p j x) (λ i l e. seat_below N choice falls p j x i hp hj)

  -- ---- the walk over the children of a node, from the last to the first

  -- what are no children is passed over
  pub key_skip : (p j k x : ℕ) → j ≤ k → ((d : ℕ) → j ≤ d → d < k → child N p d ≡ false) → key_at N w choice p k x ≡ key_at N w choice p j x
  key_skip p j k x l h =
      le_ind (λ (n : ℕ). n ≤ k → key_at N w choice p n x ≡ key_at N w choice p j x) (λ q. refl)
      (λ n m ih q. key_pass p n x (h n m (omega arith)) ∙ ih (omega arith)) k l (omega arith)

  -- where p has no child below k, it is alone
  pub key_no_child : (p k x : ℕ) → last_child N p k ≡ 0 → key_at N w choice p k x ≡ key N.r w x (λ i. 1) * p
  key_no_child p k x e = key_skip p 0 k x (omega arith) (λ d l m. last_child_none N p k e d m) ∙ key_alone p x

  -- else its last child is joined: those that stay go on at p with the children before it, and the others are on the child
  pub key_last_child : (p k x : ℕ) → k ≤ N.s → x < 2 ^ N.r → 0 < last_child N p k → key_at N w choice p k x
      ≡ key_at N w choice p (last_child N p k) (stays choice (last_child N p k) x) + key_at N w choice (last_child N p k) N.s (x - stays choice (last_child N p k) x)
  key_last_child p k x hk hx z =
      let h = last_child_is N p k z in
      let l : last_child N p k < k = h.1 in
      key_skip p (suc (last_child N p k)) k x l (λ d l m. h.2 d l m) ∙ key_join p (last_child N p k) x h.0 (omega arith) hx
