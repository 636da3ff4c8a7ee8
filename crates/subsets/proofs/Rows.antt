-- The rows in the planner's order hold the least charges: of p alone, of p with each child more, and at last of the whole tree.
use Rattle.std.proofs.Common.{◌≡◌, ℕ, zero, suc, ◌+◌, ◌-◌, ◌^◌, ◌<◌, ◌≤◌, Bool, true, false, eqb, ltb, sym, refl, ◌∙◌, subst, arith, ltb-true, lt-ltb, eq-eqb, eqb-true}
use Rattle.finite.proofs.Booleans.{both, both_l, both_r}
use Rattle.subsets.specs.Costs.{Cost}
use Rattle.subsets.specs.Inner.Net.{Falls}
use Rattle.subsets.specs.Tree.{under, part, before}
use Rattle.subsets.specs.Inner.Net.{Net, Least}
use Rattle.subsets.specs.Inner.Splits.{split_charge, least_split}
use Rattle.subsets.specs.Inner.Rows.{child, grown, whole, row_at}
use Rattle.subsets.proofs.Subsets.{subset_ext}
use Rattle.subsets.proofs.Charges.{Least-ext, base}
use Rattle.subsets.proofs.Join.{join}
use Rattle.subsets.proofs.Parts.{part_alone, part_other, part_child, part_whole, part_root, beside}

-- a child's parent, and that it is not the root
pub child_parent : (N : Net) (p c : ℕ) → child N p c ≡ true → (0 < c) × (N.parent c ≡ p)
child_parent N p c e = (ltb-true 0 c (both_l (ltb 0 c) _ e), eqb-true (N.parent c) p (both_r (ltb 0 c) _ e))

-- a node but the root is its parent's child
pub child_of : (N : Net) (c : ℕ) → 0 < c → child N (N.parent c) c ≡ true
child_of N c z = both (ltb 0 c) _ (lt-ltb 0 c z) (eq-eqb (N.parent c) (N.parent c) refl)

module _ (N : Net) where
  pub grown_child : (done : ℕ → ℕ → Cost) (p k x : ℕ) → child N p k ≡ true → grown N done p (suc k) x ≡ least_split (grown N done p k) (done k) (N.link k) x
  unfolding grown
  grown_child done p k x e = rw (e, grown)

  pub grown_other : (done : ℕ → ℕ → Cost) (p k x : ℕ) → child N p k ≡ false → grown N done p (suc k) x ≡ grown N done p k x
  unfolding grown
  grown_other done p k x e = rw (e, grown)

  split_ext : (f f₁ g g₁ l : ℕ → Cost) (x : ℕ) → ((a : ℕ) → f a ≡ f₁ a) → ((a : ℕ) → g a ≡ g₁ a) → least_split f g l x ≡ least_split f₁ g₁ l x
  split_ext f f₁ g g₁ l x p q = subset_ext (split_charge f g l x) (split_charge f₁ g₁ l x) x (λ a s. rw (p a, q (x - a)))

  module _ (falls : Falls N.parent) where
    -- a row depends on the whole rows of its children alone
    grown_ext : (done done₁ : ℕ → ℕ → Cost) (p k x : ℕ) → ((c y : ℕ) → p < c → c < k → done c y ≡ done₁ c y) → grown N done p k x ≡ grown N done₁ p k x
    unfolding grown
    grown_ext done done₁ p zero x h = refl
    grown_ext done done₁ p (suc k) x h = go (child N p k) refl (λ y. grown_ext done done₁ p k y (λ c y l m. h c y l (omega arith)))
      where
        go : (t : Bool) → child N p k ≡ t → ((y : ℕ) → grown N done p k y ≡ grown N done₁ p k y) → grown N done p (suc k) x ≡ grown N done₁ p (suc k) x
        go true e ih =
            let q = child_parent N p k e in
            let l : N.parent k < k = falls k q.0 in
            let m : p < k = omega (arith, q.1) in
            grown_child done p k x e ∙ split_ext _ _ (done k) (done₁ k) (N.link k) x ih (λ y. h k y m (omega arith)) ∙ sym (grown_child done₁ p k x e)
        go false e ih = grown_other done p k x e ∙ ih x ∙ sym (grown_other done₁ p k x e)

    -- as many generations as there are nodes from c on are enough
    whole_more : (n c x : ℕ) → c < N.s → N.s ≤ c + n → whole N n c x ≡ whole N (suc n) c x
    unfolding whole
    whole_more zero c x h k = absurd (omega arith)
    whole_more (suc n) c x h k = grown_ext (whole N n) (whole N (suc n)) c N.s x (λ d y l m. whole_more n d y m (omega arith))

    -- a child's whole row is its row with all its children
    pub row_whole : (c x : ℕ) → c < N.s → whole N N.s c x ≡ row_at N c N.s x
    unfolding row_at whole
    row_whole c x h = whole_more N.s c x h (omega arith)

    -- ---- the steps of the planner: a row alone, a child joined, another's child passed over

    -- a row starts as what its node charges
    pub row_alone : (p x : ℕ) → row_at N p 0 x ≡ N.node p x
    unfolding row_at grown
    row_alone p x = refl

    -- a child's row is joined by the least over splits
    pub row_join : (p c x : ℕ) → child N p c ≡ true → c < N.s → row_at N p (suc c) x ≡ least_split (row_at N p c) (row_at N c N.s) (N.link c) x
    unfolding row_at
    row_join p c x e h = grown_child (whole N N.s) p c x e ∙ split_ext _ _ _ _ (N.link c) x (λ a. refl) (λ a. row_whole c a h)

    -- another's child leaves the row
    pub row_pass : (p c x : ℕ) → child N p c ≡ false → row_at N p (suc c) x ≡ row_at N p c x
    unfolding row_at
    row_pass p c x e = grown_other (whole N N.s) p c x e

    -- ---- the rows hold the least charges

    -- one node's row, where those of its children are right
    node_least : (p : ℕ) → p < N.s
        → ((c x : ℕ) → p < c → c < N.s → x < 2 ^ N.r → Least N (under N.parent c) c x (row_at N c N.s x))
        → (k x : ℕ) → k ≤ N.s → x < 2 ^ N.r → Least N (part N.parent p k) p x (row_at N p k x)
    node_least p hp below zero x hk hx =
        Least-ext N (λ d. eqb d p) (part N.parent p 0) p x _ (λ d l. sym (part_alone N.parent p d))
        (subst (Least N (λ d. eqb d p) p x) (sym (row_alone p x)) (base N p x hp hx))
    node_least p hp below (suc c) x hk hx = go (child N p c) refl (λ y hy. node_least p hp below c y (omega arith) hy)
      where
        joins : 0 < c → N.parent c ≡ p → ((y : ℕ) → y < 2 ^ N.r → Least N (part N.parent p c) p y (row_at N p c y))
            → Least N (part N.parent p (suc c)) p x (least_split (row_at N p c) (row_at N c N.s) (N.link c) x)
        joins z q ih =
            let l : N.parent c < c = falls c z in
            subst (λ (p : ℕ). ((y : ℕ) → y < 2 ^ N.r → Least N (part N.parent p c) p y (row_at N p c y))
            → Least N (part N.parent p (suc c)) p x (least_split (row_at N p c) (row_at N c N.s) (N.link c) x)) q
            (λ ih. Least-ext N _ _ (N.parent c) x _ (λ d j. sym (part_child N c d z))
            (join N falls (before N.parent c) (N.parent c) c (beside N falls c z (omega arith)) (row_at N (N.parent c) c) (row_at N c N.s) ih
            (λ b hb. below c b (omega arith) (omega arith) hb) x hx)) ih

        go : (t : Bool) → child N p c ≡ t → ((y : ℕ) → y < 2 ^ N.r → Least N (part N.parent p c) p y (row_at N p c y))
            → Least N (part N.parent p (suc c)) p x (row_at N p (suc c) x)
        go true e ih =
            let q = child_parent N p c e in
            subst (Least N (part N.parent p (suc c)) p x) (sym (row_join p c x e (omega arith))) (joins q.0 q.1 ih)
        go false e ih =
            subst (Least N (part N.parent p (suc c)) p x) (sym (row_pass p c x e))
            (Least-ext N _ _ p x _ (λ d j. sym (part_other N.parent p c d e)) (ih x hx))

    -- from the last node up
    least_from : (n p : ℕ) → p < N.s → N.s ≤ p + n → (k x : ℕ) → k ≤ N.s → x < 2 ^ N.r → Least N (part N.parent p k) p x (row_at N p k x)
    least_from zero p hp hn = absurd (omega arith)
    least_from (suc n) p hp hn =
        node_least p hp (λ c x l m hx.
        Least-ext N (part N.parent c N.s) (under N.parent c) c x _ (λ d j. part_whole N.parent falls N.s c d j)
        (least_from n c m (omega arith) N.s x (omega arith) hx))

    -- After its children below k are joined, the row of p is the least charge of p, those children and all under them.
    pub row_least : (p k x : ℕ) → p < N.s → k ≤ N.s → x < 2 ^ N.r → Least N (part N.parent p k) p x (row_at N p k x)
    row_least p k x hp hk hx = least_from N.s p hp (omega arith) k x hk hx

    -- Before c is joined, its parent's row is the least charge of exactly 01's part before c.
    pub row_before : (c x : ℕ) → 0 < c → c < N.s → x < 2 ^ N.r → Least N (before N.parent c) (N.parent c) x (row_at N (N.parent c) c x)
    row_before c x z h hx = row_least (N.parent c) c x (omega (arith, falls c z)) (omega arith) hx

    -- With all its children, the row of c is the least charge of all that is under c.
    pub row_under : (c x : ℕ) → c < N.s → x < 2 ^ N.r → Least N (under N.parent c) c x (row_at N c N.s x)
    row_under c x h hx = Least-ext N _ _ c x _ (λ d j. part_whole N.parent falls N.s c d j) (row_least c N.s x h (omega arith) hx)

    -- At the end the root's row is the least charge over all placings on the whole tree.
    pub row_root : (x : ℕ) → 0 < N.s → x < 2 ^ N.r → Least N (λ d. true) 0 x (row_at N 0 N.s x)
    row_root x h hx = Least-ext N _ _ 0 x _ (λ d j. part_root N.parent falls N.s d j) (row_least 0 N.s x h (omega arith) hx)
