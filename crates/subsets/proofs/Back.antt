-- The placing read back from any table ends on a node of the tree, and from a table of winning splits it meets the least charge.
use Rattle.std.proofs.Common.{◌≡◌, ℕ, zero, suc, ◌+◌, ◌-◌, ◌^◌, ◌<◌, ◌≤◌, Bool, true, false, ◌&&◌, eqb, ltb, sym, refl, ap, ◌∙◌, subst, ap₂, arith, eq-eqb}
use mathlib.Core.Path.{fun_ext}
use lib.Bits.{bit_and, and_le_r}
use Rattle.subsets.specs.Sets.{has}
use Rattle.subsets.specs.Costs.{Cost, some}
use Rattle.subsets.specs.Inner.Totals.{◌⊕◌}
use Rattle.subsets.specs.Tree.{under, part, before}
use Rattle.subsets.specs.Inner.Net.{Falls, Net}
use Rattle.subsets.specs.Inner.Join.{joined}
use Rattle.subsets.specs.Inner.Splits.{least_subset, split_charge}
use Rattle.subsets.specs.Inner.Rows.{child, row_at, choice_at}
use Rattle.subsets.specs.Inner.Back.{stays, walk, descent, seat, Wins, Meets}
use Rattle.subsets.proofs.Costs.{⊕-parts}
use Rattle.subsets.proofs.Sets.{Sub, sub_and, sub_le}
use Rattle.subsets.proofs.Subsets.{winner_sub, winner_wins}
use Rattle.subsets.proofs.Charges.{charge_part, alone}
use Rattle.subsets.proofs.Join.{mix, mix_sits, mix_charge}
use Rattle.subsets.proofs.Parts.{part_alone, part_other, part_child, part_whole, part_root, beside}
use Rattle.subsets.proofs.Rows.{child_parent, child_of, row_alone, row_join, row_pass}

Meets-ext : (N : Net) (T U : ℕ → Bool) (v x : ℕ) (f : Cost) (π : ℕ → ℕ) → ((d : ℕ) → d < N.s → T d ≡ U d) → Meets N T v x f π → Meets N U v x f π
Meets-ext N T U v x f π e M = record {
  sits = λ i k m. let h : (T (π i) ≡ true) × (π i < N.s) = M.sits i k m in (sym (e (π i) h.1) ∙ h.0, h.1);
  cost = sym (charge_part N T U v x e π) ∙ M.cost;
}

module _ (N : Net) (choice : ℕ → ℕ → ℕ) where
  walk_stay : (down : ℕ → ℕ → ℕ → ℕ) (p k x i : ℕ) → child N p k ≡ true → has (stays choice k x) i ≡ true
      → walk N choice down p (suc k) x i ≡ walk N choice down p k (stays choice k x) i
  unfolding walk
  walk_stay down p k x i e h = rw (e, walk, h, walk)

  walk_leave : (down : ℕ → ℕ → ℕ → ℕ) (p k x i : ℕ) → child N p k ≡ true → has (stays choice k x) i ≡ false
      → walk N choice down p (suc k) x i ≡ down k (x - stays choice k x) i
  unfolding walk
  walk_leave down p k x i e h = rw (e, walk, h, walk)

  walk_pass : (down : ℕ → ℕ → ℕ → ℕ) (p k x i : ℕ) → child N p k ≡ false → walk N choice down p (suc k) x i ≡ walk N choice down p k x i
  unfolding walk
  walk_pass down p k x i e = rw (e, walk)

-- ---- what a walk depends on

-- the entry of the empty set is read as the empty set, whatever it is
stays_same : (choice choice₁ : ℕ → ℕ → ℕ) (c x : ℕ) → (0 < x → choice c x ≡ choice₁ c x) → stays choice c x ≡ stays choice₁ c x
stays_same choice choice₁ c zero h = let a = and_le_r (choice c 0) 0 in let b = and_le_r (choice₁ c 0) 0 in omega arith
stays_same choice choice₁ c (suc x) h = ap (λ (a : ℕ). bit_and a (suc x)) (h (omega arith))

-- the entries of p's children for the sets that it meets, but the empty one, and what lies below those children; of the net the parents alone
walk_same : (N N₁ : Net) → N.parent ≡ N₁.parent → (choice choice₁ : ℕ → ℕ → ℕ) (down down₁ : ℕ → ℕ → ℕ → ℕ) (p i m k : ℕ)
    → ((c y : ℕ) → child N p c ≡ true → c < k → y < m → (0 < y → choice c y ≡ choice₁ c y) × (down c y i ≡ down₁ c y i))
    → (x : ℕ) → x < m → walk N choice down p k x i ≡ walk N₁ choice₁ down₁ p k x i
unfolding walk
walk_same N N₁ up choice choice₁ down down₁ p i m zero h x hx = refl
walk_same N N₁ up choice choice₁ down down₁ p i m (suc k) h x hx =
    go (child N p k) refl (walk_same N N₁ up choice choice₁ down down₁ p i m k (λ c y e l. h c y e (omega arith)))
  where
    go : (t : Bool) → child N p k ≡ t → ((y : ℕ) → y < m → walk N choice down p k y i ≡ walk N₁ choice₁ down₁ p k y i)
        → walk N choice down p (suc k) x i ≡ walk N₁ choice₁ down₁ p (suc k) x i
    go true e ih = at (has (stays choice k x) i) refl
      where
        child₁ : child N₁ p k ≡ true
        child₁ = ap (λ (f : ℕ → ℕ). ltb 0 k && eqb (f k) p) (sym up) ∙ e

        entry : stays choice k x ≡ stays choice₁ k x
        entry = stays_same choice choice₁ k x (h k x e (omega arith) hx).0

        at : (t : Bool) → has (stays choice k x) i ≡ t → walk N choice down p (suc k) x i ≡ walk N₁ choice₁ down₁ p (suc k) x i
        at true q =
            walk_stay N choice down p k x i e q ∙ ih (stays choice k x) (omega (arith, and_le_r (choice k x) x)) ∙ ap (λ (y : ℕ). walk N₁ choice₁ down₁ p k y i) entry
            ∙ sym (walk_stay N₁ choice₁ down₁ p k x i child₁ (ap (λ (y : ℕ). has y i) (sym entry) ∙ q))
        at false q =
            walk_leave N choice down p k x i e q ∙ (h k (x - stays choice k x) e (omega arith) (omega arith)).1 ∙ ap (λ (y : ℕ). down₁ k (x - y) i) entry
            ∙ sym (walk_leave N₁ choice₁ down₁ p k x i child₁ (ap (λ (y : ℕ). has y i) (sym entry) ∙ q))
    go false e ih =
        walk_pass N choice down p k x i e ∙ ih x hx ∙ sym (walk_pass N₁ choice₁ down₁ p k x i (ap (λ (f : ℕ → ℕ). ltb 0 k && eqb (f k) p) (sym up) ∙ e))

-- So does a placing read back, where the children of nodes in question are in question too.
module _ (N N₁ : Net) (nodes : N.s ≡ N₁.s) (up : N.parent ≡ N₁.parent) (choice choice₁ : ℕ → ℕ → ℕ) (In : ℕ → Type 0) (i m top : ℕ) (all : N.s ≤ top)
    (same : (p c y : ℕ) → In p → child N p c ≡ true → c < top → y < m → In c × (0 < y → choice c y ≡ choice₁ c y)) where
  descent_same : (n p x : ℕ) → In p → x < m → descent N choice n p x i ≡ descent N₁ choice₁ n p x i
  unfolding descent
  descent_same zero p x hp hx = refl
  descent_same (suc n) p x hp hx =
      walk_same N N₁ up choice choice₁ (descent N choice n) (descent N₁ choice₁ n) p i m N.s
      (λ c y e l hy. let z = same p c y hp e (omega arith) hy in (z.1, descent_same n c y z.0 hy)) x hx
      ∙ ap (λ (k : ℕ). walk N₁ choice₁ (descent N₁ choice₁ n) p k x i) nodes

  seat_same : (p k x : ℕ) → In p → k ≤ top → x < m → seat N choice p k x i ≡ seat N₁ choice₁ p k x i
  unfolding seat
  seat_same p k x hp hk hx =
      walk_same N N₁ up choice choice₁ (descent N choice N.s) (descent N₁ choice₁ N.s) p i m k
      (λ c y e l hy. let z = same p c y hp e (omega arith) hy in (z.1, descent_same N.s c y z.0 hy)) x hx
      ∙ ap (λ (n : ℕ). walk N₁ choice₁ (descent N₁ choice₁ n) p k x i) nodes

-- A placing read back depends on the number of nodes and the parents alone.
pub seat_bare : (N N₁ : Net) → N.s ≡ N₁.s → N.parent ≡ N₁.parent → (choice : ℕ → ℕ → ℕ) (p k x i : ℕ) → seat N choice p k x i ≡ seat N₁ choice p k x i
seat_bare N N₁ nodes up choice p k x i =
    seat_same N N₁ nodes up choice choice (λ c. 0 ≤ c) i (suc x) (N.s + k) (omega arith) (λ p c y h e l m. (omega arith, λ z. refl)) p k x (omega arith) (omega arith) (omega arith)

-- From p it reads only the entries of nodes whose parents are p or later, and none of the empty set.
pub seat_ext : (N : Net) → Falls N.parent → (choice choice₁ : ℕ → ℕ → ℕ) (q i : ℕ)
    → ((d x : ℕ) → 0 < d → d < N.s → q ≤ N.parent d → 0 < x → x < 2 ^ N.r → choice d x ≡ choice₁ d x)
    → (p k x : ℕ) → q ≤ p → k ≤ N.s → x < 2 ^ N.r → seat N choice p k x i ≡ seat N choice₁ p k x i
seat_ext N falls choice choice₁ q i same =
    seat_same N N refl refl choice choice₁ (λ c. q ≤ c) i (2 ^ N.r) N.s (omega arith) (λ p c y h e l hy.
    let w = child_parent N p c e in
    (omega (arith, falls c w.0, w.1), λ z. same c y w.0 l (omega (arith, w.1)) z hy))

-- And it reads only entries of nodes and sets that are there.
pub seat_table : (N : Net) (choice choice₁ : ℕ → ℕ → ℕ) → ((c x : ℕ) → c < N.s → 0 < x → x < 2 ^ N.r → choice c x ≡ choice₁ c x)
    → (p k x i : ℕ) → k ≤ N.s → x < 2 ^ N.r → seat N choice p k x i ≡ seat N choice₁ p k x i
seat_table N choice choice₁ same p k x i hk hx =
    seat_same N N refl refl choice choice₁ (λ c. 0 ≤ c) i (2 ^ N.r) N.s (omega arith) (λ p c y h e l hy. (omega arith, λ z. same c y l z hy)) p k x (omega arith) hk hx

module _ (N : Net) (choice : ℕ → ℕ → ℕ) (falls : Falls N.parent) where
  above : (p k : ℕ) → child N p k ≡ true → p < k
  above p k e = let q = child_parent N p k e in omega (arith, falls k q.0, q.1)

  -- more generations than there are nodes change nothing
  descent_more : (n p x i : ℕ) → p < N.s → N.s ≤ p + n → descent N choice n p x i ≡ descent N choice (suc n) p x i
  unfolding descent
  descent_more zero p x i h k = absurd (omega arith)
  descent_more (suc n) p x i h k =
      walk_same N N refl choice choice (descent N choice n) (descent N choice (suc n)) p i (suc x) N.s
      (λ c y e l m. (λ z. refl, descent_more n c y i l (omega (arith, above p c e)))) x (omega arith)

  -- ---- the steps of the walk

  -- past all children: here
  pub seat_end : (p x i : ℕ) → seat N choice p 0 x i ≡ p
  unfolding seat walk
  seat_end p x i = refl

  -- another's child is passed over
  pub seat_pass : (p c x i : ℕ) → child N p c ≡ false → seat N choice p (suc c) x i ≡ seat N choice p c x i
  unfolding seat
  seat_pass p c x i e = walk_pass N choice (descent N choice N.s) p c x i e

  -- a service that stays goes on at p with those that stay
  pub seat_stay : (p c x i : ℕ) → child N p c ≡ true → has (stays choice c x) i ≡ true → seat N choice p (suc c) x i ≡ seat N choice p c (stays choice c x) i
  unfolding seat
  seat_stay p c x i e h = walk_stay N choice (descent N choice N.s) p c x i e h

  -- any other goes to the child with the rest
  pub seat_leave : (p c x i : ℕ) → child N p c ≡ true → c < N.s → has (stays choice c x) i ≡ false
      → seat N choice p (suc c) x i ≡ seat N choice c N.s (x - stays choice c x) i
  unfolding seat
  seat_leave p c x i e l h =
      walk_leave N choice (descent N choice N.s) p c x i e h ∙ descent_more N.s c (x - stays choice c x) i l (omega arith) ∙ unfold descent in refl

  -- so a step over a child is a mix of two placings
  pub seat_mix : (p c x : ℕ) → child N p c ≡ true → c < N.s
      → mix (stays choice c x) (seat N choice p c (stays choice c x)) (seat N choice c N.s (x - stays choice c x)) ≡ seat N choice p (suc c) x
  seat_mix p c x e l = fun_ext (λ i. go i (has (stays choice c x) i) refl)
    where
      go : (i : ℕ) (t : Bool) → has (stays choice c x) i ≡ t
          → mix (stays choice c x) (seat N choice p c (stays choice c x)) (seat N choice c N.s (x - stays choice c x)) i ≡ seat N choice p (suc c) x i
      go i true h = rw h (sym (seat_stay p c x i e h))
      go i false h = rw h (sym (seat_leave p c x i e l h))

  -- ---- any table

  seat_node : (p i : ℕ) → p < N.s → ((c x : ℕ) → p < c → c < N.s → seat N choice c N.s x i < N.s) → (k x : ℕ) → k ≤ N.s → seat N choice p k x i < N.s
  seat_node p i hp deep zero x hk = rw (seat_end p x i) hp
  seat_node p i hp deep (suc k) x hk = go (child N p k) (has (stays choice k x) i) refl refl (λ y. seat_node p i hp deep k y (omega arith))
    where
      go : (s t : Bool) → child N p k ≡ s → has (stays choice k x) i ≡ t → ((y : ℕ) → seat N choice p k y i < N.s) → seat N choice p (suc k) x i < N.s
      go true true e q ih = rw (seat_stay p k x i e q) (ih (stays choice k x))
      go true false e q ih = rw (seat_leave p k x i e (omega arith) q) (deep k (x - stays choice k x) (above p k e) (omega arith))
      go false t e q ih = rw (seat_pass p k x i e) (ih x)

  seat_from : (n p i : ℕ) → p < N.s → N.s ≤ p + n → (k x : ℕ) → k ≤ N.s → seat N choice p k x i < N.s
  seat_from zero p i hp hn = absurd (omega arith)
  seat_from (suc n) p i hp hn = seat_node p i hp (λ c x l m. seat_from n c i m (omega arith) N.s x (omega arith))

  -- Whatever the table holds, every service ends on a node of the tree.
  pub seat_below : (p k x i : ℕ) → p < N.s → k ≤ N.s → seat N choice p k x i < N.s
  seat_below p k x i hp hk = seat_from N.s p i hp (omega arith) k x hk

  -- ---- a table of winning splits

  module _ (wins : Wins N choice) where
    -- the placings of one child and of the part before it make one of the part after it
    glue : (c x n : ℕ) → 0 < c → c < N.s → x < 2 ^ N.r → row_at N (N.parent c) (suc c) x ≡ some n
        → ((y m : ℕ) → y < 2 ^ N.r → row_at N (N.parent c) c y ≡ some m → Meets N (before N.parent c) (N.parent c) y (row_at N (N.parent c) c y) (seat N choice (N.parent c) c y))
        → ((y m : ℕ) → y < 2 ^ N.r → row_at N c N.s y ≡ some m → Meets N (part N.parent c N.s) c y (row_at N c N.s y) (seat N choice c N.s y))
        → Meets N (part N.parent (N.parent c) (suc c)) (N.parent c) x (row_at N (N.parent c) (suc c) x) (seat N choice (N.parent c) (suc c) x)
    glue c x n z l hx e P Q =
        let a : ℕ = stays choice c x in
        let sa : Sub a x = sub_and (choice c x) x in
        let w = wins c x n z l hx e in
        let s = ⊕-parts (row_at N (N.parent c) c a ⊕ row_at N c N.s (x - a)) (N.link c (x - a)) n (w ∙ e) in
        let t = ⊕-parts (row_at N (N.parent c) c a) (row_at N c N.s (x - a)) s.0 s.2 in
        subst (Meets N (part N.parent (N.parent c) (suc c)) (N.parent c) x (row_at N (N.parent c) (suc c) x)) (seat_mix (N.parent c) c x (child_of N c z) l)
        (Meets-ext N (joined N (before N.parent c) c) _ (N.parent c) x _ _ (λ d j. sym (part_child N c d z))
        (made a sa w (P a t.0 (omega (arith, sub_le a x sa)) t.2)
        (Meets-ext N _ (under N.parent c) c (x - a) _ _ (λ d j. part_whole N.parent falls N.s c d j) (Q (x - a) t.1 (omega arith) t.3))))
      where
        made : (a : ℕ) → Sub a x → split_charge (row_at N (N.parent c) c) (row_at N c N.s) (N.link c) x a ≡ row_at N (N.parent c) (suc c) x
            → Meets N (before N.parent c) (N.parent c) a (row_at N (N.parent c) c a) (seat N choice (N.parent c) c a)
            → Meets N (under N.parent c) c (x - a) (row_at N c N.s (x - a)) (seat N choice c N.s (x - a))
            → Meets N (joined N (before N.parent c) c) (N.parent c) x (row_at N (N.parent c) (suc c) x) (mix a (seat N choice (N.parent c) c a) (seat N choice c N.s (x - a)))
        made a sa w P Q = record {
          sits = mix_sits N falls (before N.parent c) (N.parent c) c (beside N falls c z l) x hx a sa _ _ P.sits Q.sits;
          cost = mix_charge N falls (before N.parent c) (N.parent c) c (beside N falls c z l) x hx a sa _ _ P.sits Q.sits
              ∙ ap₂ (λ (y z : Cost). (y ⊕ z) ⊕ N.link c (x - a)) P.cost Q.cost ∙ w;
        }

    -- the placings read back at p, over its children below k
    abbrev Read : ℕ → ℕ → Type 0
    Read p k = (x n : ℕ) → x < 2 ^ N.r → row_at N p k x ≡ some n → Meets N (part N.parent p k) p x (row_at N p k x) (seat N choice p k x)

    meets_alone : (p : ℕ) → p < N.s → Read p 0
    meets_alone p hp x m hx e =
        Meets-ext N (λ d. eqb d p) (part N.parent p 0) p x _ _ (λ d j. sym (part_alone N.parent p d)) (record {
          sits = λ i j h. rw (seat_end p x i) (eq-eqb p p refl, hp);
          cost = alone N p x (seat N choice p 0 x) hp hx (λ i j h. rw (seat_end p x i) (eq-eqb p p refl)) ∙ sym (row_alone N falls p x);
        })

    meets_pass : (p c : ℕ) → child N p c ≡ false → Read p c → Read p (suc c)
    meets_pass p c q ih x m hx e =
        let o : row_at N p (suc c) x ≡ row_at N p c x = row_pass N falls p c x q in
        let same : seat N choice p c x ≡ seat N choice p (suc c) x = fun_ext (λ i. sym (seat_pass p c x i q)) in
        subst (Meets N (part N.parent p (suc c)) p x (row_at N p (suc c) x)) same
        (subst (λ (f : Cost). Meets N (part N.parent p (suc c)) p x f (seat N choice p c x)) (sym o)
        (Meets-ext N (part N.parent p c) (part N.parent p (suc c)) p x _ _ (λ d j. sym (part_other N.parent p c d q)) (ih x m hx (sym o ∙ e))))

    meets_join : (p c : ℕ) → c < N.s → child N p c ≡ true → Read c N.s → Read p c → Read p (suc c)
    meets_join p c l q deep ih =
        let w = child_parent N p c q in
        subst (λ (p : ℕ). Read p c → Read p (suc c)) w.1 (λ ih x n hx e. glue c x n w.0 l hx e ih deep) ih

    meets_node : (p : ℕ) → p < N.s → ((c : ℕ) → p < c → c < N.s → Read c N.s) → (k : ℕ) → k ≤ N.s → Read p k
    meets_node p hp deep zero hk = meets_alone p hp
    meets_node p hp deep (suc c) hk = go (child N p c) refl (meets_node p hp deep c (omega arith))
      where
        go : (t : Bool) → child N p c ≡ t → Read p c → Read p (suc c)
        go true q ih = meets_join p c (omega arith) q (deep c (above p c q) (omega arith)) ih
        go false q ih = meets_pass p c q ih

    meets_from : (n p : ℕ) → p < N.s → N.s ≤ p + n → (k : ℕ) → k ≤ N.s → Read p k
    meets_from zero p hp hn = absurd (omega arith)
    meets_from (suc n) p hp hn = meets_node p hp (λ c l m. meets_from n c m (omega arith) N.s (omega arith))

    -- From a table of winners, the placing read back for any node and set meets the least charge.
    pub seat_meets : (p k x n : ℕ) → p < N.s → k ≤ N.s → x < 2 ^ N.r → row_at N p k x ≡ some n → Meets N (part N.parent p k) p x (row_at N p k x) (seat N choice p k x)
    seat_meets p k x n hp hk hx e = meets_from N.s p hp (omega arith) k hk x n hx e

    -- From the root it is a placing on the whole tree.
    pub seat_root : (x n : ℕ) → 0 < N.s → x < 2 ^ N.r → row_at N 0 N.s x ≡ some n → Meets N (λ d. true) 0 x (row_at N 0 N.s x) (seat N choice 0 N.s x)
    seat_root x n h hx e = Meets-ext N _ (λ d. true) 0 x _ _ (λ d j. part_root N.parent falls N.s d j) (seat_meets 0 N.s x n h (omega arith) hx e)

-- The table that the planner fills holds winning splits.
pub choice_wins : (N : Net) → Falls N.parent → Wins N (choice_at N)
unfolding choice_at
choice_wins N falls c x n z l hx e =
    let F : ℕ → Cost = split_charge (row_at N (N.parent c) c) (row_at N c N.s) (N.link c) x in
    let j : row_at N (N.parent c) (suc c) x ≡ least_subset F x = row_join N falls (N.parent c) c x (child_of N c z) l in
    ap F (winner_sub F x) ∙ winner_wins F x n (sym j ∙ e) ∙ sym j
