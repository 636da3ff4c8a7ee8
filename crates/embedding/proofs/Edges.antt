-- Laws of the road's edges: every edge is `up c` or `down c` of one cabinet c other than the root, and what its ends are.
use Prim.Native.Nat.{ℕ, ◌+◌, ◌-◌, ◌*◌, ◌/◌, ◌%◌, ◌<◌}
use native.Mathlib.Nat.{add-zero}
use native.Mathlib.Omega.{arith}
use mathlib.Core.Logic.{◌⊎◌, inl, inr}
use mathlib.Core.Path.{◌≡◌, refl, sym, ap, ap₂, ◌∙◌}
use mathlib.Core.Bool.{Bool, true, false}
use lib.Dec.{eqb}
use borrow.Author.Tests.{eqb-true, eqb-false, eq-eqb, ne_eqb}
use Rattle.sheet.specs.Instance.{Instance, WellFormed}
use Rattle.embedding.specs.Road.{up, down, lower, by_way, edge_price, tree}

-- an even edge is up, an odd edge is down
way_even : (e a b : ℕ) → eqb (e % 2) 0 ≡ true → by_way e a b ≡ a
unfolding by_way
way_even e a b h = ap (λ (t : Bool). elim t as (λ (_ : Bool). ℕ) [ true ↦ a | false ↦ b ]) h

way_odd : (e a b : ℕ) → eqb (e % 2) 0 ≡ false → by_way e a b ≡ b
unfolding by_way
way_odd e a b h = ap (λ (t : Bool). elim t as (λ (_ : Bool). ℕ) [ true ↦ a | false ↦ b ]) h

-- of two numbers an edge up takes the first
pub way_up : (c a b : ℕ) → by_way (up c) a b ≡ a
unfolding up
way_up c a b = way_even (2 * (c - 1)) a b (eq-eqb ((2 * (c - 1)) % 2) 0 (omega arith))

-- of two numbers an edge down takes the second
pub way_down : (c a b : ℕ) → by_way (down c) a b ≡ b
unfolding down
way_down c a b = way_odd (2 * (c - 1) + 1) a b (ne_eqb ((2 * (c - 1) + 1) % 2) 0 (λ e. omega arith))

-- `up c` belongs to the link above c
pub lower_up : (c : ℕ) → 0 < c → lower (up c) ≡ c
unfolding lower up
lower_up c z = omega arith

-- `down c` belongs to the link above c
pub lower_down : (c : ℕ) → 0 < c → lower (down c) ≡ c
unfolding lower down
lower_down c z = omega arith

-- no edge belongs to the root
pub lower_pos : (e : ℕ) → 0 < lower e
unfolding lower
lower_pos e = omega arith

-- an edge is the one or the other of its cabinet
pub which : (e : ℕ) → (e ≡ up (lower e)) ⊎ (e ≡ down (lower e))
unfolding up down lower
which e = go (eqb (e % 2) 0) refl
  where
    go : (t : Bool) → eqb (e % 2) 0 ≡ t → (e ≡ 2 * (e / 2 + 1 - 1)) ⊎ (e ≡ 2 * (e / 2 + 1 - 1) + 1)
    go true h = inl (omega (arith, eqb-true (e % 2) 0 h))
    go false h = let n : (e % 2 ≡ 0 → ⊥) = eqb-false (e % 2) 0 h in inr (omega arith)

-- of different cabinets, or of different directions, edges differ
same_way : (k c d : ℕ) → 0 < c → 0 < d → eqb (2 * (c - 1) + k) (2 * (d - 1) + k) ≡ eqb c d
same_way k c d x y = go (eqb c d) refl
  where
    go : (t : Bool) → eqb c d ≡ t → eqb (2 * (c - 1) + k) (2 * (d - 1) + k) ≡ t
    go true h = eq-eqb (2 * (c - 1) + k) (2 * (d - 1) + k) (omega (arith, eqb-true c d h))
    go false h = let n : (c ≡ d → ⊥) = eqb-false c d h in ne_eqb (2 * (c - 1) + k) (2 * (d - 1) + k) (λ e. omega arith)

-- edges up are the same exactly when their cabinets are
pub up_up : (c d : ℕ) → 0 < c → 0 < d → eqb (up c) (up d) ≡ eqb c d
unfolding up
up_up c d x y = ap₂ eqb (sym (add-zero (2 * (c - 1)))) (sym (add-zero (2 * (d - 1)))) ∙ same_way 0 c d x y

-- edges down are the same exactly when their cabinets are
pub down_down : (c d : ℕ) → 0 < c → 0 < d → eqb (down c) (down d) ≡ eqb c d
unfolding down
down_down = same_way 1

-- an edge up is no edge down
pub up_down : (c d : ℕ) → eqb (up c) (down d) ≡ false
unfolding up down
up_down c d = ne_eqb (2 * (c - 1)) (2 * (d - 1) + 1) (λ e. omega arith)

-- an edge down is no edge up
pub down_up : (c d : ℕ) → eqb (down c) (up d) ≡ false
unfolding up down
down_up c d = ne_eqb (2 * (c - 1) + 1) (2 * (d - 1)) (λ e. omega arith)

module _ (I : Instance) where
  -- `up c` is an edge of the road
  pub up_edge : (c : ℕ) → 0 < c → c < I.s → up c < (tree I).edges
  unfolding up
  up_edge c z k = omega arith

  -- `down c` is an edge of the road
  pub down_edge : (c : ℕ) → 0 < c → c < I.s → down c < (tree I).edges
  unfolding down
  down_edge c z k = omega arith

  -- an edge of the road belongs to a cabinet of the road
  pub edge_lower : (e : ℕ) → e < (tree I).edges → lower e < I.s
  unfolding lower
  edge_lower e h = omega arith

  -- what belongs to `up c`, read off c
  pub at_up : (f g : ℕ → ℕ) (c : ℕ) → 0 < c → by_way (up c) (f (lower (up c))) (g (lower (up c))) ≡ f c
  at_up f g c z = way_up c _ _ ∙ ap f (lower_up c z)

  -- what belongs to `down c`, read off c
  pub at_down : (f g : ℕ → ℕ) (c : ℕ) → 0 < c → by_way (down c) (f (lower (down c))) (g (lower (down c))) ≡ g c
  at_down f g c z = way_down c _ _ ∙ ap g (lower_down c z)

  -- `up c` begins at c
  pub source_up : (c : ℕ) → 0 < c → (tree I).source (up c) ≡ c
  source_up = at_up (λ c. c) I.parent

  -- `up c` ends at the parent of c
  pub target_up : (c : ℕ) → 0 < c → (tree I).target (up c) ≡ I.parent c
  target_up = at_up I.parent (λ c. c)

  -- `down c` begins at the parent of c
  pub source_down : (c : ℕ) → 0 < c → (tree I).source (down c) ≡ I.parent c
  source_down = at_down (λ c. c) I.parent

  -- `down c` ends at c
  pub target_down : (c : ℕ) → 0 < c → (tree I).target (down c) ≡ c
  target_down = at_down I.parent (λ c. c)

  -- the price of `up c` is the up price of c
  pub price_up : (c : ℕ) → 0 < c → edge_price I (up c) ≡ I.up_price c
  unfolding edge_price
  price_up = at_up I.up_price I.down_price

  -- the price of `down c` is the down price of c
  pub price_down : (c : ℕ) → 0 < c → edge_price I (down c) ≡ I.down_price c
  unfolding edge_price
  price_down = at_down I.up_price I.down_price

  -- an edge up leads from its cabinet to the parent, an edge down from the parent to its cabinet
  abbrev pub Ends : ℕ → Type 0
  Ends e =
      ((e ≡ up (lower e)) × ((tree I).source e ≡ lower e) × ((tree I).target e ≡ I.parent (lower e)))
      ⊎ ((e ≡ down (lower e)) × ((tree I).source e ≡ I.parent (lower e)) × ((tree I).target e ≡ lower e))

  -- one of the two holds of every edge
  pub ends : (e : ℕ) → Ends e
  ends e = go (which e)
    where
      go : (e ≡ up (lower e)) ⊎ (e ≡ down (lower e)) → Ends e
      go (inl q) = inl (q, ap (tree I).source q ∙ source_up (lower e) (lower_pos e), ap (tree I).target q ∙ target_up (lower e) (lower_pos e))
      go (inr q) = inr (q, ap (tree I).source q ∙ source_down (lower e) (lower_pos e), ap (tree I).target q ∙ target_down (lower e) (lower_pos e))

-- both ends of every edge are cabinets
pub ends_inside : (I : Instance) → WellFormed I → (e : ℕ) → e < (tree I).edges → ((tree I).source e < I.s) × ((tree I).target e < I.s)
ends_inside I W e k = go (ends I e) (edge_lower I e k) (W.parents (lower e) (lower_pos e))
  where
    go : Ends I e → lower e < I.s → I.parent (lower e) < lower e → ((tree I).source e < I.s) × ((tree I).target e < I.s)
    go (inl q) h f = (omega (arith, q.1), omega (arith, q.2))
    go (inr q) h f = (omega (arith, q.1), omega (arith, q.2))
