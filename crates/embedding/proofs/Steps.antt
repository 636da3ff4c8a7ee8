-- The edge from a cabinet to a neighbour, by the numbers of the two, and what a link gives such an edge.
use Prim.Native.Nat.{ℕ, ◌<◌}
use native.Mathlib.Omega.{arith}
use mathlib.Core.Logic.{inl, inr}
use mathlib.Core.Path.{◌≡◌, sym, ap, ap₂, ◌∙◌, subst}
use mathlib.Core.Bool.{Bool, true, false}
use lib.Dec.{ltb}
use borrow.Author.Tests.{lt-ltb, le-ltb}
use Rattle.sheet.specs.Instance.{Instance, WellFormed}
use Rattle.embedding.specs.Road.{up, down, lower, edge_price, tree, road}
use Rattle.embedding.specs.Rehung.{Link, turned, Hangs, Connects}
use Rattle.embedding.proofs.Edges.{lower_pos, up_edge, down_edge, at_up, at_down, source_up, target_up, source_down, target_down, price_up, price_down, Ends, ends}

-- the edge from a to b, where they are neighbours: the one with the larger number hangs under the other
unfoldable pub step : ℕ → ℕ → ℕ
step a b = elim (ltb b a) [ true ↦ up a | false ↦ down b ]

-- to a lower number it is up
step_up : (a b : ℕ) → b < a → step a b ≡ up a
unfolding step
step_up a b h = ap (λ (t : Bool). elim t as (λ (_ : Bool). ℕ) [ true ↦ up a | false ↦ down b ]) (lt-ltb b a h)

-- to a higher one it is down
step_down : (a b : ℕ) → a < b → step a b ≡ down b
unfolding step
step_down a b h = ap (λ (t : Bool). elim t as (λ (_ : Bool). ℕ) [ true ↦ up a | false ↦ down b ]) (le-ltb b a (omega arith))

-- the capacity of an edge
abbrev pub room : Instance → ℕ → ℕ
room I e = (road I).edge_capacity e 0

-- e is an edge of the road of I, from a to b, with this capacity and price
pub record Leads (I : Instance) (e a b capacity price : ℕ) : Type 0 where
  pub edge : e < (tree I).edges
  pub source : (tree I).source e ≡ a
  pub target : (tree I).target e ≡ b
  pub capacity_is : room I e ≡ capacity
  pub price_is : edge_price I e ≡ price

-- the same under other names
pub leads_same : (I : Instance) {a a' b b' k k' n n' : ℕ} → a ≡ a' → b ≡ b' → k ≡ k' → n ≡ n' → Leads I (step a b) a b k n → Leads I (step a' b') a' b' k' n'
leads_same I p q r s l =
    let e = ap₂ step p q in
    record {
      edge = subst (λ (z : ℕ). z < (tree I).edges) e l.edge;
      source = ap (tree I).source (sym e) ∙ l.source ∙ p;
      target = ap (tree I).target (sym e) ∙ l.target ∙ q;
      capacity_is = ap (room I) (sym e) ∙ l.capacity_is ∙ r;
      price_is = ap (edge_price I) (sym e) ∙ l.price_is ∙ s;
    }

module _ (I : Instance) (W : WellFormed I) (c p : ℕ) (l : Link) (h : Hangs I c p l) (k : c < I.s) where
  -- the cabinet that it hangs under has a lower number
  above : p < c
  above = subst (λ (z : ℕ). z < c) h.parent (W.parents c h.below_root)

  -- the edge from a cabinet to the one that it hangs under
  hang_up : Leads I (step c p) c p l.up_capacity l.up_price
  hang_up =
      let e = step_up c p above in
      record {
        edge = subst (λ (z : ℕ). z < (tree I).edges) (sym e) (up_edge I c h.below_root k);
        source = ap (tree I).source e ∙ source_up I c h.below_root;
        target = ap (tree I).target e ∙ target_up I c h.below_root ∙ h.parent;
        capacity_is = ap (room I) e ∙ at_up I I.up_capacity I.down_capacity c h.below_root ∙ ap (λ (x : Link). x.up_capacity) h.by_link;
        price_is = ap (edge_price I) e ∙ price_up I c h.below_root ∙ ap (λ (x : Link). x.up_price) h.by_link;
      }

  -- and the one back
  hang_down : Leads I (step p c) p c l.down_capacity l.down_price
  hang_down =
      let e = step_down p c above in
      record {
        edge = subst (λ (z : ℕ). z < (tree I).edges) (sym e) (down_edge I c h.below_root k);
        source = ap (tree I).source e ∙ source_down I c h.below_root ∙ h.parent;
        target = ap (tree I).target e ∙ target_down I c h.below_root;
        capacity_is = ap (room I) e ∙ at_down I I.up_capacity I.down_capacity c h.below_root ∙ ap (λ (x : Link). x.down_capacity) h.by_link;
        price_is = ap (edge_price I) e ∙ price_down I c h.below_root ∙ ap (λ (x : Link). x.down_price) h.by_link;
      }

-- a link that connects two cabinets connects them the other way round, turned over
pub turn : (I : Instance) {l : Link} {a b : ℕ} → Connects I l a b → Connects I (turned l) b a
turn I (inl h) = inr h
turn I (inr h) = inl h

-- so where a link connects two cabinets there is an edge from the one to the other
pub connected : (I : Instance) → WellFormed I → (l : Link) (a b : ℕ) → Connects I l a b → a < I.s → b < I.s → Leads I (step a b) a b l.up_capacity l.up_price
connected I W l a b (inl h) j k = hang_up I W a b l h j
connected I W l a b (inr h) j k = hang_down I W b a (turned l) h k

-- two edges with the same ends are the same
pub same_ends : (I : Instance) → WellFormed I → (e f : ℕ) → (tree I).source e ≡ (tree I).source f → (tree I).target e ≡ (tree I).target f → e ≡ f
same_ends I W e f s t = go (ends I e) (ends I f)
  where
    go : Ends I e → Ends I f → e ≡ f
    go (inl p) (inl q) = p.0 ∙ ap up (sym p.1 ∙ s ∙ q.1) ∙ sym q.0
    go (inr p) (inr q) = p.0 ∙ ap down (sym p.2 ∙ t ∙ q.2) ∙ sym q.0
    go (inl p) (inr q) =
        absurd (omega (arith, W.parents (lower e) (lower_pos e), W.parents (lower f) (lower_pos f), p.1, p.2, q.1, q.2))
    go (inr p) (inl q) =
        absurd (omega (arith, W.parents (lower e) (lower_pos e), W.parents (lower f) (lower_pos f), p.1, p.2, q.1, q.2))
