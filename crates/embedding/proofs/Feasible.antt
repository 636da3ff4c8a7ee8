-- Definition 1 on any graphs: where both sums keep the capacities, so does every single node and edge of the request. Clauses 2 and 3 of a valid mapping thus follow from the sums.
use Prim.Native.Nat.{ℕ, ◌≤◌, ◌<◌}
use native.Mathlib.Omega.{arith}
use mathlib.Core.Logic.{◌⊎◌, inl, inr}
use mathlib.Core.Path.{◌≡◌, refl, sym, subst}
use mathlib.Core.Bool.{Bool, true}
use mathlib.Core.List.{List, [], ◌∷◌}
use lib.Dec.{eqb}
use borrow.Author.Tests.{eqb-true, eq-eqb}
use Rattle.finite.specs.Below.{only, sum_below}
use Rattle.finite.proofs.Booleans.{either, clash}
use Rattle.finite.proofs.Sums.{le_sum}
use Rattle.embedding.specs.Definition1.{Graph, Input, AtMost, Walk, member, SimplePath, node_load, edge_load, Feasible}

-- the edges of a walk are edges of the graph
pub walk_edge : (G : Graph) (es : List ℕ) (a b e : ℕ) → Walk G a es b → member e es ≡ true → e < G.edges
unfolding member
walk_edge G [] a b e w h = clash (sym h)
walk_edge G (f ∷ es) a b e w h = go (either (eqb e f) (member e es) h) (walk_edge G es (G.target f) b e w.2)
  where
    go : (eqb e f ≡ true) ⊎ (member e es ≡ true) → (member e es ≡ true → e < G.edges) → e < G.edges
    go (inl q) ih = subst (λ (z : ℕ). z < G.edges) (sym (eqb-true e f q)) w.0
    go (inr q) ih = ih q

-- a number that is counted in a sum is at most the sum
counted : (n : ℕ) (t : ℕ → Bool) (f : ℕ → ℕ) (d : ℕ) → d < n → t d ≡ true → f d ≤ sum_below n (λ i. only (t i) (f i))
unfolding only
counted n t f d k h = subst (λ (b : Bool). only b (f d) ≤ sum_below n (λ i. only (t i) (f i))) h (le_sum n (λ i. only (t i) (f i)) d k)

module _ (P : Input) (m : ℕ → ℕ) (p : ℕ → List ℕ)
    (placed : (w : ℕ) → w < P.request.nodes → m w < P.substrate.nodes)
    (paths : (j : ℕ) → j < P.request.edges → SimplePath P.substrate (m (P.request.source j)) (p j) (m (P.request.target j)))
    (nodes_keep : (v : ℕ) → v < P.substrate.nodes → AtMost P.amounts (node_load P m p v) (P.node_capacity v))
    (edges_keep : (e : ℕ) → e < P.substrate.edges → AtMost P.amounts (edge_load P m p e) (P.edge_capacity e)) where
  le_node_load : (w t : ℕ) → w < P.request.nodes → P.node_demand w t ≤ node_load P m p (m w) t
  unfolding node_load
  le_node_load w t k = counted P.request.nodes (λ i. eqb (m i) (m w)) (λ i. P.node_demand i t) w k (eq-eqb (m w) (m w) refl)

  le_edge_load : (j e t : ℕ) → j < P.request.edges → member e (p j) ≡ true → P.edge_demand j t ≤ edge_load P m p e t
  unfolding edge_load
  le_edge_load j e t = counted P.request.edges (λ i. member e (p i)) (λ i. P.edge_demand i t) j

  -- a mapping along simple paths that keeps both sums is feasible
  pub sums_suffice : Feasible P m p
  sums_suffice = record {
    valid = record {
      placed = placed;
      paths = paths;
      each_node = λ w k t h. omega (arith, nodes_keep (m w) (placed w k) t h, le_node_load w t k);
      each_edge = λ j e k u t h. omega (arith, edges_keep e (walk_edge P.substrate (p j) _ _ e (paths j k).walk u) t h, le_edge_load j e t k u);
    };
    nodes_keep = nodes_keep;
    edges_keep = edges_keep;
  }
