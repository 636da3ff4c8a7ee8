-- On any graphs: where one graph lies in another by a map of its nodes and one of its edges, both one to one, simple paths go over to simple paths, and what they load goes over with them.
use Prim.Native.Nat.{ℕ, ◌+◌, ◌≤◌, ◌<◌}
use native.Mathlib.Omega.{arith}
use mathlib.Core.Path.{◌≡◌, refl, sym, ap, ap₂, ◌∙◌, subst}
use mathlib.Core.Bool.{Bool, true, false, ◌||◌}
use mathlib.Core.List.{List, [], ◌∷◌, map}
use lib.Dec.{eqb}
use borrow.Author.Tests.{eqb-true, eqb-false, ne_eqb}
use Rattle.finite.specs.Below.{only, sum_below, any_below, sum_over}
use Rattle.finite.proofs.Booleans.{neither}
use Rattle.finite.proofs.OneToOne.{OneToOne, eqb_over}
use Rattle.finite.proofs.Sums.{sum_ext, sum_zero}
use Rattle.finite.proofs.Tests.{any_at, none_at}
use Rattle.embedding.specs.Definition1.{Graph, Walk, visits, member, Distinct, SimplePath}

-- ---- lists of numbers below n

-- every number of the list is below n
abbrev pub Within : ℕ → List ℕ → Type 0
Within n [] = Unit {0}
Within n (x ∷ l) = (x < n) × Within n l

-- sums over the two lists agree where the numbers summed do
pub sum_over_map : (n : ℕ) (φ f g : ℕ → ℕ) → ((x : ℕ) → x < n → f (φ x) ≡ g x) → (l : List ℕ) → Within n l → sum_over f (map φ l) ≡ sum_over g l
unfolding sum_over
sum_over_map n φ f g h [] w = refl
sum_over_map n φ f g h (x ∷ l) w = ap₂ (λ (a b : ℕ). a + b) (h x w.0) (sum_over_map n φ f g h l w.1)

module _ (n : ℕ) (φ : ℕ → ℕ) where
  -- a number that φ does not meet is in no list that went over
  pub member_out : (v : ℕ) → ((x : ℕ) → x < n → eqb (φ x) v ≡ false) → (l : List ℕ) → Within n l → member v (map φ l) ≡ false
  unfolding member
  member_out v h [] w = refl
  member_out v h (x ∷ l) w =
      neither (eqb v (φ x)) (member v (map φ l)) (ne_eqb v (φ x) (λ q. eqb-false (φ x) v (h x w.0) (sym q))) (member_out v h l w.1)

module _ (n : ℕ) (φ : ℕ → ℕ) (one : OneToOne n φ) where
  -- a number that went over is in the list that went over exactly when it was in the list
  pub member_over : (x : ℕ) → x < n → (l : List ℕ) → Within n l → member (φ x) (map φ l) ≡ member x l
  unfolding member
  member_over x k [] w = refl
  member_over x k (y ∷ l) w = ap₂ (λ (a b : Bool). a || b) (eqb_over n φ one x y k w.0) (member_over x k l w.1)

  -- numbers that differ still do
  distinct_over : (l : List ℕ) → Within n l → Distinct l → Distinct (map φ l)
  distinct_over [] w d = tt
  distinct_over (x ∷ l) w d = (member_over x w.0 l w.1 ∙ d.0, distinct_over l w.1 d.1)

-- ---- loads

-- What is put on φ x over there is what is put on x here, and nothing is put on a number that φ does not meet: then whatever keeps the capacities here keeps them there.
-- `t x j` says that j is put on x, and w j is what j weighs.
pub keeps_over :
    (n : ℕ) (φ : ℕ → ℕ) (q q' : ℕ) (t t' : ℕ → ℕ → Bool) (w w' room room' : ℕ → ℕ) →
    q' ≡ q →
    ((j : ℕ) → j < q → w' j ≡ w j) →
    ((x : ℕ) → x < n → room' (φ x) ≡ room x) →
    ((x : ℕ) → x < n → (j : ℕ) → j < q → t' (φ x) j ≡ t x j) →
    ((v : ℕ) → ((x : ℕ) → x < n → eqb (φ x) v ≡ false) → (j : ℕ) → j < q → t' v j ≡ false) →
    ((x : ℕ) → x < n → sum_below q (λ j. only (t x j) (w j)) ≤ room x) →
    (v : ℕ) → sum_below q' (λ j. only (t' v j) (w' j)) ≤ room' v
unfolding only
keeps_over n φ q q' t t' w w' room room' eq weights rooms same out keeps v =
    subst (λ (z : ℕ). sum_below z (λ j. only (t' v j) (w' j)) ≤ room' v) (sym eq) (go (any_below n (λ x. eqb (φ x) v)) refl)
  where
    go : (u : Bool) → any_below n (λ x. eqb (φ x) v) ≡ u → sum_below q (λ j. only (t' v j) (w' j)) ≤ room' v
    go true e =
        let h = any_at n (λ x. eqb (φ x) v) e in
        let p : φ h.0 ≡ v = eqb-true (φ h.0) v h.2 in
        subst (λ (z : ℕ). sum_below q (λ j. only (t' z j) (w' j)) ≤ room' z) p (omega (
          arith,
          keeps h.0 h.1,
          rooms h.0 h.1,
          sum_ext q (λ j. only (t' (φ h.0) j) (w' j)) (λ j. only (t h.0 j) (w j)) (λ j k. ap₂ only (same h.0 h.1 j k) (weights j k)),
        ))
    go false e =
        omega (arith, sum_zero q (λ j. only (t' v j) (w' j)) (λ j k. ap (λ (b : Bool). only b (w' j)) (out v (none_at n (λ x. eqb (φ x) v) e) j k)))

-- ---- paths

-- the edges of a walk are edges of the graph
pub edges_within : (G : Graph) (a b : ℕ) (es : List ℕ) → Walk G a es b → Within G.edges es
edges_within G a b [] w = tt
edges_within G a b (e ∷ es) w = (w.0, edges_within G (G.target e) b es w.2)

module _ (G H : Graph) (σ ε : ℕ → ℕ)
    (inside : (e : ℕ) → e < G.edges → (G.source e < G.nodes) × (G.target e < G.nodes))
    (edge : (e : ℕ) → e < G.edges → (ε e < H.edges) × (H.source (ε e) ≡ σ (G.source e)) × (H.target (ε e) ≡ σ (G.target e)))
    (one : OneToOne G.nodes σ) where
  -- a walk goes over to a walk
  walk_over : (a b : ℕ) (es : List ℕ) → Walk G a es b → Walk H (σ a) (map ε es) (σ b)
  walk_over a b [] w = ap σ w
  walk_over a b (e ∷ es) w =
      let q = edge e w.0 in
      (q.0, ap σ w.1 ∙ sym q.1, subst (λ (z : ℕ). Walk H z (map ε es) (σ b)) (sym q.2) (walk_over (G.target e) b es w.2))

  -- it meets nodes of the graph
  visits_within : (a b : ℕ) (es : List ℕ) → a < G.nodes → Walk G a es b → Within G.nodes (visits G a es)
  visits_within a b [] k w = (k, tt)
  visits_within a b (e ∷ es) k w = (k, visits_within (G.target e) b es (inside e w.0).1 w.2)

  -- and those that they go over to
  visits_over : (a b : ℕ) (es : List ℕ) → Walk G a es b → visits H (σ a) (map ε es) ≡ map σ (visits G a es)
  visits_over a b [] w = refl
  visits_over a b (e ∷ es) w =
      ap (λ (l : List ℕ). σ a ∷ l) (ap (λ (z : ℕ). visits H z (map ε es)) (edge e w.0).2 ∙ visits_over (G.target e) b es w.2)

  -- a simple path goes over to a simple path
  pub simple_over : (a b : ℕ) (es : List ℕ) → a < G.nodes → SimplePath G a es b → SimplePath H (σ a) (map ε es) (σ b)
  simple_over a b es k p = record {
    walk = walk_over a b es p.walk;
    simple = subst Distinct (sym (visits_over a b es p.walk)) (distinct_over G.nodes σ one (visits G a es) (visits_within a b es k p.walk) p.simple);
  }
