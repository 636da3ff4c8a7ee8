-- Source document 000, section 1.3 and Definition 1 (Min-VNEP), for any directed graphs. Nodes, edges and amounts are numbered from 0, and a vector is a function of the number of an amount.
use Rattle.std.specs.Prelude.{ℕ, ◌+◌, ◌*◌, ◌≤◌, ◌<◌, ◌≡◌, Bool, true, false, ◌||◌, List, [], ◌∷◌, eqb}
use Rattle.finite.specs.Below.{only, sum_below, sum_over}

-- a directed graph: each edge leads from its source to its target
pub record Graph : Type 0 where
  pub nodes : ℕ
  pub edges : ℕ
  pub source : ℕ → ℕ
  pub target : ℕ → ℕ

-- the input: substrate S and request R, the number τ of amounts, the demands d_R, the capacities d_S and the costs c_S
pub record Input : Type 0 where
  pub substrate : Graph
  pub request : Graph
  pub amounts : ℕ
  pub node_demand : ℕ → ℕ → ℕ
  pub edge_demand : ℕ → ℕ → ℕ
  pub node_capacity : ℕ → ℕ → ℕ
  pub edge_capacity : ℕ → ℕ → ℕ
  pub node_price : ℕ → ℕ → ℕ
  pub edge_price : ℕ → ℕ → ℕ

-- a ≤ b for vectors of n amounts: a_t ≤ b_t for every t
abbrev pub AtMost : ℕ → (ℕ → ℕ) → (ℕ → ℕ) → Type 0
AtMost n a b = (t : ℕ) → t < n → a t ≤ b t

-- the edges es lead from a to b, each beginning where the one before it ends
abbrev pub Walk : Graph → ℕ → List ℕ → ℕ → Type 0
Walk G a [] b = a ≡ b
Walk G a (e ∷ es) b = (e < G.edges) × (a ≡ G.source e) × Walk G (G.target e) es b

-- the nodes that a walk from a along es meets
abbrev pub visits : Graph → ℕ → List ℕ → List ℕ
visits G a [] = a ∷ []
visits G a (e ∷ es) = a ∷ visits G (G.target e) es

-- x is in the list
unfoldable pub member : ℕ → List ℕ → Bool
member x [] = false
member x (y ∷ ys) = eqb x y || member x ys

-- no number is in the list twice
abbrev pub Distinct : List ℕ → Type 0
Distinct [] = Unit {0}
Distinct (x ∷ xs) = (member x xs ≡ false) × Distinct xs

-- a simple path from a to b: a walk that meets no node twice
pub record SimplePath (G : Graph) (a : ℕ) (es : List ℕ) (b : ℕ) : Type 0 where
  pub walk : Walk G a es b
  pub simple : Distinct (visits G a es)

-- a mapping puts each request node w on a substrate node m w and each request edge j on a simple path p j
module _ (P : Input) (m : ℕ → ℕ) (p : ℕ → List ℕ) where
  -- section 1.3, clauses 1 to 3: every single node and edge of the request finds room where it is put
  pub record Valid : Type 0 where
    pub placed : (w : ℕ) → w < P.request.nodes → m w < P.substrate.nodes
    pub paths : (j : ℕ) → j < P.request.edges → SimplePath P.substrate (m (P.request.source j)) (p j) (m (P.request.target j))
    pub each_node : (w : ℕ) → w < P.request.nodes → AtMost P.amounts (P.node_demand w) (P.node_capacity (m w))
    pub each_edge : (j e : ℕ) → j < P.request.edges → member e (p j) ≡ true → AtMost P.amounts (P.edge_demand j) (P.edge_capacity e)

  -- the sum of amount t of the demands put on the substrate node v
  unfoldable pub node_load : ℕ → ℕ → ℕ
  node_load v t = sum_below P.request.nodes (λ w. only (eqb (m w) v) (P.node_demand w t))

  -- the sum of amount t of the demands put on the substrate edge e
  unfoldable pub edge_load : ℕ → ℕ → ℕ
  edge_load e t = sum_below P.request.edges (λ j. only (member e (p j)) (P.edge_demand j t))

  -- "feasible if additionally all demands of the request nodes and edges can be fulfilled by the capacities"
  pub record Feasible : Type 0 where
    pub valid : Valid
    pub nodes_keep : (v : ℕ) → v < P.substrate.nodes → AtMost P.amounts (node_load v) (P.node_capacity v)
    pub edges_keep : (e : ℕ) → e < P.substrate.edges → AtMost P.amounts (edge_load e) (P.edge_capacity e)

  -- the cost of a mapping: demand × price, over all nodes, and over all edges and the edges of their paths
  unfoldable pub cost : ℕ
  cost =
      sum_below P.request.nodes (λ w. sum_below P.amounts (λ t. P.node_demand w t * P.node_price (m w) t))
      + sum_below P.request.edges (λ j. sum_over (λ e. sum_below P.amounts (λ t. P.edge_demand j t * P.edge_price e t)) (p j))
