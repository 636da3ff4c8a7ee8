-- A planning sheet as an input of Definition 1: its cabinets and links are the substrate, its services and streams the request, and there is one amount.
use Rattle.std.specs.Prelude.{ℕ, ◌+◌, ◌-◌, ◌*◌, ◌/◌, ◌%◌, true, false, eqb}
use Rattle.sheet.specs.Instance.{Instance}
use Rattle.embedding.specs.Definition1.{Graph, Input}

-- the edge from a cabinet c > 0 to its parent
unfoldable pub up : ℕ → ℕ
up c = 2 * (c - 1)

-- the edge from the parent of a cabinet c > 0 to c
unfoldable pub down : ℕ → ℕ
down c = 2 * (c - 1) + 1

-- the cabinet whose link an edge belongs to
unfoldable pub lower : ℕ → ℕ
lower e = e / 2 + 1

-- the first number for an edge up, the second for an edge down
unfoldable pub by_way : ℕ → ℕ → ℕ → ℕ
by_way e a b = elim (eqb (e % 2) 0) [ true ↦ a | false ↦ b ]

module _ (I : Instance) where
  -- the price of the direction that an edge is
  unfoldable pub edge_price : ℕ → ℕ
  edge_price e = by_way e (I.up_price (lower e)) (I.down_price (lower e))

  -- the cabinets, and both directions of the link above each but the root
  abbrev pub tree : Graph
  tree = record {
    nodes = I.s;
    edges = 2 * (I.s - 1);
    source = λ e. by_way e (lower e) (I.parent (lower e));
    target = λ e. by_way e (I.parent (lower e)) (lower e);
  }

  -- the whole input
  abbrev pub road : Input
  road = record {
    substrate = tree;
    request = record { nodes = I.r; edges = I.q; source = I.from; target = I.to };
    amounts = 1;
    node_demand = λ i t. I.demand i;
    edge_demand = λ j t. I.load j;
    node_capacity = λ c t. I.capacity c;
    edge_capacity = λ e t. by_way e (I.up_capacity (lower e)) (I.down_capacity (lower e));
    node_price = λ c t. I.price c;
    edge_price = λ e t. edge_price e;
  }
