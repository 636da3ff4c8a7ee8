-- A choice table, whatever it holds, to be read back; and the tree by each node's last child and the sibling before each node.
use Rattle.std.specs.Prelude.{ℕ, ◌*◌, ◌^◌, ◌≤◌, ◌<◌, ◌≡◌, true, List, length, get_or}
use Rattle.subsets.specs.Inner.Net.{Net, Falls}
use Rattle.subsets.specs.Inner.Keys.{last_child}
use Rattle.sheet.specs.Limits.{max_services, max_cabinets}
use Rattle.rows.specs.Cabinets.{falling}
use Rattle.rows.specs.Keys.{weight_at, set_weight}
use Rattle.rows.specs.declared.children.Children.{Children}
use Rattle.rows.specs.declared.keys.Placings.{Placings}
use Rattle.rows.specs.declared.keys.Weight.{Weight}

-- the nodes below c are linked to the siblings before them, and each node to the last of its children below c; 0 says that there is none
pub record Linked (N : Net) (c : ℕ) (lists : Children) : Type 0 where
  pub lasts : (d : ℕ) → d < N.s → get_or lists.last d 0 ≡ last_child N d c
  pub priors : (d : ℕ) → 0 < d → d < c → get_or lists.prior d 0 ≡ last_child N (N.parent d) d

-- the lists of n cabinets with these parents, which are those of a tree
pub record ListsOf (n : ℕ) (parents : List ℕ) (lists : Children) : Type 0 where
  pub tested : falling n parents ≡ true
  pub linked : (N : Net) → N.s ≡ n → ((c : ℕ) → 0 < c → c < n → get_or parents c 0 ≡ N.parent c) → Linked N n lists

-- the list has the weight of each set below size
abbrev pub Weighted : ℕ → ℕ → List Weight → Type 0
Weighted r size weights = (y : ℕ) → y < size → weight_at weights y ≡ set_weight r y

-- c is the last child of p below k, or 0, and the key of a set of the table's is asked for
pub record Started (N : Net) (size k p c x : ℕ) : Type 0 where
  pub node : p < N.s
  pub inside : k ≤ N.s
  pub first : c ≡ last_child N p k
  pub set : x < size

-- what reading keys back relies on: a tree within the limits, its lists, its table and the weights of the sets
pub record Readable (N : Net) (size : ℕ) (u : List ℕ) (lists : Children) (weights : List Weight) : Type 0 where
  pub falls : Falls N.parent
  pub nodes : N.s ≤ max_cabinets
  pub services : N.r ≤ max_services
  pub row_size : size ≡ 2 ^ N.r
  pub choices : N.s * size ≤ length u
  pub links : Linked N N.s lists
  pub weighted : Weighted N.r size weights
  pub weights_length : size ≤ length weights

-- these can be read back on the tree N
abbrev pub Reads : Net → Placings → Type 0
Reads N s = Readable N s.size s.choices.now s.children.now s.weights.now
