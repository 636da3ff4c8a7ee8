-- What it costs to place sets of services on a part of a tree, for any charges of nodes and links whatever.
use Rattle.std.specs.Prelude.{◌≡◌, ℕ, ◌<◌, Bool, true, not, ◌&&◌, ◌==◌, nat_eq}
use Rattle.subsets.specs.Sets.{has}
use Rattle.subsets.specs.Inner.Masks.{keep}
use Rattle.subsets.specs.Costs.{Cost, some}
use Rattle.subsets.specs.Inner.Totals.{◌⊕◌, Le, charged, total_below}
use Rattle.subsets.specs.Tree.{under}

-- every node but the root has a parent of smaller number
abbrev pub Falls : (ℕ → ℕ) → Type 0
Falls parent = (d : ℕ) → 0 < d → parent d < d

-- r services and s nodes; what node c charges for the set of services on it, and what the link above c charges for the set under c
pub record Net : Type 0 where
  pub r : ℕ
  pub s : ℕ
  pub parent : ℕ → ℕ
  pub node : ℕ → ℕ → Cost
  pub link : ℕ → ℕ → Cost

-- the services of x that the placing π puts on c
abbrev pub on : Net → (ℕ → ℕ) → ℕ → ℕ → ℕ
on N π x c = keep N.r (λ i. nat_eq (π i) c) x

-- the services of x that the placing π puts under c
abbrev pub below : Net → (ℕ → ℕ) → ℕ → ℕ → ℕ
below N π x c = keep N.r (λ i. under N.parent c (π i)) x

-- the charge of placing x by π on the part T with top v: all its nodes, and all its links but the one above v
unfoldable pub charge : Net → (ℕ → Bool) → ℕ → ℕ → (ℕ → ℕ) → Cost
charge N T v x π =
    total_below N.s (λ c. charged (T c) (N.node c (on N π x c)))
    ⊕ total_below N.s (λ c. charged (T c && not (c == v)) (N.link c (below N π x c)))

-- π puts every service of x on a node of T
abbrev pub Sits : Net → (ℕ → Bool) → ℕ → (ℕ → ℕ) → Type 0
Sits N T x π = (i : ℕ) → i < N.r → has x i ≡ true → (T (π i) ≡ true) × (π i < N.s)

-- f is the least charge of placing x on T: no placing is below it, and where it is a number some placing meets it
pub record Least (N : Net) (T : ℕ → Bool) (v x : ℕ) (f : Cost) : Type 0 where
  pub low : (π : ℕ → ℕ) → Sits N T x π → Le f (charge N T v x π)
  pub hit : (n : ℕ) → f ≡ some n → (π : ℕ → ℕ) × Sits N T x π × (charge N T v x π ≡ f)
