-- What the instance of an accepted sheet is beyond well-formed: it has nothing but the sheet's records. Calls that write a sheet rely on it.
use Rattle.std.specs.Prelude.{ℕ, ◌≤◌, ◌≡◌, ◌&&◌, eqb, ltb}
use Rattle.sheet.specs.Instance.{Instance}

-- a field that is 0 from number n on
abbrev pub Ends : ℕ → (ℕ → ℕ) → Type 0
Ends n f = (d : ℕ) → n ≤ d → f d ≡ 0

-- every field of a record that isn't there is 0
pub record Padded (I : Instance) : Type 0 where
  pub demand : Ends I.r I.demand
  pub parent : Ends I.s I.parent
  pub capacity : Ends I.s I.capacity
  pub price : Ends I.s I.price
  pub up_capacity : Ends I.s I.up_capacity
  pub up_price : Ends I.s I.up_price
  pub down_capacity : Ends I.s I.down_capacity
  pub down_price : Ends I.s I.down_price
  pub from : Ends I.q I.from
  pub to : Ends I.q I.to
  pub load : Ends I.q I.load

-- the joints are the cabinets of capacity 0 that are there
abbrev pub ByCapacity : Instance → Type 0
ByCapacity I = (c : ℕ) → I.joint c ≡ ltb c I.s && eqb (I.capacity c) 0

-- both, and the root's parent is the number that says that it has none
pub record Said (I : Instance) : Type 0 where
  pub padded : Padded I
  pub root_parent : I.parent 0 ≡ 65535
  pub joints : ByCapacity I
