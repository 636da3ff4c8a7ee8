-- What a planning sheet says, with nothing of how it is laid out. This is all that the crates above the reader know.
use Rattle.std.specs.Prelude.{ℕ, ◌≤◌, ◌<◌, ◌≡◌, Bool, true, ◌&&◌, List, eqb, ltb}
use Rattle.finite.specs.Below.{only, any_below}
use Rattle.sheet.specs.Limits.{max_services, max_cabinets, max_streams, max_amount}
use Rattle.sheet.specs.Layout.{header, service, cabinet, stream, pair}
use Rattle.sheet.specs.declared.Service.{Service}
use Rattle.sheet.specs.declared.Cabinet.{Cabinet}
use Rattle.sheet.specs.declared.Stream.{Stream}
use Rattle.sheet.specs.declared.Pair.{Pair}

-- r services, s cabinets and q streams, and each field of a record by the record's number
pub record Instance : Type 0 where
  pub r : ℕ
  pub s : ℕ
  pub q : ℕ
  -- of a service
  pub demand : ℕ → ℕ
  -- of a cabinet; "up" is the link direction from it to its parent, "down" the one from its parent to it
  pub parent : ℕ → ℕ
  pub capacity : ℕ → ℕ
  pub price : ℕ → ℕ
  pub up_capacity : ℕ → ℕ
  pub up_price : ℕ → ℕ
  pub down_capacity : ℕ → ℕ
  pub down_price : ℕ → ℕ
  -- of a stream: the services that it runs from and to, and its demand
  pub from : ℕ → ℕ
  pub to : ℕ → ℕ
  pub load : ℕ → ℕ
  -- service i is barred from cabinet c
  pub barred : ℕ → ℕ → Bool
  -- cabinet c is a joint, without a power box
  pub joint : ℕ → Bool

-- the instance of so many services, cabinets and streams, of each record by its number, of what is barred, and of which cabinets are joints; a
-- field of a record that isn't there is 0, a service that isn't there is barred from nothing, as is any service from a cabinet that isn't there,
-- and a cabinet that isn't there is no joint
abbrev pub of_records : ℕ → ℕ → ℕ → (ℕ → Service) → (ℕ → Cabinet) → (ℕ → Stream) → (ℕ → ℕ → Bool) → (ℕ → Bool) → Instance
of_records r s q service cabinet stream barred joint =
    record {
      r = r;
      s = s;
      q = q;
      demand = λ i. only (ltb i r) (service i).demand;
      parent = λ c. only (ltb c s) (cabinet c).parent;
      capacity = λ c. only (ltb c s) (cabinet c).capacity;
      price = λ c. only (ltb c s) (cabinet c).price;
      up_capacity = λ c. only (ltb c s) (cabinet c).up_capacity;
      up_price = λ c. only (ltb c s) (cabinet c).up_price;
      down_capacity = λ c. only (ltb c s) (cabinet c).down_capacity;
      down_price = λ c. only (ltb c s) (cabinet c).down_price;
      from = λ j. only (ltb j q) (stream j).from;
      to = λ j. only (ltb j q) (stream j).to;
      load = λ j. only (ltb j q) (stream j).demand;
      barred = λ i c. (ltb i r && ltb c s) && barred i c;
      joint = λ c. ltb c s && joint c;
    }

-- a pair names service i and cabinet c
unfoldable pub names : Pair → ℕ → ℕ → Bool
names p i c = eqb p.service i && eqb p.cabinet c

-- some of the first n pairs names service i and cabinet c
unfoldable pub some_names : ℕ → (ℕ → Pair) → ℕ → ℕ → Bool
some_names n pair i c = any_below n (λ k. names (pair k) i c)

-- 02 (i): a cabinet of capacity 0 is a joint
unfoldable pub is_joint : Cabinet → Bool
is_joint k = eqb k.capacity 0

-- the instance of a sheet: a service is barred from a cabinet where some pair names both, and a cabinet is a joint by its record
unfoldable pub instance : List ℕ → Instance
instance bytes =
    of_records (header bytes).services (header bytes).cabinets (header bytes).streams
    (service (header bytes) bytes) (cabinet (header bytes) bytes) (stream (header bytes) bytes)
    (some_names (header bytes).pairs (pair (header bytes) bytes))
    (λ c. is_joint (cabinet (header bytes) bytes c))

-- every number of a family is at most 10,000
abbrev pub Amounts : (ℕ → ℕ) → Type 0
Amounts f = (n : ℕ) → f n ≤ max_amount

-- what the reader promises of the instance of every accepted sheet
pub record WellFormed (I : Instance) : Type 0 where
  pub services : I.r ≤ max_services
  pub some_cabinet : 1 ≤ I.s
  pub cabinets : I.s ≤ max_cabinets
  pub streams : I.q ≤ max_streams
  pub demands : Amounts I.demand
  pub parents : (c : ℕ) → 0 < c → I.parent c < c
  pub capacities : Amounts I.capacity
  pub prices : Amounts I.price
  pub up_capacities : Amounts I.up_capacity
  pub up_prices : Amounts I.up_price
  pub down_capacities : Amounts I.down_capacity
  pub down_prices : Amounts I.down_price
  pub loads : Amounts I.load
  pub from_service : (j : ℕ) → j < I.q → I.from j < I.r
  pub to_service : (j : ℕ) → j < I.q → I.to j < I.r
  pub ends_differ : (j : ℕ) → j < I.q → I.from j ≡ I.to j → ⊥
  pub root_links :
      (I.up_capacity 0 ≡ 0) × (I.up_price 0 ≡ 0) × (I.down_capacity 0 ≡ 0) × (I.down_price 0 ≡ 0)
  pub bars : (i c : ℕ) → I.barred i c ≡ true → (i < I.r) × (c < I.s)
