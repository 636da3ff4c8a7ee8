-- The records of a sheet while they are loaded.
use Rattle.std.specs.Prelude.{ℕ, ◌<◌, ◌≡◌, Bool, false, List, eqb, length, get_or}
use Rattle.finite.specs.Below.{any_below}
use Rattle.subsets.specs.Sets.{has}
use Rattle.sheet.specs.Limits.{max_services, max_cabinets, max_streams}
use Rattle.sheet.specs.Instance.{Instance}
use Rattle.sheet.specs.Records.{pair_record, bars}
use Rattle.sheet.specs.declared.Sheet.{Sheet}
use Rattle.records.specs.declared.Records.{Records}
use Rattle.records.specs.Told.{max_marks}

-- the first n places of an array hold f
pub record Column (places n : ℕ) (f : ℕ → ℕ) (l : List ℕ) : Type 0 where
  pub size : length l ≡ places
  pub first : (k : ℕ) → k < n → get_or l k 0 ≡ f k

-- the records of an instance while they are loaded: i services, c cabinets and j streams are there; of barred services and joints nothing is said
pub record Loading (I : Instance) (i c j : ℕ) (x : Records) : Type 0 where
  pub services : x.services ≡ I.r
  pub cabinets : x.cabinets ≡ I.s
  pub streams : x.streams ≡ I.q
  pub demand : Column max_services i I.demand x.demand
  pub parent : Column max_cabinets c I.parent x.parent
  pub capacity : Column max_cabinets c I.capacity x.capacity
  pub price : Column max_cabinets c I.price x.price
  pub up_capacity : Column max_cabinets c I.up_capacity x.up_capacity
  pub up_price : Column max_cabinets c I.up_price x.up_price
  pub down_capacity : Column max_cabinets c I.down_capacity x.down_capacity
  pub down_price : Column max_cabinets c I.down_price x.down_price
  pub from : Column max_streams j I.from x.from
  pub to : Column max_streams j I.to x.to
  pub load : Column max_streams j I.load x.load

-- records with other sets of barred services, and other joints
abbrev pub barring : Records → List ℕ → List Bool → Records
barring k sets joints =
    record {
      services = k.services;
      cabinets = k.cabinets;
      streams = k.streams;
      demand = k.demand;
      parent = k.parent;
      capacity = k.capacity;
      price = k.price;
      up_capacity = k.up_capacity;
      up_price = k.up_price;
      down_capacity = k.down_capacity;
      down_price = k.down_price;
      barred = sets;
      joint = joints;
      from = k.from;
      to = k.to;
      load = k.load;
    }

-- the sets of barred services once n pairs of the sheet were read
pub record Barring (h : Sheet) (bytes : List ℕ) (n : ℕ) (sets : List ℕ) : Type 0 where
  pub size : length sets ≡ max_cabinets
  pub members : (i c : ℕ) → has (get_or sets c 0) i ≡ any_below n (λ k. bars (pair_record h bytes k) i c)

-- the marks of the joints once n cabinets were seen: a joint has capacity 0
pub record Jointed (capacity : List ℕ) (n : ℕ) (marks : List Bool) : Type 0 where
  pub size : length marks ≡ max_marks
  pub marked : (c : ℕ) → c < n → get_or marks c false ≡ eqb (get_or capacity c 0) 0
