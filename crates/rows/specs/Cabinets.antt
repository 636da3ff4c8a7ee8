-- The records of cabinets as they stand in arrays.
use Rattle.std.specs.Prelude.{ℕ, Bool, false, ◌&&◌, ◌||◌, List, leb, ltb, get_or}
use Rattle.finite.specs.Below.{only, all_below}
use Rattle.rows.specs.declared.charges.Own.{Own}
use Rattle.rows.specs.declared.charges.Link.{Link}
use Rattle.records.specs.declared.Records.{Records}

-- field i of n records; a record that isn't there has 0
abbrev pub field : ℕ → List ℕ → ℕ → ℕ
field n l i = only (ltb i n) (get_or l i 0)

-- the parent of cabinet c
abbrev pub parent_of : Records → ℕ → ℕ
parent_of k c = field k.cabinets k.parent c

-- what cabinet c lets in
unfoldable pub own_of : Records → ℕ → Own
own_of k c =
    record {
      capacity = field k.cabinets k.capacity c;
      price = field k.cabinets k.price c;
      barred = field k.cabinets k.barred c;
      joint = ltb c k.cabinets && get_or k.joint c false;
    }

-- what the link above cabinet c lets through
unfoldable pub link_of : Records → ℕ → Link
link_of k c =
    record {
      up_capacity = field k.cabinets k.up_capacity c;
      up_price = field k.cabinets k.up_price c;
      down_capacity = field k.cabinets k.down_capacity c;
      down_price = field k.cabinets k.down_price c;
    }

-- each of the first n cabinets but the root has a parent of smaller number
unfoldable pub falling : ℕ → List ℕ → Bool
falling n parent = all_below n (λ c. leb c 0 || ltb (get_or parent c 0) c)
