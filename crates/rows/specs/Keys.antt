-- Keys of placings as the tables' rows have them, one a set: each in two parts, its first digits and the others. A node's number is one digit.
use Rattle.std.specs.Prelude.{ℕ, ◌*◌, ◌/◌, ◌^◌, List, get_or}
use Rattle.subsets.specs.Costs.{none}
use Rattle.subsets.specs.Inner.Net.{Net}
use Rattle.subsets.specs.Inner.Keys.{weight, key, high, low}
use Rattle.subsets.specs.declared.Key.{Key}
use Rattle.sheet.specs.Limits.{max_services, max_cabinets}
use Rattle.rows.specs.Cabinets.{parent_of}
use Rattle.rows.specs.declared.keys.Weight.{Weight}
use Rattle.records.specs.declared.Records.{Records}

-- digits are below this
abbrev pub base : ℕ
base = max_cabinets

-- so many digits are the low part of a key
abbrev pub low_digits : ℕ
low_digits = max_services / 2

-- the key of a placing of nothing
abbrev pub no_key : Key
no_key = record { high = 0; low = 0 }

-- the key of the set x in a list of keys
abbrev pub key_in : List Key → ℕ → Key
key_in l x = get_or l x no_key

-- the key that is a weight once over
abbrev pub weight_key : Weight → Key
weight_key w = record { high = w.high; low = w.low }

-- the weight of the set x in a list of weights, as a key
abbrev pub weight_at : List Weight → ℕ → Key
weight_at l x = weight_key (get_or l x record { high = 0; low = 0 })

-- the weight of service i of r, in both parts
abbrev pub service_weight : ℕ → ℕ → Key
service_weight r i = record { high = high (base ^ low_digits) (weight base r) i; low = low (base ^ low_digits) (weight base r) i }

-- the weight of the services of x, of r
unfoldable pub set_weight : ℕ → ℕ → Key
set_weight r x =
    record {
      high = key r (high (base ^ low_digits) (weight base r)) x (λ i. 1);
      low = key r (low (base ^ low_digits) (weight base r)) x (λ i. 1);
    }

-- a key n times over
abbrev pub times_key : Key → ℕ → Key
times_key k n = record { high = k.high * n; low = k.low * n }

-- the tree of the records, without charges
abbrev pub tree : Records → Net
tree k = record { r = k.services; s = k.cabinets; parent = parent_of k; node = λ c x. none; link = λ c x. none }
