-- Records of a tree within the limits: what a sheet's reader promises of the records that it reads.
use Rattle.std.specs.Prelude.{ℕ, Bool, not, ◌&&◌, leb, List, ◌==◌, nat_le, nat_lt, slice_index}
use Rattle.finite.specs.Below.{all_below}
use Rattle.sheet.specs.Limits.{max_services, max_cabinets, max_streams, max_amount}
use Rattle.rows.specs.Cabinets.{falling}
use Rattle.records.specs.declared.Records.{Records}

-- the first n amounts are within the limit
unfoldable pub amounts : ℕ → List ℕ → Bool
amounts n l = all_below n (λ i. leb (slice_index l i) max_amount)

-- a stream runs between two services below r
unfoldable pub between : ℕ → ℕ → ℕ → Bool
between r from to = nat_lt from r && (nat_lt to r && not (from == to))

-- each of the first n streams does
unfoldable pub running : ℕ → ℕ → List ℕ → List ℕ → Bool
running r n from to = all_below n (λ j. between r (slice_index from j) (slice_index to j))

-- the root has no link
unfoldable pub rooted : Records → Bool
rooted k =
    ((slice_index k.up_capacity 0 == 0 && slice_index k.up_price 0 == 0) && slice_index k.down_capacity 0 == 0) && slice_index k.down_price 0 == 0

-- the amounts of cabinets
unfoldable pub cabinets_sound : Records → Bool
cabinets_sound k =
    ((((amounts k.cabinets k.capacity && amounts k.cabinets k.price) && amounts k.cabinets k.up_capacity)
    && amounts k.cabinets k.up_price) && amounts k.cabinets k.down_capacity) && amounts k.cabinets k.down_price

-- all that the records hold
unfoldable pub fields_sound : Records → Bool
fields_sound k =
    ((((amounts k.services k.demand && falling k.cabinets k.parent) && cabinets_sound k)
    && amounts k.streams k.load) && running k.services k.streams k.from k.to) && rooted k

-- with the counts
unfoldable pub sound : Records → Bool
sound k = nat_le k.services max_services && (nat_le 1 k.cabinets && (nat_le k.cabinets max_cabinets && (nat_le k.streams max_streams && fields_sound k)))
