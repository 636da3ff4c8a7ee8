-- The condition of each of the reader's refusals: 1 to 9 of 01's section "Who can cause a refusal", 18 and 19 of 02 (a).
use Rattle.std.specs.Prelude.{ℕ, ◌+◌, Bool, ◌&&◌, ◌||◌, not, cond, List, length, eqb, ltb, leb}
use Rattle.finite.specs.Below.{any_below}
use Rattle.sheet.specs.Limits.{max_services, max_cabinets, max_streams, max_pairs, max_amount}
use Rattle.sheet.specs.Layout.{header_size, length_word, service, cabinet, stream, pair, services_size, cabinets_size, streams_size, pairs_size}
use Rattle.sheet.specs.declared.Sheet.{Sheet}
use Rattle.sheet.specs.declared.Cabinet.{Cabinet}
use Rattle.sheet.specs.declared.Stream.{Stream}
use Rattle.sheet.specs.declared.Pair.{Pair}

-- 1: fewer than 16 bytes
abbrev pub too_short : List ℕ → Bool
too_short bytes = ltb (length bytes) header_size

-- 2: r, s or q outside its limits
unfoldable pub beyond_limits : Sheet → Bool
beyond_limits h =
    ltb max_services h.services
    || ltb h.cabinets 1
    || ltb max_cabinets h.cabinets
    || ltb max_streams h.streams

-- 3: the length word is not the sheet's length
abbrev pub wrong_length : List ℕ → Bool
wrong_length bytes = not (eqb (length_word bytes) (length bytes))

-- 4: a block's offset is below 16, or the block ends past the length
unfoldable pub outside : ℕ → ℕ → ℕ → Bool
outside len at size = ltb at header_size || ltb len (at + size)

unfoldable pub some_block_outside : Sheet → ℕ → Bool
some_block_outside h len =
    outside len h.services_at (services_size h)
    || outside len h.cabinets_at (cabinets_size h)
    || outside len h.streams_at (streams_size h)

-- 5: two blocks share a byte
unfoldable pub holds : ℕ → ℕ → ℕ → Bool
holds at size byte = leb at byte && ltb byte (at + size)

-- a byte of the block of m bytes at a is a byte of the block of n bytes at b
unfoldable pub share : ℕ → ℕ → ℕ → ℕ → Bool
share a m b n = any_below m (λ i. holds b n (a + i))

unfoldable pub some_blocks_share : Sheet → Bool
some_blocks_share h =
    share h.services_at (services_size h) h.cabinets_at (cabinets_size h)
    || share h.services_at (services_size h) h.streams_at (streams_size h)
    || share h.cabinets_at (cabinets_size h) h.streams_at (streams_size h)

-- 6: a demand, capacity or price above 10,000
abbrev pub too_high : ℕ → Bool
too_high amount = ltb max_amount amount

unfoldable pub cabinet_too_high : Cabinet → Bool
cabinet_too_high k =
    too_high k.capacity
    || too_high k.price
    || too_high k.up_capacity
    || too_high k.up_price
    || too_high k.down_capacity
    || too_high k.down_price

unfoldable pub some_amount_too_high : Sheet → List ℕ → Bool
some_amount_too_high h bytes =
    any_below h.services (λ i. too_high (service h bytes i).demand)
    || any_below h.cabinets (λ c. cabinet_too_high (cabinet h bytes c))
    || any_below h.streams (λ j. too_high (stream h bytes j).demand)

-- 7: a wrong parent: cabinet 0's is 65535, any other's is a smaller cabinet number
unfoldable pub wrong_parent : ℕ → Cabinet → Bool
wrong_parent c k = cond (eqb c 0) (not (eqb k.parent 65535)) (leb c k.parent)

unfoldable pub some_parent_wrong : Sheet → List ℕ → Bool
some_parent_wrong h bytes = any_below h.cabinets (λ c. wrong_parent c (cabinet h bytes c))

-- 8: a stream end is not below r, or both ends are the same
unfoldable pub wrong_ends : ℕ → Stream → Bool
wrong_ends r t = leb r t.from || leb r t.to || eqb t.from t.to

unfoldable pub some_ends_wrong : Sheet → List ℕ → Bool
some_ends_wrong h bytes = any_below h.streams (λ j. wrong_ends h.services (stream h bytes j))

-- 9: a link field of cabinet 0 is not 0
unfoldable pub linked : Cabinet → Bool
linked k =
    not (eqb k.up_capacity 0)
    || not (eqb k.up_price 0)
    || not (eqb k.down_capacity 0)
    || not (eqb k.down_price 0)

unfoldable pub root_linked : Sheet → List ℕ → Bool
root_linked h bytes = linked (cabinet h bytes 0)

-- the fourth block shares a byte with one of the others
unfoldable pub shared_by_pairs : Sheet → Bool
shared_by_pairs h =
    share h.services_at (services_size h) h.pairs_at (pairs_size h)
    || share h.cabinets_at (cabinets_size h) h.pairs_at (pairs_size h)
    || share h.streams_at (streams_size h) h.pairs_at (pairs_size h)

-- 18: there is a fourth block, and it starts below 16, ends past the length, has too high a count, or shares a byte with another
unfoldable pub pairs_block_wrong : Sheet → ℕ → Bool
pairs_block_wrong h len =
    not (eqb h.pairs_at 0)
    && (outside len h.pairs_at (pairs_size h) || ltb max_pairs h.pairs || shared_by_pairs h)

-- 19: a pair names no service or no cabinet
unfoldable pub wrong_pair : ℕ → ℕ → Pair → Bool
wrong_pair r s p = leb r p.service || leb s p.cabinet

unfoldable pub some_pair_wrong : Sheet → List ℕ → Bool
some_pair_wrong h bytes = any_below h.pairs (λ n. wrong_pair h.services h.cabinets (pair h bytes n))
