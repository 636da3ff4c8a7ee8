-- How a sheet is laid out: words, the header, the four blocks, and the records in them.
use Rattle.std.specs.Prelude.{ℕ, ◌+◌, ◌*◌, List, ◌&&◌, length, get_or, drop, ltb, leb}
use Rattle.finite.specs.Below.{only}
use Rattle.sheet.specs.declared.Sheet.{Sheet}
use Rattle.sheet.specs.declared.Service.{Service}
use Rattle.sheet.specs.declared.Cabinet.{Cabinet}
use Rattle.sheet.specs.declared.Stream.{Stream}
use Rattle.sheet.specs.declared.Pair.{Pair}

-- the 16-bit word that starts at a byte, low byte first
abbrev pub word_at : List ℕ → ℕ → ℕ
word_at part at = get_or part at 0 + 256 * get_or part (at + 1) 0

-- the header's eight words, in bytes
abbrev pub header_size : ℕ
header_size = 16

-- the seventh word: the sheet's length in bytes
abbrev pub length_word : List ℕ → ℕ
length_word bytes = word_at bytes 12

-- the eighth word: the offset of the fourth block, 0 for none
abbrev pub eighth_word : List ℕ → ℕ
eighth_word bytes = word_at bytes 14

-- a block is read as the part of the sheet that starts at its offset
abbrev pub part_from : ℕ → List ℕ → List ℕ
part_from at bytes = drop at bytes

-- the count that the fourth block starts with; 0 where there is no such block, or not even its count lies within the bytes
unfoldable pub pairs_count : ℕ → List ℕ → ℕ
pairs_count at bytes = only (ltb 0 at && leb (at + 2) (length bytes)) (word_at (part_from at bytes) 0)

-- the header but for the length: r, s and q, the offsets of the service, cabinet and stream blocks, and the fourth block, if any
unfoldable pub header : List ℕ → Sheet
header bytes =
    record {
      services = word_at bytes 0;
      cabinets = word_at bytes 2;
      streams = word_at bytes 4;
      services_at = word_at bytes 6;
      cabinets_at = word_at bytes 8;
      streams_at = word_at bytes 10;
      pairs = pairs_count (eighth_word bytes) bytes;
      pairs_at = eighth_word bytes;
    }

-- service i of a block, 2 bytes: its demand
unfoldable pub service_in : List ℕ → ℕ → Service
service_in block i = record { demand = word_at block (2 * i) }

-- cabinet c of a block, 14 bytes: parent, capacity, price, up capacity, up price, down capacity, down price
unfoldable pub cabinet_in : List ℕ → ℕ → Cabinet
cabinet_in block c =
    record {
      parent = word_at block (14 * c);
      capacity = word_at block (14 * c + 2);
      price = word_at block (14 * c + 4);
      up_capacity = word_at block (14 * c + 6);
      up_price = word_at block (14 * c + 8);
      down_capacity = word_at block (14 * c + 10);
      down_price = word_at block (14 * c + 12);
    }

-- stream j of a block, 6 bytes: from, to, demand
unfoldable pub stream_in : List ℕ → ℕ → Stream
stream_in block j =
    record { from = word_at block (6 * j); to = word_at block (6 * j + 2); demand = word_at block (6 * j + 4) }

-- barred pair n of a block, 4 bytes after the count's 2: service, cabinet
unfoldable pub pair_in : List ℕ → ℕ → Pair
pair_in block n = record { service = word_at block (4 * n + 2); cabinet = word_at block (4 * n + 4) }

-- how many bytes the records of each kind take
abbrev pub services_size : Sheet → ℕ
services_size h = 2 * h.services

abbrev pub cabinets_size : Sheet → ℕ
cabinets_size h = 14 * h.cabinets

abbrev pub streams_size : Sheet → ℕ
streams_size h = 6 * h.streams

-- the fourth block, with its count
abbrev pub pairs_size : Sheet → ℕ
pairs_size h = 2 + 4 * h.pairs

-- each record of a sheet by its number
unfoldable pub service : Sheet → List ℕ → ℕ → Service
service h bytes = service_in (part_from h.services_at bytes)

unfoldable pub cabinet : Sheet → List ℕ → ℕ → Cabinet
cabinet h bytes = cabinet_in (part_from h.cabinets_at bytes)

unfoldable pub stream : Sheet → List ℕ → ℕ → Stream
stream h bytes = stream_in (part_from h.streams_at bytes)

unfoldable pub pair : Sheet → List ℕ → ℕ → Pair
pair h bytes = pair_in (part_from h.pairs_at bytes)
