-- The entry points of the reader: numbers in place of answers.
use Rattle.std.specs.Prelude.{ℕ, List, [], ◌∷◌, Ok, Err, Option, Some, None}
use Rattle.sheet.specs.Records.{service_record, cabinet_record, stream_record, pair_record}
use Rattle.sheet.specs.Reading.{Reading}
use Rattle.sheet.specs.Reading as readings
use Rattle.sheet.specs.declared.Service.{Service}
use Rattle.sheet.specs.declared.Cabinet.{Cabinet}
use Rattle.sheet.specs.declared.Stream.{Stream}
use Rattle.sheet.specs.declared.Pair.{Pair}

-- gz_read writes group, services, cabinets, streams and barred pairs
abbrev pub read_counts : Reading → List ℕ
read_counts a = readings.group a ∷ readings.services a ∷ readings.cabinets a ∷ readings.streams a ∷ readings.pairs a ∷ []

-- a record call gives nothing for bytes that the reader refuses
abbrev pub service_of : Reading → List ℕ → ℕ → Option Service
service_of (Ok h) bytes i = service_record h bytes i
service_of (Err f) bytes i = None

abbrev pub cabinet_of : Reading → List ℕ → ℕ → Option Cabinet
cabinet_of (Ok h) bytes c = cabinet_record h bytes c
cabinet_of (Err f) bytes c = None

abbrev pub stream_of : Reading → List ℕ → ℕ → Option Stream
stream_of (Ok h) bytes j = stream_record h bytes j
stream_of (Err f) bytes j = None

abbrev pub pair_of : Reading → List ℕ → ℕ → Option Pair
pair_of (Ok h) bytes n = pair_record h bytes n
pair_of (Err f) bytes n = None

-- 1 if the record is there, else 0
abbrev pub service_flag : Option Service → ℕ
service_flag (Some k) = 1
service_flag None = 0

abbrev pub cabinet_flag : Option Cabinet → ℕ
cabinet_flag (Some k) = 1
cabinet_flag None = 0

abbrev pub stream_flag : Option Stream → ℕ
stream_flag (Some t) = 1
stream_flag None = 0

abbrev pub pair_flag : Option Pair → ℕ
pair_flag (Some p) = 1
pair_flag None = 0

-- the record's words, in the order of the sheet; what stood there before where there is none
abbrev pub service_words : Option Service → List ℕ → List ℕ
service_words (Some k) before = k.demand ∷ []
service_words None before = before

abbrev pub cabinet_words : Option Cabinet → List ℕ → List ℕ
cabinet_words (Some k) before =
    k.parent ∷ k.capacity ∷ k.price ∷ k.up_capacity ∷ k.up_price ∷ k.down_capacity ∷ k.down_price ∷ []
cabinet_words None before = before

abbrev pub stream_words : Option Stream → List ℕ → List ℕ
stream_words (Some t) before = t.from ∷ t.to ∷ t.demand ∷ []
stream_words None before = before

abbrev pub pair_words : Option Pair → List ℕ → List ℕ
pair_words (Some p) before = p.service ∷ p.cabinet ∷ []
pair_words None before = before
