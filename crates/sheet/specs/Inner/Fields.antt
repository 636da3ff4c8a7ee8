-- The records of an instance.
use Rattle.std.specs.Prelude.{ℕ}
use Rattle.sheet.specs.Instance.{Instance}
use Rattle.sheet.specs.declared.Service.{Service}
use Rattle.sheet.specs.declared.Cabinet.{Cabinet}
use Rattle.sheet.specs.declared.Stream.{Stream}

-- service i
abbrev pub service_of : Instance → ℕ → Service
service_of I i = record { demand = I.demand i }

-- cabinet c
abbrev pub cabinet_of : Instance → ℕ → Cabinet
cabinet_of I c =
    record {
      parent = I.parent c;
      capacity = I.capacity c;
      price = I.price c;
      up_capacity = I.up_capacity c;
      up_price = I.up_price c;
      down_capacity = I.down_capacity c;
      down_price = I.down_price c;
    }

-- stream j
abbrev pub stream_of : Instance → ℕ → Stream
stream_of I j = record { from = I.from j; to = I.to j; demand = I.load j }
