-- The instance that records in arrays tell of, and the records of bytes.
use Rattle.std.specs.Prelude.{false, ℕ, Result, Ok, Err, get_or, replicate}
use Rattle.subsets.specs.Sets.{has}
use Rattle.sheet.specs.Limits.{max_services, max_cabinets, max_streams}
use Rattle.sheet.specs.Instance.{Instance, of_records}
use Rattle.sheet.specs.Reading.{Reading}
use Rattle.sheet.specs.declared.Refusal.{Refusal}
use Rattle.records.specs.declared.Records.{Records}
use Rattle.records.specs.declared.Loaded.{Loaded}

-- the instance of the records; a field of a record that isn't there is 0, the services barred from a cabinet are the members of its set, and a
-- joint is marked as one, whatever its capacity
unfoldable pub told : Records → Instance
told k =
    of_records k.services k.cabinets k.streams
    (λ i. record { demand = get_or k.demand i 0 })
    (λ c.
    record {
      parent = get_or k.parent c 0;
      capacity = get_or k.capacity c 0;
      price = get_or k.price c 0;
      up_capacity = get_or k.up_capacity c 0;
      up_price = get_or k.up_price c 0;
      down_capacity = get_or k.down_capacity c 0;
      down_price = get_or k.down_price c 0;
    })
    (λ j. record { from = get_or k.from j 0; to = get_or k.to j 0; demand = get_or k.load j 0 })
    (λ i c. has (get_or k.barred c 0) i)
    (λ c. get_or k.joint c false)

-- how many places for marks of cabinets there are
abbrev pub max_marks : ℕ
max_marks = 256

-- so many services, cabinets and streams, with nothing but zeros in their records, and no joint
abbrev pub blank : ℕ → ℕ → ℕ → Records
blank r s q =
    record {
      services = r;
      cabinets = s;
      streams = q;
      demand = replicate max_services 0;
      parent = replicate max_cabinets 0;
      capacity = replicate max_cabinets 0;
      price = replicate max_cabinets 0;
      up_capacity = replicate max_cabinets 0;
      up_price = replicate max_cabinets 0;
      down_capacity = replicate max_cabinets 0;
      down_price = replicate max_cabinets 0;
      barred = replicate max_cabinets 0;
      joint = replicate max_marks false;
      from = replicate max_streams 0;
      to = replicate max_streams 0;
      load = replicate max_streams 0;
    }

-- what loading answers: the reader's answer, with the records beside the sheet
abbrev pub answer_of : Result Loaded Refusal → Reading
answer_of (Ok loaded) = Ok loaded.sheet
answer_of (Err f) = Err f
