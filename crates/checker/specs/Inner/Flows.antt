-- What runs through a link, stream by stream.
use Rattle.std.specs.Prelude.{ℕ, ◌+◌, ◌*◌, ◌≤◌, Bool, false, ◌&&◌, not, List, get_or}
use Rattle.finite.specs.Below.{only}
use Rattle.sheet.specs.Instance.{Instance}
use Rattle.records.specs.Flows.{frames_in}
use Rattle.records.specs.declared.flows.Flow.{Flow}
use Rattle.checker.specs.declared.streams.Flows.{Flows}

-- a stream from cabinet a to cabinet b leaves the marked cabinets
abbrev pub crosses : List Bool → ℕ → ℕ → Bool
crosses marks a b = get_or marks a false && not (get_or marks b false)

-- a flow with a stream of so much demand more, where it is in it
abbrev pub joined : Flow → Bool → ℕ → Flow
joined f is-in demand = record { demand = f.demand + only is-in demand; frames = f.frames + only is-in (frames_in demand) }

-- the flows of a link with stream j more: upwards where it leaves the marked cabinets, downwards where it enters them
abbrev pub with_stream : Instance → (ℕ → ℕ) → List Bool → Flows → ℕ → Flows
with_stream I π marks f j =
    record {
      up = joined f.up (crosses marks (π (I.from j)) (π (I.to j))) (I.load j);
      down = joined f.down (crosses marks (π (I.to j)) (π (I.from j))) (I.load j);
    }

-- a flow of at most j streams, each with a demand of 16 bits
abbrev pub Small : ℕ → Flow → Type 0
Small j f = (f.demand ≤ j * 65536) × (f.frames ≤ j)

-- the same of both flows of a link
abbrev pub Few : ℕ → Flows → Type 0
Few j f = Small j f.up × Small j f.down
