-- What the streams that run through one direction of a link take of its capacity.
use Rattle.std.specs.Prelude.{ℕ, ◌+◌, ◌*◌, ltb}
use Rattle.finite.specs.Below.{only}
use Rattle.records.specs.declared.flows.Flow.{Flow}

-- the frames of a stream of so much demand: one if that is above 0
abbrev pub frames_in : ℕ → ℕ
frames_in demand = only (ltb 0 demand) 1

-- the load of a flow: its demand, and 2 units for each frame
abbrev pub load_of : Flow → ℕ
load_of f = f.demand + 2 * f.frames
