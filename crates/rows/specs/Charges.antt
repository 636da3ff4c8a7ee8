-- What a cabinet and its link charge, by sums over a set of services; and the rows of an array of such sums.
use Rattle.std.specs.Prelude.{ℕ, ◌+◌, ◌*◌, ◌^◌, ◌&&◌, List, eqb, leb, get_or}
use Rattle.std.specs.Int.Bits.{bit_and}
use Rattle.finite.specs.Below.{◌⇒◌}
use Rattle.sheet.specs.Limits.{max_services}
use Rattle.subsets.specs.Costs.{Cost, provided}
use Rattle.subsets.specs.Inner.Encoded.{figure}
use Rattle.records.specs.Flows.{load_of}
use Rattle.records.specs.declared.flows.Flow.{Flow}
use Rattle.rows.specs.declared.charges.Own.{Own}
use Rattle.rows.specs.declared.charges.Link.{Link}

-- how many sets of services there can be
abbrev pub max_sets : ℕ
max_sets = 2 ^ max_services

-- the places of an array of sums: a row for the demands, two for what runs out, its demand and its frames, and two for what runs in
abbrev pub all_sums : ℕ
all_sums = 5 * max_sets

-- what cabinet k charges for the services x, of so much demand; none where they are too much for it, or it is a joint and there is one, or one is
-- barred from it
abbrev pub own_cost : Own → ℕ → ℕ → Cost
own_cost k x demand = provided ((leb demand k.capacity && (k.joint ⇒ eqb x 0)) && eqb (bit_and x k.barred) 0) (demand * k.price)

-- what the link k charges for what runs upwards and downwards, by its demand; none where the load of a direction is too much for it
abbrev pub link_cost : Link → Flow → Flow → Cost
link_cost k up down =
    provided (leb (load_of up) k.up_capacity && leb (load_of down) k.down_capacity) (up.demand * k.up_price + down.demand * k.down_price)

-- the figures of both
abbrev pub own_figure : Own → ℕ → ℕ → ℕ
own_figure k x demand = figure (own_cost k x demand)

abbrev pub link_figure : Link → Flow → Flow → ℕ
link_figure k up down = figure (link_cost k up down)

-- the row of the demand of what runs out, and of what runs in
abbrev pub out_row : ℕ
out_row = 1

abbrev pub into_row : ℕ
into_row = 3

-- what runs for the set x: its demand stands in row n, its frames in the next
abbrev pub flow_at : List ℕ → ℕ → ℕ → Flow
flow_at sums n x = record { demand = get_or sums (n * max_sets + x) 0; frames = get_or sums (n * max_sets + x + max_sets) 0 }

-- the rows of an array of sums: what each set demands, what runs out of it, and what runs into it
abbrev pub demanded : List ℕ → ℕ → ℕ
demanded sums x = get_or sums x 0

abbrev pub run_out : List ℕ → ℕ → Flow
run_out sums x = flow_at sums out_row x

abbrev pub run_in : List ℕ → ℕ → Flow
run_in sums x = flow_at sums into_row x
