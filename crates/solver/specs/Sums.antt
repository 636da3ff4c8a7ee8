-- What a set of services asks for: its demand, and what runs out of it and into it.
use Rattle.std.specs.Prelude.{◌≡◌, ℕ, ◌+◌, ◌*◌, ◌<◌, not, ◌&&◌, List, length, slice_index, slice_set}
use Rattle.finite.specs.Below.{only, sum_below}
use Rattle.subsets.specs.Sets.{has}
use Rattle.records.specs.Flows.{frames_in}
use Rattle.records.specs.declared.flows.Flow.{Flow}
use Rattle.records.specs.declared.Records.{Records}
use Rattle.rows.specs.Charges.{max_sets, all_sums, demanded, run_out, run_in}

-- the demands of the services in x, of the first r
unfoldable pub demand_in : List ℕ → ℕ → ℕ → ℕ
demand_in demand r x = sum_below r (λ i. only (has x i) (slice_index demand i))

-- the sum of f over those of the first q streams that run from a service in x to one that is not
unfoldable pub sum_out : List ℕ → List ℕ → (ℕ → ℕ) → ℕ → ℕ → ℕ
sum_out from to f q x = sum_below q (λ j. only (has x (slice_index from j) && not (has x (slice_index to j))) (f j))

-- the demand and the frames of those streams
abbrev pub flow_out : List ℕ → List ℕ → List ℕ → ℕ → ℕ → Flow
flow_out from to load q x =
    record { demand = sum_out from to (λ j. slice_index load j) q x; frames = sum_out from to (λ j. frames_in (slice_index load j)) q x }

-- an array of sums with what runs for the set x written into it: its demand into row n, its frames into the next
unfoldable pub put : List ℕ → ℕ → ℕ → Flow → List ℕ
put sums n x f = slice_set (slice_set sums (n * max_sets + x) f.demand) (n * max_sets + x + max_sets) f.frames

-- an array holds the sums of the sets below n
pub record SumsOf (k : Records) (n : ℕ) (sums : List ℕ) : Type 0 where
  pub size : length sums ≡ all_sums
  pub demand : (x : ℕ) → x < n → demanded sums x ≡ demand_in k.demand k.services x
  pub leaves : (x : ℕ) → x < n → run_out sums x ≡ flow_out k.from k.to k.load k.streams x
  pub enters : (x : ℕ) → x < n → run_in sums x ≡ flow_out k.to k.from k.load k.streams x
