-- What a mapping must keep beside Definition 1.
use Rattle.std.specs.Prelude.{ℕ, ◌+◌, ◌*◌, ◌≤◌, ◌<◌, ◌≡◌, false, List, ltb}
use Rattle.finite.specs.Below.{only, sum_below}
use Rattle.sheet.specs.Instance.{Instance}
use Rattle.embedding.specs.Definition1.{member}
use Rattle.embedding.specs.Road.{tree, road}

-- how many frames stream j has: one if its demand is above 0
unfoldable pub frames : Instance → ℕ → ℕ
frames I j = only (ltb 0 (I.load j)) 1

-- what stream j takes of the capacity of each edge on its path: its demand, and 2 units of framing if that is above 0
unfoldable pub weight : Instance → ℕ → ℕ
weight I j = I.load j + 2 * frames I j

-- the services are put by `place`, the streams run along `path`
pub record Limits (I : Instance) (place : ℕ → ℕ) (path : ℕ → List ℕ) : Type 0 where
  -- 02 (a): it uses no barred pair, so no service is barred from the cabinet that it is put on
  pub bars : (i : ℕ) → i < I.r → I.barred i (place i) ≡ false
  -- 02 (i): a joint holds no service, even one of demand 0, so no service is put on one
  pub joints : (i : ℕ) → i < I.r → I.joint (place i) ≡ false
  -- 02 (e): framing takes line too, so on every edge the weights of the streams whose paths have it sum to at most its capacity
  pub framing : (e : ℕ) → e < (tree I).edges → sum_below I.q (λ j. only (member e (path j)) (weight I j)) ≤ (road I).edge_capacity e 0
