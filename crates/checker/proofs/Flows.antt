-- What runs through a link under a plan, stream by stream.
use Prim.Native.Nat.{ℕ, ◌+◌, ◌<◌}
use native.Mathlib.Omega.{arith}
use mathlib.Core.Path.{◌≡◌, sym, ap, ap₂, ◌∙◌}
use mathlib.Core.Bool.{Bool, ◌&&◌, not}
use mathlib.Core.List.{List}
use lib.Dec.{ltb}
use Rattle.finite.specs.Below.{only, sum_below}
use Rattle.finite.proofs.Sums.{sum_start, sum_ext, sum_next, only_le}
use Rattle.subsets.specs.Tree.{under}
use Rattle.sheet.specs.Instance.{Instance, WellFormed}
use Rattle.records.specs.Flows.{frames_in}
use Rattle.records.specs.declared.flows.Flow.{Flow}
use Rattle.embedding.specs.Limits.{frames}
use Rattle.embedding.specs.Inner.Charge.{leaving, entering}
use Rattle.checker.specs.Loads.{is_under}
use Rattle.checker.specs.Inner.Records.{Marked}
use Rattle.checker.specs.Inner.Flows.{Small, joined, with_stream}
use Rattle.checker.specs.declared.streams.Flows.{Flows}
use Rattle.checker.proofs.Marks.{is_under_tree}

-- a small flow with one stream more
pub joined_small : (j : ℕ) (f : Flow) (t : Bool) (d : ℕ) → d < 65536 → Small j f → Small (j + 1) (joined f t d)
joined_small j f t d h s = (omega (arith, only_le t d), omega (arith, only_le t (frames_in d), only_le (ltb 0 d) 1))

module _ (I : Instance) (π : ℕ → ℕ) where
  -- stream j takes the link above c upwards, and downwards
  abbrev pub rises : ℕ → ℕ → Bool
  rises c j = is_under I c (π (I.from j)) && not (is_under I c (π (I.to j)))

  abbrev pub falls : ℕ → ℕ → Bool
  falls c j = is_under I c (π (I.to j)) && not (is_under I c (π (I.from j)))

  -- the sum of f over those of the first n streams that pass the test
  abbrev pub sum_of : (ℕ → Bool) → (ℕ → ℕ) → ℕ → ℕ
  sum_of test f n = sum_below n (λ j. only (test j) (f j))

  -- what runs of them
  abbrev pub flow_of : (ℕ → Bool) → ℕ → Flow
  flow_of test n = record { demand = sum_of test I.load n; frames = sum_of test (frames I) n }

  -- through the link above c upwards, and downwards
  abbrev pub up_flow : ℕ → ℕ → Flow
  up_flow c n = flow_of (rises c) n

  abbrev pub down_flow : ℕ → ℕ → Flow
  down_flow c n = flow_of (falls c) n

  -- through both directions of it
  abbrev pub flows_of : ℕ → ℕ → Flows
  flows_of c n = record { up = up_flow c n; down = down_flow c n }

  -- no stream yet
  none : (test : ℕ → Bool) → record { demand = 0; frames = 0 } ≡ flow_of test 0
  none test = ap₂ (λ (d f : ℕ). record { demand = d; frames = f }) (sum_start (λ j. only (test j) (I.load j))) (sum_start (λ j. only (test j) (frames I j)))

  pub none_yet : (c : ℕ) → record { up = record { demand = 0; frames = 0 }; down = record { demand = 0; frames = 0 } } ≡ flows_of c 0
  none_yet c = ap₂ (λ (u d : Flow). record { up = u; down = d }) (none (rises c)) (none (falls c))

  -- one more, where it passes
  next : (test : ℕ → Bool) (j : ℕ) (t : Bool) → t ≡ test j → joined (flow_of test j) t (I.load j) ≡ flow_of test (j + 1)
  unfolding frames
  next test j t e =
      ap (λ (s : Bool). joined (flow_of test j) s (I.load j)) e
      ∙ sym (ap₂ (λ (m n : ℕ). record { demand = m; frames = n }) (sum_next j (λ j. only (test j) (I.load j))) (sum_next j (λ j. only (test j) (frames I j))))

  -- the marks tell whether it does
  pub one_more : {c : ℕ} {marks : List Bool} {f : Flows} (j : ℕ) → Marked I c marks → f ≡ flows_of c j → with_stream I π marks f j ≡ flows_of c (j + 1)
  one_more {c} {marks} j M e =
      let a = M.mark (π (I.from j)) in
      let b = M.mark (π (I.to j)) in
      ap (λ (f : Flows). with_stream I π marks f j) e
      ∙ ap₂ (λ (u d : Flow). record { up = u; down = d })
      (next (rises c) j _ (ap₂ (λ (x y : Bool). x && not y) a b))
      (next (falls c) j _ (ap₂ (λ (x y : Bool). x && not y) b a))

  -- all streams of a well-formed instance: what leaves the services under c in the tree of the road, and what enters them
  module _ (W : WellFormed I) (f : ℕ → ℕ) (c : ℕ) where
    pub up_all : sum_of (rises c) f I.q ≡ leaving I f (λ i. under I.parent c (π i))
    unfolding leaving
    up_all = sum_ext I.q _ _ (λ j k. ap₂ (λ (a b : Bool). only (a && not b) (f j)) (is_under_tree I W c (π (I.from j))) (is_under_tree I W c (π (I.to j))))

    pub down_all : sum_of (falls c) f I.q ≡ entering I f (λ i. under I.parent c (π i))
    unfolding entering
    down_all = sum_ext I.q _ _ (λ j k. ap₂ (λ (a b : Bool). only (a && not b) (f j)) (is_under_tree I W c (π (I.to j))) (is_under_tree I W c (π (I.from j))))
