-- The sums over services and streams, one more at a time.
use Rattle.std.specs.Prelude.{◌≡◌, ℕ, ◌+◌, ◌*◌, ◌<◌, Bool, true, false, not, ◌&&◌, List, length, get_or, set}
use native.Mathlib.Omega.{arith}
use native.Mathlib.Numerals.{add-one}
use mathlib.Core.Path.{refl, ap, ap₂, ◌∙◌}
use lib.ListN.{length-set}
use lib.Seq.{get_or-set_same, get_or-set_other}
use borrow.Author.Count.{below_more}
use Rattle.finite.specs.Below.{only, sum_below}
use Rattle.subsets.specs.Sets.{has}
use Rattle.records.specs.Flows.{frames_in}
use Rattle.rows.specs.Charges.{max_sets, all_sums, out_row, into_row, demanded, flow_at, run_out, run_in}
use Rattle.solver.specs.Sums.{demand_in, sum_out, flow_out, put, SumsOf}
use Rattle.records.specs.declared.flows.Flow.{Flow}
use Rattle.records.specs.declared.Records.{Records}

module _ (n : ℕ) (p : ℕ → Bool) (f : ℕ → ℕ) where
  -- the sum of f over the numbers that pass, with one more
  sum_next : sum_below (n + 1) (λ i. only (p i) (f i)) ≡ sum_below n (λ i. only (p i) (f i)) + only (p n) (f n)
  unfolding sum_below
  sum_next = ap (λ (m : ℕ). sum_below m (λ i. only (p i) (f i))) (add-one n)

  sum_taken : p n ≡ true → sum_below (n + 1) (λ i. only (p i) (f i)) ≡ sum_below n (λ i. only (p i) (f i)) + f n
  unfolding only
  sum_taken e = sum_next ∙ rw e refl

  sum_left : p n ≡ false → sum_below (n + 1) (λ i. only (p i) (f i)) ≡ sum_below n (λ i. only (p i) (f i))
  unfolding only
  sum_left e = sum_next ∙ rw e (omega arith)

pub no_demand : (demand : List ℕ) (x : ℕ) → 0 ≡ demand_in demand 0 x
unfolding demand_in sum_below
no_demand demand x = refl

module _ (demand : List ℕ) (i x : ℕ) where
  pub demand_taken : has x i ≡ true → demand_in demand (i + 1) x ≡ demand_in demand i x + get_or demand i 0
  unfolding demand_in
  demand_taken = sum_taken i (has x) (λ d. get_or demand d 0)

  pub demand_left : has x i ≡ false → demand_in demand (i + 1) x ≡ demand_in demand i x
  unfolding demand_in
  demand_left = sum_left i (has x) (λ d. get_or demand d 0)

pub no_flow : (from to load : List ℕ) (x : ℕ) → ◌≡◌ {A = Flow} (record { demand = 0; frames = 0 }) (flow_out from to load 0 x)
unfolding sum_out sum_below
no_flow from to load x = refl

module _ (from to load : List ℕ) (j x : ℕ) where
  -- whether stream d runs out of x
  abbrev pub leaving : ℕ → Bool
  leaving d = has x (get_or from d 0) && not (has x (get_or to d 0))

  pub flow_taken : leaving j ≡ true → flow_out from to load (j + 1) x
      ≡ record { demand = (flow_out from to load j x).demand + get_or load j 0; frames = (flow_out from to load j x).frames + frames_in (get_or load j 0) }
  unfolding sum_out
  flow_taken e = ap₂ (λ (d f : ℕ). record { demand = d; frames = f }) (sum_taken j leaving (λ d. get_or load d 0) e) (sum_taken j leaving (λ d. frames_in (get_or load d 0)) e)

  pub flow_left : leaving j ≡ false → flow_out from to load (j + 1) x ≡ flow_out from to load j x
  unfolding sum_out
  flow_left e = ap₂ (λ (d f : ℕ). record { demand = d; frames = f }) (sum_left j leaving (λ d. get_or load d 0) e) (sum_left j leaving (λ d. frames_in (get_or load d 0)) e)

-- ---- what runs for one set, written into the array of sums

module _ (l : List ℕ) (n x : ℕ) (f : Flow) where
  -- a place that is not written
  abbrev Apart : ℕ → Type 0
  Apart j = (j ≡ n * max_sets + x → ⊥) × (j ≡ n * max_sets + x + max_sets → ⊥)

  pub put_length : length (put l n x f) ≡ length l
  unfolding put
  put_length = length-set (set l (n * max_sets + x) f.demand) (n * max_sets + x + max_sets) f.frames ∙ length-set l (n * max_sets + x) f.demand

  put_apart : (j : ℕ) → Apart j → get_or (put l n x f) j 0 ≡ get_or l j 0
  unfolding put
  put_apart j a =
      get_or-set_other (set l (n * max_sets + x) f.demand) (n * max_sets + x + max_sets) j f.frames 0 (λ z. a.1 (omega arith))
      ∙ get_or-set_other l (n * max_sets + x) j f.demand 0 (λ z. a.0 (omega arith))

  flow_apart : (m y : ℕ) → Apart (m * max_sets + y) → Apart (m * max_sets + y + max_sets) → flow_at (put l n x f) m y ≡ flow_at l m y
  flow_apart m y a b = ap₂ (λ (d g : ℕ). record { demand = d; frames = g }) (put_apart (m * max_sets + y) a) (put_apart (m * max_sets + y + max_sets) b)

  -- what runs for an earlier set stays
  flow_earlier : (m y : ℕ) → y < x → x < max_sets → flow_at (put l n x f) m y ≡ flow_at l m y
  flow_earlier m y h k = flow_apart m y (λ z. omega arith, λ z. omega arith) (λ z. omega arith, λ z. omega arith)

  -- what is written stands there
  flow_there : n * max_sets + x + max_sets < length l → flow_at (put l n x f) n x ≡ f
  unfolding put
  flow_there h =
      ap₂ (λ (d g : ℕ). record { demand = d; frames = g })
      (get_or-set_other (set l (n * max_sets + x) f.demand) (n * max_sets + x + max_sets) (n * max_sets + x) f.frames 0 (λ z. omega arith)
      ∙ get_or-set_same l (n * max_sets + x) f.demand 0 (omega arith))
      (get_or-set_same (set l (n * max_sets + x) f.demand) (n * max_sets + x + max_sets) f.frames 0 (omega (arith, length-set l (n * max_sets + x) f.demand)))

-- ---- the array of sums, set by set

pub summed_start : (k : Records) (l : List ℕ) → length l ≡ all_sums → SumsOf k 0 l
summed_start k l e =
    record { size = e; demand = λ x h. absurd (omega arith); leaves = λ x h. absurd (omega arith); enters = λ x h. absurd (omega arith) }

-- the demand d of the set x is written, then o and i, which run out of it and into it
module _ (l : List ℕ) (x d : ℕ) (o i : Flow) (h : x < max_sets) (e : length l ≡ all_sums) where
  abbrev with_demand : List ℕ
  with_demand = set l x d

  abbrev with_out : List ℕ
  with_out = put with_demand out_row x o

  abbrev written : List ℕ
  written = put with_out into_row x i

  pub out_length : length with_out ≡ all_sums
  out_length = put_length with_demand out_row x o ∙ length-set l x d ∙ e

  written_length : length written ≡ all_sums
  written_length = put_length with_out into_row x i ∙ out_length

  -- no flow stands where a demand does
  demand_kept : (y : ℕ) → y < max_sets → demanded written y ≡ demanded with_demand y
  demand_kept y k = put_apart with_out into_row x i y (λ z. omega arith, λ z. omega arith) ∙ put_apart with_demand out_row x o y (λ z. omega arith, λ z. omega arith)

  -- what runs for an earlier set stays
  flows_kept : (m y : ℕ) → 0 < m → y < x → flow_at written m y ≡ flow_at l m y
  flows_kept m y z k =
      flow_earlier with_out into_row x i m y k h ∙ flow_earlier with_demand out_row x o m y k h
      ∙ ap₂ (λ (d g : ℕ). record { demand = d; frames = g }) (get_or-set_other l x (m * max_sets + y) d 0 (λ z. omega arith)) (get_or-set_other l x (m * max_sets + y + max_sets) d 0 (λ z. omega arith))

  -- and both flows stand there
  out_there : run_out written x ≡ o
  out_there =
      flow_apart with_out into_row x i out_row x (λ z. omega arith, λ z. omega arith) (λ z. omega arith, λ z. omega arith)
      ∙ flow_there with_demand out_row x o (omega (arith, length-set l x d))

  in_there : run_in written x ≡ i
  in_there = flow_there with_out into_row x i (omega (arith, out_length))

pub summed_next : (k : Records) (x : ℕ) (l : List ℕ) (d : ℕ) (o i : Flow) → x < max_sets → SumsOf k x l → d ≡ demand_in k.demand k.services x
    → o ≡ flow_out k.from k.to k.load k.streams x → i ≡ flow_out k.to k.from k.load k.streams x
    → SumsOf k (x + 1) (put (put (set l x d) out_row x o) into_row x i)
summed_next k x l d o i h S p q s = record {
  size = written_length l x d o i h S.size;
  demand = below_more _ x (λ y m. demand_kept l x d o i h S.size y (omega arith) ∙ get_or-set_other l x y d 0 (λ z. omega arith) ∙ S.demand y m) (demand_kept l x d o i h S.size x h ∙ get_or-set_same l x d 0 (omega (arith, S.size)) ∙ p);
  leaves = below_more _ x (λ y m. flows_kept l x d o i h S.size out_row y (omega arith) m ∙ S.leaves y m) (out_there l x d o i h S.size ∙ q);
  enters = below_more _ x (λ y m. flows_kept l x d o i h S.size into_row y (omega arith) m ∙ S.enters y m) (in_there l x d o i h S.size ∙ s);
}
