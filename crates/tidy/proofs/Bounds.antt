-- Every number that a copy is made of is a word, below 65536, so that the copy is made of bytes.
use Prim.Native.Nat.{ℕ, zero, suc, ◌≤◌, ◌<◌}
use native.Mathlib.Omega.{arith}
use mathlib.Core.Path.{◌≡◌, refl}
use mathlib.Core.Bool.{Bool, true, false}
use mathlib.Core.List.{List, [], ◌∷◌, ◌++◌}
use lib.Dec.{ltb}
use lib.ListN.{get_or}
use borrow.Author.Tests.{ltb-true, ltb-false}
use Rattle.sheet.specs.Limits.{max_services, max_cabinets, max_streams, max_pairs, max_amount}
use Rattle.sheet.specs.Instance.{Instance, WellFormed}
use Rattle.tidy.specs.Words.{from_words, concat_below}
use Rattle.tidy.specs.Copy.{pair_if, service_words, cabinet_words, stream_words, service_pairs, pair_words, pair_count, fourth_words, tidy_words, tidied}
use Rattle.tidy.proofs.Barred.{pairs_most}
use Rattle.tidy.proofs.Fourth.{no_words, some_words, size_most, offset_most}
use Rattle.tidy.proofs.Lengths.{head, services, cabinets, streams}

-- each of the numbers is a word
abbrev Words : List ℕ → Type 0
Words ws = (k : ℕ) → get_or ws k 0 < 65536

-- told one by one
abbrev All : List ℕ → Type 0
All [] = Unit {0}
All (w ∷ ws) = (w < 65536) × All ws

all : (ws : List ℕ) → All ws → Words ws
all [] l k = omega arith
all (w ∷ ws) l zero = l.0
all (w ∷ ws) l (suc k) = all ws l.1 k

-- of two lists
append : (l k : List ℕ) → Words l → Words k → Words (l ++ k)
append [] k p q i = q i
append (x ∷ l) k p q zero = p 0
append (x ∷ l) k p q (suc i) = append l k (λ i. p (suc i)) q i

-- of records
concat : (n : ℕ) (f : ℕ → List ℕ) → ((i : ℕ) → i < n → Words (f i)) → Words (concat_below n f)
unfolding concat_below
concat zero f h k = omega arith
concat (suc n) f h k = append (concat_below n f) (f n) (concat n f (λ i l. h i (omega arith))) (h n (omega arith)) k

-- every byte of words is one
bytes : (ws : List ℕ) → Words ws → (k : ℕ) → get_or (from_words ws) k 0 < 256
bytes [] h k = omega arith
bytes (w ∷ ws) h zero = omega arith
bytes (w ∷ ws) h (suc zero) = omega (arith, h 0)
bytes (w ∷ ws) h (suc (suc k)) = bytes ws (λ k. h (suc k)) k

amount : {n : ℕ} → n ≤ max_amount → n < 65536
amount h = omega arith

module _ (I : Instance) (W : WellFormed I) (root_parent : I.parent 0 ≡ 65535) where
  few : pair_count I ≤ max_pairs
  few = pairs_most I W.services W.cabinets

  header : Words (head I)
  header =
      let size = size_most (pair_count I) in
      let offset = offset_most I.r I.s I.q (pair_count I) in
      let r : I.r ≤ max_services = W.services in
      let s : I.s ≤ max_cabinets = W.cabinets in
      let q : I.q ≤ max_streams = W.streams in
      let n = few in
      all (head I)
      (omega arith, (omega arith, (omega arith, (omega arith, (omega arith, (omega arith, (omega (arith, size, n), (omega (arith, offset), tt))))))))

  parent : (c : ℕ) → c < I.s → I.parent c < 65536
  parent zero l = omega (arith, root_parent)
  parent (suc c) l = omega (arith, W.parents (suc c) (omega arith), W.cabinets)

  cabinet : (c : ℕ) → c < I.s → Words (cabinet_words I c)
  cabinet c l =
      all (cabinet_words I c) (
        parent c l,
        (
          amount (W.capacities c),
          (
            amount (W.prices c),
            (amount (W.up_capacities c), (amount (W.up_prices c), (amount (W.down_capacities c), (amount (W.down_prices c), tt)))),
          ),
        ),
      )

  stream : (j : ℕ) → j < I.q → Words (stream_words I j)
  stream j l =
      let r = W.services in
      all (stream_words I j) (omega (arith, W.from_service j l), (omega (arith, W.to_service j l), (amount (W.loads j), tt)))

  pair : (t : Bool) (i c : ℕ) → i < I.r → c < I.s → Words (pair_if t i c)
  pair true i c k l = all (i ∷ c ∷ []) (omega (arith, W.services), (omega (arith, W.cabinets), tt))
  pair false i c k l = all [] tt

  pairs : Words (pair_words I)
  unfolding pair_words service_pairs
  pairs = concat I.r (service_pairs I) (λ i k. concat I.s (λ c. pair_if (I.barred i c) i c) (λ c l. pair (I.barred i c) i c k l))

  fourth : Words (fourth_words I)
  fourth = go (ltb 0 (pair_count I)) refl
    where
      go : (t : Bool) → ltb 0 (pair_count I) ≡ t → Words (fourth_words I)
      go true e = rw (some_words I (ltb-true 0 (pair_count I) e)) (append (pair_count I ∷ []) (pair_words I) (all (pair_count I ∷ []) (omega (arith, few), tt)) pairs)
      go false e = rw (no_words I (omega (arith, ltb-false 0 (pair_count I) e))) (all [] tt)

  -- The copy is made of bytes.
  pub copy_bytes : (k : ℕ) → get_or (tidied I) k 0 < 256
  unfolding tidied tidy_words
  copy_bytes =
      bytes (tidy_words I)
      (append (head I ++ services I ++ cabinets I ++ streams I) (fourth_words I)
      (append (head I ++ services I ++ cabinets I) (streams I)
      (append (head I ++ services I) (cabinets I)
      (append (head I) (services I) header (concat I.r (service_words I) (λ i k. all (service_words I i) (amount (W.demands i), tt))))
      (concat I.s (cabinet_words I) cabinet))
      (concat I.q (stream_words I) stream))
      fourth)
