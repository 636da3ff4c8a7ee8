-- The reader accepts the tidy copy of every well-formed instance whose root says that it has no parent: none of its refusals applies.
use Prim.Native.Nat.{ℕ, zero, suc, ◌+◌, ◌*◌, ◌≤◌, ◌<◌}
use native.Mathlib.Omega.{arith}
use mathlib.Core.Path.{◌≡◌, refl, sym, ap, ap₂, ◌∙◌}
use mathlib.Core.Bool.{Bool, true, false, ◌&&◌, not}
use mathlib.Core.List.{List, [], ◌∷◌}
use lib.Dec.{eqb, ltb}
use lib.ListN.{length, get_or}
use borrow.Author.Tests.{ltb-true, ltb-false, le-ltb, lt-leb, eq-eqb, ne_eqb}
use Rattle.finite.proofs.Booleans.{both, both_l, both_r, neither}
use Rattle.finite.proofs.Tests.{any_none, any_in}
use Rattle.sheet.specs.Limits.{max_services, max_cabinets, max_streams, max_pairs, max_amount}
use Rattle.sheet.specs.Layout.{header_size, services_size, cabinets_size, streams_size, pairs_size}
use Rattle.sheet.specs.Conditions.{beyond_limits, outside, some_block_outside, holds, share, some_blocks_share, too_high, cabinet_too_high, some_amount_too_high, wrong_parent, some_parent_wrong, wrong_ends, some_ends_wrong, linked, root_linked, shared_by_pairs, pairs_block_wrong, wrong_pair, some_pair_wrong}
use Rattle.sheet.specs.Refusals.{Rule, first_applying}
use Rattle.sheet.specs.Reading.{rules, answered, reading}
use Rattle.sheet.specs.Instance.{Instance, WellFormed}
use Rattle.sheet.specs.Inner.Fields.{cabinet_of, stream_of}
use Rattle.sheet.specs.declared.Service.{Service}
use Rattle.sheet.specs.declared.Stream.{Stream}
use Rattle.std.specs.Prelude.{Ok}
use Rattle.tidy.specs.Copy.{copy_length, pair_words, pair_count, tidied}
use Rattle.tidy.proofs.Barred.{pair_among, pairs_most, pairs_named}
use Rattle.tidy.proofs.Fourth.{no_offset, some_offset, some_size}
use Rattle.tidy.proofs.Lengths.{copied_length}
use Rattle.tidy.proofs.Fields.{tidy_sheet, header_read, length_read, service_read, cabinet_read, stream_read, pair_read}

-- a rule that does not apply, and none after it
pass : (x : Rule) (xs : List Rule) → x.applies ≡ false → first_applying xs ≡ 0 → first_applying (x ∷ xs) ≡ 0
unfolding first_applying
pass x xs e h = simp e h

-- no rule is left
passed : first_applying [] ≡ 0
unfolding first_applying
passed = refl

-- a number that is what it should be
right : (m n : ℕ) → m ≡ n → not (eqb m n) ≡ false
right m n e = ap not (eq-eqb m n e)

-- a block within the bytes and behind the header
lies : (len at size : ℕ) → header_size ≤ at → at + size ≤ len → outside len at size ≡ false
unfolding outside
lies len at size h k = neither _ _ (le-ltb at header_size h) (le-ltb len (at + size) k)

-- a block that ends before another starts
apart : (a m b n : ℕ) → a + m ≤ b → share a m b n ≡ false
unfolding share holds
apart a m b n h = any_none m _ (λ i k. ap (λ (t : Bool). t && ltb (a + i) (b + n)) (lt-leb b (a + i) (omega arith)))

module _ (I : Instance) (W : WellFormed I) (root_parent : I.parent 0 ≡ 65535) where
  limits : beyond_limits (tidy_sheet I) ≡ false
  unfolding beyond_limits
  limits =
      neither _ _
      (neither _ _ (neither _ _ (le-ltb max_services I.r W.services) (le-ltb I.s 1 W.some_cabinet)) (le-ltb max_cabinets I.s W.cabinets))
      (le-ltb max_streams I.q W.streams)

  blocks : some_block_outside (tidy_sheet I) (length (tidied I)) ≡ false
  unfolding some_block_outside
  blocks =
      let l : length (tidied I) ≡ copy_length I = copied_length I in
      let h = tidy_sheet I in
      neither _ _
      (neither _ _ (lies (length (tidied I)) header_size (services_size h) (omega arith) (omega arith)) (lies _ _ (cabinets_size h) (omega arith) (omega arith)))
      (lies _ _ (streams_size h) (omega arith) (omega arith))

  shared : some_blocks_share (tidy_sheet I) ≡ false
  unfolding some_blocks_share
  shared =
      let h = tidy_sheet I in
      neither _ _
      (neither _ _ (apart header_size (services_size h) _ (cabinets_size h) (omega arith)) (apart header_size (services_size h) _ (streams_size h) (omega arith)))
      (apart _ (cabinets_size h) _ (streams_size h) (omega arith))

  high : (c : ℕ) → cabinet_too_high (cabinet_of I c) ≡ false
  unfolding cabinet_too_high
  high c =
      neither _ _
      (neither _ _
      (neither _ _
      (neither _ _
      (neither _ _ (le-ltb max_amount (I.capacity c) (W.capacities c)) (le-ltb max_amount (I.price c) (W.prices c)))
      (le-ltb max_amount (I.up_capacity c) (W.up_capacities c)))
      (le-ltb max_amount (I.up_price c) (W.up_prices c)))
      (le-ltb max_amount (I.down_capacity c) (W.down_capacities c)))
      (le-ltb max_amount (I.down_price c) (W.down_prices c))

  amounts : some_amount_too_high (tidy_sheet I) (tidied I) ≡ false
  unfolding some_amount_too_high
  amounts =
      neither _ _
      (neither _ _
      (any_none I.r _ (λ i k. ap (λ (x : Service). too_high x.demand) (service_read I i k) ∙ le-ltb max_amount (I.demand i) (W.demands i)))
      (any_none I.s _ (λ c k. ap cabinet_too_high (cabinet_read I c k) ∙ high c)))
      (any_none I.q _ (λ j k. ap (λ (x : Stream). too_high x.demand) (stream_read I j k) ∙ le-ltb max_amount (I.load j) (W.loads j)))

  parent : (c : ℕ) → wrong_parent c (cabinet_of I c) ≡ false
  unfolding wrong_parent
  parent zero = right (I.parent 0) 65535 root_parent
  parent (suc c) = rw (ne_eqb (suc c) 0 (λ e. omega arith)) (lt-leb (suc c) (I.parent (suc c)) (W.parents (suc c) (omega arith)))

  parents : some_parent_wrong (tidy_sheet I) (tidied I) ≡ false
  unfolding some_parent_wrong
  parents = any_none I.s _ (λ c k. ap (wrong_parent c) (cabinet_read I c k) ∙ parent c)

  end : (j : ℕ) → j < I.q → wrong_ends I.r (stream_of I j) ≡ false
  unfolding wrong_ends
  end j k =
      neither _ _ (neither _ _ (lt-leb I.r (I.from j) (W.from_service j k)) (lt-leb I.r (I.to j) (W.to_service j k)))
      (ne_eqb (I.from j) (I.to j) (W.ends_differ j k))

  ends : some_ends_wrong (tidy_sheet I) (tidied I) ≡ false
  unfolding some_ends_wrong
  ends = any_none I.q _ (λ j k. ap (wrong_ends I.r) (stream_read I j k) ∙ end j k)

  links : linked (cabinet_of I 0) ≡ false
  unfolding linked
  links =
      neither _ _
      (neither _ _
      (neither _ _ (right (I.up_capacity 0) 0 W.root_links.0) (right (I.up_price 0) 0 W.root_links.1))
      (right (I.down_capacity 0) 0 W.root_links.2))
      (right (I.down_price 0) 0 W.root_links.3)

  root : root_linked (tidy_sheet I) (tidied I) ≡ false
  unfolding root_linked
  root = ap linked (cabinet_read I 0 W.some_cabinet) ∙ links

  -- the fourth block lies behind the streams, or there is none
  fourth : pairs_block_wrong (tidy_sheet I) (length (tidied I)) ≡ false
  unfolding pairs_block_wrong shared_by_pairs
  fourth = go (ltb 0 (pair_count I)) refl
    where
      go : (t : Bool) → ltb 0 (pair_count I) ≡ t → pairs_block_wrong (tidy_sheet I) (length (tidied I)) ≡ false
      go true e =
          let h = tidy_sheet I in
          let some : 0 < pair_count I = ltb-true 0 (pair_count I) e in
          let at = some_offset I.r I.s I.q (pair_count I) some in
          let l : length (tidied I) ≡ copy_length I = copied_length I in
          let size = some_size (pair_count I) some in
          ap (λ (t : Bool). not (eqb h.pairs_at 0) && t)
          (neither _ _
          (neither _ _ (lies (length (tidied I)) h.pairs_at (pairs_size h) (omega (arith, at)) (omega (arith, at, l, size)))
          (le-ltb max_pairs (pair_count I) (pairs_most I W.services W.cabinets)))
          (neither _ _
          (neither _ _ (apart header_size (services_size h) h.pairs_at (pairs_size h) (omega (arith, at))) (apart _ (cabinets_size h) h.pairs_at (pairs_size h) (omega (arith, at))))
          (apart _ (streams_size h) h.pairs_at (pairs_size h) (omega (arith, at)))))
          ∙ none (not (eqb h.pairs_at 0))
        where
          none : (t : Bool) → t && false ≡ false
          none true = refl
          none false = refl
      go false e =
          let z : pair_count I ≡ 0 = omega (arith, ltb-false 0 (pair_count I) e) in
          rw (no_offset I.r I.s I.q (pair_count I) z) refl

  -- pair n of the words is a service and a cabinet that are there
  pub in_range : (n : ℕ) → n < pair_count I → (get_or (pair_words I) (2 * n) 0 < I.r) × (get_or (pair_words I) (2 * n + 1) 0 < I.s)
  unfolding pair_among
  in_range n k =
      let i = get_or (pair_words I) (2 * n) 0 in
      let c = get_or (pair_words I) (2 * n + 1) 0 in
      let t = sym (pairs_named I i c) ∙ any_in (pair_count I) _ n k (both _ _ (eq-eqb i i refl) (eq-eqb c c refl)) in
      let g = both_l (ltb i I.r && ltb c I.s) _ t in
      (ltb-true i I.r (both_l (ltb i I.r) _ g), ltb-true c I.s (both_r (ltb i I.r) _ g))

  pairs : some_pair_wrong (tidy_sheet I) (tidied I) ≡ false
  unfolding some_pair_wrong wrong_pair
  pairs = any_none (pair_count I) _ (λ n k. ap (wrong_pair I.r I.s) (pair_read I n (omega arith)) ∙ neither _ _ (lt-leb I.r _ (in_range n k).0) (lt-leb I.s _ (in_range n k).1))

  -- no refusal applies
  clear : first_applying (rules (tidied I)) ≡ 0
  unfolding rules
  clear =
      let l : length (tidied I) ≡ copy_length I = copied_length I in
      rw header_read
      (pass _ _ (le-ltb (length (tidied I)) header_size (omega arith))
      (pass _ _ limits
      (pass _ _ (right _ _ (length_read I ∙ sym l))
      (pass _ _ blocks
      (pass _ _ shared
      (pass _ _ amounts
      (pass _ _ parents
      (pass _ _ ends
      (pass _ _ root
      (pass _ _ fourth
      (pass _ _ pairs passed)))))))))))

  -- The reader accepts the copy.
  pub accepted : reading (tidied I) ≡ Ok (tidy_sheet I)
  unfolding reading answered
  accepted = ap₂ answered clear (header_read I)
