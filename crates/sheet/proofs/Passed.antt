-- What the code may rely on once a test has failed: counts within their limits, and blocks within the bytes.
use Prim.Native.Nat.{ℕ, ◌+◌, ◌≤◌, ◌<◌}
use mathlib.Core.Path.{◌≡◌, refl}
use mathlib.Core.Bool.{Bool, true, false, ◌&&◌, ◌||◌, not}
use mathlib.Core.List.{List}
use native.Mathlib.Omega.{arith}
use lib.Dec.{eqb, ltb}
use lib.ListN.{length}
use borrow.Author.Tests.{ltb-false, eqb-true}
use Rattle.finite.specs.Below.{only}
use Rattle.finite.proofs.Booleans.{clash, neither_l, neither_r}
use Rattle.sheet.specs.Limits.{max_services, max_cabinets, max_streams, max_pairs}
use Rattle.sheet.specs.Inner.Within.{Bounded, Inside, PairsInside}
use Rattle.sheet.specs.Layout.{header_size, header, eighth_word, pairs_count, services_size, cabinets_size, streams_size, pairs_size}
use Rattle.sheet.specs.Conditions.{beyond_limits, outside, some_block_outside, shared_by_pairs, pairs_block_wrong}
use Rattle.sheet.specs.declared.Sheet.{Sheet}

-- the counts of a sheet that refusal 2 does not apply to
pub record Counted (h : Sheet) : Type 0 where
  pub services : h.services ≤ max_services
  pub some_cabinet : 1 ≤ h.cabinets
  pub cabinets : h.cabinets ≤ max_cabinets
  pub streams : h.streams ≤ max_streams

-- four tests that all fail
none_of_four : (p q r s : Bool) → p || q || r || s ≡ false → (p ≡ false) × (q ≡ false) × (r ≡ false) × (s ≡ false)
none_of_four false false false s e = (refl, refl, refl, e)
none_of_four false false true s e = clash e
none_of_four false true r s e = clash e
none_of_four true q r s e = clash e

pub counted : (h : Sheet) → beyond_limits h ≡ false → Counted h
unfolding beyond_limits
counted h e =
    let f =
    none_of_four
    (ltb max_services h.services)
    (ltb h.cabinets 1)
    (ltb max_cabinets h.cabinets)
    (ltb max_streams h.streams)
    e in
    record {
      services = ltb-false _ _ f.0;
      some_cabinet = ltb-false _ _ f.1;
      cabinets = ltb-false _ _ f.2;
      streams = ltb-false _ _ f.3;
    }

-- with offsets that are words
pub bounded :
    (h : Sheet) → beyond_limits h ≡ false → h.services_at < 65536 → h.cabinets_at < 65536 → h.streams_at < 65536
    → h.pairs < 65536 → h.pairs_at < 65536 → Bounded h
bounded h e a b c m d =
    let k = counted h e in
    record {
      services = k.services;
      some_cabinet = k.some_cabinet;
      cabinets = k.cabinets;
      streams = k.streams;
      services_at = a;
      cabinets_at = b;
      streams_at = c;
      pairs = m;
      pairs_at = d;
    }

-- a block that refusal 4 does not apply to
fits : (len at size : ℕ) → outside len at size ≡ false → at + size ≤ len
unfolding outside
fits len at size e = ltb-false _ _ (neither_r (ltb at header_size) (ltb len (at + size)) e)

-- blocks that refusal 4 does not apply to
pub inside : (h : Sheet) (len : ℕ) → some_block_outside h len ≡ false → Inside h len
unfolding some_block_outside
inside h len e =
    let first = outside len h.services_at (services_size h) in
    let second = outside len h.cabinets_at (cabinets_size h) in
    let third = outside len h.streams_at (streams_size h) in
    record {
      services = fits len _ _ (neither_l first second (neither_l (first || second) third e));
      cabinets = fits len _ _ (neither_r first second (neither_l (first || second) third e));
      streams = fits len _ _ (neither_r (first || second) third e);
    }

-- without a fourth block there are no pairs
no_pairs : (at : ℕ) (bytes : List ℕ) → at ≡ 0 → pairs_count at bytes ≡ 0
unfolding pairs_count only
no_pairs at bytes e = rw e refl

-- a fourth block that refusal 18 does not apply to
pub pairs_inside : (bytes : List ℕ) → header_size ≤ length bytes → pairs_block_wrong (header bytes) (length bytes) ≡ false
    → PairsInside (header bytes) (length bytes)
unfolding header pairs_block_wrong
pairs_inside bytes l e = go (eqb (eighth_word bytes) 0) refl e
  where
    go : (t : Bool) → eqb (eighth_word bytes) 0 ≡ t
        → not t && (outside (length bytes) (eighth_word bytes) (pairs_size (header bytes)) || ltb max_pairs (header bytes).pairs || shared_by_pairs (header bytes)) ≡ false
        → PairsInside (header bytes) (length bytes)
    go true q e = let z : eighth_word bytes ≡ 0 = eqb-true _ _ q in omega (arith, no_pairs (eighth_word bytes) bytes z)
    go false q e =
        fits (length bytes) _ _
        (neither_l _ (ltb max_pairs (header bytes).pairs)
        (neither_l _ (shared_by_pairs (header bytes)) e))
