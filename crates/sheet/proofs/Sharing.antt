-- Two blocks share a byte exactly when the later one has a byte and starts before the earlier one ends.
use Prim.Native.Nat.{ℕ, ◌+◌, ◌-◌, ◌≤◌, ◌<◌}
use native.Mathlib.Omega.{arith}
use mathlib.Core.Path.{◌≡◌, ap}
use mathlib.Core.Bool.{Bool, true, ◌&&◌, not}
use lib.Dec.{eqb, ltb, leb}
use borrow.Author.Tests.{ltb-true, leb-true, lt-ltb, le-leb, ne_eqb, not-true, eqb-false}
use Rattle.finite.proofs.Booleans.{both, both_l, both_r, same_test}
use Rattle.finite.proofs.Tests.{any_in, any_at}
use Rattle.sheet.specs.Conditions.{holds, share}

some_byte : (n : ℕ) → 0 < n → not (eqb n 0) ≡ true
some_byte n h = ap not (ne_eqb n 0 (λ e. omega arith))

byte_some : (n : ℕ) → not (eqb n 0) ≡ true → 0 < n
byte_some n h = let k : (n ≡ 0 → ⊥) = eqb-false n 0 (not-true (eqb n 0) h) in omega arith

module _ (a m b n : ℕ) where
  -- byte i of the first is a byte of the second
  abbrev common : ℕ → Bool
  common i = leb b (a + i) && ltb (a + i) (b + n)

  found : (i : ℕ) → i < m → b ≤ a + i → a + i < b + n → share a m b n ≡ true
  unfolding share holds
  found i k l u = any_in m common i k (both (leb b (a + i)) (ltb (a + i) (b + n)) (le-leb b (a + i) l) (lt-ltb (a + i) (b + n) u))

  pub record Common : Type 0 where
    pub byte : ℕ
    pub in_first : byte < m
    pub starts : b ≤ a + byte
    pub ends : a + byte < b + n

  one : share a m b n ≡ true → Common
  unfolding share holds
  one e = go (any_at m common e)
    where
      go : (i : ℕ) × (i < m) × (common i ≡ true) → Common
      go (i, k, h) =
          record {
            byte = i;
            in_first = k;
            starts = leb-true b (a + i) (both_l (leb b (a + i)) (ltb (a + i) (b + n)) h);
            ends = ltb-true (a + i) (b + n) (both_r (leb b (a + i)) (ltb (a + i) (b + n)) h);
          }

  -- the first starts no later
  pub share_first : a ≤ b → share a m b n ≡ not (eqb n 0) && ltb (b - a) m
  share_first l = same_test (share a m b n) (not (eqb n 0) && ltb (b - a) m) forth back
    where
      forth : share a m b n ≡ true → not (eqb n 0) && ltb (b - a) m ≡ true
      forth e = let w = one e in both (not (eqb n 0)) (ltb (b - a) m) (some_byte n (omega arith)) (lt-ltb (b - a) m (omega arith))

      back : not (eqb n 0) && ltb (b - a) m ≡ true → share a m b n ≡ true
      back e =
          let z : 0 < n = byte_some n (both_l (not (eqb n 0)) (ltb (b - a) m) e) in
          let u : b - a < m = ltb-true (b - a) m (both_r (not (eqb n 0)) (ltb (b - a) m) e) in
          found (b - a) u (omega arith) (omega arith)

  -- the second starts first
  pub share_second : b < a → share a m b n ≡ not (eqb m 0) && ltb (a - b) n
  share_second l = same_test (share a m b n) (not (eqb m 0) && ltb (a - b) n) forth back
    where
      forth : share a m b n ≡ true → not (eqb m 0) && ltb (a - b) n ≡ true
      forth e = let w = one e in both (not (eqb m 0)) (ltb (a - b) n) (some_byte m (omega arith)) (lt-ltb (a - b) n (omega arith))

      back : not (eqb m 0) && ltb (a - b) n ≡ true → share a m b n ≡ true
      back e =
          let z : 0 < m = byte_some m (both_l (not (eqb m 0)) (ltb (a - b) n) e) in
          let u : a - b < n = ltb-true (a - b) n (both_r (not (eqb m 0)) (ltb (a - b) n) e) in
          found 0 z (omega arith) (omega arith)
