-- The fourth block of a copy, with and without pairs.
use Prim.Native.Nat.{ℕ, ◌+◌, ◌*◌, ◌≤◌, ◌<◌}
use native.Mathlib.Omega.{arith}
use mathlib.Core.Path.{◌≡◌, refl}
use mathlib.Core.Bool.{Bool, true, false}
use mathlib.Core.List.{[], ◌∷◌}
use lib.Dec.{ltb}
use lib.ListN.{length}
use borrow.Author.Tests.{ltb-true, ltb-false, lt-ltb}
use Rattle.finite.specs.Below.{only}
use Rattle.sheet.specs.Instance.{Instance}
use Rattle.tidy.specs.Copy.{streams_end, fourth_size, fourth_from, pair_words, pair_count, fourth_words}
use Rattle.tidy.proofs.Barred.{pairs_length}

-- ---- without a pair there is none

pub no_size : (n : ℕ) → n ≡ 0 → fourth_size n ≡ 0
unfolding fourth_size only
no_size n e = rw e refl

pub no_offset : (r s q n : ℕ) → n ≡ 0 → fourth_from r s q n ≡ 0
unfolding fourth_from only
no_offset r s q n e = rw e refl

pub no_words : (I : Instance) → pair_count I ≡ 0 → fourth_words I ≡ []
unfolding fourth_words
no_words I e = rw e refl

-- ---- with pairs

pub some_size : (n : ℕ) → 0 < n → fourth_size n ≡ 2 + 4 * n
unfolding fourth_size only
some_size n h = rw (lt-ltb 0 n h) refl

pub some_offset : (r s q n : ℕ) → 0 < n → fourth_from r s q n ≡ streams_end r s q
unfolding fourth_from only
some_offset r s q n h = rw (lt-ltb 0 n h) refl

pub some_words : (I : Instance) → 0 < pair_count I → fourth_words I ≡ pair_count I ∷ pair_words I
unfolding fourth_words
some_words I h = rw (lt-ltb 0 (pair_count I) h) refl

-- ---- in both cases

pub size_most : (n : ℕ) → fourth_size n ≤ 2 + 4 * n
size_most n = go (ltb 0 n) refl
  where
    go : (t : Bool) → ltb 0 n ≡ t → fourth_size n ≤ 2 + 4 * n
    go true e = omega (arith, some_size n (ltb-true 0 n e))
    go false e = let z : n ≡ 0 = omega (arith, ltb-false 0 n e) in omega (arith, no_size n z)

pub offset_most : (r s q n : ℕ) → fourth_from r s q n ≤ streams_end r s q
offset_most r s q n = go (ltb 0 n) refl
  where
    go : (t : Bool) → ltb 0 n ≡ t → fourth_from r s q n ≤ streams_end r s q
    go true e = omega (arith, some_offset r s q n (ltb-true 0 n e))
    go false e = let z : n ≡ 0 = omega (arith, ltb-false 0 n e) in omega (arith, no_offset r s q n z)

-- two bytes a word
pub fourth_length : (I : Instance) → 2 * length (fourth_words I) ≡ fourth_size (pair_count I)
fourth_length I = go (ltb 0 (pair_count I)) refl
  where
    go : (t : Bool) → ltb 0 (pair_count I) ≡ t → 2 * length (fourth_words I) ≡ fourth_size (pair_count I)
    go true e =
        let h = ltb-true 0 (pair_count I) e in
        rw (some_words I h) (omega (arith, some_size (pair_count I) h, pairs_length I))
    go false e =
        let z : pair_count I ≡ 0 = omega (arith, ltb-false 0 (pair_count I) e) in
        rw (no_words I z) (omega (arith, no_size (pair_count I) z))
