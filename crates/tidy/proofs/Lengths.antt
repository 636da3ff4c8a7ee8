-- How long the blocks of a copy are, and what stands before each.
use Prim.Native.Nat.{ℕ, ◌+◌, ◌*◌}
use native.Mathlib.Omega.{arith}
use mathlib.Core.Path.{◌≡◌, refl}
use mathlib.Core.List.{List, ◌++◌}
use lib.ListN.{length, length-append}
use Rattle.sheet.specs.Instance.{Instance}
use Rattle.tidy.specs.Words.{concat_below}
use Rattle.tidy.specs.Copy.{copy_length, header_words, service_words, cabinet_words, stream_words, pair_count, fourth_words, tidy_words, tidied}
use Rattle.tidy.proofs.Concat.{bytes_length, concat_length}
use Rattle.tidy.proofs.Fourth.{fourth_length}

module _ (I : Instance) where
  -- the header and the blocks, in words
  abbrev pub head : List ℕ
  head = header_words I.r I.s I.q (pair_count I)

  abbrev pub services : List ℕ
  services = concat_below I.r (service_words I)

  abbrev pub cabinets : List ℕ
  cabinets = concat_below I.s (cabinet_words I)

  abbrev pub streams : List ℕ
  streams = concat_below I.q (stream_words I)

  services_long : length services ≡ 1 * I.r
  services_long = concat_length 1 (service_words I) (λ i. refl) I.r

  cabinets_long : length cabinets ≡ 7 * I.s
  cabinets_long = concat_length 7 (cabinet_words I) (λ c. refl) I.s

  streams_long : length streams ≡ 3 * I.q
  streams_long = concat_length 3 (stream_words I) (λ j. refl) I.q

  -- words before the cabinets
  pub cabinets_ahead : length (head ++ services) ≡ 8 + I.r
  cabinets_ahead = omega (arith, length-append head services, services_long)

  -- words before the streams
  pub streams_ahead : length (head ++ services ++ cabinets) ≡ 8 + I.r + 7 * I.s
  streams_ahead = omega (arith, length-append (head ++ services) cabinets, cabinets_ahead, cabinets_long)

  -- words before the fourth block
  pub fourth_ahead : length (head ++ services ++ cabinets ++ streams) ≡ 8 + I.r + 7 * I.s + 3 * I.q
  fourth_ahead = omega (arith, length-append (head ++ services ++ cabinets) streams, streams_ahead, streams_long)

  -- all words of the copy
  pub words_length : 2 * length (tidy_words I) ≡ copy_length I
  unfolding tidy_words
  words_length = omega (arith, length-append (head ++ services ++ cabinets ++ streams) (fourth_words I), fourth_ahead, fourth_length I)

  -- all its bytes
  pub copied_length : length (tidied I) ≡ copy_length I
  unfolding tidied
  copied_length = omega (arith, bytes_length (tidy_words I), words_length)
