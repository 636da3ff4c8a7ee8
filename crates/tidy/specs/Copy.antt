-- The tidy copy of a sheet, made from its instance alone: header, services, cabinets, streams and barred pairs, without gaps.
use Rattle.std.specs.Prelude.{ℕ, ◌+◌, ◌*◌, Bool, true, false, cond, List, [], ◌∷◌, ◌++◌, ltb}
use Rattle.finite.specs.Below.{only, sum_below}
use Rattle.sheet.specs.Layout.{header_size}
use Rattle.sheet.specs.Instance.{Instance}
use Rattle.tidy.specs.Words.{from_words, concat_below}

-- where the cabinets and the streams start; a block without records has the offset where it would stand
abbrev pub cabinets_from : ℕ → ℕ
cabinets_from r = header_size + 2 * r

abbrev pub streams_from : ℕ → ℕ → ℕ
streams_from r s = cabinets_from r + 14 * s

-- where the streams end, and the fourth block starts if there is one
abbrev pub streams_end : ℕ → ℕ → ℕ → ℕ
streams_end r s q = streams_from r s + 6 * q

-- the bytes of the fourth block, for n barred pairs and their count; without a pair there is no block
unfoldable pub fourth_size : ℕ → ℕ
fourth_size n = only (ltb 0 n) (2 + 4 * n)

-- the eighth word: where the fourth block starts, and 0 without a pair
unfoldable pub fourth_from : ℕ → ℕ → ℕ → ℕ → ℕ
fourth_from r s q n = only (ltb 0 n) (streams_end r s q)

-- the length of a copy with n barred pairs
abbrev pub length_with : ℕ → ℕ → ℕ → ℕ → ℕ
length_with r s q n = streams_end r s q + fourth_size n

-- the words of the header
abbrev pub header_words : ℕ → ℕ → ℕ → ℕ → List ℕ
header_words r s q n =
    r ∷ s ∷ q ∷ header_size ∷ cabinets_from r ∷ streams_from r s ∷ length_with r s q n ∷ fourth_from r s q n ∷ []

-- the words of a pair where it is barred
abbrev pub pair_if : Bool → ℕ → ℕ → List ℕ
pair_if true i c = i ∷ c ∷ []
pair_if false i c = []

module _ (I : Instance) where
  -- the words of each record
  abbrev pub service_words : ℕ → List ℕ
  service_words i = I.demand i ∷ []

  abbrev pub cabinet_words : ℕ → List ℕ
  cabinet_words c =
      I.parent c ∷ I.capacity c ∷ I.price c ∷ I.up_capacity c ∷ I.up_price c ∷ I.down_capacity c ∷ I.down_price c ∷ []

  abbrev pub stream_words : ℕ → List ℕ
  stream_words j = I.from j ∷ I.to j ∷ I.load j ∷ []

  -- the pairs of service i, by rising cabinet
  unfoldable pub service_pairs : ℕ → List ℕ
  service_pairs i = concat_below I.s (λ c. pair_if (I.barred i c) i c)

  -- all barred pairs in rising order, service before cabinet, each once
  unfoldable pub pair_words : List ℕ
  pair_words = concat_below I.r service_pairs

  -- how many they are
  unfoldable pub service_count : ℕ → ℕ
  service_count i = sum_below I.s (λ c. only (I.barred i c) 1)

  unfoldable pub pair_count : ℕ
  pair_count = sum_below I.r service_count

  -- the fourth block: their count and the pairs; without a pair there is none
  unfoldable pub fourth_words : List ℕ
  fourth_words = cond (ltb 0 pair_count) (pair_count ∷ pair_words) []

  -- all words of the copy
  unfoldable pub tidy_words : List ℕ
  tidy_words =
      header_words I.r I.s I.q pair_count
      ++ concat_below I.r service_words
      ++ concat_below I.s cabinet_words
      ++ concat_below I.q stream_words
      ++ fourth_words

  -- the copy's length in bytes
  abbrev pub copy_length : ℕ
  copy_length = length_with I.r I.s I.q pair_count

  -- the copy's bytes
  unfoldable pub tidied : List ℕ
  tidied = from_words tidy_words
