-- What the code relies on once a test has failed: counts within their limits, and blocks within the bytes.
use Rattle.std.specs.Prelude.{ℕ, ◌+◌, ◌≤◌, ◌<◌}
use Rattle.sheet.specs.Limits.{max_services, max_cabinets, max_streams}
use Rattle.sheet.specs.Layout.{services_size, cabinets_size, streams_size, pairs_size}
use Rattle.sheet.specs.declared.Sheet.{Sheet}

-- counts within their limits, and offsets and the count of pairs that are words: no sum of an offset and a size is too large for the code
pub record Bounded (h : Sheet) : Type 0 where
  pub services : h.services ≤ max_services
  pub some_cabinet : 1 ≤ h.cabinets
  pub cabinets : h.cabinets ≤ max_cabinets
  pub streams : h.streams ≤ max_streams
  pub services_at : h.services_at < 65536
  pub cabinets_at : h.cabinets_at < 65536
  pub streams_at : h.streams_at < 65536
  pub pairs : h.pairs < 65536
  pub pairs_at : h.pairs_at < 65536

-- each of the first three blocks lies within so many bytes
pub record Inside (h : Sheet) (len : ℕ) : Type 0 where
  pub services : h.services_at + services_size h ≤ len
  pub cabinets : h.cabinets_at + cabinets_size h ≤ len
  pub streams : h.streams_at + streams_size h ≤ len

-- so does the fourth; where there is none, a count of no pairs would fit
abbrev pub PairsInside : Sheet → ℕ → Type 0
PairsInside h len = h.pairs_at + pairs_size h ≤ len
