-- Two sheets agree: their records are the same, record by record, and their barred pairs as a set.
use Rattle.std.specs.Prelude.{ℕ, ◌↔◌, ◌≡◌, true, List}
use Rattle.sheet.specs.Records.{service_record, cabinet_record, stream_record, pair_record, bars}
use Rattle.sheet.specs.declared.Sheet.{Sheet}

-- some pair of the sheet names service i and cabinet c
abbrev pub Named : Sheet → List ℕ → ℕ → ℕ → Type 0
Named h bytes i c = (n : ℕ) × (bars (pair_record h bytes n) i c ≡ true)

-- what the calls for a record give of the one sheet they give of the other, for every number, and each bars what the other does
pub record Agree (h : Sheet) (bytes : List ℕ) (k : Sheet) (others : List ℕ) : Type 0 where
  pub services : h.services ≡ k.services
  pub cabinets : h.cabinets ≡ k.cabinets
  pub streams : h.streams ≡ k.streams
  pub service : (i : ℕ) → service_record h bytes i ≡ service_record k others i
  pub cabinet : (c : ℕ) → cabinet_record h bytes c ≡ cabinet_record k others c
  pub stream : (j : ℕ) → stream_record h bytes j ≡ stream_record k others j
  pub pairs : (i c : ℕ) → Named h bytes i c ↔ Named k others i c
