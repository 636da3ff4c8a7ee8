-- Rows of keys in a table of those that are kept, cabinet d as row d % rows: no two of the cabinets in a run of so many share a row.
use Prim.Native.Nat.{ℕ, zero, suc, ◌+◌, ◌-◌, ◌*◌, ◌/◌, ◌%◌, ◌≤◌, ◌<◌}
use native.Mathlib.Nat.{mul-le-mul, mul-le-mul_right, mod-lt, div-add-mod'}
use native.Mathlib.Omega.{arith}
use native.Mathlib.Decide.{dec_lt}
use mathlib.Core.Path.{◌≡◌}
use mathlib.Core.List.{List}
use lib.ListN.{length}
use Rattle.subsets.specs.declared.Key.{Key}
use Rattle.sheet.specs.Limits.{max_cabinets}
use Rattle.rows.specs.Charges.{max_sets}

-- the places of all rows of keys that are kept
abbrev pub key_places : ℕ
key_places = 2 * max_sets

-- the row of a cabinet lies within the table
pub slot_in : (size rows c : ℕ) (g : List Key) → 0 < rows → rows * size ≤ length g → c % rows * size + size ≤ length g
slot_in size rows c g z h =
    let l : suc (c % rows) ≤ rows = mod-lt c z in
    omega (arith, mul-le-mul_right {m = suc (c % rows)} {n = rows} size l)

-- and it begins no later than a table of rows for all cabinets ends
pub slot_small : (size rows c : ℕ) → c < max_cabinets → size ≤ max_sets → 0 < rows → c % rows * size ≤ max_cabinets * max_sets
slot_small size rows c h l z =
    let q : c % rows ≤ max_cabinets = omega (arith, div-add-mod' c rows) in
    mul-le-mul {n₁ = c % rows} {m₁ = size} {n₂ = max_cabinets} {m₂ = max_sets} q l

-- another cabinet of the run has another row
pub slot_apart : (rows p d : ℕ) → 0 < rows → p < d → d - p < rows → d % rows ≡ p % rows → ⊥
slot_apart rows p d z h l e = apart (d / rows) (p / rows) (div-add-mod' d rows) (div-add-mod' p rows)
  where
    apart : (a b : ℕ) → a * rows + d % rows ≡ d → b * rows + p % rows ≡ p → ⊥
    apart a b f g = go (dec_lt b a)
      where
        go : Dec (b < a) → ⊥
        go (yes m) = omega (arith, f, g, e, mul-le-mul_right {m = suc b} {n = a} rows m)
        go (no m) = omega (arith, f, g, e, mul-le-mul_right {m = a} {n = b} rows (let y : a ≤ b = omega arith in y))

-- as many rows as fit are two at least
pub rows_kept : (size : ℕ) → 0 < size → size ≤ max_sets → (2 ≤ key_places / size) × (key_places / size * size ≤ key_places)
rows_kept size z h = go (key_places / size) (div-add-mod' key_places size) (mod-lt key_places z)
  where
    go : (rows : ℕ) → rows * size + key_places % size ≡ key_places → key_places % size < size → (2 ≤ rows) × (rows * size ≤ key_places)
    go zero e l = absurd (omega arith)
    go (suc zero) e l = absurd (omega arith)
    go (suc (suc n)) e l = (omega arith, omega arith)
