-- Records whose fields stand in columns, one column for each field.
use Rattle.std.specs.Prelude.{ℕ, List, get_or, map, ltb}
use Rattle.std.specs.Borrow.{Bor}
use Rattle.finite.specs.Below.{only}

-- the fields of record i of so many; 0 where there is no such record
unfoldable pub row : ℕ → List (Bor (List ℕ)) → ℕ → List ℕ
row count columns i = map (λ column. only (ltb i count) (get_or column.now i 0)) columns
