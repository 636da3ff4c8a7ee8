-- Records whose fields stand in columns: one field more of a record, and one record more of so many.
use Rattle.std.proofs.Common.{ℕ, ◌≡◌, ◌+◌, ◌*◌, ◌≤◌, ◌<◌, List, [], ◌∷◌, Bor, length, get_or, take, ap, sym, ◌∙◌, arith}
use Rattle.std.proofs.lemmas.List.{take_more, map-append, length-map, length-take-le}
use native.Mathlib.Nat.{mul-le-mul_left}
use lib.Dec.{ltb}
use Rattle.finite.specs.Below.{only}
use Rattle.tidy.specs.Words.{concat_below}
use Rattle.tidy.specs.Inner.Put.{put}
use Rattle.tidy.specs.Inner.Columns.{row}
use Rattle.tidy.proofs.Concat.{concat_length}
use Rattle.tidy.proofs.Put.{put_more, record_next}

module _ (count i : ℕ) (columns : List (Bor (List ℕ))) where
  row_length : length (row count columns i) ≡ length columns
  unfolding row
  row_length = length-map columns (λ column. only (ltb i count) (get_or column.now i 0))

module _ (bytes : List ℕ) (at count : ℕ) (columns : List (Bor (List ℕ))) where
  -- a turn of the loop over columns
  pub field_next : (i k : ℕ) (none : Bor (List ℕ)) → k < length columns → at + 2 * length columns ≤ length bytes
      → put (put bytes at (row count (take k columns) i)) (at + 2 * k) (only (ltb i count) (get_or (get_or columns k none).now i 0) ∷ [])
      ≡ put bytes at (row count (take (k + 1) columns) i)
  unfolding row
  field_next i k none l h =
      let n : length (row count (take k columns) i) ≡ k = row_length count i (take k columns) ∙ length-take-le k columns (omega arith) in
      put_more bytes at (row count (take k columns) i) (omega arith) _ (at + 2 * k) (omega arith)
      ∙ ap (put bytes at) (sym (map-append (λ column. only (ltb i count) (get_or column.now i 0)) (take k columns) (get_or columns k none ∷ []))
      ∙ ap (λ (c : List (Bor (List ℕ))). row count c i) (sym (take_more columns k none l)))

  -- a turn of the loop over records
  pub row_next : (i : ℕ) → i < count → at + 2 * (length columns * count) ≤ length bytes
      → put (put bytes at (concat_below i (row count columns))) (at + 2 * (length columns * i)) (row count columns i)
      ≡ put bytes at (concat_below (i + 1) (row count columns))
  row_next i l h =
      let n = concat_length (length columns) (row count columns) (λ j. row_length count j columns) i in
      let m : length columns * i ≤ length columns * count = mul-le-mul_left (length columns) (omega arith) in
      record_next (row count columns) bytes at i (at + 2 * (length columns * i)) (omega (arith, n)) (omega (arith, n))
