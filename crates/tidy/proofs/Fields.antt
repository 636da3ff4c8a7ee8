-- What is read of a tidy copy: its header and each of its records. None of this asks that the instance be well formed.
use Prim.Native.Nat.{ℕ, suc, ◌+◌, ◌*◌, ◌≤◌, ◌<◌}
use native.Mathlib.Omega.{arith}
use mathlib.Core.Path.{◌≡◌, refl, sym, ap, ap₂, ◌∙◌}
use mathlib.Core.Bool.{Bool, true, false, ◌&&◌}
use mathlib.Core.List.{List, ◌∷◌, ◌++◌, append_assoc}
use lib.Dec.{eqb, ltb, leb}
use lib.ListN.{length, get_or, drop}
use lib.Seq.{get_or-append-add}
use borrow.Author.Tests.{ltb-true, ltb-false, lt-ltb, le-leb}
use Rattle.finite.specs.Below.{only}
use Rattle.finite.proofs.Tests.{any_ext}
use Rattle.sheet.specs.Layout.{word_at, header_size, length_word, eighth_word, pairs_count, header, service_in, cabinet_in, stream_in, pair_in, service, cabinet, stream, pair}
use Rattle.sheet.specs.Instance.{Instance, names, some_names}
use Rattle.sheet.specs.Inner.Fields.{service_of, cabinet_of, stream_of}
use Rattle.sheet.specs.declared.Sheet.{Sheet}
use Rattle.sheet.specs.declared.Pair.{Pair}
use Rattle.tidy.specs.Words.{from_words}
use Rattle.tidy.specs.Copy.{cabinets_from, streams_from, fourth_from, copy_length, service_words, cabinet_words, stream_words, pair_words, pair_count, fourth_words, tidy_words, tidied}
use Rattle.tidy.proofs.Concat.{rejoined, part_read, field_read}
use Rattle.tidy.proofs.Barred.{pair_among}
use Rattle.tidy.proofs.Fourth.{no_offset, some_offset, some_size, some_words}
use Rattle.tidy.proofs.Lengths.{head, services, cabinets, streams, cabinets_ahead, streams_ahead, fourth_ahead, copied_length}

-- what the header of the copy says
abbrev pub tidy_sheet : Instance → Sheet
tidy_sheet I =
    record {
      services = I.r;
      cabinets = I.s;
      streams = I.q;
      services_at = header_size;
      cabinets_at = cabinets_from I.r;
      streams_at = streams_from I.r I.s;
      pairs = pair_count I;
      pairs_at = fourth_from I.r I.s I.q (pair_count I);
    }

module _ (I : Instance) where
  -- ---- the fourth block

  abbrev eighth : ℕ
  eighth = fourth_from I.r I.s I.q (pair_count I)

  -- word k of it
  fourth_read : (k x : ℕ) → 0 < pair_count I → x ≡ 2 * k → word_at (drop eighth (tidied I)) x ≡ get_or (pair_count I ∷ pair_words I) k 0
  unfolding tidied tidy_words
  fourth_read k x h e =
      let ahead = head I ++ services I ++ cabinets I ++ streams I in
      let at : eighth ≡ 2 * length ahead = omega (arith, some_offset I.r I.s I.q (pair_count I) h, fourth_ahead I) in
      ap₂ (λ (u v : ℕ). word_at (drop u (from_words (ahead ++ fourth_words I))) v) at e
      ∙ part_read (ahead ++ fourth_words I) (length ahead) k
      ∙ get_or-append-add ahead (fourth_words I) k 0
      ∙ ap (λ (ws : List ℕ). get_or ws k 0) (some_words I h)

  -- its count; 0 without a block
  count_read : pairs_count eighth (tidied I) ≡ pair_count I
  unfolding pairs_count only
  count_read = go (ltb 0 (pair_count I)) refl
    where
      go : (t : Bool) → ltb 0 (pair_count I) ≡ t → only (ltb 0 eighth && leb (eighth + 2) (length (tidied I))) (word_at (drop eighth (tidied I)) 0) ≡ pair_count I
      go true e =
          let h : 0 < pair_count I = ltb-true 0 (pair_count I) e in
          let o = some_offset I.r I.s I.q (pair_count I) h in
          let l : eighth + 2 ≤ length (tidied I) = omega (arith, o, some_size (pair_count I) h, copied_length I) in
          let z : 0 < eighth = omega (arith, o) in
          rw (lt-ltb 0 eighth z, le-leb (eighth + 2) (length (tidied I)) l) (fourth_read 0 0 h (omega arith))
      go false e =
          let z : pair_count I ≡ 0 = omega (arith, ltb-false 0 (pair_count I) e) in
          rw (no_offset I.r I.s I.q (pair_count I) z) (sym z)

  -- pair n of it
  pub pair_read : (n : ℕ) → 0 < pair_count I
      → pair (tidy_sheet I) (tidied I) n ≡ record { service = get_or (pair_words I) (2 * n) 0; cabinet = get_or (pair_words I) (2 * n + 1) 0 }
  unfolding pair pair_in
  pair_read n h =
      let a = fourth_read (2 * n + 1) (4 * n + 2) h (omega arith)
      ∙ ap (λ (k : ℕ). get_or (pair_count I ∷ pair_words I) k 0) (let q : 2 * n + 1 ≡ suc (2 * n) = omega arith in q) in
      let b = fourth_read (2 * n + 2) (4 * n + 4) h (omega arith)
      ∙ ap (λ (k : ℕ). get_or (pair_count I ∷ pair_words I) k 0) (let q : 2 * n + 2 ≡ suc (2 * n + 1) = omega arith in q) in
      λ k. record { service = a k; cabinet = b k }

  -- what its pairs name
  pub names_read : (i c : ℕ) → some_names (pair_count I) (pair (tidy_sheet I) (tidied I)) i c ≡ pair_among (pair_count I) (pair_words I) i c
  unfolding some_names names pair_among
  names_read i c =
      any_ext (pair_count I) _ _ (λ n h. ap (λ (p : Pair). eqb p.service i && eqb p.cabinet c) (pair_read n (omega arith)))

  -- ---- the header

  pub eighth_read : eighth_word (tidied I) ≡ eighth
  unfolding tidied tidy_words
  eighth_read = rejoined eighth

  pub header_read : header (tidied I) ≡ tidy_sheet I
  unfolding header tidied tidy_words
  header_read =
      let r = rejoined I.r in
      let s = rejoined I.s in
      let q = rejoined I.q in
      let c = rejoined (cabinets_from I.r) in
      let t = rejoined (streams_from I.r I.s) in
      let p = eighth_read in
      let n = ap (λ (at : ℕ). pairs_count at (tidied I)) p ∙ count_read in
      λ k. record {
        services = r k;
        cabinets = s k;
        streams = q k;
        services_at = header_size;
        cabinets_at = c k;
        streams_at = t k;
        pairs = n k;
        pairs_at = p k;
      }

  pub length_read : length_word (tidied I) ≡ copy_length I
  unfolding tidied tidy_words
  length_read = rejoined (copy_length I)

  -- ---- the records

  -- field t of service i, at a place in bytes
  service_field : (i t x : ℕ) → i < I.r → t < 1 → x ≡ 2 * (1 * i + t) → word_at (drop header_size (tidied I)) x ≡ get_or (service_words I i) t 0
  unfolding tidied tidy_words
  service_field i t x h k e =
      ap (λ (ws : List ℕ). word_at (drop header_size (from_words ws)) x)
      (append_assoc (head I ++ services I ++ cabinets I) (streams I) (fourth_words I) ∙ append_assoc (head I ++ services I) (cabinets I) (streams I ++ fourth_words I))
      ∙ field_read 1 (service_words I) (λ i. refl) (head I) (cabinets I ++ (streams I ++ fourth_words I)) I.r i t header_size x h k refl e

  cabinet_field : (c t x : ℕ) → c < I.s → t < 7 → x ≡ 2 * (7 * c + t) → word_at (drop (cabinets_from I.r) (tidied I)) x ≡ get_or (cabinet_words I c) t 0
  unfolding tidied tidy_words
  cabinet_field c t x h k e =
      ap (λ (ws : List ℕ). word_at (drop (cabinets_from I.r) (from_words ws)) x) (append_assoc (head I ++ services I ++ cabinets I) (streams I) (fourth_words I))
      ∙ field_read 7 (cabinet_words I) (λ c. refl) (head I ++ services I) (streams I ++ fourth_words I) I.s c t (cabinets_from I.r) x h k (omega (arith, cabinets_ahead I)) e

  stream_field : (j t x : ℕ) → j < I.q → t < 3 → x ≡ 2 * (3 * j + t) → word_at (drop (streams_from I.r I.s) (tidied I)) x ≡ get_or (stream_words I j) t 0
  unfolding tidied tidy_words
  stream_field j t x h k e =
      field_read 3 (stream_words I) (λ j. refl) (head I ++ services I ++ cabinets I) (fourth_words I) I.q j t (streams_from I.r I.s) x h k (omega (arith, streams_ahead I)) e

  pub service_read : (i : ℕ) → i < I.r → service (tidy_sheet I) (tidied I) i ≡ service_of I i
  unfolding service service_in
  service_read i h = let d = service_field i 0 (2 * i) h (omega arith) (omega arith) in λ k. record { demand = d k }

  pub cabinet_read : (c : ℕ) → c < I.s → cabinet (tidy_sheet I) (tidied I) c ≡ cabinet_of I c
  unfolding cabinet cabinet_in
  cabinet_read c h =
      let f0 = cabinet_field c 0 (14 * c) h (omega arith) (omega arith) in
      let f1 = cabinet_field c 1 (14 * c + 2) h (omega arith) (omega arith) in
      let f2 = cabinet_field c 2 (14 * c + 4) h (omega arith) (omega arith) in
      let f3 = cabinet_field c 3 (14 * c + 6) h (omega arith) (omega arith) in
      let f4 = cabinet_field c 4 (14 * c + 8) h (omega arith) (omega arith) in
      let f5 = cabinet_field c 5 (14 * c + 10) h (omega arith) (omega arith) in
      let f6 = cabinet_field c 6 (14 * c + 12) h (omega arith) (omega arith) in
      λ k. record {
        parent = f0 k;
        capacity = f1 k;
        price = f2 k;
        up_capacity = f3 k;
        up_price = f4 k;
        down_capacity = f5 k;
        down_price = f6 k;
      }

  pub stream_read : (j : ℕ) → j < I.q → stream (tidy_sheet I) (tidied I) j ≡ stream_of I j
  unfolding stream stream_in
  stream_read j h =
      let f0 = stream_field j 0 (6 * j) h (omega arith) (omega arith) in
      let f1 = stream_field j 1 (6 * j + 2) h (omega arith) (omega arith) in
      let f2 = stream_field j 2 (6 * j + 4) h (omega arith) (omega arith) in
      λ k. record { from = f0 k; to = f1 k; demand = f2 k }
