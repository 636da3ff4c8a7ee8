-- The barred pairs, put one behind the other: what room they take, and one pair more.
use Prim.Native.Nat.{ℕ, ◌+◌, ◌*◌, ◌≤◌, ◌<◌}
use native.Mathlib.Omega.{arith}
use mathlib.Core.Path.{◌≡◌, sym, ap, ◌∙◌}
use mathlib.Core.Bool.{true, false}
use mathlib.Core.List.{List, [], ◌∷◌}
use lib.ListN.{length}
use Rattle.finite.specs.Below.{only, sum_below}
use Rattle.finite.proofs.Sums.{sum_start, sum_next, sum_part}
use Rattle.sheet.specs.Instance.{Instance}
use Rattle.tidy.specs.Words.{concat_below}
use Rattle.tidy.specs.Copy.{pair_if, service_pairs, service_count, pair_count}
use Rattle.tidy.specs.Inner.Put.{put}
use Rattle.tidy.proofs.Barred.{pieces_length, pair_length, service_length}
use Rattle.tidy.proofs.Put.{put_none, record_start, record_next}

-- so many services have their pairs in the bytes from a byte on, and the next place is behind them
pub record Through (I : Instance) (bytes : List ℕ) (at i next : ℕ) (out : List ℕ) : Type 0 where
  pub place : next ≡ at + 4 * sum_below i (service_count I)
  pub bytes_put : out ≡ put bytes at (concat_below i (service_pairs I))

-- so many cabinets have their pairs with service i there
pub record Within (I : Instance) (bytes : List ℕ) (at i c next : ℕ) (out : List ℕ) : Type 0 where
  pub place : next ≡ at + 4 * sum_below c (λ d. only (I.barred i d) 1)
  pub bytes_put : out ≡ put bytes at (concat_below c (λ d. pair_if (I.barred i d) i d))

-- ---- one service

module _ (I : Instance) (bytes : List ℕ) (at i : ℕ) where
  pub within_start : Within I bytes at i 0 at bytes
  within_start = record { place = omega (arith, sum_start (λ d. only (I.barred i d) 1)); bytes_put = record_start _ _ _ }

  module _ (c next : ℕ) (out : List ℕ) (w : Within I bytes at i c next out) (l : c < I.s) where
    -- the pair with cabinet c has room behind those before it
    pair_room : next + 4 * only (I.barred i c) 1 ≤ at + 4 * service_count I i
    unfolding service_count
    pair_room =
        let f = λ (d : ℕ). only (I.barred i d) 1 in
        omega (arith, w.place, sum_next c f, sum_part (c + 1) I.s f (omega arith))

    taken_room : I.barred i c ≡ true → next + 4 ≤ at + 4 * service_count I i
    unfolding only
    taken_room e = rw e at pair_room

    module _ (room : at + 4 * service_count I i ≤ length bytes) where
      within_next : Within I bytes at i (c + 1) (next + 4 * only (I.barred i c) 1) (put out next (pair_if (I.barred i c) i c))
      within_next =
          let f = λ (d : ℕ). only (I.barred i d) 1 in
          let g = λ (d : ℕ). pair_if (I.barred i d) i d in
          let k = pieces_length g f (λ d. pair_length (I.barred i d) i d) c in
          record {
            place = omega (arith, w.place, sum_next c f);
            bytes_put = ap (λ (o : List ℕ). put o next (g c)) w.bytes_put ∙ record_next g bytes at c next (omega (arith, k, w.place, pair_room, room)) (omega (arith, k, w.place));
          }

      module _ (next' : ℕ) (out' : List ℕ) where
        -- it is barred
        pub within_taken : I.barred i c ≡ true → next' ≡ next + 4 → out' ≡ put out next (i ∷ c ∷ []) → Within I bytes at i (c + 1) next' out'
        unfolding only
        within_taken e n o =
            let t = rw e at within_next in
            record { place = omega (arith, t.place, n); bytes_put = o ∙ t.bytes_put }

        -- it is not
        pub within_passed : I.barred i c ≡ false → next' ≡ next → out' ≡ out → Within I bytes at i (c + 1) next' out'
        unfolding only
        within_passed e n o =
            let t = rw e at within_next in
            record { place = omega (arith, t.place, n); bytes_put = o ∙ sym (put_none out next) ∙ t.bytes_put }

-- ---- all services

module _ (I : Instance) (bytes : List ℕ) (at : ℕ) where
  pub through_start : Through I bytes at 0 at bytes
  through_start = record { place = omega (arith, sum_start (service_count I)); bytes_put = record_start _ _ _ }

  module _ (i next : ℕ) (out : List ℕ) (t : Through I bytes at i next out) (room : at + 4 * pair_count I ≤ length bytes) (l : i < I.r) where
    so_far : sum_below i (service_count I) + service_count I i ≤ pair_count I
    unfolding pair_count
    so_far = omega (arith, sum_next i (service_count I), sum_part (i + 1) I.r (service_count I) (omega arith))

    -- the pairs of service i have room behind those before it
    pub service_room : next + 4 * service_count I i ≤ length bytes
    service_room = omega (arith, t.place, so_far, room)

    pub pair_fits : (c next' : ℕ) (out' : List ℕ) → Within I out next i c next' out' → c < I.s → I.barred i c ≡ true → next' + 4 ≤ length bytes
    pair_fits c next' out' w h e = omega (arith, taken_room I out next i c next' out' w h e, service_room)

    pub through_next : (next' : ℕ) (out' : List ℕ) → Within I out next i I.s next' out' → Through I bytes at (i + 1) next' out'
    unfolding service_pairs service_count
    through_next next' out' w =
        let k = pieces_length (service_pairs I) (service_count I) (service_length I) i in
        record {
          place = omega (arith, w.place, t.place, sum_next i (service_count I));
          bytes_put = w.bytes_put ∙ ap (λ (o : List ℕ). put o next (service_pairs I i)) t.bytes_put
              ∙ record_next (service_pairs I) bytes at i next (omega (arith, k, so_far, room)) (omega (arith, k, t.place));
        }
