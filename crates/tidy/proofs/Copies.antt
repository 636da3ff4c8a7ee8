-- The instance of a tidy copy is the one copied.
use Prim.Native.Nat.{ℕ, ◌<◌}
use mathlib.Core.Path.{◌≡◌, refl, sym, ap, ◌∙◌}
use mathlib.Core.Bool.{Bool, true, false, ◌&&◌}
use lib.Dec.{eqb, ltb}
use borrow.Author.Tests.{ltb-true}
use Rattle.finite.specs.Below.{only}
use Rattle.sheet.specs.Layout.{service, cabinet, stream, pair}
use Rattle.sheet.specs.Instance.{Instance, WellFormed, some_names, is_joint, instance}
use Rattle.sheet.specs.Said.{ByCapacity, Said}
use Rattle.sheet.specs.declared.Service.{Service}
use Rattle.sheet.specs.declared.Cabinet.{Cabinet}
use Rattle.sheet.specs.declared.Stream.{Stream}
use Rattle.sheet.proofs.Promises.{padded, field_at, only_there}
use Rattle.sheet.proofs.Same.{Alike, same_instance}
use Rattle.tidy.specs.Copy.{pair_count, tidied}
use Rattle.tidy.proofs.Barred.{pairs_named}
use Rattle.tidy.proofs.Fields.{tidy_sheet, header_read, service_read, cabinet_read, stream_read, names_read}

-- a field of a record that is there
below : (n : ℕ) (f : ℕ → ℕ) (d m : ℕ) → d < n → f d ≡ m → only (ltb d n) (f d) ≡ m
below n f d m k e = field_at n f d k ∙ e

module _ (I : Instance) (W : WellFormed I) where
  abbrev cab : ℕ → Cabinet
  cab c = cabinet (tidy_sheet I) (tidied I) c

  abbrev str : ℕ → Stream
  str j = stream (tidy_sheet I) (tidied I) j

  -- the pairs of the copy name what the instance bars
  named : (i c : ℕ) → some_names (pair_count I) (pair (tidy_sheet I) (tidied I)) i c ≡ I.barred i c
  named i c = names_read I i c ∙ pairs_named I i c ∙ only_there i c I.r I.s (I.barred i c) (W.bars i c)

  bars : (i c : ℕ) → (ltb i I.r && ltb c I.s) && some_names (pair_count I) (pair (tidy_sheet I) (tidied I)) i c ≡ I.barred i c
  bars i c = ap (λ (t : Bool). (ltb i I.r && ltb c I.s) && t) (named i c) ∙ only_there i c I.r I.s (I.barred i c) (W.bars i c)

  -- and its cabinets of capacity 0 are the joints
  joints : ByCapacity I → (c : ℕ) → ltb c I.s && is_joint (cab c) ≡ I.joint c
  unfolding is_joint
  joints B c = go (ltb c I.s) refl ∙ sym (B c)
    where
      go : (t : Bool) → ltb c I.s ≡ t → t && eqb (cab c).capacity 0 ≡ t && eqb (I.capacity c) 0
      go true e = ap (λ (x : Cabinet). eqb x.capacity 0) (cabinet_read I c (ltb-true c I.s e))
      go false e = refl

  alike : ByCapacity I → Alike (instance (tidied I)) I
  unfolding instance
  alike B =
      rw header_read
      (record {
        r = refl;
        s = refl;
        q = refl;
        demand = λ i k. below I.r (λ d. (service (tidy_sheet I) (tidied I) d).demand) i _ k (ap (λ (x : Service). x.demand) (service_read I i k));
        parent = λ c k. below I.s (λ d. (cab d).parent) c _ k (ap (λ (x : Cabinet). x.parent) (cabinet_read I c k));
        capacity = λ c k. below I.s (λ d. (cab d).capacity) c _ k (ap (λ (x : Cabinet). x.capacity) (cabinet_read I c k));
        price = λ c k. below I.s (λ d. (cab d).price) c _ k (ap (λ (x : Cabinet). x.price) (cabinet_read I c k));
        up_capacity = λ c k. below I.s (λ d. (cab d).up_capacity) c _ k (ap (λ (x : Cabinet). x.up_capacity) (cabinet_read I c k));
        up_price = λ c k. below I.s (λ d. (cab d).up_price) c _ k (ap (λ (x : Cabinet). x.up_price) (cabinet_read I c k));
        down_capacity = λ c k. below I.s (λ d. (cab d).down_capacity) c _ k (ap (λ (x : Cabinet). x.down_capacity) (cabinet_read I c k));
        down_price = λ c k. below I.s (λ d. (cab d).down_price) c _ k (ap (λ (x : Cabinet). x.down_price) (cabinet_read I c k));
        from = λ j k. below I.q (λ d. (str d).from) j _ k (ap (λ (x : Stream). x.from) (stream_read I j k));
        to = λ j k. below I.q (λ d. (str d).to) j _ k (ap (λ (x : Stream). x.to) (stream_read I j k));
        load = λ j k. below I.q (λ d. (str d).demand) j _ k (ap (λ (x : Stream). x.demand) (stream_read I j k));
        barred = bars;
        joint = joints B;
      })

  -- where it has nothing but its records
  pub same_copy : Said I → instance (tidied I) ≡ I
  same_copy S = same_instance (instance (tidied I)) I (alike S.joints) (padded (tidied I)) S.padded
