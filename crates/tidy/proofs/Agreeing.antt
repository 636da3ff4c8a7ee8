-- Two accepted sheets agree exactly when their instances are the same.
use Prim.Native.Nat.{ℕ, ◌+◌, ◌*◌, ◌≤◌, ◌<◌}
use native.Mathlib.Omega.{arith}
use mathlib.Core.Logic.{◌↔◌}
use mathlib.Core.Path.{◌≡◌, refl, sym, ap, ◌∙◌}
use mathlib.Core.Bool.{Bool, true, false, ◌&&◌, cond}
use mathlib.Core.List.{List}
use lib.Dec.{ltb, leb}
use lib.ListN.{length}
use borrow.Author.Tests.{ltb-true, ltb-false, le-ltb}
use Rattle.finite.proofs.Booleans.{clash, same_test}
use Rattle.finite.proofs.Tests.{any_in, any_at}
use Rattle.sheet.specs.Layout.{part_from, pair}
use Rattle.sheet.specs.Reading.{reading}
use Rattle.sheet.specs.Instance.{Instance, instance}
use Rattle.sheet.specs.Records.{there, service_record, cabinet_record, stream_record, pair_record, bars}
use Rattle.sheet.specs.Inner.Fields.{service_of, cabinet_of, stream_of}
use Rattle.sheet.specs.declared.Sheet.{Sheet}
use Rattle.sheet.specs.declared.Service.{Service}
use Rattle.sheet.specs.declared.Cabinet.{Cabinet}
use Rattle.sheet.specs.declared.Stream.{Stream}
use Rattle.std.specs.Prelude.{Ok, Some, None}
use Rattle.sheet.proofs.Given.{same_given}
use Rattle.sheet.proofs.Promises.{counts, padded, joints_by_capacity, service_given, cabinet_given, stream_given, barred_pairs}
use Rattle.sheet.proofs.Same.{Alike, same_instance, same_joint}
use Rattle.tidy.specs.Agree.{Named, Agree}

-- ---- of one sheet

module _ (h : Sheet) (bytes : List ℕ) where
  -- a record that isn't there is missing
  no_service : (i : ℕ) → h.services ≤ i → service_record h bytes i ≡ None
  unfolding service_record there
  no_service i k = rw (le-ltb i h.services k) refl

  no_cabinet : (c : ℕ) → h.cabinets ≤ c → cabinet_record h bytes c ≡ None
  unfolding cabinet_record there
  no_cabinet c k = rw (le-ltb c h.cabinets k) refl

  no_stream : (j : ℕ) → h.streams ≤ j → stream_record h bytes j ≡ None
  unfolding stream_record there
  no_stream j k = rw (le-ltb j h.streams k) refl

  -- a pair that bars is there
  pair_below : (n i c : ℕ) → bars (pair_record h bytes n) i c ≡ true → n < h.pairs
  unfolding pair_record there
  pair_below n i c e = go (ltb n h.pairs) refl e
    where
      go : (t : Bool) → ltb n h.pairs ≡ t
          → bars (cond (t && leb (2 + 4 * n + 4) (length (part_from h.pairs_at bytes))) (Some (pair h bytes n)) None) i c ≡ true
          → n < h.pairs
      go true q e = ltb-true n h.pairs q
      go false q e = clash (sym e)

  -- a pair is named exactly where it is barred
  named_iff : reading bytes ≡ Ok h → (i c : ℕ) → ((instance bytes).barred i c ≡ true) ↔ Named h bytes i c
  named_iff reads i c = (
    λ e. let w = any_at h.pairs _ (sym (barred_pairs bytes h reads i c) ∙ e) in (w.0, w.2),
    λ w. barred_pairs bytes h reads i c ∙ any_in h.pairs _ w.0 (pair_below w.0 i c w.1) w.1,
  )

-- ---- of two

module _
    (bytes : List ℕ) (h : Sheet) (reads : reading bytes ≡ Ok h)
    (others : List ℕ) (k : Sheet) (reads' : reading others ≡ Ok k)
  where
    abbrev I : Instance
    I = instance bytes

    abbrev J : Instance
    J = instance others

    -- ---- that agree

    module _ (A : Agree h bytes k others) where
      r_same : I.r ≡ J.r
      r_same = sym (counts bytes h reads).0 ∙ A.services ∙ (counts others k reads').0

      s_same : I.s ≡ J.s
      s_same = sym (counts bytes h reads).1 ∙ A.cabinets ∙ (counts others k reads').1

      q_same : I.q ≡ J.q
      q_same = sym (counts bytes h reads).2 ∙ A.streams ∙ (counts others k reads').2

      service_same : (i : ℕ) → i < I.r → service_of I i ≡ service_of J i
      service_same i l =
          same_given _ _ (sym (service_given bytes h reads i l) ∙ A.service i ∙ service_given others k reads' i (omega (arith, r_same)))

      cabinet_same : (c : ℕ) → c < I.s → cabinet_of I c ≡ cabinet_of J c
      cabinet_same c l =
          same_given _ _ (sym (cabinet_given bytes h reads c l) ∙ A.cabinet c ∙ cabinet_given others k reads' c (omega (arith, s_same)))

      stream_same : (j : ℕ) → j < I.q → stream_of I j ≡ stream_of J j
      stream_same j l =
          same_given _ _ (sym (stream_given bytes h reads j l) ∙ A.stream j ∙ stream_given others k reads' j (omega (arith, q_same)))

      barred_same : (i c : ℕ) → I.barred i c ≡ J.barred i c
      barred_same i c =
          let one = named_iff h bytes reads i c in
          let other = named_iff k others reads' i c in
          same_test (I.barred i c) (J.barred i c) (λ e. other.1 ((A.pairs i c).0 (one.0 e))) (λ e. one.1 ((A.pairs i c).1 (other.0 e)))

      alike : Alike I J
      alike =
          record {
            r = r_same;
            s = s_same;
            q = q_same;
            demand = λ i l. ap (λ (x : Service). x.demand) (service_same i l);
            parent = λ c l. ap (λ (x : Cabinet). x.parent) (cabinet_same c l);
            capacity = λ c l. ap (λ (x : Cabinet). x.capacity) (cabinet_same c l);
            price = λ c l. ap (λ (x : Cabinet). x.price) (cabinet_same c l);
            up_capacity = λ c l. ap (λ (x : Cabinet). x.up_capacity) (cabinet_same c l);
            up_price = λ c l. ap (λ (x : Cabinet). x.up_price) (cabinet_same c l);
            down_capacity = λ c l. ap (λ (x : Cabinet). x.down_capacity) (cabinet_same c l);
            down_price = λ c l. ap (λ (x : Cabinet). x.down_price) (cabinet_same c l);
            from = λ j l. ap (λ (x : Stream). x.from) (stream_same j l);
            to = λ j l. ap (λ (x : Stream). x.to) (stream_same j l);
            load = λ j l. ap (λ (x : Stream). x.demand) (stream_same j l);
            barred = barred_same;
            joint =
                λ c. same_joint I J (joints_by_capacity bytes) (joints_by_capacity others) s_same c
                (λ l. ap (λ (x : Cabinet). x.capacity) (cabinet_same c l));
          }

    -- ---- whose instances are the same

    module _ (e : I ≡ J) where
      services_agree : h.services ≡ k.services
      services_agree = (counts bytes h reads).0 ∙ ap (λ (K : Instance). K.r) e ∙ sym (counts others k reads').0

      cabinets_agree : h.cabinets ≡ k.cabinets
      cabinets_agree = (counts bytes h reads).1 ∙ ap (λ (K : Instance). K.s) e ∙ sym (counts others k reads').1

      streams_agree : h.streams ≡ k.streams
      streams_agree = (counts bytes h reads).2 ∙ ap (λ (K : Instance). K.q) e ∙ sym (counts others k reads').2

      service_agree : (i : ℕ) → service_record h bytes i ≡ service_record k others i
      service_agree i = go (ltb i h.services) refl
        where
          go : (t : Bool) → ltb i h.services ≡ t → service_record h bytes i ≡ service_record k others i
          go true q =
              let l : i < h.services = ltb-true i _ q in
              service_given bytes h reads i (omega (arith, (counts bytes h reads).0))
              ∙ ap (λ (K : Instance). Some (service_of K i)) e
              ∙ sym (service_given others k reads' i (omega (arith, services_agree, (counts others k reads').0)))
          go false q =
              let l : h.services ≤ i = ltb-false i _ q in
              no_service h bytes i l ∙ sym (no_service k others i (omega (arith, services_agree)))

      cabinet_agree : (c : ℕ) → cabinet_record h bytes c ≡ cabinet_record k others c
      cabinet_agree c = go (ltb c h.cabinets) refl
        where
          go : (t : Bool) → ltb c h.cabinets ≡ t → cabinet_record h bytes c ≡ cabinet_record k others c
          go true q =
              let l : c < h.cabinets = ltb-true c _ q in
              cabinet_given bytes h reads c (omega (arith, (counts bytes h reads).1))
              ∙ ap (λ (K : Instance). Some (cabinet_of K c)) e
              ∙ sym (cabinet_given others k reads' c (omega (arith, cabinets_agree, (counts others k reads').1)))
          go false q =
              let l : h.cabinets ≤ c = ltb-false c _ q in
              no_cabinet h bytes c l ∙ sym (no_cabinet k others c (omega (arith, cabinets_agree)))

      stream_agree : (j : ℕ) → stream_record h bytes j ≡ stream_record k others j
      stream_agree j = go (ltb j h.streams) refl
        where
          go : (t : Bool) → ltb j h.streams ≡ t → stream_record h bytes j ≡ stream_record k others j
          go true q =
              let l : j < h.streams = ltb-true j _ q in
              stream_given bytes h reads j (omega (arith, (counts bytes h reads).2))
              ∙ ap (λ (K : Instance). Some (stream_of K j)) e
              ∙ sym (stream_given others k reads' j (omega (arith, streams_agree, (counts others k reads').2)))
          go false q =
              let l : h.streams ≤ j = ltb-false j _ q in
              no_stream h bytes j l ∙ sym (no_stream k others j (omega (arith, streams_agree)))

      pairs_agree : (i c : ℕ) → Named h bytes i c ↔ Named k others i c
      pairs_agree i c =
          let one = named_iff h bytes reads i c in
          let other = named_iff k others reads' i c in
          let b = ap (λ (K : Instance). K.barred i c) e in
          (λ w. other.0 (sym b ∙ one.1 w), λ w. one.0 (b ∙ other.1 w))

      agree : Agree h bytes k others
      agree =
          record {
            services = services_agree;
            cabinets = cabinets_agree;
            streams = streams_agree;
            service = service_agree;
            cabinet = cabinet_agree;
            stream = stream_agree;
            pairs = pairs_agree;
          }

    -- two accepted sheets agree exactly when their instances are the same
    pub agree_iff : (I ≡ J) ↔ Agree h bytes k others
    agree_iff = (agree, λ A. same_instance I J (alike A) (padded bytes) (padded others))
