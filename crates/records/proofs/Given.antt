-- The records that a loop over an accepted sheet is given: those of the instance, whose fields fit 16 bits.
use Prim.Native.Nat.{ℕ, ◌<◌}
use native.Mathlib.Omega.{arith}
use mathlib.Core.Path.{◌≡◌, refl, sym, ap, ◌∙◌}
use mathlib.Core.Bool.{Bool, true, false}
use mathlib.Core.List.{List}
use lib.Dec.{eqb}
use borrow.Author.Tests.{eqb-true, eqb-false}
use Rattle.std.specs.Prelude.{Option, Some, Ok}
use Rattle.sheet.specs.declared.Sheet.{Sheet}
use Rattle.sheet.specs.declared.Service.{Service}
use Rattle.sheet.specs.declared.Cabinet.{Cabinet}
use Rattle.sheet.specs.declared.Stream.{Stream}
use Rattle.sheet.specs.declared.Pair.{Pair}
use Rattle.sheet.specs.Instance.{Instance, instance}
use Rattle.sheet.specs.Limits.{max_cabinets}
use Rattle.sheet.specs.Reading.{reading}
use Rattle.sheet.specs.Records.{service_record, cabinet_record, stream_record, pair_record}
use Rattle.sheet.specs.Inner.Fields.{service_of, cabinet_of, stream_of}
use Rattle.sheet.proofs.Given.{same_given}
use Rattle.sheet.proofs.Promises.{counts, well_formed, said, service_given, cabinet_given, stream_given, pair_given}

module _ (bytes : List ℕ) (h : Sheet) (a : reading bytes ≡ Ok h) where
  abbrev I : Instance
  I = instance bytes

  -- services, of which a loop reads the first n, all that the sheet has
  module _ (n i : ℕ) (whole : n ≡ h.services) (l : i < n) where
    pub service_there : i < I.r
    service_there = omega (arith, (counts bytes h a).0)

    pub service_read : (o : Option Service) (k : Service) → o ≡ service_record h bytes i → o ≡ Some k → k ≡ service_of I i
    service_read o k e s = same_given _ _ (sym s ∙ e ∙ service_given bytes h a i service_there)

  -- cabinets, in the same way
  module _ (n c : ℕ) (whole : n ≡ h.cabinets) (l : c < n) where
    pub cabinet_there : c < I.s
    cabinet_there = omega (arith, (counts bytes h a).1)

    pub cabinet_read : (o : Option Cabinet) (k : Cabinet) → o ≡ cabinet_record h bytes c → o ≡ Some k → k ≡ cabinet_of I c
    cabinet_read o k e s = same_given _ _ (sym s ∙ e ∙ cabinet_given bytes h a c cabinet_there)

    -- every parent fits 16 bits
    pub parent_fits : I.parent c < 65536
    parent_fits = go (eqb c 0) refl
      where
        go : (t : Bool) → eqb c 0 ≡ t → I.parent c < 65536
        go true e = omega (arith, ap I.parent (eqb-true c 0 e), (said bytes h a).root_parent)
        go false e = let z = eqb-false c 0 e in omega (arith, cabinet_there, (well_formed bytes h a).cabinets, (well_formed bytes h a).parents c (omega (arith, z)))

  -- streams, in the same way
  module _ (n j : ℕ) (whole : n ≡ h.streams) (l : j < n) where
    pub stream_there : j < I.q
    stream_there = omega (arith, (counts bytes h a).2)

    pub stream_read : (o : Option Stream) (k : Stream) → o ≡ stream_record h bytes j → o ≡ Some k → k ≡ stream_of I j
    stream_read o k e s = same_given _ _ (sym s ∙ e ∙ stream_given bytes h a j stream_there)

  -- pairs, which name a service and a cabinet
  pub pair_read : (n : ℕ) → n < h.pairs → (o : Option Pair) (k : Pair) → o ≡ pair_record h bytes n → o ≡ Some k
      → (pair_record h bytes n ≡ Some k) × (k.service < I.r) × (k.cabinet < I.s)
  pair_read n l o k e s =
      let w = pair_given bytes h a n l in
      let same = same_given k w.0 (sym s ∙ e ∙ w.1) in
      (sym e ∙ s, omega (arith, ap (λ (p : Pair). p.service) same, w.2), omega (arith, ap (λ (p : Pair). p.cabinet) same, w.3))

  -- and which fit the sets
  pub pair_fits : (n : ℕ) → n < h.pairs → (o : Option Pair) (k : Pair) → o ≡ pair_record h bytes n → o ≡ Some k
      → (k.service < 16) × (k.cabinet < max_cabinets)
  pair_fits n l o k e s =
      let w = pair_read n l o k e s in
      let W = well_formed bytes h a in
      (omega (arith, w.1, W.services), omega (arith, w.2, W.cabinets))
