-- What the crates above may rely on: an accepted sheet is well formed, and the record calls give its records.
use Prim.Native.Nat.{ℕ, zero, suc, ◌+◌, ◌*◌, ◌≤◌, ◌<◌}
use mathlib.Core.Path.{◌≡◌, refl, sym, ap, ◌∙◌}
use mathlib.Core.Bool.{Bool, true, false, ◌&&◌, ◌||◌, not, and-false}
use mathlib.Core.List.{List, ◌∷◌}
use native.Mathlib.Omega.{arith}
use lib.Dec.{eqb, ltb, leb}
use lib.ListN.{length, length-drop}
use borrow.Author.Tests.{ltb-true, ltb-false, leb-false, eqb-true, eqb-false, lt-ltb, le-leb, ne_eqb, not-false}
use Rattle.finite.specs.Below.{only, any_below}
use Rattle.finite.proofs.Booleans.{clash, both_l, both_r, neither_l, neither_r}
use Rattle.finite.proofs.Tests.{none_at, any_at, any_ext}
use Rattle.sheet.specs.Limits.{max_amount}
use Rattle.sheet.specs.Inner.Within.{Inside, PairsInside}
use Rattle.sheet.specs.Layout.{header, part_from, service, cabinet, stream, pair}
use Rattle.sheet.specs.Conditions.{too_short, beyond_limits, some_block_outside, too_high, cabinet_too_high, some_amount_too_high, wrong_parent, some_parent_wrong, wrong_ends, some_ends_wrong, linked, root_linked, pairs_block_wrong, wrong_pair, some_pair_wrong}
use Rattle.sheet.specs.Refusals.{Rule, first_applying}
use Rattle.sheet.specs.Reading.{rules, answered, reading}
use Rattle.sheet.specs.Records.{there, service_record, cabinet_record, stream_record, pair_record, bars}
use Rattle.sheet.specs.Instance.{WellFormed, names, some_names, is_joint, instance}
use Rattle.sheet.specs.Said.{Padded, ByCapacity, Said}
use Rattle.sheet.specs.declared.Sheet.{Sheet}
use Rattle.sheet.specs.declared.Cabinet.{Cabinet}
use Rattle.sheet.specs.declared.Stream.{Stream}
use Rattle.sheet.specs.declared.Pair.{Pair}
use Rattle.std.specs.Prelude.{Option, Some, Ok}
use Rattle.sheet.proofs.Same.{records_padded}
use Rattle.sheet.proofs.Passed.{Counted, counted, inside, pairs_inside}

-- ---- none of the rules applies

-- a rule that is passed: it does not apply, and none after it does
passed : (x : Rule) (xs : List Rule) → 0 < x.number → first_applying (x ∷ xs) ≡ 0 → (x.applies ≡ false) × (first_applying xs ≡ 0)
unfolding first_applying
passed x xs z e = go x.applies refl
  where
    go : (t : Bool) → x.applies ≡ t → (x.applies ≡ false) × (first_applying xs ≡ 0)
    go true q = absurd (let k : x.number ≡ 0 = simp q at e in omega arith)
    go false q = (q, simp q at e)

is_zero : (n : ℕ) (h k : Sheet) → answered n h ≡ Ok k → (n ≡ 0) × (k ≡ h)
unfolding answered
is_zero zero h k e = (refl, cc)
is_zero (suc n) h k e = absurd (let z : ◌≡◌ {A = ℕ} 0 1 = cc in omega arith)

-- the conditions that do not hold of an accepted sheet, as far as the records are concerned
record Clear (h : Sheet) (bytes : List ℕ) : Type 0 where
  long : too_short bytes ≡ false
  limits : beyond_limits h ≡ false
  blocks : some_block_outside h (length bytes) ≡ false
  amounts : some_amount_too_high h bytes ≡ false
  parents : some_parent_wrong h bytes ≡ false
  ends : some_ends_wrong h bytes ≡ false
  root : root_linked h bytes ≡ false
  pairs_block : pairs_block_wrong h (length bytes) ≡ false
  pairs_named : some_pair_wrong h bytes ≡ false

clear : (bytes : List ℕ) → first_applying (rules bytes) ≡ 0 → Clear (header bytes) bytes
unfolding rules
clear bytes e =
    let p1 = passed _ _ (omega arith) e in
    let p2 = passed _ _ (omega arith) p1.1 in
    let p3 = passed _ _ (omega arith) p2.1 in
    let p4 = passed _ _ (omega arith) p3.1 in
    let p5 = passed _ _ (omega arith) p4.1 in
    let p6 = passed _ _ (omega arith) p5.1 in
    let p7 = passed _ _ (omega arith) p6.1 in
    let p8 = passed _ _ (omega arith) p7.1 in
    let p9 = passed _ _ (omega arith) p8.1 in
    let p18 = passed _ _ (omega arith) p9.1 in
    let p19 = passed _ _ (omega arith) p18.1 in
    record {
      long = p1.0;
      limits = p2.0;
      blocks = p4.0;
      amounts = p6.0;
      parents = p7.0;
      ends = p8.0;
      root = p9.0;
      pairs_block = p18.0;
      pairs_named = p19.0;
    }

-- ---- one record

none_of_six :
    (p q r s t u : Bool) →
    p || q || r || s || t || u ≡ false →
    (p ≡ false) × (q ≡ false) × (r ≡ false) × (s ≡ false) × (t ≡ false) × (u ≡ false)
none_of_six false false false false false u e = (refl, refl, refl, refl, refl, e)
none_of_six false false false false true u e = clash e
none_of_six false false false true t u e = clash e
none_of_six false false true s t u e = clash e
none_of_six false true r s t u e = clash e
none_of_six true q r s t u e = clash e

-- the amounts of a cabinet that refusal 6 does not apply to
record Low (k : Cabinet) : Type 0 where
  capacity : k.capacity ≤ max_amount
  price : k.price ≤ max_amount
  up_capacity : k.up_capacity ≤ max_amount
  up_price : k.up_price ≤ max_amount
  down_capacity : k.down_capacity ≤ max_amount
  down_price : k.down_price ≤ max_amount

low : (k : Cabinet) → cabinet_too_high k ≡ false → Low k
unfolding cabinet_too_high
low k e =
    let f =
    none_of_six
    (too_high k.capacity)
    (too_high k.price)
    (too_high k.up_capacity)
    (too_high k.up_price)
    (too_high k.down_capacity)
    (too_high k.down_price)
    e in
    record {
      capacity = ltb-false _ _ f.0;
      price = ltb-false _ _ f.1;
      up_capacity = ltb-false _ _ f.2;
      up_price = ltb-false _ _ f.3;
      down_capacity = ltb-false _ _ f.4;
      down_price = ltb-false _ _ f.5;
    }

smaller : (c : ℕ) (k : Cabinet) → 0 < c → wrong_parent c k ≡ false → k.parent < c
unfolding wrong_parent
smaller c k z e = leb-false c k.parent (simp (ne_eqb c 0 (λ q. omega arith)) at e)

none_of_three : (p q r : Bool) → p || q || r ≡ false → (p ≡ false) × (q ≡ false) × (r ≡ false)
none_of_three false false r e = (refl, refl, e)
none_of_three false true r e = clash e
none_of_three true q r e = clash e

-- the ends of a stream that refusal 8 does not apply to
record Ends (r : ℕ) (t : Stream) : Type 0 where
  from_below : t.from < r
  to_below : t.to < r
  differ : t.from ≡ t.to → ⊥

ends_right : (r : ℕ) (t : Stream) → wrong_ends r t ≡ false → Ends r t
unfolding wrong_ends
ends_right r t e =
    let f = none_of_three (leb r t.from) (leb r t.to) (eqb t.from t.to) e in
    record {
      from_below = leb-false _ _ f.0;
      to_below = leb-false _ _ f.1;
      differ = eqb-false _ _ f.2;
    }

not_linked :
    (k : Cabinet) →
    linked k ≡ false →
    (k.up_capacity ≡ 0) × (k.up_price ≡ 0) × (k.down_capacity ≡ 0) × (k.down_price ≡ 0)
unfolding linked
not_linked k e =
    let f =
    none_of_six
    false
    false
    (not (eqb k.up_capacity 0))
    (not (eqb k.up_price 0))
    (not (eqb k.down_capacity 0))
    (not (eqb k.down_price 0))
    e in (
      eqb-true _ _ (not-false _ f.2),
      eqb-true _ _ (not-false _ f.3),
      eqb-true _ _ (not-false _ f.4),
      eqb-true _ _ (not-false _ f.5),
    )

-- a pair that refusal 19 does not apply to names a service and a cabinet
named : (r s : ℕ) (p : Pair) → wrong_pair r s p ≡ false → (p.service < r) × (p.cabinet < s)
unfolding wrong_pair
named r s p e =
    (leb-false _ _ (neither_l (leb r p.service) (leb s p.cabinet) e), leb-false _ _ (neither_r (leb r p.service) (leb s p.cabinet) e))

-- the service and the cabinet that a pair names
named_by : (p : Pair) (i c : ℕ) → names p i c ≡ true → (p.service ≡ i) × (p.cabinet ≡ c)
unfolding names
named_by p i c e =
    (eqb-true _ _ (both_l (eqb p.service i) (eqb p.cabinet c) e), eqb-true _ _ (both_r (eqb p.service i) (eqb p.cabinet c) e))

-- a test that holds only where i is below r and c below s
pub only_there : (i c r s : ℕ) (b : Bool) → (b ≡ true → (i < r) × (c < s)) → (ltb i r && ltb c s) && b ≡ b
only_there i c r s true f = let w = f refl in rw (lt-ltb i r w.0, lt-ltb c s w.1) refl
only_there i c r s false f = and-false (ltb i r && ltb c s)

-- ---- a field of every number, 0 where there is no record

field_le : (n m : ℕ) (f : ℕ → ℕ) → ((d : ℕ) → d < n → f d ≤ m) → (d : ℕ) → only (ltb d n) (f d) ≤ m
unfolding only
field_le n m f h d = go (ltb d n) refl
  where
    go : (t : Bool) → ltb d n ≡ t → only (ltb d n) (f d) ≤ m
    go true e = rw e (h d (ltb-true d n e))
    go false e = rw e (omega arith)

field_lt : (n m : ℕ) (f : ℕ → ℕ) (d : ℕ) → 0 < m → (d < n → f d < m) → only (ltb d n) (f d) < m
unfolding only
field_lt n m f d z h = go (ltb d n) refl
  where
    go : (t : Bool) → ltb d n ≡ t → only (ltb d n) (f d) < m
    go true e = rw e (h (ltb-true d n e))
    go false e = rw e z

pub field_at : (n : ℕ) (f : ℕ → ℕ) (d : ℕ) → d < n → only (ltb d n) (f d) ≡ f d
unfolding only
field_at n f d k = rw (lt-ltb d n k)

-- the instance of any bytes has no fields but those of its records
pub padded : (bytes : List ℕ) → Padded (instance bytes)
unfolding instance
padded bytes =
    records_padded _ _ _ (service (header bytes) bytes) (cabinet (header bytes) bytes) (stream (header bytes) bytes)
    (some_names (header bytes).pairs (pair (header bytes) bytes)) (λ c. is_joint (cabinet (header bytes) bytes c))

-- and its joints are the cabinets of capacity 0 that are there
pub joints_by_capacity : (bytes : List ℕ) → ByCapacity (instance bytes)
unfolding instance is_joint only
joints_by_capacity bytes c = go (ltb c (header bytes).cabinets)
  where
    go : (t : Bool) → t && eqb (cabinet (header bytes) bytes c).capacity 0 ≡ t && eqb (only t (cabinet (header bytes) bytes c).capacity) 0
    go true = refl
    go false = refl

-- ---- an accepted sheet

module _ (bytes : List ℕ) (h : Sheet) (a : reading bytes ≡ Ok h) where
  zero_refusals : (first_applying (rules bytes) ≡ 0) × (h ≡ header bytes)
  unfolding reading
  zero_refusals = is_zero (first_applying (rules bytes)) (header bytes) h a

  clean : Clear (header bytes) bytes
  clean = clear bytes zero_refusals.0

  sizes : Counted (header bytes)
  sizes = counted (header bytes) clean.limits

  lies : Inside (header bytes) (length bytes)
  lies = inside (header bytes) (length bytes) clean.blocks

  pairs_lie : PairsInside (header bytes) (length bytes)
  pairs_lie = pairs_inside bytes (ltb-false _ _ clean.long) clean.pairs_block

  -- the reader's value has the counts of the instance
  pub counts : (h.services ≡ (instance bytes).r) × (h.cabinets ≡ (instance bytes).s) × (h.streams ≡ (instance bytes).q)
  unfolding instance
  counts = (
    ap (λ (k : Sheet). k.services) zero_refusals.1,
    ap (λ (k : Sheet). k.cabinets) zero_refusals.1,
    ap (λ (k : Sheet). k.streams) zero_refusals.1,
  )

  abbrev high_service : ℕ → Bool
  high_service i = too_high (service (header bytes) bytes i).demand

  abbrev high_cabinet : ℕ → Bool
  high_cabinet c = cabinet_too_high (cabinet (header bytes) bytes c)

  abbrev high_stream : ℕ → Bool
  high_stream j = too_high (stream (header bytes) bytes j).demand

  -- no demand, capacity or price is above the limit
  none_high :
      (any_below (header bytes).services high_service ≡ false)
      × (any_below (header bytes).cabinets high_cabinet ≡ false)
      × (any_below (header bytes).streams high_stream ≡ false)
  unfolding some_amount_too_high
  none_high =
      none_of_three
      (any_below (header bytes).services high_service)
      (any_below (header bytes).cabinets high_cabinet)
      (any_below (header bytes).streams high_stream)
      clean.amounts

  service_low : (i : ℕ) → i < (header bytes).services → (service (header bytes) bytes i).demand ≤ max_amount
  service_low i k = ltb-false _ _ (none_at (header bytes).services high_service none_high.0 i k)

  cabinet_low : (c : ℕ) → c < (header bytes).cabinets → Low (cabinet (header bytes) bytes c)
  cabinet_low c k = low _ (none_at (header bytes).cabinets high_cabinet none_high.1 c k)

  stream_low : (j : ℕ) → j < (header bytes).streams → (stream (header bytes) bytes j).demand ≤ max_amount
  stream_low j k = ltb-false _ _ (none_at (header bytes).streams high_stream none_high.2 j k)

  parent_low : (c : ℕ) → 0 < c → c < (header bytes).cabinets → (cabinet (header bytes) bytes c).parent < c
  unfolding some_parent_wrong
  parent_low c z k = smaller c _ z (none_at (header bytes).cabinets _ clean.parents c k)

  ends_of : (j : ℕ) → j < (header bytes).streams → Ends (header bytes).services (stream (header bytes) bytes j)
  unfolding some_ends_wrong
  ends_of j k = ends_right _ _ (none_at (header bytes).streams _ clean.ends j k)

  pair_named : (n : ℕ) → n < (header bytes).pairs → ((pair (header bytes) bytes n).service < (header bytes).services) × ((pair (header bytes) bytes n).cabinet < (header bytes).cabinets)
  unfolding some_pair_wrong
  pair_named n k = named _ _ _ (none_at (header bytes).pairs _ clean.pairs_named n k)

  -- a pair that names service i and cabinet c: both are there
  abbrev named_below : ℕ → ℕ → Bool
  named_below = some_names (header bytes).pairs (pair (header bytes) bytes)

  bar_named : (i c : ℕ) → named_below i c ≡ true → (i < (header bytes).services) × (c < (header bytes).cabinets)
  unfolding some_names
  bar_named i c e =
      let w = any_at (header bytes).pairs (λ n. names (pair (header bytes) bytes n) i c) e in
      let b = named_by (pair (header bytes) bytes w.0) i c w.2 in
      let n = pair_named w.0 w.1 in
      (omega (arith, b.0, n.0), omega (arith, b.1, n.1))

  -- so that a service and a cabinet are barred exactly where some pair names them
  bar_is : (i c : ℕ) → (ltb i (header bytes).services && ltb c (header bytes).cabinets) && named_below i c ≡ named_below i c
  bar_is i c = only_there i c (header bytes).services (header bytes).cabinets (named_below i c) (bar_named i c)

  abbrev cab : ℕ → Cabinet
  cab c = cabinet (header bytes) bytes c

  abbrev str : ℕ → Stream
  str j = stream (header bytes) bytes j

  at_root : (f : ℕ → ℕ) → only (ltb 0 (header bytes).cabinets) (f 0) ≡ f 0
  at_root f = field_at (header bytes).cabinets f 0 sizes.some_cabinet

  -- what the reader promises of every accepted sheet
  pub well_formed : WellFormed (instance bytes)
  unfolding instance root_linked
  well_formed =
      let s = (header bytes).cabinets in
      let q = (header bytes).streams in
      let root = not_linked _ clean.root in
      record {
        services = sizes.services;
        some_cabinet = sizes.some_cabinet;
        cabinets = sizes.cabinets;
        streams = sizes.streams;
        demands = field_le (header bytes).services _ _ service_low;
        parents = λ c z. field_lt s c (λ d. (cab d).parent) c z (parent_low c z);
        capacities = field_le s _ _ (λ c k. (cabinet_low c k).capacity);
        prices = field_le s _ _ (λ c k. (cabinet_low c k).price);
        up_capacities = field_le s _ _ (λ c k. (cabinet_low c k).up_capacity);
        up_prices = field_le s _ _ (λ c k. (cabinet_low c k).up_price);
        down_capacities = field_le s _ _ (λ c k. (cabinet_low c k).down_capacity);
        down_prices = field_le s _ _ (λ c k. (cabinet_low c k).down_price);
        loads = field_le q _ _ stream_low;
        from_service =
            λ j k. field_lt q _ (λ d. (str d).from) j (omega (arith, (ends_of j k).from_below)) (λ l. (ends_of j l).from_below);
        to_service =
            λ j k. field_lt q _ (λ d. (str d).to) j (omega (arith, (ends_of j k).from_below)) (λ l. (ends_of j l).to_below);
        ends_differ =
            λ j k e. (ends_of j k).differ
            (sym (field_at q (λ d. (str d).from) j k) ∙ e ∙ field_at q (λ d. (str d).to) j k);
        root_links = (
          at_root (λ d. (cab d).up_capacity) ∙ root.0,
          at_root (λ d. (cab d).up_price) ∙ root.1,
          at_root (λ d. (cab d).down_capacity) ∙ root.2,
          at_root (λ d. (cab d).down_price) ∙ root.3,
        );
        bars = λ i c e. bar_named i c (sym (bar_is i c) ∙ e);
      }

  root_none : (instance bytes).parent 0 ≡ 65535
  unfolding instance some_parent_wrong wrong_parent
  root_none = at_root (λ d. (cab d).parent) ∙ eqb-true (cab 0).parent 65535 (not-false _ (none_at (header bytes).cabinets _ clean.parents 0 sizes.some_cabinet))

  -- and that there is nothing in it but its records
  pub said : Said (instance bytes)
  said = record { padded = padded bytes; root_parent = root_none; joints = joints_by_capacity bytes }

  -- every record that the sheet has is given, with the fields of the instance
  pub service_given :
      (i : ℕ) →
      i < (instance bytes).r →
      service_record h bytes i ≡ Some (record { demand = (instance bytes).demand i })
  unfolding instance service_record there only
  service_given i k =
      let f : (header bytes).services_at + 2 * i + 2 ≤ length bytes = omega (arith, lies.services) in
      rw zero_refusals.1
      (simp (lt-ltb i (header bytes).services k, le-leb ((header bytes).services_at + 2 * i + 2) (length bytes) f))

  pub cabinet_given :
      (c : ℕ) →
      c < (instance bytes).s →
      cabinet_record h bytes c
      ≡ Some (record {
        parent = (instance bytes).parent c;
        capacity = (instance bytes).capacity c;
        price = (instance bytes).price c;
        up_capacity = (instance bytes).up_capacity c;
        up_price = (instance bytes).up_price c;
        down_capacity = (instance bytes).down_capacity c;
        down_price = (instance bytes).down_price c;
      })
  unfolding instance cabinet_record there only
  cabinet_given c k =
      let f : (header bytes).cabinets_at + 14 * c + 14 ≤ length bytes = omega (arith, lies.cabinets) in
      rw zero_refusals.1
      (simp (lt-ltb c (header bytes).cabinets k, le-leb ((header bytes).cabinets_at + 14 * c + 14) (length bytes) f))

  pub stream_given :
      (j : ℕ) →
      j < (instance bytes).q →
      stream_record h bytes j
      ≡ Some (record {
        from = (instance bytes).from j;
        to = (instance bytes).to j;
        demand = (instance bytes).load j;
      })
  unfolding instance stream_record there only
  stream_given j k =
      let f : (header bytes).streams_at + 6 * j + 6 ≤ length bytes = omega (arith, lies.streams) in
      rw zero_refusals.1
      (simp (lt-ltb j (header bytes).streams k, le-leb ((header bytes).streams_at + 6 * j + 6) (length bytes) f))

  -- every pair that the sheet has is given, as it stands in the sheet
  given_pair : (n : ℕ) → n < h.pairs → pair_record h bytes n ≡ Some (pair (header bytes) bytes n)
  unfolding pair_record there
  given_pair n k =
      let l : n < (header bytes).pairs = omega (arith, ap (λ (x : Sheet). x.pairs) zero_refusals.1) in
      let f : 2 + 4 * n + 4 ≤ length (part_from (header bytes).pairs_at bytes) = simp length-drop (omega (arith, pairs_lie)) in
      rw zero_refusals.1
      (simp (lt-ltb n (header bytes).pairs l, le-leb (2 + 4 * n + 4) (length (part_from (header bytes).pairs_at bytes)) f))

  -- every pair that the sheet has is given, and names a service and a cabinet
  pub pair_given :
      (n : ℕ) →
      n < h.pairs →
      (p : Pair) × (pair_record h bytes n ≡ Some p) × (p.service < (instance bytes).r) × (p.cabinet < (instance bytes).s)
  unfolding instance
  pair_given n k =
      let l : n < (header bytes).pairs = omega (arith, ap (λ (x : Sheet). x.pairs) zero_refusals.1) in
      (pair (header bytes) bytes n, given_pair n k, (pair_named n l).0, (pair_named n l).1)

  -- a service is barred from a cabinet exactly when one of these pairs names both
  pub barred_pairs : (i c : ℕ) → (instance bytes).barred i c ≡ any_below h.pairs (λ n. bars (pair_record h bytes n) i c)
  unfolding instance some_names
  barred_pairs i c =
      bar_is i c
      ∙ ap (λ (m : ℕ). any_below m (λ n. names (pair (header bytes) bytes n) i c)) (sym (ap (λ (x : Sheet). x.pairs) zero_refusals.1))
      ∙ any_ext h.pairs (λ n. names (pair (header bytes) bytes n) i c) (λ n. bars (pair_record h bytes n) i c) (λ n k. sym (ap (λ (x : Option Pair). bars x i c) (given_pair n k)))
