-- Arrays that are loaded place by place, and the instance that they tell of in the end.
use Prim.Native.Nat.{ℕ, ◌+◌, ◌<◌}
use native.Mathlib.Omega.{arith}
use mathlib.Core.Path.{◌≡◌, refl, ◌∙◌}
use mathlib.Core.Bool.{Bool, true, false}
use mathlib.Core.List.{List}
use lib.Dec.{ltb}
use lib.ListN.{get_or, set, replicate, length-set, length-replicate, get_or-replicate, get_or-eq_default}
use lib.Seq.{get_or-set_same, get_or-set_other}
use borrow.Author.Count.{below_more}
use borrow.Author.Tests.{ltb-true, ltb-false, lt-ltb}
use Rattle.finite.specs.Below.{only}
use Rattle.sheet.specs.Limits.{max_services, max_cabinets, max_streams}
use Rattle.sheet.specs.Instance.{Instance, instance}
use Rattle.sheet.specs.Said.{Padded}
use Rattle.sheet.proofs.Promises.{padded}
use Rattle.sheet.proofs.Same.{same_instance, records_padded}
use Rattle.records.specs.declared.Records.{Records}
use Rattle.records.specs.Inner.Loading.{Column, Loading, barring}
use Rattle.records.specs.Told.{told, blank}

-- an array of one value has it at every number, if that is the value past its end too
pub all_alike : {A : Type 0} (n i : ℕ) (a : A) → get_or (replicate n a) i a ≡ a
all_alike n i a = go (ltb i n) refl
  where
    go : (t : Bool) → ltb i n ≡ t → get_or (replicate n a) i a ≡ a
    go true e = get_or-replicate n i a a (ltb-true i n e)
    go false e = get_or-eq_default (replicate n a) a (omega (arith, length-replicate n a, ltb-false i n e))

module _ (places : ℕ) (f : ℕ → ℕ) where
  -- an empty array
  pub column_none : Column places 0 f (replicate places 0)
  column_none = record { size = length-replicate places 0; first = λ k l. absurd (omega arith) }

  -- one place more
  pub column_next : (n : ℕ) (l : List ℕ) (v : ℕ) → n < places → v ≡ f n → Column places n f l → Column places (n + 1) f (set l n v)
  column_next n l v h e C = record {
    size = length-set l n v ∙ C.size;
    first = below_more _ n (λ k m. get_or-set_other l n k v 0 (λ z. omega arith) ∙ C.first k m) (get_or-set_same l n v 0 (omega (arith, C.size)) ∙ e);
  }

  -- it is told below its count
  pub column_told : (m n : ℕ) (l : List ℕ) → m ≡ n → Column places n f l → (k : ℕ) → k < m → only (ltb k m) (get_or l k 0) ≡ f k
  unfolding only
  column_told m n l e C k h = rw (lt-ltb k m h) (C.first k (omega arith))

-- records tell of nothing past their counts
told_padded : (x : Records) → Padded (told x)
unfolding told
told_padded x = records_padded _ _ _ _ _ _ _ _

-- all records loaded, and what is barred, and the joints
pub loaded : (bytes : List ℕ) (x : Records) → Loading (instance bytes) (instance bytes).r (instance bytes).s (instance bytes).q x
    → ((i c : ℕ) → (told x).barred i c ≡ (instance bytes).barred i c) → ((c : ℕ) → (told x).joint c ≡ (instance bytes).joint c) → told x ≡ instance bytes
unfolding told
loaded bytes x L bars joints =
    let I = instance bytes in
    let r = L.services in
    let s = L.cabinets in
    let q = L.streams in
    same_instance (told x) I
    (record {
      r = r;
      s = s;
      q = q;
      demand = column_told max_services I.demand x.services I.r _ r L.demand;
      parent = column_told max_cabinets I.parent x.cabinets I.s _ s L.parent;
      capacity = column_told max_cabinets I.capacity x.cabinets I.s _ s L.capacity;
      price = column_told max_cabinets I.price x.cabinets I.s _ s L.price;
      up_capacity = column_told max_cabinets I.up_capacity x.cabinets I.s _ s L.up_capacity;
      up_price = column_told max_cabinets I.up_price x.cabinets I.s _ s L.up_price;
      down_capacity = column_told max_cabinets I.down_capacity x.cabinets I.s _ s L.down_capacity;
      down_price = column_told max_cabinets I.down_price x.cabinets I.s _ s L.down_price;
      from = column_told max_streams I.from x.streams I.q _ q L.from;
      to = column_told max_streams I.to x.streams I.q _ q L.to;
      load = column_told max_streams I.load x.streams I.q _ q L.load;
      barred = bars;
      joint = joints;
    })
    (told_padded x) (padded bytes)

-- whatever is barred, and whichever cabinets are joints, the rest stays loaded
pub with_barred : {I : Instance} {i c j : ℕ} {x : Records} → Loading I i c j x → (sets : List ℕ) (joints : List Bool) → Loading I i c j (barring x sets joints)
with_barred L sets joints =
    record {
      services = L.services;
      cabinets = L.cabinets;
      streams = L.streams;
      demand = L.demand;
      parent = L.parent;
      capacity = L.capacity;
      price = L.price;
      up_capacity = L.up_capacity;
      up_price = L.up_price;
      down_capacity = L.down_capacity;
      down_price = L.down_price;
      from = L.from;
      to = L.to;
      load = L.load;
    }

-- nothing is loaded yet
pub none_loaded : (I : Instance) (r s q : ℕ) → r ≡ I.r → s ≡ I.s → q ≡ I.q → Loading I 0 0 0 (blank r s q)
none_loaded I r s q a b c =
    record {
      services = a;
      cabinets = b;
      streams = c;
      demand = column_none max_services I.demand;
      parent = column_none max_cabinets I.parent;
      capacity = column_none max_cabinets I.capacity;
      price = column_none max_cabinets I.price;
      up_capacity = column_none max_cabinets I.up_capacity;
      up_price = column_none max_cabinets I.up_price;
      down_capacity = column_none max_cabinets I.down_capacity;
      down_price = column_none max_cabinets I.down_price;
      from = column_none max_streams I.from;
      to = column_none max_streams I.to;
      load = column_none max_streams I.load;
    }
