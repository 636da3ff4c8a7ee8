-- The sets of barred services: read pair by pair, they say what the instance does, and each tells of one cabinet.
use Prim.Native.Nat.{ℕ, ◌+◌, ◌^◌, ◌<◌}
use native.Mathlib.Numerals.{add-one}
use native.Mathlib.Omega.{arith}
use mathlib.Core.Path.{◌≡◌, refl, sym, ap, ap₂, ◌∙◌}
use mathlib.Core.Bool.{Bool, true, false, ◌&&◌, ◌||◌, and-true, and-false, or-false}
use mathlib.Core.List.{List}
use lib.Bits.{bit_or}
use lib.Dec.{eqb, ltb}
use lib.ListN.{get_or, set, replicate, length-set, length-replicate}
use lib.Seq.{get_or-set_same, get_or-set_other}
use borrow.Author.Tests.{eqb-true, eqb-false, lt-ltb, ltb-true}
use Rattle.finite.specs.Below.{only, any_below}
use Rattle.finite.proofs.Booleans.{both_l, both_r}
use Rattle.subsets.specs.Sets.{has}
use Rattle.subsets.proofs.Sets.{has_zero, has_or, has_power}
use Rattle.sheet.specs.Limits.{max_cabinets}
use Rattle.sheet.specs.Instance.{instance, names}
use Rattle.sheet.specs.Reading.{reading}
use Rattle.sheet.specs.Records.{pair_record, bars}
use Rattle.sheet.specs.declared.Sheet.{Sheet}
use Rattle.sheet.specs.declared.Pair.{Pair}
use Rattle.std.specs.Prelude.{Option, Some, Ok}
use Rattle.sheet.proofs.Promises.{well_formed, barred_pairs, only_there}
use Rattle.records.specs.declared.Records.{Records}
use Rattle.records.specs.Inner.Loading.{Barring}
use Rattle.records.specs.Told.{told}
use Rattle.records.proofs.Columns.{all_alike}

-- ---- while the pairs are read

module _ (h : Sheet) (bytes : List ℕ) where
  -- no pair was read yet
  pub none_barred : Barring h bytes 0 (replicate max_cabinets 0)
  unfolding any_below
  none_barred = record {
    size = length-replicate {A = ℕ} max_cabinets 0;
    members = λ i c. ap (λ (x : ℕ). has x i) (all_alike {A = ℕ} max_cabinets c 0) ∙ has_zero i;
  }

  -- one pair more: its service joins the set of its cabinet
  pub next_barred : (n : ℕ) (sets : List ℕ) (p : Pair) → pair_record h bytes n ≡ Some p → p.cabinet < max_cabinets
      → Barring h bytes n sets → Barring h bytes (n + 1) (set sets p.cabinet (bit_or (get_or sets p.cabinet 0) (2 ^ p.service)))
  unfolding any_below names
  next_barred n sets p e l B = record {
    size = length-set sets p.cabinet _ ∙ B.size;
    members = λ i c. go i c (eqb p.cabinet c) refl ∙ more i c;
  }
    where
      word : ℕ
      word = bit_or (get_or sets p.cabinet 0) (2 ^ p.service)

      more : (i c : ℕ) → any_below n (λ k. bars (pair_record h bytes k) i c) || (eqb p.service i && eqb p.cabinet c) ≡ any_below (n + 1) (λ k. bars (pair_record h bytes k) i c)
      more i c = rw add-one (ap (λ (b : Bool). any_below n (λ k. bars (pair_record h bytes k) i c) || b) (sym (ap (λ (x : Option Pair). bars x i c) e)))

      go : (i c : ℕ) (t : Bool) → eqb p.cabinet c ≡ t
          → has (get_or (set sets p.cabinet word) c 0) i ≡ any_below n (λ k. bars (pair_record h bytes k) i c) || (eqb p.service i && t)
      go i c true q =
          let same : p.cabinet ≡ c = eqb-true _ _ q in
          ap (λ (d : ℕ). has (get_or (set sets p.cabinet word) d 0) i) (sym same)
          ∙ ap (λ (x : ℕ). has x i) (get_or-set_same sets p.cabinet word 0 (omega (arith, B.size)))
          ∙ has_or i (get_or sets p.cabinet 0) (2 ^ p.service)
          ∙ ap₂ ◌||◌ (ap (λ (d : ℕ). has (get_or sets d 0) i) same ∙ B.members i c) (has_power p.service i ∙ sym (and-true (eqb p.service i)))
      go i c false q =
          ap (λ (x : ℕ). has x i) (get_or-set_other sets p.cabinet c word 0 (λ z. eqb-false _ _ q (sym z)))
          ∙ B.members i c
          ∙ sym (ap (λ (b : Bool). any_below n (λ k. bars (pair_record h bytes k) i c) || b) (and-false (eqb p.service i)) ∙ or-false _)

-- ---- once all were read

-- the sets tell of what the sheet bars
pub all_barred : (bytes : List ℕ) (h : Sheet) → reading bytes ≡ Ok h → (x : Records) → x.services ≡ (instance bytes).r → x.cabinets ≡ (instance bytes).s
    → Barring h bytes h.pairs x.barred → (i c : ℕ) → (told x).barred i c ≡ (instance bytes).barred i c
unfolding told
all_barred bytes h a x r s B i c =
    let I = instance bytes in
    ap₂ (λ (m n : ℕ). (ltb i m && ltb c n) && has (get_or x.barred c 0) i) r s
    ∙ ap (λ (b : Bool). (ltb i I.r && ltb c I.s) && b) (B.members i c ∙ sym (barred_pairs bytes h a i c))
    ∙ only_there i c I.r I.s (I.barred i c) ((well_formed bytes h a).bars i c)

-- ---- what records bar

-- whatever the sets are, a service that is barred is there, and so is the cabinet
pub bars_there : (x : Records) (i c : ℕ) → (told x).barred i c ≡ true → (i < (told x).r) × (c < (told x).s)
unfolding told
bars_there x i c e =
    let g = both_l (ltb i x.services && ltb c x.cabinets) _ e in
    (ltb-true _ _ (both_l (ltb i x.services) (ltb c x.cabinets) g), ltb-true _ _ (both_r (ltb i x.services) (ltb c x.cabinets) g))

-- of the services that are there, the members of a cabinet's set are those barred from it, also where the cabinet isn't there
pub set_barred : (x : Records) (i c : ℕ) → i < x.services → has (only (ltb c x.cabinets) (get_or x.barred c 0)) i ≡ (told x).barred i c
unfolding told only
set_barred x i c l = rw (lt-ltb i x.services l) (go (ltb c x.cabinets))
  where
    go : (t : Bool) → has (only t (get_or x.barred c 0)) i ≡ t && has (get_or x.barred c 0) i
    go true = refl
    go false = has_zero i
