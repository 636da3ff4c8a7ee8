-- The marks of the joints: set by the capacities, they say what the instance does.
use Prim.Native.Nat.{ℕ, ◌+◌, ◌<◌}
use native.Mathlib.Omega.{arith}
use mathlib.Core.Path.{◌≡◌, refl, sym, ap, ◌∙◌}
use mathlib.Core.Bool.{Bool, true, false, ◌&&◌}
use mathlib.Core.List.{List}
use lib.Dec.{eqb, ltb}
use lib.ListN.{get_or, set, replicate, length-set, length-replicate}
use lib.Seq.{get_or-set_same, get_or-set_other}
use borrow.Author.Count.{below_more}
use borrow.Author.Tests.{ltb-true}
use Rattle.sheet.specs.Limits.{max_cabinets}
use Rattle.sheet.specs.Instance.{instance}
use Rattle.sheet.specs.Reading.{reading}
use Rattle.sheet.specs.declared.Sheet.{Sheet}
use Rattle.std.specs.Prelude.{Ok}
use Rattle.sheet.proofs.Promises.{well_formed, joints_by_capacity}
use Rattle.records.specs.declared.Records.{Records}
use Rattle.records.specs.Inner.Loading.{Loading, Jointed}
use Rattle.records.specs.Told.{max_marks, told}

-- no cabinet was seen yet
pub none_jointed : (capacity : List ℕ) → Jointed capacity 0 (replicate max_marks false)
none_jointed capacity = record { size = length-replicate {A = Bool} max_marks false; marked = λ c l. absurd (omega arith) }

-- one cabinet more
pub next_jointed : (capacity : List ℕ) (n : ℕ) (marks : List Bool) (b : Bool) → n < max_cabinets → b ≡ eqb (get_or capacity n 0) 0
    → Jointed capacity n marks → Jointed capacity (n + 1) (set marks n b)
next_jointed capacity n marks b h e J = record {
  size = length-set marks n b ∙ J.size;
  marked = below_more _ n (λ c l. get_or-set_other marks n c b false (λ z. omega arith) ∙ J.marked c l) (get_or-set_same marks n b false (omega (arith, J.size)) ∙ e);
}

-- all of them: a cabinet is a joint exactly where the instance says so
pub all_jointed : (bytes : List ℕ) (h : Sheet) → reading bytes ≡ Ok h → (x : Records) (i j : ℕ) → Loading (instance bytes) i (instance bytes).s j x
    → Jointed x.capacity max_cabinets x.joint → (c : ℕ) → (told x).joint c ≡ (instance bytes).joint c
unfolding told
all_jointed bytes h a x i j L J c =
    ap (λ (n : ℕ). ltb c n && get_or x.joint c false) L.cabinets ∙ go (ltb c (instance bytes).s) refl ∙ sym (joints_by_capacity bytes c)
  where
    go : (t : Bool) → ltb c (instance bytes).s ≡ t → t && get_or x.joint c false ≡ t && eqb ((instance bytes).capacity c) 0
    go true e =
        let l : c < (instance bytes).s = ltb-true c (instance bytes).s e in
        J.marked c (omega (arith, (well_formed bytes h a).cabinets)) ∙ ap (λ (n : ℕ). eqb n 0) (L.capacity.first c l)
    go false e = refl
