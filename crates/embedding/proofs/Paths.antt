-- Between two cabinets the road has one simple path, and it is the computed path.
use Prim.Native.Nat.{ℕ, zero, suc, ◌+◌, ◌≤◌, ◌<◌}
use native.Mathlib.Nat.{le_refl}
use native.Mathlib.Omega.{arith}
use mathlib.Core.Logic.{◌≢◌, inl, inr}
use mathlib.Core.Path.{◌≡◌, refl, sym, ap, ap₂, ◌∙◌, subst}
use mathlib.Core.Bool.{Bool, true, false}
use mathlib.Core.List.{List, [], ◌∷◌, ◌++◌}
use lib.Dec.{eqb, ltb}
use borrow.Author.Tests.{eqb-true, eqb-false, ltb-true, ltb-false, ne_eqb}
use Rattle.finite.proofs.Booleans.{neither, neither_l, neither_r}
use Rattle.sheet.specs.Instance.{Instance, WellFormed}
use Rattle.embedding.specs.Definition1.{Walk, visits, member, Distinct, SimplePath}
use Rattle.embedding.specs.Road.{up, down, lower, tree}
use Rattle.embedding.specs.Plan.{path_within, path}
use Rattle.embedding.proofs.Edges.{lower_pos, up_edge, down_edge, source_up, target_up, source_down, target_down, Ends, ends}

-- ---- an induction along the computed path: the ends meet, the larger start moves up, the larger end moves up

module _ (I : Instance) (W : WellFormed I) (P : ℕ → ℕ → List ℕ → Type 0)
    (meet : (a : ℕ) → a < I.s → P a a [])
    (rise : (a b : ℕ) (l : List ℕ) → b < a → a < I.s → P (I.parent a) b l → P a b (up a ∷ l))
    (fall : (a b : ℕ) (l : List ℕ) → a < b → b < I.s → P a (I.parent b) l → P a b (l ++ (down b ∷ []))) where
  along : (n a b : ℕ) → a + b ≤ n → a < I.s → b < I.s → P a b (path_within I.parent n a b)
  unfolding path_within
  along zero a b h ha hb = subst (λ (z : ℕ). P a z []) (let e : a ≡ b = omega arith in e) (meet a ha)
  along (suc n) a b h ha hb = go (eqb a b) refl (ltb b a) refl (along n (I.parent a) b) (along n a (I.parent b))
    where
      go : (t : Bool) → eqb a b ≡ t → (u : Bool) → ltb b a ≡ u
          → (I.parent a + b ≤ n → I.parent a < I.s → b < I.s → P (I.parent a) b (path_within I.parent n (I.parent a) b))
          → (a + I.parent b ≤ n → a < I.s → I.parent b < I.s → P a (I.parent b) (path_within I.parent n a (I.parent b)))
          → P a b (elim t [ true ↦ [] | false ↦ elim u [ true ↦ up a ∷ path_within I.parent n (I.parent a) b | false ↦ path_within I.parent n a (I.parent b) ++ (down b ∷ []) ] ])
      go true e u f p q = subst (λ (z : ℕ). P a z []) (eqb-true a b e) (meet a ha)
      go false e true f p q =
          let l : b < a = ltb-true b a f in
          let m : I.parent a < a = W.parents a (omega arith) in
          rise a b _ l ha (p (omega arith) (omega arith) hb)
      go false e false f p q =
          let n : a ≢ b = eqb-false a b e in
          let l : a ≤ b = ltb-false b a f in
          let m : I.parent b < b = W.parents b (omega arith) in
          fall a b _ (omega arith) hb (q (omega arith) ha (omega arith))

  -- what holds where the ends meet, and is kept by each move of the larger end, holds of every computed path
  pub path_ind : (a b : ℕ) → a < I.s → b < I.s → P a b (path I a b)
  unfolding path
  path_ind a b ha hb = along (a + b) a b (le_refl (a + b)) ha hb

-- ---- lists without a number

out_head : (x y : ℕ) (ys : List ℕ) → member x (y ∷ ys) ≡ false → x ≢ y
unfolding member
out_head x y ys h = eqb-false x y (neither_l (eqb x y) (member x ys) h)

out_tail : (x y : ℕ) (ys : List ℕ) → member x (y ∷ ys) ≡ false → member x ys ≡ false
unfolding member
out_tail x y ys = neither_r (eqb x y) (member x ys)

out_cons : (x y : ℕ) (ys : List ℕ) → x ≢ y → member x ys ≡ false → member x (y ∷ ys) ≡ false
unfolding member
out_cons x y ys n = neither (eqb x y) (member x ys) (ne_eqb x y n)

out_nil : (x : ℕ) → member x [] ≡ false
unfolding member
out_nil x = refl

module _ (I : Instance) (W : WellFormed I) where
  -- ---- a simple path is the computed path

  not_first : (es : List ℕ) (x a : ℕ) → member x (visits (tree I) a es) ≡ false → x ≢ a
  not_first [] x a n = out_head x a [] n
  not_first (e ∷ es) x a n = out_head x a _ n

  not_last : (es : List ℕ) (x a b : ℕ) → Walk (tree I) a es b → member x (visits (tree I) a es) ≡ false → x ≢ b
  not_last [] x a b w n = λ e. out_head x a [] n (e ∙ sym w)
  not_last (e ∷ es) x a b w n = not_last es x ((tree I).target e) b w.2 (out_tail x a _ n)

  -- from a cabinet to itself there is no edge
  stay : (es : List ℕ) (a : ℕ) → Walk (tree I) a es a → Distinct (visits (tree I) a es) → es ≡ []
  stay [] a w d = refl
  stay (e ∷ es) a w d = absurd (not_last es a ((tree I).target e) a w.2 d.0 refl)

  -- after an edge down there are only edges down, so the walk ends at a number that is not smaller
  sink : (es : List ℕ) (c b : ℕ) → Walk (tree I) c es b → Distinct (I.parent c ∷ visits (tree I) c es) → c ≤ b
  sink [] c b w d = omega arith
  sink (e ∷ es) c b w d = go (ends I e) (sink es ((tree I).target e) b w.2)
    where
      go : Ends I e
          → (Distinct (I.parent ((tree I).target e) ∷ visits (tree I) ((tree I).target e) es) → (tree I).target e ≤ b) → c ≤ b
      go (inl q) ih =
          absurd (not_first es (I.parent c) ((tree I).target e) (out_tail (I.parent c) c _ d.0) (ap I.parent (w.1 ∙ q.1) ∙ sym q.2))
      go (inr q) ih =
          let s : c ≡ I.parent ((tree I).target e) = w.1 ∙ q.1 ∙ ap I.parent (sym q.2) in
          let f : I.parent (lower e) < lower e = W.parents (lower e) (lower_pos e) in
          let k : (tree I).target e ≤ b = ih (subst (λ (z : ℕ). Distinct (z ∷ visits (tree I) ((tree I).target e) es)) s d.1) in
          let x : c ≡ I.parent (lower e) = w.1 ∙ q.1 in
          let y : (tree I).target e ≡ lower e = q.2 in
          omega arith

  -- to a larger cabinet the last edge leads down
  last : (es : List ℕ) (a b : ℕ) → a < b → Walk (tree I) a es b → Distinct (visits (tree I) a es) → (gs : List ℕ) × (es ≡ gs ++ (down b ∷ []))
  last [] a b l w d = absurd (omega arith)
  last (e ∷ es) a b l w d = go (ends I e) (last es ((tree I).target e) b)
    where
      Last : List ℕ → Type 0
      Last es = (gs : List ℕ) × (es ≡ gs ++ (down b ∷ []))

      more : Last es → Last (e ∷ es)
      more q = (e ∷ q.0, ap (λ (z : List ℕ). e ∷ z) q.1)

      go : Ends I e
          → ((tree I).target e < b → Walk (tree I) ((tree I).target e) es b → Distinct (visits (tree I) ((tree I).target e) es) → Last es) → Last (e ∷ es)
      go (inl q) ih =
          let x : a ≡ lower e = w.1 ∙ q.1 in
          let f : I.parent (lower e) < lower e = W.parents (lower e) (lower_pos e) in
          let y : (tree I).target e ≡ I.parent (lower e) = q.2 in
          more (ih (omega arith) w.2 d.1)
      go (inr q) ih = final (eqb ((tree I).target e) b) refl
        where
          final : (t : Bool) → eqb ((tree I).target e) b ≡ t → Last (e ∷ es)
          final true h =
              let x : (tree I).target e ≡ b = eqb-true ((tree I).target e) b h in
              ([], ap₂ (λ (x : ℕ) (y : List ℕ). x ∷ y) (q.0 ∙ ap down (sym q.2 ∙ x)) (stay es ((tree I).target e) (subst (λ (z : ℕ). Walk (tree I) ((tree I).target e) es z) (sym x) w.2) d.1))
          final false h =
              let n : (tree I).target e ≢ b = eqb-false ((tree I).target e) b h in
              let s : a ≡ I.parent ((tree I).target e) = w.1 ∙ q.1 ∙ ap I.parent (sym q.2) in
              let k : (tree I).target e ≤ b = sink es ((tree I).target e) b w.2 (subst (λ (z : ℕ). Distinct (z ∷ visits (tree I) ((tree I).target e) es)) s d) in
              more (ih (omega arith) w.2 d.1)

  -- without its last edge
  walk_init : (gs : List ℕ) (a b : ℕ) → 0 < b → Walk (tree I) a (gs ++ (down b ∷ [])) b → Walk (tree I) a gs (I.parent b)
  walk_init [] a b z w = w.1 ∙ source_down I b z
  walk_init (e ∷ gs) a b z w = (w.0, w.1, walk_init gs ((tree I).target e) b z w.2)

  out_init : (gs : List ℕ) (x a e : ℕ) → member x (visits (tree I) a (gs ++ (e ∷ []))) ≡ false → member x (visits (tree I) a gs) ≡ false
  out_init [] x a e n = out_cons x a [] (out_head x a _ n) (out_nil x)
  out_init (g ∷ gs) x a e n = out_cons x a _ (out_head x a _ n) (out_init gs x ((tree I).target g) e (out_tail x a _ n))

  distinct_init : (gs : List ℕ) (a e : ℕ) → Distinct (visits (tree I) a (gs ++ (e ∷ []))) → Distinct (visits (tree I) a gs)
  distinct_init [] a e d = (out_nil a, tt)
  distinct_init (g ∷ gs) a e d = (out_init gs a ((tree I).target g) e d.0, distinct_init gs ((tree I).target g) e d.1)

  Only : ℕ → ℕ → List ℕ → Type 0
  Only a b l = (es : List ℕ) → SimplePath (tree I) a es b → es ≡ l

  only_rise : (a b : ℕ) (l : List ℕ) → b < a → a < I.s → Only (I.parent a) b l → Only a b (up a ∷ l)
  unfolding Only
  only_rise a b l k h ih [] p = absurd (let e : a ≡ b = p.walk in omega arith)
  only_rise a b l k h ih (e ∷ es) p = go (ends I e)
    where
      go : Ends I e → e ∷ es ≡ up a ∷ l
      go (inl q) =
          let x : lower e ≡ a = sym (p.walk.1 ∙ q.1) in
          let y : (tree I).target e ≡ I.parent a = q.2 ∙ ap I.parent x in
          ap₂ (λ (x : ℕ) (y : List ℕ). x ∷ y) (q.0 ∙ ap up x)
          (ih es (record {
            walk = subst (λ (z : ℕ). Walk (tree I) z es b) y p.walk.2;
            simple = subst (λ (z : ℕ). Distinct (visits (tree I) z es)) y p.simple.1;
          }))
      go (inr q) =
          let s : a ≡ I.parent ((tree I).target e) = p.walk.1 ∙ q.1 ∙ ap I.parent (sym q.2) in
          let f : I.parent (lower e) < lower e = W.parents (lower e) (lower_pos e) in
          let m : (tree I).target e ≤ b = sink es ((tree I).target e) b p.walk.2 (subst (λ (z : ℕ). Distinct (z ∷ visits (tree I) ((tree I).target e) es)) s p.simple) in
          let x : a ≡ I.parent (lower e) = p.walk.1 ∙ q.1 in
          let y : (tree I).target e ≡ lower e = q.2 in
          absurd (omega arith)

  only_fall : (a b : ℕ) (l : List ℕ) → a < b → b < I.s → Only a (I.parent b) l → Only a b (l ++ (down b ∷ []))
  unfolding Only
  only_fall a b l k h ih es p =
      let q : (gs : List ℕ) × (es ≡ gs ++ (down b ∷ [])) = last es a b k p.walk p.simple in
      let p' : SimplePath (tree I) a (q.0 ++ (down b ∷ [])) b = subst (λ (z : List ℕ). SimplePath (tree I) a z b) q.1 p in
      q.1 ∙ ap (λ (z : List ℕ). z ++ (down b ∷ []))
      (ih q.0 (record { walk = walk_init q.0 a b (omega arith) p'.walk; simple = distinct_init q.0 a (down b) p'.simple }))

  -- every simple path is the computed path
  pub path_only : (a b : ℕ) → a < I.s → b < I.s → (es : List ℕ) → SimplePath (tree I) a es b → es ≡ path I a b
  unfolding Only
  path_only = path_ind I W Only (λ a h es p. stay es a p.walk p.simple) only_rise only_fall

  -- ---- and the computed path is simple

  walk_snoc : (l : List ℕ) (a b : ℕ) → 0 < b → b < I.s → Walk (tree I) a l (I.parent b) → Walk (tree I) a (l ++ (down b ∷ [])) b
  walk_snoc [] a b z k w = (down_edge I b z k, w ∙ sym (source_down I b z), target_down I b z)
  walk_snoc (e ∷ l) a b z k w = (w.0, w.1, walk_snoc l ((tree I).target e) b z k w.2)

  out_snoc : (l : List ℕ) (x a b : ℕ) → 0 < b → x ≢ b → member x (visits (tree I) a l) ≡ false → member x (visits (tree I) a (l ++ (down b ∷ []))) ≡ false
  out_snoc [] x a b z n m =
      out_cons x a _ (out_head x a [] m) (out_cons x ((tree I).target (down b)) [] (λ e. n (e ∙ target_down I b z)) (out_nil x))
  out_snoc (e ∷ l) x a b z n m = out_cons x a _ (out_head x a _ m) (out_snoc l x ((tree I).target e) b z n (out_tail x a _ m))

  distinct_snoc : (l : List ℕ) (a b : ℕ) → 0 < b → member b (visits (tree I) a l) ≡ false → Distinct (visits (tree I) a l) → Distinct (visits (tree I) a (l ++ (down b ∷ [])))
  distinct_snoc [] a b z n d =
      let m : b ≢ a = out_head b a [] n in
      (out_cons a ((tree I).target (down b)) [] (λ e. m (sym (e ∙ target_down I b z))) (out_nil a), (out_nil _, tt))
  distinct_snoc (e ∷ l) a b z n d =
      let m : b ≢ a = out_head b a _ n in
      (out_snoc l a ((tree I).target e) b z (λ q. m (sym q)) d.0, distinct_snoc l ((tree I).target e) b z (out_tail b a _ n) d.1)

  -- it meets nothing numbered above both ends
  Fine : ℕ → ℕ → List ℕ → Type 0
  Fine a b l = SimplePath (tree I) a l b × ((m : ℕ) → a < m → b < m → member m (visits (tree I) a l) ≡ false)

  fine_rise : (a b : ℕ) (l : List ℕ) → b < a → a < I.s → Fine (I.parent a) b l → Fine a b (up a ∷ l)
  unfolding Fine
  fine_rise a b l k h ih =
      let f : I.parent a < a = W.parents a (omega arith) in
      let t : (tree I).target (up a) ≡ I.parent a = target_up I a (omega arith) in (
        record {
          walk = (up_edge I a (omega arith) h, sym (source_up I a (omega arith)), subst (λ (z : ℕ). Walk (tree I) z l b) (sym t) ih.0.walk);
          simple = subst (λ (z : ℕ). Distinct (a ∷ visits (tree I) z l)) (sym t) (ih.1 a f k, ih.0.simple);
        },
        λ m x y. subst (λ (z : ℕ). member m (a ∷ visits (tree I) z l) ≡ false) (sym t) (out_cons m a _ (λ e. omega arith) (ih.1 m (omega arith) y)),
      )

  fine_fall : (a b : ℕ) (l : List ℕ) → a < b → b < I.s → Fine a (I.parent b) l → Fine a b (l ++ (down b ∷ []))
  unfolding Fine
  fine_fall a b l k h ih =
      let f : I.parent b < b = W.parents b (omega arith) in (
        record { walk = walk_snoc l a b (omega arith) h ih.0.walk; simple = distinct_snoc l a b (omega arith) (ih.1 b k f) ih.0.simple },
        λ m x y. out_snoc l m a b (omega arith) (λ e. omega arith) (ih.1 m x (omega arith)),
      )

  -- the computed path is a simple path
  pub path_simple : (a b : ℕ) → a < I.s → b < I.s → SimplePath (tree I) a (path I a b) b
  unfolding Fine
  path_simple a b ha hb =
      (path_ind I W Fine (λ a h. (record { walk = refl; simple = (out_nil a, tt) }, λ m k l. out_cons m a [] (λ e. omega arith) (out_nil m)))
      fine_rise fine_fall a b ha hb).0
