-- A road written twice: it is so of a road and itself, the other way round, and of a third survey too; and the cheapest costs are the same.
use Prim.Native.Nat.{ℕ, ◌<◌}
use native.Mathlib.Omega.{arith}
use mathlib.Core.Logic.{◌↔◌, inl, inr}
use mathlib.Core.Path.{◌≡◌, refl, sym, ap, ◌∙◌, subst}
use Rattle.finite.proofs.OneToOne.{onto, inverse, inverse_of}
use Rattle.subsets.specs.Costs.{Cost, none, some}
use Rattle.subsets.specs.Inner.Totals.{Le}
use Rattle.subsets.proofs.Costs.{Le-antisym}
use Rattle.sheet.specs.Instance.{Instance, WellFormed}
use Rattle.embedding.specs.Road.{up, lower, tree}
use Rattle.embedding.specs.Plan.{cheapest}
use Rattle.embedding.specs.Rehung.{Link, link, turned, Hangs, Connects, Rehung}
use Rattle.embedding.proofs.Edges.{lower_pos, edge_lower, up_edge, source_up, target_up, Ends, ends}
use Rattle.embedding.proofs.Cheapest.{cheapest_mapping, cheapest_none}
use Rattle.embedding.proofs.Steps.{turn}
use Rattle.embedding.proofs.Rehung.{inside, parent_inside, edge_over, over, edge_one, feasible_over, limits_over, cost_over}

-- every cabinet but the root hangs under its parent
hangs : (I : Instance) (c : ℕ) → 0 < c → Hangs I c (I.parent c) (link I c)
hangs I c z = record { below_root = z; parent = refl; by_link = refl }

-- the same under other names
hangs_same : (I : Instance) {c c' p p' : ℕ} {l l' : Link} → c ≡ c' → p ≡ p' → l ≡ l' → Hangs I c p l → Hangs I c' p' l'
hangs_same I e f g h = record {
  below_root = subst (λ (z : ℕ). 0 < z) e h.below_root;
  parent = ap I.parent (sym e) ∙ h.parent ∙ f;
  by_link = ap (link I) (sym e) ∙ h.by_link ∙ g;
}

-- of a connection too
connects_same : (I : Instance) {l l' : Link} {a a' b b' : ℕ} → l ≡ l' → a ≡ a' → b ≡ b' → Connects I l a b → Connects I l' a' b'
connects_same I g e f (inl h) = inl (hangs_same I e f g h)
connects_same I g e f (inr h) = inr (hangs_same I f e (ap turned g) h)

-- a link connects over there the cabinets that it connected
connects_over : (I J : Instance) (σ : ℕ → ℕ) → Rehung I J σ → (l : Link) (a b : ℕ) → a < I.s → b < I.s → Connects I l a b → Connects J l (σ a) (σ b)
connects_over I J σ R l a b j k (inl h) = connects_same J h.by_link refl (ap σ h.parent) (R.links a h.below_root j)
connects_over I J σ R l a b j k (inr h) = turn J (connects_same J h.by_link refl (ap σ h.parent) (R.links b h.below_root k))

-- ---- a road and itself

pub rehung_itself : (I : Instance) → Rehung I I (λ c. c)
rehung_itself I = record {
  counts = (refl, refl, refl);
  services = λ i k. refl;
  streams = λ j k. (refl, refl, refl);
  renumbers = λ c k. k;
  one_to_one = λ c d k l e. e;
  cabinets = λ c k. (refl, refl);
  joints = λ c k. refl;
  bars = λ i c k l. refl;
  links = λ c z k. inl (hangs I c z);
}

-- ---- the other way round

-- the cabinet of I that σ takes to a cabinet of J
abbrev pub back : Instance → (ℕ → ℕ) → ℕ → ℕ
back I σ = inverse I.s σ

module _ (I J : Instance) (W : WellFormed I) (X : WellFormed J) (σ : ℕ → ℕ) (R : Rehung I J σ) where
  -- it is a cabinet of I, and σ takes it there
  there : (d : ℕ) → d < J.s → (back I σ d < I.s) × (σ (back I σ d) ≡ d)
  there d k =
      let w = onto I.s σ R.renumbers R.one_to_one d (omega (arith, R.counts.1)) in
      let e : back I σ d ≡ w.0 = ap (back I σ) (sym w.2) ∙ inverse_of I.s σ R.one_to_one w.0 w.1 in
      (subst (λ (z : ℕ). z < I.s) (sym e) w.1, ap σ e ∙ w.2)

  -- it undoes σ
  pub back_over : (c : ℕ) → c < I.s → back I σ (σ c) ≡ c
  back_over = inverse_of I.s σ R.one_to_one

  back_is : (c d : ℕ) → c < I.s → σ c ≡ d → back I σ d ≡ c
  back_is c d k e = ap (back I σ) (sym e) ∙ back_over c k

  -- the edge up from d comes from an edge of I, since there are as many
  edge_met : (d : ℕ) → 0 < d → d < J.s → (e : ℕ) × (e < (tree I).edges) × (σ ((tree I).source e) ≡ d) × (σ ((tree I).target e) ≡ J.parent d)
  edge_met d z k =
      let w = onto (tree I).edges (edge_over I σ) (λ e l. omega (arith, (over I J W X σ R e l).edge, R.counts.1)) (edge_one I J W X σ R)
      (up d) (omega (arith, up_edge J d z k, R.counts.1)) in
      ends_of w.0 w.1 w.2
    where
      ends_of : (e : ℕ) → e < (tree I).edges → edge_over I σ e ≡ up d → (e : ℕ) × (e < (tree I).edges) × (σ ((tree I).source e) ≡ d) × (σ ((tree I).target e) ≡ J.parent d)
      ends_of e l q =
          let x = over I J W X σ R e l in
          (e, l, sym x.source ∙ ap (tree J).source q ∙ source_up J d z, sym x.target ∙ ap (tree J).target q ∙ target_up J d z)

  -- so the link above d comes from a link of I
  links_back : (d : ℕ) → 0 < d → d < J.s → Connects I (link J d) (back I σ d) (back I σ (J.parent d))
  links_back d z k =
      let w = edge_met d z k in
      let l = edge_lower I w.0 w.1 in
      go w.0 l w.2 w.3 (ends I w.0) (R.links (lower w.0) (lower_pos w.0) l)
    where
      -- no link of J hangs both ways
      never : {A : Type 0} {l : Link} {a b : ℕ} → Hangs J a b l → a ≡ J.parent d → b ≡ d → A
      never {a = a} h s t = absurd (omega (arith, X.parents a h.below_root, X.parents d z, h.parent))

      go : (e : ℕ) → lower e < I.s → σ ((tree I).source e) ≡ d → σ ((tree I).target e) ≡ J.parent d → Ends I e →
          Connects J (link I (lower e)) (σ (lower e)) (σ (I.parent (lower e))) → Connects I (link J d) (back I σ d) (back I σ (J.parent d))
      go e l s t (inl q) (inl h) =
          let c = lower e in
          let s' : σ c ≡ d = ap σ (sym q.1) ∙ s in
          let t' : σ (I.parent c) ≡ J.parent d = ap σ (sym q.2) ∙ t in
          inl (hangs_same I (sym (back_is c d l s')) (sym (back_is (I.parent c) (J.parent d) (parent_inside W c (lower_pos e) l) t'))
          (sym h.by_link ∙ ap (link J) s') (hangs I c (lower_pos e)))
      go e l s t (inr q) (inr h) =
          let c = lower e in
          let s' : σ (I.parent c) ≡ d = ap σ (sym q.1) ∙ s in
          let t' : σ c ≡ J.parent d = ap σ (sym q.2) ∙ t in
          inr (hangs_same I (sym (back_is c (J.parent d) l t')) (sym (back_is (I.parent c) d (parent_inside W c (lower_pos e) l) s'))
          (sym (ap turned h.by_link) ∙ ap (λ (n : ℕ). turned (link J n)) s') (hangs I c (lower_pos e)))
      go e l s t (inl q) (inr h) = never h (ap σ (sym q.2) ∙ t) (ap σ (sym q.1) ∙ s)
      go e l s t (inr q) (inl h) = never h (ap σ (sym q.2) ∙ t) (ap σ (sym q.1) ∙ s)

  -- so I is J rehung
  pub rehung_back : Rehung J I (back I σ)
  rehung_back = record {
    counts = (sym R.counts.0, sym R.counts.1, sym R.counts.2);
    services = λ i k. sym (R.services i (omega (arith, R.counts.0)));
    streams = λ j k. let h = R.streams j (omega (arith, R.counts.2)) in (sym h.0, sym h.1, sym h.2);
    renumbers = λ d k. omega (arith, (there d k).0, R.counts.1);
    one_to_one = λ c d k l e. sym (there c k).1 ∙ ap σ e ∙ (there d l).1;
    cabinets = λ d k.
        let h = R.cabinets (back I σ d) (there d k).0 in
        (sym h.0 ∙ ap J.capacity (there d k).1, sym h.1 ∙ ap J.price (there d k).1);
    joints = λ d k. sym (R.joints (back I σ d) (there d k).0) ∙ ap J.joint (there d k).1;
    bars = λ i d l k. sym (R.bars i (back I σ d) (omega (arith, R.counts.0)) (there d k).0) ∙ ap (J.barred i) (there d k).1;
    links = links_back;
  }

  -- neither has a link that the other has not
  pub rehung_links : (l : Link) (a b : ℕ) → a < I.s → b < I.s → Connects I l a b ↔ Connects J l (σ a) (σ b)
  rehung_links l a b j k = (
    connects_over I J σ R l a b j k,
    λ h. connects_same I refl (back_over a j) (back_over b k) (connects_over J I (back I σ) rehung_back l (σ a) (σ b) (inside R a j) (inside R b k) h),
  )

-- ---- a third survey

module _ (I J K : Instance) (W : WellFormed I) (σ τ : ℕ → ℕ) (R : Rehung I J σ) (S : Rehung J K τ) where
  pub rehung_on : Rehung I K (λ c. τ (σ c))
  rehung_on = record {
    counts = (S.counts.0 ∙ R.counts.0, S.counts.1 ∙ R.counts.1, S.counts.2 ∙ R.counts.2);
    services = λ i k. S.services i (omega (arith, R.counts.0)) ∙ R.services i k;
    streams = λ j k.
        let h = R.streams j k in
        let g = S.streams j (omega (arith, R.counts.2)) in
        (g.0 ∙ h.0, g.1 ∙ h.1, g.2 ∙ h.2);
    renumbers = λ c k. omega (arith, S.renumbers (σ c) (inside R c k), R.counts.1);
    one_to_one = λ c d k l e. R.one_to_one c d k l (S.one_to_one (σ c) (σ d) (inside R c k) (inside R d l) e);
    cabinets = λ c k.
        let h = R.cabinets c k in
        let g = S.cabinets (σ c) (inside R c k) in
        (g.0 ∙ h.0, g.1 ∙ h.1);
    joints = λ c k. S.joints (σ c) (inside R c k) ∙ R.joints c k;
    bars = λ i c l k. S.bars i (σ c) (omega (arith, R.counts.0)) (inside R c k) ∙ R.bars i c l k;
    links = λ c z k. connects_over J K τ S (link I c) (σ c) (σ (I.parent c)) (inside R c k) (inside R (I.parent c) (parent_inside W c z k)) (R.links c z k);
  }

-- ---- the cheapest

module _ (I J : Instance) (W : WellFormed I) (X : WellFormed J) (σ : ℕ → ℕ) (R : Rehung I J σ) where
  -- what costs k on I costs k on J, so the cheapest of J costs no more
  no_dearer : Le (cheapest J) (cheapest I)
  unfolding Le
  no_dearer = go (cheapest I) refl (cheapest J) refl
    where
      go : (f : Cost) → cheapest I ≡ f → (g : Cost) → cheapest J ≡ g → Le g f
      go none e g q = tt
      go (some k) e none q =
          let m = ((cheapest_mapping I W k).0 e).0 in
          (cheapest_none J X).0 q _ _ (feasible_over I J W X σ R m.0 m.1 m.2) (limits_over I J W X σ R m.0 m.1 m.2 m.3)
      go (some k) e (some n) q =
          let m = ((cheapest_mapping I W k).0 e).0 in
          omega (
            arith,
            ((cheapest_mapping J X n).0 q).1 _ _ (feasible_over I J W X σ R m.0 m.1 m.2) (limits_over I J W X σ R m.0 m.1 m.2 m.3),
            cost_over I J W X σ R m.0 m.1 m.2,
            m.4,
          )

-- both have the same cheapest cost, or neither has one
pub rehung_cheapest : (I J : Instance) → WellFormed I → WellFormed J → (σ : ℕ → ℕ) → Rehung I J σ → cheapest I ≡ cheapest J
rehung_cheapest I J W X σ R =
    Le-antisym (cheapest I) (cheapest J) (no_dearer J I X W (back I σ) (rehung_back I J W X σ R)) (no_dearer I J W X σ R)
