-- What a charge and a least charge depend on, and the charge of one node alone.
use Rattle.std.proofs.Common.{◌≡◌, ℕ, ◌^◌, ◌<◌, Bool, true, false, not, ◌&&◌, eqb, sym, refl, ap, ◌∙◌, subst, ap₂, eq-eqb, eqb-true}
use mathlib.Core.Bool.{and-not_self}
use Rattle.subsets.specs.Sets.{has}
use Rattle.subsets.specs.Costs.{Cost, none, some}
use Rattle.subsets.specs.Inner.Totals.{◌⊕◌, Le, charged}
use Rattle.subsets.specs.Tree.{under}
use Rattle.subsets.specs.Inner.Net.{Net, on, below, charge, Sits, Least}
use Rattle.subsets.proofs.Costs.{total_ext, total_zero, total_one, ⊕-zero, Le-refl, Le-antisym, Le-none}
use Rattle.subsets.proofs.Sets.{keep_ext, keep_is}

-- a charge depends on a placing only at the services of the set
pub charge_ext : (N : Net) (T : ℕ → Bool) (v x : ℕ) (π ρ : ℕ → ℕ) → ((i : ℕ) → i < N.r → has x i ≡ true → π i ≡ ρ i)
    → charge N T v x π ≡ charge N T v x ρ
unfolding charge
charge_ext N T v x π ρ e =
    ap₂ (λ (a b : Cost). a ⊕ b)
    (total_ext N.s _ _ (λ c k. ap (λ (y : ℕ). charged (T c) (N.node c y)) (keep_ext N.r _ _ x (λ i h m. ap (λ (z : ℕ). eqb z c) (e i h m)))))
    (total_ext N.s _ _ (λ c k. ap (λ (y : ℕ). charged (T c && not (eqb c v)) (N.link c y)) (keep_ext N.r _ _ x (λ i h m. ap (λ (z : ℕ). under N.parent c z) (e i h m)))))

-- a charge depends on the part only below s
pub charge_part : (N : Net) (T U : ℕ → Bool) (v x : ℕ) → ((d : ℕ) → d < N.s → T d ≡ U d) → (π : ℕ → ℕ) → charge N T v x π ≡ charge N U v x π
unfolding charge
charge_part N T U v x e π =
    ap₂ (λ (a b : Cost). a ⊕ b)
    (total_ext N.s _ _ (λ d k. ap (λ (t : Bool). charged t (N.node d (on N π x d))) (e d k)))
    (total_ext N.s _ _ (λ d k. ap (λ (t : Bool). charged (t && not (eqb d v)) (N.link d (below N π x d))) (e d k)))

-- and so does the least charge
pub Least-ext : (N : Net) (T U : ℕ → Bool) (v x : ℕ) (f : Cost) → ((d : ℕ) → d < N.s → T d ≡ U d) → Least N T v x f → Least N U v x f
Least-ext N T U v x f e l = record {
  low = λ π si. subst (Le f) (charge_part N T U v x e π) (l.low π (λ i k m. (e (π i) (si i k m).1 ∙ (si i k m).0, (si i k m).1)));
  hit = λ n q. let h : (π : ℕ → ℕ) × Sits N T x π × (charge N T v x π ≡ f) = l.hit n q in
      (h.0, λ i k m. (sym (e (h.0 i) (h.1 i k m).1) ∙ (h.1 i k m).0, (h.1 i k m).1), sym (charge_part N T U v x e h.0) ∙ h.2);
}

-- a part has one least charge
pub Least-unique : (N : Net) (T : ℕ → Bool) (v x : ℕ) (f g : Cost) → Least N T v x f → Least N T v x g → f ≡ g
Least-unique N T v x f g L M = Le-antisym f g (at_most f g L M g refl) (at_most g f M L f refl)
  where
    at_most : (f g : Cost) → Least N T v x f → Least N T v x g → (k : Cost) → g ≡ k → Le f g
    at_most f g L M none e = rw e (Le-none f)
    at_most f g L M (some n) e = let h = M.hit n e in subst (Le f) h.2 (L.low h.0 h.1)

-- ---- one node

-- the node v charges for x, and no other for anything
alone_at : (N : Net) (v x d : ℕ) (π : ℕ → ℕ) (t : Bool) → eqb d v ≡ t → on N π x v ≡ x → charged t (N.node d (on N π x d)) ≡ charged t (N.node v x)
unfolding charged
alone_at N v x d π true e h = ap (λ (z : ℕ). N.node z (on N π x z)) (eqb-true d v e) ∙ ap (N.node v) h
alone_at N v x d π false e h = refl

-- a placing of x on v alone costs what v charges for x
pub alone : (N : Net) (v x : ℕ) (π : ℕ → ℕ) → v < N.s → x < 2 ^ N.r → ((i : ℕ) → i < N.r → has x i ≡ true → eqb (π i) v ≡ true)
    → charge N (λ d. eqb d v) v x π ≡ N.node v x
unfolding charge charged
alone N v x π hv hx e =
    let h : on N π x v ≡ x = keep_is N.r _ x x hx (λ i k. same (has x i) (eqb (π i) v) (e i k)) in
    ap₂ (λ (a b : Cost). a ⊕ b)
    (total_ext N.s _ (λ d. charged (eqb d v) (N.node v x)) (λ d k. alone_at N v x d π (eqb d v) refl h) ∙ total_one N.s v (N.node v x) hv)
    (total_zero N.s _ (λ d k. ap (λ (t : Bool). charged t (N.link d (below N π x d))) (and-not_self (eqb d v))))
    ∙ ⊕-zero (N.node v x)
  where
    same : (s t : Bool) → (s ≡ true → t ≡ true) → s && t ≡ s
    same true t e = e refl
    same false t e = refl

-- the base: the least charge of a node alone is what it charges
pub base : (N : Net) (v x : ℕ) → v < N.s → x < 2 ^ N.r → Least N (λ d. eqb d v) v x (N.node v x)
base N v x hv hx = record {
  low = λ π si. subst (Le (N.node v x)) (sym (alone N v x π hv hx (λ i k m. (si i k m).0))) (Le-refl (N.node v x));
  hit = λ n e. (λ i. v, λ i k m. (eq-eqb v v refl, hv), alone N v x (λ i. v) hv hx (λ i k m. eq-eqb v v refl));
}
