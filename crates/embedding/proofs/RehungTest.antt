-- Whether a road is another one rehung and renumbered is decided by one test, for roads written down.
use Prim.Native.Nat.{ℕ}
use mathlib.Core.Path.{◌≡◌, sym, ap, ap₂, ◌∙◌}
use mathlib.Core.Bool.{Bool, false, ◌&&◌, ◌||◌}
use lib.Dec.{eqb, ltb}
use Rattle.finite.specs.Below.{◌⇒◌, all_below}
use Rattle.finite.proofs.Booleans.{clash}
use Rattle.finite.proofs.Decides.{Decides, alike, equal, less, same, and, or, then, and₃, all}
use Rattle.sheet.specs.Instance.{Instance}
use Rattle.embedding.specs.Rehung.{Link, link, turned, Hangs, Rehung}

-- two links have the same numbers
unfoldable pub link_test : Link → Link → Bool
link_test k l =
    (eqb k.up_capacity l.up_capacity && eqb k.up_price l.up_price)
    && (eqb k.down_capacity l.down_capacity && eqb k.down_price l.down_price)

link_decided : (k l : Link) → Decides (link_test k l) (k ≡ l)
unfolding link_test
link_decided k l =
    let d =
    and (and (equal k.up_capacity l.up_capacity) (equal k.up_price l.up_price))
    (and (equal k.down_capacity l.down_capacity) (equal k.down_price l.down_price)) in (
      λ e.
          let h = d.0 e in
          ap₂ (λ (a b : ℕ). record { up_capacity = a; up_price = b; down_capacity = k.down_capacity; down_price = k.down_price }) h.0.0 h.0.1
          ∙ ap₂ (λ (a b : ℕ). record { up_capacity = l.up_capacity; up_price = l.up_price; down_capacity = a; down_price = b }) h.1.0 h.1.1,
      λ e. d.1 (
        (ap (λ (x : Link). x.up_capacity) e, ap (λ (x : Link). x.up_price) e),
        (ap (λ (x : Link). x.down_capacity) e, ap (λ (x : Link). x.down_price) e),
      ),
    )

-- cabinet c hangs under cabinet p by this link
unfoldable pub hangs_test : Instance → ℕ → ℕ → Link → Bool
hangs_test I c p l = ltb 0 c && (eqb (I.parent c) p && link_test (link I c) l)

hangs_decided : (I : Instance) (c p : ℕ) (l : Link) → Decides (hangs_test I c p l) (Hangs I c p l)
unfolding hangs_test
hangs_decided I c p l =
    let d = and₃ (less 0 c) (equal (I.parent c) p) (link_decided (link I c) l) in
    (λ e. let h = d.0 e in record { below_root = h.0; parent = h.1; by_link = h.2 }, λ h. d.1 (h.below_root, h.parent, h.by_link))

-- the link connects cabinets a and b
unfoldable pub connects_test : Instance → Link → ℕ → ℕ → Bool
connects_test I l a b = hangs_test I a b l || hangs_test I b a (turned l)

module _ (I J : Instance) (σ : ℕ → ℕ) where
  -- J is I rehung and renumbered by σ
  unfoldable pub rehung_test : Bool
  rehung_test =
      ((eqb J.r I.r && (eqb J.s I.s && eqb J.q I.q))
      && (all_below I.r (λ i. eqb (J.demand i) (I.demand i))
      && all_below I.q (λ j. eqb (J.from j) (I.from j) && (eqb (J.to j) (I.to j) && eqb (J.load j) (I.load j)))))
      && ((all_below I.s (λ c. ltb (σ c) I.s)
      && (all_below I.s (λ c. all_below I.s (λ d. eqb (σ c) (σ d) ⇒ eqb c d))
      && all_below I.s (λ c. eqb (J.capacity (σ c)) (I.capacity c) && eqb (J.price (σ c)) (I.price c))))
      && (all_below I.s (λ c. alike (J.joint (σ c)) (I.joint c))
      && (all_below I.r (λ i. all_below I.s (λ c. alike (J.barred i (σ c)) (I.barred i c)))
      && all_below I.s (λ c. ltb 0 c ⇒ connects_test J (link I c) (σ c) (σ (I.parent c))))))

  -- the test passes exactly when it is so
  pub rehung_decided : Decides rehung_test (Rehung I J σ)
  unfolding rehung_test connects_test
  rehung_decided =
      let d =
      and₃
      (and₃ (and₃ (equal J.r I.r) (equal J.s I.s) (equal J.q I.q))
      (all I.r (λ i. equal (J.demand i) (I.demand i)))
      (all I.q (λ j. and₃ (equal (J.from j) (I.from j)) (equal (J.to j) (I.to j)) (equal (J.load j) (I.load j)))))
      (and₃ (all I.s (λ c. less (σ c) I.s))
      (all I.s (λ c. all I.s (λ d. then (equal (σ c) (σ d)) (equal c d))))
      (all I.s (λ c. and (equal (J.capacity (σ c)) (I.capacity c)) (equal (J.price (σ c)) (I.price c)))))
      (and₃ (all I.s (λ c. same (J.joint (σ c)) (I.joint c)))
      (all I.r (λ i. all I.s (λ c. same (J.barred i (σ c)) (I.barred i c))))
      (all I.s (λ c. then (less 0 c)
      (or (hangs_decided J (σ c) (σ (I.parent c)) (link I c)) (hangs_decided J (σ (I.parent c)) (σ c) (turned (link I c)))))))
      in (
        λ e.
            let h = d.0 e in
            record {
              counts = h.0.0;
              services = h.0.1;
              streams = h.0.2;
              renumbers = h.1.0;
              one_to_one = λ c d k l. h.1.1 c k d l;
              cabinets = h.1.2;
              joints = h.2.0;
              bars = λ i c k l. h.2.1 i k c l;
              links = λ c z k. h.2.2 c k z;
            },
        λ R. d.1 (
          (R.counts, R.services, R.streams),
          (R.renumbers, (λ c k d l. R.one_to_one c d k l), R.cabinets),
          (R.joints, (λ i k c l. R.bars i c k l), λ c k z. R.links c z k),
        ),
      )

  -- a test that fails shows that it is not
  pub rehung_refuted : rehung_test ≡ false → Rehung I J σ → ⊥
  rehung_refuted e R = clash (sym (rehung_decided.1 R) ∙ e)
