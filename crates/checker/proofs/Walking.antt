-- The walk over the links: what holds between two links, what holds between two streams of a link, and how the walk ends.
use Prim.Native.Nat.{ℕ, ◌+◌, ◌*◌, ◌^◌, ◌≤◌, ◌<◌}
use native.Mathlib.Omega.{arith}
use mathlib.Core.Path.{◌≡◌, refl, sym, ap, ap₂, ◌∙◌}
use mathlib.Core.Logic.{◌⊎◌, inl, inr, ⊎_elim}
use mathlib.Core.Bool.{Bool, true, false, ◌&&◌, ◌||◌}
use lib.Dec.{ltb, leb}
use Rattle.std.specs.Prelude.{Ok, Err}
use borrow.Author.Tests.{ltb-true, ltb-false, lt-ltb, le-leb, lt-leb}
use Rattle.finite.specs.Below.{◌⇒◌, only, sum_below, all_below}
use Rattle.finite.proofs.Booleans.{both, either, neither_l, neither_r, is_false, both_l, both_r, clash, implies}
use Rattle.finite.proofs.Sums.{sum_next, sum_part}
use Rattle.finite.proofs.Tests.{all_next, all_end, all_stop}
use Rattle.subsets.specs.Tree.{under}
use Rattle.sheet.specs.Instance.{Instance, WellFormed}
use Rattle.sheet.specs.Refusals.{refusal}
use Rattle.sheet.specs.declared.Refusal.TheVariants.{PlanWriter}
use Rattle.sheet.specs.Inner.Fields.{cabinet_of}
use Rattle.sheet.specs.declared.Cabinet.{Cabinet}
use Rattle.records.specs.Flows.{load_of}
use Rattle.embedding.specs.Limits.{frames}
use Rattle.embedding.specs.Plan.{link_keeps, in_range, links_keep, cabinets_cost, links_cost, plan_cost}
use Rattle.embedding.proofs.Reckoning.{toll_by_price, leaving_weight, entering_weight}
use Rattle.embedding.proofs.Mappings.{range_test}
use Rattle.embedding.proofs.Loads.{link_cost, link_keeps_by_flows, links_cost_by_links}
use Rattle.embedding.proofs.Theorems.{cost_bound}
use Rattle.checker.specs.Inner.Walk.{walked}
use Rattle.checker.specs.Inner.Flows.{Few}
use Rattle.checker.specs.declared.streams.Flows.{Flows}
use Rattle.checker.proofs.Flows.{rises, falls, up_flow, down_flow, flows_of, none_yet, up_all, down_all}

only_true : (n : ℕ) → only true n ≡ n
unfolding only
only_true n = refl

module _ (I : Instance) (π : ℕ → ℕ) where
  -- between two links: the links below c are not overfull, and this is the cost so far
  pub record Passed (c cost : ℕ) : Type 0 where
    pub above : 0 < c
    pub within : c ≤ I.s
    pub kept : all_below c (λ d. ltb 0 d ⇒ link_keeps I π d) ≡ true
    pub cost_is : cost ≡ cabinets_cost I π + sum_below c (λ d. only (ltb 0 d) (link_cost I π d))

  -- between two streams of the link above c: j of them are counted, and no direction is overfull yet
  pub record Counting (c : ℕ) (flows : Flows) (j : ℕ) : Type 0 where
    pub flows_are : flows ≡ flows_of I π c j
    pub few : Few j flows
    pub up_keeps : load_of flows.up ≤ I.up_capacity c
    pub down_keeps : load_of flows.down ≤ I.down_capacity c

  module _ (W : WellFormed I) (range : in_range I π ≡ true) where
    -- ---- the beginning

    pub first : Passed 1 (cabinets_cost I π)
    unfolding all_below sum_below only ◌⇒◌
    first = record { above = omega arith; within = W.some_cabinet; kept = refl; cost_is = omega arith }

    pub enter : (c : ℕ) → Counting c (record { up = record { demand = 0; frames = 0 }; down = record { demand = 0; frames = 0 } }) 0
    enter c = record { flows_are = none_yet I π c; few = ((omega arith, omega arith), (omega arith, omega arith)); up_keeps = omega arith; down_keeps = omega arith }

    -- more streams have no smaller load
    up_grows : (c n : ℕ) → n ≤ I.q → load_of (up_flow I π c n) ≤ load_of (up_flow I π c I.q)
    up_grows c n h = omega (arith, sum_part n I.q (λ j. only (rises I π c j) (I.load j)) h, sum_part n I.q (λ j. only (rises I π c j) (frames I j)) h)

    down_grows : (c n : ℕ) → n ≤ I.q → load_of (down_flow I π c n) ≤ load_of (down_flow I π c I.q)
    down_grows c n h = omega (arith, sum_part n I.q (λ j. only (falls I π c j) (I.load j)) h, sum_part n I.q (λ j. only (falls I π c j) (frames I j)) h)

    -- ---- the test of a link, and its cost

    -- the loads of all streams on the link above c
    abbrev all_up : ℕ → ℕ
    all_up c = load_of (up_flow I π c I.q)

    abbrev all_down : ℕ → ℕ
    all_down c = load_of (down_flow I π c I.q)

    -- they fit
    abbrev fits_link : ℕ → Bool
    fits_link c = leb (all_up c) (I.up_capacity c) && leb (all_down c) (I.down_capacity c)

    link_test : (c : ℕ) → 0 < c → link_keeps I π c ≡ fits_link c
    link_test c z =
        link_keeps_by_flows I W π ((range_test I π).0 range) c z
        ∙ ap₂ (λ (m n : ℕ). leb m (I.up_capacity c) && leb n (I.down_capacity c))
        (leaving_weight I (λ i. under I.parent c (π i)) ∙ sym (ap₂ (λ (d f : ℕ). d + 2 * f) (up_all I π W I.load c) (up_all I π W (frames I) c)))
        (entering_weight I (λ i. under I.parent c (π i)) ∙ sym (ap₂ (λ (d f : ℕ). d + 2 * f) (down_all I π W I.load c) (down_all I π W (frames I) c)))

    link_cost_is : (c : ℕ) → link_cost I π c ≡ (up_flow I π c I.q).demand * I.up_price c + (down_flow I π c I.q).demand * I.down_price c
    link_cost_is c =
        toll_by_price I c _ _
        ∙ ap₂ (λ (m n : ℕ). m * I.up_price c + n * I.down_price c) (sym (up_all I π W I.load c)) (sym (down_all I π W I.load c))

    -- a link whose first n streams are too much
    too_much : (c n : ℕ) → 0 < c → c < I.s → n ≤ I.q → (I.up_capacity c < load_of (up_flow I π c n)) ⊎ (I.down_capacity c < load_of (down_flow I π c n)) → links_keep I π ≡ false
    unfolding links_keep ◌⇒◌
    too_much c n z h k o =
        sym (all_stop I.s (λ d. ltb 0 d ⇒ link_keeps I π d) c h (ap₂ (λ (a b : Bool). a ⇒ b) (lt-ltb 0 c z) (link_test c z ∙ fails)))
      where
        fails : fits_link c ≡ false
        fails = is_false _ (λ e. ⊎_elim
            (λ l. clash (sym (both_l (leb (all_up c) (I.up_capacity c)) (leb (all_down c) (I.down_capacity c)) e) ∙ lt-leb (all_up c) (I.up_capacity c) (omega (arith, l, up_grows c n k))))
            (λ l. clash (sym (both_r (leb (all_up c) (I.up_capacity c)) (leb (all_down c) (I.down_capacity c)) e) ∙ lt-leb (all_down c) (I.down_capacity c) (omega (arith, l, down_grows c n k))))
            o)

    -- a link whose streams all fit
    fits_all : (c : ℕ) → 0 < c → load_of (up_flow I π c I.q) ≤ I.up_capacity c → load_of (down_flow I π c I.q) ≤ I.down_capacity c → ltb 0 c ⇒ link_keeps I π c ≡ true
    fits_all c z k l = implies (ltb 0 c) (link_keeps I π c) (λ e. link_test c z ∙ both _ _ (le-leb _ _ k) (le-leb _ _ l))

    -- the walk was left
    refused : links_keep I π ≡ false → Err (PlanWriter 16) ≡ walked I π
    unfolding walked refusal
    refused e = simp e

    by_links : links_cost I π ≡ sum_below I.s (λ d. only (ltb 0 d) (link_cost I π d))
    by_links = links_cost_by_links I W π ((range_test I π).0 range)

    -- the cost so far is below 10^15
    pub cost_low : (c cost : ℕ) → Passed c cost → cost < 10 ^ 15
    unfolding plan_cost
    cost_low c cost p =
        omega (arith, p.cost_is, by_links, cost_bound I W π range, sum_part c I.s (λ d. only (ltb 0 d) (link_cost I π d)) p.within)

    module _ (c : ℕ) {link : Cabinet} (link_is : link ≡ cabinet_of I c) where
      up_capacity_is : link.up_capacity ≡ I.up_capacity c
      up_capacity_is = ap (λ (k : Cabinet). k.up_capacity) link_is

      down_capacity_is : link.down_capacity ≡ I.down_capacity c
      down_capacity_is = ap (λ (k : Cabinet). k.down_capacity) link_is

      -- the test after stream j
      module _ (j : ℕ) {flows : Flows} {t : Bool} (flows_are : flows ≡ flows_of I π c (j + 1))
          (test_is : t ≡ ltb link.up_capacity (load_of flows.up) || ltb link.down_capacity (load_of flows.down)) where
        -- a direction is overfull, and the walk is left
        pub left : 0 < c → c < I.s → j < I.q → t ≡ true → Err (PlanWriter 16) ≡ walked I π
        left z h k q =
            refused (too_much c (j + 1) z h (omega arith)
            (⊎_elim
            (λ t. inl (omega (arith, ltb-true link.up_capacity (load_of flows.up) t, up_capacity_is, ap (λ (f : Flows). load_of f.up) flows_are)))
            (λ t. inr (omega (arith, ltb-true link.down_capacity (load_of flows.down) t, down_capacity_is, ap (λ (f : Flows). load_of f.down) flows_are)))
            (either (ltb link.up_capacity (load_of flows.up)) (ltb link.down_capacity (load_of flows.down)) (sym test_is ∙ q))))

        -- or none is, and the count goes on
        pub again : Few (j + 1) flows → t ≡ false → Counting c flows (j + 1)
        again few q =
            let o = sym test_is ∙ q in
            record {
              flows_are = flows_are;
              few = few;
              up_keeps = omega (
                arith,
                ltb-false link.up_capacity (load_of flows.up) (neither_l (ltb link.up_capacity (load_of flows.up)) (ltb link.down_capacity (load_of flows.down)) o),
                up_capacity_is,
              );
              down_keeps = omega (
                arith,
                ltb-false link.down_capacity (load_of flows.down) (neither_r (ltb link.up_capacity (load_of flows.up)) (ltb link.down_capacity (load_of flows.down)) o),
                down_capacity_is,
              );
            }

      -- ---- one more link

      -- the streams are all counted
      module _ {cost j : ℕ} {flows : Flows} (p : Passed c cost) (more : c < I.s) (s : Counting c flows j) (whole : j ≡ I.q) where
        flows_all : flows ≡ flows_of I π c I.q
        flows_all = s.flows_are ∙ ap (flows_of I π c) whole

        pub next : Passed (c + 1) (cost + (flows.up.demand * link.up_price + flows.down.demand * link.down_price))
        next = record {
          above = omega arith;
          within = omega (arith, more);
          kept = all_next c (λ d. ltb 0 d ⇒ link_keeps I π d) p.kept
              (fits_all c p.above (omega (arith, s.up_keeps, ap (λ (f : Flows). load_of f.up) flows_all)) (omega (arith, s.down_keeps, ap (λ (f : Flows). load_of f.down) flows_all)));
          cost_is = omega (
            arith,
            p.cost_is,
            sum_next c (λ d. only (ltb 0 d) (link_cost I π d)),
            counted,
            link_cost_is c,
            ap₂ (λ (x y : ℕ). x * y) (ap (λ (f : Flows). f.up.demand) flows_all) (ap (λ (k : Cabinet). k.up_price) link_is),
            ap₂ (λ (x y : ℕ). x * y) (ap (λ (f : Flows). f.down.demand) flows_all) (ap (λ (k : Cabinet). k.down_price) link_is),
          );
        }
          where
            counted : only (ltb 0 c) (link_cost I π c) ≡ link_cost I π c
            counted = ap (λ (t : Bool). only t (link_cost I π c)) (lt-ltb 0 c p.above) ∙ only_true (link_cost I π c)

    -- ---- the end

    -- all links are passed
    pub accepted : (c cost : ℕ) → Passed c cost → I.s ≤ c → Ok cost ≡ walked I π
    unfolding walked links_keep plan_cost
    accepted c cost p h =
        let e : c ≡ I.s = omega (arith, p.within) in
        let k : cost ≡ plan_cost I π = omega (arith, p.cost_is, by_links, ap (λ (n : ℕ). sum_below n (λ d. only (ltb 0 d) (link_cost I π d))) e) in
        simp (sym (all_end I.s c (λ d. ltb 0 d ⇒ link_keeps I π d) p.within h p.kept)) (ap Ok k)
