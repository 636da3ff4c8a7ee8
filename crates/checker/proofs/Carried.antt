-- The load of a link as `link_loads` gives it: on the road of a well-formed sheet it is what the streams that run along the link take of its capacity.
use Prim.Native.Nat.{ℕ, ◌≤◌, ◌<◌}
use mathlib.Core.Path.{◌≡◌, refl, sym, ap₂, ◌∙◌}
use mathlib.Core.Bool.{true, false, ◌&&◌}
use lib.Dec.{ltb, leb}
use borrow.Author.Tests.{ltb-true, leb-true, lt-ltb, le-leb}
use Rattle.finite.specs.Below.{only}
use Rattle.finite.proofs.Booleans.{both, both_l, both_r}
use Rattle.sheet.specs.Limits.{max_cabinets, max_streams}
use Rattle.sheet.specs.Instance.{Instance, WellFormed}
use Rattle.records.specs.Flows.{load_of}
use Rattle.embedding.specs.Road.{up, down}
use Rattle.embedding.specs.Limits.{weight}
use Rattle.embedding.specs.Plan.{in_range, carried}
use Rattle.embedding.specs.Inner.Charge.{leaving, entering}
use Rattle.embedding.proofs.Reckoning.{leaving_weight, entering_weight}
use Rattle.embedding.proofs.Mappings.{range_test}
use Rattle.embedding.proofs.Loads.{carried_up, carried_down}
use Rattle.checker.specs.Loads.{has_link, is_under, loads}
use Rattle.checker.proofs.Flows.{up_flow, down_flow, up_all, down_all}

module _ (I : Instance) where
  -- what the test of a link shows
  pub link_there : (c : ℕ) → has_link I c ≡ true → (0 < c) × (c < I.s) × (I.s ≤ max_cabinets) × (I.q ≤ max_streams)
  unfolding has_link
  link_there c h =
      let k = both_l ((ltb 0 c && ltb c I.s) && leb I.s max_cabinets) (leb I.q max_streams) h in
      let l = both_l (ltb 0 c && ltb c I.s) (leb I.s max_cabinets) k in (
        ltb-true 0 c (both_l (ltb 0 c) (ltb c I.s) l),
        ltb-true c I.s (both_r (ltb 0 c) (ltb c I.s) l),
        leb-true I.s max_cabinets (both_r (ltb 0 c && ltb c I.s) (leb I.s max_cabinets) k),
        leb-true I.q max_streams (both_r ((ltb 0 c && ltb c I.s) && leb I.s max_cabinets) (leb I.q max_streams) h),
      )

  -- every cabinet of a well-formed instance but the root has a link
  pub has_its_link : WellFormed I → (c : ℕ) → 0 < c → c < I.s → has_link I c ≡ true
  unfolding has_link
  has_its_link W c z h =
      both _ _ (both _ _ (both _ _ (lt-ltb 0 c z) (lt-ltb c I.s h)) (le-leb I.s max_cabinets W.cabinets)) (le-leb I.q max_streams W.streams)

  module _ (π : ℕ → ℕ) (c : ℕ) where
    -- no link, no load
    pub no_load : has_link I c ≡ false → record { up = 0; down = 0 } ≡ loads I π c
    unfolding loads only
    no_load h = rw h refl

    -- the loads of a link are those of all streams
    pub all_loads : has_link I c ≡ true → record { up = load_of (up_flow I π c I.q); down = load_of (down_flow I π c I.q) } ≡ loads I π c
    unfolding loads only leaving entering
    all_loads h =
        rw h (ap₂ (λ (m n : ℕ). record { up = m; down = n }) (sym (leaving_weight I (λ i. is_under I c (π i)))) (sym (entering_weight I (λ i. is_under I c (π i)))))

    -- on the road of a well-formed instance, under a plan whose places are all cabinets: what the streams take of each direction's capacity
    pub loads_carried : WellFormed I → in_range I π ≡ true → 0 < c → c < I.s → loads I π c ≡ record { up = carried I π (up c); down = carried I π (down c) }
    unfolding loads only leaving entering
    loads_carried W range z h =
        rw (has_its_link W c z h) (ap₂ (λ (m n : ℕ). record { up = m; down = n })
        (up_all I π W (weight I) c ∙ sym (carried_up I W π ((range_test I π).0 range) c z))
        (down_all I π W (weight I) c ∙ sym (carried_down I W π ((range_test I π).0 range) c z)))
