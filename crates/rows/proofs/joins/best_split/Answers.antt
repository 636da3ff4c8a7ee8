-- `best_split` meets its contract.
use Prim.Native.Nat.{ℕ, suc, ◌+◌, ◌-◌, ◌≤◌, ◌<◌}
use native.Mathlib.Omega.{arith}
use mathlib.Core.Path.{◌≡◌, refl, sym, ap, ap₂, ◌∙◌}
use mathlib.Core.Bool.{Bool, ◌&&◌}
use lib.Bits.{bit_and, and_self, and_le_l, and_le_r, and_zero_l}
use Rattle.subsets.specs.declared.Best.{Best}
use Rattle.subsets.specs.Inner.Folds.{figures, scan, best_split, by_key, after, is_tie}
use Rattle.subsets.specs.declared.Weighed.{Weighed}
use Rattle.subsets.specs.Figures.{weighing}
use Rattle.subsets.proofs.Sets.{Sub, sub_and}
use Rattle.subsets.proofs.Figures.{counted_le}
use Rattle.subsets.proofs.Folds.{try_at, scan_at, scan_next, scan_end, tried_sub}
use Rattle.rows.specs.Keys.{key_in}
use Rattle.rows.proofs.joins.best_split.Goals as goal

-- One turn, by what its calls give: the split that places a is tried.
module _ (lower : ℕ → ℕ → Bool) (row child link : ℕ → ℕ) (x a : ℕ) (best tried : Best) (weighed : Weighed) (won : Bool) (is : tried ≡ after best a weighed won)
    (weight : weighed ≡ weighing best.cost (row a) (child (x - a)) (link (x - a)))
    (wins : won ≡ lower a best.chosen && is_tie best.cost (row a) (child (x - a)) (link (x - a))) (goes_on : scan lower row child link x (suc a) best ≡ best_split lower row child link x) where
  tried_is : tried ≡ try_at lower row child link x best a
  tried_is = is ∙ ap₂ (after best a) weight wins

  again : Sub a x → Sub best.chosen x → best.counted + a ≤ x → 0 < a → (b : ℕ) → b ≡ bit_and (a - 1) x
      → (b ≤ x) × Sub b x × Sub tried.chosen x × (tried.counted + b ≤ x) × (scan lower row child link x (suc b) tried ≡ best_split lower row child link x)
  again s t n z b e =
      let more : tried.counted ≡ best.counted + (weighing best.cost (row a) (child (x - a)) (link (x - a))).counted = ap (λ (d : Best). d.counted) tried_is in (
        omega (arith, e, and_le_r (a - 1) x),
        rw e (sub_and (a - 1) x),
        rw tried_is (tried_sub lower row child link x best a s t),
        omega (arith, e, more, and_le_l (a - 1) x, counted_le best.cost (row a) (child (x - a)) (link (x - a))),
        rw e (sym (scan_next lower row child link x tried a s z)) ∙ ap (scan lower row child link x a) tried_is ∙ sym (scan_at lower row child link x best a s) ∙ goes_on,
      )

  ends : a ≡ 0 → tried ≡ best_split lower row child link x
  ends z = tried_is ∙ sym (scan_end lower row child link x best a z) ∙ goes_on

pub loop-a-init : goal.loop-a-init
loop-a-init c = (omega arith, and_self _, and_zero_l c.args.x, omega arith, unfold best_split in refl)

pub better-best-requires : goal.better-best-requires
better-best-requires c =
    let one : c.weigh-weighed.result.counted ≤ 1 = rw c.weigh-weighed.ensures (counted_le _ _ _ _) in
    omega arith

pub loop-a-smaller : goal.loop-a-smaller
loop-a-smaller c = omega (arith, c.next_subset-a.ensures, and_le_l (c.loop-a.a - 1) c.args.x, c.if-a-eq0.false)

pub loop-a-preserved : goal.loop-a-preserved
loop-a-preserved c =
    let g = c.args in
    let inv = c.loop-a.invariant in
    again (by_key (key_in g.keys.now) (key_in g.child.keys.now) g.x) (figures g.row.now) (figures g.child.row.now) (figures g.child.link.now) g.x c.loop-a.a c.loop-a.best c.better-best.result c.weigh-weighed.result c.wins_tie-won.result
    c.better-best.ensures c.weigh-weighed.ensures c.wins_tie-won.ensures inv.4 inv.1 inv.2 inv.3 (omega (arith, c.if-a-eq0.false)) c.next_subset-a.result c.next_subset-a.ensures

pub returns : goal.returns
returns c =
    let g = c.args in
    ends (by_key (key_in g.keys.now) (key_in g.child.keys.now) g.x) (figures g.row.now) (figures g.child.row.now) (figures g.child.link.now) g.x c.loop-a.a c.loop-a.best c.better-best.result c.weigh-weighed.result c.wins_tie-won.result
    c.better-best.ensures c.weigh-weighed.ensures c.wins_tie-won.ensures c.loop-a.invariant.4 c.if-a-eq0.true
