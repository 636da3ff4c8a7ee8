-- `join` meets its contract, from the last set down.
use Prim.Native.Nat.{ℕ, suc, ◌+◌, ◌-◌, ◌≤◌, ◌<◌}
use native.Mathlib.Omega.{arith}
use mathlib.Core.Path.{◌≡◌, subst}
use mathlib.Core.List.{List}
use lib.ListN.{length, set}
use Rattle.subsets.specs.declared.Best.{Best}
use Rattle.subsets.specs.declared.Key.{Key}
use Rattle.subsets.specs.Inner.Folds.{figures, split_key}
use Rattle.rows.specs.Keys.{key_in}
use Rattle.rows.specs.Joins.{best_of}
use Rattle.rows.proofs.Joining.{Partly, step, all, counted_le, chosen_le}
use Rattle.rows.proofs.joins.join.Goals as goal

-- the choice is no larger a number than the set
stays_le : (row child link : List ℕ) (keys kid : List Key) (x : ℕ) (b : Best) → b ≡ best_of row child link keys kid x → b.chosen ≤ x
stays_le row child link keys kid x b e = rw e (chosen_le row child link keys kid x)

-- one turn
turn : (row child link : List ℕ) (keys kid : List Key) (x : ℕ) (row₁ choice₁ : List ℕ) (keys₁ : List Key) (count : ℕ) → Partly row child link keys kid x row₁ choice₁ keys₁ count
    → 0 < x → x ≤ length row → (b : Best) → b ≡ best_of row₁ child link keys₁ kid (x - 1) → (v : Key) → v ≡ split_key (key_in keys₁) (key_in kid) (x - 1) b.chosen
    → Partly row child link keys kid (x - 1) (set row₁ (x - 1) b.cost) (set choice₁ (x - 1) b.chosen) (set keys₁ (x - 1) v) (count + b.counted)
turn row child link keys kid x row₁ choice₁ keys₁ count P z h b e v f =
    let q : x ≡ suc (x - 1) = omega arith in
    step row child link keys kid (x - 1) row₁ choice₁ keys₁ count (subst (λ (n : ℕ). Partly row child link keys kid n row₁ choice₁ keys₁ count) q P) b v (omega arith) e f

pub overflow_sub-x : goal.overflow_sub-x
overflow_sub-x c = stays_le _ _ _ _ _ _ _ c.best_split-best.ensures

pub split_key-requires : goal.split_key-requires
split_key-requires c =
    let pre = c.requires in
    let P = c.loop-x.invariant in
    let z = stays_le _ _ _ _ _ _ _ c.best_split-best.ensures in
    record {
      places = (omega (arith, P.key_length), omega arith);
      small = (λ i h. rw (P.key_below i (omega arith)) (pre.small.0 i (omega arith)), λ i h. pre.small.1 i (omega arith));
    }

pub overflow_cast-choice : goal.overflow_cast-choice
overflow_cast-choice c = omega (arith, stays_le _ _ _ _ _ _ _ c.best_split-best.ensures)

pub overflow_add-count : goal.overflow_add-count
overflow_add-count c =
    let a = c.args in
    omega (
      arith,
      (turn _ _ _ _ _ _ _ _ _ _ c.loop-x.invariant (omega arith) (omega arith) _ c.best_split-best.ensures _ c.split_key.ensures).counted,
      counted_le (figures a.row.now) (figures a.child.row.now) (figures a.child.link.now) (length a.row.now) (omega arith),
    )

pub loop-x-preserved : goal.loop-x-preserved
loop-x-preserved c =
    turn _ _ _ _ _ _ _ _ _ _ c.loop-x.invariant (omega arith) (omega arith) _ c.best_split-best.ensures _ c.split_key.ensures

pub returns : goal.returns
returns c =
    let a = c.args in
    let l = c.loop-x in
    all _ _ _ _ _ _ _ _ _
    (subst (λ (n : ℕ). Partly a.row.now a.child.row.now a.child.link.now a.keys.now a.child.keys.now n l.row l.choice l.keys l.count) (let z : l.x ≡ 0 = omega arith in z) l.invariant)
