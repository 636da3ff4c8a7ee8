-- `rebuild_rows` meets its contract.
use Prim.Native.Nat.{ℕ, ◌+◌, ◌-◌, ◌*◌, ◌≤◌, ◌<◌}
use native.Mathlib.Omega.{arith}
use mathlib.Core.Path.{◌≡◌, refl, sym, ap, ◌∙◌, subst}
use lib.ListN.{get_or}
use Prim.Native.Nat.{◌/◌, ◌%◌}
use mathlib.Core.Bool.{Bool}
use mathlib.Core.List.{List}
use native.Mathlib.Nat.{mul-le-mul_right}
use Rattle.rows.specs.Cabinets.{parent_of}
use Rattle.subsets.specs.declared.Key.{Key}
use Rattle.rows.specs.declared.children.Children.{Children}
use Rattle.records.specs.declared.Records.{Records}
use Rattle.rows.specs.Rebuilds.{source, FillRoom, Rebuilds}
use Rattle.rows.specs.Paths.{next_row}
use Rattle.rows.proofs.Slots.{key_places, rows_kept}
use Rattle.rows.proofs.Rebuilding.{field_at, count_le}
use Rattle.rows.proofs.Guards.{row_sets, row_rebuilt, row_readable}
use Rattle.rows.proofs.Climbing.{row_most, Going, going_start, going_kept, next_before, going_next, going_end}
use Rattle.rows.proofs.rebuild_rows.Goals as goal

pub weigh_sets-requires : goal.weigh_sets-requires
weigh_sets-requires c = (c.requires.room.services, omega (arith, (row_sets c.requires.room).1))

-- two rows of keys or more are kept, within their places
kept : {k : Records} {size : ℕ} {t u sums : List ℕ} {lists : Children} → FillRoom k size t u sums lists
    → (2 ≤ key_places / size) × (key_places / size * size ≤ key_places)
kept {k} {size} P = rows_kept size (row_sets P).0 (row_sets P).1

pub loop-q-init : goal.loop-q-init
loop-q-init c =
    let a = c.args in
    let P = c.requires.room in
    (refl, going_start a.records.now a.size a.sums.now (key_places / a.size) a.first a.whole P.falls P.row_size (kept P).0 c.requires.cabinet.0 c.requires.cabinet.1 _ _ _)

pub rebuild-count-requires : goal.rebuild-count-requires
rebuild-count-requires c =
    let a = c.args in
    let P = c.requires.room in
    let l = c.loop-q in
    let G = l.invariant.1 in
    record {
      tables = row_rebuilt P l.q G.within _ _ l.auto.costs l.auto.choices;
      sums = P.all_there;
      readable = row_readable P _ _ l.auto.choices c.weigh_sets.ensures (omega (arith, (row_sets P).1, c.weigh_sets.auto.weights));
      kept = going_kept a.records.now a.size a.sums.now (key_places / a.size) a.first a.whole P.falls P.row_size (kept P).0
          (omega (arith, (kept P).1, l.invariant.0)) G;
    }

-- no more splits than that are counted for one row
least : {k : Records} {size : ℕ} {t u sums : List ℕ} {lists : Children} → FillRoom k size t u sums lists → (q : ℕ) (t₁ t₂ u₁ u₂ : List ℕ) (g₁ g₂ : List Key) (n : ℕ)
    → Rebuilds (source k size q sums t₁ u₁) size q (q % (key_places / size)) k.cabinets t₁ t₂ u₁ u₂ g₁ g₂ n → n ≤ row_most
least {k} {size} {t} {u} {sums} P q t₁ t₂ u₁ u₂ g₁ g₂ n B = omega (arith, B.count, count_le (source k size q sums t₁ u₁) size k.cabinets (row_sets P).1 P.cabinets)

pub overflow_add-count : goal.overflow_add-count
overflow_add-count c =
    let G = c.loop-q.invariant.1 in
    omega (
      arith,
      least c.requires.room c.loop-q.q _ _ _ _ _ _ _ c.rebuild-count.ensures.rebuilt,
      G.few,
      mul-le-mul_right {m = c.args.first - c.loop-q.q} {n = 200} row_most (omega (arith, c.requires.cabinet.0, c.requires.room.cabinets)),
    )

-- the next row, as the code has it
next_is : (k : Records) (whole : Bool) (q : ℕ) → q < k.cabinets → {parent : ℕ} → parent ≡ get_or k.parent q 0 → {p : ℕ} → p ≡ next_row whole parent q
    → p ≡ next_row whole (parent_of k q) q
next_is k whole q h e f = f ∙ ap (λ (p : ℕ). next_row whole p q) (e ∙ sym (field_at k.cabinets k.parent q h))

pub rows_near-near-requires : goal.rows_near-near-requires
rows_near-near-requires c =
    let a = c.args in
    let P = c.requires.room in
    let G = c.loop-q.invariant.1 in
    rw (next_is a.records.now a.whole c.loop-q.q G.within c.from.ensures c.next_row-p.ensures)
    (next_before a.records.now a.size a.sums.now (key_places / a.size) a.first a.whole P.falls P.row_size (kept P).0 G c.rebuild-count.ensures.rebuilt
    (omega (arith, c.if-q-eq0.false)))

pub loop-q-smaller : goal.loop-q-smaller
loop-q-smaller c =
    let a = c.args in
    let P = c.requires.room in
    let G = c.loop-q.invariant.1 in
    rw (next_is a.records.now a.whole c.loop-q.q G.within c.from.ensures c.next_row-p.ensures)
    (next_before a.records.now a.size a.sums.now (key_places / a.size) a.first a.whole P.falls P.row_size (kept P).0 G c.rebuild-count.ensures.rebuilt
    (omega (arith, c.if-q-eq0.false)))

pub loop-q-preserved : goal.loop-q-preserved
loop-q-preserved c =
    let a = c.args in
    let k = a.records.now in
    let P = c.requires.room in
    let l = c.loop-q in
    let G = l.invariant.1 in
    let R = c.rebuild-count in
    let p = c.next_row-p.result in (
      R.ensures.length ∙ l.invariant.0,
      subst (λ (n : ℕ).
          Going k a.size a.sums.now (key_places / a.size) a.first a.whole n p a.costs.now R.new.costs a.choices.now R.new.choices R.new.room.keys (l.count + R.result))
          (sym c.rows_near-near.ensures)
          (going_next k a.size a.sums.now (key_places / a.size) a.first a.whole P.falls P.row_size (kept P).0 G R.ensures.rebuilt
          (least P l.q _ _ _ _ _ _ _ R.ensures.rebuilt) (omega (arith, c.if-q-eq0.false)) p (next_is k a.whole l.q G.within c.from.ensures c.next_row-p.ensures)),
    )

pub returns : goal.returns
returns c =
    let a = c.args in
    let P = c.requires.room in
    going_end a.records.now a.size a.sums.now (key_places / a.size) a.first a.whole P.falls P.row_size (kept P).0 c.loop-q.invariant.1
    c.rebuild-count.ensures.rebuilt c.if-q-eq0.true
