-- `rebuild` meets its contract: the row's own charges and keys, then its children in rising order, each passed over or joined.
use Prim.Native.Nat.{ℕ, ◌+◌, ◌*◌, ◌%◌, ◌≤◌, ◌<◌}
use native.Mathlib.Omega.{arith}
use mathlib.Core.Path.{◌≡◌, refl, sym, ap, ◌∙◌, subst}
use mathlib.Core.List.{List}
use lib.ListN.{length, get_or}
use Rattle.sheet.specs.Limits.{max_cabinets}
use Rattle.subsets.specs.declared.Key.{Key}
use Rattle.rows.specs.declared.children.Children.{Children}
use Rattle.rows.specs.declared.keys.Weight.{Weight}
use Rattle.records.specs.declared.Records.{Records}
use Rattle.rows.specs.declared.charges.Own.{Own}
use Rattle.rows.specs.declared.charges.Link.{Link}
use Rattle.rows.specs.Charges.{max_sets, own_figure, demanded}
use Rattle.rows.specs.Cabinets.{own_of, link_of}
use Rattle.rows.specs.Keys.{no_key, key_in, weight_at, set_weight, times_key, tree}
use Rattle.rows.specs.Reads.{Readable}
use Rattle.rows.specs.Rebuilds.{back_key, source, KeysSet, KeysKept, RebuildRoom, JoinsChild}
use Rattle.rows.proofs.Parted.{row_of, put_row, put_length, row_length, row_put}
use Rattle.rows.proofs.Slots.{slot_in, slot_small}
use Rattle.rows.proofs.Reading.{last_in, after_last}
use Rattle.rows.proofs.Rebuilding.{JoinedBelow, Alone, alone, rebuilds_alone, kept_alone, rebuilds_keyed, field_at, own_keyed, children_start, children_pass, children_join, children_end, joinable, readable, fetched, kid_small, row_small, count_le}
use Rattle.rows.proofs.rebuild.Goals as goal

-- the keys of p lie within those kept
slot_fits : {k : Records} {size p rows near : ℕ} {t u : List ℕ} {g : List Key} → RebuildRoom k size p t u → KeysKept k size p rows near u g
    → (p % rows * size + size ≤ length g) × (p % rows * size ≤ max_cabinets * max_sets)
slot_fits {k} {size} {p} {rows} {near} {t} {u} {g} R K =
    (slot_in size rows p g K.some_rows K.places, slot_small size rows p (omega (arith, R.cabinet, R.cabinets)) R.sets K.some_rows)

-- what holds before the first child: the row's own charges stand in it, and its own keys; the keys kept are still there
record Begun (k : Records) (size p rows near : ℕ) (sums t t₀ u : List ℕ) (g g₀ : List Key) : Type 0 where
  charged : Alone k size p sums t t₀ u
  keyed : KeysSet size (p % rows) (λ x. times_key (set_weight k.services x) p) g g₀
  same_keys : length g₀ ≡ length g
  kept : KeysKept k size p rows near u g₀

begun : {k : Records} {size p rows near : ℕ} {sums t u : List ℕ} {g : List Key} {lists : Children} {weights : List Weight} {own : Own} → own ≡ own_of k p
    → RebuildRoom k size p t u → Readable (tree k) size u lists weights → KeysKept k size p rows near u g
    → (ys : List ℕ) → length ys ≡ length (row_of size p t)
    → ((x : ℕ) → x < length (row_of size p t)
    → get_or ys x 0 ≡ own_figure own x (demanded sums x))
    → (zs : List Key) → length zs ≡ length (row_of size (p % rows) g)
    → ((x : ℕ) → x < length (row_of size (p % rows) g) → key_in zs x ≡ times_key (weight_at weights x) p)
    → Begun k size p rows near sums t (put_row size p t ys) u g (put_row size (p % rows) g zs)
begun {k} {size} {p} {rows} {near} {sums} {t} {u} {g} {lists} {weights} is R D K ys le filled zs lk own =
    let fits = (slot_fits R K).0 in
    let e = row_length size (p % rows) g fits in
    let keyed : KeysSet size (p % rows) (λ x. times_key (set_weight k.services x) p) g (put_row size (p % rows) g zs) =
    row_put size (p % rows) g fits zs lk no_key _
    (own_keyed k.services size p weights D.services (omega (arith, R.cabinet, R.cabinets)) D.weighted zs (λ i l. own i (omega (arith, e)))) in
    let long = put_length size (p % rows) g fits zs lk in
    record {
      charged = alone R ys le (λ x h. filled x h ∙ ap (λ (o : Own). own_figure o x (demanded sums x)) is);
      keyed = keyed;
      same_keys = long;
      kept = kept_alone K keyed long;
    }

-- a cabinet up to the last child is there
there : {k : Records} {size p : ℕ} {t u : List ℕ} {lists : Children} {weights : List Weight} → RebuildRoom k size p t u → Readable (tree k) size u lists weights
    → {child : ℕ} → child ≡ get_or lists.last p 0 → (c : ℕ) → c < child + 1 → c < k.cabinets
there {k} {size} {p} R D e c h = omega (arith, e, last_in _ _ _ _ _ D p R.cabinet)

-- a child is joined
turn : {k : Records} {size p q : ℕ} {sums t u : List ℕ} {g : List Key} (R : RebuildRoom k size p t u) {t₁ u₁ : List ℕ} {g₁ : List Key} {n c : ℕ}
    → JoinedBelow (source k size p sums t u) size p q c k.cabinets t t₁ u u₁ g g₁ n → c < k.cabinets → get_or k.parent c 0 ≡ p
    → {link : Link} → link ≡ link_of k c → (kid : List Key) → ((x : ℕ) → x < size → key_in kid x ≡ back_key k size u c x) → {t₂ u₂ : List ℕ} {g₂ : List Key} {m : ℕ}
    → JoinsChild link size p c q sums (key_in kid) t₁ t₂ u₁ u₂ g₁ g₂ m
    → length t₂ ≡ length t₁ → length u₂ ≡ length u₁ → length g₂ ≡ length g₁
    → JoinedBelow (source k size p sums t u) size p q (c + 1) k.cabinets t t₂ u u₂ g g₂ (n + m)
turn {k} {size} {p} {q} {sums} R {t₁} {u₁} {g₁} {n} {c} C l is above kid kids {t₂} {u₂} {g₂} {m} J =
    children_join sums R _ _ C l (field_at k.cabinets k.parent c l ∙ is) (key_in kid) kids
    (subst (λ (y : Link). JoinsChild y size p c q sums (key_in kid) t₁ t₂ u₁ u₂ g₁ g₂ m) above J)

-- no more splits than that are counted
few : (sums : List ℕ) {k : Records} {size p q : ℕ} {t u : List ℕ} {g : List Key} → RebuildRoom k size p t u → {t₁ u₁ : List ℕ} {g₁ : List Key} {n c : ℕ}
    → JoinedBelow (source k size p sums t u) size p q c k.cabinets t t₁ u u₁ g g₁ n → n ≤ 200 * 1048576
few sums {k} {size} {p} {q} {t} {u} R {t₁} {u₁} {g₁} {n} {c} C =
    omega (arith, C.rebuilds.count, count_le (source k size p sums t u) size c R.sets (omega (arith, C.within, R.cabinets)))

pub loop-d-init : goal.loop-d-init
loop-d-init c =
    let Z = begun {sums = c.args.from.sums.now} c.of.ensures c.requires.tables c.requires.readable c.requires.kept c.fill.new.row c.fill.auto.row c.fill.ensures c.own_keys.new.keys c.own_keys.auto.keys c.own_keys.ensures in
    children_start c.args.from.sums.now Z.charged.room _ _ refl Z.charged.own.row (record { row = Z.keyed.row; rest = λ d i n l. refl })

pub bounds-from-d : goal.bounds-from-d
bounds-from-d c = omega (arith, c.requires.tables.cabinets, there c.requires.tables c.requires.readable c.from-past_last.ensures c.loop-d.d (omega arith))

pub loop-d-preserved-then-from-p : goal.loop-d-preserved-then-from-p
loop-d-preserved-then-from-p c =
    let Z = begun {sums = c.args.from.sums.now} c.of.ensures c.requires.tables c.requires.readable c.requires.kept c.fill.new.row c.fill.auto.row c.fill.ensures c.own_keys.new.keys c.own_keys.auto.keys c.own_keys.ensures in
    let k = c.args.from.records.now in
    let l = there c.requires.tables c.requires.readable c.from-past_last.ensures c.loop-d.d (omega arith) in
    children_pass c.args.from.sums.now Z.charged.room _ _ c.loop-d.invariant l (λ e. c.if-from-p.true (c.from.ensures ∙ sym (field_at k.cabinets k.parent c.loop-d.d l) ∙ e))

pub fetch_keys-requires : goal.fetch_keys-requires
fetch_keys-requires c =
    let Z = begun {sums = c.args.from.sums.now} c.of.ensures c.requires.tables c.requires.readable c.requires.kept c.fill.new.row c.fill.auto.row c.fill.ensures c.own_keys.new.keys c.own_keys.auto.keys c.own_keys.ensures in
    let C = c.loop-d.invariant in
    let D = c.requires.readable in
    let l = there c.requires.tables c.requires.readable c.from-past_last.ensures c.loop-d.d (omega arith) in
    record {
      readable = (tree c.args.from.records.now, readable c.args.from.sums.now Z.charged.room Z.kept D C l, l, C.after);
      room = (omega (arith, c.requires.tables.sets), Z.kept.some_rows, omega (arith, Z.kept.places, C.keys_length));
    }

pub join_child-count-requires : goal.join_child-count-requires
join_child-count-requires c =
    let Z = begun {sums = c.args.from.sums.now} c.of.ensures c.requires.tables c.requires.readable c.requires.kept c.fill.new.row c.fill.auto.row c.fill.ensures c.own_keys.new.keys c.own_keys.auto.keys c.own_keys.ensures in
    let C = c.loop-d.invariant in
    let D = c.requires.readable in
    let l = there c.requires.tables c.requires.readable c.from-past_last.ensures c.loop-d.d (omega arith) in
    let kid = c.fetch_keys.new.child_keys in
    let kids = fetched c.args.from.sums.now Z.charged.room Z.kept D C l kid (c.fetch_keys.ensures (tree c.args.from.records.now) (readable c.args.from.sums.now Z.charged.room Z.kept D C l) l) in
    record {
      room = joinable c.args.from.sums.now Z.charged.room _ _ C l (omega (arith, (slot_fits c.requires.tables c.requires.kept).0, Z.same_keys)) D.services D.row_size;
      cabinet = (l, c.requires.tables.cabinets, c.requires.sums);
      small = (kid_small c.args.from.sums.now Z.charged.room Z.kept D C l kid kids, row_small c.args.from.sums.now Z.charged.room Z.kept D C l);
    }

pub overflow_add-count : goal.overflow_add-count
overflow_add-count c =
    let Z = begun {sums = c.args.from.sums.now} c.of.ensures c.requires.tables c.requires.readable c.requires.kept c.fill.new.row c.fill.auto.row c.fill.ensures c.own_keys.new.keys c.own_keys.auto.keys c.own_keys.ensures in
    let C = c.loop-d.invariant in
    let D = c.requires.readable in
    let l = there c.requires.tables c.requires.readable c.from-past_last.ensures c.loop-d.d (omega arith) in
    let kid = c.fetch_keys.new.child_keys in
    let kids = fetched c.args.from.sums.now Z.charged.room Z.kept D C l kid (c.fetch_keys.ensures (tree c.args.from.records.now) (readable c.args.from.sums.now Z.charged.room Z.kept D C l) l) in
    let J = c.join_child-count in
    let T = turn {sums = c.args.from.sums.now} Z.charged.room C l (sym c.from.ensures ∙ c.if-from-p.false) refl kid kids J.ensures.joined J.auto.costs J.auto.choices J.ensures.length in
    omega (arith, few c.args.from.sums.now Z.charged.room T)

pub loop-d-preserved : goal.loop-d-preserved
loop-d-preserved c =
    let Z = begun {sums = c.args.from.sums.now} c.of.ensures c.requires.tables c.requires.readable c.requires.kept c.fill.new.row c.fill.auto.row c.fill.ensures c.own_keys.new.keys c.own_keys.auto.keys c.own_keys.ensures in
    let C = c.loop-d.invariant in
    let D = c.requires.readable in
    let l = there c.requires.tables c.requires.readable c.from-past_last.ensures c.loop-d.d (omega arith) in
    let kid = c.fetch_keys.new.child_keys in
    let kids = fetched c.args.from.sums.now Z.charged.room Z.kept D C l kid (c.fetch_keys.ensures (tree c.args.from.records.now) (readable c.args.from.sums.now Z.charged.room Z.kept D C l) l) in
    let J = c.join_child-count in
    let T = turn {sums = c.args.from.sums.now} Z.charged.room C l (sym c.from.ensures ∙ c.if-from-p.false) refl kid kids J.ensures.joined J.auto.costs J.auto.choices J.ensures.length in
    T

pub returns-clause-rebuilt : goal.returns-clause-rebuilt
returns-clause-rebuilt c =
    let Z = begun {sums = c.args.from.sums.now} c.of.ensures c.requires.tables c.requires.readable c.requires.kept c.fill.new.row c.fill.auto.row c.fill.ensures c.own_keys.new.keys c.own_keys.auto.keys c.own_keys.ensures in
    let a = c.args in
    rebuilds_keyed Z.keyed (rebuilds_alone Z.charged
    (children_end a.from.sums.now Z.charged.room _ _ c.loop-d.invariant
    (λ d from here. after_last _ _ _ _ _ c.requires.readable a.p d c.requires.tables.cabinet (omega (arith, c.from-past_last.ensures)) here)))
