-- A key read back step by step: what is summed and what is left make up the key.
use Prim.Native.Nat.{ℕ, suc, ◌+◌, ◌-◌, ◌*◌, ◌^◌, ◌≤◌, ◌<◌}
use native.Mathlib.Nat.{mul-le-mul, mul-le-mul_right, pow-le-pow_right}
use native.Mathlib.Omega.{arith}
use native.Mathlib.Decide.{dec_lt}
use mathlib.Core.Path.{◌≡◌, sym, ap, ◌∙◌, subst}
use mathlib.Core.Bool.{true, false}
use mathlib.Core.List.{List}
use lib.Bits.{bit_and}
use lib.Dec.{ltb}
use borrow.Author.Tests.{lt-ltb, eq-eqb}
use Rattle.finite.proofs.Booleans.{clash, both}
use lib.ListN.{length, get_or}
use Rattle.subsets.specs.Inner.Net.{Net}
use Rattle.subsets.specs.Inner.Rows.{child}
use Rattle.subsets.specs.Inner.Back.{seat}
use Rattle.subsets.specs.Inner.Keys.{weight, key, high, low, key_at, key_parts, last_child}
use Rattle.subsets.specs.declared.Key.{Key}
use Rattle.subsets.proofs.Sets.{sub_and, sub_le}
use Rattle.subsets.proofs.Rows.{child_parent}
use Rattle.subsets.proofs.First.{low_above, high_above}
use Rattle.subsets.proofs.KeyRows.{key_empty, key_last_child, key_no_child, key_small, last_child_none, last_child_is}
use Rattle.sheet.specs.Limits.{max_services, max_cabinets}
use Rattle.rows.specs.Charges.{max_sets}
use Rattle.rows.specs.Keys as key-rows
use Rattle.rows.specs.Keys.{base, low_digits, weight_at, set_weight}
use Rattle.rows.specs.Reads.{Readable, Started}
use Rattle.rows.specs.Rebuilds.{entry}
use Rattle.rows.specs.declared.children.Children.{Children}
use Rattle.rows.specs.declared.keys.Weight.{Weight}
use Rattle.rows.proofs.Paired.{key_is}

-- the weights of both parts
abbrev pub firsts : ℕ → ℕ → ℕ
firsts r = high (base ^ low_digits) (weight base r)

abbrev pub others : ℕ → ℕ → ℕ
others r = low (base ^ low_digits) (weight base r)

-- no part of a key reaches 2^40
part_limit : base ^ low_digits ≤ 2 ^ 40
part_limit = omega arith

-- a part of a key read back
abbrev part : Net → (ℕ → ℕ) → ℕ → List ℕ → ℕ → ℕ → ℕ → ℕ
part N w size u = key_at N w (entry size u)

-- the empty set has no key
none : (N : Net) (w : ℕ → ℕ) (size : ℕ) (u : List ℕ) (p k x : ℕ) → x ≡ 0 → part N w size u p k x ≡ 0
none N w size u p k x e = subst (λ (y : ℕ). part N w size u p k y ≡ 0) (sym e) (key_empty N.r w (seat N (entry size u) p k 0))

-- the sums a and b are those of the services that have their place, and those of `set` are left for `here`, its children below a bound, of which c is
-- the last, and all under these
pub record Going (N : Net) (u : List ℕ) (size k p x a b here c set : ℕ) : Type 0 where
  pub node : here < N.s
  pub bound : ℕ
  pub inside : bound ≤ N.s
  pub next : c ≡ last_child N here bound
  pub left : set < size
  pub fewer : set ≤ x
  pub high_total : a + part N (firsts N.r) size u here bound set ≡ part N (firsts N.r) size u p k x
  pub low_total : b + part N (others N.r) size u here bound set ≡ part N (others N.r) size u p k x

-- how much is left to walk: a step down counts more than all children
abbrev pub to_walk : ℕ → ℕ → ℕ
to_walk here c = (max_cabinets - here) * (max_cabinets + 1) + c

pub walk_down : (here c d : ℕ) → here < c → c < max_cabinets → d < max_cabinets → to_walk c d < to_walk here c
walk_down here c d h l m = omega (arith, mul-le-mul_right {m = max_cabinets - c + 1} {n = max_cabinets - here} (max_cabinets + 1) (omega arith))

-- a last child is a node
last_lt : (N : Net) (p k : ℕ) → 0 < N.s → k ≤ N.s → last_child N p k < N.s
last_lt N p k z h = go (dec_lt 0 (last_child N p k))
  where
    go : Dec (0 < last_child N p k) → last_child N p k < N.s
    go (yes l) = let m : last_child N p k < k = (last_child_is N p k l).1 in omega arith
    go (no l) = omega arith

module _ (N : Net) (size : ℕ) (u : List ℕ) (lists : Children) (weights : List Weight) (R : Readable N size u lists weights) where
  -- a row has no more entries than there can be sets
  pub size_le : size ≤ max_sets
  size_le = omega (arith, R.row_size, pow-le-pow_right {n = 2} (let z : 0 < 2 = omega arith in z) {i = N.r} {j = max_services} R.services)

  -- and the table has that for at most so many cabinets
  pub table_small : N.s * size ≤ max_cabinets * max_sets
  table_small = omega (arith, mul-le-mul {n₁ = N.s} {m₁ = size} {n₂ = max_cabinets} {m₂ = max_sets} R.nodes size_le)

  -- the parts of any key read back are small
  pub parts_small : (p j x : ℕ) → p < N.s → j ≤ N.s → (part N (firsts N.r) size u p j x < 2 ^ 40) × (part N (others N.r) size u p j x < 2 ^ 40)
  parts_small p j x hp hj = (
    omega (arith, part_limit, key_small N (firsts N.r) (entry size u) R.falls (base ^ low_digits) (high_above base N (omega arith) R.nodes low_digits low_digits (omega (arith, R.services))) p j x hp hj),
    omega (arith, part_limit, key_small N (others N.r) (entry size u) R.falls (base ^ low_digits) (low_above base N (omega arith) R.nodes low_digits (omega arith)) p j x hp hj),
  )

  -- the last child of a node is a node, or 0, which is one too
  pub last_in : (p : ℕ) → p < N.s → get_or lists.last p 0 < N.s
  last_in p h = omega (arith, R.links.lasts p h, last_lt N p N.s (omega arith) (omega arith))

  -- no child comes after it
  pub after_last : (p d : ℕ) → p < N.s → get_or lists.last p 0 < d → d < N.s → N.parent d ≡ p → ⊥
  after_last p d h l m e = clash (sym (both (ltb 0 d) _ (lt-ltb 0 d (omega arith)) (eq-eqb (N.parent d) p e)) ∙ go (dec_lt 0 (last_child N p N.s)))
    where
      go : Dec (0 < last_child N p N.s) → child N p d ≡ false
      go (yes z) = (last_child_is N p N.s z).2 d (omega (arith, R.links.lasts p h)) m
      go (no z) = last_child_none N p N.s (omega arith) d m

  module _ (k p c₀ x : ℕ) (B : Started N size k p c₀ x) where
    pub begin : Going N u size k p x 0 0 p c₀ x
    begin = record {
      node = B.node;
      bound = k;
      inside = B.inside;
      next = B.first;
      left = B.set;
      fewer = omega arith;
      high_total = omega arith;
      low_total = omega arith;
    }

    module _ (a b here c set : ℕ) (G : Going N u size k p x a b here c set) where
      -- the next child
      pub is_child : 0 < c → (child N here c ≡ true) × (c < N.s) × (here < c) × (N.parent c ≡ here)
      is_child z =
          let h = last_child_is N here G.bound (omega (arith, G.next)) in
          let e : child N here c ≡ true = ap (child N here) G.next ∙ h.0 in
          let q = child_parent N here c e in
          let l : last_child N here G.bound < G.bound = h.1 in
          (e, omega (arith, G.next, G.inside), omega (arith, R.falls c q.0, q.1), q.1)

      pub child_small : 0 < c → c < max_cabinets
      child_small z = omega (arith, (is_child z).1, R.nodes)

      -- its row is in the table
      pub in_table : 0 < c → c * size + set < length u
      in_table z = omega (arith, R.choices, (is_child z).1, G.left, mul-le-mul_right {m = suc c} {n = N.s} size (is_child z).1)

      pub index_small : 0 < c → c * size + set < max_cabinets * max_sets
      index_small z = omega (arith, table_small, (is_child z).1, G.left, mul-le-mul_right {m = suc c} {n = N.s} size (is_child z).1)

      -- the sibling before it, and its own last child
      prior_is : 0 < c → get_or lists.prior c 0 ≡ last_child N here c
      prior_is z = R.links.priors c z (is_child z).1 ∙ ap (λ (d : ℕ). last_child N d c) (is_child z).3

      pub prior_less : 0 < c → get_or lists.prior c 0 < c
      prior_less z = omega (arith, prior_is z, go (dec_lt 0 (last_child N here c)))
        where
          go : Dec (0 < last_child N here c) → last_child N here c < c
          go (yes l) = (last_child_is N here c l).1
          go (no l) = omega arith

      pub last_small : 0 < c → get_or lists.last c 0 < max_cabinets
      last_small z = omega (arith, last_in c (is_child z).1, R.nodes)

      -- what is left here, and what goes to the child
      split : (y : ℕ → ℕ) (sum : ℕ) → sum + part N y size u here G.bound set ≡ part N y size u p k x → (stays : ℕ) → 0 < c → stays ≡ bit_and (entry size u c set) set
          → sum + (part N y size u here c stays + part N y size u c N.s (set - stays)) ≡ part N y size u p k x
      split y sum total stays z e =
          subst (λ (a : ℕ). sum + (part N y size u here c a + part N y size u c N.s (set - a)) ≡ part N y size u p k x) (sym e)
          (ap (λ (n : ℕ). sum + n)
          (subst (λ (d : ℕ). part N y size u here d (bit_and (entry size u d set) set) + part N y size u d N.s (set - bit_and (entry size u d set) set) ≡ part N y size u here G.bound set)
          (sym G.next) (sym (key_last_child N y (entry size u) R.falls here G.bound set G.inside (omega (arith, G.left, R.row_size)) (omega (arith, G.next)))))
          ∙ total)

      module _ (stays : ℕ) (z : 0 < c) (e : stays ≡ bit_and (entry size u c set) set) where
        pub stays_le : stays ≤ set
        stays_le = omega (arith, e, sub_le (bit_and (entry size u c set) set) set (sub_and (entry size u c set) set))

        -- nothing goes to the child: it is passed
        pub pass : set - stays ≡ 0 → Going N u size k p x a b here (get_or lists.prior c 0) set
        pass q = record {
          node = G.node;
          bound = c;
          inside = omega (arith, (is_child z).1);
          next = prior_is z;
          left = G.left;
          fewer = G.fewer;
          high_total = passed (firsts N.r) a G.high_total;
          low_total = passed (others N.r) b G.low_total;
        }
          where
            passed : (y : ℕ → ℕ) (sum : ℕ) → sum + part N y size u here G.bound set ≡ part N y size u p k x → sum + part N y size u here c set ≡ part N y size u p k x
            passed y sum total =
                let all : stays ≡ set = omega (arith, stays_le) in
                let h = split y sum total stays z e in
                omega (arith, h, none N y size u c N.s (set - stays) q, ap (λ (n : ℕ). part N y size u here c n) all)

        -- the walk goes on under the child, where those that stay have these sums
        go_on : (i j : ℕ) → part N (firsts N.r) size u here c stays ≡ i → part N (others N.r) size u here c stays ≡ j → Going N u size k p x (a + i) (b + j) c (get_or lists.last c 0) (set - stays)
        go_on i j f h = record {
          node = (is_child z).1;
          bound = N.s;
          inside = omega arith;
          next = R.links.lasts c (is_child z).1;
          left = omega (arith, G.left);
          fewer = omega (arith, G.fewer);
          high_total = omega (arith, split (firsts N.r) a G.high_total stays z e, f);
          low_total = omega (arith, split (others N.r) b G.low_total stays z e, h);
        }

        -- nothing stays
        pub descend : stays ≡ 0 → Going N u size k p x a b c (get_or lists.last c 0) (set - stays)
        descend q =
            rw (let y : a ≡ a + 0 = omega arith in y, let y : b ≡ b + 0 = omega arith in y)
            (go_on 0 0 (none N (firsts N.r) size u here c stays q) (none N (others N.r) size u here c stays q))

        -- some stay, and are read for themselves
        pub sibling : Started N size c here (get_or lists.prior c 0) stays
        sibling = record { node = G.node; inside = omega (arith, (is_child z).1); first = prior_is z; set = omega (arith, stays_le, G.left) }

        module _ (y : Key) (f : y ≡ key_parts base low_digits N (entry size u) here c stays) where
          pub divide : Going N u size k p x (a + y.high) (b + y.low) c (get_or lists.last c 0) (set - stays)
          divide = go_on y.high y.low (sym (ap (λ (k : Key). k.high) f)) (sym (ap (λ (k : Key). k.low) f))

          -- the sums stay small
          pub sums_small : (a + y.high < 2 ^ 40) × (b + y.low < 2 ^ 40)
          sums_small =
              let D = divide in
              (omega (arith, D.high_total, (parts_small p k x B.node B.inside).0), omega (arith, D.low_total, (parts_small p k x B.node B.inside).1))

      -- no child is left
      finish : c ≡ 0 → (a + (weight_at weights set).high * here ≡ part N (firsts N.r) size u p k x) × (b + (weight_at weights set).low * here ≡ part N (others N.r) size u p k x)
      unfolding key-rows.set_weight
      finish e = (
        at (firsts N.r) (weight_at weights set).high a (ap (λ (y : Key). y.high) (R.weighted set G.left)) G.high_total,
        at (others N.r) (weight_at weights set).low b (ap (λ (y : Key). y.low) (R.weighted set G.left)) G.low_total,
      )
        where
          at : (y : ℕ → ℕ) (w sum : ℕ) → w ≡ key N.r y set (λ i. 1) → sum + part N y size u here G.bound set ≡ part N y size u p k x → sum + w * here ≡ part N y size u p k x
          at y w sum q total =
              ap (λ (n : ℕ). sum + n * here) q
              ∙ ap (λ (n : ℕ). sum + n) (sym (key_no_child N y (entry size u) R.falls here G.bound set (sym G.next ∙ e))) ∙ total

      -- so the sums fit
      pub finish_small : c ≡ 0 → (a + (weight_at weights set).high * here < 2 ^ 40) × (b + (weight_at weights set).low * here < 2 ^ 40)
      finish_small e = (omega (arith, (finish e).0, (parts_small p k x B.node B.inside).0), omega (arith, (finish e).1, (parts_small p k x B.node B.inside).1))

      -- and they are the key
      pub finished : c ≡ 0 → (key : Key) → key.high ≡ a + (weight_at weights set).high * here → key.low ≡ b + (weight_at weights set).low * here
          → key ≡ key_parts base low_digits N (entry size u) p k x
      finished e key eh el = key_is _ _ (eh ∙ (finish e).0) (el ∙ (finish e).1)
