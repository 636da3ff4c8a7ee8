-- One child joined, whatever the tables hold: the lists that the code joins are rows of the tables and the link's figures.
use Prim.Native.Nat.{ℕ, ◌-◌, ◌*◌, ◌^◌, ◌≤◌, ◌<◌}
use native.Mathlib.Nat.{pow-le-pow_right}
use native.Mathlib.Omega.{arith}
use mathlib.Core.Path.{◌≡◌, refl, ap, ◌∙◌}
use mathlib.Core.List.{List}
use lib.ListN.{length, get_or, set}
use lib.Pow.{pow_pos}
use Rattle.subsets.specs.declared.Best.{Best}
use Rattle.subsets.specs.declared.Key.{Key}
use Rattle.subsets.specs.Inner.Folds.{figures, plus, split_key, counted_below}
use Rattle.subsets.specs.Costs.{is_some}
use Rattle.subsets.specs.Figures.{read}
use Rattle.subsets.proofs.Count.{pairs_le}
use Rattle.subsets.proofs.Folds.{best_ext, counted_ext, counted_pairs}
use Rattle.subsets.proofs.Rebuild.{by_key_ext}
use Rattle.sheet.specs.Limits.{max_services}
use Rattle.rows.specs.declared.charges.Link.{Link}
use Rattle.rows.specs.Charges.{link_figure, run_out, run_in}
use Rattle.rows.specs.Keys.{no_key, key_in}
use Rattle.rows.specs.Joins.{best_of, Joined}
use Rattle.rows.specs.Rebuilds.{entry, key_entry, joined_split, JoinsChild, JoinRoom}
use Rattle.rows.proofs.Joining.{chosen_le}
use Rattle.rows.proofs.Parted.{row_of, put_row, row_length, row_entry, put_length, row_put, first_put}

module _ (k : Link) (sums : List ℕ) (kid : List Key) {size p c q : ℕ} {t u : List ℕ} {g : List Key} (J : JoinRoom size p c q t u g)
    (copy link : List ℕ) (copied : (x : ℕ) → x < length (row_of size c t) → get_or copy x 0 ≡ get_or (row_of size c t) x 0)
    (linked : (x : ℕ) → x < size → get_or link x 0 ≡ link_figure k (run_out sums x) (run_in sums x)) where
  copy_entry : (x : ℕ) → x < size → figures copy x ≡ entry size t c x
  copy_entry x l = copied x (omega (arith, row_length size c t J.child)) ∙ row_entry size c t J.child 0 x l

  -- the code's best split is that of the tables' rows
  same : (x : ℕ) → x < size → best_of (row_of size p t) copy link (row_of size q g) kid x ≡ joined_split k size p c q sums (key_in kid) t g x
  same x l =
      best_ext _ _ _ _ _ _ _ _ x (by_key_ext (key_in (row_of size q g)) (key_entry size g q) (key_in kid) (key_in kid) x (λ a m. row_entry size q g J.keys no_key a (omega arith)) (λ a m. refl))
      (λ a m. row_entry size p t J.row 0 a (omega arith)) (λ a m. copy_entry a (omega arith)) (λ a m. linked a (omega arith))

  -- the count fits an entry of the choice table
  pub count_fits : (row' choice' : List ℕ) (keys' : List Key) (count : ℕ) → Joined (row_of size p t) copy link (row_of size q g) kid row' choice' keys' count → count < 2 ^ 16
  count_fits row' choice' keys' count D =
      let r : ℕ = J.row_size.0 in
      let e : length (row_of size p t) ≡ 2 ^ r = row_length size p t J.row ∙ J.row_size.2 in
      let n = D.counted ∙ ap (counted_below (figures (row_of size p t)) (figures copy) (figures link)) e ∙ counted_pairs (figures (row_of size p t)) (figures copy) (figures link) r in
      omega (arith, n, pairs_le r (λ a. is_some (read (figures (row_of size p t) a))), let z : 3 ^ r ≤ 3 ^ max_services = pow-le-pow_right {n = 3} (omega arith) J.row_size.1 in z)

  -- the row of the choices begins within the table, also once a row is back
  pub first_in : c * size < length u
  first_in = omega (arith, J.choices, J.row_size.2, pow_pos J.row_size.0)

  pub first_there : (choice' : List ℕ) → length choice' ≡ length (row_of size c u) → c * size < length (put_row size c u choice')
  first_there choice' lc = omega (arith, put_length size c u J.choices choice' lc, first_in)

  -- the tables after the join
  pub joins_child : (row' choice' : List ℕ) (keys' : List Key) (count : ℕ) → length row' ≡ length (row_of size p t) → length choice' ≡ length (row_of size c u) → length keys' ≡ length (row_of size q g)
      → Joined (row_of size p t) copy link (row_of size q g) kid row' choice' keys' count
      → JoinsChild k size p c q sums (key_in kid) t (put_row size p t row') u (set (put_row size c u choice') (c * size) count) g (put_row size q g keys') count
  joins_child row' choice' keys' count lr lc lk D =
      let at = row_length size p t J.row in
      record {
        costs = row_put size p t J.row row' lr 0 _ (λ x l. D.costs x (omega arith) ∙ ap (λ (b : Best). b.cost) (same x l));
        choices = first_put size c _ u (put_row size c u choice') count (first_there choice' lc)
            (row_put size c u J.choices choice' lc 0 _ (λ x l. D.choices x (omega arith) ∙ ap (λ (b : Best). b.chosen) (same x l)));
        keys = row_put size q g J.keys keys' lk no_key _ (λ x l. D.keyed x (omega arith) ∙ split x l);
        count = D.counted ∙ ap (counted_below (figures (row_of size p t)) (figures copy) (figures link)) at
            ∙ counted_ext _ _ _ _ _ _ size (λ a m. row_entry size p t J.row 0 a m) copy_entry linked;
      }
    where
      -- the key of a split, by the row lent and by the table
      split : (x : ℕ) → x < size → split_key (key_in (row_of size q g)) (key_in kid) x (best_of (row_of size p t) copy link (row_of size q g) kid x).chosen
          ≡ split_key (key_entry size g q) (key_in kid) x (joined_split k size p c q sums (key_in kid) t g x).chosen
      split x l =
          let a : ℕ = (best_of (row_of size p t) copy link (row_of size q g) kid x).chosen in
          let s : a ≤ x = chosen_le (row_of size p t) copy link (row_of size q g) kid x in
          ap (λ (y : Key). plus y (key_in kid (x - a))) (row_entry size q g J.keys no_key a (omega arith))
          ∙ ap (λ (b : Best). split_key (key_entry size g q) (key_in kid) x b.chosen) (same x l)
