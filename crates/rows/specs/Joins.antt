-- What one join leaves: `row`, `child` and `link` are lists of figures, one for each set, as in subsets' Folds; `keys` and `kid` are lists of keys, of the
-- row and of the child.
use Rattle.std.specs.Prelude.{ℕ, ◌^◌, ◌<◌, ◌≡◌, List, length, get_or}
use Rattle.subsets.specs.Inner.Folds.{figures, split_key, by_key, best_split, counted_below}
use Rattle.subsets.specs.declared.Best.{Best}
use Rattle.subsets.specs.declared.Key.{Key}
use Rattle.rows.specs.Keys.{key_in}

-- a key is small enough to be added to another
abbrev pub Addable : Key → Type 0
Addable k = (k.high < 2 ^ 63) × (k.low < 2 ^ 63)

-- so are the keys of the sets below n
abbrev pub Small : ℕ → List Key → Type 0
Small n l = (x : ℕ) → x < n → Addable (key_in l x)

-- the best split of x, ties settled by keys
abbrev pub best_of : List ℕ → List ℕ → List ℕ → List Key → List Key → ℕ → Best
best_of row child link keys kid x = best_split (by_key (key_in keys) (key_in kid) x) (figures row) (figures child) (figures link) x

-- the row, its keys and the child's choices after a join are those of the best splits, and every split that counts was counted
pub record Joined (row child link : List ℕ) (keys kid : List Key) (row' choice' : List ℕ) (keys' : List Key) (count : ℕ) : Type 0 where
  pub costs : (x : ℕ) → x < length row → get_or row' x 0 ≡ (best_of row child link keys kid x).cost
  pub choices : (x : ℕ) → x < length row → get_or choice' x 0 ≡ (best_of row child link keys kid x).chosen
  pub keyed : (x : ℕ) → x < length row → key_in keys' x ≡ split_key (key_in keys) (key_in kid) x (best_of row child link keys kid x).chosen
  pub counted : count ≡ counted_below (figures row) (figures child) (figures link) (length row)
