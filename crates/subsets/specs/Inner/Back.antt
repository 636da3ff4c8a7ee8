-- The placing read back from a table of winning splits, by walking down the tree. `choice c x` is the table's entry for the child c and the set x.
use Rattle.std.specs.Prelude.{◌≡◌, ℕ, zero, suc, ◌-◌, ◌^◌, ◌<◌, Bool, true, false, bit_and}
use Rattle.subsets.specs.Sets.{has}
use Rattle.subsets.specs.Costs.{Cost, some}
use Rattle.subsets.specs.Inner.Net.{Net, charge, Sits}
use Rattle.subsets.specs.Inner.Splits.{split_charge}
use Rattle.subsets.specs.Inner.Rows.{child, row_at}

-- the services of x that do not go to the child c: an entry is read as a subset of x, whatever it holds
abbrev pub stays : (ℕ → ℕ → ℕ) → ℕ → ℕ → ℕ
stays choice c x = bit_and (choice c x) x

-- where service i goes from p with the set x, over p's children below k in falling order: if it stays it goes on with those that stay,
-- else to the child with the others; `down` goes on from there
unfoldable pub walk : Net → (ℕ → ℕ → ℕ) → (ℕ → ℕ → ℕ → ℕ) → ℕ → ℕ → ℕ → ℕ → ℕ
walk N choice down p zero x i = p
walk N choice down p (suc k) x i =
    elim (child N p k) [
      | true ↦ elim (has (stays choice k x) i) [ true ↦ walk N choice down p k (stays choice k x) i | false ↦ down k (x - stays choice k x) i ]
      | false ↦ walk N choice down p k x i
    ]

-- where i goes from p with the set x, over all of p's children and at most n generations down
unfoldable pub descent : Net → (ℕ → ℕ → ℕ) → ℕ → ℕ → ℕ → ℕ → ℕ
descent N choice zero p x i = p
descent N choice (suc n) p x i = walk N choice (descent N choice n) p N.s x i

-- the node of service i when x is placed on p, its children below k and all under those
unfoldable pub seat : Net → (ℕ → ℕ → ℕ) → ℕ → ℕ → ℕ → ℕ → ℕ
seat N choice p k x i = walk N choice (descent N choice N.s) p k x i

-- each entry wins: where the row after c has a cost for x, the split that the entry names has that cost
abbrev pub Wins : Net → (ℕ → ℕ → ℕ) → Type 0
Wins N choice =
    (c x n : ℕ) → 0 < c → c < N.s → x < 2 ^ N.r → row_at N (N.parent c) (suc c) x ≡ some n
    → split_charge (row_at N (N.parent c) c) (row_at N c N.s) (N.link c) x (stays choice c x) ≡ row_at N (N.parent c) (suc c) x

-- π puts x on T, at the charge f
pub record Meets (N : Net) (T : ℕ → Bool) (v x : ℕ) (f : Cost) (π : ℕ → ℕ) : Type 0 where
  pub sits : Sits N T x π
  pub cost : charge N T v x π ≡ f
