-- The best split of a set as the planner's join finds it: one weighing after the other, over the set's subsets in falling order.
-- `row`, `child` and `link` give the figure of each set: of p's row so far, of the child's row, and of the link's charges.
-- `lower a c` settles ties: it says whether the split that places a comes before the one that places c where both cost the same.
use Rattle.std.specs.Prelude.{◌≡◌, ℕ, zero, suc, ◌+◌, ◌-◌, ◌%◌, ◌^◌, ◌<◌, Bool, false, cond, ◌&&◌, ◌||◌, List, ◌==◌, nat_lt, slice_index}
use Rattle.finite.specs.Below.{sum_below}
use Rattle.subsets.specs.Inner.Masks.{within}
use Rattle.subsets.specs.Costs.{Cost}
use Rattle.subsets.specs.Inner.Encoded.{nothing, figure}
use Rattle.subsets.specs.Figures.{is_cost, weighing}
use Rattle.subsets.specs.declared.Weighed.{Weighed}
use Rattle.subsets.specs.declared.Best.{Best}
use Rattle.subsets.specs.declared.Key.{Key}

-- a list of figures, one for each set
abbrev pub figures : List ℕ → ℕ → ℕ
figures l a = slice_index l a

-- ties are settled for the split that was tried earlier
abbrev pub earlier : ℕ → ℕ → Bool
earlier a c = false

-- the sum of two keys, part by part
abbrev pub plus : Key → Key → Key
plus k l = record { high = k.high + l.high; low = k.low + l.low }

-- a key comes before another: by the first digits, then by the others
unfoldable pub key_before : Key → Key → Bool
key_before k l = nat_lt k.high l.high || (k.high == l.high && nat_lt k.low l.low)

-- the key of the split of x that places a, by the keys of p's row so far and those of the child
abbrev pub split_key : (ℕ → Key) → (ℕ → Key) → ℕ → ℕ → Key
split_key keys child-keys x a = plus (keys a) (child-keys (x - a))

-- ties are settled for the split of x with the lower key
abbrev pub by_key : (ℕ → Key) → (ℕ → Key) → ℕ → ℕ → ℕ → Bool
by_key keys child-keys x a d = key_before (split_key keys child-keys x a) (split_key keys child-keys x d)

-- the split costs just as much as the best so far
unfoldable pub is_tie : ℕ → ℕ → ℕ → ℕ → Bool
is_tie best placed rest link = (is_cost placed && (is_cost rest && is_cost link)) && placed + rest + link == best

-- the three figures, in 64 bits and costs or not, sum to the best so far
unfoldable pub may_tie : ℕ → ℕ → ℕ → ℕ → Bool
may_tie best placed rest link = ((placed + rest) % 2 ^ 64 + link) % 2 ^ 64 == best

-- the best so far after the split that places a was weighed: a is chosen where it won a tie, or where the best became less
abbrev pub after : Best → ℕ → Weighed → Bool → Best
after b a w won = record { cost = w.best; chosen = cond (won || nat_lt w.best b.cost) a b.chosen; counted = b.counted + w.counted }

-- the split that places a is weighed
abbrev pub tried : (ℕ → ℕ → Bool) → Best → ℕ → ℕ → ℕ → ℕ → Best
tried lower b a placed rest link = after b a (weighing b.cost placed rest link) (lower a b.chosen && is_tie b.cost placed rest link)

-- the splits of x that place a subset below n, tried in falling order
unfoldable pub scan : (ℕ → ℕ → Bool) → (ℕ → ℕ) → (ℕ → ℕ) → (ℕ → ℕ) → ℕ → ℕ → Best → Best
scan lower row child link x zero b = b
scan lower row child link x (suc a) b =
    scan lower row child link x a (cond (within a x) (tried lower b a (row a) (child (x - a)) (link (x - a))) b)

-- nothing found yet
abbrev pub start : Best
start = record { cost = nothing; chosen = 0; counted = 0 }

-- the best split of x
unfoldable pub best_split : (ℕ → ℕ → Bool) → (ℕ → ℕ) → (ℕ → ℕ) → (ℕ → ℕ) → ℕ → Best
best_split lower row child link x = scan lower row child link x (suc x) start

-- the splits counted for the sets below n; how ties are settled does not matter for it
unfoldable pub counted_below : (ℕ → ℕ) → (ℕ → ℕ) → (ℕ → ℕ) → ℕ → ℕ
counted_below row child link n = sum_below n (λ x. (best_split earlier row child link x).counted)

-- these are the figures of f for the sets below n
abbrev pub Holds : ℕ → (ℕ → Cost) → (ℕ → ℕ) → Type 0
Holds n f l = (a : ℕ) → a < n → l a ≡ figure (f a)
