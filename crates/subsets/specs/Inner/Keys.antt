-- The order of placings, and a net whose least charge is that of the first of the cheapest placings.
-- A placing's key is one number that keeps the order; each charge n becomes n × k, with the keys below k added to it.
use Rattle.std.specs.Prelude.{ℕ, ◌-◌, ◌*◌, ◌/◌, ◌%◌, ◌^◌, cond, nat_lt}
use Rattle.finite.specs.Below.{only, sum_below}
use Rattle.subsets.specs.Sets.{has}
use Rattle.subsets.specs.Costs.{Cost, none, some}
use Rattle.subsets.specs.Inner.Totals.{◌⊕◌}
use Rattle.subsets.specs.Inner.Net.{Net}
use Rattle.subsets.specs.Inner.Splits.{largest_below}
use Rattle.subsets.specs.Inner.Rows.{child}
use Rattle.subsets.specs.Inner.Back.{seat}
use Rattle.subsets.specs.declared.Key.{Key}

-- the weight of service i in a number of r digits to the base b, where service 0 has the first digit
abbrev pub weight : ℕ → ℕ → ℕ → ℕ
weight b r i = b ^ (r - 1 - i)

-- the key of the placing π of x: for each of the r services in x, its node × its weight
unfoldable pub key : ℕ → (ℕ → ℕ) → ℕ → (ℕ → ℕ) → ℕ
key r w x π = sum_below r (λ i. only (has x i) (π i * w i))

-- the weights of the first digits of a key alone, and of its other digits, where m is the base to the number of the others
abbrev pub high : ℕ → (ℕ → ℕ) → ℕ → ℕ
high m w i = w i / m

abbrev pub low : ℕ → (ℕ → ℕ) → ℕ → ℕ
low m w i = w i % m

-- a charge k times over
unfoldable pub times : ℕ → Cost → Cost
times k none = none
times k (some n) = some (n * k)

-- the net with every charge k times over, and with the key of the services on each node added to the node's charge
abbrev pub keyed : ℕ → (ℕ → ℕ) → Net → Net
keyed k w N = record {
  r = N.r;
  s = N.s;
  parent = N.parent;
  node = λ c x. times k (N.node c x) ⊕ some (key N.r w x (λ i. c));
  link = λ c x. times k (N.link c x);
}

-- the net keyed by numbers to the base b, which is to be no less than the number of nodes
abbrev pub ordered : ℕ → Net → Net
ordered b N = keyed (b ^ N.r) (weight b N.r) N

-- the key of the placing read back for x on p, its children below k and all under those, whatever the table holds
abbrev pub key_at : Net → (ℕ → ℕ) → (ℕ → ℕ → ℕ) → ℕ → ℕ → ℕ → ℕ
key_at N w choice p k x = key N.r w x (seat N choice p k x)

-- the last of p's children below k, or 0, which is no child
unfoldable pub last_child : Net → ℕ → ℕ → ℕ
last_child N p k = largest_below k (child N p)

-- both parts of that key, for numbers to the base b whose last h digits are the low part
abbrev pub key_parts : ℕ → ℕ → Net → (ℕ → ℕ → ℕ) → ℕ → ℕ → ℕ → Key
key_parts b h N choice p k x =
    record {
      high = key_at N (high (b ^ h) (weight b N.r)) choice p k x;
      low = key_at N (low (b ^ h) (weight b N.r)) choice p k x;
    }

-- the digit of n with the weight b ^ e
abbrev pub digit : ℕ → ℕ → ℕ → ℕ
digit b n e = n / b ^ e % b

-- the same digit of a number in two parts, whose last h digits are the low part
abbrev pub digit_in : ℕ → ℕ → Key → ℕ → ℕ
digit_in b h k e = cond (nat_lt e h) (digit b k.low e) (digit b k.high (e - h))
