-- 02 (j): one road written twice, from different roots and with other cabinet numbers.
use Rattle.std.specs.Prelude.{ℕ, ◌<◌, ◌⊎◌, ◌≡◌}
use Rattle.sheet.specs.Instance.{Instance}

-- the four numbers of a link, for the direction up and for the direction down
pub record Link : Type 0 where
  pub up_capacity : ℕ
  pub up_price : ℕ
  pub down_capacity : ℕ
  pub down_price : ℕ

-- the link above cabinet c
abbrev pub link : Instance → ℕ → Link
link I c = record { up_capacity = I.up_capacity c; up_price = I.up_price c; down_capacity = I.down_capacity c; down_price = I.down_price c }

-- a link turned over: up and down are exchanged
abbrev pub turned : Link → Link
turned l = record { up_capacity = l.down_capacity; up_price = l.down_price; down_capacity = l.up_capacity; down_price = l.up_price }

-- cabinet c hangs under cabinet p by this link: c is not the root, its parent is p, and the link above it is this one
pub record Hangs (I : Instance) (c p : ℕ) (l : Link) : Type 0 where
  pub below_root : 0 < c
  pub parent : I.parent c ≡ p
  pub by_link : link I c ≡ l

-- the link connects cabinets a and b, with up from a to b: a hangs under b by it, or b hangs under a and the link is turned over
abbrev pub Connects : Instance → Link → ℕ → ℕ → Type 0
Connects I l a b = Hangs I a b l ⊎ Hangs I b a (turned l)

-- J is I rehung and renumbered: cabinet c of I is cabinet σ c of J
pub record Rehung (I J : Instance) (σ : ℕ → ℕ) : Type 0 where
  -- as many services, cabinets and streams
  pub counts : (J.r ≡ I.r) × (J.s ≡ I.s) × (J.q ≡ I.q)
  -- the same services and streams
  pub services : (i : ℕ) → i < I.r → J.demand i ≡ I.demand i
  pub streams : (j : ℕ) → j < I.q → (J.from j ≡ I.from j) × (J.to j ≡ I.to j) × (J.load j ≡ I.load j)
  -- each cabinet has a number of its own
  pub renumbers : (c : ℕ) → c < I.s → σ c < I.s
  pub one_to_one : (c d : ℕ) → c < I.s → d < I.s → σ c ≡ σ d → c ≡ d
  -- and under that number the capacity and price that it had, is a joint if it was one, and has barred from it the services that were
  pub cabinets : (c : ℕ) → c < I.s → (J.capacity (σ c) ≡ I.capacity c) × (J.price (σ c) ≡ I.price c)
  pub joints : (c : ℕ) → c < I.s → J.joint (σ c) ≡ I.joint c
  pub bars : (i c : ℕ) → i < I.r → c < I.s → J.barred i (σ c) ≡ I.barred i c
  -- each link connects the cabinets that it did, turned over or not; that J has no other link follows, since it has as many
  pub links : (c : ℕ) → 0 < c → c < I.s → Connects J (link I c) (σ c) (σ (I.parent c))
