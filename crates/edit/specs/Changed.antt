-- 02 (g): a sheet that differs from another only in one cabinet's record, its parent excepted.
use Rattle.std.specs.Prelude.{◌≡◌, ℕ, ◌≢◌}
use Rattle.sheet.specs.Instance.{Instance}

-- two families are the same but at e
abbrev pub Beside : {A : Type 0} → ℕ → (ℕ → A) → (ℕ → A) → Type 0
Beside e f g = (c : ℕ) → (c ≢ e) → f c ≡ g c

-- J is I but for the record of cabinet e, its parent excepted; of two sheets the last line follows from the capacities
pub record Changed (e : ℕ) (I J : Instance) : Type 0 where
  pub services : I.r ≡ J.r
  pub cabinets : I.s ≡ J.s
  pub streams : I.q ≡ J.q
  pub demand : (i : ℕ) → I.demand i ≡ J.demand i
  pub parent : (c : ℕ) → I.parent c ≡ J.parent c
  pub capacity : Beside e I.capacity J.capacity
  pub price : Beside e I.price J.price
  pub up_capacity : Beside e I.up_capacity J.up_capacity
  pub up_price : Beside e I.up_price J.up_price
  pub down_capacity : Beside e I.down_capacity J.down_capacity
  pub down_price : Beside e I.down_price J.down_price
  pub from : (j : ℕ) → I.from j ≡ J.from j
  pub to : (j : ℕ) → I.to j ≡ J.to j
  pub load : (j : ℕ) → I.load j ≡ J.load j
  pub barred : (i c : ℕ) → I.barred i c ≡ J.barred i c
  pub joint : Beside e I.joint J.joint
