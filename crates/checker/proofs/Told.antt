-- What records tell: their counts, their fields as `field` reads them, and that there is nothing past the counts.
use Prim.Native.Nat.{ℕ, ◌≤◌}
use mathlib.Core.Path.{◌≡◌, refl}
use lib.Dec.{ltb}
use lib.ListN.{get_or}
use borrow.Author.Tests.{le-ltb}
use Rattle.finite.specs.Below.{only}
use Rattle.records.specs.declared.Records.{Records}
use Rattle.records.specs.Told.{told}

module _ (k : Records) where
  -- the counts
  pub counts : (k.services ≡ (told k).r) × (k.cabinets ≡ (told k).s) × (k.streams ≡ (told k).q)
  unfolding told
  counts = (refl, refl, refl)

  -- the demand of service i
  pub demand_at : (i : ℕ) → only (ltb i k.services) (get_or k.demand i 0) ≡ (told k).demand i
  unfolding told
  demand_at i = refl

  -- the parent of cabinet c
  pub parent_at : (c : ℕ) → only (ltb c k.cabinets) (get_or k.parent c 0) ≡ (told k).parent c
  unfolding told
  parent_at c = refl

  -- the ends of stream j, and its load
  pub from_at : (j : ℕ) → only (ltb j k.streams) (get_or k.from j 0) ≡ (told k).from j
  unfolding told
  from_at j = refl

  pub to_at : (j : ℕ) → only (ltb j k.streams) (get_or k.to j 0) ≡ (told k).to j
  unfolding told
  to_at j = refl

  pub load_at : (j : ℕ) → only (ltb j k.streams) (get_or k.load j 0) ≡ (told k).load j
  unfolding told
  load_at j = refl

  -- a cabinet that is not there has the parent 0
  pub parent_past : (c : ℕ) → (told k).s ≤ c → (told k).parent c ≡ 0
  unfolding told only
  parent_past c h = rw (le-ltb c k.cabinets h) refl
