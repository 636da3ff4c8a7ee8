-- A key is its two numbers.
use Prim.Native.Nat.{ℕ}
use mathlib.Core.Path.{◌≡◌, ap₂}
use Rattle.subsets.specs.declared.Key.{Key}

pub key_is : (k l : Key) → k.high ≡ l.high → k.low ≡ l.low → k ≡ l
key_is k l h e = ap₂ (λ (y z : ℕ). let m : Key = record { high = y; low = z } in m) h e
