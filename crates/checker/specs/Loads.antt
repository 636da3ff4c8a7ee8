-- What a plan's streams put on the link above a cabinet, for any instance and any plan whatever.
use Rattle.std.specs.Prelude.{ℕ, Bool, ◌&&◌, ltb, leb}
use Rattle.finite.specs.Below.{only}
use Rattle.subsets.specs.Tree.{under}
use Rattle.sheet.specs.Limits.{max_cabinets, max_streams}
use Rattle.sheet.specs.Instance.{Instance}
use Rattle.embedding.specs.Limits.{weight}
use Rattle.embedding.specs.Inner.Charge.{leaving, entering}
use Rattle.checker.specs.declared.loads.Loads.{Loads}

module _ (I : Instance) where
  -- there is a link above c, and the counts are within the limits
  unfoldable pub has_link : ℕ → Bool
  has_link c = ((ltb 0 c && ltb c I.s) && leb I.s max_cabinets) && leb I.q max_streams

  -- the parent of d where its number is smaller than d, as it is in every well-formed instance; else the root
  unfoldable pub lower_parent : ℕ → ℕ
  lower_parent d = only (ltb (I.parent d) d) (I.parent d)

  -- cabinet d is under c
  abbrev pub is_under : ℕ → ℕ → Bool
  is_under c d = under lower_parent c d

  -- what the streams that leave the services under c take of the link upwards, and what those that enter them take downwards, framing included;
  -- nothing where there is no link
  unfoldable pub loads : (ℕ → ℕ) → ℕ → Loads
  loads π c = record {
    up = only (has_link c) (leaving I (weight I) (λ i. is_under c (π i)));
    down = only (has_link c) (entering I (weight I) (λ i. is_under c (π i)));
  }
