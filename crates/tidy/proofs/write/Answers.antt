-- `write` meets its contract: the blocks are put one behind the other.
use native.Mathlib.Omega.{arith}
use mathlib.Core.Path.{◌≡◌, ap, ◌∙◌}
use Rattle.records.specs.Told.{told}
use Rattle.tidy.specs.Copy.{pair_count, fourth_size}
use Rattle.tidy.specs.Inner.Put.{put}
use Rattle.tidy.proofs.Whole.{counted_header, all_put}
use Rattle.tidy.proofs.write.Goals as goal

pub put_fourth-requires : goal.put_fourth-requires
put_fourth-requires c =
    let l = c.args.layout.now in
    let z : fourth_size l.pairs ≡ fourth_size (pair_count (told c.args.records.now)) = ap fourth_size c.requires.counted.pairs in
    (omega arith, omega arith, c.requires.counted.pairs, l.few_pairs, omega (arith, z))

pub returns : goal.returns
returns c =
    let a = c.args in
    all_put (told a.records.now) a.output.now c.requires.room
    _ _ _ _ _ _ _ _
    (omega arith) (omega arith) (omega arith)
    (c.put_header.ensures ∙ ap (put a.output.now 0) (counted_header _ _ _ _ _ c.requires.counted))
    c.put_services.ensures c.put_cabinets.ensures c.put_streams.ensures c.put_fourth.ensures
