-- `put_words` meets its contract. The invariant: the words passed stand there, two bytes each.
use Prim.Native.Nat.{ℕ, ◌*◌, ◌+◌, ◌/◌, ◌%◌, ◌^◌, ◌<◌}
use mathlib.Core.Path.{◌≡◌, sym, ap, ap₂, ◌∙◌}
use mathlib.Core.List.{List}
use native.Mathlib.Omega.{arith}
use lib.ListN.{get_or, set}
use lib.Seq.{take_all}
use mir.Syntax.{w16}
use Rattle.std.proofs.Math.Facts.{Fits-lt-pow}
use Rattle.tidy.specs.Inner.Put.{put}
use Rattle.tidy.proofs.Put.{put_none, put_next}
use Rattle.tidy.proofs.words.put_words.Goals as goal

pub loop-k-init : goal.loop-k-init
loop-k-init c = sym (put_none c.args.out.now c.args.at)

pub loop-k-preserved : goal.loop-k-preserved
loop-k-preserved c =
    let a = c.args in
    let l = c.loop-k in
    let w = get_or a.words.now l.k 0 in
    let two = c.to_le_bytes.ensures in
    let low : get_or c.to_le_bytes.result 0 0 ≡ w % 256 = ap (λ (b : List ℕ). get_or b 0 0) two in
    let high : get_or c.to_le_bytes.result 1 0 ≡ w / 256 = ap (λ (b : List ℕ). get_or b 1 0) two ∙ (let b : w < 2 ^ 16 = Fits-lt-pow {w = w16} (c.type_inv.words l.k) in let q : w / 256 % 256 ≡ w / 256 = omega arith in q) in
    ap₂ (λ (x y : ℕ). set (set l.out (a.at + 2 * l.k) x) (a.at + 2 * l.k + 1) y) low high
    ∙ ap (λ (o : List ℕ). set (set o (a.at + 2 * l.k) (w % 256)) (a.at + 2 * l.k + 1) (w / 256)) l.invariant
    ∙ put_next a.out.now a.at a.words.now l.k (omega arith) c.requires

pub returns : goal.returns
returns c =
    let a = c.args in
    let l = c.loop-k in
    l.invariant ∙ ap (put a.out.now a.at) (take_all l.k a.words.now (omega arith))
