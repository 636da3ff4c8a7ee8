-- `put_fourth` meets its contract: nothing without a pair, else the count and the pairs behind it.
use Prim.Native.Nat.{ℕ, ◌+◌}
use native.Mathlib.Omega.{arith}
use mathlib.Core.Path.{◌≡◌, sym, ap, ◌∙◌}
use lib.ListN.{length}
use mathlib.Core.List.{List, [], ◌∷◌}
use Rattle.records.specs.Told.{told}
use Rattle.tidy.specs.Copy.{pair_words, pair_count}
use Rattle.tidy.specs.Inner.Put.{put}
use Rattle.tidy.proofs.Fourth.{no_words, some_words, some_size}
use Rattle.tidy.proofs.Put.{put_none, put_more, put_length}
use Rattle.tidy.proofs.pairs.put_fourth.Goals as goal

pub returns-then-pairs-eq0 : goal.returns-then-pairs-eq0
returns-then-pairs-eq0 c =
    let a = c.args in
    sym (ap (put a.out.now a.at) (no_words (told a.records.now) (omega (arith, c.requires.2))) ∙ put_none a.out.now a.at)

pub put_words-requires : goal.put_words-requires
put_words-requires c = omega (arith, some_size c.args.pairs (omega arith), c.requires.4)

pub put_all-requires : goal.put_all-requires
put_all-requires c =
    let a = c.args in
    let h = some_size a.pairs (omega arith) in
    let n : length c.put_words.new.out ≡ length a.out.now =
    ap length c.put_words.ensures ∙ put_length a.out.now a.at (a.pairs ∷ []) (omega (arith, h, c.requires.4)) in
    (c.requires.0, c.requires.1, omega (arith, n, h, c.requires.2, c.requires.4))

pub returns : goal.returns
returns c =
    let a = c.args in
    let I = told a.records.now in
    let h = some_size a.pairs (omega arith) in
    let o = a.out.now in
    let w : a.pairs ≡ pair_count I = c.requires.2 in
    c.put_all.ensures
    ∙ ap (λ (x : List ℕ). put x (a.at + 2) (pair_words I)) (c.put_words.ensures ∙ ap (λ (n : ℕ). put o a.at (n ∷ [])) w)
    ∙ put_more o a.at (pair_count I ∷ []) (omega (arith, h, c.requires.4)) (pair_words I) (a.at + 2) (omega arith)
    ∙ sym (ap (put o a.at) (some_words I (omega (arith, c.requires.2))))
