-- Bytes from 16-bit words, and words from records that follow each other without gaps.
use Rattle.std.specs.Prelude.{ℕ, zero, suc, ◌/◌, ◌%◌, List, [], ◌∷◌, ◌++◌}

-- the bytes of 16-bit words, low byte first
abbrev pub from_words : List ℕ → List ℕ
from_words [] = []
from_words (w ∷ ws) = w % 256 ∷ w / 256 ∷ from_words ws

-- the words of f 0, of f 1, and so on up to f (n - 1), one after the other
unfoldable pub concat_below : ℕ → (ℕ → List ℕ) → List ℕ
concat_below zero f = []
concat_below (suc n) f = concat_below n f ++ f n
