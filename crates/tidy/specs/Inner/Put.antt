-- Words put into bytes.
use Rattle.std.specs.Prelude.{ℕ, ◌+◌, ◌*◌, List, ◌++◌, length, take, drop}
use Rattle.tidy.specs.Words.{from_words}

-- what some bytes hold after words are put into them from a byte on
unfoldable pub put : List ℕ → ℕ → List ℕ → List ℕ
put bytes at ws = take at bytes ++ from_words ws ++ drop (at + 2 * length ws) bytes
