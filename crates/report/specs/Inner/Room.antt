-- How much room each piece of text takes.
use Rattle.std.specs.Prelude.{ℕ, ◌+◌}

-- the most digits of a 64-bit number
abbrev pub most_digits : ℕ
most_digits = 20

-- what a line takes beside its word: a space, a number and the line's end
abbrev pub after_word : ℕ
after_word = most_digits + 2

-- a service's line
abbrev pub most_service : ℕ
most_service = most_digits + after_word

-- the bytes that suffice for every text
abbrev pub room : ℕ
room = 512
