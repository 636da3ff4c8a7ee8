-- The entry point of the tidy copy: numbers in place of answers.
use Rattle.std.specs.Prelude.{ℕ, List, [], ◌∷◌}
use Rattle.tidy.specs.Answers.{Written, group, bytes_written}

-- gz_tidy writes group and length
abbrev pub written_answer : Written → List ℕ
written_answer a = group a ∷ bytes_written a ∷ []
