-- Examples of the text, by computing it.
use Prim.Native.Nat.{ℕ, ◌<◌}
use mathlib.Core.Path.{◌≡◌, refl}
use mathlib.Core.List.{List, [], ◌∷◌}
use lib.ListN.{length, replicate}
use borrow.Author.Tests.{lt-ltb}
use Rattle.sheet.specs.Refusals.{refusal}
use Rattle.planner.specs.Answers.{plan_of, unplanned}
use Rattle.report.specs.Text.{longest, digits_within, decimal, line, service_lines, answer_text, printed}

pub zero : decimal 0 ≡ 48 ∷ []
unfolding decimal digits_within
zero = refl

pub seven : decimal 7 ≡ 55 ∷ []
unfolding decimal digits_within
seven = refl

pub ten : decimal 10 ≡ 49 ∷ 48 ∷ []
unfolding decimal digits_within
ten = refl

pub largest_word : decimal 65535 ≡ 54 ∷ 53 ∷ 53 ∷ 51 ∷ 53 ∷ []
unfolding decimal digits_within
largest_word = refl

-- "cost 15", "weighed 12", "0 1", "1 2"
pub measured :
    answer_text (plan_of 15 12) (1 ∷ 2 ∷ []) ≡
    99 ∷ 111 ∷ 115 ∷ 116 ∷ 32 ∷ 49 ∷ 53 ∷ 10
    ∷ 119 ∷ 101 ∷ 105 ∷ 103 ∷ 104 ∷ 101 ∷ 100 ∷ 32 ∷ 49 ∷ 50 ∷ 10
    ∷ 48 ∷ 32 ∷ 49 ∷ 10
    ∷ 49 ∷ 32 ∷ 50 ∷ 10 ∷ []
unfolding answer_text service_lines line decimal digits_within
measured = refl

-- "refused 12"
pub no_plan : answer_text (unplanned (refusal 12) 10) [] ≡ 114 ∷ 101 ∷ 102 ∷ 117 ∷ 115 ∷ 101 ∷ 100 ∷ 32 ∷ 49 ∷ 50 ∷ 10 ∷ []
unfolding answer_text line decimal digits_within refusal
no_plan = refl

-- "refused 17" for any bytes that are too many
pub too_many : (bytes : List ℕ) → longest < length bytes → printed bytes ≡ 114 ∷ 101 ∷ 102 ∷ 117 ∷ 115 ∷ 101 ∷ 100 ∷ 32 ∷ 49 ∷ 55 ∷ 10 ∷ []
unfolding printed line decimal digits_within
too_many bytes h = rw (lt-ltb longest (length bytes) h) refl

-- and so for 4,097 zeros
pub zeros : printed (replicate 4097 0) ≡ 114 ∷ 101 ∷ 102 ∷ 117 ∷ 115 ∷ 101 ∷ 100 ∷ 32 ∷ 49 ∷ 55 ∷ 10 ∷ []
unfolding printed line decimal digits_within
zeros = refl
