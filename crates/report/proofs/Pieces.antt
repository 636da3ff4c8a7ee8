-- Pieces that are put into a text one after the other.
use Prim.Native.Nat.{ℕ, suc, ◌+◌, ◌≤◌, ◌<◌}
use native.Mathlib.Numerals.{add-one}
use mathlib.Core.Path.{◌≡◌, sym, ◌∙◌}
use mathlib.Core.List.{List, ◌++◌, append_assoc, append-nil}
use lib.ListN.{length, drop, get_or, drop_of_length-le}
use lib.Seq.{drop-cons}
use Rattle.report.specs.Text.{decimal, space, line_end, line, service_lines}

-- a word, a space, a number and the line's end are a line
pub line_put :
    (a b c d e word : List ℕ) (n : ℕ) → b ≡ a ++ word → c ≡ b ++ space → d ≡ c ++ decimal n → e ≡ d ++ line_end
    → e ≡ a ++ line word n
unfolding line
line_put a b c d e word n p q r s = s ∙ rw (r, q, p) (simp append_assoc)

-- one service's line more
pub one_service :
    (text text' plan all : List ℕ) (i : ℕ) → i < length plan → text' ≡ text ++ line (decimal i) (get_or plan i 0)
    → text ++ service_lines i (drop i plan) ≡ all
    → text' ++ service_lines (i + 1) (drop (i + 1) plan) ≡ all
unfolding service_lines
one_service text text' plan all i h p e =
    rw (p, add-one i)
    (append_assoc text (line (decimal i) (get_or plan i 0)) (service_lines (suc i) (drop (suc i) plan))
    ∙ (rw (drop-cons plan i 0 h) at e))

-- no service is left
pub no_service :
    (text plan all : List ℕ) (i : ℕ) → length plan ≤ i → text ++ service_lines i (drop i plan) ≡ all → text ≡ all
unfolding service_lines
no_service text plan all i h e = sym (append-nil text) ∙ (rw (drop_of_length-le plan {i = i} h) at e)
