-- What the reader answers: the first refusal that applies, or the sheet.
use Rattle.std.specs.Prelude.{ℕ, zero, suc, List, [], ◌∷◌, Result, Ok, Err, length}
use Rattle.sheet.specs.Layout.{header}
use Rattle.sheet.specs.Conditions.{too_short, beyond_limits, wrong_length, some_block_outside, some_blocks_share, some_amount_too_high, some_parent_wrong, some_ends_wrong, root_linked, pairs_block_wrong, some_pair_wrong}
use Rattle.sheet.specs.Refusals.{Rule, first_applying, refusal, number_of, group_of}
use Rattle.sheet.specs.declared.Sheet.{Sheet}
use Rattle.sheet.specs.declared.Refusal.{Refusal}

-- what reading answers: the sheet that is accepted, or the refusal
abbrev pub Reading : Type 0
Reading = Result Sheet Refusal

-- the reader's refusals, in the order of giving
unfoldable pub rules : List ℕ → List Rule
rules bytes =
    record { number = 1; applies = too_short bytes }
    ∷ record { number = 2; applies = beyond_limits (header bytes) }
    ∷ record { number = 3; applies = wrong_length bytes }
    ∷ record { number = 4; applies = some_block_outside (header bytes) (length bytes) }
    ∷ record { number = 5; applies = some_blocks_share (header bytes) }
    ∷ record { number = 6; applies = some_amount_too_high (header bytes) bytes }
    ∷ record { number = 7; applies = some_parent_wrong (header bytes) bytes }
    ∷ record { number = 8; applies = some_ends_wrong (header bytes) bytes }
    ∷ record { number = 9; applies = root_linked (header bytes) bytes }
    ∷ record { number = 18; applies = pairs_block_wrong (header bytes) (length bytes) }
    ∷ record { number = 19; applies = some_pair_wrong (header bytes) bytes }
    ∷ []

-- their numbers
abbrev pub reader_numbers : List ℕ
reader_numbers = 1 ∷ 2 ∷ 3 ∷ 4 ∷ 5 ∷ 6 ∷ 7 ∷ 8 ∷ 9 ∷ 18 ∷ 19 ∷ []

-- the sheet where no refusal applies, which 0 stands for, else that refusal
unfoldable pub answered : ℕ → Sheet → Reading
answered zero h = Ok h
answered (suc n) h = Err (refusal (suc n))

-- a sheet is accepted exactly when none of the reader's refusals applies to it, else refused with the first that does
unfoldable pub reading : List ℕ → Reading
reading bytes = answered (first_applying (rules bytes)) (header bytes)

-- an answer's number; 0 where the sheet is accepted
abbrev pub number : Reading → ℕ
number (Ok h) = 0
number (Err f) = number_of f

-- its group; 0 where the sheet is accepted
abbrev pub group : Reading → ℕ
group (Ok h) = 0
group (Err f) = group_of f

-- r, s, q and the number of barred pairs of an accepted sheet; 0 where it is refused
abbrev pub services : Reading → ℕ
services (Ok h) = h.services
services (Err f) = 0

abbrev pub cabinets : Reading → ℕ
cabinets (Ok h) = h.cabinets
cabinets (Err f) = 0

abbrev pub streams : Reading → ℕ
streams (Ok h) = h.streams
streams (Err f) = 0

abbrev pub pairs : Reading → ℕ
pairs (Ok h) = h.pairs
pairs (Err f) = 0
