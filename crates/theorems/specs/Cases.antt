-- The worked cases that are proved, 01's "Measured roads" and those of 02: for each call on the bytes of a sheet, the answer expected.
use Rattle.std.specs.Prelude.{ℕ, ◌+◌, ◌-◌, ◌*◌, ◌/◌, ◌^◌, Bool, true, ◌&&◌, ◌≡◌, List, [], ◌∷◌, ◌++◌, eqb, length, Ok, Err}
use Rattle.finite.specs.Below.{◌⇒◌, all_below}
use Rattle.subsets.specs.Figures.{limit}
use Rattle.sheet.specs.Refusals.{refusal}
use Rattle.sheet.specs.Reading.{reading, number}
use Rattle.sheet.specs.Instance.{Instance, instance}
use Rattle.embedding.specs.Plan.{place, digit, valid, plan_cost}
use Rattle.embedding.specs.First.{first_plan, places}
use Rattle.embedding.specs.Rehung.{Rehung}
use Rattle.checker.specs.Check.{Checked, checked}
use Rattle.bill.specs.Lines.{line_count, line}
use Rattle.bill.specs.Answers.{billed, bill_of, Billed}
use Rattle.bill.specs.declared.tariff.Tariff.{Tariff}
use Rattle.lending.specs.Spans.{span_of}
use Rattle.lending.specs.declared.Span.{Span}
use Rattle.planner.specs.Answers as planner
use Rattle.planner.specs.Answers.{Planned, plan_of, unplanned, entries, planned}
use Rattle.planner.specs.Lent.{used}
use Rattle.planner.specs.Kept.{kept_costs, kept_choices}
use Rattle.tidy.specs.Words.{from_words}
use Rattle.tidy.specs.Copy.{tidied}
use Rattle.tidy.specs.Answers.{tidy_answer}

-- a call, what it is given, and what it is to answer
pub data Case : Type 0 where
  -- the reader, of bytes: the refusal's number, 0 for none
  read : List ℕ → ℕ → Case
  -- the check, of bytes and a plan
  check : List ℕ → List ℕ → Checked → Case
  -- the planner, of bytes, with memory that just suffices
  plan : List ℕ → Planned → Case
  -- every valid plan of this cost puts this service on this cabinet
  puts : List ℕ → ℕ → ℕ → ℕ → Case
  -- the planner, with memory that just suffices: there is a plan, and this is what it writes
  writes : List ℕ → List ℕ → Case
  -- the call that tidies, of bytes, with an output that just suffices: this is the copy
  tidies : List ℕ → List ℕ → Case
  -- the call that makes a bill, of bytes, a plan and a tariff, with places for so many lines
  bills : List ℕ → List ℕ → Tariff → ℕ → Billed → Case
  -- the lines of that bill
  lines : List ℕ → List ℕ → Tariff → List ℕ → Case
  -- the keeping call, with memory that just suffices: it uses the tables, and this is what it leaves in the cost table and in the choice table
  keeps : List ℕ → List ℕ → List ℕ → Case
  -- the planner, of bytes, with an output, a cost table and a choice table of so many places, on a span
  spans : List ℕ → ℕ → ℕ → ℕ → Span → Planned → Case
  -- the second sheet is the first rehung and renumbered: this list has the new number of each cabinet
  rehangs : List ℕ → List ℕ → List ℕ → Case
  -- by these numbers it is not
  differs : List ℕ → List ℕ → List ℕ → Case

-- the planner's answer where the output has r places and each table s × 2^r entries, all of them in the span
abbrev pub answer_to : List ℕ → Planned
answer_to bytes = planned bytes (instance bytes).r (entries (instance bytes)) (entries (instance bytes)) (span_of 0 (entries (instance bytes)))

-- of all s^r plans, those that are valid and cost k put service i on cabinet c
abbrev pub all_put : Instance → ℕ → ℕ → ℕ → Bool
all_put I k i c =
    all_below (I.s ^ I.r) (λ n. valid I (digit I.s n) && eqb (plan_cost I (digit I.s n)) k ⇒ eqb (digit I.s n i) c)

-- the definitions give the answer expected
abbrev pub Holds : Case → Type 0
Holds (read bytes n) = number (reading bytes) ≡ n
Holds (check bytes written answer) = checked bytes written ≡ answer
Holds (plan bytes answer) = answer_to bytes ≡ answer
Holds (puts bytes k i c) = all_put (instance bytes) k i c ≡ true
Holds (writes bytes written) = (planner.number (answer_to bytes) ≡ 0) × (places (instance bytes).r (first_plan (instance bytes)) ≡ written)
Holds (tidies bytes copy) = (tidy_answer bytes (length copy) ≡ Ok (length copy)) × (tidied (instance bytes) ≡ copy)
Holds (bills bytes written t n answer) = billed bytes written t n ≡ answer
Holds (lines bytes written t expected) = places (line_count (instance bytes)) (line (instance bytes) (place written) t) ≡ expected
Holds (keeps bytes costs choices) = (used (answer_to bytes) ≡ true) × (kept_costs (instance bytes) ≡ costs) × (kept_choices (instance bytes) ≡ choices)
Holds (spans bytes output costs choices span answer) = planned bytes output costs choices span ≡ answer
Holds (rehangs bytes others numbers) = Rehung (instance bytes) (instance others) (place numbers)
Holds (differs bytes others numbers) = Rehung (instance bytes) (instance others) (place numbers) → ⊥

-- the figure of a set that cannot be placed: 10^15 + 1
abbrev pub no_way : ℕ
no_way = limit + 1

-- a tariff of this block price, slot price and tax rate
abbrev pub tariff : ℕ → ℕ → ℕ → Tariff
tariff block slot rate = record { block_price = block; slot_price = slot; tax_rate = rate }

-- every case of a table holds
abbrev pub AllHold : List Case → Type 0
AllHold [] = Unit {0}
AllHold (x ∷ xs) = Holds x × AllHold xs

-- M's two services and its stream of 3 on three cabinets, with a fourth block at an offset, of these words, after all else
abbrev pub m_on : List ℕ → ℕ → List ℕ → List ℕ
m_on cabinets at block =
    from_words (
    2 ∷ 3 ∷ 1 ∷ 16 ∷ 20 ∷ 62 ∷ (68 + 2 * length block) ∷ at
    ∷ 2 ∷ 2
    ∷ cabinets ++ (0 ∷ 1 ∷ 3 ∷ block)
    )

-- road M with a capacity for its root, an up capacity for cabinet 1, and a fourth block at an offset, of these words, after all else:
-- two services, two children of the root, and a stream of 3
abbrev pub road_barring : ℕ → ℕ → ℕ → List ℕ → List ℕ
road_barring root up at block =
    from_words (
    2 ∷ 3 ∷ 1 ∷ 16 ∷ 20 ∷ 62 ∷ (68 + 2 * length block) ∷ at
    ∷ 2 ∷ 2
    ∷ 65535 ∷ root ∷ 5 ∷ 0 ∷ 0 ∷ 0 ∷ 0
    ∷ 0 ∷ 3 ∷ 1 ∷ up ∷ 2 ∷ 6 ∷ 1
    ∷ 0 ∷ 3 ∷ 2 ∷ 2 ∷ 1 ∷ 6 ∷ 1
    ∷ 0 ∷ 1 ∷ 3 ∷ block
    )

-- without a fourth block
abbrev pub road : ℕ → ℕ → List ℕ
road root up = road_barring root up 0 []

abbrev pub road_m : List ℕ
road_m = road 4 6

-- road M with a fourth block; with (0,0) barred, and with service 0 barred from every cabinet
abbrev pub m_with : ℕ → List ℕ → List ℕ
m_with = road_barring 4 6

abbrev pub m_barred : List ℕ
m_barred = m_with 68 (1 ∷ 0 ∷ 0 ∷ [])

abbrev pub m_nowhere : List ℕ
m_nowhere = m_with 68 (3 ∷ 0 ∷ 0 ∷ 0 ∷ 1 ∷ 0 ∷ 2 ∷ [])

-- road M hung from its cabinet 1, which is cabinet 0 now and the old root cabinet 1, with a fourth block; the link between the two is turned over
abbrev pub m_from_1 : ℕ → List ℕ → List ℕ
m_from_1 =
    m_on (
    65535 ∷ 3 ∷ 1 ∷ 0 ∷ 0 ∷ 0 ∷ 0
    ∷ 0 ∷ 4 ∷ 5 ∷ 6 ∷ 1 ∷ 6 ∷ 2
    ∷ 1 ∷ 3 ∷ 2 ∷ 2 ∷ 1 ∷ 6 ∷ 1 ∷ []
    )

-- the same with that link's up and down as they were, and with the prices of the two cabinets exchanged
abbrev pub m_unturned : List ℕ
m_unturned =
    m_on (
    65535 ∷ 3 ∷ 1 ∷ 0 ∷ 0 ∷ 0 ∷ 0
    ∷ 0 ∷ 4 ∷ 5 ∷ 6 ∷ 2 ∷ 6 ∷ 1
    ∷ 1 ∷ 3 ∷ 2 ∷ 2 ∷ 1 ∷ 6 ∷ 1 ∷ []
    ) 0 []

abbrev pub m_repriced : List ℕ
m_repriced =
    m_on (
    65535 ∷ 3 ∷ 5 ∷ 0 ∷ 0 ∷ 0 ∷ 0
    ∷ 0 ∷ 4 ∷ 1 ∷ 6 ∷ 1 ∷ 6 ∷ 2
    ∷ 1 ∷ 3 ∷ 2 ∷ 2 ∷ 1 ∷ 6 ∷ 1 ∷ []
    ) 0 []

-- road M without room at its root, which is a joint then, and with an up capacity for cabinet 1, hung from its cabinet 2
abbrev pub m0_from_2 : ℕ → List ℕ
m0_from_2 up =
    m_on (
    65535 ∷ 3 ∷ 2 ∷ 0 ∷ 0 ∷ 0 ∷ 0
    ∷ 0 ∷ 0 ∷ 5 ∷ 6 ∷ 1 ∷ 2 ∷ 1
    ∷ 1 ∷ 3 ∷ 1 ∷ up ∷ 2 ∷ 6 ∷ 1 ∷ []
    ) 0 []

-- a joint with two children that have this capacity and this one, and are alike in all else
abbrev pub two_ends : ℕ → ℕ → List ℕ
two_ends one other =
    m_on (
    65535 ∷ 0 ∷ 5 ∷ 0 ∷ 0 ∷ 0 ∷ 0
    ∷ 0 ∷ one ∷ 1 ∷ 6 ∷ 2 ∷ 6 ∷ 1
    ∷ 0 ∷ other ∷ 1 ∷ 6 ∷ 2 ∷ 6 ∷ 1 ∷ []
    ) 0 []

-- road M with an up capacity for cabinet 1, and with other streams, three words each
abbrev pub m_carrying : ℕ → List ℕ → List ℕ
m_carrying up streams =
    from_words (
    2 ∷ 3 ∷ length streams / 3 ∷ 16 ∷ 20 ∷ 62 ∷ (62 + 2 * length streams) ∷ 0
    ∷ 2 ∷ 2
    ∷ 65535 ∷ 4 ∷ 5 ∷ 0 ∷ 0 ∷ 0 ∷ 0
    ∷ 0 ∷ 3 ∷ 1 ∷ up ∷ 2 ∷ 6 ∷ 1
    ∷ 0 ∷ 3 ∷ 2 ∷ 2 ∷ 1 ∷ 6 ∷ 1 ∷ streams
    )

-- road Z, M0 with a third service of demand 0, and streams of 3 from it to each of the others; with a fourth block at an offset, of these words
abbrev pub z_with : ℕ → List ℕ → List ℕ
z_with at block =
    from_words (
    3 ∷ 3 ∷ 2 ∷ 16 ∷ 22 ∷ 64 ∷ (76 + 2 * length block) ∷ at
    ∷ 2 ∷ 2 ∷ 0
    ∷ 65535 ∷ 0 ∷ 5 ∷ 0 ∷ 0 ∷ 0 ∷ 0
    ∷ 0 ∷ 3 ∷ 1 ∷ 6 ∷ 2 ∷ 6 ∷ 1
    ∷ 0 ∷ 3 ∷ 2 ∷ 2 ∷ 1 ∷ 6 ∷ 1
    ∷ 2 ∷ 0 ∷ 3
    ∷ 2 ∷ 1 ∷ 3 ∷ block
    )

-- without one
abbrev pub road_z : List ℕ
road_z = z_with 0 []

-- a chain of three cabinets with these capacities, two services of demand 0, and a stream of 1 from the first to the second, which the link to the last
-- cabinet carries upwards only
abbrev pub chain : ℕ → ℕ → ℕ → List ℕ
chain top middle end =
    from_words (
    2 ∷ 3 ∷ 1 ∷ 16 ∷ 20 ∷ 62 ∷ 68 ∷ 0
    ∷ 0 ∷ 0
    ∷ 65535 ∷ top ∷ 1 ∷ 0 ∷ 0 ∷ 0 ∷ 0
    ∷ 0 ∷ middle ∷ 1 ∷ 3 ∷ 1 ∷ 3 ∷ 2
    ∷ 1 ∷ end ∷ 1 ∷ 3 ∷ 1 ∷ 2 ∷ 1
    ∷ 0 ∷ 1 ∷ 1 ∷ []
    )

-- no service, two joints, no stream
abbrev pub two_joints : List ℕ
two_joints =
    from_words (
    0 ∷ 2 ∷ 0 ∷ 16 ∷ 16 ∷ 44 ∷ 44 ∷ 0
    ∷ 65535 ∷ 0 ∷ 0 ∷ 0 ∷ 0 ∷ 0 ∷ 0
    ∷ 0 ∷ 0 ∷ 0 ∷ 0 ∷ 0 ∷ 0 ∷ 0 ∷ []
    )

-- a root with one child of all zeros, and one service of 3
abbrev pub one_child : List ℕ
one_child =
    from_words (
    1 ∷ 2 ∷ 0 ∷ 16 ∷ 18 ∷ 46 ∷ 46 ∷ 0
    ∷ 3
    ∷ 65535 ∷ 5 ∷ 1 ∷ 0 ∷ 0 ∷ 0 ∷ 0
    ∷ 0 ∷ 0 ∷ 0 ∷ 0 ∷ 0 ∷ 0 ∷ 0 ∷ []
    )

-- two services of 1 on one cabinet, and a stream of 5 each way: the later service's first
abbrev pub both_ways : List ℕ
both_ways = from_words (2 ∷ 1 ∷ 2 ∷ 16 ∷ 20 ∷ 34 ∷ 46 ∷ 0 ∷ 1 ∷ 1 ∷ 65535 ∷ 4 ∷ 5 ∷ 0 ∷ 0 ∷ 0 ∷ 0 ∷ 1 ∷ 0 ∷ 5 ∷ 0 ∷ 1 ∷ 5 ∷ [])

-- one cabinet and nothing else, at an odd offset, after the streams' and before the services' empty block; and the same without a gap
abbrev pub lone_odd : List ℕ
lone_odd = from_words (0 ∷ 1 ∷ 0 ∷ 31 ∷ 17 ∷ 16 ∷ 31 ∷ 0 ∷ []) ++ (9 ∷ from_words (65535 ∷ 4 ∷ 5 ∷ 0 ∷ 0 ∷ 0 ∷ 0 ∷ []))

abbrev pub lone : List ℕ
lone = from_words (0 ∷ 1 ∷ 0 ∷ 16 ∷ 16 ∷ 30 ∷ 30 ∷ 0 ∷ 65535 ∷ 4 ∷ 5 ∷ 0 ∷ 0 ∷ 0 ∷ 0 ∷ [])

-- the table
abbrev pub cases : List Case
cases =
    check road_m (0 ∷ 1 ∷ []) (Ok 15)
    ∷ check road_m (1 ∷ 2 ∷ []) (Ok 15)
    ∷ check road_m (1 ∷ 0 ∷ []) (Ok 18)
    ∷ check road_m (0 ∷ 0 ∷ []) (Ok 20)
    ∷ check road_m (1 ∷ 1 ∷ []) (Err (refusal 15))
    ∷ check road_m (2 ∷ 0 ∷ []) (Err (refusal 16))
    ∷ check road_m (3 ∷ 0 ∷ []) (Err (refusal 14))
    ∷ plan road_m (plan_of 15 18)
    ∷ writes road_m (0 ∷ 1 ∷ [])
    ∷ plan (road 3 6) (plan_of 15 17)
    ∷ plan (road 0 6) (plan_of 15 12)
    ∷ writes (road 0 6) (1 ∷ 2 ∷ [])
    ∷ plan (road 0 5) (plan_of 15 12)
    ∷ plan (road 0 4) (unplanned (refusal 12) 10)
    ∷ plan road_z (plan_of 15 28)
    ∷ puts road_z 15 2 1
    ∷ writes road_z (1 ∷ 2 ∷ 1 ∷ [])
    ∷ plan one_child (plan_of 3 3)
    ∷ check m_barred (0 ∷ 1 ∷ []) (Err (refusal 20))
    ∷ check m_barred (1 ∷ 2 ∷ []) (Ok 15)
    ∷ plan m_barred (plan_of 15 15)
    ∷ puts m_barred 15 0 1
    ∷ puts m_barred 15 1 2
    ∷ writes m_barred (1 ∷ 2 ∷ [])
    ∷ plan m_nowhere (unplanned (refusal 12) 12)
    -- framing on the way up: two streams of one pair; one of them the other way; a stream of demand 0
    ∷ check (m_carrying 7 (0 ∷ 1 ∷ 1 ∷ 0 ∷ 1 ∷ 2 ∷ [])) (1 ∷ 0 ∷ []) (Ok 18)
    ∷ check (m_carrying 6 (0 ∷ 1 ∷ 1 ∷ 0 ∷ 1 ∷ 2 ∷ [])) (1 ∷ 0 ∷ []) (Err (refusal 16))
    ∷ check (m_carrying 3 (0 ∷ 1 ∷ 1 ∷ 1 ∷ 0 ∷ 2 ∷ [])) (1 ∷ 0 ∷ []) (Ok 16)
    ∷ check (m_carrying 2 (0 ∷ 1 ∷ 1 ∷ 1 ∷ 0 ∷ 2 ∷ [])) (1 ∷ 0 ∷ []) (Err (refusal 16))
    ∷ check (m_carrying 0 (0 ∷ 1 ∷ 0 ∷ [])) (1 ∷ 0 ∷ []) (Ok 12)
    -- a block of no pairs; one pair, also twice, and after a gap
    ∷ read (m_with 68 (0 ∷ [])) 0
    ∷ read (m_with 68 (1 ∷ 1 ∷ 2 ∷ [])) 0
    ∷ read (m_with 68 (2 ∷ 0 ∷ 0 ∷ 0 ∷ 0 ∷ [])) 0
    ∷ read (m_with 70 (7 ∷ 1 ∷ 0 ∷ 0 ∷ [])) 0
    -- a block in the header; at the length, one byte before it, and far past it; pairs that end past it; too many pairs
    ∷ read (m_with 1 []) 18
    ∷ read (m_with 15 []) 18
    ∷ read (m_with 68 []) 18
    ∷ read (m_with 67 []) 18
    ∷ read (m_with 65535 []) 18
    ∷ read (m_with 68 (2 ∷ 0 ∷ 0 ∷ [])) 18
    ∷ read (m_with 68 (2001 ∷ [])) 18
    -- on the services; on a cabinet and the stream; no pairs, and the first byte is the last of the stream
    ∷ read (m_with 18 []) 18
    ∷ read (m_with 60 []) 18
    ∷ read (m_with 67 (0 ∷ [])) 18
    -- a pair that names no service, or no cabinet, also the last of two
    ∷ read (m_with 68 (1 ∷ 2 ∷ 0 ∷ [])) 19
    ∷ read (m_with 68 (1 ∷ 0 ∷ 3 ∷ [])) 19
    ∷ read (m_with 68 (2 ∷ 1 ∷ 2 ∷ 1 ∷ 3 ∷ [])) 19
    -- 18 before 19, and 6 before 18
    ∷ read (m_with 68 (2 ∷ 9 ∷ 9 ∷ [])) 18
    ∷ read (road_barring 10001 6 68 (2 ∷ 9 ∷ 9 ∷ [])) 6
    -- copies: of M, which is tidy; of a block of no pairs; of a pair after a gap; of pairs in any order, with a repeat; of pairs whose
    -- services rise as their cabinets fall; of streams, which keep their order; of an odd layout with empty blocks
    ∷ tidies road_m road_m
    ∷ tidies (m_with 68 (0 ∷ [])) road_m
    ∷ tidies (m_with 70 (7 ∷ 1 ∷ 0 ∷ 0 ∷ [])) m_barred
    ∷ tidies (m_with 68 (3 ∷ 1 ∷ 2 ∷ 0 ∷ 0 ∷ 1 ∷ 2 ∷ [])) (m_with 68 (2 ∷ 0 ∷ 0 ∷ 1 ∷ 2 ∷ []))
    ∷ tidies (m_with 68 (2 ∷ 1 ∷ 0 ∷ 0 ∷ 2 ∷ [])) (m_with 68 (2 ∷ 0 ∷ 2 ∷ 1 ∷ 0 ∷ []))
    ∷ tidies both_ways both_ways
    ∷ tidies lone_odd lone
    -- bills of M: a tax that ends in a half; all at the limits; a stream of 98 and one of 99, whose framing takes them to one block and past it
    ∷ bills road_m (0 ∷ 1 ∷ []) (tariff 250 30 50) 6 (bill_of 370 19 389)
    ∷ lines road_m (0 ∷ 1 ∷ []) (tariff 250 30 50) (0 ∷ 250 ∷ 0 ∷ 0 ∷ 60 ∷ 60 ∷ [])
    ∷ bills road_m (1 ∷ 2 ∷ []) (tariff 10000 10000 1000) 9 (bill_of 60000 60000 120000)
    ∷ lines road_m (1 ∷ 2 ∷ []) (tariff 10000 10000 1000) (10000 ∷ 0 ∷ 0 ∷ 10000 ∷ 20000 ∷ 20000 ∷ [])
    ∷ bills (m_carrying 100 (0 ∷ 1 ∷ 98 ∷ [])) (1 ∷ 0 ∷ []) (tariff 7 0 500) 6 (bill_of 7 4 11)
    ∷ lines (m_carrying 101 (0 ∷ 1 ∷ 99 ∷ [])) (1 ∷ 0 ∷ []) (tariff 7 0 500) (14 ∷ 0 ∷ 0 ∷ 0 ∷ 0 ∷ 0 ∷ [])
    -- each part of a tariff above its limit; a line too few; the check's refusal, and the reader's, before that
    ∷ bills road_m (0 ∷ 1 ∷ []) (tariff 10001 0 0) 6 (Err (refusal 22))
    ∷ bills road_m (0 ∷ 1 ∷ []) (tariff 0 10001 0) 6 (Err (refusal 22))
    ∷ bills road_m (0 ∷ 1 ∷ []) (tariff 0 0 1001) 6 (Err (refusal 22))
    ∷ bills road_m (0 ∷ 1 ∷ []) (tariff 250 30 50) 5 (Err (refusal 22))
    ∷ bills road_m (2 ∷ 0 ∷ []) (tariff 10001 0 0) 0 (Err (refusal 16))
    ∷ bills (m_with 68 []) (0 ∷ 1 ∷ []) (tariff 10001 0 0) 0 (Err (refusal 18))
    -- 02 (g): what tables kept of M hold, of M with no room at its root, and of the road without a plan; the counts of the joins sum to 18, 12 and 10
    ∷ keeps road_m (0 ∷ 8 ∷ 5 ∷ 15 ∷ 0 ∷ 2 ∷ 2 ∷ no_way ∷ 0 ∷ 4 ∷ 4 ∷ no_way ∷ []) (0 ∷ 0 ∷ 0 ∷ 0 ∷ 9 ∷ 0 ∷ 0 ∷ 1 ∷ 9 ∷ 1 ∷ 2 ∷ 3 ∷ [])
    ∷ keeps (road 0 6) (0 ∷ 8 ∷ 5 ∷ 15 ∷ 0 ∷ 2 ∷ 2 ∷ no_way ∷ 0 ∷ 4 ∷ 4 ∷ no_way ∷ []) (0 ∷ 0 ∷ 0 ∷ 0 ∷ 4 ∷ 0 ∷ 0 ∷ 0 ∷ 8 ∷ 1 ∷ 2 ∷ 1 ∷ [])
    ∷ keeps (road 0 4) (0 ∷ no_way ∷ 5 ∷ no_way ∷ 0 ∷ 2 ∷ 2 ∷ no_way ∷ 0 ∷ 4 ∷ 4 ∷ no_way ∷ []) (0 ∷ 0 ∷ 0 ∷ 0 ∷ 4 ∷ 0 ∷ 0 ∷ 0 ∷ 6 ∷ 0 ∷ 2 ∷ 0 ∷ [])
    -- 02 (h), on M, which needs 2 places and 12 entries: a span in the middle, one that is longer than needed and ends with both tables, and one that does
    -- so with the shorter
    ∷ spans road_m 2 30 30 (span_of 5 12) (plan_of 15 18)
    ∷ spans road_m 2 30 30 (span_of 10 20) (plan_of 15 18)
    ∷ spans road_m 2 24 30 (span_of 12 12) (plan_of 15 18)
    -- a span that runs past the cost table, and past the choice table; first and number whose sum does not fit 64 bits
    ∷ spans road_m 2 23 30 (span_of 12 12) (unplanned (refusal 24) 0)
    ∷ spans road_m 2 30 23 (span_of 12 12) (unplanned (refusal 24) 0)
    ∷ spans road_m 2 30 30 (span_of (2 ^ 64 - 1) (2 ^ 64 - 1)) (unplanned (refusal 24) 0)
    ∷ spans road_m 2 30 30 (span_of 1 (2 ^ 64 - 1)) (unplanned (refusal 24) 0)
    -- no entries at the very end, and one past it; an entry too few; 24 with 11, and 10 with both
    ∷ spans road_m 2 30 30 (span_of 30 0) (unplanned (refusal 11) 0)
    ∷ spans road_m 2 30 30 (span_of 31 0) (unplanned (refusal 24) 0)
    ∷ spans road_m 2 30 30 (span_of 5 11) (unplanned (refusal 11) 0)
    ∷ spans road_m 2 30 30 (span_of 25 11) (unplanned (refusal 24) 0)
    ∷ spans road_m 1 30 30 (span_of 25 11) (unplanned (refusal 10) 0)
    -- 02 (i): on Z the root is a joint, so that the service of demand 0 may not stand there; 20 and 14 come before that
    ∷ check road_z (1 ∷ 2 ∷ 1 ∷ []) (Ok 15)
    ∷ check road_z (1 ∷ 2 ∷ 0 ∷ []) (Err (refusal 15))
    ∷ check (z_with 76 (1 ∷ 2 ∷ 0 ∷ [])) (1 ∷ 2 ∷ 0 ∷ []) (Err (refusal 20))
    ∷ check road_z (1 ∷ 3 ∷ 0 ∷ []) (Err (refusal 14))
    -- a joint at the end of the chain, with an overfull link too; no joint there, and that link is left; a stream through a joint in the middle
    ∷ check (chain 1 1 0) (0 ∷ 2 ∷ []) (Err (refusal 15))
    ∷ check (chain 1 0 1) (0 ∷ 2 ∷ []) (Err (refusal 16))
    ∷ check (chain 1 0 1) (2 ∷ 0 ∷ []) (Ok 2)
    ∷ check (chain 1 0 1) (0 ∷ 1 ∷ []) (Err (refusal 15))
    -- plans with joints in the middle, at both other ends, above the end, and everywhere; no service, and joints only
    ∷ plan (chain 1 0 1) (plan_of 0 13)
    ∷ writes (chain 1 0 1) (0 ∷ 0 ∷ [])
    ∷ plan (chain 0 1 0) (plan_of 0 13)
    ∷ writes (chain 0 1 0) (1 ∷ 1 ∷ [])
    ∷ plan (chain 0 0 1) (plan_of 0 8)
    ∷ writes (chain 0 0 1) (2 ∷ 2 ∷ [])
    ∷ plan (chain 0 0 0) (unplanned (refusal 12) 8)
    ∷ plan two_joints (plan_of 0 1)
    -- what tables kept of a chain hold, with a joint in the middle, and of joints only
    ∷ keeps (chain 1 0 1) (0 ∷ 0 ∷ 0 ∷ 0 ∷ 0 ∷ 1 ∷ no_way ∷ 0 ∷ 0 ∷ 0 ∷ 0 ∷ 0 ∷ []) (0 ∷ 0 ∷ 0 ∷ 0 ∷ 9 ∷ 1 ∷ 2 ∷ 3 ∷ 4 ∷ 0 ∷ 0 ∷ 0 ∷ [])
    ∷ keeps (chain 0 0 0) (0 ∷ no_way ∷ no_way ∷ no_way ∷ 0 ∷ no_way ∷ no_way ∷ no_way ∷ 0 ∷ no_way ∷ no_way ∷ no_way ∷ [])
    (0 ∷ 0 ∷ 0 ∷ 0 ∷ 4 ∷ 0 ∷ 0 ∷ 0 ∷ 4 ∷ 0 ∷ 0 ∷ 0 ∷ [])
    -- 02 (j): M hung from its cabinet 1, also with (0,0) barred, which is (0,1) there; M0 from its cabinet 2, where the joint is in the middle; the other
    -- way round; and a road beside itself. The costs are the same, counts and plans are not
    ∷ rehangs road_m (m_from_1 0 []) (1 ∷ 0 ∷ 2 ∷ [])
    ∷ plan (m_from_1 0 []) (plan_of 15 17)
    ∷ writes (m_from_1 0 []) (0 ∷ 2 ∷ [])
    ∷ rehangs m_barred (m_from_1 68 (1 ∷ 0 ∷ 1 ∷ [])) (1 ∷ 0 ∷ 2 ∷ [])
    ∷ plan (m_from_1 68 (1 ∷ 0 ∷ 1 ∷ [])) (plan_of 15 14)
    ∷ rehangs (road 0 6) (m0_from_2 6) (1 ∷ 2 ∷ 0 ∷ [])
    ∷ plan (m0_from_2 6) (plan_of 15 12)
    ∷ rehangs (road 0 4) (m0_from_2 4) (1 ∷ 2 ∷ 0 ∷ [])
    ∷ plan (m0_from_2 4) (unplanned (refusal 12) 12)
    ∷ rehangs (m0_from_2 6) (road 0 6) (2 ∷ 0 ∷ 1 ∷ [])
    ∷ rehangs road_m road_m (0 ∷ 1 ∷ 2 ∷ [])
    -- a link that turns over with up and down as they were; barred pairs with the old numbers; prices that stay behind; two cabinets given one number
    ∷ differs road_m m_unturned (1 ∷ 0 ∷ 2 ∷ [])
    ∷ differs m_barred (m_from_1 68 (1 ∷ 0 ∷ 0 ∷ [])) (1 ∷ 0 ∷ 2 ∷ [])
    ∷ differs road_m m_repriced (1 ∷ 0 ∷ 2 ∷ [])
    ∷ differs (two_ends 3 3) (two_ends 3 0) (0 ∷ 1 ∷ 1 ∷ [])
    ∷ []
