-- 02 (h): lists of calls on the spans of two roads in one pair of tables.
use Rattle.std.specs.Prelude.{◌≡◌, ℕ, Bool, true, false, cond, List, [], ◌∷◌, length}
use Rattle.lending.specs.Spans.{runs_past, within}
use Rattle.lending.specs.declared.Span.{Span}
use Rattle.edit.specs.Lists.{Kind, Does, Turn}

-- the two roads
pub data Road : Type 0 where
  one : Road
  other : Road

-- they are the same road
abbrev pub same_road : Road → Road → Bool
same_road one one = true
same_road one other = false
same_road other one = false
same_road other other = true

-- a call of a list: whose it is, and the call
pub record Shared : Type 0 where
  pub road : Road
  pub turn : Turn

-- one road's own calls, in their order
unfoldable pub own : Road → List Shared → List Turn
own r [] = []
own r (x ∷ xs) = cond (same_road r x.road) (x.turn ∷ own r xs) (own r xs)

-- calls on the tables t and u, each on its road's span, with nothing else writing the tables: each does what its contract says, and finds the tables as
-- the one before left them
unfoldable pub OnTables : (Road → Span) → List ℕ → List ℕ → List Shared → Type 0
OnTables spans t u [] = Unit {0}
OnTables spans t u (x ∷ xs) =
    (x.turn.call.span ≡ spans x.road)
    × ((x.turn.call.costs ≡ t) × (x.turn.call.choices ≡ u))
    × Does x.turn.kind x.turn.call
    × OnTables spans x.turn.call.costs' x.turn.call.choices' xs

-- a call as it is asked for: whose it is and which, its sheet, the cabinet of an edit, and what the output holds
pub record Order : Type 0 where
  pub road : Road
  pub kind : Kind
  pub sheet : List ℕ
  pub cabinet : ℕ
  pub output : List ℕ

-- what the calls of a list were asked for
unfoldable pub orders : List Shared → List Order
orders [] = []
orders (x ∷ xs) =
    record { road = x.road; kind = x.turn.kind; sheet = x.turn.call.sheet; cabinet = x.turn.call.cabinet; output = x.turn.call.output } ∷ orders xs

-- two tables agree on a span: it runs past both or past neither, and they have the same entries in it
pub record AgreeOn (s : Span) (t t₂ : List ℕ) : Type 0 where
  pub past : runs_past s (length t) ≡ runs_past s (length t₂)
  pub entries : within s t ≡ within s t₂

-- two calls are made alike: of the same kind, with the same sheet and cabinet, and an output that holds the same
pub record Alike (c d : Turn) : Type 0 where
  pub kind : c.kind ≡ d.kind
  pub sheet : c.call.sheet ≡ d.call.sheet
  pub cabinet : c.call.cabinet ≡ d.call.cabinet
  pub output : c.call.output ≡ d.call.output

-- two calls come to the same: answer, output, and the span's entries in both tables
pub record Same (s : Span) (c d : Turn) : Type 0 where
  pub answer : c.call.answer ≡ d.call.answer
  pub output : c.call.output' ≡ d.call.output'
  pub costs : within s c.call.costs' ≡ within s d.call.costs'
  pub choices : within s c.call.choices' ≡ within s d.call.choices'

-- two lists are as long as each other, and this holds of each call and its fellow
unfoldable pub AllPairs : (Turn → Turn → Type 0) → List Turn → List Turn → Type 0
AllPairs R [] [] = Unit {0}
AllPairs R [] (d ∷ ds) = ⊥
AllPairs R (c ∷ cs) [] = ⊥
AllPairs R (c ∷ cs) (d ∷ ds) = R c d × AllPairs R cs ds
