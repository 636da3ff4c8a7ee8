-- Lists of planning, keeping and editing calls on one span of a pair of tables.
use Rattle.std.specs.Prelude.{◌≡◌, ℕ, true, false, cond, List, [], ◌∷◌, ◌≢◌}
use Rattle.sheet.specs.Instance.{Instance}
use Rattle.lending.specs.Spans.{within}
use Rattle.lending.specs.declared.Span.{Span}
use Rattle.planner.specs.Answers.{number}
use Rattle.planner.specs.Lent.{used}
use Rattle.edit.specs.Calls.{Call, asked, Untouched, Plans, Keeps}
use Rattle.edit.specs.Changed.{Changed}
use Rattle.edit.specs.Edits.{number_before, Edits}

-- which call it is
pub data Kind : Type 0 where
  planning : Kind
  keeping : Kind
  editing : Kind

-- what a call of the kind answers and leaves, by its contract
abbrev pub Does : Kind → Call → Type 0
Does planning d = Plans d
Does keeping d = Keeps d
Does editing d = Edits d

-- a call of a list
pub record Turn : Type 0 where
  pub kind : Kind
  pub call : Call

-- calls on a span, with nothing else writing its entries in either table: each does what its contract says, and finds the span's entries as the one
-- before left them; the first finds t and u there
unfoldable pub OnSpan : Span → List ℕ → List ℕ → List Turn → Type 0
OnSpan s t u [] = Unit {0}
OnSpan s t u (c ∷ cs) =
    (c.call.span ≡ s)
    × ((within s c.call.costs ≡ t) × (within s c.call.choices ≡ u))
    × Does c.kind c.call
    × OnSpan s (within s c.call.costs') (within s c.call.choices') cs

-- whose tables stand in a span: those of the sheet last taken, if any
pub data Last : Type 0 where
  nothing : Last
  taken : Instance → Last

-- the same once a call is through: with a plan or 12 a keeping call and an edit are taken, and a planning call clears what it used
abbrev pub next : Last → Kind → Call → Last
next l planning d = cond (used d.answer) nothing l
next l keeping d = cond (used d.answer) (taken (asked d)) l
next l editing d = cond (used d.answer) (taken (asked d)) l

-- an edit that nothing refuses beforehand has a sheet that differs from the last one taken in that cabinet's record only, its parent excepted
abbrev pub Allowed : Last → Kind → Call → Type 0
Allowed l planning d = Unit {0}
Allowed l keeping d = Unit {0}
Allowed l editing d = number_before d ≡ 0 → (I : Instance) × (l ≡ taken I) × Changed d.cabinet I (asked d)

-- every edit of a list is such
unfoldable pub InTheRule : Last → List Turn → Type 0
InTheRule l [] = Unit {0}
InTheRule l (c ∷ cs) = Allowed l c.kind c.call × InTheRule (next l c.kind c.call) cs

-- what comes of an edit of such a list: it is refused beforehand, is not taken and leaves all memory; or it is taken, answers and leaves what a
-- keeping call on its sheet does, and never gives 23
pub record AsFresh (d : Call) : Type 0 where
  pub refused : (number_before d ≢ 0) → Untouched d × (used d.answer ≡ false)
  pub fresh : number_before d ≡ 0 → Keeps d × (used d.answer ≡ true)
  pub never_23 : number d.answer ≡ 23 → ⊥

-- so it is with every edit of a list
unfoldable pub AllFresh : List Turn → Type 0
AllFresh [] = Unit {0}
AllFresh (c ∷ cs) = (c.kind ≡ editing → AsFresh c.call) × AllFresh cs
