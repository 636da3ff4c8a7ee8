-- Two roads in one pair of tables: what comes of one road's calls is what comes of its own calls alone, whatever the other road's calls are.
use Rattle.std.specs.Prelude.{Ok, Err}
use Rattle.std.proofs.Common.{◌≡◌, ℕ, zero, suc, Bool, true, false, cond, leb, List, [], ◌∷◌, ◌++◌, length, drop, replicate, sym, refl, ap, ◌∙◌, subst, ap₂, subst₂}
use Rattle.finite.proofs.Booleans.{clash}
use Rattle.sheet.specs.Instance.{Instance, instance}
use Rattle.sheet.specs.Reading as reader
use Rattle.sheet.specs.Refusals.{Rule, first_applying}
use Rattle.embedding.specs.First.{first_plan, places}
use Rattle.lending.specs.Spans.{runs_past, within, Apart}
use Rattle.lending.specs.declared.Span.{Span}
use Rattle.lending.proofs.Spans.{apart_flip}
use Rattle.lending.proofs.Rules.{lender_past}
use Rattle.planner.specs.Answers.{entries, planned}
use Rattle.planner.specs.Lent.{part_after, front_after, OutputAfter}
use Rattle.planner.specs.Kept.{kept_costs, kept_choices}
use Rattle.planner.specs.Answers.{Planned}
use Rattle.planner.proofs.Solved.{planned_past}
use Rattle.edit.specs.Calls.{Call, called, asked, Leaves, Keeps}
use Rattle.edit.specs.Changed.{Changed}
use Rattle.edit.specs.Edits.{rules_before, number_before, Edits}
use Rattle.edit.specs.Lists as lists
use Rattle.edit.specs.Lists.{Kind, planning, keeping, editing, Does, Turn, OnSpan, Last, nothing, next, Allowed, InTheRule, AllFresh}
use Rattle.edit.specs.Roads as roads
use Rattle.edit.specs.Roads.{Road, one, other, same_road, Shared, own, OnTables, Order, orders, AgreeOn, Alike, Same, AllPairs}
use Rattle.edit.proofs.Possible.{some_outcome}
use Rattle.edit.proofs.Lists.{leaves_within, zeros_long, kept_costs_long, kept_choices_long, refusing, does_lengths, does_apart}
use Rattle.edit.proofs.Lists.{Holds, edit_keeps, holds_now, holds_then, all_fresh}

-- ---- two calls made alike

-- two calls on the span s find the same there
record Meet (s : Span) (c d : Call) : Type 0 where
  pub first : c.span ≡ s
  pub second : d.span ≡ s
  pub costs : AgreeOn s c.costs d.costs
  pub choices : AgreeOn s c.choices d.choices

-- of the lengths of both tables an edit's refusal beforehand counts only whether the span runs past them
before_past : (bytes : List ℕ) (e output : ℕ) (span : Span) (costs choices costs₂ choices₂ : ℕ)
    → runs_past span costs ≡ runs_past span costs₂ → runs_past span choices ≡ runs_past span choices₂
    → first_applying (rules_before bytes e output costs choices span) ≡ first_applying (rules_before bytes e output costs₂ choices₂ span)
before_past bytes e output span costs choices costs₂ choices₂ c u =
    ap (λ (rules : List Rule). first_applying (reader.rules bytes ++ (rules ++ (record { number = 14; applies = leb (instance bytes).s e } ∷ []))))
    (lender_past (instance bytes).r (entries (instance bytes)) output span costs choices costs₂ choices₂ c u)

-- the output after a call with this answer
abbrev output_of : Instance → Planned → List ℕ → List ℕ
output_of I (Ok p) output = places I.r (first_plan I) ++ drop I.r output
output_of I (Err u) output = output

-- there is no other
output_is : (I : Instance) (a : Planned) (output output' : List ℕ) → OutputAfter I a output output' → output' ≡ output_of I a output
output_is I (Ok p) output output' e = e
output_is I (Err u) output output' e = e

-- the span's entries after a call that leaves these rows in front of the span
module _ (s : Span) (d : Call) (on : d.span ≡ s) (f g : Instance → List ℕ) (L : Leaves d (f (asked d)) (g (asked d)))
    (lf : (I : Instance) → length (f I) ≡ entries I) (lg : (I : Instance) → length (g I) ≡ entries I) where
  abbrev part_then : (Instance → List ℕ) → List ℕ → List ℕ
  part_then h part = part_after (asked d) d.answer (h (asked d)) part

  costs_then : within s d.costs' ≡ part_then f (within s d.costs)
  costs_then = subst (λ (s : Span). within s d.costs' ≡ part_then f (within s d.costs)) on (leaves_within d _ _ L (lf (asked d)) (lg (asked d))).0

  choices_then : within s d.choices' ≡ part_then g (within s d.choices)
  choices_then = subst (λ (s : Span). within s d.choices' ≡ part_then g (within s d.choices)) on (leaves_within d _ _ L (lf (asked d)) (lg (asked d))).1

module _ (s : Span) (x y : Turn) (A : Alike x y) (M : Meet s x.call y.call) where
  abbrev c : Call
  c = x.call

  abbrev d : Call
  d = y.call

  -- their sheets are of one instance
  instances : asked c ≡ asked d
  instances = ap instance A.sheet

  -- the planner answers them alike
  planned_same : planned c.sheet (length c.output) (length c.costs) (length c.choices) c.span
      ≡ planned d.sheet (length d.output) (length d.costs) (length d.choices) d.span
  planned_same =
      ap (planned c.sheet (length c.output) (length c.costs) (length c.choices)) M.first
      ∙ planned_past c.sheet (length c.output) s (length c.costs) (length c.choices) (length d.costs) (length d.choices) M.costs.past M.choices.past
      ∙ ap₂ (λ (bytes output : List ℕ). planned bytes (length output) (length d.costs) (length d.choices) s) A.sheet A.output
      ∙ ap (planned d.sheet (length d.output) (length d.costs) (length d.choices)) (sym M.second)

  -- as edits they are refused alike beforehand
  before_same : number_before c ≡ number_before d
  before_same =
      ap (λ (span : Span). first_applying (rules_before c.sheet c.cabinet (length c.output) (length c.costs) (length c.choices) span)) M.first
      ∙ before_past c.sheet c.cabinet (length c.output) s (length c.costs) (length c.choices) (length d.costs) (length d.choices) M.costs.past M.choices.past
      ∙ ap₂ (λ (bytes : List ℕ) (e : ℕ). first_applying (rules_before bytes e (length c.output) (length d.costs) (length d.choices) s)) A.sheet A.cabinet
      ∙ ap₂ (λ (output : List ℕ) (span : Span). first_applying (rules_before d.sheet d.cabinet (length output) (length d.costs) (length d.choices) span))
      A.output (sym M.second)

  -- where they leave the same rows in front of the span they come to the same
  leaves_same : (f g : Instance → List ℕ) → ((I : Instance) → length (f I) ≡ entries I) → ((I : Instance) → length (g I) ≡ entries I)
      → Leaves c (f (asked c)) (g (asked c)) → Leaves d (f (asked d)) (g (asked d)) → Same s x y
  leaves_same f g lf lg L N = record {
    answer = answers;
    output = output_is (asked c) c.answer c.output c.output' L.output
        ∙ ap₂ (λ (I : Instance) (a : Planned). output_of I a c.output) instances answers
        ∙ ap (output_of (asked d) d.answer) A.output
        ∙ sym (output_is (asked d) d.answer d.output d.output' N.output);
    costs = costs_then s c M.first f g L lf lg ∙ part_same f _ _ M.costs.entries ∙ sym (costs_then s d M.second f g N lf lg);
    choices = choices_then s c M.first f g L lf lg ∙ part_same g _ _ M.choices.entries ∙ sym (choices_then s d M.second f g N lf lg);
  }
    where
      answers : c.answer ≡ d.answer
      answers = L.answer ∙ planned_same ∙ sym N.answer

      part_same : (h : Instance → List ℕ) (p q : List ℕ) → p ≡ q → part_after (asked c) c.answer (h (asked c)) p ≡ part_after (asked d) d.answer (h (asked d)) q
      part_same h p q e = ap₂ (λ (I : Instance) (a : Planned). part_after I a (h I) p) instances answers ∙ ap (part_after (asked d) d.answer (h (asked d))) e

  -- so it is where both do as keeping calls
  keeps_same : Keeps c → Keeps d → Same s x y
  keeps_same K N = leaves_same kept_costs kept_choices kept_costs_long kept_choices_long K N

  -- edits that are refused beforehand leave all as it was
  refused_same : Edits c → Edits d → (n : ℕ) → number_before c ≡ suc n → Same s x y
  refused_same E F n q =
      let P = refusing c E n q in
      let Q = refusing d F n (sym before_same ∙ q) in
      record {
        answer = P.answer ∙ sym Q.answer;
        output = P.untouched.output ∙ A.output ∙ sym Q.untouched.output;
        costs = ap (within s) P.untouched.costs ∙ M.costs.entries ∙ sym (ap (within s) Q.untouched.costs);
        choices = ap (within s) P.untouched.choices ∙ M.choices.entries ∙ sym (ap (within s) Q.untouched.choices);
      }

  module _ (l : Last) (H : Holds l (within s c.costs) (within s c.choices)) where
    -- what stands in the span of the first stands in that of the second
    held : Holds l (within s d.costs) (within s d.choices)
    held = subst₂ (Holds l) M.costs.entries M.choices.entries H

    -- where the first is in the rule, so is the second
    allowed : Allowed l editing c → Allowed l editing d
    allowed R z =
        let w = R (before_same ∙ z) in
        (w.0, w.1, subst₂ (λ (e : ℕ) (J : Instance). Changed e w.0 J) A.cabinet instances w.2)

    -- Calls of one kind, the first of them in the rule, come to the same.
    meet_same : (k : Kind) → Does k c → Does k d → Allowed l k c → Same s x y
    meet_same planning D E R = leaves_same (λ I. replicate (entries I) 0) (λ I. replicate (entries I) 0) zeros_long zeros_long D E
    meet_same keeping D E R = keeps_same D E
    meet_same editing D E R = go (number_before c) refl
      where
        go : (n : ℕ) → number_before c ≡ n → Same s x y
        go zero q =
            keeps_same (edit_keeps l c (holds_now s l c M.first H) D R q)
            (edit_keeps l d (holds_now s l d M.second held) E (allowed R) (sym before_same ∙ q))
        go (suc n) q = refused_same D E n q

-- ---- one road's own calls

-- calls on a span as in OnSpan, where moreover the span always runs past the cost table or never does, and so of the choice table
unfoldable OwnRun : Span → Bool → Bool → List ℕ → List ℕ → List Turn → Type 0
OwnRun s pc pu p q [] = Unit {0}
OwnRun s pc pu p q (c ∷ cs) =
    (c.call.span ≡ s)
    × ((runs_past s (length c.call.costs) ≡ pc) × (runs_past s (length c.call.choices) ≡ pu))
    × ((within s c.call.costs ≡ p) × (within s c.call.choices ≡ q))
    × Does c.kind c.call
    × OwnRun s pc pu (within s c.call.costs') (within s c.call.choices') cs

-- they are calls as in OnSpan
run_on_span : (cs : List Turn) (s : Span) (pc pu : Bool) (p q : List ℕ) → OwnRun s pc pu p q cs → OnSpan s p q cs
unfolding OwnRun lists.OnSpan
run_on_span [] s pc pu p q R = tt
run_on_span (c ∷ cs) s pc pu p q R =
    (R.0, R.2, R.3, run_on_span cs s pc pu (within s c.call.costs') (within s c.call.choices') R.4)

-- which road a call is of
same_road_is : (r q : Road) → same_road r q ≡ true → q ≡ r
same_road_is one one e = refl
same_road_is one other e = clash (sym e)
same_road_is other one e = clash (sym e)
same_road_is other other e = refl

module _ (spans : Road → Span) (apart : Apart (spans one) (spans other)) where
  -- two roads that are not the same have spans apart
  roads_apart : (r q : Road) → same_road r q ≡ false → Apart (spans r) (spans q)
  roads_apart one one e = clash e
  roads_apart one other e = apart
  roads_apart other one e = apart_flip (spans one) (spans other) apart
  roads_apart other other e = clash e

  module _ (r : Road) where
    -- calls of the road from the tables t and u on, as far as it sees them
    abbrev Run : List ℕ → List ℕ → List Turn → Type 0
    Run t u cs = OwnRun (spans r) (runs_past (spans r) (length t)) (runs_past (spans r) (length u)) (within (spans r) t) (within (spans r) u) cs

    -- the calls of the other road between its own leave it what it sees
    own_run : (xs : List Shared) (t u : List ℕ) → OnTables spans t u xs → Run t u (own r xs)
    unfolding OwnRun roads.OnTables roads.own
    own_run [] t u O = tt
    own_run (x ∷ xs) t u O = go (same_road r x.road) refl (own_run xs x.turn.call.costs' x.turn.call.choices' O.3)
      where
        d : Call
        d = x.turn.call

        lengths : (length d.costs' ≡ length t) × (length d.choices' ≡ length u)
        lengths = let h = does_lengths x.turn.kind d O.2 in (h.0 ∙ ap length O.1.0, h.1 ∙ ap length O.1.1)

        -- the rest of its calls, from tables of these lengths on
        Rest : ℕ → ℕ → Type 0
        Rest m n = OwnRun (spans r) (runs_past (spans r) m) (runs_past (spans r) n) (within (spans r) d.costs') (within (spans r) d.choices') (own r xs)

        rest : Run d.costs' d.choices' (own r xs) → Rest (length t) (length u)
        rest R = subst₂ Rest lengths.0 lengths.1 R

        go : (b : Bool) → same_road r x.road ≡ b → Run d.costs' d.choices' (own r xs) → Run t u (cond b (x.turn ∷ own r xs) (own r xs))
        go true e R = (
          O.0 ∙ ap spans (same_road_is r x.road e),
          (ap (λ (l : List ℕ). runs_past (spans r) (length l)) O.1.0, ap (λ (l : List ℕ). runs_past (spans r) (length l)) O.1.1),
          (ap (within (spans r)) O.1.0, ap (within (spans r)) O.1.1),
          O.2,
          rest R,
        )
        go false e R =
            let stay = does_apart x.turn.kind d O.2 (spans r) (subst (Apart (spans r)) (sym O.0) (roads_apart r x.road e)) in
            subst₂ (λ (p q : List ℕ). OwnRun (spans r) (runs_past (spans r) (length t)) (runs_past (spans r) (length u)) p q (own r xs))
            (stay.0 ∙ ap (within (spans r)) O.1.0) (stay.1 ∙ ap (within (spans r)) O.1.1) (rest R)

-- ---- two such lists

-- Two runs from the same entries, of calls made alike, the first in the rule, come to the same.
runs_same : (cs ds : List Turn) (s : Span) (pc pu : Bool) (p q : List ℕ) (l : Last) → Holds l p q → OwnRun s pc pu p q cs → OwnRun s pc pu p q ds
    → AllPairs Alike cs ds → InTheRule l cs → AllPairs (Same s) cs ds
unfolding OwnRun roads.AllPairs lists.InTheRule
runs_same [] [] s pc pu p q l H O N A R = tt
runs_same [] (d ∷ ds) s pc pu p q l H O N A R = absurd A
runs_same (c ∷ cs) [] s pc pu p q l H O N A R = absurd A
runs_same (c ∷ cs) (d ∷ ds) s pc pu p q l H O N A R = (
  same,
  runs_same cs ds s pc pu (within s c.call.costs') (within s c.call.choices') (next l c.kind c.call)
      (holds_then s l c.call O.0 now c.kind O.3 R.0) O.4
      (subst₂ (λ (p q : List ℕ). OwnRun s pc pu p q ds) (sym same.costs) (sym same.choices) N.4) A.1 R.1,
)
  where
    M : Meet s c.call d.call
    M = record {
      first = O.0;
      second = N.0;
      costs = record { past = O.1.0 ∙ sym N.1.0; entries = O.2.0 ∙ sym N.2.0 };
      choices = record { past = O.1.1 ∙ sym N.1.1; entries = O.2.1 ∙ sym N.2.1 };
    }

    now : Holds l (within s c.call.costs) (within s c.call.choices)
    now = subst₂ (Holds l) (sym O.2.0) (sym O.2.1) H

    same : Same s c d
    same = meet_same s c d A.0 M l now c.kind O.3 (subst (λ (k : Kind). Does k d.call) (sym A.0.kind) N.3) R.0

-- ---- the theorems of the request

module _ (spans : Road → Span) (apart : Apart (spans one) (spans other)) (r : Road) where
  -- a road's own calls see only what agrees
  run_agrees : (t u t₂ u₂ : List ℕ) (cs : List Turn) → AgreeOn (spans r) t t₂ → AgreeOn (spans r) u u₂ → Run spans apart r t₂ u₂ cs → Run spans apart r t u cs
  run_agrees t u t₂ u₂ cs a b R =
      subst₂ (λ (pc pu : Bool). OwnRun (spans r) pc pu (within (spans r) t) (within (spans r) u) cs) (sym a.past) (sym b.past)
      (subst₂ (λ (p q : List ℕ). OwnRun (spans r) (runs_past (spans r) (length t₂)) (runs_past (spans r) (length u₂)) p q cs) (sym a.entries) (sym b.entries) R)

  -- One road's answers, outputs and entries are those of its own calls alone, whatever the other road's calls are.
  pub same_alone : (t u t₂ u₂ : List ℕ) (xs ys : List Shared) → OnTables spans t u xs → OnTables spans t₂ u₂ ys → AgreeOn (spans r) t t₂ → AgreeOn (spans r) u u₂
      → AllPairs Alike (own r xs) (own r ys) → InTheRule nothing (own r xs) → AllPairs (Same (spans r)) (own r xs) (own r ys)
  same_alone t u t₂ u₂ xs ys O N a b A R =
      runs_same (own r xs) (own r ys) (spans r) _ _ _ _ nothing tt (own_run spans apart r xs t u O)
      (run_agrees t u t₂ u₂ (own r ys) a b (own_run spans apart r ys t₂ u₂ N)) A R

  -- Every edit of one road in the rule is refused beforehand, or does what a keeping call does.
  pub roads_fresh : (t u : List ℕ) (xs : List Shared) → OnTables spans t u xs → InTheRule nothing (own r xs) → AllFresh (own r xs)
  roads_fresh t u xs O R =
      all_fresh (own r xs) (spans r) nothing (within (spans r) t) (within (spans r) u) tt (run_on_span (own r xs) (spans r) _ _ _ _ (own_run spans apart r xs t u O)) R

-- ---- such lists can be made

-- for every call some answer and some memory after it stand in its contract
module _ (sheet : List ℕ) (e : ℕ) (o t u : List ℕ) (s : Span) where
  abbrev Outcome : Kind → Type 0
  Outcome k = (a : Planned) × (o' : List ℕ) × (t' : List ℕ) × (u' : List ℕ) × Does k (called sheet e o t u s a o' t' u')

  output_then : (a : Planned) → OutputAfter (instance sheet) a o (output_of (instance sheet) a o)
  output_then (Ok p) = refl
  output_then (Err u) = refl

  -- one that leaves these rows in front of the span
  leaving : (f g : List ℕ) → (a : Planned) × (o' : List ℕ) × (t' : List ℕ) × (u' : List ℕ) × Leaves (called sheet e o t u s a o' t' u') f g
  leaving f g =
      let I = instance sheet in
      let a = planned sheet (length o) (length t) (length u) s in
      (a, output_of I a o, front_after I a s f t, front_after I a s g u, record { answer = refl; output = output_then a; costs_after = refl; choices_after = refl })

  does_possible : (k : Kind) → Outcome k
  does_possible planning = leaving (replicate (entries (instance sheet)) 0) (replicate (entries (instance sheet)) 0)
  does_possible keeping = leaving (kept_costs (instance sheet)) (kept_choices (instance sheet))
  does_possible editing = some_outcome sheet e o t u s

-- so whatever is asked for, some list of calls does it
pub lists_possible : (spans : Road → Span) (os : List Order) (t u : List ℕ) → (xs : List Shared) × OnTables spans t u xs × (orders xs ≡ os)
unfolding roads.OnTables roads.orders
lists_possible spans [] t u = ([], tt, refl)
lists_possible spans (o ∷ os) t u =
    let d = does_possible o.sheet o.cabinet o.output t u (spans o.road) o.kind in
    let made = called o.sheet o.cabinet o.output t u (spans o.road) d.0 d.1 d.2 d.3 in
    let rest = lists_possible spans os d.2 d.3 in (
      record { road = o.road; turn = record { kind = o.kind; call = made } } ∷ rest.0,
      (refl, (refl, refl), d.4, rest.1),
      ap (λ (ys : List Order). o ∷ ys) rest.2,
    )
