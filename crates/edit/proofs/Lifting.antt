-- An edit as a whole: what is refused beforehand, and what was done in the parts of the memory lent.
use Rattle.std.specs.Prelude.{Ok, Err}
use Rattle.std.proofs.Common.{◌≡◌, ℕ, zero, suc, ◌+◌, ◌-◌, ◌*◌, ◌^◌, ◌<◌, ◌≤◌, leb, ◌⊎◌, List, [], ◌∷◌, ◌++◌, length, take, drop, sym, refl, ap, ◌∙◌, subst, ap₂, inl, inr, arith, take-append-drop, get_or-drop, get_or-take, take-take, take_at, le-leb}
use borrow.Rule.Slice.PartMut.{put_mid, same_len_mid}
use borrow.Author.Tests.{lt-leb}
use Rattle.finite.proofs.Middles.{mid_before, mid_inside, mid_after}
use Rattle.sheet.specs.Instance.{Instance, instance}
use Rattle.sheet.specs.Layout.{header}
use Rattle.sheet.specs.Reading as reader
use Rattle.sheet.specs.Reading.{reading, answered}
use Rattle.sheet.specs.Refusals.{Rule, first_applying, refusal}
use Rattle.sheet.specs.declared.Sheet.{Sheet}
use Rattle.sheet.specs.declared.Refusal.{Refusal}
use Rattle.sheet.proofs.Order.{first_none, first_some, reading_first}
use Rattle.embedding.specs.Plan.{cheapest}
use Rattle.checker.specs.Check.{checked}
use Rattle.embedding.specs.Splits.{weighed}
use Rattle.lending.specs.Spans.{within}
use Rattle.lending.specs.Rules.{lender_rules, room}
use Rattle.lending.proofs.Rules.{room_refused}
use Rattle.records.specs.Told.{told}
use Rattle.lending.specs.declared.Span.{Span}
use Rattle.planner.specs.Answers.{Planned, unplanned, entries}
use Rattle.planner.specs.Kept.{kept_costs, kept_choices, Kept}
use Rattle.planner.specs.Inner.Prepared.{measured, Stands}
use Rattle.planner.specs.declared.Prepared.{Prepared}
use Rattle.planner.proofs.Lending.{refused_by, rows_lent, table_lifted, output_lifted}
use Rattle.planner.proofs.Preparing.{cabinets_is, room_is, rows_is, places_lent, costs_lent, choices_lent}
use Rattle.planner.proofs.Solved.{accepted_solved}
use Rattle.planner.specs.Inner.Tables.{entry}
use Rattle.edit.specs.Changed.{Changed}
use Rattle.edit.specs.Calls.{called}
use Rattle.edit.specs.Edits.{rules_before, Outcome, stays, Edits}
use Rattle.edit.specs.Inner.Parts.{Comes, Reworks}
use Rattle.edit.proofs.Before.{passed}
use Rattle.edit.proofs.Tables.{entry_in}

-- the number that is given beforehand
abbrev pub number_at : List ℕ → ℕ → ℕ → ℕ → ℕ → Span → ℕ
number_at bytes e output costs choices span = first_applying (rules_before bytes e output costs choices span)

-- ---- refused beforehand

pub refused_with : (bytes : List ℕ) (e : ℕ) (o t u : List ℕ) (span : Span) (n : ℕ) → number_at bytes e (length o) (length t) (length u) span ≡ suc n
    → Edits (called bytes e o t u span (unplanned (refusal (suc n)) 0) o t u)
refused_with bytes e o t u span n q = record {
  refused = λ m z w. (ap (λ (j : ℕ). unplanned (refusal j) 0) (sym q ∙ w), record { output = refl; costs = refl; choices = refl });
  outcome = λ z. absurd (omega arith);
  rows = λ z. absurd (omega arith);
  in_rule = λ z. absurd (omega arith);
}

-- by the reader
reader_refused : (bytes : List ℕ) (e : ℕ) (o t u : List ℕ) (span : Span) (f : Refusal) → reading bytes ≡ Err f → Edits (called bytes e o t u span (unplanned f 0) o t u)
unfolding reading answered
reader_refused bytes e o t u span f r = go (first_applying (reader.rules bytes)) refl r
  where
    go : (n : ℕ) → first_applying (reader.rules bytes) ≡ n → answered n (header bytes) ≡ Err f → Edits (called bytes e o t u span (unplanned f 0) o t u)
    go zero q w = absurd (let z : ◌≡◌ {A = ℕ} 0 1 = cc in omega arith)
    go (suc n) q w =
        subst (λ (g : Refusal). Edits (called bytes e o t u span (unplanned g 0) o t u)) (let z : refusal (suc n) ≡ f = cc in z)
        (refused_with bytes e o t u span n (first_some (reader.rules bytes) _ n q))

module _ (bytes : List ℕ) (h : Sheet) (reads : reading bytes ≡ Ok h) (e output costs choices : ℕ) (span : Span) where
  abbrev I : Instance
  I = instance bytes

  -- the lender's refusals, and the one that is the edit's own
  abbrev lenders : List Rule
  lenders = lender_rules I.r (entries I) output costs choices span

  abbrev own : List Rule
  own = record { number = 14; applies = leb I.s e } ∷ []

  -- an accepted sheet leaves the refusals of the lender and of the number
  others : number_at bytes e output costs choices span ≡ first_applying (lenders ++ own)
  unfolding reader.rules
  others = first_none (reader.rules bytes) _ refl (sym (reading_first bytes) ∙ ap reader.number reads)

  -- by the lender
  lender_refused : (n : ℕ) → first_applying lenders ≡ suc n → number_at bytes e output costs choices span ≡ suc n
  lender_refused n q = others ∙ first_some lenders own n q

  module _ (enough : first_applying lenders ≡ 0) where
    pub no_cabinet : I.s ≤ e → number_at bytes e output costs choices span ≡ 14
    unfolding first_applying
    no_cabinet i = others ∙ first_none lenders own refl enough ∙ simp (le-leb I.s e i)

    none_applies : e < I.s → number_at bytes e output costs choices span ≡ 0
    unfolding first_applying
    none_applies i = others ∙ first_none lenders own refl enough ∙ simp (lt-leb I.s e i)

-- by either
pub before_refused : (bytes : List ℕ) (e : ℕ) (o t u : List ℕ) (span : Span) (f : Refusal) → measured (reading bytes) (instance bytes) (length o) (length t) (length u) span ≡ Err f
    → Edits (called bytes e o t u span (unplanned f 0) o t u)
before_refused bytes e o t u span f m = go (refused_by bytes (length o) (length t) (length u) span f m)
  where
    go : (reading bytes ≡ Err f)
        ⊎ ((h : Sheet) × (reading bytes ≡ Ok h)
        × (Err f ≡ room (first_applying (lender_rules (instance bytes).r (entries (instance bytes)) (length o) (length t) (length u) span))))
        → Edits (called bytes e o t u span (unplanned f 0) o t u)
    go (inl r) = reader_refused bytes e o t u span f r
    go (inr (h, reads, w)) =
        let z = room_refused (first_applying (lender_rules (instance bytes).r (entries (instance bytes)) (length o) (length t) (length u) span)) f w in
        subst (λ (g : Refusal). Edits (called bytes e o t u span (unplanned g 0) o t u)) (sym z.2)
        (refused_with bytes e o t u span z.0 (lender_refused bytes h reads e (length o) (length t) (length u) span z.0 z.1))

-- ---- done in parts

module _ (bytes : List ℕ) (e : ℕ) (o t u : List ℕ) (span : Span) (a : Planned) (o' t' u' : List ℕ) where
  abbrev J : Instance
  J = instance bytes

  -- the rows of a table, which are lent on, and the table once they are back
  abbrev rows_in : List ℕ → List ℕ
  rows_in list = take (entries J) (drop span.first list)

  abbrev with_rows_back : List ℕ → List ℕ → List ℕ
  with_rows_back list rows = put_mid span.first (entries J) list rows

  module _ (lo : J.r ≤ length o) (lt : span.first + span.number ≤ length t) (lu : span.first + span.number ≤ length u) (long : entries J ≤ span.number)
      (so : length o' ≡ J.r) (st : length t' ≡ entries J) (su : length u' ≡ entries J)
      (R : Reworks bytes J e (take J.r o) o' (rows_in t) t' (rows_in u) u' a) where
    -- what comes of any tables
    came : (b : Planned) → Comes bytes b (take J.r o) o' → Outcome (called bytes e o t u span b (o' ++ drop J.r o) (with_rows_back t t') (with_rows_back u u')) b
    came (Ok p) c = (ap (checked bytes) front ∙ c, ap (λ (l : List ℕ). l ++ drop J.r o) (sym front))
      where
        front : take J.r (o' ++ drop J.r o) ≡ o'
        front = take_at o' (drop J.r o) J.r so
    came (Err w) c = (c.0, ap (λ (l : List ℕ). l ++ drop J.r o) c.1 ∙ take-append-drop J.r o)

    module _ (list rows : List ℕ) (fits : span.first + span.number ≤ length list) (same : length rows ≡ entries J) where
      -- the length stays
      back_length : length (with_rows_back list rows) ≡ length list
      back_length = same_len_mid span.first (entries J) list rows (same ∙ sym (rows_lent span list (entries J) (entries J) refl fits long))

      -- an entry that stays among the rows stays
      row_stays : (c x : ℕ) → c < J.s → x < 2 ^ J.r → entry (2 ^ J.r) rows c x ≡ entry (2 ^ J.r) (rows_in list) c x
          → stays list (with_rows_back list rows) (span.first + (c * 2 ^ J.r + x))
      row_stays c x h k e =
          mid_inside span.first (entries J) list rows (omega arith) same (c * 2 ^ J.r + x) (entry_in J c x h k) ∙ e
          ∙ get_or-take (entries J) (drop span.first list) (c * 2 ^ J.r + x) 0 (entry_in J c x h k) ∙ get_or-drop span.first list (c * 2 ^ J.r + x) 0

      -- all that is before the rows or behind them stays
      other_stays : (i : ℕ) → (i < span.first) ⊎ (span.first + entries J ≤ i) → stays list (with_rows_back list rows) i
      other_stays i (inl h) = mid_before span.first (entries J) list rows (omega arith) same i h
      other_stays i (inr h) = mid_after span.first (entries J) list rows (omega arith) same i h

    -- tables kept in the span are kept in the rows
    kept_rows : (K : Instance) → Changed e K J → Kept K (within span t) (within span u) → Kept K (rows_in t) (rows_in u)
    kept_rows K E F =
        let same : entries K ≡ entries J = ap₂ (λ (s r : ℕ). s * 2 ^ r) E.cabinets E.services in record {
          of_costs = in_rows t same ∙ F.of_costs;
          of_choices = in_rows u same ∙ F.of_choices;
        }
      where
        in_rows : (list : List ℕ) → entries K ≡ entries J → take (entries K) (rows_in list) ≡ take (entries K) (within span list)
        in_rows list q =
            take-take (entries K) (entries J) (drop span.first list) (omega arith)
            ∙ sym (take-take (entries K) span.number (drop span.first list) (omega arith))

    pub lifted : number_at bytes e (length o) (length t) (length u) span ≡ 0
        → Edits (called bytes e o t u span a (o' ++ drop J.r o) (with_rows_back t t') (with_rows_back u u'))
    lifted none = record {
      refused = λ n z w. absurd (z (sym w ∙ none));
      outcome = λ z. came a R.outcome;
      rows = λ z. record {
        costs_length = back_length t t' lt st;
        choices_length = back_length u u' lu su;
        costs = λ c x h off k. row_stays t t' lt st c x h k (R.costs c x h off k);
        choices = λ c x h off k. row_stays u u' lu su c x h k (R.choices c x h off k);
        others = λ i h. (other_stays t t' lt st i h, other_stays u u' lu su i h);
      };
      in_rule = λ z K F E.
          let P = passed bytes e (length o) (length t) (length u) span none in
          let S = R.in_rule K (kept_rows K E F) E in record {
            answer = S.0 ∙ sym (accepted_solved bytes (length o) (length t) (length u) span record { sheet = P.sheet; reads = P.reads; enough = P.enough });
            output = output_lifted J a o o' S.1;
            costs_after = table_lifted J a (cheapest J) (weighed J) span (kept_costs J) t t' (entries J) refl lt long S.0 S.2;
            choices_after = table_lifted J a (cheapest J) (weighed J) span (kept_choices J) u u' (entries J) refl lu long S.0 S.3;
          };
    }

-- the same, with the instance and the sizes of the parts under other names.
lifted_parts : (bytes : List ℕ) (e : ℕ) (o t u : List ℕ) (span : Span) (a : Planned) (o' t' u' : List ℕ) (I : Instance) (n : ℕ) → I ≡ instance bytes → n ≡ entries I
    → number_at bytes e (length o) (length t) (length u) span ≡ 0 → I.r ≤ length o → span.first + span.number ≤ length t → span.first + span.number ≤ length u
    → entries I ≤ span.number → length o' ≡ I.r → length t' ≡ n → length u' ≡ n
    → Reworks bytes I e (take I.r o) o' (take n (drop span.first t)) t' (take n (drop span.first u)) u' a
    → Edits (called bytes e o t u span a (o' ++ drop I.r o) (put_mid span.first n t t') (put_mid span.first n u u'))
lifted_parts bytes e o t u span a o' t' u' I n is en none lo lt lu long so st su R =
    subst (λ (J : Instance). J.r ≤ length o → entries J ≤ span.number → length o' ≡ J.r → n ≡ entries J
    → Reworks bytes J e (take J.r o) o' (take n (drop span.first t)) t' (take n (drop span.first u)) u' a
    → Edits (called bytes e o t u span a (o' ++ drop J.r o) (put_mid span.first n t t') (put_mid span.first n u u')))
    (sym is)
    (λ lo long so en R.
    subst (λ (m : ℕ). length t' ≡ m → length u' ≡ m
    → Reworks bytes (instance bytes) e (take (instance bytes).r o) o' (take m (drop span.first t)) t' (take m (drop span.first u)) u' a
    → Edits (called bytes e o t u span a (o' ++ drop (instance bytes).r o) (put_mid span.first m t t') (put_mid span.first m u u')))
    (sym en) (λ st su R. lifted bytes e o t u span a o' t' u' lo lt lu long so st su R none) st su R)
    lo long so en R

-- The same of the parts of what is prepared.
module _ (bytes : List ℕ) (e : ℕ) (o t u : List ℕ) (span : Span) (p : Prepared) (S : Stands bytes (length o) (length t) (length u) span p) where
  n_is : p.end - p.first ≡ entries (told p.records)
  n_is = rows_is bytes o t u span p S ∙ ap entries (sym S.tells)

  pub lifted_prepared : e < p.records.cabinets → (a : Planned) (o' t' u' : List ℕ)
      → length o' ≡ length (take p.records.services o) → length t' ≡ length (take (p.end - p.first) (drop p.first t)) → length u' ≡ length (take (p.end - p.first) (drop p.first u))
      → Reworks bytes (told p.records) e (take p.records.services o) o' (take (p.end - p.first) (drop p.first t)) t' (take (p.end - p.first) (drop p.first u)) u' a
      → Edits (called bytes e o t u span a (o' ++ drop p.records.services o) (put_mid p.first (p.end - p.first) t t') (put_mid p.first (p.end - p.first) u u'))
  unfolding told
  lifted_prepared h a o' t' u' so st su =
      let E = room_is bytes o t u span p S in
      subst (λ (m : ℕ). Reworks bytes (told p.records) e (take p.records.services o) o' (take (p.end - p.first) (drop m t)) t' (take (p.end - p.first) (drop m u)) u' a
      → Edits (called bytes e o t u span a (o' ++ drop p.records.services o) (put_mid m (p.end - p.first) t t') (put_mid m (p.end - p.first) u u')))
      (sym S.first)
      (lifted_parts bytes e o t u span a o' t' u' (told p.records) (p.end - p.first) S.tells n_is
      (none_applies bytes S.sheet S.reads e (length o) (length t) (length u) span S.enough (omega (arith, h, cabinets_is bytes o t u span p S)))
      S.places E.1 E.2 (omega (arith, E.3, rows_is bytes o t u span p S, n_is))
      (so ∙ places_lent bytes o t u span p S) (st ∙ costs_lent bytes o t u span p S ∙ sym n_is) (su ∙ choices_lent bytes o t u span p S ∙ sym n_is))
