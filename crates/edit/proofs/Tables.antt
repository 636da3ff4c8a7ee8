-- Tables of rows: entry by entry, kept of an instance, and with some of their rows put in place of others.
use Rattle.std.proofs.Common.{◌≡◌, ℕ, suc, ◌+◌, ◌*◌, ◌/◌, ◌%◌, ◌^◌, ◌<◌, ◌≤◌, Bool, true, false, cond, List, ◌++◌, length, take, drop, sym, refl, ap, ◌∙◌, subst, ap₂, mul-le-mul_right, mod-lt, mod-eq_of_lt, div-lt_iff_lt-mul, arith, get_or-take, take_at, pow_pos}
use native.Mathlib.Nat.{mul-add-div_right, mul-add-mod_self_right, div-eq_of_lt}
use Rattle.subsets.specs.Tree.{under}
use Rattle.subsets.specs.Inner.Net.{Falls}
use Rattle.sheet.specs.Instance.{Instance}
use Rattle.embedding.proofs.First.{places_length, places_at, places_ext}
use Rattle.lending.specs.Spans.{within}
use Rattle.lending.specs.declared.Span.{Span}
use Rattle.planner.specs.Answers.{Planned, entries}
use Rattle.planner.specs.Lent.{used, part_after, front_after}
use Rattle.planner.specs.Kept as kept
use Rattle.planner.specs.Kept.{table_of, kept_costs, kept_choices, Kept}
use Rattle.planner.specs.Inner.Tables.{entry, cost_entry, choice_entry}
use Rattle.planner.proofs.After.{after_within}
use Rattle.edit.specs.Changed.{Changed}
use Rattle.edit.proofs.Changing.{cost_same, choice_same}

module _ (I : Instance) where
  -- the entry of row c for the set x lies within the rows
  pub entry_in : (c x : ℕ) → c < I.s → x < 2 ^ I.r → c * 2 ^ I.r + x < entries I
  entry_in c x h l = omega (arith, mul-le-mul_right {m = suc c} {n = I.s} (2 ^ I.r) h)

  -- each place within them is the entry of some row for some set
  pub place_row : (i : ℕ) → i < entries I → i / 2 ^ I.r < I.s
  place_row i h = (div-lt_iff_lt-mul {k = 2 ^ I.r} {x = i} {y = I.s} (pow_pos I.r)).1 h

  pub place_set : (i : ℕ) → i % 2 ^ I.r < 2 ^ I.r
  place_set i = mod-lt i (pow_pos I.r)

  module _ (f : ℕ → ℕ → ℕ) where
    -- it has s × 2^r entries
    pub table_length : length (table_of I f) ≡ entries I
    table_length = places_length (entries I) _

    -- a table of rows, entry by entry
    pub table_at : (c x : ℕ) → c < I.s → x < 2 ^ I.r → entry (2 ^ I.r) (table_of I f) c x ≡ f c x
    table_at c x h l =
        places_at (entries I) _ (c * 2 ^ I.r + x) (entry_in c x h l)
        ∙ ap₂ f (mul-add-div_right {m = 2 ^ I.r} (pow_pos I.r) c x ∙ omega (arith, div-eq_of_lt {n = x} {m = 2 ^ I.r} l))
        (mul-add-mod_self_right c (2 ^ I.r) x ∙ mod-eq_of_lt {n = x} {m = 2 ^ I.r} l)

    -- a table that begins with such rows
    pub front_at : (t : List ℕ) → take (entries I) t ≡ table_of I f → (c x : ℕ) → c < I.s → x < 2 ^ I.r → entry (2 ^ I.r) t c x ≡ f c x
    front_at t e c x h l =
        sym (get_or-take (entries I) t (c * 2 ^ I.r + x) 0 (entry_in c x h l))
        ∙ ap (λ (y : List ℕ). entry (2 ^ I.r) y c x) e
        ∙ table_at c x h l

-- ---- tables that a keeping call leaves

-- where the tables were used the span's entries are kept of the instance
pub kept_after : (I : Instance) (a : Planned) (span : Span) (t u t' u' : List ℕ) → used a ≡ true
    → span.first + span.number ≤ length t → span.first + span.number ≤ length u → entries I ≤ span.number
    → t' ≡ front_after I a span (kept_costs I) t → u' ≡ front_after I a span (kept_choices I) u → Kept I (within span t') (within span u')
unfolding kept.kept_costs kept.kept_choices
kept_after I a span t u t' u' h ft fu n p q = record {
  of_costs = ap (take (entries I)) (ap (within span) p ∙ after_within I a span (kept_costs I) t (table_length I (cost_entry I)) (λ z. (ft, n)) ∙ part_is (kept_costs I) (within span t))
      ∙ take_at (kept_costs I) (drop (entries I) (within span t)) (entries I) (table_length I (cost_entry I));
  of_choices = ap (take (entries I)) (ap (within span) q ∙ after_within I a span (kept_choices I) u (table_length I (choice_entry I)) (λ z. (fu, n)) ∙ part_is (kept_choices I) (within span u))
      ∙ take_at (kept_choices I) (drop (entries I) (within span u)) (entries I) (table_length I (choice_entry I));
}
  where
    part_is : (front part : List ℕ) → part_after I a front part ≡ front ++ drop (entries I) part
    part_is front part = ap (λ (b : Bool). cond b (front ++ drop (entries I) part) part) h

-- ---- some rows put in place of others

-- the rows that pass the test are those of f, the others those of a table t
unfoldable pub rows_of : Instance → (ℕ → Bool) → (ℕ → ℕ → ℕ) → List ℕ → List ℕ
rows_of J test f t = table_of J (λ c x. cond (test c) (f c x) (entry (2 ^ J.r) t c x))

module _ (J : Instance) (test : ℕ → Bool) (f : ℕ → ℕ → ℕ) (t : List ℕ) where
  -- they are s × 2^r entries
  pub rows_length : length (rows_of J test f t) ≡ entries J
  unfolding rows_of
  rows_length = table_length J (λ c x. cond (test c) (f c x) (entry (2 ^ J.r) t c x))

  -- the others stay
  pub rows_stay : (c x : ℕ) → c < J.s → test c ≡ false → x < 2 ^ J.r → entry (2 ^ J.r) (rows_of J test f t) c x ≡ entry (2 ^ J.r) t c x
  unfolding rows_of
  rows_stay c x h o l =
      table_at J (λ c x. cond (test c) (f c x) (entry (2 ^ J.r) t c x)) c x h l ∙ ap (λ (b : Bool). cond b (f c x) (entry (2 ^ J.r) t c x)) o

  -- where the others are those of f too, all are
  pub rows_whole : ((c x : ℕ) → c < J.s → test c ≡ false → x < 2 ^ J.r → entry (2 ^ J.r) t c x ≡ f c x) → rows_of J test f t ≡ table_of J f
  unfolding rows_of
  rows_whole h = places_ext (entries J) _ _ (λ i l. go (i / 2 ^ J.r) (i % 2 ^ J.r) (place_row J i l) (place_set J i) (test (i / 2 ^ J.r)) refl)
    where
      go : (c x : ℕ) → c < J.s → x < 2 ^ J.r → (b : Bool) → test c ≡ b → cond (test c) (f c x) (entry (2 ^ J.r) t c x) ≡ f c x
      go c x k l true q = ap (λ (b : Bool). cond b (f c x) (entry (2 ^ J.r) t c x)) q
      go c x k l false q = ap (λ (b : Bool). cond b (f c x) (entry (2 ^ J.r) t c x)) q ∙ h c x k q l

-- ---- tables kept of an instance that differs in one cabinet

module _ (e : ℕ) (I J : Instance) (E : Changed e I J) (falls : Falls J.parent) (t u : List ℕ) (K : Kept I t u) where
  -- a row's entry for a set, read by the one instance and by the other
  entry_before : (f : ℕ → ℕ → ℕ) (l : List ℕ) → take (entries I) l ≡ table_of I f → (c x : ℕ) → c < J.s → x < 2 ^ J.r → entry (2 ^ J.r) l c x ≡ f c x
  entry_before f l q c x h k =
      ap (λ (r : ℕ). entry (2 ^ r) l c x) (sym E.services)
      ∙ front_at I f l q c x (omega (arith, E.cabinets)) (subst (λ (r : ℕ). x < 2 ^ r) (sym E.services) k)

  -- they have the changed instance's entries off the path
  pub costs_off : (c x : ℕ) → c < J.s → under J.parent c e ≡ false → x < 2 ^ J.r → entry (2 ^ J.r) t c x ≡ cost_entry J c x
  unfolding kept.kept_costs
  costs_off c x h o l = entry_before (cost_entry I) t K.of_costs c x h l ∙ cost_same e I J E falls c x o

  -- and so of the choices
  pub choices_off : (c x : ℕ) → c < J.s → (0 < c → under J.parent (J.parent c) e ≡ false) → x < 2 ^ J.r → entry (2 ^ J.r) u c x ≡ choice_entry J c x
  unfolding kept.kept_choices
  choices_off c x h o l = entry_before (choice_entry I) u K.of_choices c x h l ∙ choice_same e I J E falls c x o
