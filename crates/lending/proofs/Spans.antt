-- The laws of spans: a table with other entries in the span, and two spans that do not overlap.
use Prim.Native.Nat.{ℕ, ◌+◌, ◌-◌, ◌≤◌, ◌<◌, min}
use native.Mathlib.Omega.{arith}
use mathlib.Core.Logic.{◌⊎◌, inl, inr}
use mathlib.Core.Path.{◌≡◌, refl, sym, ap, ◌∙◌}
use mathlib.Core.Bool.{Bool, true, false, cond}
use mathlib.Core.List.{List, ◌++◌, append_assoc}
use lib.Dec.{ltb}
use lib.ListN.{length, get_or, take, drop, length-take, length-drop, take-append-drop}
use lib.Seq.{get_or-take, get_or-drop, length-take-le, drop-append-le, ext_get_or}
use borrow.Rule.Slice.PartMut.{put_same, same_len_mid}
use borrow.Author.Tests.{ltb-true, ltb-false, le-ltb}
use Rattle.finite.proofs.Middles.{mid_part}
use Rattle.lending.specs.Spans.{whole, runs_past, within, replaced, Inside, Apart}
use Rattle.lending.specs.declared.Span.{Span}

-- ---- the whole of the shorter table runs past neither

pub whole_fits : (costs choices : ℕ) → (runs_past (whole costs choices) costs ≡ false) × (runs_past (whole costs choices) choices ≡ false)
whole_fits costs choices = go (ltb choices costs) refl
  where
    go : (b : Bool) → ltb choices costs ≡ b → (ltb costs (0 + cond b choices costs) ≡ false) × (ltb choices (0 + cond b choices costs) ≡ false)
    go true e = (le-ltb costs _ (omega (arith, ltb-true choices costs e)), le-ltb choices _ (omega arith))
    go false e = (le-ltb costs _ (omega arith), le-ltb choices _ (omega (arith, ltb-false choices costs e)))

-- ---- one span

module _ (s : Span) (t : List ℕ) where
  -- a table with its own entries in the span is as it was
  pub replaced_same : replaced s (within s t) t ≡ t
  replaced_same = put_same s.first s.number t

  -- an entry of the span
  pub within_at : (i : ℕ) → i < s.number → get_or (within s t) i 0 ≡ get_or t (s.first + i) 0
  within_at i h = get_or-take s.number (drop s.first t) i 0 h ∙ get_or-drop s.first t i 0

  module _ (fits : s.first + s.number ≤ length t) where
    -- a span that does not run past the table has so many entries
    pub within_length : length (within s t) ≡ s.number
    within_length = length-take-le s.number (drop s.first t) (omega (arith, length-drop s.first t))

    module _ (part : List ℕ) (same : length part ≡ s.number) where
      pub replaced_length : length (replaced s part t) ≡ length t
      replaced_length = same_len_mid s.first s.number t part (same ∙ sym within_length)

      pub within_replaced : within s (replaced s part t) ≡ part
      within_replaced = mid_part s.first s.number t part fits same

    -- the first n entries of the span and what is behind them, lent on as a part of the table
    pub replaced_front : (front : List ℕ) (n : ℕ) → n ≤ s.number
        → replaced s (front ++ drop n (within s t)) t ≡ take s.first t ++ (front ++ drop n (drop s.first t))
    replaced_front front n h =
        let rest : List ℕ = drop s.first t in
        let back : drop n (within s t) ++ drop s.number rest ≡ drop n rest =
        sym (drop-append-le n (within s t) (drop s.number rest) (omega (arith, within_length))) ∙ ap (drop n) (take-append-drop s.number rest) in
        ap (λ (l : List ℕ). take s.first t ++ l) (append_assoc front (drop n (within s t)) (drop s.number rest) ∙ ap (λ (l : List ℕ). front ++ l) back)

-- tables of one length with the same entries in the span have the same part in it
pub within_same : (s : Span) (t t' : List ℕ) → length t' ≡ length t → ((i : ℕ) → s.first ≤ i → i < s.first + s.number → get_or t' i 0 ≡ get_or t i 0)
    → within s t' ≡ within s t
within_same s t t' e h = ext_get_or 0 (within s t') (within s t) (long t' ∙ ap (λ (n : ℕ). min s.number (n - s.first)) e ∙ sym (long t)) at
  where
    long : (l : List ℕ) → length (within s l) ≡ min s.number (length l - s.first)
    long l = length-take s.number (drop s.first l) ∙ ap (min s.number) (length-drop s.first l)

    at : (i : ℕ) → i < length (within s t') → get_or (within s t') i 0 ≡ get_or (within s t) i 0
    at i l =
        let below : i < s.number = omega (arith, long t') in
        within_at s t' i below ∙ h (s.first + i) (omega arith) (omega arith) ∙ sym (within_at s t i below)

-- ---- two spans

pub apart_flip : (a b : Span) → Apart a b → Apart b a
apart_flip a b h i p q = h i q p

-- where one ends before the other begins they do not overlap, also if they touch
pub beside_apart : (a b : Span) → a.first + a.number ≤ b.first → Apart a b
beside_apart a b h i p q = absurd (omega (arith, h, p.1, q.0))

-- an entry of the one is outside the other
pub apart_outside : (a b : Span) → Apart a b → (i : ℕ) → Inside a i → (i < b.first) ⊎ (b.first + b.number ≤ i)
apart_outside a b h i p = go (ltb i b.first) refl (ltb i (b.first + b.number)) refl
  where
    go : (x : Bool) → ltb i b.first ≡ x → (y : Bool) → ltb i (b.first + b.number) ≡ y → (i < b.first) ⊎ (b.first + b.number ≤ i)
    go true e y f = inl (ltb-true i b.first e)
    go false e true f = absurd (h i p (ltb-false i b.first e, ltb-true i (b.first + b.number) f))
    go false e false f = inr (ltb-false i (b.first + b.number) f)
