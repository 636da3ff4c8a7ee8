-- How often a link direction is on a path: once if the path leads out of what is under the link, else never.
use Prim.Native.Nat.{ℕ, ◌+◌, ◌<◌}
use native.Mathlib.Nat.{zero-add}
use native.Mathlib.Omega.{arith}
use mathlib.Core.Logic.{◌≢◌}
use mathlib.Core.Path.{◌≡◌, refl, sym, ap, ◌∙◌}
use mathlib.Core.Bool.{Bool, true, false, ◌&&◌, ◌||◌, not, and-not_self}
use mathlib.Core.List.{List, [], ◌∷◌, ◌++◌}
use lib.Dec.{eqb}
use borrow.Author.Tests.{eqb-true, eqb-false, ne_eqb}
use Rattle.finite.specs.Below.{only, sum_over}
use Rattle.subsets.specs.Tree.{under}
use Rattle.subsets.proofs.Tree.{under_refl, under_small, under_step}
use Rattle.sheet.specs.Instance.{Instance, WellFormed}
use Rattle.embedding.specs.Definition1.{member}
use Rattle.embedding.specs.Road.{up, down}
use Rattle.embedding.specs.Plan.{path}
use Rattle.embedding.proofs.Edges.{up_up, down_down, up_down, down_up}
use Rattle.embedding.proofs.Paths.{path_ind}

-- how often e is in the list
abbrev pub times : ℕ → List ℕ → ℕ
times e l = sum_over (λ f. only (eqb e f) 1) l

-- 1 where the test passes
one : Bool → ℕ
one b = only b 1

times_snoc : (e g : ℕ) (l : List ℕ) → times e (l ++ (g ∷ [])) ≡ times e l + only (eqb e g) 1
unfolding sum_over
times_snoc e g [] = omega arith
times_snoc e g (x ∷ l) = omega (arith, times_snoc e g l)

-- of an edge that is there once or never: whether it is there
pub member_times : (e : ℕ) (l : List ℕ) (b : Bool) → times e l ≡ only b 1 → member e l ≡ b
unfolding sum_over member only
member_times e [] true h = absurd (omega arith)
member_times e [] false h = refl
member_times e (g ∷ l) b h = go (eqb e g) b h (member_times e l b)
  where
    go : (t b : Bool) → only t 1 + times e l ≡ only b 1 → (times e l ≡ only b 1 → member e l ≡ b) → t || member e l ≡ b
    go true true h ih = refl
    go true false h ih = absurd (omega arith)
    go false b h ih = ih (omega arith)

-- to go from a to b is to leave what is under c
abbrev pub leaves : (ℕ → ℕ) → ℕ → ℕ → ℕ → Bool
leaves parent c a b = under parent c a && not (under parent c b)

module _ (I : Instance) (W : WellFormed I) where
  Counted : ℕ → ℕ → List ℕ → Type 0
  Counted a b l = (c : ℕ) → 0 < c → (times (up c) l ≡ only (leaves I.parent c a b) 1) × (times (down c) l ≡ only (leaves I.parent c b a) 1)

  -- the larger end a moves up: that counts once for the link above a, and for no other
  moved : (a b c : ℕ) (t : Bool) → eqb c a ≡ t → b < a
      → (only t 1 + only (leaves I.parent c (I.parent a) b) 1 ≡ only (leaves I.parent c a b) 1) × (leaves I.parent c b (I.parent a) ≡ leaves I.parent c b a)
  unfolding only
  moved a b c true e k =
      let q : c ≡ a = eqb-true c a e in
      let f : I.parent a < a = W.parents a (omega arith) in
      let ub : under I.parent c b ≡ false = under_small I.parent W.parents c b (omega arith) in
      let up : under I.parent c (I.parent a) ≡ false = under_small I.parent W.parents c (I.parent a) (omega arith) in
      let ua : under I.parent c a ≡ true = ap (under I.parent c) (sym q) ∙ under_refl I.parent c in
      (rw (ua, ub, up) refl, rw ub refl)
  moved a b c false e k =
      let q : c ≢ a = eqb-false c a e in
      let ua : under I.parent c a ≡ under I.parent c (I.parent a) =
      under_step I.parent W.parents c a (omega arith) ∙ ap (λ (t : Bool). t || under I.parent c (I.parent a)) (ne_eqb a c (λ e. omega arith)) in
      (rw ua (zero-add _), rw ua refl)

  -- a path takes the link above c upwards once if it leaves what is under c, else never; downwards the other way round
  pub cut : (a b : ℕ) → a < I.s → b < I.s → (c : ℕ) → 0 < c
      → (times (up c) (path I a b) ≡ only (leaves I.parent c a b) 1) × (times (down c) (path I a b) ≡ only (leaves I.parent c b a) 1)
  unfolding Counted sum_over only one
  cut = path_ind I W Counted
      (λ a h c z. let e : 0 ≡ only (leaves I.parent c a a) 1 = sym (ap one (and-not_self (under I.parent c a))) in (e, e))
      (λ a b l k h ih c z.
      let m = moved a b c (eqb c a) refl k in (
        omega (arith, (ih c z).0, m.0, ap one (up_up c a z (omega arith))),
        omega (arith, (ih c z).1, ap one m.1, ap one (down_up c a)),
      ))
      (λ a b l k h ih c z.
      let m = moved b a c (eqb c b) refl k in (
        omega (arith, (ih c z).0, ap one m.1, times_snoc (up c) (down b) l, ap one (up_down c b)),
        omega (arith, (ih c z).1, m.0, times_snoc (down c) (down b) l, ap one (down_down c b z (omega arith))),
      ))

  -- so a link direction is on a path exactly when the path leaves, or enters, what is under the link
  pub cut_member : (a b : ℕ) → a < I.s → b < I.s → (c : ℕ) → 0 < c
      → (member (up c) (path I a b) ≡ leaves I.parent c a b) × (member (down c) (path I a b) ≡ leaves I.parent c b a)
  cut_member a b ha hb c z =
      (member_times (up c) (path I a b) _ (cut a b ha hb c z).0, member_times (down c) (path I a b) _ (cut a b ha hb c z).1)
