-- The barred pairs of an instance as words: how many there are, and that they name what the instance bars and nothing else.
use Prim.Native.Nat.{ℕ, zero, suc, ◌+◌, ◌*◌, ◌≤◌, ◌<◌}
use native.Mathlib.Nat.{mul-le-mul}
use native.Mathlib.Omega.{arith}
use mathlib.Core.Path.{◌≡◌, refl, sym, ap, ap₂, ◌∙◌}
use mathlib.Core.Bool.{Bool, true, false, ◌&&◌, ◌||◌, or-false}
use mathlib.Core.List.{List, [], ◌∷◌, ◌++◌}
use lib.Dec.{eqb, ltb}
use lib.ListN.{length, get_or, length-append}
use borrow.Author.Tests.{eqb-true, eq-eqb, ltb-true, lt-ltb}
use Rattle.finite.specs.Below.{only, sum_below, any_below}
use Rattle.finite.proofs.Booleans.{both, both_l, both_r, same_test}
use Rattle.finite.proofs.Sums.{sum_le, only_le}
use Rattle.finite.proofs.Tests.{any_ext, any_in, any_at}
use Rattle.sheet.specs.Limits.{max_services, max_cabinets, max_pairs}
use Rattle.sheet.specs.Instance.{Instance}
use Rattle.tidy.specs.Words.{concat_below}
use Rattle.tidy.specs.Copy.{pair_if, service_pairs, pair_words, service_count, pair_count}

-- ---- laws of searches

or_assoc : (a b c : Bool) → a || b || c ≡ a || (b || c)
or_assoc true b c = refl
or_assoc false b c = refl

any_first : (n : ℕ) (p : ℕ → Bool) → any_below (suc n) p ≡ p 0 || any_below n (λ d. p (suc d))
unfolding any_below
any_first zero p = sym (or-false (p 0))
any_first (suc n) p =
    ap (λ (t : Bool). t || p (suc n)) (any_first n p) ∙ or_assoc (p 0) (any_below n (λ d. p (suc d))) (p (suc n))

-- ---- words that are pairs

-- one of the first n pairs of some words is i and c
unfoldable pub pair_among : ℕ → List ℕ → ℕ → ℕ → Bool
pair_among n ws i c = any_below n (λ k. eqb (get_or ws (2 * k) 0) i && eqb (get_or ws (2 * k + 1) 0) c)

-- a pair is named first, or in the words behind it
among_first : (n x y : ℕ) (ws : List ℕ) (i c : ℕ) → pair_among (suc n) (x ∷ y ∷ ws) i c ≡ (eqb x i && eqb y c) || pair_among n ws i c
unfolding pair_among
among_first n x y ws i c =
    any_first n (λ k. eqb (get_or (x ∷ y ∷ ws) (2 * k) 0) i && eqb (get_or (x ∷ y ∷ ws) (2 * k + 1) 0) c)
    ∙ ap (λ (t : Bool). (eqb x i && eqb y c) || t)
    (any_ext n _ _ (λ k l. ap₂ (λ (u v : ℕ). eqb (get_or (x ∷ y ∷ ws) u 0) i && eqb (get_or (x ∷ y ∷ ws) v 0) c)
    (let q : 2 * suc k ≡ suc (suc (2 * k)) = omega arith in q) (let q : 2 * suc k + 1 ≡ suc (suc (2 * k + 1)) = omega arith in q)))

among_none : (ws : List ℕ) (i c : ℕ) → pair_among 0 ws i c ≡ false
unfolding pair_among any_below
among_none ws i c = refl

-- of words behind words
among_append : (n m : ℕ) (l k : List ℕ) (i c : ℕ) → length l ≡ 2 * n → pair_among (n + m) (l ++ k) i c ≡ pair_among n l i c || pair_among m k i c
among_append zero m [] k i c e =
    ap (λ (z : ℕ). pair_among z k i c) (let q : 0 + m ≡ m = omega arith in q) ∙ sym (ap (λ (t : Bool). t || pair_among m k i c) (among_none [] i c))
among_append zero m (x ∷ l) k i c e = absurd (omega arith)
among_append (suc n) m [] k i c e = absurd (omega arith)
among_append (suc n) m (x ∷ []) k i c e = absurd (omega arith)
among_append (suc n) m (x ∷ y ∷ l) k i c e =
    ap (λ (z : ℕ). pair_among z (x ∷ y ∷ (l ++ k)) i c) (let q : suc n + m ≡ suc (n + m) = omega arith in q)
    ∙ among_first (n + m) x y (l ++ k) i c
    ∙ ap (λ (t : Bool). (eqb x i && eqb y c) || t) (among_append n m l k i c (omega arith))
    ∙ sym (or_assoc (eqb x i && eqb y c) (pair_among n l i c) (pair_among m k i c))
    ∙ sym (ap (λ (t : Bool). t || pair_among m k i c) (among_first n x y l i c))

-- ---- pieces of pairs, one after the other

module _ (f : ℕ → List ℕ) (m : ℕ → ℕ) (h : (d : ℕ) → length (f d) ≡ 2 * m d) where
  -- two words a pair
  pub pieces_length : (n : ℕ) → length (concat_below n f) ≡ 2 * sum_below n m
  unfolding concat_below sum_below
  pieces_length zero = refl
  pieces_length (suc n) = omega (arith, length-append (concat_below n f) (f n), pieces_length n, h n)

  -- a pair among all is among those of some piece
  pieces_among : (n i c : ℕ) → pair_among (sum_below n m) (concat_below n f) i c ≡ any_below n (λ d. pair_among (m d) (f d) i c)
  unfolding concat_below sum_below any_below
  pieces_among zero i c = among_none [] i c
  pieces_among (suc n) i c =
      among_append (sum_below n m) (m n) (concat_below n f) (f n) i c (pieces_length n)
      ∙ ap (λ (t : Bool). t || pair_among (m n) (f n) i c) (pieces_among n i c)

-- ---- the pairs of an instance

pub pair_length : (t : Bool) (i c : ℕ) → length (pair_if t i c) ≡ 2 * only t 1
unfolding only
pair_length true i c = refl
pair_length false i c = refl

one_among : (t : Bool) (a b i c : ℕ) → pair_among (only t 1) (pair_if t a b) i c ≡ t && (eqb a i && eqb b c)
unfolding only
one_among true a b i c = among_first 0 a b [] i c ∙ ap (λ (t : Bool). (eqb a i && eqb b c) || t) (among_none [] i c) ∙ or-false (eqb a i && eqb b c)
one_among false a b i c = among_none [] i c

module _ (I : Instance) where
  pub service_length : (i : ℕ) → length (service_pairs I i) ≡ 2 * service_count I i
  unfolding service_pairs service_count
  service_length i = pieces_length (λ c. pair_if (I.barred i c) i c) (λ c. only (I.barred i c) 1) (λ c. pair_length (I.barred i c) i c) I.s

  pub pairs_length : length (pair_words I) ≡ 2 * pair_count I
  unfolding pair_words pair_count
  pairs_length = pieces_length (service_pairs I) (service_count I) service_length I.r

  pub service_most : (i : ℕ) → service_count I i ≤ I.s * 1
  unfolding service_count
  service_most i = sum_le I.s 1 _ (λ c l. only_le (I.barred i c) 1)

  -- no more pairs than a sheet may have
  pub pairs_most : I.r ≤ max_services → I.s ≤ max_cabinets → pair_count I ≤ max_pairs
  unfolding pair_count
  pairs_most a b =
      let k = sum_le I.r (I.s * 1) _ (λ i l. service_most i) in
      let m : I.s * 1 ≤ max_cabinets = omega arith in
      omega (arith, k, mul-le-mul a m)

  -- they are what the instance bars among the services and the cabinets that are there
  pub pairs_named : (i c : ℕ) → pair_among (pair_count I) (pair_words I) i c ≡ (ltb i I.r && ltb c I.s) && I.barred i c
  unfolding pair_words pair_count service_pairs service_count
  pairs_named i c =
      pieces_among (service_pairs I) (service_count I) service_length I.r i c
      ∙ any_ext I.r _ _ (λ a k.
      pieces_among (λ b. pair_if (I.barred a b) a b) (λ b. only (I.barred a b) 1) (λ b. pair_length (I.barred a b) a b) I.s i c
      ∙ any_ext I.s _ _ (λ b l. one_among (I.barred a b) a b i c))
      ∙ same_test (any_below I.r (λ a. any_below I.s (λ b. I.barred a b && (eqb a i && eqb b c)))) ((ltb i I.r && ltb c I.s) && I.barred i c) forth back
    where
      forth : any_below I.r (λ a. any_below I.s (λ b. I.barred a b && (eqb a i && eqb b c))) ≡ true → (ltb i I.r && ltb c I.s) && I.barred i c ≡ true
      forth e =
          let w = any_at I.r _ e in
          let v = any_at I.s _ w.2 in
          let t = both_r (I.barred w.0 v.0) _ v.2 in
          let x : w.0 ≡ i = eqb-true _ _ (both_l (eqb w.0 i) _ t) in
          let y : v.0 ≡ c = eqb-true _ _ (both_r (eqb w.0 i) _ t) in
          let a : w.0 < I.r = w.1 in
          let b : v.0 < I.s = v.1 in
          both _ _ (both _ _ (lt-ltb i I.r (omega arith)) (lt-ltb c I.s (omega arith))) (ap₂ I.barred (sym x) (sym y) ∙ both_l (I.barred w.0 v.0) _ v.2)

      back : (ltb i I.r && ltb c I.s) && I.barred i c ≡ true → any_below I.r (λ a. any_below I.s (λ b. I.barred a b && (eqb a i && eqb b c))) ≡ true
      back e =
          let t = both_l (ltb i I.r && ltb c I.s) _ e in
          any_in I.r _ i (ltb-true i I.r (both_l (ltb i I.r) _ t)) (any_in I.s _ c (ltb-true c I.s (both_r (ltb i I.r) _ t))
          (both _ _ (both_r (ltb i I.r && ltb c I.s) _ e) (both _ _ (eq-eqb i i refl) (eq-eqb c c refl))))
