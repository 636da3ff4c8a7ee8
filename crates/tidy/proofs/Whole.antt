-- The blocks put one behind the other are the whole copy, and what is answered then.
use Prim.Native.Nat.{ℕ, ◌*◌, ◌≤◌, ◌<◌}
use native.Mathlib.Omega.{arith}
use mathlib.Core.Path.{◌≡◌, refl, sym, ap, ◌∙◌}
use mathlib.Core.List.{List, ◌++◌}
use lib.ListN.{length, drop}
use borrow.Author.Tests.{lt-ltb, le-ltb}
use Rattle.sheet.specs.Layout.{header_size}
use Rattle.sheet.specs.Refusals.{first_applying, refusal}
use Rattle.sheet.specs.Instance.{Instance}
use Rattle.sheet.specs.declared.Refusal.TheVariants.{Lender}
use Rattle.tidy.specs.Copy.{cabinets_from, streams_from, streams_end, length_with, header_words, copy_length, fourth_words, tidy_words, tidied}
use Rattle.tidy.specs.Answers.{written}
use Rattle.tidy.specs.Inner.Put.{put}
use Rattle.tidy.specs.Inner.Counted.{Counted}
use Rattle.std.specs.Prelude.{Ok, Err}
use Rattle.tidy.proofs.Put.{put_more, put_front}
use Rattle.tidy.proofs.Lengths.{head, services, cabinets, streams, cabinets_ahead, streams_ahead, fourth_ahead, words_length}

-- ---- the counts of a copy

module _ (I : Instance) (r s q n : ℕ) (counts : Counted I r s q n) where
  pub counted_header : header_words r s q n ≡ head I
  counted_header = λ k. header_words (counts.services k) (counts.cabinets k) (counts.streams k) (counts.pairs k)

  pub counted_length : length_with r s q n ≡ copy_length I
  counted_length = λ k. length_with (counts.services k) (counts.cabinets k) (counts.streams k) (counts.pairs k)

-- ---- what is written

module _ (I : Instance) (out : List ℕ) (room : copy_length I ≤ length out) where
  -- one block more, put behind the words that stand there
  behind : (o o' ws vs : List ℕ) (n : ℕ) → o ≡ put out 0 ws → o' ≡ put o n vs → 2 * length ws ≤ length out → n ≡ 2 * length ws → o' ≡ put out 0 (ws ++ vs)
  behind o o' ws vs n e f h k = f ∙ ap (λ (x : List ℕ). put x n vs) e ∙ put_more out 0 ws (omega arith) vs n (omega arith)

  -- each block put behind the ones before it
  pub all_put : (n3 n4 n5 : ℕ) (o1 o2 o3 o4 o5 : List ℕ) → n3 ≡ cabinets_from I.r → n4 ≡ streams_from I.r I.s → n5 ≡ streams_end I.r I.s I.q
      → o1 ≡ put out 0 (head I) → o2 ≡ put o1 header_size (services I) → o3 ≡ put o2 n3 (cabinets I) → o4 ≡ put o3 n4 (streams I)
      → o5 ≡ put o4 n5 (fourth_words I) → o5 ≡ put out 0 (tidy_words I)
  unfolding tidy_words
  all_put n3 n4 n5 o1 o2 o3 o4 o5 a3 a4 a5 e1 e2 e3 e4 e5 =
      let f2 = behind o1 o2 (head I) (services I) header_size e1 e2 (omega arith) (omega arith) in
      let f3 = behind o2 o3 (head I ++ services I) (cabinets I) n3 f2 e3 (omega (arith, cabinets_ahead I)) (omega (arith, cabinets_ahead I)) in
      let f4 = behind o3 o4 (head I ++ services I ++ cabinets I) (streams I) n4 f3 e4 (omega (arith, streams_ahead I)) (omega (arith, streams_ahead I)) in
      behind o4 o5 (head I ++ services I ++ cabinets I ++ streams I) (fourth_words I) n5 f4 e5 (omega (arith, fourth_ahead I)) (omega (arith, fourth_ahead I))

  -- the copy stands at the front
  pub at_front : put out 0 (tidy_words I) ≡ tidied I ++ drop (copy_length I) out
  unfolding tidied
  at_front = put_front out (tidy_words I) (copy_length I) (sym (words_length I))

-- ---- what is answered

pub too_short : (size n : ℕ) → n < size → Err (Lender 21) ≡ written size n
unfolding written first_applying refusal
too_short size n h = rw (lt-ltb n size h) refl

pub long_enough : (size n : ℕ) → size ≤ n → Ok size ≡ written size n
unfolding written first_applying
long_enough size n h = rw (le-ltb n size h) refl
