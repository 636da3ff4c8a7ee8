-- Words put into bytes: one word is two stores, and words put behind words are all of them put at once.
use Prim.Native.Nat.{ℕ, ◌+◌, ◌*◌, ◌/◌, ◌%◌, ◌≤◌, ◌<◌}
use native.Mathlib.Omega.{arith}
use native.Mathlib.Numerals.{add-one}
use mathlib.Core.Path.{◌≡◌, refl, sym, ap, ap₂, ◌∙◌}
use mathlib.Core.List.{List, [], ◌∷◌, ◌++◌, append_assoc, append-nil}
use lib.ListN.{length, take, drop, set, get_or, length-append, length-drop, take-append-drop}
use lib.Seq.{length-take-le, take_at, drop-append-add, drop-drop, sets-eq, take-suc}
use Rattle.tidy.specs.Words.{from_words, concat_below}
use Rattle.tidy.specs.Inner.Put.{put}
use Rattle.tidy.proofs.Concat.{bytes_length}

bytes_append : (ws vs : List ℕ) → from_words (ws ++ vs) ≡ from_words ws ++ from_words vs
bytes_append [] vs = refl
bytes_append (w ∷ ws) vs = ap (λ (l : List ℕ). w % 256 ∷ w / 256 ∷ l) (bytes_append ws vs)

-- nothing is put
pub put_none : (bytes : List ℕ) (at : ℕ) → put bytes at [] ≡ bytes
unfolding put
put_none bytes at =
    ap (λ (n : ℕ). take at bytes ++ [] ++ drop n bytes) (let q : at + 2 * 0 ≡ at = omega arith in q)
    ∙ ap (λ (l : List ℕ). l ++ drop at bytes) (append-nil (take at bytes))
    ∙ take-append-drop at bytes

module _ (bytes : List ℕ) (at : ℕ) (ws : List ℕ) (h : at + 2 * length ws ≤ length bytes) where
  front_length : length (take at bytes ++ from_words ws) ≡ at + 2 * length ws
  front_length = omega (arith, length-append (take at bytes) (from_words ws), length-take-le at bytes (omega arith), bytes_length ws)

  pub put_length : length (put bytes at ws) ≡ length bytes
  unfolding put
  put_length =
      omega (arith, length-append (take at bytes ++ from_words ws) (drop (at + 2 * length ws) bytes), front_length, length-drop (at + 2 * length ws) bytes)

  -- more words, put behind them
  pub put_more : (vs : List ℕ) (n : ℕ) → n ≡ at + 2 * length ws → put (put bytes at ws) n vs ≡ put bytes at (ws ++ vs)
  unfolding put
  put_more vs n e =
      let front = take at bytes ++ from_words ws in
      let m = at + 2 * length ws in
      let back = drop m bytes in
      ap (λ (n : ℕ). put (put bytes at ws) n vs) e
      ∙ ap₂ (λ (a b : List ℕ). a ++ from_words vs ++ b) (take_at front back m front_length)
      (ap (λ (k : ℕ). drop (k + 2 * length vs) (front ++ back)) (sym front_length) ∙ drop-append-add front back (2 * length vs) ∙ drop-drop (2 * length vs) m bytes)
      ∙ ap₂ (λ (l : List ℕ) (k : ℕ). l ++ drop k bytes)
      (append_assoc (take at bytes) (from_words ws) (from_words vs) ∙ ap (λ (l : List ℕ). take at bytes ++ l) (sym (bytes_append ws vs)))
      (let q : m + 2 * length vs ≡ at + 2 * length (ws ++ vs) = omega (arith, length-append ws vs) in q)

-- one word: its low byte, then its high byte
pub put_word : (bytes : List ℕ) (at w : ℕ) → at + 2 ≤ length bytes → set (set bytes at (w % 256)) (at + 1) (w / 256) ≡ put bytes at (w ∷ [])
unfolding put
put_word bytes at w h = rw add-one (sets-eq (w % 256 ∷ w / 256 ∷ []) bytes at h)

-- a turn of the loop over words: word k is put behind the k before it
pub put_next : (bytes : List ℕ) (at : ℕ) (ws : List ℕ) (k : ℕ) → k < length ws → at + 2 * length ws ≤ length bytes
    → set (set (put bytes at (take k ws)) (at + 2 * k) (get_or ws k 0 % 256)) (at + 2 * k + 1) (get_or ws k 0 / 256) ≡ put bytes at (take (k + 1) ws)
put_next bytes at ws k l h =
    let t : length (take k ws) ≡ k = length-take-le k ws (omega arith) in
    let g : at + 2 * length (take k ws) ≤ length bytes = omega arith in
    put_word (put bytes at (take k ws)) (at + 2 * k) (get_or ws k 0) (omega (arith, put_length bytes at (take k ws) g))
    ∙ put_more bytes at (take k ws) g (get_or ws k 0 ∷ []) (at + 2 * k) (omega arith)
    ∙ ap (put bytes at) (sym (take-suc ws k 0 l) ∙ ap (λ (n : ℕ). take n ws) (sym (add-one k)))

-- a loop over records begins
pub record_start : (f : ℕ → List ℕ) (bytes : List ℕ) (at : ℕ) → bytes ≡ put bytes at (concat_below 0 f)
unfolding concat_below
record_start f bytes at = sym (put_none bytes at)

-- a turn of a loop over records: record i is put behind the i before it
pub record_next : (f : ℕ → List ℕ) (bytes : List ℕ) (at i n : ℕ) → at + 2 * length (concat_below i f) ≤ length bytes
    → n ≡ at + 2 * length (concat_below i f) → put (put bytes at (concat_below i f)) n (f i) ≡ put bytes at (concat_below (i + 1) f)
unfolding concat_below
record_next f bytes at i n h e = put_more bytes at (concat_below i f) h (f i) n e ∙ ap (λ (m : ℕ). put bytes at (concat_below m f)) (sym (add-one i))

-- words put from the first byte on stand at the front
pub put_front : (bytes ws : List ℕ) (n : ℕ) → n ≡ 2 * length ws → put bytes 0 ws ≡ from_words ws ++ drop n bytes
unfolding put
put_front bytes ws n e = ap (λ (m : ℕ). from_words ws ++ drop m bytes) (let q : 0 + 2 * length ws ≡ n = omega arith in q)
