-- The text of an answer, from its lines.
use Prim.Native.Nat.{ℕ}
use mathlib.Core.Path.{◌≡◌, refl, ap, ◌∙◌, subst}
use mathlib.Core.List.{List, ◌++◌}
use lib.ListN.{take, drop, replicate}
use lib.Seq.{take_at}
use Rattle.std.specs.Prelude.{Ok, Err}
use Rattle.sheet.specs.Limits.{max_services}
use Rattle.sheet.specs.Instance.{instance}
use Rattle.sheet.specs.Reading.{reading, services}
use Rattle.sheet.specs.Reading.{Reading}
use Rattle.embedding.specs.First.{first_plan, places}
use Rattle.embedding.proofs.First.{places_length}
use Rattle.planner.specs.Answers.{Planned, plan_of, planned}
use Rattle.planner.specs.Lent.{OutputAfter}
use Rattle.sheet.proofs.Promises.{counts}
use Rattle.report.specs.Text.{cost_word, weighed_word, line, service_lines, answer_text, program_answer, sheet_text}

-- the cost, the count and the services are the text of a plan
pub plan_put :
    (a b c plan : List ℕ) (cost count : ℕ)
    → a ≡ line cost_word cost → b ≡ a ++ line weighed_word count → c ≡ b ++ service_lines 0 plan
    → c ≡ answer_text (plan_of cost count) plan
unfolding answer_text
plan_put a b c plan cost count p q r = r ∙ rw (q, p)

-- a refused sheet's text names no service, and so it is the same for every plan
same_text :
    (bytes output : List ℕ)
    → answer_text (program_answer bytes) (take (services (reading bytes)) output) ≡ answer_text (program_answer bytes) (take (instance bytes).r output)
unfolding planned answer_text
same_text bytes output = go (reading bytes) refl
  where
    go : (x : Reading) → reading bytes ≡ x
        → answer_text (program_answer bytes) (take (services (reading bytes)) output) ≡ answer_text (program_answer bytes) (take (instance bytes).r output)
    go (Ok h) e =
        ap (λ (n : ℕ). answer_text (program_answer bytes) (take n output)) (ap services e ∙ (counts bytes h e).0)
    go (Err f) e = rw e refl

-- with a plan the first places of the output are the first of the cheapest
first_text :
    (bytes output : List ℕ) (x : Planned) → OutputAfter (instance bytes) x (replicate max_services 0) output
    → answer_text x (take (instance bytes).r output) ≡ answer_text x (places (instance bytes).r (first_plan (instance bytes)))
unfolding answer_text
first_text bytes output (Ok p) o =
    let plan = places (instance bytes).r (first_plan (instance bytes)) in
    ap (λ (l : List ℕ). answer_text (Ok p) (take (instance bytes).r l)) o
    ∙ ap (answer_text (Ok p)) (take_at plan (drop (instance bytes).r (replicate max_services 0)) (instance bytes).r (places_length (instance bytes).r (first_plan (instance bytes))))
first_text bytes output (Err u) o = refl

-- the text of the planner's answer, with the services that were read, is that of the sheet
pub answered :
    (bytes output text : List ℕ) (a : Planned) (r : ℕ) → a ≡ program_answer bytes
    → OutputAfter (instance bytes) a (replicate max_services 0) output
    → r ≡ services (reading bytes)
    → text ≡ answer_text a (take r output) → text ≡ sheet_text bytes
unfolding sheet_text
answered bytes output text a r p o s t =
    t ∙ rw (p, s) (same_text bytes output)
    ∙ first_text bytes output (program_answer bytes) (subst (λ (x : Planned). OutputAfter (instance bytes) x (replicate max_services 0) output) p o)
