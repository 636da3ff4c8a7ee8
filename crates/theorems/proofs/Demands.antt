-- The demands, each as one theorem whose statement uses definitions alone. A reader needs this page and the specs/ of the crates, without Inner.
--
-- The definitions are those that the code's contracts name, as equalities for every input:
--   `reading`                               what `sheet::read` answers          crates/sheet/src/lib.rt
--   `checked`                               what `checker::check` answers       crates/checker/src/lib.rt
--   `lender_rules`                          what `lending::measure` says of the memory lent and its span
--                                                                               crates/lending/src/lib.rt
--   `planned`, `OutputAfter`, `table_after` what `planner::plan` answers, and what output and tables hold after it
--                                                                               crates/planner/src/lib.rt
--   `planned`, `OutputAfter`, `front_after` what `planner::keep` answers, and what output and tables hold after it, by `kept_costs` and `kept_choices`
--                                                                               crates/planner/src/lib.rt
--   `tidy_answer`, `output_after`           what `tidy::tidy` answers, and what its output holds after it
--                                                                               crates/tidy/src/lib.rt
--   `billed`, `lines_after`                 what `bill::bill` answers, and what the places for its lines hold after it
--                                                                               crates/bill/src/lib.rt
--   `Edits`                                 what `edit::edit` answers, and what output and tables hold after it: a relation, as tables from elsewhere leave
--                                           some of it free                     crates/edit/src/lib.rt
-- and the C entry points `gz_read`, `gz_check`, `gz_plan`, `gz_keep`, `gz_edit`, `gz_tidy` and `gz_bill` have the same clauses in crates/gazrieksne/src:
-- `gz_plan_span`, `gz_keep_span` and `gz_edit_span` for any span, those without one for `whole`, all of the shorter table. What the program prints is
-- `printed` in crates/report/specs/Text.antt, by the contract of `report::respond`.
use Prim.Native.Nat.{ℕ, ◌+◌, ◌-◌, ◌*◌, ◌^◌, ◌≤◌, ◌<◌}
use mathlib.Core.Logic.{◌↔◌, ◌⊎◌, inl, inr}
use mathlib.Core.Path.{◌≡◌, refl, ap, ◌∙◌}
use mathlib.Core.Bool.{Bool, true, ◌&&◌, ◌||◌}
use mathlib.Core.List.{List, [], ◌∷◌, map}
use lib.Dec.{ltb}
use lib.ListN.{length, take, get_or}
use Rattle.finite.specs.Below.{only, sum_below}
use Rattle.sheet.specs.Limits.{max_services, max_cabinets, max_streams, max_pairs}
use Rattle.sheet.specs.Reading as reader
use Rattle.sheet.specs.Reading.{reading}
use Rattle.sheet.specs.Instance.{Instance, WellFormed, instance}
use Rattle.sheet.specs.Said.{Said}
use Rattle.sheet.specs.Records.{pair_record}
use Rattle.sheet.specs.Refusals.{refusal, number_of, first_applying, giving, first_of, in_order}
use Rattle.sheet.specs.declared.Sheet.{Sheet}
use Rattle.sheet.specs.declared.Pair.{Pair}
use Rattle.sheet.specs.declared.Refusal.{Refusal}
use Rattle.std.specs.Prelude.{Ok, Err, Some}
use Rattle.sheet.proofs.Promises.{well_formed, said}
use Rattle.sheet.proofs.Order.{given_first, reading_first, reading_order}
use Rattle.subsets.specs.Order.{NotAfter}
use Rattle.subsets.specs.Sets.{has}
use Rattle.embedding.specs.Definition1.{member, Feasible, cost}
use Rattle.embedding.specs.Limits.{Limits}
use Rattle.embedding.specs.Road.{up, down, road}
use Rattle.embedding.specs.Plan.{place, routes, carried, in_range, bars_keep, cheapest}
use Rattle.embedding.specs.First.{first_plan, places}
use Rattle.embedding.specs.Rehung.{Link, Connects, Rehung}
use Rattle.embedding.specs.Splits.{keeps, placeable, weighed}
use Rattle.embedding.proofs.Theorems as rule
use Rattle.embedding.proofs.Theorems.{plan_iff_mapping, framed_edge, cheapest_mapping, empty_placeable}
use Rattle.checker.specs.Check as check
use Rattle.checker.specs.Check.{Checked, checked}
use Rattle.checker.specs.Answers as checks
use Rattle.checker.proofs.Answers.{accepted_iff, right_group, cost_low, check_number, check_first, check_order}
use Rattle.lending.specs.Spans.{whole, runs_past, Apart}
use Rattle.lending.specs.Rules.{lender_rules}
use Rattle.lending.specs.declared.Span.{Span}
use Rattle.lending.proofs.Rules.{either_past, enough_iff, whole_rules}
use Rattle.lending.proofs.Spans as spans
use Rattle.planner.specs.Answers as plan
use Rattle.planner.specs.Answers.{Planned, plan_of, unplanned, Enough, planned}
use Rattle.planner.specs.Lent.{front_after, table_after, OutputAfter}
use Rattle.planner.specs.Kept.{kept_costs, kept_choices}
use Rattle.planner.proofs.Order.{plan_first, plan_order}
use Rattle.edit.specs.Calls.{Call, called, asked}
use Rattle.edit.specs.Changed.{Beside}
use Rattle.edit.specs.Edits.{rules_before, edit_numbers, number_before, Edits}
use Rattle.edit.specs.Lists.{Kind, Does, Turn, OnSpan, nothing, InTheRule, AllFresh}
use Rattle.edit.specs.Roads.{Road, one, other, Shared, own, OnTables, Order, orders, AgreeOn, Alike, Same, AllPairs}
use Rattle.edit.proofs.Changing.{joints_beside}
use Rattle.edit.proofs.Possible.{some_outcome}
use Rattle.edit.proofs.Lists as lists
use Rattle.edit.proofs.Roads as both
use Rattle.edit.proofs.Roads.{same_alone, lists_possible}
use Rattle.bill.specs.Tariff.{within_limits}
use Rattle.bill.specs.Lines.{started, tax_on, line_count, line, net, tax, total}
use Rattle.bill.specs.Answers as bill
use Rattle.bill.specs.Answers.{billed, lines_after, bill_of, Billed}
use Rattle.bill.specs.declared.tariff.Tariff.{Tariff}
use Rattle.bill.proofs.Figures.{started_covers, started_least, tax_high, tax_low}
use Rattle.bill.proofs.Answers.{made_iff, bill_first, bill_order}
use Rattle.tidy.specs.Copy.{length_with, tidied}
use Rattle.tidy.specs.Answers as tidy
use Rattle.tidy.specs.Answers.{tidy_answer, output_after}
use Rattle.tidy.specs.Agree.{Agree}
use Rattle.tidy.proofs.Answers.{tidy_first, tidy_order, room_iff, copy_longest}
use Rattle.theorems.proofs.Billing as billing
use Rattle.theorems.proofs.Copying as copying
use Rattle.theorems.proofs.Editing as editing
use Rattle.theorems.proofs.Joints as joints
use Rattle.theorems.proofs.Planning as planning
use Rattle.theorems.proofs.Roads as roads
use Rattle.theorems.proofs.Surveys as surveys
use Rattle.theorems.specs.Promised.{Given, Maps, NoneCheaper, Best, SameCost, Left, KeptLeft, SheetLeft, LinesLeft, OutsideStays}

-- ---- Demand 1

-- Any bytes, with any memory lent and any span of the tables, get a plan or one refusal, from 1 to 12, 18, 19 or 24; it stands in the group of its number,
-- and only 12 has a count.
-- (`planner::plan`, clause `answer`.)
pub demand_1 :
    (bytes : List ℕ) (output costs choices : ℕ) (span : Span) →
    ((k : ℕ) × (n : ℕ) × (planned bytes output costs choices span ≡ plan_of k n))
    ⊎ ((f : Refusal) × (n : ℕ) × (planned bytes output costs choices span ≡ unplanned f n) × Given plan.plan_numbers f × ((number_of f ≡ 12 → ⊥) → n ≡ 0))
demand_1 = planning.answered

-- After a plan and after 12 the first s × 2^r entries of the span are 0 in both tables and all others stay; after any other refusal both tables are as
-- they were. After a plan the output stays from place r on, after any refusal all of it. (`planner::plan`, clauses `output`, `costs`, `choices`.)
pub demand_1_memory :
    (bytes output costs choices output' costs' choices' : List ℕ) (span : Span) (a : Planned) →
    a ≡ planned bytes (length output) (length costs) (length choices) span →
    OutputAfter (instance bytes) a output output' →
    costs' ≡ table_after (instance bytes) a span costs →
    choices' ≡ table_after (instance bytes) a span choices →
    Left (instance bytes) a span output costs choices output' costs' choices'
demand_1_memory = planning.left

-- Any bytes and any plan get an answer of the check: a cost below 10^15, or one refusal, from 1 to 9, from 13 to 16, or from 18 to 20, in the group of
-- its number.
-- (`checker::check`.)
pub demand_1_check :
    (bytes plan : List ℕ) →
    ((k : ℕ) × (checked bytes plan ≡ Ok k) × (k < 10 ^ 15))
    ⊎ ((f : Refusal) × (checked bytes plan ≡ Err f) × Given check.check_numbers f)
demand_1_check bytes plan = go (checked bytes plan) refl
  where
    go : (r : Checked) → checked bytes plan ≡ r →
        ((k : ℕ) × (checked bytes plan ≡ Ok k) × (k < 10 ^ 15))
        ⊎ ((f : Refusal) × (checked bytes plan ≡ Err f) × Given check.check_numbers f)
    go (Ok k) e = inl (k, e, cost_low bytes plan k e)
    go (Err f) e = inr (f, e, record { grouped = right_group bytes plan f e; listed = check_number bytes plan f e })

-- ---- The order of giving

-- The rules of each call stand in the order of giving, and the number given is the first in that order of which a rule applies.
-- (`sheet::read`.)
pub read_gives :
    (bytes : List ℕ) → (in_order giving (reader.rules bytes) ≡ true) × (reader.number (reading bytes) ≡ first_of giving (reader.rules bytes))
read_gives bytes = (reading_order bytes, reading_first bytes ∙ given_first (reader.rules bytes) (reading_order bytes))

-- (`checker::check`.)
pub check_gives :
    (bytes plan : List ℕ) →
    (in_order giving (check.all_rules bytes plan) ≡ true) × (checks.number (checked bytes plan) ≡ first_of giving (check.all_rules bytes plan))
check_gives bytes plan =
    (check_order bytes plan, check_first bytes plan ∙ given_first (check.all_rules bytes plan) (check_order bytes plan))

-- (`planner::plan`, clause `answer`.)
pub plan_gives :
    (bytes : List ℕ) (output costs choices : ℕ) (span : Span) →
    (in_order giving (plan.all_rules bytes output costs choices span) ≡ true)
    × (plan.number (planned bytes output costs choices span) ≡ first_of giving (plan.all_rules bytes output costs choices span))
plan_gives bytes output costs choices span =
    let o = plan_order bytes output costs choices span in
    (o, plan_first bytes output costs choices span ∙ given_first (plan.all_rules bytes output costs choices span) o)

-- ---- Demand 2

-- On every sheet that the reader accepts, the check accepts a plan of any length at cost k exactly when it has a place for each service and,
-- with some paths, is a mapping that is feasible by Definition 1, keeps the limits, and costs k. (`checker::check`.)
pub demand_2 :
    (bytes : List ℕ) (h : Sheet) → reading bytes ≡ Ok h →
    (plan : List ℕ) (k : ℕ) →
    (checked bytes plan ≡ Ok k) ↔ ((length plan ≡ (instance bytes).r) × Maps (instance bytes) (place plan) k)
demand_2 bytes h reads plan k =
    let accepted = accepted_iff bytes h reads plan k in
    let mapping = plan_iff_mapping (instance bytes) (well_formed bytes h reads) (place plan) k in
    (λ e. let v = accepted.0 e in (v.0, mapping.0 (v.1, v.2)), λ m. let v = mapping.1 m.1 in accepted.1 (m.0, v.0, v.1))

-- Every plan that the planner writes is accepted by the check, at the planner's cost. (`planner::plan`, clauses `answer` and `output`.)
pub written_accepted :
    (bytes output output' : List ℕ) (costs choices : ℕ) (span : Span) (k n : ℕ) →
    planned bytes (length output) costs choices span ≡ plan_of k n →
    OutputAfter (instance bytes) (plan_of k n) output output' →
    checked bytes (take (instance bytes).r output') ≡ Ok k
written_accepted = planning.accepted

-- ---- Demand 3

-- On every sheet that the reader accepts, with memory enough, so that neither 10 nor 24 nor 11 applies, and whatever it held, the planner gives a plan or
-- 12. With a plan of cost k some mapping that is feasible by Definition 1 and keeps the limits costs k, and no such mapping costs less; with 12 there is no
-- such mapping. In both cases the count is that of the splits weighed, and is at most (s - 1) × 3^r. (`planner::plan`, clause `answer`.)
pub demand_3 :
    (bytes : List ℕ) (h : Sheet) → reading bytes ≡ Ok h →
    (output costs choices : ℕ) (span : Span) → Enough (instance bytes) output costs choices span →
    Best (instance bytes) (planned bytes output costs choices span) × (weighed (instance bytes) ≤ ((instance bytes).s - 1) * 3 ^ (instance bytes).r)
demand_3 bytes h reads output costs choices span enough =
    (planning.best_answer bytes h reads output costs choices span enough, planning.weighed_le (instance bytes) (well_formed bytes h reads))

-- So a plan is given exactly when some mapping is feasible and keeps the limits.
pub plan_exactly_when :
    (bytes : List ℕ) (h : Sheet) → reading bytes ≡ Ok h →
    (output costs choices : ℕ) (span : Span) → Enough (instance bytes) output costs choices span →
    (plan.number (planned bytes output costs choices span) ≡ 0)
    ↔ ((π : ℕ → ℕ) × (ρ : ℕ → List ℕ) × Feasible (road (instance bytes)) π ρ × Limits (instance bytes) π ρ)
plan_exactly_when bytes h reads output costs choices span enough = planning.exactly (instance bytes) (planned bytes output costs choices span) (planning.best_answer bytes h reads output costs choices span enough)

-- The plan written: with some paths, what stands in the first r places of the output after a plan is a mapping that is feasible, keeps the
-- limits and costs what is answered, and no mapping costs less. (`planner::plan`, clauses `answer` and `output`.)
pub plan_written :
    (bytes output output' : List ℕ) (costs choices : ℕ) (span : Span) (k n : ℕ) →
    planned bytes (length output) costs choices span ≡ plan_of k n →
    OutputAfter (instance bytes) (plan_of k n) output output' →
    Maps (instance bytes) (place (take (instance bytes).r output')) k × NoneCheaper (instance bytes) k
plan_written bytes output output' costs choices span k n e o =
    let p = planning.written bytes output output' costs choices span k n e o in
    let W = well_formed bytes p.0 p.1 in (
      (plan_iff_mapping (instance bytes) W (place (take (instance bytes).r output')) k).0 (p.3, p.4),
      ((cheapest_mapping (instance bytes) W k).0 (planning.plan_cheapest bytes (length output) costs choices span k n e).3).1,
    )

-- ---- The first of the cheapest

-- The plan written is the first of the cheapest: with some paths, what stands in the first r places of the output is a mapping that is feasible, keeps
-- the limits and costs what is answered; and it is not after any rival mapping that is feasible, keeps the limits and costs the same, in the order of the
-- cabinet of service 0, then of service 1, and so on. Which plan that is is told by `first_plan`, of the sheet alone. (`planner::plan`, clauses `answer`
-- and `output`.)
pub first_of_the_cheapest :
    (bytes output output' : List ℕ) (costs choices : ℕ) (span : Span) (k n : ℕ) →
    planned bytes (length output) costs choices span ≡ plan_of k n →
    OutputAfter (instance bytes) (plan_of k n) output output' →
    (take (instance bytes).r output' ≡ places (instance bytes).r (first_plan (instance bytes)))
    × Maps (instance bytes) (place (take (instance bytes).r output')) k
    × ((π : ℕ → ℕ) (ρ : ℕ → List ℕ) → Feasible (road (instance bytes)) π ρ → Limits (instance bytes) π ρ → cost (road (instance bytes)) π ρ ≡ k →
    NotAfter (instance bytes).r (place (take (instance bytes).r output')) π)
first_of_the_cheapest bytes output output' costs choices span k n e o = (
  planning.first_places (instance bytes) k n output output' o,
  (plan_written bytes output output' costs choices span k n e o).0,
  planning.none_before bytes output output' costs choices span k n e o,
)

-- ---- A tidy copy

-- Any bytes, with any output lent, get the length of a copy or one refusal, from 1 to 9, 18, 19 or 21, in the group of its number.
-- (`tidy::tidy`, clause `answer`.)
pub tidy_answers :
    (bytes : List ℕ) (output : ℕ) →
    ((n : ℕ) × (tidy_answer bytes output ≡ Ok n)) ⊎ ((f : Refusal) × (tidy_answer bytes output ≡ Err f) × Given tidy.tidy_numbers f)
tidy_answers = copying.either

-- Its rules stand in the order of giving, 21 last, and the number given is the first in that order of which a rule applies.
pub tidy_gives :
    (bytes : List ℕ) (output : ℕ) →
    (in_order giving (tidy.all_rules bytes output) ≡ true) × (tidy.number (tidy_answer bytes output) ≡ first_of giving (tidy.all_rules bytes output))
tidy_gives bytes output =
    let o = tidy_order bytes output in
    (o, tidy_first bytes output ∙ given_first (tidy.all_rules bytes output) o)

-- With a length the copy of the sheet's instance stands at the front of the output, and is that long; all behind it stays. After a refusal all
-- of the output stays. (`tidy::tidy`, clauses `answer` and `output`.)
pub tidy_memory :
    (bytes output output' : List ℕ) (a : tidy.Written) →
    a ≡ tidy_answer bytes (length output) →
    output' ≡ output_after (tidied (instance bytes)) a output →
    SheetLeft (tidied (instance bytes)) a output output'
tidy_memory = copying.left

-- On every sheet that the reader accepts 21 is given exactly when the output is shorter than the copy; no copy is longer than one with as many
-- records of each kind as a sheet may have.
pub tidy_room :
    (bytes : List ℕ) (h : Sheet) → reading bytes ≡ Ok h →
    ((output : ℕ) → (tidy.number (tidy_answer bytes output) ≡ 21) ↔ (output < length (tidied (instance bytes))))
    × (length (tidied (instance bytes)) ≤ length_with max_services max_cabinets max_streams max_pairs)
tidy_room bytes h reads = (room_iff bytes h reads, copy_longest (instance bytes) (well_formed bytes h reads))

-- The instance of every sheet that the reader accepts is well formed and has nothing in it but the sheet's records; and for every such instance
-- the copy is made of bytes, is accepted and says the same instance. The theorems below follow from these two.
pub instance_said :
    (bytes : List ℕ) (h : Sheet) → reading bytes ≡ Ok h → WellFormed (instance bytes) × Said (instance bytes)
instance_said bytes h reads = (well_formed bytes h reads, said bytes h reads)

pub copy_says_the_same :
    (I : Instance) → WellFormed I → Said I →
    ((k : Sheet) × (reading (tidied I) ≡ Ok k)) × (instance (tidied I) ≡ I) × ((n : ℕ) → get_or (tidied I) n 0 < 256)
copy_says_the_same = copying.says_the_same

-- In the copy each barred pair comes before the next: its service is lower, or the same and its cabinet lower. So none stands twice.
pub copy_pairs_rise :
    (I : Instance) → WellFormed I → Said I → (k : Sheet) → reading (tidied I) ≡ Ok k →
    (n : ℕ) (p q : Pair) → pair_record k (tidied I) n ≡ Some p → pair_record k (tidied I) (n + 1) ≡ Some q →
    (p.service < q.service) ⊎ ((p.service ≡ q.service) × (p.cabinet < q.cabinet))
copy_pairs_rise = copying.rises

-- Two accepted sheets have equal copies exactly when their records agree, barred pairs compared as a set.
pub equal_copies :
    (bytes : List ℕ) (h : Sheet) → reading bytes ≡ Ok h →
    (others : List ℕ) (k : Sheet) → reading others ≡ Ok k →
    (tidied (instance bytes) ≡ tidied (instance others)) ↔ Agree h bytes k others
equal_copies = copying.equal

-- Tidying a tidy copy changes no byte, and answers the same length.
pub tidy_twice :
    (bytes : List ℕ) (h : Sheet) → reading bytes ≡ Ok h →
    (tidied (instance (tidied (instance bytes))) ≡ tidied (instance bytes))
    × ((output : ℕ) → tidy_answer (tidied (instance bytes)) output ≡ tidy_answer bytes output)
tidy_twice bytes h reads = (ap tidied (copying.same bytes h reads).1, copying.same_tidied bytes h reads)

-- Sheet and copy have the same cheapest cost, or both no plan; and so, with any memory, the same answer of the planner, and for any plan that of
-- the check.
pub copy_plans_alike :
    (bytes : List ℕ) (h : Sheet) → reading bytes ≡ Ok h →
    (cheapest (instance (tidied (instance bytes))) ≡ cheapest (instance bytes))
    × ((output costs choices : ℕ) (span : Span) → planned (tidied (instance bytes)) output costs choices span ≡ planned bytes output costs choices span)
    × ((plan : List ℕ) → checked (tidied (instance bytes)) plan ≡ checked bytes plan)
copy_plans_alike bytes h reads =
    (ap cheapest (copying.same bytes h reads).1, copying.same_planned bytes h reads, copying.same_checked bytes h reads)

-- ---- Framing

-- The load by which check, planner and the sets that can be placed test a link direction, for any plan or placing: the demand of the streams whose
-- path has it, and 2 more for each of them whose demand is above 0. What is priced is the demand alone, by `cost` of Definition 1.
pub framing_counted :
    (bytes : List ℕ) (h : Sheet) → reading bytes ≡ Ok h →
    (π : ℕ → ℕ) (e : ℕ) →
    carried (instance bytes) π e
    ≡ sum_below (instance bytes).q (λ j. only (member e (routes (instance bytes) π j)) ((instance bytes).load j))
    + 2 * sum_below (instance bytes).q (λ j. only (member e (routes (instance bytes) π j) && ltb 0 ((instance bytes).load j)) 1)
framing_counted bytes h reads = framed_edge (instance bytes) (well_formed bytes h reads)

-- ---- Joints

-- A cabinet of capacity 0 is a joint. On every sheet that the reader accepts, a plan that has a place for each service, each a cabinet of the road from
-- which it is not barred, and has a service on a joint, whatever its demand, gets 15. (`checker::check`.)
pub joint_refused :
    (bytes : List ℕ) (h : Sheet) → reading bytes ≡ Ok h →
    (written : List ℕ) → length written ≡ (instance bytes).r →
    in_range (instance bytes) (place written) ≡ true → bars_keep (instance bytes) (place written) ≡ true →
    (i : ℕ) → i < (instance bytes).r → (instance bytes).capacity (place written i) ≡ 0 →
    checked bytes written ≡ Err (refusal 15)
joint_refused = joints.refused

-- So no plan that is accepted, and by `written_accepted` none that is written, has a service on a joint. (`checker::check`.)
pub accepted_off_joints :
    (bytes written : List ℕ) (k : ℕ) → checked bytes written ≡ Ok k →
    (i : ℕ) → i < (instance bytes).r → 0 < (instance bytes).capacity (place written i)
accepted_off_joints = joints.accepted

-- Nor has a set of services that is placed on a part of the road, which decides what is counted; and the empty set can always be placed.
pub placed_off_joints :
    (bytes : List ℕ) (part : ℕ → Bool) (top a : ℕ) (π : ℕ → ℕ) → keeps (instance bytes) part top a π ≡ true →
    (i : ℕ) → i < (instance bytes).r → has a i ≡ true → 0 < (instance bytes).capacity (π i)
placed_off_joints = joints.placed

pub empty_set_placed :
    (bytes : List ℕ) (h : Sheet) → reading bytes ≡ Ok h → (c : ℕ) → placeable (instance bytes) c 0 ≡ true
empty_set_placed bytes h reads = empty_placeable (instance bytes) (well_formed bytes h reads)

-- ---- The carrier's bill

-- Any bytes, any plan and any tariff, with any places lent, get net, tax and total or one refusal, from 1 to 9, from 13 to 16, from 18 to 20, or 22, in
-- the group of its number. (`bill::bill`, clause `answer`.)
pub bill_answers :
    (bytes plan : List ℕ) (t : Tariff) (lines : ℕ) →
    ((m : ℕ) × (x : ℕ) × (k : ℕ) × (billed bytes plan t lines ≡ bill_of m x k))
    ⊎ ((f : Refusal) × (billed bytes plan t lines ≡ Err f) × Given bill.bill_numbers f)
bill_answers = billing.either

-- Its rules stand in the order of giving, 22 last, and the number given is the first in that order of which a rule applies.
pub bill_gives :
    (bytes plan : List ℕ) (t : Tariff) (lines : ℕ) →
    (in_order giving (bill.all_rules bytes plan t lines) ≡ true)
    × (bill.number (billed bytes plan t lines) ≡ first_of giving (bill.all_rules bytes plan t lines))
bill_gives bytes plan t lines =
    let o = bill_order bytes plan t lines in
    (o, bill_first bytes plan t lines ∙ given_first (bill.all_rules bytes plan t lines) o)

-- Net, tax and total are answered exactly when the check accepts the plan, the tariff is within its limits and there are places for all lines; and then
-- they are those of the definitions.
pub bill_exactly_when :
    (bytes plan : List ℕ) (t : Tariff) (lines : ℕ) (m x k : ℕ) →
    (billed bytes plan t lines ≡ bill_of m x k)
    ↔ (((c : ℕ) × (checked bytes plan ≡ Ok c))
    × (within_limits t ≡ true)
    × (line_count (instance bytes) ≤ lines)
    × (m ≡ net (instance bytes) (place plan) t)
    × (x ≡ tax (instance bytes) (place plan) t)
    × (k ≡ total (instance bytes) (place plan) t))
bill_exactly_when = made_iff

-- There are 2 × (s - 1) + r lines, and no bill has more than that of a sheet with as many cabinets and services as there may be.
pub bill_room :
    (bytes : List ℕ) (h : Sheet) → reading bytes ≡ Ok h →
    (line_count (instance bytes) ≡ 2 * ((instance bytes).s - 1) + (instance bytes).r)
    × (line_count (instance bytes) ≤ 2 * (max_cabinets - 1) + max_services)
bill_room = billing.room

-- With a bill its lines stand at the front of the places lent, and all behind them stays; after a refusal all stays. (`bill::bill`, clauses `answer` and
-- `lines`.)
pub bill_memory :
    (bytes plan lines lines' : List ℕ) (t : Tariff) (a : Billed) →
    a ≡ billed bytes plan t (length lines) →
    lines' ≡ lines_after (instance bytes) (place plan) t a lines →
    LinesLeft (instance bytes) (place plan) t a lines lines'
bill_memory = billing.left

-- The lines: for each cabinet c from 1 the direction up and then the one down, each with the blocks that its load starts, at the block price; then the
-- services, each with its demand, at the slot price. The load is the one that the check tests, by `framing_counted`.
pub bill_lines :
    (I : Instance) (π : ℕ → ℕ) (t : Tariff) →
    ((c : ℕ) → 0 < c → c < I.s →
    (line I π t (2 * (c - 1)) ≡ started (carried I π (up c)) * t.block_price)
    × (line I π t (2 * (c - 1) + 1) ≡ started (carried I π (down c)) * t.block_price))
    × ((i : ℕ) → i < I.r → line I π t (2 * (I.s - 1) + i) ≡ I.demand i * t.slot_price)
bill_lines I π t = (billing.link_lines I π t, billing.service_lines I π t)

-- The blocks started are the least number of hundreds that covers the load; and the tax is net × rate / 1,000 to the nearest cent, a half upward: it is
-- at most a half above that, and less than a half below it.
pub bill_rounds :
    ((load : ℕ) → (load ≤ 100 * started load) × ((count : ℕ) → load ≤ 100 * count → started load ≤ count))
    × ((m rate : ℕ) → (1000 * tax_on m rate ≤ m * rate + 500) × (m * rate < 1000 * tax_on m rate + 500))
bill_rounds = (λ load. (started_covers load, started_least load), λ m rate. (tax_high m rate, tax_low m rate))

-- The lines that stand in the places lent sum to the net; the tax is that on the net; the total is net plus tax. (`bill::bill`, clauses `answer` and
-- `lines`.)
pub bill_sums :
    (bytes plan lines lines' : List ℕ) (t : Tariff) (m x k : ℕ) →
    billed bytes plan t (length lines) ≡ bill_of m x k →
    lines' ≡ lines_after (instance bytes) (place plan) t (bill_of m x k) lines →
    (sum_below (line_count (instance bytes)) (λ n. get_or lines' n 0) ≡ m) × (x ≡ tax_on m t.tax_rate) × (k ≡ m + x)
bill_sums = billing.sums

-- No figure of a bill passes 64 bits: no line is above the net, the net is below 2^31 and the total below 2^32; nor does net × rate with the half that
-- is added to round it.
pub bill_fits :
    (bytes plan : List ℕ) (t : Tariff) (lines m x k : ℕ) →
    billed bytes plan t lines ≡ bill_of m x k →
    ((n : ℕ) → n < line_count (instance bytes) → line (instance bytes) (place plan) t n ≤ m)
    × (m < 2 ^ 31)
    × (m * t.tax_rate + 500 < 2 ^ 64)
    × (k < 2 ^ 32)
bill_fits = billing.low

-- A sheet and its tidy copy get the same bills.
pub copy_bills_alike :
    (bytes : List ℕ) (h : Sheet) → reading bytes ≡ Ok h →
    (plan : List ℕ) (t : Tariff) (lines : ℕ) → billed (tidied (instance bytes)) plan t lines ≡ billed bytes plan t lines
copy_bills_alike = billing.same_billed

-- ---- One cabinet changed

-- After a plan and after 12 of a keeping call both tables are kept of the sheet's instance: each of the first s × 2^r entries of the span is a function of
-- the instance alone, and all others stay; after any other refusal both tables are as they were. After a plan the output stays from place r on, after any
-- refusal all of it. (`planner::keep`, clauses `answer`, `output`, `costs`, `choices`.)
pub keep_memory :
    (bytes output costs choices output' costs' choices' : List ℕ) (span : Span) (a : Planned) →
    a ≡ planned bytes (length output) (length costs) (length choices) span →
    OutputAfter (instance bytes) a output output' →
    costs' ≡ front_after (instance bytes) a span (kept_costs (instance bytes)) costs →
    choices' ≡ front_after (instance bytes) a span (kept_choices (instance bytes)) choices →
    KeptLeft (instance bytes) a span output costs choices output' costs' choices'
keep_memory = planning.left_kept

-- For every list of planning, keeping and editing calls on one span, whatever it held before, with nothing else writing its entries, where each edit that
-- nothing refuses beforehand comes after a keeping call that gave a plan or 12, with no planning call in between that did so, and has a sheet that differs
-- from the last one taken in that cabinet's record only, its parent excepted: each such edit is taken, gives a plan or 12, and its answer, its output and
-- both tables are those of a keeping call on its sheet; each other edit leaves all memory; and none gives 23. Of a call no more is known there than its
-- contract. (`planner::plan`, `planner::keep`, `edit::edit`.)
pub edits_fresh :
    (s : Span) (t u : List ℕ) (cs : List Turn) → OnSpan s t u cs → InTheRule nothing cs → AllFresh cs
edits_fresh s t u cs on rule = lists.all_fresh cs s nothing t u tt on rule

-- That the joints of two sheets are the same but at one cabinet, which `Changed` names too, follows from what it says of the capacities.
pub joints_follow :
    (bytes others : List ℕ) (e : ℕ) → (instance bytes).s ≡ (instance others).s →
    Beside e (instance bytes).capacity (instance others).capacity → Beside e (instance bytes).joint (instance others).joint
joints_follow = joints_beside

-- The contract of an edit can be met: for every sheet, number, memory and span some answer and some memory after it stand in it.
pub edit_possible :
    (sheet : List ℕ) (e : ℕ) (output costs choices : List ℕ) (span : Span) →
    (a : Planned) × (output' : List ℕ) × (costs' : List ℕ) × (choices' : List ℕ)
    × Edits (called sheet e output costs choices span a output' costs' choices')
edit_possible = some_outcome

-- Any bytes, any number and any tables, with any memory lent and any span, get a plan or one refusal, from 1 to 12, 14, 18, 19, 23 or 24; it stands in the
-- group of its number, and only 12 has a count. (`edit::edit`.)
pub edit_answers :
    (d : Call) → Edits d →
    ((k : ℕ) × (n : ℕ) × (d.answer ≡ plan_of k n))
    ⊎ ((f : Refusal) × (n : ℕ) × (d.answer ≡ unplanned f n) × Given edit_numbers f × ((number_of f ≡ 12 → ⊥) → n ≡ 0))
edit_answers = editing.answered

-- The rules tried beforehand stand in the order of giving, 14 last, and where one of them applies the number given is the first in that order of which
-- one does. (`edit::edit`.)
pub edit_gives :
    (d : Call) → Edits d →
    (in_order giving (rules_before d.sheet d.cabinet (length d.output) (length d.costs) (length d.choices) d.span) ≡ true)
    × (number_before d ≡ first_of giving (rules_before d.sheet d.cabinet (length d.output) (length d.costs) (length d.choices) d.span))
    × ((number_before d ≡ 0 → ⊥) → plan.number d.answer ≡ number_before d)
edit_gives = editing.gives

-- A plan that an edit hands out, from any tables whatever, is accepted by the check at the cost answered; so with some paths it is a mapping that is
-- feasible by Definition 1, keeps the limits, and costs that. (`edit::edit`.)
pub edit_plan_accepted :
    (d : Call) → Edits d →
    (k n : ℕ) → d.answer ≡ plan_of k n →
    (checked d.sheet (take (asked d).r d.output') ≡ Ok k) × Maps (asked d) (place (take (asked d).r d.output')) k
edit_plan_accepted = editing.plan_accepted

-- ---- Two roads, a single pair of tables

-- 24 applies exactly if first entry plus number of entries is above either table's length; and the memory is enough exactly if the output has r places,
-- that sum is above neither length, and the span has s × 2^r entries. (`lending::measure`.)
pub span_measured :
    (I : Instance) (output costs choices : ℕ) (span : Span) →
    ((runs_past span costs || runs_past span choices ≡ true) ↔ ((costs < span.first + span.number) ⊎ (choices < span.first + span.number)))
    × (Enough I output costs choices span
    ↔ ((I.r ≤ output) × (span.first + span.number ≤ costs) × (span.first + span.number ≤ choices) × (plan.entries I ≤ span.number)))
span_measured I output costs choices span =
    (either_past span costs choices, enough_iff I.r (plan.entries I) output costs choices span)

-- On the whole of the shorter table, which the calls without a span take, the lender's refusals are the two of 01: there is no 24, and 11 is given where a
-- table is shorter than s × 2^r entries.
pub whole_measured :
    (I : Instance) (output costs choices : ℕ) →
    first_applying (lender_rules I.r (plan.entries I) output costs choices (whole costs choices))
    ≡ first_applying (
    record { number = 10; applies = ltb output I.r }
    ∷ record { number = 11; applies = ltb costs (plan.entries I) || ltb choices (plan.entries I) }
    ∷ [])
whole_measured I output costs choices = whole_rules I.r (plan.entries I) output costs choices

-- No call, of whatever kind and with whatever answer, changes an entry outside its span, or a table's length. (`planner::plan`, `planner::keep`,
-- `edit::edit`.)
pub outside_stays :
    (k : Kind) (d : Call) → Does k d →
    OutsideStays d.span d.costs d.costs' × OutsideStays d.span d.choices d.choices'
outside_stays = roads.outside

-- Spans of which one ends before the other begins have no entry in common, also if they touch.
pub beside_apart :
    (a b : Span) → a.first + a.number ≤ b.first → Apart a b
beside_apart = spans.beside_apart

-- For every two lists of calls on one pair of tables each, and two spans that do not overlap, each call on its road's span, with nothing else writing the
-- tables: if one road's calls are made alike in both, and its edits are in the rule in the first, then its answers, its outputs and the entries of its span
-- are the same in both after every call, whatever the other road's calls in either are, and whatever else the tables hold. With no calls of the other road
-- in the second list: one road's answers, outputs and entries are those of its own calls alone. The other road's edits need not be in the rule.
pub roads_alone :
    (spans : Road → Span) → Apart (spans one) (spans other) →
    (r : Road) (t u t₂ u₂ : List ℕ) (xs ys : List Shared) →
    OnTables spans t u xs → OnTables spans t₂ u₂ ys →
    AgreeOn (spans r) t t₂ → AgreeOn (spans r) u u₂ →
    AllPairs Alike (own r xs) (own r ys) → InTheRule nothing (own r xs) →
    AllPairs (Same (spans r)) (own r xs) (own r ys)
roads_alone = same_alone

-- And each of its edits that nothing refuses beforehand does what a keeping call on its sheet does, as in `edits_fresh`.
pub roads_fresh :
    (spans : Road → Span) → Apart (spans one) (spans other) →
    (r : Road) (t u : List ℕ) (xs : List Shared) →
    OnTables spans t u xs → InTheRule nothing (own r xs) → AllFresh (own r xs)
roads_fresh = both.roads_fresh

-- Such lists can be made: whatever calls are asked for, on any spans and tables, some list of calls is what was asked for and meets every contract.
pub roads_possible :
    (spans : Road → Span) (os : List Order) (t u : List ℕ) →
    (xs : List Shared) × OnTables spans t u xs × (orders xs ≡ os)
roads_possible = lists_possible

-- ---- Surveys that start at the other end

-- Where the second of two accepted sheets is the first rehung and renumbered, the planner, with memory enough for each, whatever it held, gives 12 for both
-- or a plan of the same cost for both. Each count is that of its own road, and they may differ. (`planner::plan`, clause `answer`.)
pub rehung_answers :
    (bytes : List ℕ) (h : Sheet) → reading bytes ≡ Ok h →
    (others : List ℕ) (k : Sheet) → reading others ≡ Ok k →
    (σ : ℕ → ℕ) → Rehung (instance bytes) (instance others) σ →
    (output costs choices : ℕ) (span : Span) → Enough (instance bytes) output costs choices span →
    (output' costs' choices' : ℕ) (span' : Span) → Enough (instance others) output' costs' choices' span' →
    SameCost (instance bytes) (instance others) (planned bytes output costs choices span) (planned others output' costs' choices' span')
rehung_answers = surveys.same_cost

-- This is so since every mapping that is feasible by Definition 1 and keeps the limits goes over, with each service where its cabinet went, at the same cost.
pub rehung_mapping :
    (bytes : List ℕ) (h : Sheet) → reading bytes ≡ Ok h →
    (others : List ℕ) (k : Sheet) → reading others ≡ Ok k →
    (σ : ℕ → ℕ) → Rehung (instance bytes) (instance others) σ →
    (π : ℕ → ℕ) (n : ℕ) → Maps (instance bytes) π n → Maps (instance others) (λ i. σ (π i)) n
rehung_mapping = surveys.mapping_over

-- And back, for the first is the second rehung, by numbers that undo the others.
pub rehung_back :
    (bytes : List ℕ) (h : Sheet) → reading bytes ≡ Ok h →
    (others : List ℕ) (k : Sheet) → reading others ≡ Ok k →
    (σ : ℕ → ℕ) → Rehung (instance bytes) (instance others) σ →
    (τ : ℕ → ℕ) × Rehung (instance others) (instance bytes) τ × ((c : ℕ) → c < (instance bytes).s → τ (σ c) ≡ c)
rehung_back bytes h reads others k reads' = rule.rehung_back (instance bytes) (instance others) (well_formed bytes h reads) (well_formed others k reads')

-- A link connects two cabinets of the first exactly when it connects them in the second. So neither has a link that the other has not, though `Rehung` asks
-- that of the first one's links alone.
pub rehung_links :
    (bytes : List ℕ) (h : Sheet) → reading bytes ≡ Ok h →
    (others : List ℕ) (k : Sheet) → reading others ≡ Ok k →
    (σ : ℕ → ℕ) → Rehung (instance bytes) (instance others) σ →
    (l : Link) (a b : ℕ) → a < (instance bytes).s → b < (instance bytes).s → Connects (instance bytes) l a b ↔ Connects (instance others) l (σ a) (σ b)
rehung_links bytes h reads others k reads' = rule.rehung_links (instance bytes) (instance others) (well_formed bytes h reads) (well_formed others k reads')

-- Every sheet is itself rehung, with all numbers as they are. Where a second sheet is a first one rehung, and a third one the second, the third is the
-- first one rehung.
pub rehung_itself : (bytes : List ℕ) → Rehung (instance bytes) (instance bytes) (λ c. c)
rehung_itself bytes = rule.rehung_itself (instance bytes)

pub rehung_on :
    (bytes : List ℕ) (h : Sheet) → reading bytes ≡ Ok h →
    (others thirds : List ℕ) (σ τ : ℕ → ℕ) → Rehung (instance bytes) (instance others) σ → Rehung (instance others) (instance thirds) τ →
    Rehung (instance bytes) (instance thirds) (λ c. τ (σ c))
rehung_on bytes h reads others thirds = rule.rehung_on (instance bytes) (instance others) (instance thirds) (well_formed bytes h reads)

-- A plan that the check accepts for the first, written with the new numbers, it accepts for the second at the same cost. (`checker::check`.)
pub rehung_checked :
    (bytes : List ℕ) (h : Sheet) → reading bytes ≡ Ok h →
    (others : List ℕ) (k : Sheet) → reading others ≡ Ok k →
    (σ : ℕ → ℕ) → Rehung (instance bytes) (instance others) σ →
    (plan : List ℕ) (n : ℕ) → checked bytes plan ≡ Ok n → checked others (map σ plan) ≡ Ok n
rehung_checked = surveys.plan_over

-- That joints are carried along, which `Rehung` names too, follows from what it says of the capacities.
pub rehung_joints :
    (bytes others : List ℕ) (σ : ℕ → ℕ) → (instance others).s ≡ (instance bytes).s →
    ((c : ℕ) → c < (instance bytes).s → σ c < (instance bytes).s) →
    ((c : ℕ) → c < (instance bytes).s → (instance others).capacity (σ c) ≡ (instance bytes).capacity c) →
    (c : ℕ) → c < (instance bytes).s → (instance others).joint (σ c) ≡ (instance bytes).joint c
rehung_joints = surveys.joints_over
