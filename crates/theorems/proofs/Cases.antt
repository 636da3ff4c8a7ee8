-- Every worked case holds, by computation from the definitions.
use mathlib.Core.Path.{refl}
use Rattle.finite.proofs.Decides.{alike}
use Rattle.finite.specs.Below.{◌⇒◌, only, sum_below, all_below, any_below, sum_over}
use Rattle.sheet.specs.Layout.{pairs_count, header, service_in, cabinet_in, stream_in, pair_in, service, cabinet, stream, pair}
use Rattle.sheet.specs.Conditions.{beyond_limits, outside, some_block_outside, holds, share, some_blocks_share, cabinet_too_high, some_amount_too_high, wrong_parent, some_parent_wrong, wrong_ends, some_ends_wrong, linked, root_linked, shared_by_pairs, pairs_block_wrong, wrong_pair, some_pair_wrong}
use Rattle.sheet.specs.Refusals.{refusal, first_applying}
use Rattle.sheet.specs.Reading as reader
use Rattle.sheet.specs.Instance.{names, some_names, is_joint, instance}
use Rattle.embedding.specs.Definition1.{member}
use Rattle.embedding.specs.Road.{up, down, lower, by_way, edge_price}
use Rattle.subsets.specs.Costs.{lesser, least_below, provided}
use Rattle.subsets.specs.Sets.{has, subset}
use Rattle.subsets.specs.Tree.{climb, under, part}
use Rattle.embedding.specs.Splits.{stands, keeps, placeable, weighed}
use Rattle.planner.specs.Answers.{planned}
use Rattle.embedding.specs.First.{nth_plan, first_from, equals, is_cheapest, first_number, first_plan, places}
use Rattle.embedding.specs.Limits.{frames, weight}
use Rattle.embedding.proofs.RehungTest.{link_test, hangs_test, connects_test, rehung_test, rehung_decided, rehung_refuted}
use Rattle.embedding.specs.Plan.{toll, path_within, path, routes, digit, valid, worth, cheapest, demand_of, fits, unbarred, powered, admits, link_fits, fee, carried, link_keeps, in_range, bars_keep, rooms_keep, joints_keep, cabinets_keep, links_keep, cabinets_cost, links_cost, plan_cost}
use Rattle.checker.specs.Check as checks
use Rattle.bill.specs.Tariff.{within_limits}
use Rattle.bill.specs.Lines.{started, tax_on, directions, line_count, service_line, blocks, link_line, line, net, tax, total}
use Rattle.bill.specs.Answers.{plan_billed, billed_after, billed}
use Rattle.tidy.specs.Words.{concat_below}
use Rattle.tidy.specs.Copy.{fourth_size, fourth_from, service_pairs, pair_words, service_count, pair_count, fourth_words, tidy_words, tidied}
use Rattle.tidy.specs.Answers as tidy
use Rattle.subsets.specs.Inner.Totals as totals
use Rattle.subsets.specs.Inner.Encoded as encoded
use Rattle.subsets.specs.Inner.Splits as splits
use Rattle.subsets.specs.Inner.Rows as rows
use Rattle.subsets.specs.Inner.Count as counts
use Rattle.subsets.specs.Inner.Keys as keys
use Rattle.subsets.specs.Inner.Kept as kept
use Rattle.embedding.specs.Inner.Charge as charges
use Rattle.planner.specs.Kept as tables
use Rattle.planner.specs.Inner.Tables as entries
use Rattle.theorems.specs.Cases.{AllHold, cases}

pub cases_hold : AllHold cases
unfolding ◌⇒◌ only sum_below all_below any_below sum_over pairs_count header service_in cabinet_in stream_in pair_in service cabinet stream pair beyond_limits outside some_block_outside holds share some_blocks_share cabinet_too_high some_amount_too_high wrong_parent some_parent_wrong wrong_ends some_ends_wrong linked root_linked shared_by_pairs pairs_block_wrong wrong_pair some_pair_wrong refusal first_applying reader.rules reader.answered reader.reading names some_names is_joint instance member up down lower by_way edge_price path_within path routes demand_of fits unbarred powered admits link_fits fee frames weight carried link_keeps in_range bars_keep rooms_keep joints_keep cabinets_keep links_keep cabinets_cost links_cost plan_cost checks.rules checks.answered checks.plan_checked checks.checked_after checks.checked lesser least_below provided has subset climb under part stands keeps placeable weighed planned digit valid worth cheapest nth_plan first_from equals is_cheapest first_number first_plan places concat_below fourth_size fourth_from service_pairs pair_words service_count pair_count fourth_words tidy_words tidied tidy.written tidy.answered tidy.tidy_answer within_limits started tax_on directions line_count service_line blocks link_line line net tax total plan_billed billed_after billed encoded.figure splits.least_subset splits.largest_below splits.winner rows.grown rows.whole rows.row_at rows.choice_at counts.pairs keys.key keys.times kept.kept_choice charges.leaving charges.entering charges.cabinet_charge charges.link_charge totals.◌⊕◌ tables.kept_costs tables.kept_choices entries.cost_entry entries.choice_entry toll alike link_test hangs_test connects_test rehung_test
cases_hold =
    (refl, (refl, (refl, (refl, (refl, (refl, (refl, (refl, ((refl, refl), (refl, (refl, ((refl, refl), (refl, (refl, (refl, (refl, ((refl, refl), (refl, (refl, (refl, (refl, (refl, (refl, ((refl, refl), (refl, (refl, (refl, (refl, (refl, (refl, (refl, (refl, (refl, (refl, (refl, (refl, (refl, (refl, (refl, (refl, (refl, (refl, (refl, (refl, (refl, (refl, (refl, (refl, (refl, ((refl, refl), ((refl, refl), ((refl, refl), ((refl, refl), ((refl, refl), ((refl, refl), ((refl, refl), (refl, (refl, (refl, (refl, (refl, (refl, (refl, (refl, (refl, (refl, (refl, (refl, ((refl, refl, refl), ((refl, refl, refl), ((refl, refl, refl), (refl, (refl, (refl, (refl, (refl, (refl, (refl, (refl, (refl, (refl, (refl, (refl, (refl, (refl, (refl, (refl, (refl, (refl, (refl, (refl, (refl, ((refl, refl), (refl, ((refl, refl), (refl, ((refl, refl), (refl, (refl, ((refl, refl, refl), ((refl, refl, refl), ((rehung_decided _ _ _).0 refl, (refl, ((refl, refl), ((rehung_decided _ _ _).0 refl, (refl, ((rehung_decided _ _ _).0 refl, (refl, ((rehung_decided _ _ _).0 refl, (refl, ((rehung_decided _ _ _).0 refl, ((rehung_decided _ _ _).0 refl, (rehung_refuted _ _ _ refl, (rehung_refuted _ _ _ refl, (rehung_refuted _ _ _ refl, (rehung_refuted _ _ _ refl, tt))))))))))))))))))))))))))))))))))))))))))))))))))))))))))))))))))))))))))))))))))))))))))))))))))))))))))))))))))))
