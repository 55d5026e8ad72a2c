-- The definitions of a verdict and of an evaluation, for proofs by computation: `unfolding definitions` opens them all. Assumes nothing.
use Rattle.model.specs.Tests.{◌and◌, ◌or◌, non, ◌=?◌, ◌<?◌, ◌≤?◌, any, every, pick, first}
use Rattle.model.specs.Answers.{report, written_report, charge_report}
use Rattle.model.specs.Outcomes.{require, ◌then◌, scan, conclude}
use Rattle.model.specs.Bytes.{boundary, body}
use Rattle.model.specs.Recursion.{below, levels, course}
use Rattle.model.specs.Partitions.{union, intersection, difference, image, preimage, contiguous, equal_start}
use Rattle.model.specs.Layout.{shapes, shape_of, section_check, layout_check}
use Rattle.model.specs.Statements.{kind_of, opens_loop, defines_variable, access_of, is_access, kind, opens, defines, accesses, loop_before, variables, definition, operand_by, operand, operand_definition, field_by, access_field, region_by, variable_region, centered_by, centered, statement_formed_by, statement_formed, statement_agrees_by, statement_agrees, statement_check}
use Rattle.model.specs.Parallel.{is_read, is_write, is_reduce, reads, writes, reduces, uncentered, access_of_loop, same_target, conflicts, parallelizable, loop_check, reduces_through_pointer}
use Rattle.model.specs.Nodes.{node_kind_of, node_kind_at, node_formed_by, node_formed, node_region_by, node_region_step, node_region, node_agrees_by, node_agrees, same_node, duplicate_node, node_check}
use Rattle.model.specs.Lemmas.{lemmas, lemma_row, in_use, is_subset, is_disjoint, is_complete, concludes_subset, concludes_disjoint, concludes_complete, operand_of, is_node, is_private_part, licences, licence, step_formed, step_licensed, step_check}
use Rattle.model.specs.Needs.{has_symbol, symbol, symbol_region, assignment_count_check, assignment_check, image_node, bound_by, bound, loop_needs_met, access_need_met, need_check}
use Rattle.model.specs.Declarations.{region_check, map_check, supplied_check}
use Rattle.model.specs.Verdict.{records_check, plan_check, verdict}
use Rattle.model.specs.DataSets.{size, entry_start, entry, low, past, maps_to, piece_bytes, member_start, supplied_bit, supplied, entry_fits, entries_check, supplied_disjoint, supplied_complete, pad_bits_clear, declarations_hold, well_framed, data_check}
use Rattle.model.specs.Membership.{equal, node_sets_by, node_sets, member}
use Rattle.model.specs.Words.{bit, holds, from_bits, word, store, list_after}
use Rattle.model.specs.Counting.{count, sum, ones, without, ones_lacking}
use Rattle.model.specs.Evaluation.{inputs_check, evaluation_check, evaluation, node_word, filled_words}
use Rattle.model.specs.Provenance.{ends_by, least_source, least_target, next_by, next_pair, pair_at, chain_length, chain_pair, pairs_needed, question_check, chain_room_check, explanation_check, explanation}
use Rattle.model.specs.Transfers.{fetched, transfer_count, transfer_ones, transfer_check, priced, charge_check, charge}

unfoldable pub definitions : Unit {0}
unfolding
    report verdict plan_check layout_check section_check shape_of shapes boundary body conclude require ◌then◌ scan
    records_check region_check map_check supplied_check statement_check loop_check node_check assignment_count_check assignment_check step_check need_check
    ◌and◌ ◌or◌ non ◌=?◌ ◌<?◌ ◌≤?◌ any every pick first below levels course
    kind_of opens_loop defines_variable access_of is_access kind opens defines accesses loop_before variables definition operand_by operand field_by access_field
    operand_definition region_by variable_region centered_by centered statement_formed_by statement_formed statement_agrees_by statement_agrees
    is_read is_write is_reduce reads writes reduces uncentered access_of_loop same_target conflicts parallelizable reduces_through_pointer
    node_kind_of node_kind_at node_formed_by node_formed node_region_by node_region_step node_region node_agrees_by node_agrees same_node duplicate_node
    lemmas lemma_row in_use is_subset is_disjoint is_complete concludes_subset concludes_disjoint concludes_complete operand_of is_node is_private_part licences licence
    step_formed step_licensed has_symbol symbol symbol_region image_node bound_by bound loop_needs_met access_need_met
    union intersection difference image preimage contiguous equal_start
    size entry_start entry low past maps_to piece_bytes member_start supplied_bit supplied equal node_sets_by node_sets member
    entry_fits entries_check supplied_disjoint supplied_complete pad_bits_clear declarations_hold well_framed data_check
    inputs_check evaluation_check evaluation node_word filled_words bit holds from_bits word store
    ends_by least_source least_target next_by next_pair pair_at chain_length chain_pair pairs_needed question_check chain_room_check explanation_check explanation
    written_report list_after
    count sum ones without ones_lacking fetched transfer_count transfer_ones transfer_check priced charge_check charge charge_report
definitions = tt
