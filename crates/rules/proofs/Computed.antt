-- What a computed case looks through: a proof with the line `unfolding rules` computes with every definition of 01 and 02. Assumes nothing.
use Rattle.number.specs.Number.{signed_of, bits_of}
use Rattle.record.specs.GraphRecords.{row_of, names_array, uses_constant}
use Rattle.record.specs.GraphRecords as Graph
use Rattle.record.specs.Paths.{path_number, path_words, is_root, same_path, decide_words, decide_path}
use Rattle.record.specs.TokensAndTags.{content_of, is_input, same_tag, stands_at}
use Rattle.record.specs.TokensAndTags as Tokens
use Rattle.record.specs.Calls.{next_of, enter_within, leave_of}
use Rattle.record.specs.Cells as Cells
use Rattle.record.specs.Logs as Logs
use Rattle.record.specs.Arrays as Arrays
use Rattle.arithmetic.specs.Arithmetic.{ranged, divided, compute_of}
use Rattle.arithmetic.specs.Ranges.{outcome, equalities, remainders, outcomes, range_of}
use Rattle.machine.specs.Machine.{machine}
use Rattle.rules.specs.Check.{instruction_at, operands_at, fan_out_allowed, is_zero, unused_are_zero, good_arc, within, enters_site, other_return, good_site, check_record, check_graph, check_stores, inside_store, names_good, check_arrays, good_input, second_input, check_inputs, check}
use Rattle.rules.specs.InstructionSet.{send_computed, side_of, send_next, send_entered, return_of, send_returned, send_left, on_cell, number_in, array_at, cell_number, effect_of, effect_in, is_result, arity_in, decide_tag}
use Rattle.rules.specs.Profile.{check_profile_stores, check_profile, profile_unless_failed, profiled}
use Rattle.rules.specs.Log.{names_in, check_log_stores, check_logged, log_unless_failed, logged, log_after, replayed}
use Rattle.rules.specs.Needs.{sends_to, port_reached, all_reached, rounds, reached, firings_needed, outputs_needed, total, loop_free, check_needs, needs}
use Rattle.machine.specs.Sequences.{log_of}
use Rattle.machine.specs.Steps.{profile}
use Rattle.machine.specs.Replay.{replay}
use Rattle.machine.specs.Choosers.{run_from, log_from}
use Rattle.rules.specs.Held.{stands_in, is_pending, holds_back, held_in}
use Rattle.rules.specs.Bounded.{good_bound, and_bound, check_bounded, bounded, check_bound_logged, bound_logged, check_bound_saved, bound_carried}
use Rattle.rules.specs.Run.{first_state, picks_of, unless_failed, result, answer, ledger_after, cells_after}
use Rattle.rules.specs.RangeSet.{send_range, is_undecided, send_side, on_single, range_effect_of, range_effect_in}
use Rattle.rules.specs.RangeRun.{decode_range, encode_range, encode_range_cell, check_range_stores, check_range_inputs, check_ranges, first_ranges, ranges_unless_failed, range_result, range_answer, range_ledger_after, range_cells_after}

unfoldable pub rules : Unit {0}
unfolding signed_of bits_of row_of names_array uses_constant Graph.decode_instruction Graph.encode_instruction path_number path_words is_root same_path content_of is_input same_tag stands_at Tokens.decode_token Tokens.encode_token next_of enter_within leave_of Cells.cell_of Cells.decode_cell Cells.encode_cell Arrays.decode_array ranged divided compute_of machine instruction_at operands_at fan_out_allowed is_zero unused_are_zero good_arc within enters_site other_return good_site check_record check_graph check_stores inside_store names_good check_arrays good_input second_input check_inputs check send_computed side_of send_next send_entered return_of send_returned send_left on_cell number_in array_at cell_number effect_of effect_in is_result arity_in decide_words decide_path decide_tag first_state picks_of unless_failed result answer ledger_after cells_after profile check_profile_stores check_profile profile_unless_failed profiled log_of replay Logs.encode_activity Logs.name_of names_in check_log_stores check_logged log_unless_failed logged log_after replayed sends_to port_reached all_reached rounds reached firings_needed outputs_needed total loop_free check_needs needs run_from log_from stands_in is_pending holds_back held_in good_bound and_bound check_bounded bounded check_bound_logged bound_logged check_bound_saved bound_carried outcome equalities remainders outcomes range_of send_range is_undecided send_side on_single range_effect_of range_effect_in decode_range encode_range encode_range_cell check_range_stores check_range_inputs check_ranges first_ranges ranges_unless_failed range_result range_answer range_ledger_after range_cells_after
rules = tt
