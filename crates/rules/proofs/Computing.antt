-- One name for all definitions of this crate: where it unfolds, they all compute. For examples that
-- are proved by computing.
use Rattle.rules.specs.Encoding.{opaque, bytes_after, uint, read_bytes, read_uint, read_opaque}
use Rattle.rules.specs.Configuration.{read_present, read_optional, read_configuration, write_optional}
use Rattle.rules.specs.Configuration.{write_configuration, tree_head}
use Rattle.rules.specs.VrfOutputs.{read_record, read_records, read_outputs, has_output, output_of}
use Rattle.rules.specs.State.{is_valid, empty_state, new_state}
use Rattle.rules.specs.StateText.{read_keep, read_pair, read_state_lines, read_state, read_state_text}
use Rattle.rules.specs.StateText.{write_keep, write_pair, write_state}
use Rattle.rules.specs.Response.{kind_of, target_of, is_included, log_entry}
use Rattle.rules.specs.ResponseText.{read_siblings, read_commitment, read_step, read_in, read_no, read_nl}
use Rattle.rules.specs.ResponseText.{read_node, read_entry_line, read_item, grouped, read_body, read_rest}
use Rattle.rules.specs.ResponseText.{read_kind_line, read_parts, read_response, write_target, write_step}
use Rattle.rules.specs.ResponseText.{write_result, write_lookup, write_entry, write_node, write_response}
use Rattle.rules.specs.Commitment.{commitment_key, commitment_value, commitment_to, commitment_strings}
use Rattle.rules.specs.Kinds.{asked_at, put_entry}
use Rattle.rules.specs.Search.{search_target_wrong, asked_by_search, is_beginning, is_included_above}
use Rattle.rules.specs.Search.{result_fits, is_complete, ends_early, early_then_complete, map_after_search}
use Rattle.rules.specs.Search.{search_rules}
use Rattle.rules.specs.Monitoring.{reaches, versions_reaching, versions_shown, monitored_positions}
use Rattle.rules.specs.Monitoring.{asked_by_monitoring, versions_of, all_included, map_after_monitoring}
use Rattle.rules.specs.Monitoring.{monitoring_rules}
use Rattle.rules.specs.Refusals.{reading, lengths_fit, valid_state, read_call, rules_for, kind_rules}
use Rattle.rules.specs.Refusals.{same_kind, kind_asked, foreign, size_wrong, target_wrong, asked}
use Rattle.rules.specs.Refusals.{commitment_asked, entries_asked, log_walk, not_as_asked, output_missing}
use Rattle.rules.specs.Refusals.{timestamp_fits, last_timestamp, timestamps_wrong, step_commitment}
use Rattle.rules.specs.Refusals.{commitment_by, commitment_of, terminal, lookup_holds, lookup_passes}
use Rattle.rules.specs.Refusals.{lookups_hold, lookup_fails, results_wrong, known, history_differs, log_root}
use Rattle.rules.specs.Refusals.{tree_head_of, head_differs, value_found, map_after, room_missing, checks}
use Rattle.rules.specs.Refusals.{last_checks, tried, tried_after, judge, judge_without_head}
use Rattle.rules.specs.Calls.{judge_call, library_inputs, inputs_within, judge_search, judge_monitoring}
use Rattle.rules.specs.Calls.{number_of, next_log, next_state, state_after, value_of, written_first}
use Rattle.rules.specs.Calls.{output_after, judge_unsigned, placed, signed_text_after, text_judged}
use Rattle.rules.specs.Calls.{room_judged, kt_call, kt_search, kt_monitor, text_of, text_after, answer_word}
use Rattle.rules.specs.Calls.{kind_numbered, kt_signed_text}
use Rattle.rules.specs.Program.{within, request_of, read_request_line, broken_request, read_request}
use Rattle.rules.specs.Program.{requested, judge_files, printed_version, printed}
use Rattle.rules.specs.Hashed.{hashed_by_lookup, hashed_by_entry, hashed_for_target, hashed}
use Rattle.rules.specs.Consistency.{accepted, accepted_calls, shown_by}

unfoldable pub rule_definitions : Unit {0}
unfolding opaque bytes_after uint read_bytes read_uint read_opaque read_present read_optional read_configuration write_optional write_configuration tree_head read_record read_records read_outputs has_output output_of is_valid empty_state new_state read_keep read_pair read_state_lines read_state read_state_text write_keep write_pair write_state kind_of target_of is_included log_entry read_siblings read_commitment read_step read_in read_no read_nl read_node read_entry_line read_item grouped read_body read_rest read_kind_line read_parts read_response write_target write_step write_result write_lookup write_entry write_node write_response commitment_key commitment_value commitment_to commitment_strings asked_at put_entry search_target_wrong asked_by_search is_beginning is_included_above result_fits is_complete ends_early early_then_complete map_after_search search_rules reaches versions_reaching versions_shown monitored_positions asked_by_monitoring versions_of all_included map_after_monitoring monitoring_rules reading lengths_fit valid_state read_call rules_for kind_rules same_kind kind_asked foreign size_wrong target_wrong asked commitment_asked entries_asked log_walk not_as_asked output_missing timestamp_fits last_timestamp timestamps_wrong step_commitment commitment_by commitment_of terminal lookup_holds lookup_passes lookups_hold lookup_fails results_wrong known history_differs log_root tree_head_of head_differs value_found map_after room_missing checks last_checks tried tried_after judge judge_without_head library_inputs inputs_within judge_search judge_call judge_monitoring number_of next_log next_state state_after value_of written_first output_after judge_unsigned placed signed_text_after text_judged room_judged kt_search kt_call kt_monitor text_of text_after answer_word kind_numbered kt_signed_text within request_of read_request_line broken_request read_request requested judge_files printed_version printed hashed_by_lookup hashed_by_entry hashed_for_target hashed accepted accepted_calls shown_by
rule_definitions = tt
