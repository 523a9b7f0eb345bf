-- Small calls made by the tests' honest log and case generator, computed with the real SHA-256. This file is written by that
-- generator (tests/compare, `write_theorems`), and the tests compare it with what the generator writes.
use mathlib.Core.Path.{◌≡◌, refl}
use mathlib.Core.List.{[], ◌++◌}
use mathlib.Core.Option.{Option, none, some}
use Prim.Native.Nat.{ℕ}
use Rattle.lists.specs.Lists.{Bytes}
use Rattle.lines.specs.Number.{ascii}
use Rattle.rules.specs.StateText.{read_state}
use Rattle.rules.specs.Response.{search, monitor}
use Rattle.rules.specs.Refusals.{Inputs, Judgement, judge}
use Rattle.rules.specs.Calls.{number_of, text_of, value_of}
use Rattle.rules.proofs.Running.{x, opened}
use Rattle.rules.proofs.Cases.{asking}

-- the number, the text of the new state, the value
unfoldable pub answered : Judgement → ℕ × (Option Bytes × Option Bytes)
answered j = (number_of j, (text_of j, value_of j))

unfoldable pub answer : Bytes → Inputs → ℕ × (Option Bytes × Option Bytes)
answer text i = answered (judge (read_state text) i)

abbrev entry_line_1 : Bytes
entry_line_1 = ascii "entry\t0\t1\tc84bd6e53097851a2fcf3445ab968fd214e7378a2768f3f09b4433931c449a95\n"

abbrev entry_line_2 : Bytes
entry_line_2 = ascii "entry\t1\t2\tc84bd6e53097851a2fcf3445ab968fd214e7378a2768f3f09b4433931c449a95\n"

abbrev entry_line_3 : Bytes
entry_line_3 = ascii "entry\t2\t3\tc84bd6e53097851a2fcf3445ab968fd214e7378a2768f3f09b4433931c449a95\n"

abbrev identifier_1 : Bytes
identifier_1 = x "000102030405060708090a0b0c0d0e0f"

abbrev keep_line_1 : Bytes
keep_line_1 = ascii "keep\t5140ad3f725c8263d9e9d55d842adb893669973675ee71a8f5e4403f5ca55e14\n"

abbrev keep_line_2 : Bytes
keep_line_2 = ascii "keep\t8514f731f6900bd7104a9a441cb5f674658e63107e5681140f7e6474b0168a2c\n"

abbrev kt_line_1 : Bytes
kt_line_1 = ascii "kt\tsearch\t000102030405060708090a0b0c0d0e0f\t61\n"

abbrev kt_line_2 : Bytes
kt_line_2 = ascii "kt\tmonitor\t000102030405060708090a0b0c0d0e0f\t61\n"

abbrev nl_line_1 : Bytes
nl_line_1 = ascii "nl\t1\t0000000000000000000000000000000000000000000000000000000000000000\t13ae3a65de7d8c1a0dab25a683341dd255619f87556a86d04a0bf3a03cb60d6a\t-\n"

abbrev node_line_1 : Bytes
node_line_1 = ascii "node\t5140ad3f725c8263d9e9d55d842adb893669973675ee71a8f5e4403f5ca55e14\n"

abbrev settings_1 : Bytes
settings_1 = x "0001010000000000000000000000020000000000000003000000000000000000"

abbrev sheet_1 : Bytes
sheet_1 = x "000000000000000000000000000000000000000000000000000000000000000000000000000000018001010101010101010101010101010101010101010101010101010101010101"

abbrev sheet_2 : Bytes
sheet_2 = x "000000000000000000000000000000000000000000000000000000000000000000000000"

abbrev signed_1 : Bytes
signed_1 = x "000101000000000000000000000002000000000000000300000000000000000000000000000000015140ad3f725c8263d9e9d55d842adb893669973675ee71a8f5e4403f5ca55e14"

abbrev signed_2 : Bytes
signed_2 = x "000101000000000000000000000002000000000000000300000000000000000000000000000000028514f731f6900bd7104a9a441cb5f674658e63107e5681140f7e6474b0168a2c"

abbrev signed_3 : Bytes
signed_3 = x "000101000000000000000000000002000000000000000300000000000000000000000000000000032c93a247dc926c80b91444dca881735ac6df0a0aeab3490acdf1b13aafe754d7"

abbrev step_line_1 : Bytes
step_line_1 = ascii "step\t0\t13ae3a65de7d8c1a0dab25a683341dd255619f87556a86d04a0bf3a03cb60d6a\n"

abbrev target_line_1 : Bytes
target_line_1 = ascii "target\t0\t00000000000000000000000000000000\t76\n"

-- small first search
pub small_first_search : answer (ascii "size\t0\t0\t61\n")
    (asking search (kt_line_1 ++ ascii "head\t1\n" ++ target_line_1 ++ ascii "step\t0\t-\n" ++ ascii "step\t1\t-\n" ++ entry_line_1 ++ ascii "in\t0\t-\n" ++ nl_line_1 ++ ascii "end\n")
    settings_1 identifier_1 1 sheet_1 signed_1 1024)
    ≡ (0, (some (ascii "size\t1\t1\t61\n" ++ keep_line_1 ++ ascii "pair\t0\t0\n"), some (x "76")))
unfolding opened answered answer
small_first_search = refl

-- small monitoring
pub small_monitoring : answer (ascii "size\t1\t1\t61\n" ++ keep_line_1 ++ ascii "pair\t0\t0\n")
    (asking monitor (kt_line_2 ++ ascii "head\t2\n" ++ step_line_1 ++ entry_line_2 ++ ascii "in\t0\t-\n" ++ ascii "end\n")
    settings_1 identifier_1 2 sheet_2 signed_2 1024)
    ≡ (0, (some (ascii "size\t2\t2\t61\n" ++ keep_line_2 ++ ascii "pair\t1\t0\n"), none))
unfolding opened answered answer
small_monitoring = refl

-- small first search: identifier of 0 bytes
pub small_first_search_identifier_of_0_bytes : answer (ascii "size\t0\t0\t61\n")
    (asking search (kt_line_1 ++ ascii "head\t1\n" ++ target_line_1 ++ ascii "step\t0\t-\n" ++ ascii "step\t1\t-\n" ++ entry_line_1 ++ ascii "in\t0\t-\n" ++ nl_line_1 ++ ascii "end\n")
    settings_1 [] 1 sheet_1 signed_1 1024)
    ≡ (1, (none, none))
unfolding opened answered answer
small_first_search_identifier_of_0_bytes = refl

-- small monitoring: identifier of 15 bytes
pub small_monitoring_identifier_of_15_bytes : answer (ascii "size\t1\t1\t61\n" ++ keep_line_1 ++ ascii "pair\t0\t0\n")
    (asking monitor (kt_line_2 ++ ascii "head\t2\n" ++ step_line_1 ++ entry_line_2 ++ ascii "in\t0\t-\n" ++ ascii "end\n")
    settings_1 (x "000102030405060708090a0b0c0d0e") 2 sheet_2 signed_2 1024)
    ≡ (1, (none, none))
unfolding opened answered answer
small_monitoring_identifier_of_15_bytes = refl

-- small first search: suite 0
pub small_first_search_suite_0 : answer (ascii "size\t0\t0\t61\n")
    (asking search (kt_line_1 ++ ascii "head\t1\n" ++ target_line_1 ++ ascii "step\t0\t-\n" ++ ascii "step\t1\t-\n" ++ entry_line_1 ++ ascii "in\t0\t-\n" ++ nl_line_1 ++ ascii "end\n")
    (x "0000010000000000000000000000020000000000000003000000000000000000") identifier_1 1 sheet_1 (x "000001000000000000000000000002000000000000000300000000000000000000000000000000015140ad3f725c8263d9e9d55d842adb893669973675ee71a8f5e4403f5ca55e14") 1024)
    ≡ (2, (none, none))
unfolding opened answered answer
small_first_search_suite_0 = refl

-- small search again: empty state text
pub small_search_again_empty_state_text : answer []
    (asking search (kt_line_1 ++ ascii "head\t1\n" ++ target_line_1 ++ ascii "step\t0\t-\n" ++ ascii "step\t1\t-\n" ++ entry_line_1 ++ ascii "in\t0\t-\n" ++ nl_line_1 ++ ascii "end\n")
    settings_1 identifier_1 1 sheet_1 signed_1 1024)
    ≡ (3, (none, none))
unfolding opened answered answer
small_search_again_empty_state_text = refl

-- small first search: sheet with 1 bytes more
pub small_first_search_sheet_with_1_bytes_more : answer (ascii "size\t0\t0\t61\n")
    (asking search (kt_line_1 ++ ascii "head\t1\n" ++ target_line_1 ++ ascii "step\t0\t-\n" ++ ascii "step\t1\t-\n" ++ entry_line_1 ++ ascii "in\t0\t-\n" ++ nl_line_1 ++ ascii "end\n")
    settings_1 identifier_1 1 (x "000000000000000000000000000000000000000000000000000000000000000000000000000000018001010101010101010101010101010101010101010101010101010101010101ff") signed_1 1024)
    ≡ (4, (none, none))
unfolding opened answered answer
small_first_search_sheet_with_1_bytes_more = refl

-- small monitoring, empty map: sheet of 1 bytes
pub small_monitoring_empty_map_sheet_of_1_bytes : answer (ascii "size\t2\t2\t61\n" ++ keep_line_2)
    (asking monitor (kt_line_2 ++ ascii "head\t3\n" ++ entry_line_2 ++ entry_line_3 ++ node_line_1 ++ ascii "end\n")
    settings_1 identifier_1 3 (x "00") signed_3 1024)
    ≡ (4, (none, none))
unfolding opened answered answer
small_monitoring_empty_map_sheet_of_1_bytes = refl

-- small first search: empty response
pub small_first_search_empty_response : answer (ascii "size\t0\t0\t61\n")
    (asking search []
    settings_1 identifier_1 1 sheet_1 signed_1 1024)
    ≡ (5, (none, none))
unfolding opened answered answer
small_first_search_empty_response = refl

-- small monitoring, empty map: monitoring's answer with a target line
pub small_monitoring_empty_map_monitoring_s_answer_with_a_target_line : answer (ascii "size\t2\t2\t61\n" ++ keep_line_2)
    (asking monitor (kt_line_2 ++ ascii "head\t3\n" ++ ascii "target\t0\t000102030405060708090a0b0c0d0e0f\t-\n" ++ entry_line_2 ++ entry_line_3 ++ node_line_1 ++ ascii "end\n")
    settings_1 identifier_1 3 [] signed_3 1024)
    ≡ (5, (none, none))
unfolding opened answered answer
small_monitoring_empty_map_monitoring_s_answer_with_a_target_line = refl

-- small first search: asked identifier off by bit 0
pub small_first_search_asked_identifier_off_by_bit_0 : answer (ascii "size\t0\t0\t61\n")
    (asking search (kt_line_1 ++ ascii "head\t1\n" ++ target_line_1 ++ ascii "step\t0\t-\n" ++ ascii "step\t1\t-\n" ++ entry_line_1 ++ ascii "in\t0\t-\n" ++ nl_line_1 ++ ascii "end\n")
    settings_1 (x "800102030405060708090a0b0c0d0e0f") 1 sheet_1 signed_1 1024)
    ≡ (6, (none, none))
unfolding opened answered answer
small_first_search_asked_identifier_off_by_bit_0 = refl

-- small first search: monitoring asked, search answered
pub small_first_search_monitoring_asked_search_answered : answer (ascii "size\t0\t0\t61\n")
    (asking monitor (kt_line_1 ++ ascii "head\t1\n" ++ target_line_1 ++ ascii "step\t0\t-\n" ++ ascii "step\t1\t-\n" ++ entry_line_1 ++ ascii "in\t0\t-\n" ++ nl_line_1 ++ ascii "end\n")
    settings_1 identifier_1 1 sheet_1 signed_1 1024)
    ≡ (6, (none, none))
unfolding opened answered answer
small_first_search_monitoring_asked_search_answered = refl

-- small search again: head of size 0
pub small_search_again_head_of_size_0 : answer (ascii "size\t1\t1\t61\n" ++ keep_line_1 ++ ascii "pair\t0\t0\n")
    (asking search (kt_line_1 ++ ascii "head\t0\n" ++ target_line_1 ++ ascii "step\t0\t-\n" ++ ascii "step\t1\t-\n" ++ entry_line_1 ++ ascii "in\t0\t-\n" ++ nl_line_1 ++ ascii "end\n")
    settings_1 identifier_1 1 sheet_1 (x "000101000000000000000000000002000000000000000300000000000000000000000000000000005140ad3f725c8263d9e9d55d842adb893669973675ee71a8f5e4403f5ca55e14") 1024)
    ≡ (7, (none, none))
unfolding opened answered answer
small_search_again_head_of_size_0 = refl

-- small monitoring, empty map: head of size 1
pub small_monitoring_empty_map_head_of_size_1 : answer (ascii "size\t2\t2\t61\n" ++ keep_line_2)
    (asking monitor (kt_line_2 ++ ascii "head\t1\n" ++ entry_line_2 ++ entry_line_3 ++ node_line_1 ++ ascii "end\n")
    settings_1 identifier_1 3 [] (x "000101000000000000000000000002000000000000000300000000000000000000000000000000012c93a247dc926c80b91444dca881735ac6df0a0aeab3490acdf1b13aafe754d7") 1024)
    ≡ (7, (none, none))
unfolding opened answered answer
small_monitoring_empty_map_head_of_size_1 = refl

-- small search again: target 4294967295 with 1 pairs
pub small_search_again_target_4294967295_with_1_pairs : answer (ascii "size\t1\t1\t61\n" ++ keep_line_1 ++ ascii "pair\t0\t0\n")
    (asking search (kt_line_1 ++ ascii "head\t1\n" ++ ascii "target\t4294967295\t00000000000000000000000000000000\t76\n" ++ ascii "step\t0\t-\n" ++ ascii "step\t1\t-\n" ++ entry_line_1 ++ ascii "in\t0\t-\n" ++ nl_line_1 ++ ascii "end\n")
    settings_1 identifier_1 1 sheet_1 signed_1 1024)
    ≡ (8, (none, none))
unfolding opened answered answer
small_search_again_target_4294967295_with_1_pairs = refl

-- small first search: step 1 left out
pub small_first_search_step_1_left_out : answer (ascii "size\t0\t0\t61\n")
    (asking search (kt_line_1 ++ ascii "head\t1\n" ++ target_line_1 ++ ascii "step\t0\t-\n" ++ entry_line_1 ++ ascii "in\t0\t-\n" ++ nl_line_1 ++ ascii "end\n")
    settings_1 identifier_1 1 sheet_1 signed_1 1024)
    ≡ (9, (none, none))
unfolding opened answered answer
small_first_search_step_1_left_out = refl

-- small monitoring: step 0 left out
pub small_monitoring_step_0_left_out : answer (ascii "size\t1\t1\t61\n" ++ keep_line_1 ++ ascii "pair\t0\t0\n")
    (asking monitor (kt_line_2 ++ ascii "head\t2\n" ++ entry_line_2 ++ ascii "in\t0\t-\n" ++ ascii "end\n")
    settings_1 identifier_1 2 sheet_2 signed_2 1024)
    ≡ (9, (none, none))
unfolding opened answered answer
small_monitoring_step_0_left_out = refl

-- small first search: sheet without version 0
pub small_first_search_sheet_without_version_0 : answer (ascii "size\t0\t0\t61\n")
    (asking search (kt_line_1 ++ ascii "head\t1\n" ++ target_line_1 ++ ascii "step\t0\t-\n" ++ ascii "step\t1\t-\n" ++ entry_line_1 ++ ascii "in\t0\t-\n" ++ nl_line_1 ++ ascii "end\n")
    settings_1 identifier_1 1 (x "000000018001010101010101010101010101010101010101010101010101010101010101") signed_1 1024)
    ≡ (10, (none, none))
unfolding opened answered answer
small_first_search_sheet_without_version_0 = refl

-- small monitoring: sheet without version 0
pub small_monitoring_sheet_without_version_0 : answer (ascii "size\t1\t1\t61\n" ++ keep_line_1 ++ ascii "pair\t0\t0\n")
    (asking monitor (kt_line_2 ++ ascii "head\t2\n" ++ step_line_1 ++ entry_line_2 ++ ascii "in\t0\t-\n" ++ ascii "end\n")
    settings_1 identifier_1 2 [] signed_2 1024)
    ≡ (10, (none, none))
unfolding opened answered answer
small_monitoring_sheet_without_version_0 = refl

-- small first search: clock after the latest, 5
pub small_first_search_clock_after_the_latest_5 : answer (ascii "size\t0\t0\t61\n")
    (asking search (kt_line_1 ++ ascii "head\t1\n" ++ target_line_1 ++ ascii "step\t0\t-\n" ++ ascii "step\t1\t-\n" ++ entry_line_1 ++ ascii "in\t0\t-\n" ++ nl_line_1 ++ ascii "end\n")
    settings_1 identifier_1 5 sheet_1 signed_1 1024)
    ≡ (11, (none, none))
unfolding opened answered answer
small_first_search_clock_after_the_latest_5 = refl

-- small monitoring, empty map: clock before the earliest, 0
pub small_monitoring_empty_map_clock_before_the_earliest_0 : answer (ascii "size\t2\t2\t61\n" ++ keep_line_2)
    (asking monitor (kt_line_2 ++ ascii "head\t3\n" ++ entry_line_2 ++ entry_line_3 ++ node_line_1 ++ ascii "end\n")
    settings_1 identifier_1 0 [] signed_3 1024)
    ≡ (11, (none, none))
unfolding opened answered answer
small_monitoring_empty_map_clock_before_the_earliest_0 = refl

-- small first search: shown as no, version 0 at 0
pub small_first_search_shown_as_no_version_0_at_0 : answer (ascii "size\t0\t0\t61\n")
    (asking search (kt_line_1 ++ ascii "head\t1\n" ++ target_line_1 ++ ascii "step\t0\t-\n" ++ ascii "step\t1\t-\n" ++ entry_line_1 ++ ascii "no\t0\t-\n" ++ nl_line_1 ++ ascii "end\n")
    settings_1 identifier_1 1 sheet_1 signed_1 1024)
    ≡ (12, (none, none))
unfolding opened answered answer
small_first_search_shown_as_no_version_0_at_0 = refl

-- small monitoring: commitment of 0 off by a bit
pub small_monitoring_commitment_of_0_off_by_a_bit : answer (ascii "size\t1\t1\t61\n" ++ keep_line_1 ++ ascii "pair\t0\t0\n")
    (asking monitor (kt_line_2 ++ ascii "head\t2\n" ++ ascii "step\t0\t13ae3a65de7d8c1a0dab25a683341dd255659f87556a86d04a0bf3a03cb60d6a\n" ++ entry_line_2 ++ ascii "in\t0\t-\n" ++ ascii "end\n")
    settings_1 identifier_1 2 sheet_2 signed_2 1024)
    ≡ (12, (none, none))
unfolding opened answered answer
small_monitoring_commitment_of_0_off_by_a_bit = refl

-- small first search: ladder at 0 ended after 1
pub small_first_search_ladder_at_0_ended_after_1 : answer (ascii "size\t0\t0\t61\n")
    (asking search (kt_line_1 ++ ascii "head\t1\n" ++ target_line_1 ++ ascii "step\t0\t-\n" ++ ascii "step\t1\t-\n" ++ entry_line_1 ++ ascii "in\t0\t-\n" ++ ascii "end\n")
    settings_1 identifier_1 1 sheet_1 signed_1 1024)
    ≡ (13, (none, none))
unfolding opened answered answer
small_first_search_ladder_at_0_ended_after_1 = refl

-- small monitoring: log that lost version 0 at 1
pub small_monitoring_log_that_lost_version_0_at_1 : answer (ascii "size\t1\t1\t61\n" ++ keep_line_1 ++ ascii "pair\t0\t0\n")
    (asking monitor (kt_line_2 ++ ascii "head\t2\n" ++ step_line_1 ++ ascii "entry\t1\t2\t0000000000000000000000000000000000000000000000000000000000000000\n" ++ ascii "no\t0\t-\n" ++ ascii "end\n")
    settings_1 identifier_1 2 sheet_2 (x "00010100000000000000000000000200000000000000030000000000000000000000000000000002ff4514d59331fd49cfe2de077dd59f57c59d577d84448d841635afe126fed004") 1024)
    ≡ (13, (none, none))
unfolding opened answered answer
small_monitoring_log_that_lost_version_0_at_1 = refl

-- small search again: kept value 0 off by its last bit
pub small_search_again_kept_value_0_off_by_its_last_bit : answer (ascii "size\t1\t1\t61\n" ++ ascii "keep\t5140ad3f725c8263d9e9d55d842adb893669973675ee71a8f5e4403f5ca55e15\n" ++ ascii "pair\t0\t0\n")
    (asking search (kt_line_1 ++ ascii "head\t1\n" ++ target_line_1 ++ ascii "step\t0\t-\n" ++ ascii "step\t1\t-\n" ++ entry_line_1 ++ ascii "in\t0\t-\n" ++ nl_line_1 ++ ascii "end\n")
    settings_1 identifier_1 1 sheet_1 signed_1 1024)
    ≡ (14, (none, none))
unfolding opened answered answer
small_search_again_kept_value_0_off_by_its_last_bit = refl

-- small monitoring, empty map: entry 0 changed after it was kept
pub small_monitoring_empty_map_entry_0_changed_after_it_was_kept : answer (ascii "size\t2\t2\t61\n" ++ keep_line_2)
    (asking monitor (kt_line_2 ++ ascii "head\t3\n" ++ entry_line_2 ++ entry_line_3 ++ ascii "node\t6410d3be6e6df5420b42b8fbab16f4c59626335200bf3f5e744574add55b3d75\n" ++ ascii "end\n")
    settings_1 identifier_1 3 [] (x "000101000000000000000000000002000000000000000300000000000000000000000000000000036d84293a928eae03b662fbe6813f2bd5359f9a0ba90d19dc01b6fdb8372dfd8b") 1024)
    ≡ (14, (none, none))
unfolding opened answered answer
small_monitoring_empty_map_entry_0_changed_after_it_was_kept = refl

-- small monitoring: kept value 0 off by its first bit
pub small_monitoring_kept_value_0_off_by_its_first_bit : answer (ascii "size\t1\t1\t61\n" ++ ascii "keep\td140ad3f725c8263d9e9d55d842adb893669973675ee71a8f5e4403f5ca55e14\n" ++ ascii "pair\t0\t0\n")
    (asking monitor (kt_line_2 ++ ascii "head\t2\n" ++ step_line_1 ++ entry_line_2 ++ ascii "in\t0\t-\n" ++ ascii "end\n")
    settings_1 identifier_1 2 sheet_2 signed_2 1024)
    ≡ (15, (none, none))
unfolding opened answered answer
small_monitoring_kept_value_0_off_by_its_first_bit = refl

-- small first search: signed text off in byte 0
pub small_first_search_signed_text_off_in_byte_0 : answer (ascii "size\t0\t0\t61\n")
    (asking search (kt_line_1 ++ ascii "head\t1\n" ++ target_line_1 ++ ascii "step\t0\t-\n" ++ ascii "step\t1\t-\n" ++ entry_line_1 ++ ascii "in\t0\t-\n" ++ nl_line_1 ++ ascii "end\n")
    settings_1 identifier_1 1 sheet_1 (x "010101000000000000000000000002000000000000000300000000000000000000000000000000015140ad3f725c8263d9e9d55d842adb893669973675ee71a8f5e4403f5ca55e14") 1024)
    ≡ (15, (none, none))
unfolding opened answered answer
small_first_search_signed_text_off_in_byte_0 = refl

-- small search again: room of 0 for a value of 1
pub small_search_again_room_of_0_for_a_value_of_1 : answer (ascii "size\t1\t1\t61\n" ++ keep_line_1 ++ ascii "pair\t0\t0\n")
    (asking search (kt_line_1 ++ ascii "head\t1\n" ++ target_line_1 ++ ascii "step\t0\t-\n" ++ ascii "step\t1\t-\n" ++ entry_line_1 ++ ascii "in\t0\t-\n" ++ nl_line_1 ++ ascii "end\n")
    settings_1 identifier_1 1 sheet_1 signed_1 0)
    ≡ (16, (none, none))
unfolding opened answered answer
small_search_again_room_of_0_for_a_value_of_1 = refl
