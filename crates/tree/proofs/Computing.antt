-- One name for all definitions of this crate: where it unfolds, they all compute. For examples that
-- are proved by computing.
use Rattle.tree.specs.Ladder.{halve, climb, ladder, ladder_within}
use Rattle.tree.specs.SearchTree.{power_from, power, level_from, level, left_step, right_step, move_within}
use Rattle.tree.specs.SearchTree.{root, left, right, rightward, frontier, down_to, direct_path}
use Rattle.tree.specs.SearchTree.{right_ancestors, frontier_and_paths, next_from}
use Rattle.tree.specs.LogTree.{log_leaf_string, hash_content, log_parent_string, same_range, holds, split_at}
use Rattle.tree.specs.LogTree.{left_half, right_half, full_from, full_subtrees, is_full, holds_full, is_shown}
use Rattle.tree.specs.LogTree.{walk, walk_of, node_count, width_of, zeros, value_among, kept_value, string_at}
use Rattle.tree.specs.LogTree.{value, agrees, kept_values_met, full_values, walk_strings}
use Rattle.tree.specs.LogText.{number_in, value_in, values_in, entry_in, is_entry_line, offsets_from}
use Rattle.tree.specs.LogText.{entry_offsets, entries_at, shown_in, nodes_in}
use Rattle.tree.specs.LogHead.{known_in, is_walkable, log_head, nodes_asked}
use Rattle.tree.specs.LogWalk.{below, walked_by, node_next, parent_by, compared_by, values_from}
use Rattle.tree.specs.PrefixTree.{prefix_leaf_string, prefix_parent_string, low_bits, bits, terminal_strings}
use Rattle.tree.specs.PrefixTree.{terminal_value, parent_over, value_above, strings_above, lookup_root}
use Rattle.tree.specs.PrefixTree.{lookup_strings, terminal_fits}
use Rattle.tree.specs.Lookups.{terminal_of}

unfoldable pub tree_definitions : Unit {0}
unfolding halve climb ladder ladder_within power_from power level_from level left_step right_step move_within root left right rightward frontier down_to direct_path right_ancestors frontier_and_paths next_from log_leaf_string hash_content log_parent_string same_range holds split_at left_half right_half full_from full_subtrees is_full holds_full is_shown walk walk_of node_count width_of zeros value_among kept_value string_at value agrees kept_values_met full_values walk_strings number_in value_in values_in entry_in is_entry_line offsets_from entry_offsets entries_at shown_in nodes_in known_in is_walkable log_head nodes_asked below walked_by node_next parent_by compared_by values_from prefix_leaf_string prefix_parent_string low_bits bits terminal_strings terminal_value parent_over value_above strings_above lookup_root lookup_strings terminal_fits terminal_of
tree_definitions = tt
