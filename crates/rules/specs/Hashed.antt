-- The strings that an accepted call hashed, and no others (paper 01, What the contracts owe): of
-- the log tree what the walk hashes, of every lookup its leaf, if there is one, and the parents
-- above it, and for the commitment of a search's target HMAC's inner and outer string. Of an
-- accepted call every lookup was tried.
use mathlib.Core.List.{List, [], ◌++◌, flat_map}
use Rattle.std.proofs.Math.Option.{Option, none, some}
use Rattle.lists.specs.Lists.{Bytes}
use Rattle.tree.specs.LogTree.{walk_strings}
use Rattle.tree.specs.PrefixTree.{lookup_strings}
use Rattle.rules.specs.VrfOutputs.{output_of}
use Rattle.rules.specs.Response.{Target, Lookup, Entry, target_of}
use Rattle.rules.specs.Commitment.{commitment_strings}
use Rattle.rules.specs.Refusals.{Call, known, log_walk, terminal}

unfoldable pub hashed_by_lookup : Call → Lookup → List Bytes
hashed_by_lookup c l =
    lookup_strings (output_of c.outputs l.version) (terminal c l.version l.result) l.siblings

unfoldable pub hashed_by_entry : Call → Entry → List Bytes
hashed_by_entry c e = flat_map (hashed_by_lookup c) e.lookups

unfoldable pub hashed_for_target : Option Target → Bytes → List Bytes
hashed_for_target none label = []
hashed_for_target (some t) label = commitment_strings t.opening label t.value

unfoldable pub hashed : Call → List Bytes
hashed c =
    walk_strings (known c) (log_walk c) c.parts.nodes ++ flat_map (hashed_by_entry c) c.parts.entries
    ++ hashed_for_target (target_of c.parts.finding) c.parts.label
