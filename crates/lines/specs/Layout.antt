-- Where the fields of a response's lines stand (paper 01, Response lines).
use Rattle.std.specs.Prelude.{ℕ, ◌+◌, ◌*◌}
use Rattle.hash.specs.Sha256.{digest_length}

-- the offset of a line's first field, after its word and a tab: of a `step` line, of an `entry`
-- line, of an `in`, `no` or `nl` line, of a `node` line
abbrev pub step_fields : ℕ
step_fields = 5

abbrev pub entry_fields : ℕ
entry_fields = 6

abbrev pub lookup_fields : ℕ
lookup_fields = 3

abbrev pub node_fields : ℕ
node_fields = 5

-- the digits of a value
abbrev pub value_digits : ℕ
value_digits = 2 * digest_length

-- a `node` line with its newline
abbrev pub node_line : ℕ
node_line = node_fields + value_digits + 1

-- the letter e, which an `entry` line begins with, and no lookup line
abbrev pub entry_letter : ℕ
entry_letter = 0x65
