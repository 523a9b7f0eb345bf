-- The limits of paper 01, one name each: the table of what a call is given, then lengths and bounds
-- that stand in its text.
use Rattle.std.specs.Prelude.{ℕ, ◌-◌, ◌^◌}
use Rattle.hash.specs.Sha256.{digest_length}
use Rattle.tree.specs.LogHead.{level_limit, block_length}

-- ---- the table

-- bytes of a response: the library's limit, and the program's
abbrev pub response_limit : ℕ
response_limit = 1048576

abbrev pub program_response_limit : ℕ
program_response_limit = 65536

-- bytes of the settings and of the signed text
abbrev pub configuration_limit : ℕ
configuration_limit = 2048

abbrev pub signed_text_limit : ℕ
signed_text_limit = 2088

-- bytes of the sheet
abbrev pub vrf_outputs_limit : ℕ
vrf_outputs_limit = 36864

abbrev pub label_limit : ℕ
label_limit = 255

abbrev pub value_limit : ℕ
value_limit = 1024

-- entries of a log: 2 ^ 40
abbrev pub tree_size_limit : ℕ
tree_size_limit = 2 ^ level_limit

-- of a target and of a pair; a ladder may hold one more
abbrev pub greatest_version : ℕ
greatest_version = 2 ^ 32 - 2

-- pairs in the monitoring map
abbrev pub map_limit : ℕ
map_limit = 48

-- siblings in a lookup
abbrev pub sibling_limit : ℕ
sibling_limit = 255

-- ---- lengths in bytes

abbrev pub identifier_length : ℕ
identifier_length = 16

abbrev pub hash_length : ℕ
hash_length = digest_length

abbrev pub vrf_output_length : ℕ
vrf_output_length = 32

-- 001, 15.1: Nc
abbrev pub opening_length : ℕ
opening_length = 16

-- the block of the values of a state's full subtrees: 1,280
abbrev pub values_block_length : ℕ
values_block_length = block_length

-- a state's text, and the bytes that a C call lends for the new one
abbrev pub state_text_limit : ℕ
state_text_limit = 8192

-- the program's request file
abbrev pub request_limit : ℕ
request_limit = 128

-- ---- bounds of numbers that are read

-- positions, times, n and m, and the request's clock
abbrev pub number_bound : ℕ
number_bound = 2 ^ 64 - 1

-- versions of lines
abbrev pub version_bound : ℕ
version_bound = 2 ^ 32 - 1
