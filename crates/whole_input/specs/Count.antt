-- How many bytes were read.
use Rattle.std.specs.Prelude.{ℕ, Result, Ok, Err}

-- up to the end or a full room, or before a read that failed
abbrev pub count : Result ℕ ℕ → ℕ
count (Ok n) = n
count (Err n) = n
