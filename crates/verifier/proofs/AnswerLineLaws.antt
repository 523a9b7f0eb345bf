-- Laws of the line that the program prints: the pieces that it is put in, and the room that they
-- have.
use mathlib.Core.Path.{◌≡◌}
use mathlib.Core.List.{[], ◌∷◌, ◌++◌, append_assoc}
use Prim.Native.Nat.{ℕ, ◌≤◌, ◌<◌, ◌^◌}
use native.Mathlib.Omega.{arith}
use lib.ListN.{length, length-append}
use Rattle.lines.specs.Number.{ascii, decimal}
use Rattle.lines.specs.Line.{tab, newline, joined, line}
use Rattle.lines.proofs.NumberLaws.{decimal_short}
use Rattle.verifier.specs.Files.{counts_text}

-- ---- pieces

-- the line of a refusal: its word and a tab, the number, a newline
pub refusal_pieces : (k : ℕ) → line (ascii "no" ∷ decimal k ∷ []) ≡ (ascii "no" ++ tab ∷ []) ++ decimal k ++ (newline ∷ [])
unfolding line joined ascii
refusal_pieces k = simp append_assoc

-- that of an accepted search: its word and a tab, the version, the last two fields
pub found_pieces : (v m p : ℕ) → line (ascii "yes" ∷ decimal v ∷ decimal m ∷ decimal p ∷ []) ≡ (ascii "yes" ++ tab ∷ []) ++ decimal v ++ counts_text m p
unfolding line joined ascii
found_pieces v m p = simp append_assoc

-- that of accepted monitoring: its word, a tab and a dash, the last two fields
pub monitored_pieces : (m p : ℕ) → line (ascii "yes" ∷ ascii "-" ∷ decimal m ∷ decimal p ∷ []) ≡ (ascii "yes" ++ tab ∷ ascii "-") ++ counts_text m p
unfolding line joined ascii
monitored_pieces m p = simp append_assoc

-- ---- room

-- the room for a line
abbrev line_room : ℕ
line_room = 128

-- a number of 64 bits has at most 20 digits
digits_few : (n : ℕ) → n < 2 ^ 64 → length (decimal n) ≤ 20
digits_few n h = decimal_short 19 n (omega arith)

-- the line of a refusal has room
pub refusal_fits : (k : ℕ) → k < 2 ^ 64 → length ((ascii "no" ++ tab ∷ []) ++ decimal k ++ (newline ∷ [])) ≤ line_room
unfolding ascii
refusal_fits k h = simp length-append (omega (arith, digits_few k h))

-- so has that of an accepted search
pub found_fits : (v m p : ℕ) → v < 2 ^ 64 → m < 2 ^ 64 → p < 2 ^ 64 → length ((ascii "yes" ++ tab ∷ []) ++ decimal v ++ counts_text m p) ≤ line_room
unfolding ascii
found_fits v m p h i j = simp length-append (omega (arith, digits_few v h, digits_few m i, digits_few p j))

-- and that of accepted monitoring
pub monitored_fits : (m p : ℕ) → m < 2 ^ 64 → p < 2 ^ 64 → length ((ascii "yes" ++ tab ∷ ascii "-") ++ counts_text m p) ≤ line_room
unfolding ascii
monitored_fits m p i j = simp length-append (omega (arith, digits_few m i, digits_few p j))
