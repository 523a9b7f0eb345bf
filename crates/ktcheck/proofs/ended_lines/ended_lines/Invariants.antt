use Rattle.std.proofs.Common.{◌≡◌, ◌+◌, ◌-◌, ◌≤◌, length, drop}
use Rattle.lines.specs.Line.{ended_lines, open_rest}
use Rattle.ktcheck.proofs.ended_lines.ended_lines.Given as goal

-- the lines counted, with those from the offset on, are all lines of the text
abbrev pub invariant-loop-count : goal.invariant-loop-count
invariant-loop-count l =
    record {
      within : l.at ≤ length l.text;
      fits : l.count ≤ l.at;
      lines : l.count + length (ended_lines (drop l.at l.text)) ≡ length (ended_lines l.text);
      rest : open_rest (drop l.at l.text) ≡ open_rest l.text;
    }

abbrev pub decreases-loop-count : goal.decreases-loop-count
decreases-loop-count l = length l.text - l.at
