use Rattle.std.proofs.Common.{ℕ, ◌∙◌, sym, ap, subst, length, length-drop, arith}
use Rattle.lines.specs.Readings.{read_of}
use Rattle.lines.proofs.SectionLaws.{LineHere, line_here, line_none}
use Rattle.verifier.proofs.ReadOnLaws.{read_line_lem, read-offset, read_stays, read_left}
use Rattle.ktcheck.proofs.ended_lines.ended_lines.Goals as goal

-- the line at the offset, after which the reader goes
here : (c : goal.In-Some) → (stop : ℕ) × LineHere c.args.text.now c.loop-count.at stop c.read_on-read.result.offset
here c =
    let s = c.args.text.now in
    let at = c.loop-count.at in
    let e = c.read_on-read.ensures in
    let l = sym (read_line_lem s at _ e) ∙ ap read_of c.in-Some.is in
    (_, subst (LineHere s at _) (sym (read-offset s at _ e _ _ l)) (line_here s at _ _ l))

pub returns-in-None : goal.returns-in-None
returns-in-None c =
    let s = c.args.text.now in
    let at = c.loop-count.at in
    let e = c.read_on-read.ensures in
    let l = sym (read_line_lem s at _ e) ∙ ap read_of c.in-None.is in
    let (f, g) = line_none s at l in
    let p = read_stays s at _ e l in
    let r = read_left s at _ e l in
    record {
      count = omega (arith, c.loop-count.invariant.lines, ap length f);
      offset = omega (arith, c.loop-count.invariant.within, p, r, length-drop at s);
      left = r ∙ ap length (sym g ∙ c.loop-count.invariant.rest);
    }

pub loop-count-preserved : goal.loop-count-preserved
loop-count-preserved c =
    let (_, h) = here c in
    let i = c.loop-count.invariant in
    let l = ap length h.lines in
    record {
      within = omega arith;
      fits = omega arith;
      lines = omega arith;
      rest = sym h.rest ∙ i.rest;
    }

pub loop-count-smaller : goal.loop-count-smaller
loop-count-smaller c = let (_, h) = here c in omega arith
