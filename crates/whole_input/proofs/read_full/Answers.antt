use Rattle.std.proofs.Common.{rules, ◌≡◌, ◌∙◌, sym, ap, subst, ℕ, ◌+◌, ◌-◌, ◌≤◌, List, ◌++◌, length, take, length-take-le}
use Rattle.std.proofs.Math.Seq.{take-append-add}
use Rattle.std.proofs.lemmas.List.{take-append-le}
use Rattle.std.specs.Io.KnownBytes.{Consumes}
use Rattle.std.proofs.KnownBytes.{Consumes-trans}
use borrow.Rule.Slice.PartMut.{put_mid, post_of}
use Rattle.whole_input.proofs.read_full.Goals as goal

-- the first n bytes of what was put at a follow those before it
take-put_mid_some : (a k n : ℕ) (xs ys : List ℕ) → a ≤ length xs → n ≤ length ys → take (a + n) (put_mid a k xs ys) ≡ take a xs ++ take n ys
take-put_mid_some a k n xs ys within fits =
    let after = post_of a k xs in
    ap (λ (m : ℕ). take (m + n) (take a xs ++ (ys ++ after))) (sym (length-take-le a xs within))
    ∙ take-append-add (take a xs) (ys ++ after) n
    ∙ ap (λ (l : List ℕ). take a xs ++ l) (take-append-le n ys after fits)

pub loop-done-preserved : goal.loop-done-preserved
loop-done-preserved g c =
    let done = c.loop-done.done in
    let room = length c.loop-done.bytes - done in
    let i = c.loop-done.invariant in
    let e = c.in-Ok.ensures in
    record {
      within = search rules;
      read = subst (Consumes _ _) (sym (take-put_mid_some done room c.in-Ok.more c.loop-done.bytes c.read.new.buf i.within e.bound.0)) (Consumes-trans _ _ _ _ _ i.read e.bytes.0);
    }
