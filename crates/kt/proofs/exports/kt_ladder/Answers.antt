-- `kt::exports::kt_ladder` meets its contract: the first i versions of the ladder are written to
-- the front of the bytes lent.
use Rattle.std.proofs.Common.{◌≡◌, ℕ, ◌*◌, ◌+◌, ◌<◌, ◌≤◌, List, length, ap, ◌∙◌, arith, refl}
use Rattle.std.proofs.lemmas.List.{get_or-take}
use Rattle.std.proofs.lemmas.List.Edits.{sets}
use Rattle.hash.specs.Bytes.{big_endian}
use Rattle.tree.specs.Ladder.{ladder_within, ladder_capacity}
use Rattle.tree.proofs.FillLaws.{filled_at}
use Rattle.tree.proofs.LadderFillLaws.{within_fits}
use Rattle.kt.specs.Exports.{version_length}
use Rattle.kt.proofs.ExportLaws.{written, written_none, length_written, written_next, ladder_refused}
use Rattle.kt.proofs.ExportLaws.{ladder_written}
use Rattle.kt.proofs.exports.kt_ladder.Goals as goal

pub overflow_mul-length : goal.overflow_mul-length
overflow_mul-length c = omega (arith, c.of-ladder.ensures.1, within_fits c.args.version)

pub shared_ref_as_front-all : goal.shared_ref_as_front-all
shared_ref_as_front-all c = omega (arith, c.of-ladder.ensures.1, within_fits c.args.version)

pub returns-then-versions-length : goal.returns-then-versions-length
returns-then-versions-length c =
    let a = c.args in
    ladder_refused a.version c.of-ladder.result.length a.versions.now c.of-ladder.ensures.1 c.if-versions-length.true

pub loop-i-init : goal.loop-i-init
loop-i-init c =
    let a = c.args in
    let e = c.of-ladder.ensures.1 in
    (omega arith, omega (arith, e, within_fits a.version), refl, written_none (ladder_within a.version) a.versions.now)

pub loop-i-preserved : goal.loop-i-preserved
loop-i-preserved c =
    let a = c.args in
    let ladder : List ℕ = ladder_within a.version in
    let e : c.of-ladder.result.length ≡ length ladder = c.of-ladder.ensures.1 in
    let i : ℕ = c.loop-i.i in
    let h : i < length ladder = omega arith in
    let room : version_length * length ladder ≤ length a.versions.now = omega (arith, e, c.if-versions-length.false) in
    let x = get_or-take c.of-ladder.result.length c.of-ladder.result.versions i 0 (omega (arith, e, h))
    ∙ filled_at ladder_capacity i ladder c.of-ladder.result.versions c.of-ladder.ensures.0 h in
    let w =
    c.put_version.ensures ∙ ap (λ (v : ℕ). sets c.loop-i.versions (version_length * i) (big_endian version_length v)) x
    ∙ written_next ladder a.versions.now c.loop-i.versions i h room c.loop-i.invariant.3 in (
      omega arith,
      c.loop-i.invariant.1,
      ap length w ∙ length_written ladder a.versions.now (i + 1) (omega arith) (omega arith),
      w,
    )

pub returns : goal.returns
returns c =
    let a = c.args in
    let count : ℕ = c.of-ladder.result.length in
    let (r, w) = ladder_written a.version count a.versions.now c.of-ladder.ensures.1 c.if-versions-length.false in
    let e : c.loop-i.i ≡ count = omega arith in
    (r, c.loop-i.invariant.3 ∙ ap (written (ladder_within a.version) a.versions.now) e ∙ w)
