-- `inputs::response_header::head_from` meets its contract: the line at the offset is read as a `head` line.
use mathlib.Core.Path.{refl}
use Prim.Native.Nat.{ℕ}
use borrow.Author.Rules.{rules}
use Rattle.lines.specs.Line.{Read, read_line}
use Rattle.rules.specs.ResponseText.{head_form}
use Rattle.inputs.specs.ResponseLines.{head_of}
use Rattle.inputs.specs.ResponseHeader.{size_of}
use Rattle.inputs.proofs.TextLineLaws.{from-given}
use Rattle.inputs.proofs.response_header.head_from.Goals as goal

pub returns : goal.returns
returns c =
    let f : ℕ → Read head_form = λ n. (n, tt) in
    from-given (read_line head_form) _ _ _ c.read_from.result c.read_from.ensures f head_of size_of (λ l o k. search rules) refl (λ v. refl) refl (λ v n. refl)
