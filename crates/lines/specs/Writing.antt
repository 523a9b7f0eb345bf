-- Writing into lent bytes from an offset on: a text that does not fit there is not written at all.
use Rattle.std.proofs.Math.Option.{Option, Option-elim, none}
use Rattle.std.specs.Prelude.{ℕ, ◌+◌, leb, length}
use Rattle.lists.specs.Choice.{choose, provided}
use Rattle.lists.specs.Lists.{Bytes, written}

-- the offset after a text that is put into bytes from an offset on, if it fits there
unfoldable pub offset_after : Bytes → ℕ → Bytes → Option ℕ
offset_after s at t = provided (leb (at + length t) (length s)) (at + length t)

-- the bytes then: the text in its place and all others as they were; all as they were where it does
-- not fit
unfoldable pub put_at : Bytes → ℕ → Bytes → Bytes
put_at s at t = choose (leb (at + length t) (length s)) (λ _. written s at t) (λ _. s)

-- the same where there may be no text to put
unfoldable pub offset_after_any : Bytes → ℕ → Option Bytes → Option ℕ
offset_after_any s at t = Option-elim t none (offset_after s at)

unfoldable pub put_any : Bytes → ℕ → Option Bytes → Bytes
put_any s at t = Option-elim t s (put_at s at)
