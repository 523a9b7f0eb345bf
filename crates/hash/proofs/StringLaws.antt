-- The law of the buffers in which src/strings.rt puts a string together: a string that fills its
-- buffer stands in it as it is.
use Rattle.std.proofs.Common.{◌≡◌, ℕ, List, length, ap, ◌∙◌}
use Rattle.hash.specs.Bytes.{padded}
use Rattle.hash.specs.Sha256.{sha256}
use Rattle.hash.proofs.BytesLaws.{padded_full}

pub string_law : (n : ℕ) (b s t d : List ℕ) → b ≡ padded n s → d ≡ sha256 b → s ≡ t → length t ≡ n → d ≡ sha256 t
string_law n b s t d hb hd hs hn = hd ∙ ap sha256 (hb ∙ ap (padded n) hs ∙ padded_full n t hn)
