-- Commitments (001, 10.5, 10.6 and 15.1).
use Rattle.std.specs.Prelude.{List, [], ◌∷◌, ◌++◌}
use Rattle.lists.specs.Lists.{Bytes}
use Rattle.hash.specs.Hmac.{inner_string, outer_string, hmac}
use Rattle.rules.specs.Encoding.{opaque}

-- 15.1: Kc, the key of both suites
unfoldable pub commitment_key : Bytes
commitment_key =
    0xd8 ∷ 0x21 ∷ 0xf8 ∷ 0x79 ∷ 0x0d ∷ 0x97 ∷ 0x70 ∷ 0x97 ∷ 0x96 ∷ 0xb4 ∷ 0xd7 ∷ 0x90 ∷ 0x33 ∷ 0x57 ∷ 0xc3
    ∷ 0xf5 ∷ []

-- 10.6: CommitmentValue; the UpdateValue of 10.5 has an empty prefix in contact monitoring
unfoldable pub commitment_value : Bytes → Bytes → Bytes → Bytes
commitment_value opening label value = opening ++ opaque 1 label ++ opaque 4 value

unfoldable pub commitment_to : Bytes → Bytes → Bytes → Bytes
commitment_to opening label value = hmac commitment_key (commitment_value opening label value)

-- the two strings that HMAC hashes for it
unfoldable pub commitment_strings : Bytes → Bytes → Bytes → List Bytes
commitment_strings opening label value =
    inner_string commitment_key (commitment_value opening label value)
    ∷ outer_string commitment_key (commitment_value opening label value) ∷ []
