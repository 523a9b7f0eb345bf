-- The strings that a call hashed, of small calls written out. antt computes each one; SHA-256 and
-- HMAC stay shut.
use mathlib.Core.Path.{◌≡◌, refl}
use mathlib.Core.List.{[], ◌∷◌, ◌++◌, flat_map}
use mathlib.Core.Option.{some, Option-elim, bind}
use Prim.Native.Nat.{ℕ}
use Rattle.lists.specs.Lists.{Bytes}
use Rattle.lists.proofs.Computing.{list_definitions}
use Rattle.hash.specs.Bytes.{big_endian}
use Rattle.hash.specs.Sha256.{sha256}
use Rattle.hash.specs.Hmac.{inner_string, outer_string, hmac}
use Rattle.tree.specs.LogTree.{zeros}
use Rattle.tree.proofs.Computing.{tree_definitions}
use Rattle.rules.specs.Response.{Finding, searched, monitored, Result, included, absent, other_leaf}
use Rattle.rules.specs.Commitment.{commitment_key, commitment_value}
use Rattle.rules.specs.Refusals.{Call}
use Rattle.rules.specs.Hashed.{hashed}
use Rattle.rules.proofs.Computing.{rule_definitions}
use Rattle.rules.proofs.Running.{blank_inputs, blank_configuration}

-- a log of one entry with one lookup, of version 0, at depth 1; its output begins with a bit 0, and
-- o are the other bytes
module _ (o s r label opening value c : Bytes) (t : ℕ) where
  abbrev one_entry : Finding → Result → Call
  one_entry f result =
      record {
        inputs = blank_inputs 0 0;
        configuration = blank_configuration 0 0;
        state = record { label = label; log = record { size = 0; timestamp = 0; values = [] }; monitoring_map = [] };
        outputs = record { version = 0; output = 0 ∷ o } ∷ [];
        parts =
            record {
              identifier = [];
              label = label;
              tree_size = 1;
              finding = f;
              steps = record { version = 0; commitment = some c } ∷ [];
              entries =
                  record { position = 0; timestamp = t; prefix_root = r; lookups = record { version = 0; result = result; siblings = s ∷ [] } ∷ [] } ∷ [];
              nodes = [];
            };
      }

  abbrev target : Finding
  target = searched (record { version = 0; opening = opening; value = value })

  abbrev message : Bytes
  message = commitment_value opening label value

  -- the log leaf, the prefix leaf and its parent, and HMAC's two strings
  pub by-search : hashed (one_entry target included)
      ≡ (big_endian 8 t ++ r)
      ∷ (0x01 ∷ (0 ∷ o) ++ hmac commitment_key message)
      ∷ (0x02 ∷ sha256 (0x01 ∷ (0 ∷ o) ++ hmac commitment_key message) ++ s)
      ∷ inner_string commitment_key message
      ∷ outer_string commitment_key message
      ∷ []
  unfolding list_definitions tree_definitions rule_definitions flat_map Option-elim bind
  by-search = refl

  -- in monitoring the step has the commitment, and HMAC is not called
  pub by-monitoring : hashed (one_entry monitored included)
      ≡ (big_endian 8 t ++ r) ∷ (0x01 ∷ (0 ∷ o) ++ c) ∷ (0x02 ∷ sha256 (0x01 ∷ (0 ∷ o) ++ c) ++ s) ∷ []
  unfolding list_definitions tree_definitions rule_definitions flat_map Option-elim bind
  by-monitoring = refl

  -- an empty place has no string of its own
  pub at-empty-place : hashed (one_entry monitored absent) ≡ (big_endian 8 t ++ r) ∷ (0x02 ∷ zeros ++ s) ∷ []
  unfolding list_definitions tree_definitions rule_definitions flat_map Option-elim bind
  at-empty-place = refl

  -- another leaf is hashed with its own output and commitment
  pub at-other-leaf : (p k : Bytes) → hashed (one_entry monitored (other_leaf p k))
      ≡ (big_endian 8 t ++ r) ∷ (0x01 ∷ p ++ k) ∷ (0x02 ∷ sha256 (0x01 ∷ p ++ k) ++ s) ∷ []
  unfolding list_definitions tree_definitions rule_definitions flat_map Option-elim bind
  at-other-leaf p k = refl
