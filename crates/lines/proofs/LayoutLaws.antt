-- Laws of the layout of lines (specs/Layout.antt): where fields stand follows from the words.
use mathlib.Core.Path.{◌≡◌, refl}
use Prim.Native.Nat.{ℕ, ◌+◌}
use lib.ListN.{length, get_or}
use Rattle.lists.specs.Lists.{Bytes}
use Rattle.lines.specs.Layout.{step_fields, entry_fields, lookup_fields, node_fields, entry_letter}
use Rattle.lines.specs.Number.{ascii}

-- a word and a tab
abbrev pub after_word : Bytes → ℕ
after_word w = length w + 1

pub record Fields-follow : Type 0 where
  pub step : step_fields ≡ after_word (ascii "step")
  pub entry : entry_fields ≡ after_word (ascii "entry")
  pub included : lookup_fields ≡ after_word (ascii "in")
  pub absent : lookup_fields ≡ after_word (ascii "no")
  pub other-leaf : lookup_fields ≡ after_word (ascii "nl")
  pub node : node_fields ≡ after_word (ascii "node")
  pub letter : entry_letter ≡ get_or (ascii "entry") 0 0

pub fields_follow : Fields-follow
unfolding ascii
fields_follow =
    record {
      step = refl;
      entry = refl;
      included = refl;
      absent = refl;
      other-leaf = refl;
      node = refl;
      letter = refl;
    }
