-- Facts that hold unless SHA-256 is broken (specs/Collisions.antt): each law gives its fact or what
-- breaks SHA-256 among the strings of a list.
use mathlib.Core.Path.{◌≡◌, refl, sym, ap, ◌∙◌}
use mathlib.Core.Logic.{◌⊎◌, inl, inr}
use mathlib.Core.Bool.{Bool, true, false}
use mathlib.Core.List.{List, [], ◌∷◌, ◌++◌, Memᴰ}
use lib.ListN.{length, take, drop}
use lib.Seq.{take_at, drop_at, drop-append_seam}
use Rattle.lists.specs.Lists.{Bytes, same}
use Rattle.lists.proofs.ListLaws.{same_true, same_false}
use Rattle.lists.proofs.MemberLaws.{each_nil, each-cons}
use Rattle.hash.specs.Bytes.{AreBytes}
use Rattle.hash.specs.Sha256.{digest_length, sha256}
use Rattle.tree.specs.LogTree.{zeros}
use Rattle.tree.specs.Collisions.{Broken}

-- ---- a fact or a way out

infixl 10 ◌>>=◌
-- A fact, or a way out: what follows from the fact, or the same way out. For `do` blocks.
pub ◌>>=◌ : {A B C : Type 0} → A ⊎ C → (A → B ⊎ C) → B ⊎ C
◌>>=◌ (inl a) f = f a
◌>>=◌ (inr c) f = inr c

-- A fact or a way out, where the fact leads to the way out too: the way out.
pub settled : {A C : Type 0} → A ⊎ C → (A → C) → C
settled (inl a) f = f a
settled (inr c) f = c

-- A fact of each member of a list, or a way out: it is a fact of all members, or there is a way
-- out.
pub all_or : {A B : Type 0} (P : A → Type 0) (l : List A) → ((x : A) → Memᴰ x l → P x ⊎ B) → ((x : A) → Memᴰ x l → P x) ⊎ B
all_or P [] f = inl (each_nil P)
all_or P (y ∷ l) f = do
  h ← f y (Memᴰ.head refl)
  t ← all_or P l (λ x m. f x (Memᴰ.tail m))
  inl (each-cons P y l h t)

-- ---- joined lists

-- After a common front the rests of equal lists are equal.
pub append_cancel : {A : Type 0} (p x y : List A) → p ++ x ≡ p ++ y → x ≡ y
append_cancel p x y e = sym (drop-append_seam p x) ∙ ap (drop (length p)) e ∙ drop-append_seam p y

-- Two equal joined lists whose fronts have one length have equal fronts and equal rests.
pub append_split : {A : Type 0} (l l' r r' : List A) → length l ≡ length l' → l ++ r ≡ l' ++ r' → (l ≡ l') × (r ≡ r')
append_split l l' r r' h e =
    (sym (take_at l r (length l') h) ∙ ap (take (length l')) e ∙ take_at l' r' (length l') refl, sym (drop_at l r (length l') h) ∙ ap (drop (length l')) e ∙ drop_at l' r' (length l') refl)

-- ---- lists of strings

-- P holds of each string of a list
abbrev pub Each : (Bytes → Type 0) → List Bytes → Type 0
Each P S = (x : Bytes) → Memᴰ x S → P x

-- every string of a list is as long as a digest; is a byte string
abbrev pub Sized : List Bytes → Type 0
Sized S = Each (λ (x : Bytes). length x ≡ digest_length) S

abbrev pub ByteStrings : List Bytes → Type 0
ByteStrings S = Each AreBytes S

-- every string of the first list is one of the second
abbrev pub Within : List Bytes → List Bytes → Type 0
Within S T = (x : Bytes) → Memᴰ x S → Memᴰ x T

module _ (S : List Bytes) (bytes : ByteStrings S) where
  -- Two different strings of a list with one SHA-256 value break it.
  pub colliding : (x y : Bytes) → Memᴰ x S → Memᴰ y S → (x ≡ y → ⊥) → sha256 x ≡ sha256 y → Broken S
  colliding x y hx hy n e =
      inl (record { x = x; y = y; x-listed = hx; y-listed = hy; x-bytes = bytes x hx; y-bytes = bytes y hy; different = n; equal = e })

  -- A string of a list whose SHA-256 value is that of an empty place breaks it.
  pub zero-valued : (x : Bytes) → Memᴰ x S → sha256 x ≡ zeros → Broken S
  zero-valued x hx e = inr (record { x = x; x-listed = hx; x-bytes = bytes x hx; zero-digest = e })

  -- Two strings of a list with one SHA-256 value are equal.
  pub same-string : (x y : Bytes) → Memᴰ x S → Memᴰ y S → sha256 x ≡ sha256 y → (x ≡ y) ⊎ Broken S
  same-string x y hx hy e = go (same x y) refl
    where
      go : (t : Bool) → same x y ≡ t → (x ≡ y) ⊎ Broken S
      go true q = inl (same_true x y q)
      go false q = inr (colliding x y hx hy (same_false x y q) e)
