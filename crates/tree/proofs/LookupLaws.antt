-- Lookups in one prefix tree (specs/PrefixTree.antt): of one output they show one commitment, and
-- not both a leaf and none, unless SHA-256 is broken.
use mathlib.Core.Path.{◌≡◌, refl, sym, ap, ◌∙◌, subst}
use mathlib.Core.Logic.{◌⊎◌, inl, inr}
use mathlib.Core.Bool.{true, not}
use mathlib.Core.List.Memᴰ
use mathlib.Core.List.{List, [], ◌∷◌, ◌++◌, Memᴰ}
use Prim.Native.Nat.{ℕ, zero, suc}
use native.Mathlib.Omega.{arith}
use lib.ListN.{length, take}
use borrow.Author.Tests.{not-true}
use Rattle.lists.specs.Lists.{Bytes, same}
use Rattle.lists.proofs.ChoiceLaws.{and_holds}
use Rattle.lists.proofs.ListLaws.{same_false}
use Rattle.lists.proofs.MemberLaws.{each_nil, each-cons, each_append}
use Rattle.hash.specs.Bytes.{AreBytes}
use Rattle.hash.specs.Sha256.{digest_length, sha256}
use Rattle.hash.proofs.BytesLaws.{bytes_append, bytes_zeros}
use Rattle.hash.proofs.MessageLaws.{length_digest, bytes_digest}
use Rattle.tree.specs.LogTree.{zeros}
use Rattle.tree.specs.Collisions.{Broken}
use Rattle.tree.specs.PrefixTree.{prefix_leaf_string, prefix_parent_string, bits, Terminal, searched_leaf}
use Rattle.tree.specs.PrefixTree.{empty_place, foreign_leaf, terminal_strings, terminal_value, parent_over}
use Rattle.tree.specs.PrefixTree.{value_above, strings_above, lookup_root, lookup_strings, terminal_fits}
use Rattle.tree.proofs.CollisionLaws.{◌>>=◌, settled, Sized, append_cancel, append_split, ByteStrings}
use Rattle.tree.proofs.CollisionLaws.{Within, colliding, zero-valued, same-string}

-- What is taken from a lookup of an output: siblings along its bits lead from what stands at its
-- place up to the root, by strings of a list.
pub record LeadsTo (S : List Bytes) (o : Bytes) (t : Terminal) (root : Bytes) : Type 0 where
  pub siblings : List Bytes
  pub sized : Sized siblings
  pub listed : Within (lookup_strings o t siblings) S
  pub leads : lookup_root o t siblings ≡ root

-- a place shows that the output looked up has no leaf: nothing stands there, or a leaf of another
-- output
abbrev pub Absent : Bytes → Terminal → Type 0
Absent o (searched_leaf c) = ⊥
Absent o empty_place = Unit {0}
Absent o (foreign_leaf o' c') = (length o' ≡ digest_length) × (o ≡ o' → ⊥)

-- A leaf that fits beside the output looked up is of another output.
pub fits_absent : (o o' c' : Bytes) (depth : ℕ) → length o' ≡ digest_length → terminal_fits o (foreign_leaf o' c') depth ≡ true → Absent o (foreign_leaf o' c')
unfolding terminal_fits
fits_absent o o' c' depth h e =
    (h, same_false o o' (not-true (same o o') (and_holds (not (same o o')) (same (take depth (bits o)) (take depth (bits o'))) e).0))

-- ---- lengths

-- What stands at a place has a value of a digest's length.
pub length_terminal : (o : Bytes) (t : Terminal) → length (terminal_value o t) ≡ digest_length
unfolding terminal_value zeros
length_terminal o (searched_leaf c) = length_digest (prefix_leaf_string o c)
length_terminal o empty_place = refl
length_terminal o (foreign_leaf o' c) = length_digest (prefix_leaf_string o' c)

-- So has what stands above it.
pub length_above : (bs : List ℕ) (ss : List Bytes) (v : Bytes) → length v ≡ digest_length → length (value_above bs ss v) ≡ digest_length
unfolding value_above
length_above [] ss v h = h
length_above (b ∷ bs) [] v h = h
length_above (b ∷ bs) (s ∷ ss) v h = length_digest (parent_over b (value_above bs ss v) s)

-- ---- strings

-- A parent's string begins with its tag.
parent_tag : (b : ℕ) (v s : Bytes) → (x : Bytes) × (parent_over b v s ≡ 0x02 ∷ x)
unfolding parent_over prefix_parent_string
parent_tag zero v s = (v ++ s, refl)
parent_tag (suc b) v s = (s ++ v, refl)

-- Equal parents over values of one length, on one side, are over equal values.
parent_under : (b : ℕ) (v v' s s' : Bytes) → length v ≡ length v' → length s ≡ length s' → parent_over b v s ≡ parent_over b v' s' → v ≡ v'
unfolding parent_over prefix_parent_string
parent_under zero v v' s s' h k e = (append_split v v' s s' h (append_cancel (0x02 ∷ []) (v ++ s) (v' ++ s') e)).0
parent_under (suc b) v v' s s' h k e = (append_split s s' v v' k (append_cancel (0x02 ∷ []) (s ++ v) (s' ++ v') e)).1

-- Equal leaves' strings of one output have equal commitments.
leaf_commitment : (o c c' : Bytes) → prefix_leaf_string o c ≡ prefix_leaf_string o c' → c ≡ c'
unfolding prefix_leaf_string
leaf_commitment o c c' e = append_cancel (0x01 ∷ o) c c' e

-- Equal leaves' strings of outputs of one length have equal outputs.
leaf_output : (o o' c c' : Bytes) → length o ≡ length o' → prefix_leaf_string o c ≡ prefix_leaf_string o' c' → o ≡ o'
unfolding prefix_leaf_string
leaf_output o o' c c' h e = (append_split o o' c c' h (append_cancel (0x01 ∷ []) (o ++ c) (o' ++ c') e)).0

-- No leaf's string is a parent's.
leaf_parent_differ : (o c x : Bytes) → prefix_leaf_string o c ≡ 0x02 ∷ x → ⊥
unfolding prefix_leaf_string
leaf_parent_differ o c x e = let z : ◌≡◌ {A = ℕ} 1 2 = cc in omega arith

-- ---- two lookups with one root

-- a parent's value, whose string is listed
record Parent (S : List Bytes) (v : Bytes) : Type 0 where
  rest : Bytes
  listed : Memᴰ (0x02 ∷ rest) S
  is : v ≡ sha256 (0x02 ∷ rest)

-- How two places on the way down from one root lie: they have one value, or the value of the first,
-- or of the second, is a parent's.
data Meet (S : List Bytes) (u u' : Bytes) : Type 0 where
  level : u ≡ u' → Meet S u u'
  above : Parent S u → Meet S u u'
  below : Parent S u' → Meet S u u'

-- A listed parent's string makes its value a parent's.
listed_parent : (S : List Bytes) (b : ℕ) (v s w : Bytes) → Memᴰ (parent_over b v s) S → w ≡ sha256 (parent_over b v s) → Parent S w
listed_parent S b v s w h e =
    let t = parent_tag b v s in record { rest = t.0; listed = subst (λ (x : Bytes). Memᴰ x S) t.1 h; is = e ∙ ap sha256 t.1 }

module _ (S : List Bytes) (bytes : ByteStrings S) where
  -- Two ways along the same bits to one value meet: the parents' strings are equal from the root
  -- down, until one way ends.
  meet : (bs : List ℕ) (ss ss' : List Bytes) (u u' : Bytes) → Sized ss → Sized ss' → length u ≡ digest_length → length u' ≡ digest_length
      → Within (strings_above bs ss u) S → Within (strings_above bs ss' u') S → value_above bs ss u ≡ value_above bs ss' u' → Meet S u u' ⊎ Broken S
  unfolding value_above strings_above
  meet [] ss ss' u u' z z' h h' f f' e = inl (level e)
  meet (b ∷ bs) [] [] u u' z z' h h' f f' e = inl (level e)
  meet (b ∷ bs) [] (s ∷ ss) u u' z z' h h' f f' e = inl (above (listed_parent S b (value_above bs ss u') s u (f' _ (Memᴰ.head refl)) e))
  meet (b ∷ bs) (s ∷ ss) [] u u' z z' h h' f f' e = inl (below (listed_parent S b (value_above bs ss u) s u' (f _ (Memᴰ.head refl)) (sym e)))
  meet (b ∷ bs) (s ∷ ss) (s' ∷ ss') u u' z z' h h' f f' e = do
    q ← same-string S bytes _ _ (f _ (Memᴰ.head refl)) (f' _ (Memᴰ.head refl)) e
    meet bs ss ss' u u' (λ x m. z x (Memᴰ.tail m)) (λ x m. z' x (Memᴰ.tail m)) h h' (λ x m. f x (Memᴰ.tail m)) (λ x m. f' x (Memᴰ.tail m))
        (parent_under b (value_above bs ss u) (value_above bs ss' u') s s' (length_above bs ss u h ∙ sym (length_above bs ss' u' h'))
        (z s (Memᴰ.head refl) ∙ sym (z' s' (Memᴰ.head refl))) q)

  -- Two lookups of one output with one root meet.
  meet-lookups : (o root : Bytes) (t t' : Terminal) → LeadsTo S o t root → LeadsTo S o t' root → Meet S (terminal_value o t) (terminal_value o t') ⊎ Broken S
  unfolding lookup_root lookup_strings
  meet-lookups o root t t' l l' =
      meet (bits o) l.siblings l'.siblings (terminal_value o t) (terminal_value o t') l.sized l'.sized (length_terminal o t) (length_terminal o t')
      (λ x m. l.listed x (Memᴰ.append_right (terminal_strings o t) m)) (λ x m. l'.listed x (Memᴰ.append_right (terminal_strings o t') m))
      (l.leads ∙ sym l'.leads)

  -- The string at the place is listed.
  place-listed : (o root : Bytes) (t : Terminal) (x : Bytes) → LeadsTo S o t root → Memᴰ x (terminal_strings o t) → Memᴰ x S
  unfolding lookup_strings
  place-listed o root t x l m = l.listed x (Memᴰ.append_left (strings_above (bits o) l.siblings (terminal_value o t)) m)

  -- So is that of the leaf looked up.
  own-listed : (o root c : Bytes) → LeadsTo S o (searched_leaf c) root → Memᴰ (prefix_leaf_string o c) S
  unfolding terminal_strings
  own-listed o root c l = place-listed o root (searched_leaf c) (prefix_leaf_string o c) l (Memᴰ.head refl)

  -- So is that of another leaf.
  foreign-listed : (o root o' c : Bytes) → LeadsTo S o (foreign_leaf o' c) root → Memᴰ (prefix_leaf_string o' c) S
  unfolding terminal_strings
  foreign-listed o root o' c l = place-listed o root (foreign_leaf o' c) (prefix_leaf_string o' c) l (Memᴰ.head refl)

  -- A leaf whose value is a parent's breaks SHA-256.
  leaf-parent : (o c : Bytes) → Memᴰ (prefix_leaf_string o c) S → Parent S (sha256 (prefix_leaf_string o c)) → Broken S
  leaf-parent o c m p = colliding S bytes (prefix_leaf_string o c) (0x02 ∷ p.rest) m p.listed (leaf_parent_differ o c p.rest) p.is

  -- Two lookups of one output that find its leaf find one commitment.
  pub one-commitment : (o root c c' : Bytes) → LeadsTo S o (searched_leaf c) root → LeadsTo S o (searched_leaf c') root → (c ≡ c') ⊎ Broken S
  unfolding terminal_value
  one-commitment o root c c' l l' = do
    m ← meet-lookups o root (searched_leaf c) (searched_leaf c') l l'
    go m
    where
      own : Memᴰ (prefix_leaf_string o c) S
      own = own-listed o root c l

      own' : Memᴰ (prefix_leaf_string o c') S
      own' = own-listed o root c' l'

      go : Meet S (sha256 (prefix_leaf_string o c)) (sha256 (prefix_leaf_string o c')) → (c ≡ c') ⊎ Broken S
      go (level q) = do
        e ← same-string S bytes (prefix_leaf_string o c) (prefix_leaf_string o c') own own' q
        inl (leaf_commitment o c c' e)
      go (above p) = inr (leaf-parent o c own p)
      go (below p) = inr (leaf-parent o c' own' p)

  -- An output does not have both a leaf and an empty place.
  leaf-empty : (o c : Bytes) → Memᴰ (prefix_leaf_string o c) S → Meet S (sha256 (prefix_leaf_string o c)) zeros → Broken S
  leaf-empty o c m (level q) = zero-valued S bytes (prefix_leaf_string o c) m q
  leaf-empty o c m (above p) = leaf-parent o c m p
  leaf-empty o c m (below p) = zero-valued S bytes (0x02 ∷ p.rest) p.listed (sym p.is)

  -- Nor both a leaf and another output's leaf at its place.
  leaf-foreign : (o c o' c' : Bytes) → length o ≡ length o' → (o ≡ o' → ⊥) → Memᴰ (prefix_leaf_string o c) S → Memᴰ (prefix_leaf_string o' c') S
      → Meet S (sha256 (prefix_leaf_string o c)) (sha256 (prefix_leaf_string o' c')) → Broken S
  leaf-foreign o c o' c' h n m m' (level q) =
      colliding S bytes (prefix_leaf_string o c) (prefix_leaf_string o' c') m m' (λ e. n (leaf_output o o' c c' h e)) q
  leaf-foreign o c o' c' h n m m' (above p) = leaf-parent o c m p
  leaf-foreign o c o' c' h n m m' (below p) = leaf-parent o' c' m' p

  -- Two lookups of one output do not show both its leaf and that it has none.
  pub not_both : (o root c : Bytes) (t : Terminal) → length o ≡ digest_length → Absent o t → LeadsTo S o (searched_leaf c) root → LeadsTo S o t root → Broken S
  unfolding terminal_value
  not_both o root c (searched_leaf c') h n l l' = absurd n
  not_both o root c empty_place h n l l' = settled (meet-lookups o root (searched_leaf c) empty_place l l') (leaf-empty o c (own-listed o root c l))
  not_both o root c (foreign_leaf o' c') h n l l' =
      settled (meet-lookups o root (searched_leaf c) (foreign_leaf o' c') l l')
      (leaf-foreign o c o' c' (h ∙ sym n.0) n.1 (own-listed o root c l) (foreign-listed o root o' c' l'))

-- ---- the strings of a lookup are byte strings

-- the values at the place are byte strings
abbrev pub TerminalBytes : Terminal → Type 0
TerminalBytes (searched_leaf c) = AreBytes c
TerminalBytes empty_place = Unit {0}
TerminalBytes (foreign_leaf o c) = AreBytes o × AreBytes c

-- A leaf's string is a byte string if its output and commitment are.
bytes_leaf : (o c : Bytes) → AreBytes o → AreBytes c → AreBytes (prefix_leaf_string o c)
unfolding prefix_leaf_string
bytes_leaf o c h k = (omega arith, bytes_append o c h k)

-- A parent's string is a byte string if its children's values are.
bytes_parent : (b : ℕ) (v s : Bytes) → AreBytes v → AreBytes s → AreBytes (parent_over b v s)
unfolding parent_over prefix_parent_string
bytes_parent zero v s h k = (omega arith, bytes_append v s h k)
bytes_parent (suc b) v s h k = (omega arith, bytes_append s v k h)

-- What stands at a place has a value of bytes.
pub bytes_terminal : (o : Bytes) (t : Terminal) → AreBytes (terminal_value o t)
unfolding terminal_value zeros
bytes_terminal o (searched_leaf c) = bytes_digest (prefix_leaf_string o c)
bytes_terminal o empty_place = bytes_zeros digest_length
bytes_terminal o (foreign_leaf o' c) = bytes_digest (prefix_leaf_string o' c)

-- So has what stands above it.
pub bytes_above : (bs : List ℕ) (ss : List Bytes) (v : Bytes) → AreBytes v → AreBytes (value_above bs ss v)
unfolding value_above
bytes_above [] ss v h = h
bytes_above (b ∷ bs) [] v h = h
bytes_above (b ∷ bs) (s ∷ ss) v h = bytes_digest (parent_over b (value_above bs ss v) s)

-- The string at a place is a byte string.
bytes_place : (o : Bytes) (t : Terminal) → AreBytes o → TerminalBytes t → ByteStrings (terminal_strings o t)
unfolding terminal_strings
bytes_place o (searched_leaf c) h k = each-cons AreBytes (prefix_leaf_string o c) [] (bytes_leaf o c h k) (each_nil AreBytes)
bytes_place o empty_place h k = each_nil AreBytes
bytes_place o (foreign_leaf o' c) h k = each-cons AreBytes (prefix_leaf_string o' c) [] (bytes_leaf o' c k.0 k.1) (each_nil AreBytes)

-- The strings on the way up are byte strings.
bytes_way : (bs : List ℕ) (ss : List Bytes) (v : Bytes) → AreBytes v → ByteStrings ss → ByteStrings (strings_above bs ss v)
unfolding strings_above
bytes_way [] ss v h k = each_nil AreBytes
bytes_way (b ∷ bs) [] v h k = each_nil AreBytes
bytes_way (b ∷ bs) (s ∷ ss) v h k =
    each-cons AreBytes (parent_over b (value_above bs ss v) s) (strings_above bs ss v) (bytes_parent b (value_above bs ss v) s (bytes_above bs ss v h) (k s (Memᴰ.head refl)))
    (bytes_way bs ss v h (λ y n. k y (Memᴰ.tail n)))

-- The strings of a lookup are byte strings if the output, the siblings and the values at the place
-- are.
pub bytes_lookup : (o : Bytes) (t : Terminal) (ss : List Bytes) → AreBytes o → TerminalBytes t → ByteStrings ss → ByteStrings (lookup_strings o t ss)
unfolding lookup_strings
bytes_lookup o t ss h k f =
    each_append AreBytes (terminal_strings o t) (strings_above (bits o) ss (terminal_value o t)) (bytes_place o t h k)
    (bytes_way (bits o) ss (terminal_value o t) (bytes_terminal o t) f)
