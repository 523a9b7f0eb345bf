-- What stands at the place a lookup ends in, as the code holds it (specs/Lookups.antt): its value,
-- and whether it fits.
use mathlib.Core.Path.{◌≡◌, refl, sym, ap, ◌∙◌, subst}
use mathlib.Core.Bool.{Bool, true, false}
use mathlib.Core.List.{List, [], ◌∷◌, ◌++◌}
use Prim.Native.Nat.{ℕ, ◌<◌, ◌≤◌}
use lib.Dec.{leb}
use native.Mathlib.Omega.{arith}
use lib.ListN.{length, get_or, take}
use lib.Seq.{get_or-take, take-take}
use borrow.Author.Tests.{le-leb, lt-leb}
use borrow.Kind.Array.{e_int}
use denote.Array.{each}
use denote.Shadow.{shadow}
use mir.Syntax.{w8}
use mir.Val.{Val}
use Rattle.std.specs.Prelude.{Option, Some, None, MatchOption}
use Rattle.std.specs.List.{AllWithin, HoldsAt, range_with_len}
use Rattle.std.proofs.lemmas.List.FromFn.{length-range_with_len, get_or-range_with_len}
use Rattle.lists.specs.Lists.{Bytes, same}
use Rattle.lists.proofs.ListLaws.{equal_same, differ_same}
use Rattle.hash.specs.Bytes.{AreBytes}
use Rattle.hash.specs.Sha256.{sha256}
use Rattle.tree.specs.LogTree.{zeros}
use Rattle.tree.specs.declared.prefix_tree.Terminal.{Terminal as Held}
use Rattle.tree.specs.declared.prefix_tree.Terminal.TheVariants.{SearchedLeaf, Empty, OtherLeaf}
use Rattle.tree.specs.PrefixTree.{prefix_leaf_string, bits, terminal_value, terminal_fits}
use Rattle.tree.specs.Lookups.{terminal_of}
use Rattle.tree.proofs.BitLaws.{length_bits, all_shared, shared_up}
use Rattle.tree.proofs.DigitLaws.{by_order}

-- An array that the code holds has bytes as elements.
pub bytes_held : (s : List ℕ) (vs : List Val) → shadow (each ℕ (e_int w8).ty.own_val s vs) → AreBytes s
bytes_held [] vs h = tt
bytes_held (x ∷ s) [] h = absurd h
bytes_held (x ∷ s) (v ∷ vs) (a, h) = (a.1, bytes_held s vs h)

-- ---- its value

-- The value of the leaf looked up is the digest of its output and commitment.
pub own_value : (o m : Bytes) (t : Held) → t ≡ SearchedLeaf m → sha256 (0x01 ∷ o ++ m) ≡ terminal_value o (terminal_of t)
unfolding terminal_of terminal_value prefix_leaf_string
own_value o m t e = rw e refl

-- The value of an empty place is zeros.
pub empty_value : (o : Bytes) (t : Held) → t ≡ Empty → zeros ≡ terminal_value o (terminal_of t)
unfolding terminal_of terminal_value
empty_value o t e = rw e refl

-- The value of another leaf is the digest of that leaf's output and commitment.
pub other_value : (o p m : Bytes) (t : Held) → t ≡ OtherLeaf p m → sha256 (0x01 ∷ p ++ m) ≡ terminal_value o (terminal_of t)
unfolding terminal_of terminal_value prefix_leaf_string
other_value o p m t e = rw e refl

-- ---- whether it fits

-- The leaf looked up fits.
pub own_fits : (o m : Bytes) (t : Held) (depth : ℕ) → t ≡ SearchedLeaf m → true ≡ terminal_fits o (terminal_of t) depth
unfolding terminal_of terminal_fits
own_fits o m t depth e = rw e refl

-- An empty place fits.
pub empty_fits : (o : Bytes) (t : Held) (depth : ℕ) → t ≡ Empty → true ≡ terminal_fits o (terminal_of t) depth
unfolding terminal_of terminal_fits
empty_fits o t depth e = rw e refl

-- Two lists that share n elements and no more share their first elements up to n.
shared_first : (x y : List ℕ) (n depth : ℕ) → take n x ≡ take n y → (get_or x n 0 ≡ get_or y n 0 → ⊥) → leb depth n ≡ same (take depth x) (take depth y)
shared_first x y n depth e d = by_order n depth more less
  where
    more : n < depth → leb depth n ≡ same (take depth x) (take depth y)
    more h =
        lt-leb depth n h
        ∙ sym (differ_same (take depth x) (take depth y) (λ q. d (sym (get_or-take depth x n 0 h) ∙ ap (λ (l : List ℕ). get_or l n 0) q ∙ get_or-take depth y n 0 h)))

    less : depth ≤ n → leb depth n ≡ same (take depth x) (take depth y)
    less h = le-leb depth n h ∙ sym (equal_same (take depth x) (take depth y) (sym (take-take depth n x h) ∙ ap (take depth) e ∙ take-take depth n y h))

-- Another leaf fits up to the depth where its output parts from the one looked up.
pub other_fits : (o p m : Bytes) (t : Held) (n depth : ℕ) → t ≡ OtherLeaf p m → take n (bits o) ≡ take n (bits p)
    → (get_or (bits o) n 0 ≡ get_or (bits p) n 0 → ⊥) → leb depth n ≡ terminal_fits o (terminal_of t) depth
unfolding terminal_of terminal_fits
other_fits o p m t n depth h e d =
    rw (h, differ_same o p (λ q. d (ap (λ (l : Bytes). get_or (bits l) n 0) q))) (shared_first (bits o) (bits p) n depth e d)

-- Another leaf with the output looked up does not fit.
pub same_unfit : (o p m : Bytes) (t : Held) (depth : ℕ) → t ≡ OtherLeaf p m → o ≡ p → false ≡ terminal_fits o (terminal_of t) depth
unfolding terminal_of terminal_fits
same_unfit o p m t depth h e = rw (h, equal_same o p e) refl

-- The bits that two outputs share decide whether another leaf fits.
pub shared_fits : (o p m : Bytes) (t : Held) (depth : ℕ) → t ≡ OtherLeaf p m → (r : Option ℕ) (b : Bool) (Q : ℕ → Type 0)
    → MatchOption r (o ≡ p) (λ n. (take n (bits o) ≡ take n (bits p)) × (get_or (bits o) n 0 ≡ get_or (bits p) n 0 → ⊥))
    → MatchOption r (b ≡ false) Q → ((n : ℕ) → Q n → b ≡ leb depth n) → b ≡ terminal_fits o (terminal_of t) depth
shared_fits o p m t depth h None b Q e f k = f ∙ same_unfit o p m t depth h e
shared_fits o p m t depth h (Some n) b Q e f k = k n f ∙ other_fits o p m t n depth h e.0 e.1

-- What is found among the numbers of the bits is where two outputs part.
pub parting_found : (o p : Bytes) → AreBytes o → AreBytes p → length o ≡ 32 → length p ≡ 32 → (r : Option ℕ)
    → MatchOption r
    (AllWithin (λ n. get_or (bits o) n 0 ≡ get_or (bits p) n 0) (range_with_len 0 256) 0 (length (range_with_len 0 256)))
    (λ i. (i < length (range_with_len 0 256))
    × HoldsAt (λ n. get_or (bits o) n 0 ≡ get_or (bits p) n 0 → ⊥) (range_with_len 0 256) i
    × AllWithin (λ n. get_or (bits o) n 0 ≡ get_or (bits p) n 0) (range_with_len 0 256) 0 i)
    → MatchOption r (o ≡ p) (λ n. (take n (bits o) ≡ take n (bits p)) × (get_or (bits o) n 0 ≡ get_or (bits p) n 0 → ⊥))
parting_found o p a b l m r f = go r f
  where
    all : List ℕ
    all = range_with_len 0 256

    Same : ℕ → Type 0
    Same n = get_or (bits o) n 0 ≡ get_or (bits p) n 0

    long : length all ≡ 256
    long = length-range_with_len 0 256

    same_below : (n : ℕ) → n ≤ 256 → AllWithin Same all 0 n → take n (bits o) ≡ take n (bits p)
    same_below n h w =
        shared_up (bits o) (bits p) n (omega (arith, length_bits o)) (omega (arith, length_bits p))
        (λ k i. subst Same (get_or-range_with_len 0 256 k 0 (omega arith) ∙ omega arith) (w k 0 (omega arith) (omega arith)))

    go : (q : Option ℕ) → MatchOption q (AllWithin Same all 0 (length all))
        (λ i. (i < length all) × HoldsAt (λ n. Same n → ⊥) all i × AllWithin Same all 0 i)
        → MatchOption q (o ≡ p) (λ n. (take n (bits o) ≡ take n (bits p)) × (Same n → ⊥))
    go None w =
        let all_same : take 256 (bits o) ≡ take 256 (bits p) =
        same_below 256 (omega arith) (subst (AllWithin Same all 0) long w) in
        all_shared o p 256 a b (omega arith) (omega arith) all_same
    go (Some n) w =
        let h : n < 256 = omega (arith, w.0, long) in
        (same_below n (omega arith) w.2, subst (λ k. Same k → ⊥) (get_or-range_with_len 0 256 n 0 h ∙ omega arith) (w.1 0))
