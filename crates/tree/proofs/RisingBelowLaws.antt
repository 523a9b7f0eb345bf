-- Positions that rise and are below a number, tested one after the other (src/log_head.rt).
use mathlib.Core.Path.{◌≡◌, refl, sym, ap, ◌∙◌}
use mathlib.Core.Bool.{Bool, true, false, ◌&&◌}
use mathlib.Core.List.{List, [], ◌∷◌}
use Prim.Native.Nat.{ℕ, suc, ◌+◌, ◌≤◌, ◌<◌}
use native.Mathlib.Numerals.{add-one}
use native.Mathlib.Omega.{arith}
use lib.Dec.{leb, ltb}
use lib.ListN.{length, drop}
use borrow.Author.Tests.{lt-ltb, le-ltb, le-leb, lt-leb}
use Rattle.lists.specs.Lists.{Bytes, all, rising}
use Rattle.lines.specs.Layout.{entry_fields}
use Rattle.tree.specs.LogTree.{LogEntry}
use Rattle.tree.specs.LogText.{entry_in, next_line, shown_in}
use Rattle.tree.specs.LogHead.{positions}
use Rattle.tree.specs.LogWalk.{rising_below}
use Rattle.tree.proofs.EntryLineLaws.{first_offset, first-again, shown-same, shown_first, shown-end}

-- the same test with a bound that rises: each is at least the bound, which is then the number after
-- it
abbrev pub between : ℕ → ℕ → List ℕ → Bool
between least n [] = true
between least n (p ∷ ps) = leb least p && (ltb p n && between (suc p) n ps)

between_after : (x n : ℕ) (ps : List ℕ) → (rising (x ∷ ps) && all (λ (p : ℕ). ltb p n) ps) ≡ between (suc x) n ps
unfolding rising all
between_after x n [] = refl
between_after x n (q ∷ ps) = swap (ltb x q) (rising (q ∷ ps)) (ltb q n) (all (λ (p : ℕ). ltb p n) ps) ∙ ap (λ (b : Bool). ltb x q && (ltb q n && b)) (between_after q n ps)
  where
    swap : (a b c d : Bool) → (a && b && (c && d)) ≡ (a && (c && (b && d)))
    swap true true c d = refl
    swap true false true d = refl
    swap true false false d = refl
    swap false b c d = refl

-- it is the test
pub between_all : (n : ℕ) (ps : List ℕ) → between 0 n ps ≡ rising_below n ps
unfolding rising all
between_all n [] = refl
between_all n (p ∷ ps) =
    rw (le-leb 0 p (omega arith), sym (between_after p n ps)) (swap (ltb p n) (rising (p ∷ ps)) (all (λ (q : ℕ). ltb q n) ps))
  where
    swap : (a b c : Bool) → (a && (b && c)) ≡ (b && (a && c))
    swap true b c = refl
    swap false true c = refl
    swap false false c = refl

-- ---- the positions that a text shows, line by line

-- an entry line begins at an offset, or it is the end, and the positions from there on decide, with
-- a bound that has risen
abbrev pub Decides : Bytes → ℕ → ℕ → ℕ → Type 0
Decides t n least at = (at ≡ first_offset t at) × (between least n (positions (shown_in (drop at t))) ≡ rising_below n (positions (shown_in t)))

module _ (t : Bytes) (n : ℕ) where
  -- from the first line on all of them decide
  pub decides-start : (at : ℕ) → at ≡ first_offset t 0 → Decides t n 0 at
  decides-start at e = (first-again t 0 at e, ap (λ (es : List LogEntry). between 0 n (positions es)) (shown-same t 0 at e) ∙ between_all n (positions (shown_in t)))

  -- at the end there is none that could be wrong
  pub decides-end : (least at : ℕ) → Decides t n least at → length t ≤ at → true ≡ rising_below n (positions (shown_in t))
  decides-end least at d h = ap (λ (es : List LogEntry). between least n (positions es)) (sym (shown-end t at h)) ∙ d.1

  module _ (least at v : ℕ) (d : Decides t n least at) (h : at < length t) (e : v ≡ (entry_in (drop (at + entry_fields) t)).position) where
    -- the position of the line at hand is the first
    first_one : (leb least v && (ltb v n && between (suc v) n (positions (shown_in (drop (next_line t at) t))))) ≡ rising_below n (positions (shown_in t))
    first_one =
        ap (λ (p : ℕ). between least n (p ∷ positions (shown_in (drop (next_line t at) t)))) e
        ∙ ap (λ (es : List LogEntry). between least n (positions es)) (sym (shown_first t at h d.0)) ∙ d.1

    -- one that is below the bound decides
    pub decides-low : v < least → false ≡ rising_below n (positions (shown_in t))
    decides-low l = rw (lt-leb least v l) at first_one

    -- so does one that is not below n
    pub decides-high : least ≤ v → n ≤ v → false ≡ rising_below n (positions (shown_in t))
    decides-high l u = rw (le-leb least v l, le-ltb v n u) at first_one

    -- past another those after it decide
    pub decides-next : least ≤ v → v < n → (x : ℕ) → x ≡ first_offset t (next_line t at) → Decides t n (v + 1) x
    decides-next l u x ex = (
      first-again t (next_line t at) x ex,
      ap (λ (es : List LogEntry). between (v + 1) n (positions es)) (shown-same t (next_line t at) x ex)
          ∙ rw (add-one v) (rw (le-leb least v l, lt-ltb v n u) at first_one),
    )
