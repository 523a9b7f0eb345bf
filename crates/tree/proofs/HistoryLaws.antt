-- The history of a log (paper 01, What the contracts owe): what two walks over one log show, and
-- what the values that walks hand on hold fast.
use mathlib.Core.Path.{◌≡◌, sym, ap, ◌∙◌, subst}
use mathlib.Core.Logic.{◌⊎◌, inl, inr}
use mathlib.Core.Bool.{true}
use mathlib.Core.List.Memᴰ
use mathlib.Core.List.{List, [], ◌∷◌, Memᴰ}
use Prim.Native.Nat.{ℕ, zero, suc, ◌-◌, ◌*◌, ◌/◌, ◌%◌, ◌^◌, ◌≤◌, ◌<◌}
use native.Mathlib.Nat.{pow-succ'}
use native.Mathlib.Omega.{arith}
use lib.Count.{ones}
use lib.ListN.{length}
use borrow.Author.Tests.{eq-eqb, ne_eqb}
use Rattle.lists.specs.Choice.{choose}
use Rattle.lists.specs.Lists.{Bytes, rising}
use Rattle.lists.proofs.ListLaws.{mapped_at}
use Rattle.lists.proofs.RisingLaws.{rising_tail, rising_first}
use Rattle.hash.specs.Bytes.{big_endian}
use Rattle.hash.specs.Sha256.{sha256}
use Rattle.hash.proofs.BytesLaws.{length_big_endian}
use Rattle.tree.specs.LogTree.{LogEntry, log_leaf_string, Range, full_subtrees, is_full, Walk, walk, walk_of}
use Rattle.tree.specs.LogTree.{Known, value_among, kept_value, string_at, value, kept_values_met, full_values}
use Rattle.tree.specs.LogTree.{walk_strings}
use Rattle.tree.specs.LogHead.{positions}
use Rattle.tree.specs.Collisions.{Broken}
use Rattle.tree.proofs.CollisionLaws.{Sized, ◌>>=◌, append_split, ByteStrings, Within, same-string}
use Rattle.tree.proofs.FullLaws.{full_length}
use Rattle.tree.proofs.SubtreeLaws.{block, Subtree, whole}
use Rattle.tree.proofs.HoldingLaws.{Inside, range_equal, full_as_block, entry_in_full, full_one}
use Rattle.tree.proofs.HoldingLaws.{full_ends, full_grows}
use Rattle.tree.proofs.PathLaws.{Path, path_one, path_from}
use Rattle.tree.proofs.WalkCaseLaws.{Walks, walk_cases}
use Rattle.tree.proofs.WalkPathLaws.{met_parent, strings_left, strings_right, shown-path, shown-listed}
use Rattle.tree.proofs.WalkPathLaws.{kept-path}
use Rattle.tree.proofs.FullValueLaws.{matched_length, matched_among, Part, OfHalves, full-values-parts}

-- ---- the string of an entry

-- Numbers of n bytes with equal bytes are equal.
pub big_endian_one : (n x y : ℕ) → x < 256 ^ n → y < 256 ^ n → big_endian n x ≡ big_endian n y → x ≡ y
unfolding big_endian
big_endian_one zero x y h k e = omega arith
big_endian_one (suc n) x y h k e =
    let p : 256 ^ suc n ≡ 256 * 256 ^ n = pow-succ' 256 n in
    let (a, b) = append_split (big_endian n (x / 256)) (big_endian n (y / 256)) (x % 256 ∷ []) (y % 256 ∷ []) (length_big_endian n (x / 256) ∙ sym (length_big_endian n (y / 256))) e in
    let q : x / 256 ≡ y / 256 = big_endian_one n (x / 256) (y / 256) (omega arith) (omega arith) a in
    let r : x % 256 ≡ y % 256 = cc in
    omega arith

-- Entries with one leaf string have one time and one prefix root.
pub entry_string_one : (e e' : LogEntry) → e.timestamp < 2 ^ 64 → e'.timestamp < 2 ^ 64 → log_leaf_string e ≡ log_leaf_string e'
    → (e.timestamp ≡ e'.timestamp) × (e.prefix_root ≡ e'.prefix_root)
unfolding log_leaf_string
entry_string_one e e' h h' q =
    let (a, b) = append_split (big_endian 8 e.timestamp) (big_endian 8 e'.timestamp) e.prefix_root e'.prefix_root (length_big_endian 8 e.timestamp ∙ sym (length_big_endian 8 e'.timestamp)) q in
    (big_endian_one 8 e.timestamp e'.timestamp h h' a, b)

-- The string at the position of an entry is the entry's, where the positions rise.
pub string_of_entry : (es : List LogEntry) (e : LogEntry) → rising (positions es) ≡ true → Memᴰ e es → string_at es e.position ≡ log_leaf_string e
unfolding string_at choose
string_of_entry [] e r i = absurd (Memᴰ.not-nil i)
string_of_entry (a ∷ es) e r i = go (λ j. string_of_entry es e (rising_tail a.position (positions es) r) j) (Memᴰ.cases_cons i)
  where
    go : (Memᴰ e es → string_at es e.position ≡ log_leaf_string e) → (e ≡ a) ⊎ Memᴰ e es → string_at (a ∷ es) e.position ≡ log_leaf_string e
    go ih (inl z) = rw (eq-eqb a.position e.position (ap (λ (x : LogEntry). x.position) (sym z))) (ap log_leaf_string (sym z))
    go ih (inr j) =
        let l : a.position < e.position = rising_first a.position (positions es) r e.position (mapped_at (λ (x : LogEntry). x.position) es e j) in
        rw (ne_eqb a.position e.position (λ q. omega arith)) (ih j)

-- ---- what a state binds

-- The values kept of the full subtrees of m entries bind the entry p to the leaf string x: from the
-- value kept of the full subtree that holds p, parents whose strings stand in S lead down to the
-- digest of x, which stands in S too.
pub record Binds (m : ℕ) (values : List Bytes) (p : ℕ) (x : Bytes) (S : List Bytes) : Type 0 where
  pub full : Range
  pub is-full : is_full m full ≡ true
  pub inside : Inside full p
  pub listed : Memᴰ x S
  pub path : Path S p (sha256 x) full (value_among (full_subtrees m) values full)

-- What the laws ask of a walk over n entries: it does not shorten the log, it shows entry n - 1
-- unless nothing is new, and kept values and nodes are as long as digests.
pub record Follows (n : ℕ) (k : Known) (ps : List ℕ) (nodes : List Bytes) : Type 0 where
  pub grown : k.size ≤ n
  pub last : Memᴰ (n - 1) ps ⊎ (k.size ≡ n)
  pub values-sized : Sized k.values
  pub nodes-sized : Sized nodes

-- and of one whose state is to bind what it shows, or what the state before binds: it meets the
-- kept values, and the strings that it hashes stand in a list
pub record Meets (k : Known) (S : List Bytes) (w : Walk) (nodes : List Bytes) : Type 0 where
  pub met : kept_values_met k w nodes ≡ true
  pub listed : Within (walk_strings k w nodes) S

-- Both children of a walk that does so do.
meets_halves : (k : Known) (S : List Bytes) → OfHalves (Meets k S)
meets_halves k S r x y ns h =
    let (_, a, b) = met_parent k r x y ns h.met in
    (record { met = a; listed = strings_left k r x y ns S h.listed }, record { met = b; listed = strings_right k r x y ns S h.listed })

-- A full subtree of n is a subtree of n.
full_subtree : (n : ℕ) (g : Range) → is_full n g ≡ true → Subtree n g
full_subtree n g h =
    let b = full_as_block n g h in
    subst (λ (r : Range). Subtree n r) (sym (range_equal g (block b.level b.number) b.starts b.wide)) (whole b.level b.number b.ends)

-- The value handed on of a full subtree is the value of a walk of it.
handed_part : (n : ℕ) (k : Known) (ps : List ℕ) (ns S : List Bytes) → Follows n k ps ns → 0 < n → Meets k S (walk_of n k.size ps) ns
    → (g : Range) → is_full n g ≡ true → Part k ps (Meets k S) g (value_among (full_subtrees n) (full_values n k (walk_of n k.size ps) ns) g)
unfolding is_full
handed_part n k ps ns S w h f g e = matched_among (full-values-parts n k ps (Meets k S) (meets_halves k S) w.last h ns w.nodes-sized f) g e

-- What the state before binds, the value of a walk of the full subtree of n that holds the entry
-- leads down to.
part_carries : (n : ℕ) (k : Known) (ps : List ℕ) (S : List Bytes) (p : ℕ) (x : Bytes) (g : Range) (v : Bytes) → k.size ≤ n → Sized k.values
    → Binds k.size k.values p x S → is_full n g ≡ true → Inside g p → Part k ps (Meets k S) g v → Path S p (sha256 x) g v
unfolding kept_value
part_carries n k ps S p x g v h d b e i c =
    path_from c.is-value
    (kept-path k ps d n S p (sha256 x) b.full b.is-full b.inside b.path c.walks (full_subtree n g e) c.nodes c.sized c.holds.met
    (full_grows k.size n p b.full g h b.is-full e b.inside i) c.holds.listed)

-- ---- the laws

-- Two walks over n entries with one root show each entry that both show with one string. From the
-- root both paths lead down to the entry by the same turns, which n alone decides; so at each
-- parent the two strings have one digest.
pub walks_agree : (n : ℕ) (k k' : Known) (ps ps' : List ℕ) (ns ns' S : List Bytes) → Sized k.values → Sized k'.values → Sized ns → Sized ns'
    → value k (walk_of n k.size ps) ns ≡ value k' (walk_of n k'.size ps') ns'
    → ByteStrings S → Within (walk_strings k (walk_of n k.size ps) ns) S → Within (walk_strings k' (walk_of n k'.size ps') ns') S
    → (p : ℕ) → p < n → Memᴰ p ps → Memᴰ p ps' → (string_at k.entries p ≡ string_at k'.entries p) ⊎ Broken S
unfolding walk_of
walks_agree n k k' ps ps' ns ns' S d d' t t' e b f f' p h i i' = do
  q ← path_one b (shown-path k ps d S w ns p t i (omega arith, omega arith) f)
      (path_from (sym e) (shown-path k' ps' d' S w' ns' p t' i' (omega arith, omega arith) f'))
  same-string S b (string_at k.entries p) (string_at k'.entries p) (shown-listed k ps d S w ns p i (omega arith, omega arith) f)
      (shown-listed k' ps' d' S w' ns' p i' (omega arith, omega arith) f') q
  where
    r : Range
    r = record { start = 0; width = n }

    w : Walks k.size ps r (walk n k.size ps r)
    w = walk_cases n k.size ps r (omega (arith, h)) (omega arith)

    w' : Walks k'.size ps' r (walk n k'.size ps' r)
    w' = walk_cases n k'.size ps' r (omega (arith, h)) (omega arith)

-- An entry that is bound is one of the m entries.
pub binds_below : (m : ℕ) (vs : List Bytes) (p : ℕ) (x : Bytes) (S : List Bytes) → Binds m vs p x S → p < m
binds_below m vs p x S b = let e = full_ends m b.full b.is-full in let (i, j) = b.inside in omega arith

-- Two strings to which a state binds one entry are equal.
pub binds_one : {m : ℕ} {vs : List Bytes} {p : ℕ} {x y : Bytes} {S : List Bytes} → ByteStrings S → Binds m vs p x S → Binds m vs p y S → (x ≡ y) ⊎ Broken S
binds_one {m} {vs} {p} {x} {y} {S} s b c = do
  q ← path_one s b.path (subst (λ (f : Range). Path S p (sha256 y) f (value_among (full_subtrees m) vs f)) (full_one m p c.full b.full c.is-full b.is-full c.inside b.inside) c.path)
  same-string S s x y b.listed c.listed q

-- A walk's new state binds each shown entry to its string. The value handed on of the full subtree
-- that holds the entry is that of a walk of this subtree, which leads down to the entry.
pub walk_binds : (n : ℕ) (k : Known) (ps : List ℕ) (ns S : List Bytes) → Follows n k ps ns → Meets k S (walk_of n k.size ps) ns
    → (p : ℕ) → p < n → Memᴰ p ps → Binds n (full_values n k (walk_of n k.size ps) ns) p (string_at k.entries p) S
walk_binds n k ps ns S w f p h i =
    let (g, e, j) = entry_in_full n p h in
    let c = handed_part n k ps ns S w (omega arith) f g e in
    record {
      full = g;
      is-full = e;
      inside = j;
      listed = shown-listed k ps w.values-sized S c.walks c.nodes p i j c.holds.listed;
      path = path_from c.is-value (shown-path k ps w.values-sized S c.walks c.nodes p c.sized i j c.holds.listed);
    }

-- A walk's new state binds all that the state before binds. The full subtree of m that holds the
-- entry lies in the full subtree of n that does, and the value handed on of this one leads down to
-- the value kept of that one, and on from there.
pub walk_carries : (n : ℕ) (k : Known) (ps : List ℕ) (ns S : List Bytes) → Follows n k ps ns → Meets k S (walk_of n k.size ps) ns
    → (p : ℕ) (x : Bytes) → Binds k.size k.values p x S → Binds n (full_values n k (walk_of n k.size ps) ns) p x S
walk_carries n k ps ns S w f p x b =
    let l = binds_below k.size k.values p x S b in
    let u = w.grown in
    let (g, e, j) = entry_in_full n p (omega arith) in
    let c = handed_part n k ps ns S w (omega arith) f g e in
    record { full = g; is-full = e; inside = j; listed = b.listed; path = part_carries n k ps S p x g _ u w.values-sized b e j c }

-- A walk of one full subtree of n, with entries shown or none, whose value is the one that a state
-- of n entries keeps of this subtree: that state binds all that the state before binds there.
pub subtree_carries : (n f : ℕ) (k : Known) (ps : List ℕ) (ns S : List Bytes) (g : Range) (vs : List Bytes) → k.size ≤ n → Sized k.values → Sized ns
    → is_full n g ≡ true → g.width ≤ f → kept_values_met k (walk f k.size ps g) ns ≡ true → Within (walk_strings k (walk f k.size ps g) ns) S
    → value k (walk f k.size ps g) ns ≡ value_among (full_subtrees n) vs g
    → (p : ℕ) (x : Bytes) → Inside g p → Binds k.size k.values p x S → Binds n vs p x S
subtree_carries n f k ps ns S g vs h d t e l m w q p x i b =
    record {
      full = g;
      is-full = e;
      inside = i;
      listed = b.listed;
      path =
          part_carries n k ps S p x g _ h d b e i
          (record { walked = walk f k.size ps g; nodes = ns; walks = walk_cases f k.size ps g (omega arith) l; sized = t; holds = record { met = m; listed = w }; is-value = q });
    }

-- A walk hands on as many values as n has ones.
pub full_values_count : (n : ℕ) (k : Known) (ps : List ℕ) (ns : List Bytes) → Follows n k ps ns → 0 < n
    → length (full_values n k (walk_of n k.size ps) ns) ≡ ones n
full_values_count n k ps ns w h =
    sym (matched_length (full-values-parts n k ps (λ _ _. Unit {0}) (λ _ _ _ _ _. (tt, tt)) w.last h ns w.nodes-sized tt)) ∙ full_length n
