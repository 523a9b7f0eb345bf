-- Laws of the head of a log (specs/LogHead.antt): when there is a walk, what it asks at its
-- beginning, and what it yields at its end.
use mathlib.Core.Path.{◌≡◌, refl, sym, ap, ap₂, ◌∙◌}
use mathlib.Core.Bool.{Bool, true, false, ◌&&◌}
use mathlib.Core.List.{List, []}
use Prim.Native.Nat.{ℕ, ◌+◌, ◌-◌, ◌^◌, ◌≤◌, ◌<◌}
use native.Mathlib.Nat.{zero-add}
use native.Mathlib.Omega.{arith}
use lib.Count.{ones}
use lib.Dec.{leb, ltb}
use lib.ListN.{replicate}
use borrow.Author.Tests.{lt-ltb, le-ltb, le-leb, lt-leb, ltb-true, leb-true, ne_eqb}
use Rattle.lists.specs.Lists.{Bytes, all, every, rising}
use Rattle.lists.proofs.ChoiceLaws.{and_holds, choose_true, choose_false}
use Rattle.hash.specs.Bytes.{padded}
use Rattle.hash.specs.Sha256.{digest_length}
use Rattle.hash.proofs.BytesLaws.{padded_nil}
use Rattle.tree.specs.declared.walk_cursor.WalkCursor.{WalkCursor}
use Rattle.tree.specs.declared.log_tree.Walked.{Walked}
use Rattle.tree.specs.LogTree.{LogEntry, Known, walk_of, zeros}
use Rattle.tree.specs.LogText.{shown_in}
use Rattle.tree.specs.LogHead.{level_limit, block_length, positions, has_size, is_walkable, log_head, nodes_asked}
use Rattle.tree.specs.LogWalk.{range, rising_below, cursor_at, cursor_from, Ready, Tail, end_on, walked_by}
use Rattle.tree.specs.LogWalk.{walked_on, Filled, values_from}
use Rattle.tree.proofs.CursorLaws.{below_zero, cursor_from_lem}
use Rattle.tree.proofs.DigitLaws.{by_order}
use Rattle.tree.proofs.DecisionLaws.{ones_limit}
use Rattle.tree.proofs.WalkLaws.{known}
use Rattle.tree.proofs.TailLaws.{tail_all}

-- ---- whether there is a walk

-- The three tests of a size as bounds.
has-size : (n m : ℕ) → has_size n m ≡ (ltb 0 n && (leb n (2 ^ level_limit) && leb m n))
has-size n m = by_order 0 n some none
  where
    limit : ℕ
    limit = 2 ^ level_limit

    kept : 0 < n → n ≤ limit → has_size n m ≡ (ltb 0 n && (leb n limit && leb m n))
    kept p h =
        by_order n m
        (λ u. rw (ne_eqb n 0 (λ e. absurd (omega arith)), lt-ltb 0 n p, le-ltb limit n h, le-leb n limit h, lt-ltb n m u, lt-leb m n u)
        refl)
        (λ u. rw (ne_eqb n 0 (λ e. absurd (omega arith)), lt-ltb 0 n p, le-ltb limit n h, le-leb n limit h, le-ltb n m u, le-leb m n u)
        refl)

    some : 0 < n → has_size n m ≡ (ltb 0 n && (leb n limit && leb m n))
    some p =
        by_order limit n
        (λ h. rw (ne_eqb n 0 (λ e. absurd (omega arith)), lt-ltb 0 n p, lt-ltb limit n h, lt-leb n limit h) refl)
        (kept p)

    none : n ≤ 0 → has_size n m ≡ (ltb 0 n && (leb n limit && leb m n))
    none h = let e : n ≡ 0 = omega arith in rw e refl

module _ (n : ℕ) (k : Known) where
  walkable-is : is_walkable n k ≡ (ltb 0 n && (leb n (2 ^ level_limit) && (leb k.size n && (rising (positions k.entries) && (all (λ (p : ℕ). ltb p n) (positions k.entries) && true)))))
  unfolding is_walkable every
  walkable-is = refl

  walkable-sized : (has_size n k.size && rising_below n (positions k.entries)) ≡ is_walkable n k
  walkable-sized =
      sym (walkable-is
      ∙ joined (ltb 0 n) (leb n (2 ^ level_limit)) (leb k.size n) (rising (positions k.entries))
      (all (λ (q : ℕ). ltb q n) (positions k.entries))
      ∙ ap (λ (b : Bool). b && rising_below n (positions k.entries)) (sym (has-size n k.size)))
    where
      joined : (a b c d e : Bool) → (a && (b && (c && (d && (e && true))))) ≡ ((a && (b && c)) && (d && e))
      joined true true true true true = refl
      joined true true true true false = refl
      joined true true true false e = refl
      joined true true false d e = refl
      joined true false c d e = refl
      joined false b c d e = refl

  -- not over entries that are no log's
  pub walkable-none : has_size n k.size ≡ false → false ≡ is_walkable n k
  walkable-none h = ap (λ (b : Bool). b && rising_below n (positions k.entries)) (sym h) ∙ walkable-sized

  -- nor over too many
  pub walkable-many : 0 < n → 2 ^ level_limit < n → false ≡ is_walkable n k
  walkable-many p h = sym (walkable-is ∙ rw (lt-ltb 0 n p, lt-leb n (2 ^ level_limit) h) refl)

  -- nor over fewer than were kept
  pub walkable-fewer : 0 < n → n ≤ 2 ^ level_limit → n < k.size → false ≡ is_walkable n k
  walkable-fewer p h u = sym (walkable-is ∙ rw (lt-ltb 0 n p, le-leb n (2 ^ level_limit) h, lt-leb k.size n u) refl)

  -- otherwise the shown positions decide
  pub walkable-rest : has_size n k.size ≡ true → rising_below n (positions k.entries) ≡ is_walkable n k
  walkable-rest h = ap (λ (b : Bool). b && rising_below n (positions k.entries)) (sym h) ∙ walkable-sized

  -- what is then known
  pub walkable-facts : is_walkable n k ≡ true → (0 < n) × (n ≤ 2 ^ level_limit) × (k.size ≤ n) × (rising (positions k.entries) ≡ true)
  walkable-facts h =
      let (a, b) = and_holds _ _ (sym walkable-is ∙ h) in
      let (d, e) = and_holds _ _ b in
      let (f, g) = and_holds _ _ e in
      let (i, j) = and_holds _ _ g in
      (ltb-true _ _ a, leb-true _ _ d, leb-true _ _ f, i)

-- the kept values do not matter
pub walkable_values : (n m : ℕ) (vs ws : List Bytes) (es : List LogEntry)
    → is_walkable n (record { size = m; values = vs; entries = es }) ≡ is_walkable n (record { size = m; values = ws; entries = es })
unfolding is_walkable
walkable_values n m vs ws es = refl

-- ---- its beginning and its end

module _ (text : Bytes) (n m : ℕ) (vs : List Bytes) (c : WalkCursor) (h : is_walkable n (known m vs (shown_in text)) ≡ true) (e : c ≡ cursor_from text 0 0) where
  -- the walk may begin, before the first entry
  pub head-ready : Tail n 0 × Ready text m 0 c × (m ≤ n)
  head-ready =
      let (p, l, u, r) = walkable-facts n (known m vs (shown_in text)) h in
      let z : c.node ≡ 0 = ap (λ (x : WalkCursor). x.node) e in (
        tail_all n p l,
        record {
          rises = r;
          size_small = omega arith;
          stands = e ∙ cursor_from_lem text 0 0 0 refl ∙ ap₂ (cursor_at text) (sym (below_zero (positions (shown_in text)))) (sym z);
          taken = omega arith;
        },
        u,
      )

  -- a block has room for all values
  pub head-room : 0 + ones (n - 0) ≤ level_limit
  head-room = let (p, l, u, r) = walkable-facts n (known m vs (shown_in text)) h in omega (arith, ones_limit level_limit (n - 0) (omega arith) (omega arith))

  -- what it yields is the head
  pub head-made : (ns : List Bytes) (i : Walked) (b : Bytes) → i ≡ walked_on text (known m vs (shown_in text)) ns c.node (range 0 (n - 0))
      → Filled 0 (replicate block_length 0) b (values_from n (known m vs (shown_in text)) ns 0 c.node)
      → record { root = i.value; values = b; met = i.met } ≡ log_head n (known m vs (shown_in text)) ns
  unfolding log_head walk_of walked_by values_from
  head-made ns i b ei f =
      let k : Known = known m vs (shown_in text) in
      let z : c.node ≡ 0 = ap (λ (x : WalkCursor). x.node) e in
      let d : n - 0 ≡ n = omega arith in
      let y : b ≡ padded block_length (values_from n k ns 0 c.node) = f [] (padded_nil block_length) (omega arith) in
      rw (ei, y, z, d) (sym (choose_true (is_walkable n k) _ _ h))

  -- and the number of nodes
  pub nodes-made : (a : WalkCursor) → a ≡ end_on text (known m vs (shown_in text)) c.node (range 0 (n - 0)) → a.node ≡ nodes_asked n (known m vs (shown_in text))
  unfolding nodes_asked walk_of
  nodes-made a ea =
      let z : c.node ≡ 0 = ap (λ (x : WalkCursor). x.node) e in
      let d : n - 0 ≡ n = omega arith in
      ap (λ (x : WalkCursor). x.node) ea ∙ rw (z, d, zero-add) (sym (choose_true (is_walkable n (known m vs (shown_in text))) _ _ h))

-- where there is no walk
pub head_none : (n : ℕ) (k : Known) (ns : List Bytes) → is_walkable n k ≡ false → record { root = replicate digest_length 0; values = replicate block_length 0; met = false } ≡ log_head n k ns
unfolding log_head zeros
head_none n k ns h = sym (choose_false (is_walkable n k) _ _ h)

-- nor are nodes asked for
pub nodes_none : (n : ℕ) (k : Known) → is_walkable n k ≡ false → ◌≡◌ {A = ℕ} 0 (nodes_asked n k)
unfolding nodes_asked
nodes_none n k h = sym (choose_false (is_walkable n k) _ _ h)
