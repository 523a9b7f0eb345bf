-- Laws of the walk over the log that a response shows: what is known of it in the text, the number
-- of nodes that it takes, the head that it yields.
use mathlib.Core.Path.{◌≡◌, refl, sym, ap, ◌∙◌}
use mathlib.Core.Bool.{true}
use mathlib.Core.List.{List, [], ◌++◌, map, append-nil}
use mathlib.Core.Option.{some, some-injective}
use Prim.Native.Nat.{ℕ, ◌≤◌, ◌<◌}
use native.Mathlib.Omega.{arith}
use lib.Count.{ones}
use lib.Dec.{ltb}
use borrow.Author.Tests.{eqb-true, lt-ltb, le-leb}
use Rattle.lists.specs.Lists.{Bytes, all, every, runs}
use Rattle.lists.proofs.ChoiceLaws.{choose_true, bind_some, provided_true}
use Rattle.lists.proofs.ListLaws.{at_all, equal_same}
use Rattle.lines.specs.Line.{ended_lines, open_rest, read_lines, read_line, write_line, leading}
use Rattle.lines.specs.Readings.{part_of}
use Rattle.lines.proofs.LineLaws.{line_text, write_line_lem, line_read, lines_text, text_written, joined_lines}
use Rattle.lines.proofs.LineLaws.{leading-was, leading-each}
use Rattle.tree.specs.LogTree.{Known, node_count, kept_values_met}
use Rattle.tree.specs.LogText.{nodes_in as nodes_there}
use Rattle.tree.specs.LogHead.{Head, positions, known_in, is_walkable, walk_over, log_head, nodes_asked}
use Rattle.tree.proofs.LogTextLaws.{IsValue, nodes_written}
use Rattle.tree.proofs.AskedLaws.{Entries}
use Rattle.rules.specs.Limits.{tree_size_limit, hash_length}
use Rattle.rules.specs.Response.{Parts, entry_positions, log_entry}
use Rattle.rules.specs.ResponseText.{node_form, read_node}
use Rattle.rules.specs.Refusals.{Call, kind_rules, asked, entries_asked, known, log_walk, log_root}
use Rattle.rules.proofs.AcceptedLaws.{logged_positions, positions_asked, asked_entries}
use Rattle.inputs.specs.Response.{nodes_in, parts_in, AllRead, Filled}
use Rattle.checks.specs.declared.readings.Call.{Call as CallBlock}
use Rattle.checks.specs.Calls.{IsCall, entries_text, Shapeable, values_block}
use Rattle.checks.proofs.ShownEntriesLaws.{entries_shown}

-- ---- nodes

-- a line that reads as a node is the line of its value, which is one
node_read : (l v : Bytes) → read_node l ≡ some v → (l ≡ line_text node_form (v, tt)) × IsValue v
unfolding read_node
node_read l v e =
    let ((x, u), q, i) = bind_some (read_line node_form l) _ v e in
    let j : x ≡ v = some-injective x v i in
    let (t, (f, _)) = line_read node_form l (x, u) q in
    rw (← j) (t, (eqb-true _ _ f.0, f.1))

-- the values of node lines that fill a text are its nodes
nodes_there_lem : (s : Bytes) → AllRead read_node s → nodes_there s ≡ nodes_in s
unfolding nodes_in read_lines
nodes_there_lem s (none_left, ended) =
    let vs = (leading read_node (ended_lines s)).0 in
    let text : Bytes → Bytes = λ v. line_text node_form (v, tt) in
    let was = leading-was read_node text (λ l v e. (node_read l v e).0) (ended_lines s) in
    let lines : ended_lines s ≡ map text vs =
    was ∙ ap (λ (ls : List Bytes). map text vs ++ ls) none_left ∙ append-nil (map text vs) in
    let whole : s ≡ lines_text (ended_lines s) =
    (joined_lines s (ended_lines s) (provided_true _ (ended_lines s) (equal_same (open_rest s) [] ended))).0 in
    let write : Bytes → Bytes = λ v. write_line node_form (v, tt) in
    let written = text_written write text (λ v. write_line_lem node_form (v, tt)) vs in
    ap nodes_there (whole ∙ ap lines_text lines ∙ sym written)
    ∙ nodes_written vs (leading-each read_node IsValue (λ l v e. (node_read l v e).1) (ended_lines s))

-- ---- the walk of a call

-- what is known, whatever values are kept: the kept size, and the entries that the response shows
record KnownBy (c : Call) (x : Known) : Type 0 where
  size : x.size ≡ c.state.log.size
  entries : x.entries ≡ map log_entry c.parts.entries

module _ (c : Call) (x : Known) (h : KnownBy c x) where
  -- the positions are those of the entry lines
  known-positions : positions x.entries ≡ entry_positions c.parts
  known-positions = ap positions h.entries ∙ logged_positions c.parts.entries

  -- the walk over it is that of the call
  walk-known : walk_over c.parts.tree_size x ≡ log_walk c
  unfolding log_walk
  walk-known = rw (h.size, known-positions) refl

  -- there is a walk, where the size is possible and the entries are as asked
  walkable : 0 < c.parts.tree_size → c.parts.tree_size ≤ tree_size_limit
      → c.state.log.size ≤ c.parts.tree_size
      → entries_asked (kind_rules c).versions_fit (asked c) c.parts.entries ≡ true
      → is_walkable c.parts.tree_size x ≡ true
  unfolding is_walkable every
  walkable a b d e =
      let n : ℕ = c.parts.tree_size in
      let m : ℕ = c.state.log.size in
      let i : Entries n (entry_positions c.parts) =
      rw (positions_asked (kind_rules c).versions_fit (asked c) c.parts.entries e) (asked_entries c) in
      let w : all (λ (p : ℕ). ltb p n) (entry_positions c.parts) ≡ true =
      at_all (λ (p : ℕ). ltb p n) (entry_positions c.parts) (λ p j. lt-ltb p n (i.within p j)) in
      rw (h.size, lt-ltb 0 n a, le-leb n tree_size_limit b, le-leb m n d, known-positions, i.rises, w) refl

  -- and then the number of nodes asked is that of the call
  nodes-asked : is_walkable c.parts.tree_size x ≡ true
      → nodes_asked c.parts.tree_size x ≡ node_count (log_walk c)
  unfolding nodes_asked
  nodes-asked w = choose_true _ _ _ w ∙ ap node_count walk-known

-- the head that the rules speak of
abbrev pub head_of : Call → Head
head_of c =
    record {
      root = log_root c;
      values = values_block c;
      met = kept_values_met (known c) (log_walk c) c.parts.nodes;
    }

-- it is that of what a call knows, where there is a walk
head_walked : (c : Call) (x : Known) → x ≡ known c → is_walkable c.parts.tree_size x ≡ true
    → log_head c.parts.tree_size x c.parts.nodes ≡ head_of c
unfolding log_head log_root known
head_walked c x e w =
    let b : KnownBy c (known c) = record { size = refl; entries = refl } in
    ap (λ (y : Known). log_head c.parts.tree_size y c.parts.nodes) e
    ∙ choose_true _ _ _ (rw (← e) w)
    ∙ rw (walk-known c (known c) b) refl

-- ---- the walk of a response that was read

module _ {text : Bytes} {k : CallBlock} {ps vs : List ℕ} {outputs : Bytes}
    (p : Shapeable text k ps vs outputs) (c : Call) (i : IsCall c k text outputs)
  where
    filled : Filled text k.response
    filled = p.triable.offsets.3

    tree-size : c.parts.tree_size ≡ k.response.tree_size
    unfolding parts_in
    tree-size = ap (λ (x : Parts). x.tree_size) i.parts

    -- what is known of it in the text
    text-known : (kept : Bytes) → KnownBy c (known_in (entries_text text k) k.kept_size kept)
    unfolding known_in parts_in
    text-known kept =
        record {
          size = sym i.size;
          entries =
              entries_shown (entries_text text k) filled.entries
              ∙ ap (λ (x : Parts). map log_entry x.entries) (sym i.parts);
        }

    -- with the values of the state it is what the call knows
    all_known : (kept : Bytes) → c.state.log.values ≡ runs (ones k.kept_size) hash_length kept
        → known_in (entries_text text k) k.kept_size kept ≡ known c
    unfolding known_in known
    all_known kept v = let h = text-known kept in rw (i.size, v, h.entries) refl

    module _ (e : entries_asked (kind_rules c).versions_fit (asked c) c.parts.entries ≡ true) where
      -- there is a walk over it
      text-walkable : (kept : Bytes)
          → is_walkable c.parts.tree_size (known_in (entries_text text k) k.kept_size kept) ≡ true
      text-walkable kept =
          let n = tree-size in
          walkable c _ (text-known kept) (omega (arith, n, p.nonempty)) (omega (arith, n, p.largest))
          (omega (arith, n, i.size, p.grown)) e

      -- the nodes asked of the text are as many as the walk takes
      pub nodes-counted : (s : Bytes) → s ≡ entries_text text k
          → nodes_asked k.response.tree_size (known_in s k.kept_size []) ≡ node_count (log_walk c)
      nodes-counted s q = rw (q, ← tree-size) (nodes-asked c _ (text-known []) (text-walkable []))

      -- the head worked out from it is that of the rules
      pub head-shown : (s nodes kept : Bytes) → s ≡ entries_text text k
          → nodes ≡ part_of text k.response.nodes.part
          → c.state.log.values ≡ runs (ones k.kept_size) hash_length kept → (h : Head)
          → h ≡ log_head k.response.tree_size (known_in s k.kept_size kept) (nodes_there nodes)
          → h ≡ head_of c
      unfolding parts_in
      head-shown s nodes kept q r v h is_head =
          let given : nodes_there nodes ≡ c.parts.nodes =
          ap nodes_there r ∙ nodes_there_lem _ filled.nodes ∙ sym (ap (λ (x : Parts). x.nodes) i.parts) in
          is_head ∙ rw (q, given, ← tree-size) (head_walked c _ (all_known kept v) (text-walkable kept))
