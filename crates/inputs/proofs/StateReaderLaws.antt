-- Laws of a state's text (specs/StateReader.antt): what was read fills the struct of the state that
-- the rules read of the text, and is refused where they read none.
use mathlib.Core.Path.{◌≡◌, refl, sym, ◌∙◌, ap}
use mathlib.Core.Bool.{Bool, true, false}
use mathlib.Core.List.{List, [], ◌∷◌, flatten, Memᴰ}
use mathlib.Core.Option.{Option, none, some, Option-elim, bind, map, some-injective, none-ne-some}
use Prim.Native.Nat.{ℕ, ◌-◌, ◌≤◌, ◌<◌}
use native.Mathlib.Omega.{arith}
use lib.Dec.{eqb, leb}
use lib.Count.{ones}
use lib.ListN.{length, take, drop, length-map}
use borrow.Author.Tests.{le-leb, lt-leb}
use Rattle.std.specs.Bool.{then_some}
use Rattle.lists.specs.Choice.{provided, ◌>>◌, is_some, option_of}
use Rattle.lists.specs.Lists.{Bytes, same}
use Rattle.lists.proofs.ChoiceLaws.{provided_then, test_then, test_none, choose_true, choose_false}
use Rattle.lists.proofs.ListLaws.{none_left, same_true}
use Rattle.hash.specs.Bytes.{padded}
use Rattle.lines.specs.Line.{Read, ended_lines, open_rest, read_lines, read_line, leading}
use Rattle.lines.proofs.LineLaws.{leading-each}
use Rattle.lines.proofs.SectionLaws.{line_end, line_more}
use Rattle.tree.specs.LogHead.{level_limit}
use Rattle.rules.specs.Limits.{hash_length, map_limit, values_block_length, state_text_limit}
use Rattle.rules.specs.State.{MapEntry, State, positions, versions, is_valid}
use Rattle.rules.specs.Refusals.{valid_state}
use Rattle.rules.specs.StateText.{size_form, read_keep, read_pair, read_state_lines, read_state, read_state_text}
use Rattle.rules.proofs.StateLaws.{valid_was, values_few}
use Rattle.tree.proofs.FullLaws.{full_length}
use Rattle.tree.proofs.RunLaws.{length-joined}
use Rattle.inputs.specs.declared.state.State.{State as StateBlock}
use Rattle.inputs.specs.declared.state_reader.SizeLine.{SizeLine}
use Rattle.inputs.specs.declared.state_reader.Keeps.{Keeps}
use Rattle.inputs.specs.declared.state_reader.Pairs.{Pairs}
use Rattle.inputs.specs.State.{log_block, map_block, block_of, room_is_zero, state_of, numbered_block}
use Rattle.inputs.specs.TextLine.{read_from}
use Rattle.inputs.specs.StateReader.{size_read, KeepsFrom, PairsFrom, ReadAs, gathered, if_valid}
use Rattle.inputs.specs.StateReader.{read_after_size, refused_by, or_refused}
use Rattle.inputs.proofs.StateBlockLaws.{block_contents, block_stands}
use Rattle.inputs.proofs.TextLineLaws.{followed_by, lines_from, first, from_first, from-was}
use Rattle.inputs.proofs.FrontLaws.{front-whole}
use Rattle.inputs.proofs.StateRunLaws.{keep_length}

-- ---- the state

-- a state that has as many values as its size tells, each of its length
record Filling (st : State) : Type 0 where
  value_count : length st.log.values ≡ ones st.log.size
  value_length : (v : Bytes) → Memᴰ v st.log.values → length v ≡ hash_length

-- its struct is valid where it is: of a valid state that is known, and any other is not valid in a
-- struct either
block_test : (st : State) → Filling st → is_some (valid_state (state_of (block_of st))) ≡ is_valid st
unfolding is_some valid_state state_of provided
block_test st f = go (is_valid st) refl
  where
    other : (t : Bool) → is_valid st ≡ false → is_some (valid_state (provided t st)) ≡ false
    other true e = rw e refl
    other false e = refl

    go : (t : Bool) → is_valid st ≡ t → is_some (valid_state (state_of (block_of st))) ≡ t
    go true e = rw (block_stands st e) refl
    go false e = rw (block_contents st f.value_count f.value_length) (other (room_is_zero (block_of st)) e)

-- ---- what was read, as a state

-- a state that is not valid gives none
not_valid : (st : State) → (is_valid st ≡ true → ⊥) → none ≡ map block_of (if_valid st)
unfolding if_valid ◌>>◌
not_valid st h = go (is_valid st) h
  where
    go : (t : Bool) → (t ≡ true → ⊥) → none ≡ map block_of (t >> some st)
    go true h = absurd (h refl)
    go false h = refl

-- what was read, as a struct
abbrev block_read : SizeLine → Keeps → Pairs → StateBlock
block_read first keeps pairs =
    record {
      label = first.label;
      log = record { size = first.size; timestamp = first.timestamp; values = keeps.values };
      map = pairs.map;
    }

module _ (first : SizeLine) (keeps : Keeps) (pairs : Pairs) (st : State) (g : ReadAs first keeps pairs st) where
  -- with another number of values than the size tells it is not valid
  pub invalid-count : (keeps.count ≡ ones first.size → ⊥) → none ≡ map block_of (if_valid st)
  invalid-count h = not_valid st (λ e. h (g.value_count ∙ (valid_was st e).values_count ∙ full_length st.log.size ∙ ap ones (sym g.size)))

  -- with too many values neither
  pub invalid-values : level_limit < keeps.count → none ≡ map block_of (if_valid st)
  invalid-values h = not_valid st (λ e. let n = g.value_count in let w = values_few st (valid_was st e) in omega arith)

  -- nor with too many pairs
  pub invalid-pairs : map_limit < pairs.map.count → none ≡ map block_of (if_valid st)
  invalid-pairs h = not_valid st (λ e. let n = g.pair_count in let w = (valid_was st e).map_fits in omega arith)

  module _ (count : keeps.count ≡ ones first.size) (few : keeps.count ≤ level_limit) (room : pairs.map.count ≤ map_limit) where
    -- else what was read fills the struct of the state
    block-read : block_read first keeps pairs ≡ block_of st
    unfolding block_of log_block map_block
    block-read =
        let c = g.value_count in
        let n = g.pair_count in
        let vs : keeps.values ≡ padded values_block_length (flatten st.log.values) =
        g.values ∙ front-whole values_block_length (flatten st.log.values) (omega (arith, length-joined hash_length st.log.values g.value_length)) in
        let ps : pairs.map.positions ≡ padded map_limit (positions st.monitoring_map) =
        g.firsts ∙ front-whole map_limit (positions st.monitoring_map) (omega (arith, length-map st.monitoring_map (λ (e : MapEntry). e.position))) in
        let qs : pairs.map.versions ≡ padded map_limit (versions st.monitoring_map) =
        g.seconds ∙ front-whole map_limit (versions st.monitoring_map) (omega (arith, length-map st.monitoring_map (λ (e : MapEntry). e.version))) in
        rw (g.label, g.size, g.timestamp, vs, ps, qs, n) refl

    -- which is valid where the state is
    valid-read : is_some (valid_state (state_of (block_read first keeps pairs))) ≡ is_valid st
    valid-read = rw block-read (block_test st (record { value_count = sym g.value_count ∙ count ∙ ap ones g.size; value_length = g.value_length }))

    -- where it is, it is the state that was read
    pub state-tested : (t : Bool) → t ≡ is_some (valid_state (state_of (block_read first keeps pairs)))
        → option_of (then_some t (block_read first keeps pairs)) ≡ map block_of (if_valid st)
    unfolding if_valid ◌>>◌
    state-tested t e = rw (e ∙ valid-read, block-read) (go (is_valid st))
      where
        go : (v : Bool) → option_of (then_some v (block_of st)) ≡ map block_of (v >> some st)
        go true = refl
        go false = refl

-- ---- the text after the `size` line

module _ (s : Bytes) (from : ℕ) (keeps : Keeps) (pairs : Pairs) (k : KeepsFrom s from keeps) (p : PairsFrom s keeps.next pairs) (x : Read size_form) where
  -- it gives a state if nothing stands after the `pair` lines
  after-pairs : read_after_size x (drop from s)
      ≡ (same (open_rest (drop pairs.next s)) [] >> (eqb (length (ended_lines (drop pairs.next s))) 0 >> if_valid (gathered x k.taken p.taken)))
  unfolding read_after_size read_lines
  after-pairs =
      provided_then (same (open_rest (drop from s)) []) (ended_lines (drop from s)) _
      ∙ rw (k.rest, p.rest, k.lines, p.lines) refl

  -- where something does, it gives none
  pub after_open : pairs.next < length s → read_after_size x (drop from s) ≡ none
  unfolding ◌>>◌
  after_open h = after-pairs ∙ go (same (open_rest (drop pairs.next s)) []) refl (eqb (length (ended_lines (drop pairs.next s))) 0) refl
    where
      go : (t : Bool) → same (open_rest (drop pairs.next s)) [] ≡ t → (u : Bool) → eqb (length (ended_lines (drop pairs.next s))) 0 ≡ u
          → (t >> (u >> if_valid (gathered x k.taken p.taken))) ≡ none
      go true e true f = absurd (line_more s pairs.next h (none_left _ f) (same_true _ [] e))
      go true e false f = refl
      go false e u f = refl

  -- at the end of the text, it gives what was read
  pub after-all : length s ≤ pairs.next → read_after_size x (drop from s) ≡ if_valid (gathered x k.taken p.taken)
  unfolding ◌>>◌ same
  after-all h = let (e, o) = line_end s pairs.next h in after-pairs ∙ rw (e, o) refl

  -- which stands for a state
  pub after_read : (first : SizeLine) → size_read x ≡ first → ReadAs first keeps pairs (gathered x k.taken p.taken)
  after_read first e =
      record {
        label = ap (λ (f : SizeLine). f.label) (sym e);
        size = ap (λ (f : SizeLine). f.size) (sym e);
        timestamp = ap (λ (f : SizeLine). f.timestamp) (sym e);
        value_count = k.counted;
        values = k.stored;
        value_length = λ v m. leading-each read_keep (λ (w : Bytes). length w ≡ hash_length) keep_length (ended_lines (drop from s)) v (rw k.lines m);
        pair_count = p.counted;
        firsts = p.firsts;
        seconds = p.seconds;
      }

-- ---- the text

-- one that is too long is refused
pub text_long : (s : Bytes) → state_text_limit < length s → refused_by 1 ≡ read_state_text s
unfolding read_state_text
text_long s h = sym (choose_false (leb (length s) state_text_limit) _ _ (lt-leb _ _ h))

-- any other is read
pub text_read : (s : Bytes) → length s ≤ state_text_limit → read_state_text s ≡ or_refused (read_state s)
unfolding read_state_text or_refused
text_read s h = choose_true (leb (length s) state_text_limit) _ _ (le-leb _ _ h)

-- a state that was read is given
pub state_given : (o : Option State) (b : StateBlock) → some b ≡ map block_of o → record { number = 0; state = b } ≡ numbered_block (or_refused o)
unfolding numbered_block or_refused Option-elim
state_given none b e = absurd (none-ne-some b (sym e))
state_given (some st) b e = rw (some-injective b (block_of st) e) refl

-- where none was read, it is refused
pub state_missing : (o : Option State) → none ≡ map block_of o → numbered_block (refused_by 3) ≡ numbered_block (or_refused o)
unfolding or_refused Option-elim
state_missing none e = refl
state_missing (some st) e = absurd (none-ne-some (block_of st) e)

-- lines of which the first is no `size` line say no state
lines_not : (ls : List Bytes) → first (read_line size_form) ls ≡ none → read_state_lines ls ≡ none
unfolding read_state_lines first bind
lines_not [] e = refl
lines_not (l ∷ ls) e = go (read_line size_form l) refl e
  where
    go : (o : Option (Read size_form)) → read_line size_form l ≡ o → map (followed_by ls) o ≡ none → read_state_lines (l ∷ ls) ≡ none
    go none q i = rw q refl
    go (some x) q i = absurd (none-ne-some (x, ls) (sym i))

-- after one that is, the lines that follow are read
lines_after : (l : Bytes) (ls : List Bytes) (x : Read size_form) → read_line size_form l ≡ some x
    → bind (read_state_lines (l ∷ ls)) if_valid
    ≡ (eqb (length (leading read_pair (leading read_keep ls).1).1) 0
    >> if_valid (gathered x (leading read_keep ls).0 (leading read_pair (leading read_keep ls).1).0))
unfolding read_state_lines bind
lines_after l ls x e = rw e (test_then (eqb (length (leading read_pair (leading read_keep ls).1).1) 0) _ if_valid)

module _ (s : Bytes) where
  -- a text is read as its lines, if nothing stands after the last
  text-lines : read_state s ≡ (same (open_rest s) [] >> bind (read_state_lines (ended_lines s)) if_valid)
  unfolding read_state read_lines if_valid
  text-lines = provided_then (same (open_rest s) []) (ended_lines s) _

  -- without a `size` line at its start it says no state
  pub text-none : read_from (read_line size_form) s 0 ≡ none → read_state s ≡ none
  unfolding bind
  text-none e =
      let n = lines_not (ended_lines s) (from_first (read_line size_form) s 0 ∙ ap (map (lines_from s)) e) in
      text-lines ∙ rw n (test_none (same (open_rest s) []))

  -- with one it says a state with the text after it
  pub text-some : (x : Read size_form) (next : ℕ) → read_from (read_line size_form) s 0 ≡ some (x, next) → read_state s ≡ read_after_size x (drop next s)
  unfolding read_after_size read_lines
  text-some x next e =
      let h = from-was (read_line size_form) s 0 x next e in
      let l = take (h.stop - 0) (drop 0 s) in
      let t = same (open_rest (drop next s)) [] in
      let a = lines_after l (ended_lines (drop next s)) x h.reads in
      text-lines ∙ rw (h.here.lines, h.here.rest) (ap (λ (o : Option State). t >> o) a ∙ sym (provided_then t (ended_lines (drop next s)) _))
