-- Laws of writing a state's text (specs/StateWriter.antt): texts written one after the other, the
-- pieces of which each line is made, a line for each element of a list, and the room that a valid
-- state's struct and text have.
use mathlib.Core.Path.{◌≡◌, refl, sym, ◌∙◌, ap}
use mathlib.Core.Bool.{true, false}
use mathlib.Core.List.{List, [], ◌∷◌, ◌++◌, flat_map, append_assoc, append-nil}
use mathlib.Core.Option
use mathlib.Core.Option.{Option, none, some, Option-elim}
use Prim.Native.Nat.{ℕ, zero, suc, ◌/◌, ◌+◌, ◌*◌, ◌≤◌, ◌<◌}
use native.Mathlib.Omega.{arith}
use lib.Count.{ones}
use lib.Dec.{leb}
use lib.ListN.{length, take, drop, length-append}
use lib.Seq.{take-take, drop_at, length-take-le}
use borrow.Author.Tests.{le-leb, lt-leb, leb-true}
use Rattle.std.specs.Option.{unwrap_or}
use Rattle.std.specs.Prelude.{Some, None, Option as CodeOption}
use Rattle.std.proofs.lemmas.List.{take_at}
use Rattle.lists.specs.Choice.{is_some, option_of}
use Rattle.lists.specs.Lists.{Bytes, runs, written}
use Rattle.lists.proofs.ChoiceLaws.{choose_true, choose_false, choose_by, provided_some, given_some}
use Rattle.lists.proofs.ChoiceLaws.{given_none}
use Rattle.lists.proofs.ListLaws.{every_cons}
use Rattle.lines.specs.Number.{ascii, decimal}
use Rattle.lines.specs.Hex.{hex_field}
use Rattle.lines.specs.Field.{write_field, write_fields}
use Rattle.lines.specs.Line.{tab, newline, joined, line, write_line}
use Rattle.lines.specs.Writing.{offset_after, put_at}
use Rattle.lines.proofs.WritingLaws.{length_written, written_append, written_nil, put_fits}
use Rattle.rules.specs.Limits.{label_limit, map_limit, hash_length, values_block_length, state_text_limit}
use Rattle.rules.specs.State.{MapEntry, is_valid}
use Rattle.rules.specs.StateText.{size_form, write_keep, write_pair, write_state}
use Rattle.rules.specs.Refusals.{valid_state}
use Rattle.rules.specs.Calls.{written_first}
use Rattle.rules.proofs.StateLaws.{valid_was, values_fit}
use Rattle.rules.proofs.StateTextLaws.{state_short}
use Rattle.rules.proofs.RefusalLaws.{valid_some}
use Rattle.tree.proofs.RunLaws.{length_runs, drop-take}
use Rattle.inputs.specs.declared.state.State.{State as StateBlock}
use Rattle.inputs.specs.State.{map_of, label_in, log_in, map_in, contents, room_is_zero, state_of}
use Rattle.inputs.specs.StateWriter.{text_for, Wrote}

-- ---- one text after the other

-- an offset of the code, or the one before, is that of the definitions
pub unwrapped : (o : CodeOption ℕ) (d : ℕ) → unwrap_or o d ≡ Option.get_or (option_of o) d
unwrapped None d = refl
unwrapped (Some n) d = refl

-- a text that is put where it fits is written
pub wrote_put : {s : Bytes} {at : ℕ} (t : Bytes) {n : ℕ} {s' : Bytes} (o : Option ℕ) → at + length t ≤ length s
    → (o ≡ offset_after s at t) × (s' ≡ put_at s at t) → n ≡ Option.get_or o at → Wrote s at t n s'
wrote_put {s} {at} t {n} {s'} o h (p, b) e =
    let (q, d) = put_fits s at t h in
    record { room = h; offset = e ∙ ap (λ (o : Option ℕ). Option.get_or o at) (p ∙ q); bytes = b ∙ d }

-- the empty text is written where nothing is done
wrote_nothing : (s : Bytes) (at : ℕ) → at ≤ length s → Wrote s at [] at s
wrote_nothing s at h = record { room = omega arith; offset = omega arith; bytes = sym (written_nil s at h) }

-- where there is room for two texts, there is room for the first
pub room_first : (t u : Bytes) (at k : ℕ) → at + length (t ++ u) ≤ k → at + length t ≤ k
room_first t u at k h = omega (arith, length-append t u)

-- room for each of three texts that stand one after the other
pub record Rooms (t u v : Bytes) (at k : ℕ) : Type 0 where
  pub first : at + length t ≤ k
  pub two : at + length (t ++ u) ≤ k
  pub all : at + length (t ++ u ++ v) ≤ k

-- where there is room for the text that they make, there is room for each
pub rooms : (t u v w : Bytes) {at k : ℕ} → w ≡ t ++ u ++ v → at + length w ≤ k → Rooms t u v at k
rooms t u v w {at} {k} e h =
    let all : at + length (t ++ u ++ v) ≤ k = rw e at h in
    let two = room_first (t ++ u) v at k all in
    record { first = room_first t u at k two; two = two; all = all }

-- writing leaves as many bytes as there were
pub wrote_length : {s : Bytes} {at : ℕ} {t : Bytes} {n : ℕ} {s' : Bytes} → Wrote s at t n s' → length s' ≡ length s
wrote_length {s} {at} {t} {n} {s'} w = ap length w.bytes ∙ length_written s at t w.room

module _ {s : Bytes} {at : ℕ} {t : Bytes} {n : ℕ} {s' : Bytes} (u : Bytes) (w : Wrote s at t n s') where
  -- where there is room for two texts, there is room for the second after the first
  pub room-then : at + length (t ++ u) ≤ length s → n + length u ≤ length s'
  room-then h = omega (arith, length-append t u, wrote_length w, w.offset)

  -- the second written after the first is both written as one
  pub wrote_then : {m : ℕ} {s'' : Bytes} → Wrote s' n u m s'' → Wrote s at (t ++ u) m s''
  wrote_then {m} {s''} v =
      let l = length-append t u in
      let h : at + length t + length u ≤ length s = omega (arith, wrote_length w, w.offset, v.room) in
      let e : written s' n u ≡ written (written s at t) (at + length t) u = rw (w.bytes, w.offset) refl in
      record {
        room = omega arith;
        offset = omega (arith, w.offset, v.offset);
        bytes = v.bytes ∙ e
            ∙ written_append s at t u h;
      }

  -- the second put after the first, where there is room for both, is written with it
  pub then-put : (o : Option ℕ) → at + length (t ++ u) ≤ length s → {m : ℕ} {s'' : Bytes} → (o ≡ offset_after s' n u)
      × (s'' ≡ put_at s' n u)
      → m ≡ Option.get_or o n → Wrote s at (t ++ u) m s''
  then-put o h b f = wrote_then (wrote_put u o (room-then h) b f)

-- two texts that are put one after the other, where there is room for both, are written
pub both_put : {s : Bytes} {at : ℕ} (t u : Bytes) (o p : Option ℕ) → at + length (t ++ u) ≤ length s
    → {n : ℕ} {s' : Bytes}
    → (o ≡ offset_after s at t) × (s' ≡ put_at s at t) → n ≡ Option.get_or o at → {m : ℕ} {s'' : Bytes}
    → (p ≡ offset_after s' n u) × (s'' ≡ put_at s' n u) → m ≡ Option.get_or p n → Wrote s at (t ++ u) m s''
both_put {s} {at} t u o p h a e b f = then-put u (wrote_put t o (room_first t u at (length s) h) a e) p h b f

-- ---- lines

-- a `size` line: its word, the two numbers and the label, each after a tab, and a newline
pub size_pieces : (m t : ℕ) (l : Bytes)
    → write_line size_form (m, (t, (l, tt)))
    ≡ ascii "size" ++ (tab ∷ decimal m) ++ (tab ∷ decimal t) ++ (tab ∷ hex_field l) ++ newline ∷ []
unfolding write_line line joined write_fields write_field ascii
size_pieces m t l = simp append_assoc

-- a `keep` line: its word, the value after a tab, and a newline
pub keep_pieces : (v : Bytes) → write_keep v ≡ ascii "keep" ++ (tab ∷ hex_field v) ++ newline ∷ []
unfolding write_keep write_line line joined write_fields write_field ascii
keep_pieces v = simp append_assoc

-- where there is room for a `size` line, there is room for its pieces
pub size_rooms : (m t : ℕ) (l : Bytes) {at k : ℕ} → at + length (write_line size_form (m, (t, (l, tt)))) ≤ k
    → Rooms (ascii "size" ++ (tab ∷ decimal m) ++ (tab ∷ decimal t)) (tab ∷ hex_field l) (newline ∷ []) at k
size_rooms m t l h = rooms _ _ _ _ (size_pieces m t l) h

-- and so for a `keep` line
pub keep_rooms : (v : Bytes) {at k : ℕ} → at + length (write_keep v) ≤ k
    → Rooms (ascii "keep") (tab ∷ hex_field v) (newline ∷ []) at k
keep_rooms v h = rooms _ _ _ _ (keep_pieces v) h

-- a `pair` line: its word, the two numbers, each after a tab, and a newline
pub pair_pieces : (e : MapEntry) → write_pair e
    ≡ ascii "pair" ++ (tab ∷ decimal e.position) ++ (tab ∷ decimal e.version) ++ newline ∷ []
unfolding write_pair write_line line joined write_fields write_field ascii
pair_pieces e = simp append_assoc

-- where there is room for it, there is room for the newline after the others
pub pair_room : (e : MapEntry) (at k : ℕ) → at + length (write_pair e) ≤ k
    → at + length ((ascii "pair" ++ (tab ∷ decimal e.position) ++ (tab ∷ decimal e.version)) ++ newline ∷ []) ≤ k
pair_room e at k h = rw (pair_pieces e) at h

-- ---- a text for each element of a list

-- texts were written, and those of the elements that are left follow them in the texts of all
pub record TextsTo {A : Type 0} (f : A
    → Bytes) (s : Bytes) (at : ℕ) (xs left : List A) (n : ℕ) (s' : Bytes) : Type 0 where
  pub text : Bytes
  pub wrote : Wrote s at text n s'
  pub whole : text ++ flat_map f left ≡ flat_map f xs

module _ {A : Type 0} (f : A → Bytes) (xs : List A) where
  -- at first no text is written
  pub texts-start : (s : Bytes) (at : ℕ) → at + length (flat_map f xs) ≤ length s → TextsTo f s at xs xs at s
  texts-start s at h = record { text = []; wrote = wrote_nothing s at (omega arith); whole = refl }

  module _ {s : Bytes} {at n : ℕ} {s' : Bytes} where
    module _ (x : A) (left : List A) (w : TextsTo f s at xs (x ∷ left) n s') where
      -- the texts so far and that of the next element, and those after it
      next_whole : (w.text ++ f x) ++ flat_map f left ≡ flat_map f xs
      unfolding flat_map
      next_whole = append_assoc w.text (f x) (flat_map f left) ∙ w.whole

      -- where there is room for all texts, there is room for that of the next element
      pub texts-room : at + length (flat_map f xs) ≤ length s → n + length (f x) ≤ length s'
      texts-room r =
          room-then (f x) w.wrote (room_first (w.text ++ f x) (flat_map f left) at (length s) (rw next_whole r))

      -- with it one text more is written
      pub texts-step : {m : ℕ} {s'' : Bytes} → Wrote s' n (f x) m s'' → TextsTo f s at xs left m s''
      texts-step {m} {s''} v = record { text = w.text ++ f x; wrote = wrote_then (f x) w.wrote v; whole = next_whole }

    -- when none is left all are written
    pub texts-end : TextsTo f s at xs [] n s' → Wrote s at (flat_map f xs) n s'
    unfolding flat_map
    texts-end w = rw (sym (append-nil w.text) ∙ w.whole) at w.wrote

-- ---- values

-- the first runs of the front of a list are those of the list
pub runs_front : (n k : ℕ) (s : Bytes) → runs n k (take (k * n) s) ≡ runs n k s
unfolding runs
runs_front zero k s = refl
runs_front (suc n) k s =
    let e : k * suc n ≡ k + k * n = omega arith in
    rw (take-take k (k * suc n) s (omega arith), e, drop-take k (k * n) s)
    (ap (λ (vs : List Bytes). take k s ∷ vs) (runs_front n k (drop k s)))

-- the values that are left stand in the bytes that are left
pub record ValuesTo (s : Bytes) (at : ℕ) (vs : List Bytes) (rest : Bytes) (n : ℕ) (s' : Bytes) : Type 0 where
  pub left : ℕ
  pub whole : length rest ≡ hash_length * left
  pub texts : TextsTo write_keep s at vs (runs left hash_length rest) n s'

-- the values of the front of a block, cut off, are those of the block
pub values_kept : (n : ℕ) (block : Bytes) → hash_length * n ≤ length block
    → runs (length (take (hash_length * n) block) / hash_length) hash_length (take (hash_length * n) block)
    ≡ runs n hash_length block
values_kept n block h =
    let l = length-take-le (hash_length * n) block h in
    let e : length (take (hash_length * n) block) / hash_length ≡ n = omega arith in
    rw e (runs_front n hash_length block)

module _ (s : Bytes) (at : ℕ) (vs : List Bytes) {n : ℕ} {s' : Bytes} where
  -- a value is the first of those that are left
  pub values_next : (v rest : Bytes) → length v ≡ hash_length → ValuesTo s at vs (v ++ rest) n s'
      → (k : ℕ) × (length rest ≡ hash_length * k) × TextsTo write_keep s at vs (v ∷ runs k hash_length rest) n s'
  unfolding runs
  values_next v rest h w = go w.left w.whole w.texts
    where
      go : (k : ℕ) → length (v ++ rest) ≡ hash_length * k
          → TextsTo write_keep s at vs (runs k hash_length (v ++ rest)) n s'
          → (k : ℕ) × (length rest ≡ hash_length * k) × TextsTo write_keep s at vs (v ∷ runs k hash_length rest) n s'
      go zero e t = absurd (omega (arith, length-append v rest))
      go (suc k) e t =
          (k, omega (arith, length-append v rest), rw (take_at v rest hash_length h, drop_at v rest hash_length h) at t)

  -- where fewer bytes are left than a value has, no value is left
  pub values_end : (rest : Bytes) → length rest < hash_length → ValuesTo s at vs rest n s'
      → TextsTo write_keep s at vs [] n s'
  unfolding runs
  values_end rest h w = go w.left w.whole w.texts
    where
      go : (k : ℕ) → length rest ≡ hash_length * k → TextsTo write_keep s at vs (runs k hash_length rest) n s'
          → TextsTo write_keep s at vs [] n s'
      go zero e t = t
      go (suc k) e t = absurd (omega arith)

-- ---- a valid state

-- what is known of the struct of a valid state
pub record Fitting (b : StateBlock) : Type 0 where
  pub stands : valid_state (state_of b) ≡ some (contents b)
  pub label : b.label.length ≤ label_limit
  pub values : hash_length * ones b.log.size ≤ values_block_length
  pub pairs : b.map.count ≤ map_limit
  pub text : length (write_state (contents b)) ≤ state_text_limit

-- it stands for what fills it, and all of that has room
pub valid_fits : (b : StateBlock) → is_some (valid_state (state_of b)) ≡ true → Fitting b
unfolding state_of room_is_zero contents log_in
valid_fits b e =
    let (s, q) = given_some (valid_state (state_of b)) e in
    let (o, v) = valid_some (state_of b) s q in
    let (z, i) = provided_some (room_is_zero b) (contents b) s o in
    let w : is_valid (contents b) ≡ true = ap is_valid i ∙ v in
    let (l, z1) = every_cons _ _ z in
    let (p, z2) = every_cons _ _ (every_cons _ _ (every_cons _ _ z1).1).1 in
    record {
      stands = q ∙ ap some (sym i);
      label = leb-true _ _ l;
      values =
          rw (length_runs (ones b.log.size) hash_length b.log.values) at
          (values_fit (contents b) (valid_was (contents b) w));
      pairs = leb-true _ _ p;
      text = state_short (contents b) w;
    }

-- the parts of its text: the `size` line, the `keep` lines, the `pair` lines
abbrev pub size_part : StateBlock → Bytes
size_part b = write_line size_form (b.log.size, (b.log.timestamp, (take b.label.length b.label.bytes, tt)))

abbrev pub keep_part : StateBlock → Bytes
keep_part b = flat_map write_keep (runs (ones b.log.size) hash_length b.log.values)

abbrev pub pair_part : StateBlock → Bytes
pair_part b = flat_map write_pair (map_of (take b.map.count b.map.positions) (take b.map.count b.map.versions))

-- its text is these parts
pub state_parts : (b : StateBlock) → write_state (contents b) ≡ size_part b ++ keep_part b ++ pair_part b
unfolding write_state contents label_in log_in map_in
state_parts b = refl

-- where there is room for the longest text, there is room for each of them
pub state_rooms : (b : StateBlock) (f : Fitting b) {k : ℕ} → state_text_limit ≤ k
    → Rooms (size_part b) (keep_part b) (pair_part b) 0 k
state_rooms b f h = let t = f.text in rooms _ _ _ _ (state_parts b) (omega arith)

-- ---- the text to write

-- none where too few bytes are lent
pub text_no_room : (b : StateBlock) (lent : Bytes) → length lent < state_text_limit → text_for b lent ≡ none
unfolding text_for
text_no_room b lent h = choose_false (leb state_text_limit (length lent)) _ _ (lt-leb state_text_limit (length lent) h)

-- none of a state that is not valid
pub text_invalid : (b : StateBlock) (lent : Bytes) → is_some (valid_state (state_of b)) ≡ false → text_for b lent ≡ none
unfolding text_for
text_invalid b lent e =
    let n = ap (Option.map write_state) (given_none (valid_state (state_of b)) e) in
    choose_by (λ (o : Option Bytes). o ≡ none) (leb state_text_limit (length lent)) _ _ (λ _. n) (λ _. refl)

-- that of a valid state where enough bytes are lent
pub text_valid : (b : StateBlock) (lent : Bytes) → is_some (valid_state (state_of b)) ≡ true
    → state_text_limit ≤ length lent
    → text_for b lent ≡ some (write_state (contents b))
unfolding text_for
text_valid b lent e h =
    choose_true (leb state_text_limit (length lent)) _ _ (le-leb state_text_limit (length lent) h)
    ∙ ap (Option.map write_state) (valid_fits b e).stands

-- where there is none, nothing is written
pub none_written : (s : Bytes) (o : Option Bytes) → o ≡ none → (0 ≡ length (Option.get_or o []))
    × (s ≡ written_first s o)
unfolding written_first Option-elim
none_written s o e = (rw e refl, rw e refl)

-- where there is one, it is written from byte 0 on
pub first_written : {s : Bytes} {n : ℕ} {s' : Bytes} (o : Option Bytes) (t : Bytes) → o ≡ some t → Wrote s 0 t n s'
    → (n ≡ length (Option.get_or o [])) × (s' ≡ written_first s o)
unfolding written_first Option-elim
first_written o t e w = (rw e (omega (arith, w.offset)), rw e w.bytes)
