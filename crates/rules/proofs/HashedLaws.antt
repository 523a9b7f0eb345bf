-- The strings that an accepted call hashed (specs/Hashed.antt): they are byte strings, and where
-- each kind of them stands.
use mathlib.Core.Path.{◌≡◌, refl, subst}
use mathlib.Core.Bool.{true}
use mathlib.Core.List.{List, [], ◌∷◌, ◌++◌, flat_map, Memᴰ}
use mathlib.Core.Option.{Option, none, some, get_or, bind}
use Prim.Native.Nat.{ℕ}
use lib.Dec.{eqb, ltb}
use lib.ListN.{length}
use borrow.Author.Tests.{ltb-true}
use Rattle.lists.specs.Lists.{Bytes, all, first}
use Rattle.lists.proofs.ChoiceLaws.{choose_by}
use Rattle.lists.proofs.ListLaws.{all_cons, first_listed}
use Rattle.lists.proofs.MemberLaws.{each_nil, each-cons, each_append, at-mapped, flat-listed, listed-flat}
use Rattle.hash.specs.Bytes.{AreBytes, big_endian}
use Rattle.hash.specs.Hmac.{inner_string, outer_string}
use Rattle.hash.proofs.BytesLaws.{bytes_append, bytes_big_endian}
use Rattle.hash.proofs.HmacLaws.{bytes_inner, bytes_outer, bytes_hmac}
use Rattle.tree.specs.LogTree.{walk_strings}
use Rattle.tree.proofs.CollisionLaws.{ByteStrings, Within}
use Rattle.tree.proofs.WalkValueLaws.{ByteEntries, bytes_walk, full_values_bytes}
use Rattle.tree.proofs.LookupLaws.{TerminalBytes, bytes_lookup}
use Rattle.rules.specs.Limits.{vrf_output_length}
use Rattle.rules.specs.VrfOutputs.{VrfOutput, output_of}
use Rattle.rules.specs.State.{State, HasBytes}
use Rattle.rules.specs.Response.{Target, Finding, searched, monitored, Step, Result, included, absent}
use Rattle.rules.specs.Response.{other_leaf, Lookup, Entry, target_of, log_entry}
use Rattle.rules.specs.Encoding.{opaque}
use Rattle.rules.specs.Commitment.{commitment_key, commitment_value, commitment_to, commitment_strings}
use Rattle.rules.specs.Refusals.{Inputs, Call, passed, known, log_walk, terminal, step_commitment}
use Rattle.rules.specs.Refusals.{commitment_by, commitment_of, judge}
use Rattle.rules.specs.Calls.{next_log, next_state}
use Rattle.rules.specs.Hashed.{hashed_by_lookup, hashed_by_entry, hashed_for_target, hashed}
use Rattle.rules.specs.Consistency.{AreByteInputs, IsByteState}
use Rattle.rules.proofs.RefusalLaws.{valid_some, accepted_meaning, readings_were}
use Rattle.rules.proofs.PartsLaws.{CommitmentFits, StepFits, OtherLeafFits, FindingFits, LookupFits}
use Rattle.rules.proofs.PartsLaws.{EntryFits, PartsFit, response_fits}
use Rattle.rules.proofs.OutputLaws.{outputs_sized, outputs_bytes, output-by}

-- ---- where they stand

-- those of the walk
pub walk_listed : (c : Call) → Within (walk_strings (known c) (log_walk c) c.parts.nodes) (hashed c)
unfolding hashed
walk_listed c x m =
    mathlib.Core.List.Memᴰ.append_left (hashed_for_target (target_of c.parts.finding) c.parts.label) (mathlib.Core.List.Memᴰ.append_left (flat_map (hashed_by_entry c) c.parts.entries) m)

-- those of a lookup
pub lookup_listed : (c : Call) (e : Entry) (l : Lookup) → Memᴰ e c.parts.entries → Memᴰ l e.lookups → Within (hashed_by_lookup c l) (hashed c)
unfolding hashed hashed_by_entry
lookup_listed c e l i j x m =
    mathlib.Core.List.Memᴰ.append_left (hashed_for_target (target_of c.parts.finding) c.parts.label)
    (mathlib.Core.List.Memᴰ.append_right (walk_strings (known c) (log_walk c) c.parts.nodes)
    (flat-listed (hashed_by_entry c) c.parts.entries e x i (flat-listed (hashed_by_lookup c) e.lookups l x j m)))

-- HMAC's two for the target's commitment
pub strings_listed : (c : Call) (t : Target) → c.parts.finding ≡ searched t → Within (commitment_strings t.opening c.parts.label t.value) (hashed c)
unfolding hashed hashed_for_target target_of
strings_listed c t f x m =
    let n : Memᴰ x (hashed_for_target (target_of c.parts.finding) c.parts.label) = rw f m in
    mathlib.Core.List.Memᴰ.append_right (walk_strings (known c) (log_walk c) c.parts.nodes ++ flat_map (hashed_by_entry c) c.parts.entries) n

-- ---- bytes

-- the strings of a call that was read have bytes, where what it was given has; outputs and parts
-- have the lengths that reading asks for
pub record ByteCall (c : Call) : Type 0 where
  pub state : HasBytes c.state
  pub outputs : (x : VrfOutput) → Memᴰ x c.outputs → AreBytes x.output
  pub output_length : (x : VrfOutput) → Memᴰ x c.outputs → length x.output ≡ vrf_output_length
  pub parts : PartsFit c.parts

pub call_bytes : (s : Option State) (i : Inputs) (c : Call) → IsByteState s → AreByteInputs i → judge s i ≡ passed c → ByteCall c
call_bytes s i c b h e =
    let r = readings_were s i c (accepted_meaning s i c e).0 in
    record {
      state = subst IsByteState (valid_some s c.state r.state).0 b;
      outputs = outputs_bytes i.vrf_outputs c.outputs h.vrf_outputs r.outputs;
      output_length = outputs_sized i.vrf_outputs c.outputs r.outputs;
      parts = response_fits i.response c.parts r.parts;
    }

-- numbers each of which is tested to be a byte
bytes_tested : (s : Bytes) → all (λ (b : ℕ). ltb b 256) s ≡ true → AreBytes s
bytes_tested [] h = tt
bytes_tested (b ∷ s) h = let (p, q) = all_cons (λ (b : ℕ). ltb b 256) b s h in (ltb-true b 256 p, bytes_tested s q)

-- the key of commitments
bytes_key : AreBytes commitment_key
unfolding commitment_key all
bytes_key = bytes_tested commitment_key refl

-- the text of a commitment
bytes_text : (o l v : Bytes) → AreBytes o → AreBytes l → AreBytes v → AreBytes (commitment_value o l v)
unfolding commitment_value opaque
bytes_text o l v ho hl hv =
    bytes_append (o ++ opaque 1 l) (opaque 4 v)
    (bytes_append o (opaque 1 l) ho (bytes_append (big_endian 1 (length l)) l (bytes_big_endian 1 (length l)) hl))
    (bytes_append (big_endian 4 (length v)) v (bytes_big_endian 4 (length v)) hv)

-- the strings of the target's commitment
bytes_finding : (f : Finding) (label : Bytes) → FindingFits f → AreBytes label → ByteStrings (hashed_for_target (target_of f) label)
unfolding hashed_for_target target_of commitment_strings
bytes_finding (searched t) label h b =
    let m = commitment_value t.opening label t.value in
    each-cons AreBytes (inner_string commitment_key m) (outer_string commitment_key m ∷ [])
    (bytes_inner commitment_key m bytes_key (bytes_text t.opening label t.value h.opening_bytes b h.value_bytes))
    (each-cons AreBytes (outer_string commitment_key m) [] (bytes_outer commitment_key m bytes_key) (each_nil AreBytes))
bytes_finding monitored label h b = each_nil AreBytes

-- the commitment of a step
bytes_step : (ss : List Step) (v : ℕ) → ((s : Step) → Memᴰ s ss → StepFits s) → AreBytes (step_commitment ss v)
unfolding step_commitment bind
bytes_step ss v h = go (first (λ (s : Step). eqb s.version v) ss) (first_listed (λ (s : Step). eqb s.version v) ss)
  where
    of_one : (o : Option Bytes) → CommitmentFits o → AreBytes (get_or o [])
    of_one none k = tt
    of_one (some c) k = k

    go : (o : Option Step) → ((s : Step) → o ≡ some s → Memᴰ s ss) → AreBytes (get_or (bind o (λ s. s.commitment)) [])
    go none f = tt
    go (some s) f = of_one s.commitment (h s (f s refl))

module _ (c : Call) (b : ByteCall c) where
  -- the commitment of a version
  bytes-commitment : (v : ℕ) → AreBytes (commitment_of c v)
  unfolding commitment_of commitment_by commitment_to
  bytes-commitment v = go (target_of c.parts.finding)
    where
      go : (o : Option Target) → AreBytes (commitment_by o c.parts.label c.parts.steps v)
      go (some t) =
          choose_by AreBytes (eqb v t.version) (λ _. commitment_to t.opening c.parts.label t.value) (λ _. step_commitment c.parts.steps v)
          (λ _. bytes_hmac commitment_key (commitment_value t.opening c.parts.label t.value)) (λ _. bytes_step c.parts.steps v b.parts.steps)
      go none = bytes_step c.parts.steps v b.parts.steps

  -- what stands at the place of a lookup
  bytes_place : (v : ℕ) (r : Result) → OtherLeafFits r → TerminalBytes (terminal c v r)
  unfolding terminal
  bytes_place v included h = bytes-commitment v
  bytes_place v absent h = tt
  bytes_place v (other_leaf o d) h = (h.1, h.2)

  -- the strings of a lookup
  bytes-looked-up : (l : Lookup) → LookupFits l → ByteStrings (hashed_by_lookup c l)
  unfolding hashed_by_lookup
  bytes-looked-up l h =
      bytes_lookup (output_of c.outputs l.version) (terminal c l.version l.result) l.siblings (output-by AreBytes c.outputs l.version b.outputs tt)
      (bytes_place l.version l.result h.other) h.bytes

  -- the strings of the lookups in an entry
  bytes-entry : (e : Entry) → EntryFits e → ByteStrings (hashed_by_entry c e)
  unfolding hashed_by_entry
  bytes-entry e h x m = let (l, i, j) = listed-flat (hashed_by_lookup c) e.lookups x m in bytes-looked-up l (h.lookups l i) x j

  -- the prefix roots of the entries shown
  bytes-roots : ByteEntries (known c).entries
  unfolding known log_entry
  bytes-roots x m = let (e, i, q) = at-mapped log_entry c.parts.entries x m in rw q (b.parts.entries e i).root

  -- all strings that the call hashed are byte strings
  pub bytes-hashed : ByteStrings (hashed c)
  unfolding hashed known
  bytes-hashed =
      each_append AreBytes (walk_strings (known c) (log_walk c) c.parts.nodes ++ flat_map (hashed_by_entry c) c.parts.entries)
      (hashed_for_target (target_of c.parts.finding) c.parts.label)
      (each_append AreBytes (walk_strings (known c) (log_walk c) c.parts.nodes) (flat_map (hashed_by_entry c) c.parts.entries)
      (bytes_walk (known c) (log_walk c) c.parts.nodes bytes-roots b.state.1 b.parts.node_bytes)
      (λ x m. let (e, i, j) = listed-flat (hashed_by_entry c) c.parts.entries x m in bytes-entry e (b.parts.entries e i) x j))
      (bytes_finding c.parts.finding c.parts.label b.parts.finding b.parts.label)

  -- and the new state has bytes
  pub bytes_next : HasBytes (next_state c)
  unfolding next_state next_log known
  bytes_next = (b.state.0, full_values_bytes c.parts.tree_size (known c) (log_walk c) c.parts.nodes b.state.1 b.parts.node_bytes)
