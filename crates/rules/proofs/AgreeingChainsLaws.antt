-- The second claim of demand 3 (specs/Consistency.antt, `ChainsAgree`): on a chain of calls each
-- entry is shown with one time and one prefix root, or the strings that the accepted calls hashed
-- break SHA-256.
--
-- A state of m entries keeps the values of the full subtrees of m. It holds an entry fast if from the value kept of the full subtree in which the entry lies a way
-- leads down to the entry's leaf string, all of whose strings were hashed by calls of the chain.
-- 1. An accepted call that shows an entry returns a state that holds it fast: the value that the walk hands on of the full subtree in which the entry lies was
--    worked out from the entry's leaf string.
-- 2. Its state also holds fast all that the state before did: the old full subtree in which such an entry lies is part of a new one, and the walk met the value
--    kept of it (rule 14) on the way up to the value of the new one.
-- 3. A refused call returns its state. So the state after the whole chain holds fast every entry that any of its calls showed.
-- 4. Two entries with one position that one state holds fast have one leaf string: both ways lead down from one value by the same turns, and at each parent the two
--    strings have one digest. A leaf string is a time in 8 bytes and a prefix root.
use mathlib.Core.Path.{◌≡◌, refl, sym, ap, ◌∙◌, subst}
use mathlib.Core.Logic.{◌⊎◌, inl, inr, ⊎_elim}
use mathlib.Core.Bool.{Bool, true, false}
use mathlib.Core.List.{List, [], ◌∷◌, map, flat_map, Memᴰ}
use mathlib.Core.Option.{Option, none, some}
use Prim.Native.Nat.{ℕ, ◌<◌, ◌^◌}
use lib.Dec.{eqb}
use borrow.Author.Tests.{eqb-true, eqb-false, not-false}
use Rattle.lists.specs.Lists.{Bytes}
use Rattle.lists.proofs.ListLaws.{mapped_at}
use Rattle.lists.proofs.MemberLaws.{at-mapped, flat-listed, listed-flat}
use Rattle.tree.specs.LogTree.{LogEntry, log_leaf_string}
use Rattle.tree.specs.Collisions.{Broken}
use Rattle.tree.proofs.CollisionLaws.{◌>>=◌, all_or, ByteStrings, Within}
use Rattle.tree.proofs.HistoryLaws.{Binds, Meets, walk_binds, walk_carries, binds_one, entry_string_one}
use Rattle.rules.specs.State.{State}
use Rattle.rules.specs.Response.{Entry, entry_positions, log_entry}
use Rattle.rules.specs.Refusals.{Inputs, Call, Judgement, refused, passed, known, log_walk}
use Rattle.rules.specs.Refusals.{history_differs, judge}
use Rattle.rules.specs.Calls.{next_log, next_state, state_after}
use Rattle.rules.specs.Hashed.{hashed}
use Rattle.rules.specs.Consistency.{AreByteInputs, IsByteState, accepted, accepted_calls, shown_by}
use Rattle.rules.specs.Consistency.{ChainsAgree}
use Rattle.rules.proofs.RefusalLaws.{valid_some, accepted_meaning, readings_were}
use Rattle.rules.proofs.AcceptedLaws.{Accepted, accepted_call, rules-passed, shown-entries}
use Rattle.rules.proofs.AcceptedLaws.{call-follows, shown-string, shown-timestamp}
use Rattle.rules.proofs.HashedLaws.{ByteCall, walk_listed, call_bytes, bytes-hashed, bytes_next}

-- ---- what a state holds fast

-- an entry, by strings of S: only what it keeps of the log counts
abbrev pub HoldsFast : List Bytes → Option State → LogEntry → Type 0
HoldsFast S none e = ⊥
HoldsFast S (some s) e = Binds s.log.size s.log.values e.position (log_leaf_string e) S × (e.timestamp < 2 ^ 64)

-- an accepted call got the state that it was judged with
state_was : (s : Option State) (i : Inputs) (c : Call) → judge s i ≡ passed c → s ≡ some c.state
state_was s i c e = (valid_some s c.state (readings_were s i c (accepted_meaning s i c e).0).state).0

-- ---- one call

module _ (S : List Bytes) (c : Call) (h : Accepted c) (f : Within (hashed c) S) where
  -- its walk meets the kept values, by strings of S
  call-meets : Meets (known c) S (log_walk c) c.parts.nodes
  unfolding history_differs
  call-meets = record { met = not-false _ (rules-passed c h).history; listed = λ x m. f x (walk_listed c x m) }

  -- 1: its state holds fast each entry that it shows
  pub call-learns : (e : Entry) → Memᴰ e c.parts.entries → HoldsFast S (some (next_state c)) (log_entry e)
  unfolding next_state next_log log_walk log_entry known
  call-learns e m =
      let i = mapped_at (λ (x : Entry). x.position) c.parts.entries e m in
      let b = walk_binds c.parts.tree_size (known c) (entry_positions c.parts) c.parts.nodes S (call-follows c h) call-meets e.position
      ((shown-entries c h).within e.position i) i in
      (rw (shown-string c h e m) at b, shown-timestamp c h e m)

  -- 2: and what the state before held fast
  pub call-carries : (e : LogEntry) → HoldsFast S (some c.state) e → HoldsFast S (some (next_state c)) e
  unfolding next_state next_log log_walk known
  call-carries e (b, t) =
      (walk_carries c.parts.tree_size (known c) (entry_positions c.parts) c.parts.nodes S (call-follows c h) call-meets e.position (log_leaf_string e) b, t)

-- ---- a chain of calls

-- the state after all calls of a chain
unfoldable pub state_after_all : Option State → List Inputs → Option State
state_after_all s [] = s
state_after_all s (i ∷ is) = state_after_all (state_after s (judge s i)) is

-- what holds of each accepted call of a chain holds of the first call, if it was accepted, and of
-- each accepted call after it
module _ (P : Call → Type 0) (s : Option State) (i : Inputs) (is : List Inputs) (h : (c : Call) → Memᴰ c (accepted_calls s (i ∷ is)) → P c) where
  first_of : (c : Call) → judge s i ≡ passed c → P c
  unfolding accepted_calls accepted
  first_of c e =
      let m : Memᴰ c (accepted (judge s i)) = rw e (mathlib.Core.List.Memᴰ.head refl) in
      h c (mathlib.Core.List.Memᴰ.append_left (accepted_calls (state_after s (judge s i)) is) m)

  rest_of : (c : Call) → Memᴰ c (accepted_calls (state_after s (judge s i)) is) → P c
  unfolding accepted_calls
  rest_of c m = h c (mathlib.Core.List.Memᴰ.append_right (accepted (judge s i)) m)

-- the other way: an accepted call of a chain is the first call, or one after it
chain_call : (s : Option State) (i : Inputs) (is : List Inputs) (c : Call) → Memᴰ c (accepted_calls s (i ∷ is))
    → (judge s i ≡ passed c) ⊎ Memᴰ c (accepted_calls (state_after s (judge s i)) is)
unfolding accepted_calls accepted
chain_call s i is c m = go (judge s i) refl (mathlib.Core.List.Memᴰ.append_cases (accepted (judge s i)) m)
  where
    go : (j : Judgement) → judge s i ≡ j → Memᴰ c (accepted j) ⊎ Memᴰ c (accepted_calls (state_after s (judge s i)) is)
        → (judge s i ≡ passed c) ⊎ Memᴰ c (accepted_calls (state_after s (judge s i)) is)
    go j q (inr k) = inr k
    go (refused n) q (inl k) = absurd (mathlib.Core.List.Memᴰ.not-nil k)
    go (passed d) q (inl k) = inl (q ∙ ap passed (sym (only (mathlib.Core.List.Memᴰ.cases_cons k))))
      where
        only : (c ≡ d) ⊎ Memᴰ c [] → c ≡ d
        only (inl e) = e
        only (inr n) = absurd (mathlib.Core.List.Memᴰ.not-nil n)

module _ (S : List Bytes) where
  -- all strings that the accepted calls hashed stand in S
  abbrev Covers : Option State → List Inputs → Type 0
  Covers s is = (c : Call) → Memᴰ c (accepted_calls s is) → Within (hashed c) S

  -- 2 and 3: a call, accepted or refused, returns a state that holds fast what the state before did
  step-carries : (s : Option State) (i : Inputs) → ((c : Call) → judge s i ≡ passed c → Within (hashed c) S) → (e : LogEntry) → HoldsFast S s e
      → HoldsFast S (state_after s (judge s i)) e
  unfolding state_after
  step-carries s i f e b = go (judge s i) refl
    where
      go : (j : Judgement) → judge s i ≡ j → HoldsFast S (state_after s j) e
      go (refused k) q = b
      go (passed c) q = call-carries S c (accepted_call s i c q).1 (f c q) e (subst (λ (o : Option State). HoldsFast S o e) (state_was s i c q) b)

  -- so do all calls of a chain
  pub chain-carries : (s : Option State) (is : List Inputs) → Covers s is → (e : LogEntry) → HoldsFast S s e → HoldsFast S (state_after_all s is) e
  unfolding state_after_all
  chain-carries s [] f e b = b
  chain-carries s (i ∷ is) f e b =
      chain-carries (state_after s (judge s i)) is (rest_of (λ (c : Call). Within (hashed c) S) s i is f) e
      (step-carries s i (first_of (λ (c : Call). Within (hashed c) S) s i is f) e b)

  -- 3: the state after the chain holds fast every entry that an accepted call showed
  pub chain-learns : (s : Option State) (is : List Inputs) → Covers s is → (c : Call) → Memᴰ c (accepted_calls s is)
      → (e : Entry) → Memᴰ e c.parts.entries → HoldsFast S (state_after_all s is) (log_entry e)
  unfolding accepted_calls state_after_all state_after
  chain-learns s [] f c m e k = absurd (mathlib.Core.List.Memᴰ.not-nil m)
  chain-learns s (i ∷ is) f c m e k =
      let rest = rest_of (λ (d : Call). Within (hashed d) S) s i is f in
      ⊎_elim
      (λ q.
      chain-carries (state_after s (judge s i)) is rest (log_entry e)
      (rw q (call-learns S c (accepted_call s i c q).1 (first_of (λ (d : Call). Within (hashed d) S) s i is f c q) e k)))
      (λ n. chain-learns (state_after s (judge s i)) is rest c n e k)
      (chain_call s i is c m)

-- a call returns a state that has bytes
next_bytes : (s : Option State) (i : Inputs) → IsByteState s → AreByteInputs i → (j : Judgement) → judge s i ≡ j → IsByteState (state_after s j)
unfolding state_after
next_bytes s i b h (refused k) q = b
next_bytes s i b h (passed c) q = bytes_next c (call_bytes s i c b h q)

-- the strings of every accepted call have bytes
chain_bytes : (s : Option State) (is : List Inputs) → IsByteState s → ((i : Inputs) → Memᴰ i is → AreByteInputs i)
    → (c : Call) → Memᴰ c (accepted_calls s is) → ByteCall c
unfolding accepted_calls
chain_bytes s [] b h c m = absurd (mathlib.Core.List.Memᴰ.not-nil m)
chain_bytes s (i ∷ is) b h c m =
    let k = h i (mathlib.Core.List.Memᴰ.head refl) in
    ⊎_elim (call_bytes s i c b k) (chain_bytes (state_after s (judge s i)) is (next_bytes s i b k (judge s i) refl) (λ x n. h x (mathlib.Core.List.Memᴰ.tail n)) c)
    (chain_call s i is c m)

-- ---- the claim

-- one time and one prefix root
abbrev Same : LogEntry → LogEntry → Type 0
Same x y = (x.timestamp ≡ y.timestamp) × (x.prefix_root ≡ y.prefix_root)

-- 4: two entries with one position that a state holds fast
fast_one : (S : List Bytes) → ByteStrings S → (s : Option State) (x y : LogEntry) → HoldsFast S s x → HoldsFast S s y → x.position ≡ y.position
    → Same x y ⊎ Broken S
fast_one S b none x y h k e = absurd h
fast_one S b (some s) x y (h, t) (k, u) e = do
  q ← binds_one b h (subst (λ (p : ℕ). Binds s.log.size s.log.values p (log_leaf_string y) S) (sym e) k)
  inl (entry_string_one x y t u q)

-- the second claim
pub chains_agree : ChainsAgree
unfolding shown_by
chains_agree s is b h = do
  r ← all_or (λ (x : LogEntry). (y : LogEntry) → Memᴰ y shown → x.position ≡ y.position → Same x y) shown one
  inl (λ x y m n. r x m y n)
  where
    calls : List Call
    calls = accepted_calls s is

    shown : List LogEntry
    shown = shown_by calls

    S : List Bytes
    S = flat_map hashed calls

    bytes : ByteStrings S
    bytes x m = let (c, i, j) = listed-flat hashed calls x m in bytes-hashed c (chain_bytes s is b h c i) x j

    fast : (x : LogEntry) → Memᴰ x shown → HoldsFast S (state_after_all s is) x
    fast x m =
        let (c, i, j) = listed-flat (λ (c : Call). map log_entry c.parts.entries) calls x m in
        let (e, k, q) = at-mapped log_entry c.parts.entries x j in
        rw q (chain-learns S s is (λ d n y l. flat-listed hashed calls d y n l) c i e k)

    two : (x y : LogEntry) → Memᴰ x shown → Memᴰ y shown → (t : Bool) → eqb x.position y.position ≡ t
        → (x.position ≡ y.position → Same x y) ⊎ Broken S
    two x y m n false q = inl (λ e. absurd (eqb-false x.position y.position q e))
    two x y m n true q = do
      r ← fast_one S bytes (state_after_all s is) x y (fast x m) (fast y n) (eqb-true x.position y.position q)
      inl (λ _. r)

    one : (x : LogEntry) → Memᴰ x shown → ((y : LogEntry) → Memᴰ y shown → x.position ≡ y.position → Same x y) ⊎ Broken S
    one x m = all_or (λ (y : LogEntry). x.position ≡ y.position → Same x y) shown (λ y n. two x y m n (eqb x.position y.position) refl)
