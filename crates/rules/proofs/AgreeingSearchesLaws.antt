-- The first claim of demand 3 (specs/Consistency.antt, `SearchesAgree`): two accepted searches for
-- one label in one log yield one version, opening and value, or the strings that they hashed break
-- SHA-256.
--
-- 1. Both show the last entry of the log, and the walks to the one log root lead down to it by the same turns; so they show it with one prefix root.
-- 2. In it the ladder of each target is complete (rule 13): of its versions, those not above the target are looked up with success, the others without (rule 12).
-- 3. If one target were greater, the two ladders would have a version in common that the smaller search found missing and the greater one found there, under one
--    output and one root. That breaks SHA-256.
-- 4. So the versions are equal. Both searches found a leaf for it, under one output and one root; so the two leaves have one commitment.
-- 5. A commitment is to one opening and one value.
use mathlib.Core.Path.{◌≡◌, refl, sym, ap, ◌∙◌, subst}
use mathlib.Core.Logic.{◌⊎◌, inl, inr}
use mathlib.Core.List.{List, ◌++◌, Memᴰ}
use Prim.Native.Nat.{ℕ, ◌-◌, ◌≤◌, ◌<◌}
use native.Mathlib.Omega.{arith}
use native.Mathlib.Decide.{dec_le}
use Rattle.lists.specs.Lists.{Bytes}
use Rattle.lists.proofs.ListLaws.{mapped_at}
use Rattle.lists.proofs.MemberLaws.{each_append}
use Rattle.hash.specs.Bytes.{AreBytes}
use Rattle.tree.specs.Ladder.{ladder}
use Rattle.tree.specs.LogTree.{Walk, walk_of, string_at, value, walk_strings}
use Rattle.tree.specs.PrefixTree.{searched_leaf}
use Rattle.tree.specs.Collisions.{Broken}
use Rattle.tree.proofs.CollisionLaws.{◌>>=◌, ByteStrings, Within}
use Rattle.tree.proofs.LadderLaws.{ladder_split, ladder_own}
use Rattle.tree.proofs.LookupLaws.{LeadsTo, one-commitment, not_both}
use Rattle.tree.proofs.HistoryLaws.{walks_agree, entry_string_one}
use Rattle.rules.specs.VrfOutputs.{output_of}
use Rattle.rules.specs.Response.{Target, searched, Entry, entry_positions, log_entry}
use Rattle.rules.specs.Commitment.{commitment_to}
use Rattle.rules.specs.Refusals.{Call, known, log_walk, log_root}
use Rattle.rules.specs.Hashed.{hashed}
use Rattle.rules.specs.Consistency.{OutputsAgree, SearchesAgree}
use Rattle.rules.proofs.AcceptedLaws.{Accepted, accepted_call, rules-passed, ladder-steps}
use Rattle.rules.proofs.AcceptedLaws.{shown-entries, call-follows, shown-string, shown-timestamp}
use Rattle.rules.proofs.CommitmentLaws.{commitment-one}
use Rattle.rules.proofs.HashedLaws.{ByteCall, walk_listed, strings_listed, call_bytes, bytes-hashed}
use Rattle.rules.proofs.LastEntryLaws.{Shows, OutputsFit, last_entry, outputs-fit, opening-length}
use Rattle.rules.proofs.LastEntryLaws.{shows}

-- ---- two prefix trees with one root

-- the outputs of the versions that two ladders have in common are equal
abbrev SameOutputs : (ℕ → Bytes) → (ℕ → Bytes) → ℕ → ℕ → Type 0
SameOutputs output output' t t' = (v : ℕ) → Memᴰ v (ladder t) → Memᴰ v (ladder t') → output v ≡ output' v

module _ (S : List Bytes) (bytes : ByteStrings S) (root : Bytes) where
  -- 3: a greater target breaks SHA-256
  none-greater : (o o' : ℕ → Bytes) (t t' : ℕ) (d d' : Bytes) → t < t' → OutputsFit o t → SameOutputs o o' t t' → Shows S o t root d → Shows S o' t' root d' → Broken S
  none-greater o o' t t' d d' l z a h h' =
      let p = ladder_split t t' l in
      let v = p.version in
      let m : Memᴰ v (ladder t) = rw p.first (mathlib.Core.List.Memᴰ.append_right p.before (mathlib.Core.List.Memᴰ.head refl)) in
      let m' : Memᴰ v (ladder t') = rw p.second (mathlib.Core.List.Memᴰ.append_right p.before (mathlib.Core.List.Memᴰ.head refl)) in
      let (x, n, k) = h.missing v m p.above in
      let (b, k') = h'.there v m' p.upto in
      not_both S bytes (o v) root b x (z v m) n (subst (λ (u : Bytes). LeadsTo S u (searched_leaf b) root) (sym (a v m m')) k') k

  -- so the targets are equal
  versions-one : (o o' : ℕ → Bytes) (t t' : ℕ) (d d' : Bytes) → OutputsFit o t → OutputsFit o' t' → SameOutputs o o' t t' → Shows S o t root d → Shows S o' t' root d'
      → (t ≡ t') ⊎ Broken S
  versions-one o o' t t' d d' z z' a h h' = go (dec_le t' t) (dec_le t t')
    where
      go : Dec (t' ≤ t) → Dec (t ≤ t') → (t ≡ t') ⊎ Broken S
      go (yes p) (yes q) = inl (omega arith)
      go (no p) q = inr (none-greater o o' t t' d d' (omega arith) z a h h')
      go (yes p) (no q) = inr (none-greater o' o t' t d' d (omega arith) z' (λ v m' m. sym (a v m m')) h' h)

  -- 4: and their leaves have one commitment
  commitments-one : (o o' : ℕ → Bytes) (t : ℕ) (d d' : Bytes) → SameOutputs o o' t t → Shows S o t root d → Shows S o' t root d' → (d ≡ d') ⊎ Broken S
  commitments-one o o' t d d' a h h' =
      one-commitment S bytes (o t) root d d' h.own
      (subst (λ (u : Bytes). LeadsTo S u (searched_leaf d') root) (sym (a t (ladder_own t) (ladder_own t))) h'.own)

-- ---- two searches

-- targets with one version, opening and value are equal
target_equal : (t t' : Target) → t.version ≡ t'.version → t.opening ≡ t'.opening → t.value ≡ t'.value → t ≡ t'
target_equal t t' p q r = rw (p, q, r) refl

module _ (c c' : Call) (h : Accepted c) (h' : Accepted c') (b : ByteCall c) (b' : ByteCall c') (size : c.parts.tree_size ≡ c'.parts.tree_size) (root : log_root c ≡ log_root c') where
  -- all strings that the two hashed
  abbrev both : List Bytes
  both = hashed c ++ hashed c'

  both_bytes : ByteStrings both
  both_bytes = each_append AreBytes (hashed c) (hashed c') (bytes-hashed c b) (bytes-hashed c' b')

  -- 1: an entry that both show has one prefix root
  roots-one : (e e' : Entry) → Memᴰ e c.parts.entries → Memᴰ e' c'.parts.entries → e.position ≡ e'.position
      → (e.prefix_root ≡ e'.prefix_root) ⊎ Broken both
  unfolding log_root log_walk known log_entry
  roots-one e e' i i' q =
      let n = c.parts.tree_size in
      let m = mapped_at (λ (x : Entry). x.position) c.parts.entries e i in
      let m' = mapped_at (λ (x : Entry). x.position) c'.parts.entries e' i' in
      let walked : ℕ → Walk = λ (k : ℕ). walk_of k c'.state.log.size (entry_positions c'.parts) in
      do
        w ← walks_agree n (known c) (known c') (entry_positions c.parts) (entry_positions c'.parts) c.parts.nodes c'.parts.nodes both
            (call-follows c h).values-sized (call-follows c' h').values-sized (call-follows c h).nodes-sized (call-follows c' h').nodes-sized
            (subst (λ (k : ℕ). log_root c ≡ value (known c') (walked k) c'.parts.nodes) (sym size) root) both_bytes
            (λ x k. mathlib.Core.List.Memᴰ.append_left (hashed c') (walk_listed c x k))
            (subst (λ (k : ℕ). Within (walk_strings (known c') (walked k) c'.parts.nodes) both) (sym size) (λ x k. mathlib.Core.List.Memᴰ.append_right (hashed c) (walk_listed c' x k)))
            e.position ((shown-entries c h).within e.position m) m (rw q m')
        let z = sym (shown-string c h e i) ∙ w ∙ ap (string_at (known c').entries) q ∙ shown-string c' h' e' i'
        inl (entry_string_one (log_entry e) (log_entry e') (shown-timestamp c h e i) (shown-timestamp c' h' e' i') z).1

  -- 2 to 5
  module _ (t t' : Target) (f : c.parts.finding ≡ searched t) (f' : c'.parts.finding ≡ searched t') (label : c.parts.label ≡ c'.parts.label)
      (agree : OutputsAgree c c') where
    -- the versions that both ladders have are among the steps of both
    alike : SameOutputs (output_of c.outputs) (output_of c'.outputs) t.version t'.version
    alike v m m' =
        agree v (rw (ladder-steps c (rules-passed c h).as_asked t f) m) (rw (ladder-steps c' (rules-passed c' h').as_asked t' f') m')

    targets-one : (t ≡ t') ⊎ Broken both
    targets-one =
        let o = output_of c.outputs in
        let o' = output_of c'.outputs in
        let d = commitment_to t.opening c.parts.label t.value in
        let d' = commitment_to t'.opening c.parts.label t'.value in
        let x = last_entry c h b t f in
        let x' = last_entry c' h' b' t' f' in
        let sh = shows c h b t f both (λ y m. mathlib.Core.List.Memᴰ.append_left (hashed c') m) x in
        let sh' = subst (λ (l : Bytes). Shows both o' t'.version x'.entry.prefix_root (commitment_to t'.opening l t'.value)) (sym label)
        (shows c' h' b' t' f' both (λ y m. mathlib.Core.List.Memᴰ.append_right (hashed c) m) x') in
        do
          r ← roots-one x.entry x'.entry x.listed x'.listed (x.last ∙ ap (λ (n : ℕ). n - 1) size ∙ sym x'.last)
          let u = subst (λ (y : Bytes). Shows both o' t'.version y d') (sym r) sh'
          v ← versions-one both both_bytes x.entry.prefix_root o o' t.version t'.version d d' (outputs-fit c h b t f) (outputs-fit c' h' b' t' f') alike sh u
          k ← commitments-one both both_bytes x.entry.prefix_root o o' t.version d d' (subst (SameOutputs o o' t.version) (sym v) alike) sh
              (subst (λ (y : ℕ). Shows both o' y x.entry.prefix_root d') (sym v) u)
          (p, q) ← commitment-one both both_bytes t.opening t'.opening c.parts.label t.value t'.value
              (opening-length c h b t f ∙ sym (opening-length c' h' b' t' f')) (λ y m. mathlib.Core.List.Memᴰ.append_left (hashed c') (strings_listed c t f y m))
              (λ y m. mathlib.Core.List.Memᴰ.append_right (hashed c) (strings_listed c' t' f' y (rw (← label) m))) k
          inl (target_equal t t' v p q)

-- the first claim
pub searches_agree : SearchesAgree
searches_agree s s' i i' c c' t t' bs bs' bi bi' p p' f f' label size root agree =
    targets-one c c' (accepted_call s i c p).1 (accepted_call s' i' c' p').1 (call_bytes s i c bs bi p) (call_bytes s' i' c' bs' bi' p') size root t t' f f' label agree
