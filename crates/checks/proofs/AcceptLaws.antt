-- Laws of acceptance and of refusal 16 (specs/Calls.antt): what each kind finds and its new map,
-- and then, for either kind, the answer and what stands in the output bytes.
use mathlib.Core.Path.{◌≡◌, refl, sym, ap, ap₂, subst, ◌∙◌}
use mathlib.Core.Bool.{Bool, true, false, ◌||◌, or-true, false≢true}
use mathlib.Core.List.{List, []}
use mathlib.Core.Option
use mathlib.Core.Option.{Option, none, some, Option-elim, get_or, some-injective}
use Prim.Native.Nat.{ℕ, ◌≤◌, ◌<◌}
use native.Mathlib.Omega.{arith}
use lib.Dec.{ltb}
use lib.ListN.{length, take, length-take}
use borrow.Author.Tests.{lt-ltb, le-ltb}
use Rattle.std.specs.Prelude.{Option as CodeOption, Some, None, Ok, Err, Result, is_ok}
use Rattle.std.specs.Result.{result_unwrap_or}
use Rattle.lists.specs.Choice.{choose, is_some}
use Rattle.lists.specs.Lists.{Bytes, written}
use Rattle.lines.specs.Hex.{read_hex}
use Rattle.lines.specs.Readings.{part_of}
use Rattle.lines.specs.Writing.{offset_after, put_at, offset_after_any, put_any}
use Rattle.lines.proofs.WritingLaws.{put_fits, put_over, put_some, written_nil}
use Rattle.rules.specs.Limits.{map_limit}
use Rattle.rules.specs.State.{MapEntry, State}
use Rattle.rules.specs.Response.{searched, monitored, target_of, Parts}
use Rattle.rules.specs.Kinds.{KindRules}
use Rattle.rules.specs.Search.{map_after_search, search_rules}
use Rattle.rules.specs.Monitoring.{map_after_monitoring}
use Rattle.rules.specs.Refusals.{Call, Judgement, refused, passed, tried, value_found, map_after, room_missing}
use Rattle.rules.specs.Calls.{number_of, next_state, value_of, written_first, output_after}
use Rattle.rules.proofs.KindLaws.{search-rules}
use Rattle.rules.proofs.NextStateLaws.{monitoring_map_lem, monitored_length}
use Rattle.inputs.specs.declared.response_lines.Finding.{Finding as FindingBlock}
use Rattle.inputs.specs.declared.response_lines.Finding.TheVariants.{Search, Monitor}
use Rattle.inputs.specs.declared.response_lines.Target.{Target as TargetBlock}
use Rattle.inputs.specs.declared.state.MonitoringMap.{MonitoringMap}
use Rattle.inputs.specs.declared.state.State.{State as StateBlock}
use Rattle.inputs.specs.declared.refusal.Refusal.{Refusal}
use Rattle.inputs.specs.declared.refusal.Refusal.TheVariants.{Room}
use Rattle.inputs.specs.Response.{parts_in}
use Rattle.inputs.specs.State.{block_of, contents, map_in}
use Rattle.inputs.proofs.FrontLaws.{offset-fits, offset-over}
use Rattle.inputs.proofs.PairLaws.{pairs_few}
use Rattle.checks.specs.declared.readings.Call.{Call as CallBlock}
use Rattle.checks.specs.declared.trial.Checked.{Checked}
use Rattle.checks.specs.declared.call.Accepted.{Accepted}
use Rattle.checks.specs.declared.call.Found.{Found}
use Rattle.checks.specs.Map.{IsMap, Holds, HoldsIfRoom, IsNewMap, pairs_in, put_version}
use Rattle.checks.specs.Calls.{block_after, version_of, answer_of, refused_answer, accepted_answer, answer_from}
use Rattle.checks.specs.Calls.{rules16, IsFirst, value_by, found_by}
use Rattle.checks.specs.Calls.{Accepting, IsAcceptedAnswer, AreAcceptedBytes}
use Rattle.checks.proofs.TargetLaws.{target_in, call-found, value-decoded, nothing-found}
use Rattle.checks.proofs.StateStructLaws.{stands_for, Struct, made, made_next}

-- ---- 16

-- where room lacks, the call is refused
room_refused : (c : Call) → room_missing c ≡ true → tried rules16 c ≡ refused 16
unfolding tried choose
room_refused c e = rw e refl

-- and else it is accepted
room_passed : (c : Call) → room_missing c ≡ false → tried rules16 c ≡ passed c
unfolding tried choose
room_passed c e = rw e refl

-- ---- the answer

-- it is the answer of a refused call
pub answer_refused : (b : StateBlock) (j : Judgement) (k : ℕ) → j ≡ refused k
    → refused_answer k b ≡ answer_of b j
unfolding answer_of number_of block_after version_of value_of is_some get_or
answer_refused b j k e = rw e refl

-- and leaves the output bytes
pub bytes_refused : (s : Bytes) (j : Judgement) (k : ℕ) → j ≡ refused k → s ≡ output_after s j
unfolding output_after value_of written_first Option-elim
bytes_refused s j k e = rw e refl

-- the bytes that a call finds; none where it finds no value
abbrev bytes_found : Call → Bytes
bytes_found c = get_or (value_found c) []

-- the answer of an accepted call, from what it found and the struct of its new state
answer_passed : (b : StateBlock) (c : Call) (j : Judgement) (new : StateBlock) (found : Bool) (version n : ℕ)
    → j ≡ passed c
    → new ≡ block_of (next_state c) → found ≡ is_some (value_found c) → version ≡ version_of (passed c)
    → n ≡ length (bytes_found c)
    → record { number = 0; state = new; found = found; version = version; length = n } ≡ answer_of b j
unfolding answer_of number_of block_after value_of
answer_passed b c j new found version n e s f v l = rw (e, s, f, v, l) refl

-- what is found stands in the output bytes
bytes_found_lem : (s : Bytes) (o : Option Bytes) → written s 0 (get_or o []) ≡ written_first s o
unfolding written_first Option-elim get_or
bytes_found_lem s none = written_nil s 0 (omega arith)
bytes_found_lem s (some v) = refl

-- where the call is accepted
bytes_passed : (s : Bytes) (c : Call) (j : Judgement) → j ≡ passed c
    → written s 0 (bytes_found c) ≡ output_after s j
unfolding output_after value_of
bytes_passed s c j e = rw e (bytes_found_lem s (value_found c))

-- ---- what a kind finds

-- whether a version is found
abbrev is_search : FindingBlock → Bool
is_search (Search t) = true
is_search Monitor = false

-- and which one; 0 where there is none
abbrev version_by : FindingBlock → ℕ
version_by (Search t) = t.version
version_by Monitor = 0

-- the value that is put, whether there is one, and its version
record Finds (text : Bytes) (finding : FindingBlock) (c : Call) : Type 0 where
  value : value_by text finding ≡ some (bytes_found c)
  found : is_search finding ≡ is_some (value_found c)
  version : version_by finding ≡ version_of (passed c)

-- a search has those of its target
search_finds : (c : Call) (text : Bytes) (t : TargetBlock) → c.parts.finding ≡ searched (target_in text t)
    → read_hex (part_of text t.value) ≡ some (target_in text t).value
    → Finds text (Search t) c
unfolding value_found target_of version_of Option.map get_or Option-elim is_some
search_finds c text t f e = record { value = rw f e; found = rw f refl; version = rw f refl }

-- monitoring has none
monitoring_finds : (c : Call) → c.parts.finding ≡ monitored → (text : Bytes) → Finds text Monitor c
unfolding value_found target_of version_of Option.map get_or Option-elim is_some
monitoring_finds c f text = record { value = rw f refl; found = rw f refl; version = rw f refl }

-- ---- what is written to the output bytes

module _ (text : Bytes) (finding : FindingBlock) (out : Bytes) where
  -- what is found, and the bytes then
  abbrev Puts : Result (CodeOption Found) Refusal → Bytes → Type 0
  Puts r out' =
      (r ≡ found_by finding (offset_after_any out 0 (value_by text finding)))
      × (out' ≡ put_any out 0 (value_by text finding))

  -- of a search, what its field encodes
  pub search-put : (t : TargetBlock) → finding ≡ Search t → (field : Bytes) → field ≡ part_of text t.value
      → (o : Option ℕ) (out' : Bytes)
      → (o ≡ offset_after_any out 0 (read_hex field)) → (out' ≡ put_any out 0 (read_hex field))
      → (r : Result (CodeOption Found) Refusal) → r ≡ found_by (Search t) o → Puts r out'
  search-put t e field is_field o out' h w r q = rw (e, ← is_field) (q ∙ ap (found_by (Search t)) h, w)

  -- of monitoring nothing
  pub nothing_put : finding ≡ Monitor → Puts (Ok None) out
  unfolding found_by
  nothing_put e =
      let (p, w) = put_some out 0 (value_by text Monitor) [] refl in
      let (q, v) = put_fits out 0 [] (omega arith) in
      let o : offset_after_any out 0 (value_by text Monitor) ≡ some 0 = p ∙ q in
      rw e (sym (ap (found_by Monitor) o), sym (w ∙ v ∙ written_nil out 0 (omega arith)))

-- what a kind finds, where something was written up to an offset
abbrev found_as : FindingBlock → ℕ → CodeOption Found
found_as (Search t) n = Some (record { version = t.version; length = n })
found_as Monitor n = None

-- it is found where there was room
found_was : (finding : FindingBlock) (o : Option ℕ) (f : CodeOption Found) → Ok f ≡ found_by finding o
    → (n : ℕ) × (o ≡ some n) × (f ≡ found_as finding n)
unfolding found_by
found_was finding none f e = absurd (false≢true (sym (ap is_ok e)))
found_was (Search t) (some n) f e = (n, refl, ap (λ (r : Result (CodeOption Found) Refusal). result_unwrap_or r f) e)
found_was Monitor (some n) f e = (n, refl, ap (λ (r : Result (CodeOption Found) Refusal). result_unwrap_or r f) e)

-- and else 16 is the answer
found_lacks : (finding : FindingBlock) (o : Option ℕ) (e : Refusal)
    → ◌≡◌ {A = Result (CodeOption Found) Refusal} (Err e) (found_by finding o) → (o ≡ none) × (e ≡ Room)
unfolding found_by
found_lacks finding none e q = (refl, ap (λ (r : Result (CodeOption Found) Refusal). error_or e r) q)
  where
    error_or : Refusal → Result (CodeOption Found) Refusal → Refusal
    error_or d (Ok f) = d
    error_or d (Err x) = x
found_lacks (Search t) (some n) e q = absurd (false≢true (ap is_ok q))
found_lacks Monitor (some n) e q = absurd (false≢true (ap is_ok q))

-- the answer, with what a kind finds
answer_found : (finding : FindingBlock) (n : ℕ) (new : StateBlock) → (finding ≡ Monitor → n ≡ 0)
    → accepted_answer new (found_as finding n)
    ≡ record { number = 0; state = new; found = is_search finding; version = version_by finding; length = n }
answer_found (Search t) n new h = refl
answer_found Monitor n new h = rw (h refl) refl

-- ---- the new map

module _ (finding : FindingBlock) (n : ℕ) (m : MonitoringMap) (position : ℕ) where
  -- of monitoring, moved
  pub monitoring-new : (r : MonitoringMap) → IsMap m → finding ≡ Monitor
      → Holds (map_after_monitoring n (pairs_in m)) r → IsNewMap finding n m position (Some r)
  monitoring-new r x e h = rw e (few, h)
    where
      few : length (map_after_monitoring n (pairs_in m)) ≤ map_limit
      few =
          let ps = take m.count m.positions in
          let vs = take m.count m.versions in
          omega (
            arith,
            x.few,
            monitored_length n (pairs_in m),
            pairs_few ps vs,
            length-take m.count m.positions,
          )

-- ---- a call to which none of 1 to 15 applies

module _ (text : Bytes) (k : CallBlock) (b : StateBlock) (r : Checked) (block : Bytes) where
  -- with some room for the value
  abbrev Passes : ℕ → Call → Type 0
  Passes room c = Accepting c text k b r block room

  module _ (c : Call) (room : ℕ) (g : Passes room c) where
    -- what it finds
    finds : (f : FindingBlock) → k.response.finding ≡ f → Finds text f c
    finds (Search t) e =
        search_finds c text t (call-found text k.response t e c g.parts)
        (value-decoded text k.response t e g.offsets.0)
    finds Monitor e = monitoring_finds c (nothing-found text k.response e c g.parts) text

    -- its pairs are those of the struct
    call-pairs : c.state.monitoring_map ≡ pairs_in b.map
    unfolding contents map_in
    call-pairs = ap (λ (s : State). s.monitoring_map) (stands_for b c.state g.state)

    -- the new map of a search is they with the version put to the position of the first complete
    -- entry
    map-put : (t : TargetBlock) → k.response.finding ≡ Search t
        → map_after c ≡ put_version r.position t.version (pairs_in b.map)
    unfolding map_after search_rules map_after_search Option-elim
    map-put t e =
        let (x, first, at) = subst (λ (y : FindingBlock). IsFirst y c r.position) e g.leaves.is_first in
        ap (λ (y : KindRules). y.map_after)
        (search-rules c (target_in text t) (call-found text k.response t e c g.parts))
        ∙ rw (first, ← at, call-pairs) refl

    -- that of monitoring is they moved
    map-moved : k.response.finding ≡ Monitor
        → map_after c ≡ map_after_monitoring k.response.tree_size (pairs_in b.map)
    unfolding parts_in
    map-moved e =
        monitoring_map_lem c (nothing-found text k.response e c g.parts)
        ∙ ap₂ map_after_monitoring (ap (λ (p : Parts). p.tree_size) g.parts) call-pairs

    -- the new map holds them, if it has room
    new-map : (f : FindingBlock) → k.response.finding ≡ f → (m : CodeOption MonitoringMap)
        → IsNewMap f k.response.tree_size b.map r.position m → HoldsIfRoom (map_after c) m
    new-map (Search t) e m n = subst (λ (es : List MapEntry). HoldsIfRoom es m) (sym (map-put t e)) n
    new-map Monitor e m n = subst (λ (es : List MapEntry). HoldsIfRoom es m) (sym (map-moved e)) n

  -- ---- the ways out

  module _ (x : Struct b) (out : Bytes) where
    -- the answer, and the output bytes
    abbrev Answers : Result Accepted Refusal → Bytes → Type 0
    Answers a out' =
        IsAcceptedAnswer text k b r block (length out) a × AreAcceptedBytes text k b r block out out'

    -- 16 is the answer
    sixteen : (out' : Bytes) → ((c : Call) → Passes (length out) c → out' ≡ out)
        → ((c : Call) → Passes (length out) c → room_missing c ≡ true) → Answers (Err Room) out'
    unfolding answer_from
    sixteen out' w e = (
      λ c g. answer_refused b (tried rules16 c) 16 (room_refused c (e c g)),
      λ c g. w c g ∙ bytes_refused out (tried rules16 c) 16 (room_refused c (e c g)),
    )

    -- the map has no room for one pair more
    pub map-full : IsNewMap k.response.finding k.response.tree_size b.map r.position None
        → Answers (Err Room) out
    unfolding room_missing
    map-full h = sixteen out (λ c g. refl) λ c g.
        rw (lt-ltb map_limit (length (map_after c)) (new-map c (length out) g k.response.finding refl None h))
        (or-true (ltb c.inputs.room (length (bytes_found c))))

    module _ (out' : Bytes) (w : out' ≡ put_any out 0 (value_by text k.response.finding))
      where
        -- the offset after what is written
        abbrev o : Option ℕ
        o = offset_after_any out 0 (value_by text k.response.finding)

        -- what is found is put
        found-put : (c : Call) → Passes (length out) c
            → (o ≡ offset_after out 0 (bytes_found c)) × (out' ≡ put_at out 0 (bytes_found c))
        found-put c g =
            let (a, d) = put_some out 0 (value_by text k.response.finding) (bytes_found c)
            (finds c (length out) g k.response.finding refl).value in
            (a, w ∙ d)

        -- the output bytes are too few
        pub output-full : (e : Refusal) → Err e ≡ found_by k.response.finding o → Answers (Err e) out'
        unfolding room_missing
        output-full e q =
            let (lacks, is_room) = found_lacks k.response.finding o e q in
            rw is_room
            (sixteen out'
            (λ c g. (found-put c g).1 ∙ (put_over out 0 (bytes_found c) (omega (arith, over lacks c g))).1)
            (λ c g. rw (lt-ltb c.inputs.room (length (bytes_found c)) (omega (arith, g.is_room, over lacks c g))) refl))
          where
            over : o ≡ none → (c : Call) → Passes (length out) c → length out < length (bytes_found c)
            over e c g = offset-over out (bytes_found c) (sym (found-put c g).0 ∙ e)

        -- there is room for both: the call is accepted
        pub both-fit : (m : MonitoringMap)
            → IsNewMap k.response.finding k.response.tree_size b.map r.position (Some m)
            → (found : CodeOption Found) → Ok found ≡ found_by k.response.finding o
            → Answers (Ok (record { state = made b k.response.tree_size r.timestamp block m; found = found })) out'
        unfolding room_missing parts_in answer_from
        both-fit m h found q = (λ c g. answer c g, λ c g. bytes c g)
          where
            n : ℕ
            n = (found_was k.response.finding o found q).0

            e : o ≡ some n
            e = (found_was k.response.finding o found q).1

            fits : (c : Call) → Passes (length out) c
                → (length (bytes_found c) ≤ length out) × (length (bytes_found c) ≡ n)
            fits c g = offset-fits out (bytes_found c) n (sym (found-put c g).0 ∙ e)

            go : (c : Call) → Passes (length out) c → tried rules16 c ≡ passed c
            go c g =
                let l = (new-map c (length out) g k.response.finding refl (Some m) h).0 in
                room_passed c (ap₂ ◌||◌
                (le-ltb c.inputs.room (length (bytes_found c)) (omega (arith, g.is_room, (fits c g).0)))
                (le-ltb map_limit (length (map_after c)) l))

            -- of monitoring nothing is written
            nothing : (c : Call) → Passes (length out) c → k.response.finding ≡ Monitor → n ≡ 0
            nothing c g h =
                let v : value_by text Monitor ≡ some (bytes_found c) =
                subst (λ (x : FindingBlock). value_by text x ≡ some (bytes_found c)) h
                (finds c (length out) g k.response.finding refl).value in
                sym (fits c g).1 ∙ ap length (some-injective _ _ (sym v))

            answer : (c : Call) → Passes (length out) c
                → accepted_answer (made b k.response.tree_size r.timestamp block m) found
                ≡ answer_of b (tried rules16 c)
            answer c g =
                let z = finds c (length out) g k.response.finding refl in
                let held = (new-map c (length out) g k.response.finding refl (Some m) h).1 in
                let size : k.response.tree_size ≡ c.parts.tree_size =
                sym (ap (λ (p : Parts). p.tree_size) g.parts) in
                let new = made b k.response.tree_size r.timestamp block m in
                ap (accepted_answer new) (found_was k.response.finding o found q).2
                ∙ answer_found k.response.finding n new (nothing c g)
                ∙ answer_passed b c (tried rules16 c) new (is_search k.response.finding)
                (version_by k.response.finding) n (go c g)
                (made_next b k.response.tree_size r.timestamp block m c
                (x.is_struct c.state g.state) size
                g.leaves.timestamp g.leaves.values held)
                z.found z.version (sym (fits c g).1)

            bytes : (c : Call) → Passes (length out) c → out' ≡ output_after out (tried rules16 c)
            bytes c g =
                (found-put c g).1 ∙ (put_fits out 0 (bytes_found c) (omega (arith, (fits c g).0))).1
                ∙ bytes_passed out c (tried rules16 c) (go c g)
