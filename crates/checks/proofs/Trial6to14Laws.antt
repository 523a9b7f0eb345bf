-- Laws of refusals 6 to 14 (specs/Calls.antt), tried one part after the other.
use mathlib.Core.Path.{◌≡◌, refl, sym, ap, ◌∙◌}
use mathlib.Core.Bool.{true, false, not}
use mathlib.Core.List.{List, [], ◌++◌}
use mathlib.Core.Option.{none, some}
use Prim.Native.Nat.{ℕ, ◌≤◌}
use native.Mathlib.Omega.{arith}
use lib.Count.{ones}
use lib.ListN.{length, take}
use lib.Seq.{length-take-le}
use Rattle.lists.specs.Lists.{Bytes, runs}
use Rattle.lines.specs.Readings.{part_of}
use Rattle.tree.specs.LogText.{nodes_in as nodes_there}
use Rattle.tree.specs.LogHead.{Head, known_in, log_head, head_with}
use Rattle.tree.specs.declared.log_head.LogHead.{LogHead}
use Rattle.rules.specs.Limits.{label_limit, hash_length}
use Rattle.rules.specs.State.{versions}
use Rattle.rules.specs.Response.{Parts}
use Rattle.rules.specs.ResponseText.{read_response}
use Rattle.rules.specs.Refusals.{Call, checks, target_wrong, not_as_asked, output_missing, last_timestamp}
use Rattle.rules.specs.Refusals.{history_differs}
use Rattle.rules.proofs.RefusalLaws.{NoneApplies}
use Rattle.rules.proofs.AcceptedLaws.{requested-was, size-was}
use Rattle.inputs.specs.declared.response_lines.Kind.{Kind as KindBlock}
use Rattle.inputs.specs.declared.response_lines.Finding.{Finding as FindingBlock}
use Rattle.inputs.specs.declared.response_lines.Finding.TheVariants.{Search, Monitor}
use Rattle.inputs.specs.declared.state.State.{State as StateBlock}
use Rattle.inputs.specs.State.{map_of}
use Rattle.inputs.specs.Response.{parts_in}
use Rattle.inputs.proofs.PairLaws.{map_versions}
use Rattle.std.specs.Prelude.{Option as CodeOption, Ok, Err, Result}
use Rattle.inputs.specs.declared.refusal.Refusal.{Refusal}
use Rattle.inputs.specs.declared.refusal.Refusal.TheVariants.{FullSubtree}
use Rattle.inputs.specs.Refusal.{refusal_number}
use Rattle.checks.specs.declared.readings.Call.{Call as CallBlock}
use Rattle.checks.specs.declared.trial.Tried.{Tried}
use Rattle.checks.specs.declared.trial.Checked.{Checked}
use Rattle.checks.specs.Calls.{IsCall, asked_kind, entries_text, number_tried, rules6to8, rules9to11}
use Rattle.checks.specs.Calls.{rules12and13, rules14, rules9to13, rules6to13, IsNumber6to8, TargetFits}
use Rattle.checks.specs.Calls.{Shapeable, Tells, Passed, Leaves}
use Rattle.checks.specs.Calls.{IsFirst, Is9to13Tried, Is14Tried, Checkable, Is6to13Tried}
use Rattle.checks.proofs.TrialLaws.{Numbered, none_applies, number-first, number-next, number_none}
use Rattle.checks.proofs.TrialLaws.{number_front, number_rest, refusal_numbered, refused_front, told_rest}
use Rattle.checks.proofs.TargetLaws.{target-lengths}
use Rattle.checks.proofs.RequestLaws.{version_possible}
use Rattle.checks.proofs.HeadCallLaws.{head_of, head-shown}
use Rattle.checks.proofs.ShapeTrialLaws.{entries_were}

-- no rule has the number 0
numbered6to8 : Numbered rules6to8
numbered6to8 = omega arith

numbered9to11 : Numbered rules9to11
numbered9to11 = omega arith

numbered6to13 : Numbered rules6to13
numbered6to13 = omega arith

-- ---- 9 to 13

module _ (text : Bytes) (k : CallBlock) (label : Bytes) (ps vs : List ℕ) (outputs : Bytes) where
  -- what comes of 9 to 13
  abbrev Told : Result Tried Refusal → Type 0
  Told r = Is9to13Tried text k label ps vs outputs r

  -- refused with 9 to 11
  pub tried-refused : (e : Refusal)
      → ((c : Call) → IsCall c k text outputs → c.state.monitoring_map ≡ map_of ps vs
      → refusal_number e ≡ number_tried rules9to11 c)
      → Told (Err e)
  tried-refused e h c i l m = refused_front Tried rules9to11 rules12and13 c e (Passed c k) (h c i m)

  -- `Stand` is what 9 to 11 leave of the commitments, and 12 and 13 ask for
  module _ (Stand : Call → Type 0) where
    -- 9 to 11
    abbrev TriedBy : Result ℕ Refusal → Type 0
    TriedBy shown =
        (c : Call) → IsCall c k text outputs → c.state.monitoring_map ≡ map_of ps vs
        → Tells shown rules9to11 c (λ t. (t ≡ last_timestamp c) × Stand c)

    -- 12 and 13
    abbrev JudgedBy : Result ℕ Refusal → Type 0
    JudgedBy judged =
        (c : Call) → IsCall c k text outputs → c.parts.label ≡ label → not_as_asked c ≡ false
        → output_missing c ≡ false → Stand c
        → Tells judged rules12and13 c (IsFirst k.response.finding c)

    module _ (timestamp : ℕ) (h : TriedBy (Ok timestamp)) where
      -- none of 9 to 11 applies
      none9to11 : (c : Call) → IsCall c k text outputs → c.state.monitoring_map ≡ map_of ps vs
          → NoneApplies rules9to11 c
      none9to11 c i m = none_applies rules9to11 c numbered9to11 (h c i m).0

      -- so 12 and 13 are left, and refuse
      pub judged-refused : (e : Refusal) → JudgedBy (Err e) → Told (Err e)
      judged-refused e g c i l m =
          let none = none9to11 c i m in
          let (told, _) = g c i l none.0 none.1.0 (h c i m).1.1 in
          told_rest Tried rules9to11 rules12and13 c (Err e) (Passed c k) none (told, tt)

      -- or do not
      pub judged-passed : (position : ℕ) → JudgedBy (Ok position)
          → Told (Ok (record { position = position; timestamp = timestamp }))
      judged-passed position g c i l m =
          let none = none9to11 c i m in
          let (told, is_first) = g c i l none.0 none.1.0 (h c i m).1.1 in
          let t : Tried = record { position = position; timestamp = timestamp } in
          told_rest Tried rules9to11 rules12and13 c (Ok t) (Passed c k) none
          (told, record { is_first = is_first; timestamp = (h c i m).1.0 })

-- ---- 14

module _ (text : Bytes) (k : CallBlock) (t : Tried) (kept s nodes : Bytes)
    (is_entries : s ≡ entries_text text k) (is_nodes : nodes ≡ part_of text k.response.nodes.part)
    (h : LogHead) (block : Bytes)
    (is_head : head_with block h
    ≡ log_head k.response.tree_size (known_in s k.kept_size kept) (nodes_there nodes))
  where
    -- 14 applies where the kept values are not met
    fourteen : (c : Call) → head_with block h ≡ head_of c → history_differs c ≡ not h.met
    unfolding history_differs
    fourteen c e = ap (λ (y : Head). not y.met) (sym e)

    -- refused
    pub head-refused : h.met ≡ false → Is14Tried text k t kept (Err FullSubtree) block
    head-refused f c ps vs outputs i p nine passed v =
        let is = head-shown p c i (entries_were c nine) s nodes kept is_entries is_nodes v _ is_head in
        (number-first 14 history_differs [] c (fourteen c is ∙ ap not f), tt)

    -- not refused
    pub head_passed : h.met ≡ true
        → Is14Tried text k t kept
        (Ok (record { position = t.position; timestamp = t.timestamp; root = h.root })) block
    head_passed f c ps vs outputs i p nine passed v =
        let is = head-shown p c i (entries_were c nine) s nodes kept is_entries is_nodes v _ is_head in (
          number_none c ∙ number-next 14 history_differs [] c (fourteen c is ∙ ap not f),
          record {
            is_first = passed.is_first;
            timestamp = passed.timestamp;
            root = ap (λ (y : Head). y.root) is;
            values = ap (λ (y : Head). y.values) is;
          },
        )

-- ---- 6 to 8

-- where 8 does not apply, the target of a search fits
target_fits : (text : Bytes) (k : CallBlock) → read_response text ≡ some (parts_in text k.response)
    → (c : Call) → c.parts ≡ parts_in text k.response → target_wrong c ≡ false
    → TargetFits text k.response.finding
target_fits text k read c p e = go k.response.finding refl
  where
    go : (x : FindingBlock) → k.response.finding ≡ x → TargetFits text x
    go (Search t) q =
        let (o, v) = target-lengths text k.response t q read in
        (version_possible text k.response c p e t q, o, v)
    go Monitor q = tt

module _ {text : Bytes} {k : CallBlock} {identifier : Bytes} {b : StateBlock} {outputs : Bytes}
    (x : Checkable text k identifier b outputs)
  where
    -- the label, and the pairs
    abbrev label : Bytes
    label = take b.label.length b.label.bytes

    abbrev positions : List ℕ
    positions = take b.map.count b.map.positions

    abbrev versions' : List ℕ
    versions' = take b.map.count b.map.versions

    -- the label is not too long
    pub label-fits : length label ≤ label_limit
    label-fits = omega (arith, x.label_fits, length-take-le b.label.length b.label.bytes x.label_within)

    -- a response to which none of 6 to 8 applies can be tried further
    possible : (c : Call) → c.parts ≡ parts_in text k.response → c.state.log.size ≡ k.kept_size
        → NoneApplies rules6to8 c → Shapeable text k positions versions' outputs
    unfolding parts_in
    possible c p s (_, (grown, (d, _))) =
        let n : c.parts.tree_size ≡ k.response.tree_size = ap (λ (y : Parts). y.tree_size) p in
        let (u, v, w) = size-was c grown in
        record {
          triable =
              record {
                offsets = x.offsets;
                short = x.short;
                outputs = x.outputs;
                target = target_fits text k x.read c p d;
              };
          nonempty = omega (arith, n, u);
          largest = omega (arith, n, v);
          grown = omega (arith, n, s, w);
          pairs = x.pairs;
        }

    module _ (asked : CodeOption KindBlock) (n : ℕ)
        (h : IsNumber6to8 asked text k identifier label versions' n)
      where
        -- what comes of 6 to 13
        abbrev Whole : Result Tried Refusal → Type 0
        Whole r =
            Is6to13Tried asked text k identifier b outputs r

        -- the number is that of a call with these parts and this state
        number-told : (c : Call) → c.parts ≡ parts_in text k.response
            → c.state.log.size ≡ k.kept_size → c.inputs.kind ≡ asked_kind asked
            → c.inputs.identifier ≡ identifier
            → c.state.label ≡ label
            → c.state.monitoring_map ≡ map_of positions versions'
            → n ≡ number_tried rules6to8 c
        number-told c p s q i l m = h c p s q i l (ap versions m ∙ map_versions _ _ x.pairs.alike)

        -- refused with 6 to 8
        pub first-refused : (e : Refusal) → n ≡ refusal_number e → Whole (Err e)
        first-refused e w c i q d l m =
            refused_front Tried rules6to8 rules9to13 c e (Passed c k)
            (sym w ∙ number-told c i.parts i.size q d l m)

        module _ (w : n ≡ 0) where
          -- what is left of 6 to 13 are 9 to 13
          pub first-passed : (r : Result Tried Refusal)
              → Is9to13Tried text k label positions versions' outputs r
              → Whole r
          first-passed r g c i q d l m =
              let told = number-told c i.parts i.size q d l m in
              let none6to8 = none_applies rules6to8 c numbered6to8 (sym w ∙ told) in
              told_rest Tried rules6to8 rules9to13 c r (Passed c k) none6to8
              (g c i ((requested-was c none6to8.0).1 ∙ l) m)

          -- a call with these parts and this state
          blank : Call
          blank =
              record {
                inputs =
                    record {
                      limit = 0;
                      kind = asked_kind asked;
                      response = text;
                      configuration = [];
                      identifier = identifier;
                      clock = 0;
                      vrf_outputs = outputs;
                      signed_text = [];
                      room = 0;
                    };
                configuration =
                    record {
                      suite = 0;
                      mode = 0;
                      signature_key = [];
                      vrf_key = [];
                      max_ahead = 0;
                      max_behind = 0;
                      monitoring_window = 0;
                      maximum_lifetime = none;
                    };
                state =
                    record {
                      label = label;
                      log = record { size = k.kept_size; timestamp = k.kept_timestamp; values = [] };
                      monitoring_map = map_of positions versions';
                    };
                outputs = [];
                parts = parts_in text k.response;
              }

          -- the response can be tried further
          pub first-possible : Shapeable text k positions versions' outputs
          unfolding blank
          first-possible =
              let told = number-told blank refl refl refl refl refl refl in
              possible blank refl refl (none_applies rules6to8 blank numbered6to8 (sym w ∙ told))

    -- ---- 6 to 14

    module _ (asked : CodeOption KindBlock) (c : Call) (i : IsCall c k text outputs)
        (q : c.inputs.kind ≡ asked_kind asked) (d : c.inputs.identifier ≡ identifier)
        (l : c.state.label ≡ label)
        (m : c.state.monitoring_map ≡ map_of positions versions')
      where
        -- what 6 to 13 say
        abbrev SixTo13 : Result Tried Refusal → Type 0
        SixTo13 r =
            Is6to13Tried asked text k identifier b outputs r

        -- 6 to 14 are those of the two parts
        checks-parts : number_tried (rules6to13 ++ rules14) c ≡ number_tried checks c
        unfolding checks
        checks-parts = refl

        -- refused with 6 to 13
        pub lines-refused : (e : Refusal) → SixTo13 (Err e) → refusal_number e ≡ number_tried checks c
        lines-refused e g =
            number_front rules6to13 rules14 c (refusal_number e) (g c i q d l m).0 (refusal_numbered e)
            ∙ checks-parts

        -- what is left of 6 to 14 is 14
        pub lines-passed : (t : Tried) → SixTo13 (Ok t) → (kept : Bytes)
            → c.state.log.values ≡ runs (ones k.kept_size) hash_length kept → (r : Result Checked Refusal)
            → (block : Bytes) → Is14Tried text k t kept r block → Tells r checks c (λ x. Leaves c k x block)
        lines-passed t g kept v r block h =
            let (e, f) = g c i q d l m in
            let none = none_applies rules6to13 c numbered6to13 e in
            let (six, (seven, (eight, (nine, _)))) = none in
            let p = possible c i.parts i.size (six, (seven, (eight, tt))) in
            let (a, b) = h c _ _ outputs i p nine f v in
            (a ∙ number_rest rules6to13 rules14 c none ∙ checks-parts, b)
