-- Laws of what is tried of a response before its steps, entries and nodes are looked at
-- (specs/Calls.antt): 6 to 8, test by test.
use mathlib.Core.Path.{◌≡◌, refl, sym, ◌∙◌, ap, subst}
use mathlib.Core.Bool.{Bool, true, false, not, ◌||◌, not-not}
use mathlib.Core.List.{List, [], ◌∷◌}
use mathlib.Core.Option.{Option, Option-elim, none, some, none-ne-some}
use Prim.Native.Nat.{ℕ, ◌+◌, ◌≤◌, ◌<◌}
use native.Mathlib.Omega.{arith}
use lib.Dec.{eqb, ltb}
use lib.ListN.{length, take, drop, get_or, replicate, length-replicate}
use borrow.Author.Tests.{le-ltb, ltb-false, not-true, not-false}
use Rattle.lists.specs.Choice.{is_some}
use Rattle.lists.specs.Lists.{Bytes, any, same}
use Rattle.lists.proofs.ChoiceLaws.{given_some, or_fails}
use Rattle.lists.proofs.ListLaws.{differ_same}
use Rattle.hash.proofs.BytesLaws.{take_padded}
use Rattle.lines.specs.Hex.{read_hex}
use Rattle.lines.specs.Readings.{part_of}
use Rattle.lines.specs.Writing.{offset_after_any, put_any}
use Rattle.lines.proofs.OffsetLaws.{at_cons, at_end}
use Rattle.lines.proofs.WritingLaws.{put_some, put_none}
use Rattle.rules.specs.Limits.{tree_size_limit, greatest_version}
use Rattle.rules.specs.State.{versions}
use Rattle.rules.specs.Response.{Target as TargetRead, searched, monitored, Parts, kind_of}
use Rattle.rules.specs.Kinds.{KindRules}
use Rattle.rules.specs.Search.{search_target_wrong, search_rules}
use Rattle.rules.specs.Monitoring.{monitoring_rules}
use Rattle.rules.specs.Refusals.{Call, rule, kind_asked, same_kind, foreign, size_wrong, target_wrong}
use Rattle.rules.proofs.KindLaws.{search-rules, monitoring-rules}
use Rattle.inputs.specs.declared.response_lines.Kind.{Kind}
use Rattle.inputs.specs.declared.response_lines.Kind.TheVariants.{Search, Monitor}
use Rattle.inputs.specs.declared.response_lines.Finding.{Finding as FindingBlock}
use Rattle.inputs.specs.declared.response_lines.Finding.TheVariants.{Search as Searched, Monitor as Monitored}
use Rattle.inputs.specs.declared.response.Response.{Response}
use Rattle.inputs.specs.declared.response_lines.Target.{Target as TargetBlock}
use Rattle.inputs.specs.ResponseLines.{kind_found}
use Rattle.inputs.specs.ResponseLines.{decoded}
use Rattle.inputs.specs.Response.{finding_in, parts_in, Fields}
use Rattle.inputs.proofs.FrontLaws.{put_first, offset-fits, offset-over}
use Rattle.std.specs.Prelude.{Option as CodeOption, Some, None}
use Rattle.std.specs.Option.{option_eq}
use Rattle.inputs.specs.contracts.response_lines.KindPartialEq.TheImpl.{eq-value}
use Rattle.checks.specs.declared.readings.Call.{Call as CallBlock}
use Rattle.checks.specs.Calls.{number_tried, rules6to8, asked_kind, kind_in, is_kind_asked, IsRequested}
use Rattle.checks.specs.Calls.{FoundKind, FitsTarget, IsNumber6to8}
use Rattle.checks.proofs.TrialLaws.{number-first, number-next, number_none}
use Rattle.checks.proofs.TargetLaws.{target_in, call-found}

-- ---- 6: a field encodes certain bytes

-- a byte string that was put into zeros is one that was read, and stands there from the front
placed : (n stop : ℕ) (o : Option Bytes) → offset_after_any (replicate n 0) 0 o ≡ some stop → (b : Bytes) × (o ≡ some b) × (length b ≡ stop) × (stop ≤ n)
placed n stop none e = absurd (none-ne-some stop (sym (put_none (replicate n 0) 0 none refl).0 ∙ e))
placed n stop (some b) e =
    let (h, l) = offset-fits (replicate n 0) b stop (sym (put_some (replicate n 0) 0 (some b) b refl).0 ∙ e) in
    (b, refl, l, omega (arith, h, l, length-replicate {A = ℕ} n 0))

module _ (n : ℕ) (o : Option Bytes) where
  -- what is put into the room is no longer than it
  pub put-within : (stop : ℕ) → offset_after_any (replicate n 0) 0 o ≡ some stop → stop ≤ n
  put-within stop e = (placed n stop o e).3

  -- where it was put, it is compared with the bytes
  pub decoded-put : (bytes room : Bytes) (stop : ℕ) → offset_after_any (replicate n 0) 0 o ≡ some stop → room ≡ put_any (replicate n 0) 0 o
      → same (take stop room) bytes ≡ Option-elim o false (λ (b : Bytes). same b bytes)
  unfolding Option-elim
  decoded-put bytes room stop e r =
      let (b, q, l, h) = placed n stop o e in
      let p : take stop room ≡ b = ap (take stop) (r ∙ put_first n o b q (omega arith)) ∙ take_padded n stop b l in
      ap (λ (x : Bytes). same x bytes) p ∙ ap (λ (x : Option Bytes). Option-elim x false (λ (b : Bytes). same b bytes)) (sym q)

-- where it was not, it is none, or too long to be the bytes
pub decoded_unput : (n : ℕ) (o : Option Bytes) (bytes : Bytes) → length bytes ≤ n → offset_after_any (replicate n 0) 0 o ≡ none
    → false ≡ Option-elim o false (λ (b : Bytes). same b bytes)
unfolding Option-elim
decoded_unput n none bytes h e = refl
decoded_unput n (some b) bytes h e =
    let t = offset-over (replicate n 0) b (sym (put_some (replicate n 0) 0 (some b) b refl).0 ∙ e) in
    let l : length bytes < length b = omega (arith, t, h, length-replicate {A = ℕ} n 0) in
    sym (differ_same b bytes λ q. let z = ap length q in absurd (omega arith))

-- the byte string that a field encodes is the one that is read of it
decoded_same : (field f bytes : Bytes) → field ≡ f → is_some (read_hex f) ≡ true
    → Option-elim (read_hex field) false (λ (b : Bytes). same b bytes) ≡ same (decoded f) bytes
unfolding decoded Option-elim
decoded_same field f bytes w g = let (b, e) = given_some (read_hex f) g in rw (w, e) refl

-- ---- 6: the response is that of the call

-- a kind is asked for where the test says so
pub asked_kinds : (k : Kind) (asked : CodeOption Kind) → Option-elim (asked_kind asked) false (same_kind (kind_in k)) ≡ is_kind_asked k asked
unfolding asked_kind is_kind_asked same_kind kind_in Option-elim
asked_kinds Search (Some Search) = refl
asked_kinds Search (Some Monitor) = refl
asked_kinds Search None = refl
asked_kinds Monitor (Some Search) = refl
asked_kinds Monitor (Some Monitor) = refl
asked_kinds Monitor None = refl

-- the code's equality of kinds is that test
pub kinds_equal : (k : Kind) (asked : CodeOption Kind) → option_eq eq-value.it asked (Some k) ≡ is_kind_asked k asked
unfolding is_kind_asked
kinds_equal Search (Some Search) = refl
kinds_equal Search (Some Monitor) = refl
kinds_equal Search None = refl
kinds_equal Monitor (Some Search) = refl
kinds_equal Monitor (Some Monitor) = refl
kinds_equal Monitor None = refl

-- what was found is of the kind of the response
found_kind : (text : Bytes) (f : FindingBlock) → kind_of (finding_in text f) ≡ kind_in (kind_found f)
unfolding kind_of kind_in finding_in
found_kind text (Searched t) = refl
found_kind text Monitored = refl

-- a response is of the kind asked for
kind_test : (text : Bytes) (r : Response) (asked : CodeOption Kind) (kind : Kind) → kind ≡ kind_found r.finding
    → (c : Call) → c.parts ≡ parts_in text r → c.inputs.kind ≡ asked_kind asked → kind_asked c ≡ is_kind_asked kind asked
unfolding kind_asked parts_in
kind_test text r asked kind is_kind c p q =
    rw (q, p, found_kind text r.finding, is_kind) (asked_kinds (kind_found r.finding) asked)

module _ (text : Bytes) (r : Response) (asked : CodeOption Kind) (identifier label : Bytes) (kind : Kind)
    (is_kind : kind ≡ kind_found r.finding)
  where
    -- one of another kind is not that of the call
    pub kind_foreign : is_kind_asked kind asked ≡ false → IsRequested asked text r identifier label false
    unfolding foreign
    kind_foreign e c p q i l = rw (kind_test text r asked kind is_kind c p q ∙ e) refl

    module _ (f : Fields text r) (k : is_kind_asked kind asked ≡ true) (field : Bytes)
        (w : field ≡ part_of text r.identifier)
      where
        -- nor is one with another identifier
        pub identifier-foreign : Option-elim (read_hex field) false (λ (b : Bytes). same b identifier) ≡ false
            → IsRequested asked text r identifier label false
        unfolding foreign parts_in
        identifier-foreign e c p q i l =
            let z : same (decoded (part_of text r.identifier)) identifier ≡ false =
            sym (decoded_same field _ identifier w f.identifier) ∙ e in
            rw (kind_test text r asked kind is_kind c p q ∙ k, p, i, z) refl

        -- with the same identifier, the label decides
        pub label-decides : Option-elim (read_hex field) false (λ (b : Bytes). same b identifier) ≡ true
            → (t : Bool) (g : Bytes) → g ≡ part_of text r.label
            → t ≡ Option-elim (read_hex g) false (λ (b : Bytes). same b label)
            → IsRequested asked text r identifier label t
        unfolding foreign parts_in
        label-decides e t g v d c p q i l =
            let z : same (decoded (part_of text r.identifier)) identifier ≡ true =
            sym (decoded_same field _ identifier w f.identifier) ∙ e in
            let y : same (decoded (part_of text r.label)) label ≡ t = sym (decoded_same g _ label v f.label) ∙ sym d in
            rw (kind_test text r asked kind is_kind c p q ∙ k, p, i, l, z, y) (sym (not-not t))

-- ---- 7: the size

-- the size of a response decides, and the kept one
size_test : (text : Bytes) (r : Response) (size : ℕ) (c : Call) → c.parts ≡ parts_in text r → c.state.log.size ≡ size
    → size_wrong c ≡ (eqb r.tree_size 0 || ltb tree_size_limit r.tree_size || ltb r.tree_size size)
unfolding size_wrong parts_in
size_test text r size c p s = rw (p, s) refl

-- ---- 8: the version

-- what was found is of the kind of the response, with its version
found_target : (text : Bytes) (f : FindingBlock) → FoundKind f (finding_in text f)
unfolding finding_in
found_target text (Searched t) = (_, refl, refl)
found_target text Monitored = refl

-- so what fits it fits the call
target_test : (text : Bytes) (r : Response) (map : List ℕ) (b : Bool) (c : Call) → FitsTarget r.finding map b
    → c.parts ≡ parts_in text r → versions c.state.monitoring_map ≡ map → b ≡ not (target_wrong c)
unfolding parts_in
target_test text r map b c h p m =
    h c (subst (λ (x : Parts). FoundKind r.finding x.finding) (sym p) (found_target text r.finding)) m

-- in a search the version decides, and those of the map
search_wrong : (c : Call) (t : TargetRead) → c.parts.finding ≡ searched t
    → target_wrong c ≡ (ltb greatest_version t.version || any (λ (v : ℕ). ltb t.version v) (versions c.state.monitoring_map))
unfolding target_wrong search_rules search_target_wrong
search_wrong c t f = ap (λ (k : KindRules). k.target_wrong) (search-rules c t f)

-- monitoring has none
monitoring_right : (c : Call) → c.parts.finding ≡ monitored → target_wrong c ≡ false
unfolding target_wrong monitoring_rules
monitoring_right c f = ap (λ (k : KindRules). k.target_wrong) (monitoring-rules c f)

module _ (finding : FindingBlock) (map : List ℕ) where
  pub search-fits : (s : TargetBlock) → finding ≡ Searched s → (b : Bool)
      → b ≡ not (ltb greatest_version s.version || any (λ (v : ℕ). ltb s.version v) map) → FitsTarget finding map b
  search-fits s k b e c g m =
      let (t, q, v) : FoundKind (Searched s) c.parts.finding =
      subst (λ (x : FindingBlock). FoundKind x c.parts.finding) k g in
      let w : target_wrong c ≡ (ltb greatest_version s.version || any (λ (v : ℕ). ltb s.version v) map) =
      rw (← v, ← m) (search_wrong c t q) in
      e ∙ ap not (sym w)

  pub monitor-fits : finding ≡ Monitored → FitsTarget finding map true
  monitor-fits k c g m =
      let q : FoundKind Monitored c.parts.finding = subst (λ (x : FindingBlock). FoundKind x c.parts.finding) k g in
      ap not (sym (monitoring_right c q))

-- the version of a search to which 8 does not apply is one that can be searched for
pub version_possible : (text : Bytes) (r : Response) (c : Call) → c.parts ≡ parts_in text r → target_wrong c ≡ false
    → (t : TargetBlock) → r.finding ≡ Searched t → t.version ≤ greatest_version
version_possible text r c p e t k =
    let w = search_wrong c (target_in text t) (call-found text r t k c p) in
    ltb-false greatest_version t.version (or_fails _ _ (sym w ∙ e)).0

module _ (f : ℕ → Bool) (xs : List ℕ) (i : ℕ) where
  -- an element of which a test does not hold is passed over
  pub any_next : i < length xs → f (get_or xs i 0) ≡ false → any f (drop (i + 1) xs) ≡ any f (drop i xs)
  unfolding any
  any_next h e = rw (at_cons xs i h, e) refl

  -- at an element of which it holds, it holds of one
  pub any-stops : i < length xs → f (get_or xs i 0) ≡ true → any f (drop i xs) ≡ true
  unfolding any
  any-stops h e = rw (at_cons xs i h, e) refl

  -- where no element is left, it holds of none
  pub any-ends : length xs ≤ i → any f (drop i xs) ≡ false
  unfolding any
  any-ends h = rw (at_end xs i h) refl

module _ (version : ℕ) (vs : List ℕ) where
  -- of others those of the map decide
  pub versions-decide : (b : Bool) → version ≤ greatest_version → any (λ (v : ℕ). ltb version v) vs ≡ b
      → not b ≡ not (ltb greatest_version version || any (λ (v : ℕ). ltb version v) vs)
  versions-decide b h e = rw (le-ltb greatest_version version h, e) refl

-- ---- the first number

module _ (asked : CodeOption Kind) (text : Bytes) (k : CallBlock) (identifier label : Bytes) (map : List ℕ) where
  -- the response
  abbrev r : Response
  r = k.response

  -- a number is that of the call
  abbrev First : ℕ → Type 0
  First n = IsNumber6to8 asked text k identifier label map n

  -- the test of the size
  abbrev size_fits : Bool
  size_fits = not (eqb r.tree_size 0 || ltb tree_size_limit r.tree_size || ltb r.tree_size k.kept_size)

  -- a response that is not that of the call
  pub first-foreign : IsRequested asked text r identifier label false → First 6
  first-foreign o c p s q i l m = number-first 6 foreign _ c (not-false _ (sym (o c p q i l)))

  module _ (o : IsRequested asked text r identifier label true) where
    -- one with a wrong size
    pub first-size : false ≡ size_fits → First 7
    first-size w c p s q i l m =
        number-first 7 size_wrong _ c (size_test text r k.kept_size c p s ∙ not-false _ (sym w))
        ∙ number-next 6 foreign _ c (not-true _ (sym (o c p q i l)))

    module _ (w : true ≡ size_fits) where
      -- of others the target decides
      target_first : (c : Call) → c.parts ≡ parts_in text r → c.state.log.size ≡ k.kept_size
          → c.inputs.kind ≡ asked_kind asked → c.inputs.identifier ≡ identifier → c.state.label ≡ label
          → number_tried (rule 8 target_wrong ∷ []) c ≡ number_tried rules6to8 c
      target_first c p s q i l =
          number-next 7 size_wrong _ c (size_test text r k.kept_size c p s ∙ not-true _ (sym w))
          ∙ number-next 6 foreign _ c (not-true _ (sym (o c p q i l)))

      -- one with a wrong version
      pub first-version : FitsTarget r.finding map false → First 8
      first-version v c p s q i l m =
          number-first 8 target_wrong _ c (not-false _ (sym (target_test text r map false c v p m))) ∙ target_first c p s q i l

      -- one to which none of the three applies
      pub first_none : FitsTarget r.finding map true → First 0
      first_none v c p s q i l m =
          number_none c ∙ number-next 8 target_wrong _ c (not-true _ (sym (target_test text r map true c v p m)))
          ∙ target_first c p s q i l
