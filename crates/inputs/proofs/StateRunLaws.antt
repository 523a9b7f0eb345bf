-- Laws of lines of one kind that follow each other in a state's text (specs/StateReader.antt).
-- While they are read, the values so far and those of the lines from the offset on are together the
-- values of all that lead; where no further line leads, the values so far are all.
use mathlib.Core.Path.{◌≡◌, refl, sym, ◌∙◌, ap}
use mathlib.Core.Logic.{◌⊎◌, inl, inr}
use mathlib.Core.List.{List, [], ◌∷◌, ◌++◌, map, flatten, append_assoc, append-nil, map-append}
use mathlib.Core.Option.{Option, none, some, some-injective}
use Prim.Native.Nat.{ℕ, ◌+◌, ◌-◌, ◌*◌, ◌≤◌, ◌<◌}
use native.Mathlib.Decide.{dec_lt}
use native.Mathlib.Omega.{arith}
use lib.ListN.{length, take, drop, set, replicate, length-append, length-map}
use borrow.Author.Tests.{eqb-true}
use Rattle.lists.specs.Lists.{Bytes}
use Rattle.lists.proofs.ChoiceLaws.{bind_some}
use Rattle.lines.specs.Line.{Read, ended_lines, open_rest, read_line, leading}
use Rattle.lines.specs.Writing.{put_at}
use Rattle.lines.proofs.LineLaws.{line_read, leading-some}
use Rattle.lines.proofs.SectionLaws.{LineHere}
use Rattle.tree.specs.LogHead.{level_limit}
use Rattle.rules.specs.Limits.{hash_length, map_limit, values_block_length}
use Rattle.rules.specs.State.{MapEntry, positions, versions}
use Rattle.rules.specs.StateText.{keep_form, read_keep, read_pair}
use Rattle.inputs.specs.declared.state.MonitoringMap.{MonitoringMap}
use Rattle.inputs.specs.TextLine.{read_from}
use Rattle.inputs.specs.StateReader.{front, with_pair, KeepsFrom, PairsFrom}
use Rattle.inputs.proofs.TextLineLaws.{from-was, none-leads}
use Rattle.inputs.proofs.FrontLaws.{front-nil, length_front, front-set, front-put}

-- ---- leading lines

module _ {A : Type 0} (read : Bytes → Option A) (s : Bytes) where
  -- from one offset to another stand leading lines, which give these values
  pub record Led (from at : ℕ) (xs : List A) : Type 0 where
    pub lines : leading read (ended_lines (drop from s)) ≡ (xs ++ (leading read (ended_lines (drop at s))).0, (leading read (ended_lines (drop at s))).1)
    pub rest : open_rest (drop from s) ≡ open_rest (drop at s)

  -- none stand from an offset to itself
  led-start : (from : ℕ) → Led from from []
  led-start from = record { lines = refl; rest = refl }

  module _ (at stop next : ℕ) (h : LineHere s at stop next) where
    -- a line that is read leads up to the next
    led-next : (from : ℕ) (xs : List A) (a : A) → Led from at xs → read (take (stop - at) (drop at s)) ≡ some a → Led from next (xs ++ a ∷ [])
    led-next from xs a c e =
        let l = leading-some read (take (stop - at) (drop at s)) (ended_lines (drop next s)) a e in
        record {
          lines = c.lines ∙ rw (h.lines, l, append_assoc xs (a ∷ []) (leading read (ended_lines (drop next s))).0) refl;
          rest = c.rest ∙ h.rest;
        }

  -- where none leads, the lines before were all that lead
  led-stop : (from at : ℕ) (xs : List A) → Led from at xs → read_from read s at ≡ none → leading read (ended_lines (drop from s)) ≡ (xs, ended_lines (drop at s))
  led-stop from at xs c e = c.lines ∙ rw (none-leads read s at e, append-nil xs) refl

-- ---- the `keep` lines

-- a value of a `keep` line has 32 bytes
pub keep_length : (l v : Bytes) → read_keep l ≡ some v → length v ≡ hash_length
unfolding read_keep
keep_length l v e =
    let (x, r, q) = bind_some (read_line keep_form l) (λ (x : Read keep_form). some x.0) v e in
    let i : x.0 ≡ v = some-injective x.0 v q in
    let f = (line_read keep_form l x r).1 in
    rw (← i) (eqb-true (length x.0) hash_length f.0.0)

-- to join one list more
flatten_snoc : (vs : List Bytes) (v : Bytes) → flatten (vs ++ v ∷ []) ≡ flatten vs ++ v
unfolding flatten
flatten_snoc [] v = append-nil v
flatten_snoc (u ∷ vs) v = ap (λ (t : Bytes). u ++ t) (flatten_snoc vs v) ∙ sym (append_assoc u (flatten vs) v)

-- the `keep` lines from an offset to another: their number, and the block of the first of their
-- values
pub record KeepsTo (s : Bytes) (from at count : ℕ) (values : List ℕ) : Type 0 where
  pub taken : List Bytes
  pub led : Led read_keep s from at taken
  pub counted : count ≡ length taken
  pub joined : length (flatten taken) ≡ hash_length * count
  pub stored : values ≡ front values_block_length (flatten taken)

module _ (s : Bytes) (from : ℕ) where
  -- at first there is none
  pub keeps-start : KeepsTo s from from 0 (replicate values_block_length 0)
  unfolding flatten
  keeps-start = record { taken = []; led = led-start read_keep s from; counted = refl; joined = refl; stored = front-nil values_block_length }

  module _ (at count : ℕ) (values : List ℕ) (k : KeepsTo s from at count values) where
    -- a line with a value is one more
    pub keeps-next : (v : Bytes) (next : ℕ) → read_from read_keep s at ≡ some (v, next)
        → KeepsTo s from next (count + 1) (put_at values (hash_length * count) v)
    keeps-next v next e =
        let h = from-was read_keep s at v next e in
        let n = keep_length (take (h.stop - at) (drop at s)) v h.reads in
        let c = k.counted in
        let j = k.joined in
        record {
          taken = k.taken ++ v ∷ [];
          led = led-next read_keep s at h.stop next h.here from k.taken v k.led h.reads;
          counted = omega (arith, length-append k.taken (v ∷ []));
          joined = rw (flatten_snoc k.taken v) (omega (arith, length-append (flatten k.taken) v));
          stored = rw (flatten_snoc k.taken v)
              (front-put values_block_length (flatten k.taken) v values (hash_length * count) k.stored j (room v n (dec_lt count level_limit)));
        }
      where
        room : (v : Bytes) → length v ≡ hash_length → Dec (count < level_limit)
            → (hash_length * count + length v ≤ values_block_length) ⊎ ((values_block_length ≤ hash_length * count) × (0 < length v))
        room v n (yes h) = inl (omega arith)
        room v n (no h) = inr (omega arith, omega arith)

    -- where none leads, they are all
    pub keeps-stop : at ≤ length s → read_from read_keep s at ≡ none → KeepsFrom s from (record { count = count; next = at; values = values })
    keeps-stop w n =
        record {
          taken = k.taken;
          lines = led-stop read_keep s from at k.taken k.led n;
          rest = k.led.rest;
          within = w;
          counted = k.counted;
          stored = k.stored;
        }

-- ---- the `pair` lines

-- the `pair` lines from an offset to another: their number, and the first of their positions and
-- versions
pub record PairsTo (s : Bytes) (from at : ℕ) (m : MonitoringMap) : Type 0 where
  pub taken : List MapEntry
  pub led : Led read_pair s from at taken
  pub counted : m.count ≡ length taken
  pub firsts : m.positions ≡ front map_limit (positions taken)
  pub seconds : m.versions ≡ front map_limit (versions taken)

-- one more element stored of what is made of each
front_mapped : (n i : ℕ) (f : MapEntry → ℕ) (es : List MapEntry) (e : MapEntry) (d : List ℕ) → d ≡ front n (map f es) → i ≡ length es
    → set d i (f e) ≡ front n (map f (es ++ e ∷ []))
front_mapped n i f es e d h l = front-set n (map f es) d i (f e) h (length-map es f ∙ sym l) ∙ ap (front n) (sym (map-append f es (e ∷ [])))

module _ (s : Bytes) (from : ℕ) where
  -- at first there is none
  pub pairs_start : PairsTo s from from (record { positions = replicate map_limit 0; versions = replicate map_limit 0; count = 0 })
  pairs_start = record { taken = []; led = led-start read_pair s from; counted = refl; firsts = front-nil map_limit; seconds = front-nil map_limit }

  module _ (at : ℕ) (m : MonitoringMap) (k : PairsTo s from at m) where
    -- there is room for as many positions and versions as a state takes
    pub pairs-room : (length m.positions ≡ map_limit) × (length m.versions ≡ map_limit)
    pairs-room = (ap length k.firsts ∙ length_front map_limit (positions k.taken), ap length k.seconds ∙ length_front map_limit (versions k.taken))

    -- a line with a pair is one more
    pub pairs_next : (e : MapEntry) (next : ℕ) → read_from read_pair s at ≡ some (e, next) → PairsTo s from next (with_pair m e.position e.version)
    unfolding with_pair
    pairs_next e next q =
        let h = from-was read_pair s at e next q in
        let c = k.counted in
        record {
          taken = k.taken ++ e ∷ [];
          led = led-next read_pair s at h.stop next h.here from k.taken e k.led h.reads;
          counted = omega (arith, length-append k.taken (e ∷ []));
          firsts = front_mapped map_limit m.count (λ (x : MapEntry). x.position) k.taken e m.positions k.firsts c;
          seconds = front_mapped map_limit m.count (λ (x : MapEntry). x.version) k.taken e m.versions k.seconds c;
        }

    -- where none leads, they are all
    pub pairs-stop : at ≤ length s → read_from read_pair s at ≡ none → PairsFrom s from (record { map = m; next = at })
    pairs-stop w n =
        record {
          taken = k.taken;
          lines = led-stop read_pair s from at k.taken k.led n;
          rest = k.led.rest;
          within = w;
          counted = k.counted;
          firsts = k.firsts;
          seconds = k.seconds;
        }
