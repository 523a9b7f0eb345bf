-- Laws of reading a configuration (crate rules, specs/Configuration.antt): what each step of the
-- reader means at its offset, one law for each way out.
use mathlib.Core.Path.{◌≡◌, refl, sym, ◌∙◌, ap}
use mathlib.Core.List.{[]}
use mathlib.Core.Option.{Option, none, some, bind}
use Prim.Native.Nat.{ℕ, zero, suc, ◌+◌, ◌-◌, ◌*◌, ◌≤◌, ◌<◌}
use native.Mathlib.Omega.{arith}
use lib.Dec.{eqb}
use lib.ListN.{length, take, drop, get_or, length-drop}
use lib.Seq.{drop-drop}
use borrow.Author.Tests.{eq-eqb, ne_eqb}
use Rattle.lists.specs.Choice.{◌>>◌}
use Rattle.lists.specs.Lists.{Bytes, same}
use Rattle.lists.proofs.ListLaws.{equal_same, differ_same}
use Rattle.lines.specs.declared.part.Part.{Part}
use Rattle.lines.specs.Readings.{part_of}
use Rattle.lines.proofs.OffsetLaws.{at_cons, at_end}
use Rattle.rules.specs.Encoding.{bytes_after, uint, read_uint, read_opaque}
use Rattle.rules.specs.Configuration.{Configuration, p256_suite, contact_monitoring, read_present}
use Rattle.rules.specs.Configuration.{read_configuration}
use Rattle.rules.proofs.EncodingLaws.{after_byte, after_none, bytes_front, bytes_short, uint_front}
use Rattle.rules.proofs.EncodingLaws.{uint_short}
use Rattle.inputs.specs.Configuration.{read_front, read_times}

-- ---- numbers

-- the number grows by the byte at an offset
pub byte_taken : (s : Bytes) (i n : ℕ) → i < length s → bytes_after n (drop i s)
    ≡ bytes_after (n * 256 + get_or s i 0) (drop (i + 1) s)
byte_taken s i n h = ap (bytes_after n) (at_cons s i h) ∙ after_byte n (get_or s i 0) (drop (i + 1) s)

-- and is whole at the end
pub bytes_taken : (s : Bytes) (i n : ℕ) → length s ≤ i → bytes_after n (drop i s) ≡ n
bytes_taken s i n h = ap (bytes_after n) (at_end s i h) ∙ after_none n

module _ (s : Bytes) (at width : ℕ) where
  -- too few bytes at an offset are no number
  pub no-uint : length s - at < width → read_uint width (drop at s) ≡ none
  no-uint h = uint_short width (drop at s) (omega (arith, length-drop at s))

  -- enough of them are one
  pub uint-there : (next value : ℕ) → next ≡ at + width → next ≤ length s → value ≡ uint (take (next - at) (drop at s))
      → read_uint width (drop at s) ≡ some (value, drop next s)
  uint-there next value e h v =
      let n : next - at ≡ width = omega arith in
      uint_front width (drop at s) (omega (arith, length-drop at s))
      ∙ rw (v, n, e, drop-drop width at s) refl

-- ---- byte strings

module _ (k : ℕ) (s : Bytes) (at : ℕ) where
  module _ (n start : ℕ) (e : read_uint k (drop at s) ≡ some (n, drop start s)) where
    -- none where too few bytes follow the length
    pub no-opaque : length s - start < n → read_opaque k (drop at s) ≡ none
    unfolding read_opaque bind
    no-opaque h = rw e (bytes_short n (drop start s) (omega (arith, length-drop start s)))

    -- one where enough follow
    pub opaque-there : (p : Part) → p.start ≡ start → p.stop ≡ start + n → p.stop ≤ length s → read_opaque k (drop at s)
        ≡ some (part_of s p, drop p.stop s)
    unfolding read_opaque bind part_of
    opaque-there p a z h =
        let m : p.stop - p.start ≡ n = omega arith in
        rw e (bytes_front n (drop start s) (omega (arith, length-drop start s))
        ∙ rw (m, a, z, drop-drop n start s) refl)

-- ---- optional numbers

-- another byte than 0 and 1 is before no optional number
pub no-present : (present : ℕ) (s : Bytes) → (present ≡ 0 → ⊥) → (present ≡ 1 → ⊥) → read_present present s ≡ none
unfolding read_present
no-present zero s h k = absurd (h refl)
no-present (suc zero) s h k = absurd (k refl)
no-present (suc (suc n)) s h k = refl

-- ---- the configuration

-- steps in two groups are the steps one by one
bind_assoc : {A B C : Type 0} (o : Option A) (f : A → Option B) (g : B → Option C) → bind (bind o f) g
    ≡ bind o (λ a. bind (f a) g)
unfolding bind
bind_assoc none f g = refl
bind_assoc (some a) f g = refl

-- what is taken once all fields are read: nothing after them, and the suite and the mode
unfoldable taken : ℕ × ℕ × Bytes × Bytes × Bytes → ℕ × ℕ × ℕ × Option ℕ × Bytes → Option Configuration
taken (suite, mode, signature_key, vrf_key, _) (max_ahead, max_behind, monitoring_window, maximum_lifetime, rest) =
    same rest []
    >> (eqb suite p256_suite
    >> (eqb mode contact_monitoring
    >> some
    (record {
      suite = suite;
      mode = mode;
      signature_key = signature_key;
      vrf_key = vrf_key;
      max_ahead = max_ahead;
      max_behind = max_behind;
      monitoring_window = monitoring_window;
      maximum_lifetime = maximum_lifetime;
    })))

-- a configuration is its two groups of fields
in_groups : (s : Bytes) → bind (read_front s) (λ f. bind (read_times f.4) (taken f)) ≡ read_configuration s
unfolding read_configuration read_front read_times taken bind
in_groups s = simp bind_assoc

module _ (s : Bytes) where
  -- without suite, mode and keys nothing is read
  pub no_front : read_front s ≡ none → read_configuration s ≡ none
  unfolding bind
  no_front e = sym (in_groups s) ∙ rw e refl

  module _ (suite mode : ℕ) (signature_key vrf_key s4 : Bytes) (e1 : read_front s
      ≡ some (suite, mode, signature_key, vrf_key, s4)) where
    -- nor without the times
    pub no-times : read_times s4 ≡ none → read_configuration s ≡ none
    unfolding bind
    no-times e = sym (in_groups s) ∙ rw (e1, e) refl

    module _ (ahead behind window : ℕ) (lifetime : Option ℕ) (end : ℕ) (e2 : read_times s4
        ≡ some (ahead, behind, window, lifetime, drop end s)) where
      -- nor where anything follows them
      pub more-after : end < length s → read_configuration s ≡ none
      unfolding bind taken ◌>>◌
      more-after h =
          let d = differ_same (drop end s) [] (λ z. let n = ap length z in omega (arith, length-drop end s)) in
          sym (in_groups s) ∙ rw (e1, e2, d) refl

      module _ (h : length s ≤ end) where
        -- nor with another suite
        pub other-suite : (suite ≡ p256_suite → ⊥) → read_configuration s ≡ none
        unfolding bind taken ◌>>◌
        other-suite n = sym (in_groups s)
            ∙ rw (e1, e2, equal_same (drop end s) [] (at_end s end h), ne_eqb suite p256_suite n) refl

        module _ (q : suite ≡ p256_suite) where
          -- nor with another mode
          pub other-mode : (mode ≡ contact_monitoring → ⊥) → read_configuration s ≡ none
          unfolding bind taken ◌>>◌
          other-mode n =
              sym (in_groups s)
              ∙ rw (
                e1,
                e2,
                equal_same (drop end s) [] (at_end s end h),
                eq-eqb suite p256_suite q,
                ne_eqb mode contact_monitoring n,
              ) refl

          -- else it is read
          pub configuration-there : mode ≡ contact_monitoring
              → read_configuration s
              ≡ some
              (record {
                suite = suite;
                mode = mode;
                signature_key = signature_key;
                vrf_key = vrf_key;
                max_ahead = ahead;
                max_behind = behind;
                monitoring_window = window;
                maximum_lifetime = lifetime;
              })
          unfolding bind taken ◌>>◌
          configuration-there m =
              sym (in_groups s)
              ∙ rw (
                e1,
                e2,
                equal_same (drop end s) [] (at_end s end h),
                eq-eqb suite p256_suite q,
                eq-eqb mode contact_monitoring m,
              ) refl
