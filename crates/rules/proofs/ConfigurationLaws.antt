-- Laws of the configuration (specs/Configuration.antt): what is written reads as itself, and what
-- reads is what is written.
use mathlib.Core.Path.{◌≡◌, refl, ◌∙◌, ap, ap₂}
use mathlib.Core.List.{[], ◌∷◌, ◌++◌, append_assoc, append-nil}
use mathlib.Core.Option.{Option, none, some, bind, some-injective, none-ne-some}
use Prim.Native.Nat.{ℕ, zero, suc, ◌+◌, ◌^◌, ◌≤◌, ◌<◌}
use native.Mathlib.Omega.{arith}
use lib.Dec.{eqb}
use lib.ListN.{length, length-append}
use borrow.Author.Tests.{eqb-true}
use Rattle.lists.specs.Choice.{◌>>◌}
use Rattle.lists.specs.Lists.{Bytes, same}
use Rattle.lists.proofs.ChoiceLaws.{bind_by, test_some}
use Rattle.lists.proofs.ListLaws.{same_true}
use Rattle.hash.specs.Bytes.{AreBytes, big_endian}
use Rattle.hash.proofs.BytesLaws.{length_big_endian}
use Rattle.rules.specs.Encoding.{opaque, read_uint, read_opaque}
use Rattle.rules.specs.Configuration.{Configuration, p256_suite, contact_monitoring, read_present}
use Rattle.rules.specs.Configuration.{read_optional, read_configuration, write_optional}
use Rattle.rules.specs.Configuration.{write_configuration, tree_head}
use Rattle.rules.proofs.EncodingLaws.{read_uint_lem, uint_read, read_opaque_lem, opaque_read, uint_takes}
use Rattle.rules.proofs.EncodingLaws.{opaque_takes}

-- ---- what can be written

-- a number of 64 bits
abbrev pub IsUint64 : ℕ → Type 0
IsUint64 n = n < 2 ^ 64

-- an optional number of 64 bits
abbrev pub IsOptionalUint64 : Option ℕ → Type 0
IsOptionalUint64 none = Unit {0}
IsOptionalUint64 (some n) = IsUint64 n

-- a string of bytes whose length has 16 bits
abbrev pub IsKey : Bytes → Type 0
IsKey k = AreBytes k × (length k < 2 ^ 16)

-- each field has its width, and suite and mode are those that are taken
pub record FitsWidths (c : Configuration) : Type 0 where
  pub suite_taken : c.suite ≡ p256_suite
  pub mode_taken : c.mode ≡ contact_monitoring
  pub signature_key_fits : IsKey c.signature_key
  pub vrf_key_fits : IsKey c.vrf_key
  pub ahead_fits : IsUint64 c.max_ahead
  pub behind_fits : IsUint64 c.max_behind
  pub window_fits : IsUint64 c.monitoring_window
  pub lifetime_fits : IsOptionalUint64 c.maximum_lifetime

-- ---- optional numbers

-- a number below 256 is its own byte
one_byte : (b : ℕ) → b < 256 → big_endian 1 b ≡ b ∷ []
unfolding big_endian
one_byte b h = ap (λ (x : ℕ). x ∷ []) (omega arith)

-- a number of one byte is that byte
byte_first : (b : ℕ) (t : Bytes) → b < 256 → read_uint 1 (b ∷ t) ≡ some (b, t)
byte_first b t h = rw (one_byte b h) at (read_uint_lem 1 b t h)

-- an optional number that is written is read
pub read_optional_lem : (o : Option ℕ) (t : Bytes) → IsOptionalUint64 o → read_optional (write_optional o ++ t) ≡ some (o, t)
unfolding read_optional write_optional read_present bind
read_optional_lem none t h = rw (byte_first 0 t (omega arith)) refl
read_optional_lem (some n) t h = rw (byte_first 1 (big_endian 8 n ++ t) (omega arith), read_uint_lem 8 n t h) refl

-- an optional number that is read is written so
pub optional_read : (o : Option ℕ) (s t : Bytes) → AreBytes s → read_optional s ≡ some (o, t) → (s ≡ write_optional o ++ t) × IsOptionalUint64 o × AreBytes t
unfolding read_optional write_optional read_present
optional_read o s t b e = bind_by (read_uint 1 s) _ (o, t) e (λ p f. go p.0 p.1 (uint_read 1 p.0 s p.1 b f))
  where
    go : (p : ℕ) (u : Bytes) → (s ≡ big_endian 1 p ++ u) × (p < 256 ^ 1) × AreBytes u → read_present p u ≡ some (o, t)
        → (s ≡ write_optional o ++ t) × IsOptionalUint64 o × AreBytes t
    go zero u (w, h, c) q =
        let p = some-injective (none, u) (o, t) q in
        let x : none ≡ o = ap (λ r. r.0) p in
        let y : u ≡ t = ap (λ r. r.1) p in
        rw (← x, ← y) (w ∙ ap (λ (l : Bytes). l ++ u) (one_byte 0 (omega arith)), tt, c)
    go (suc zero) u (w, h, c) q = bind_by (read_uint 8 u) _ (o, t) q λ n f g.
        let (v, l, d) = uint_read 8 n.0 u n.1 c f in
        let p = some-injective (some n.0, n.1) (o, t) g in
        let x : some n.0 ≡ o = ap (λ r. r.0) p in
        let y : n.1 ≡ t = ap (λ r. r.1) p in
        rw (← x, ← y) (w ∙ ap₂ ◌++◌ (one_byte 1 (omega arith)) v, l, d)
    go (suc (suc k)) u (w, h, c) q = absurd (none-ne-some (o, t) q)

-- ---- the configuration

-- its fields one after the other
configuration_text : (c : Configuration)
    → write_configuration c
    ≡ big_endian 2 c.suite
    ++ (big_endian 1 c.mode
    ++ (opaque 2 c.signature_key
    ++ (opaque 2 c.vrf_key
    ++ (big_endian 8 c.max_ahead ++ (big_endian 8 c.max_behind ++ (big_endian 8 c.monitoring_window ++ (write_optional c.maximum_lifetime ++ [])))))))
unfolding write_configuration
configuration_text c = simp (append_assoc, append-nil)

-- a configuration that is written is read
pub read_configuration_lem : (c : Configuration) → FitsWidths c → read_configuration (write_configuration c) ≡ some c
unfolding read_configuration bind ◌>>◌ same
read_configuration_lem c f =
    let s8 : Bytes = [] in
    let s7 = write_optional c.maximum_lifetime ++ s8 in
    let s6 = big_endian 8 c.monitoring_window ++ s7 in
    let s5 = big_endian 8 c.max_behind ++ s6 in
    let s4 = big_endian 8 c.max_ahead ++ s5 in
    let s3 = opaque 2 c.vrf_key ++ s4 in
    let s2 = opaque 2 c.signature_key ++ s3 in
    let s1 = big_endian 1 c.mode ++ s2 in
    rw (
      configuration_text c,
      read_uint_lem 2 c.suite s1 (omega (arith, f.suite_taken)),
      read_uint_lem 1 c.mode s2 (omega (arith, f.mode_taken)),
      read_opaque_lem 2 c.signature_key s3 f.signature_key_fits.1,
      read_opaque_lem 2 c.vrf_key s4 f.vrf_key_fits.1,
      read_uint_lem 8 c.max_ahead s5 f.ahead_fits,
      read_uint_lem 8 c.max_behind s6 f.behind_fits,
      read_uint_lem 8 c.monitoring_window s7 f.window_fits,
      read_optional_lem c.maximum_lifetime s8 f.lifetime_fits,
      f.suite_taken,
      f.mode_taken,
    )
    refl

-- A configuration that is read is written so: each step that reads a field splits what is written
-- of it off the string, and nothing is left.
pub configuration_read : (s : Bytes) (c : Configuration) → AreBytes s → read_configuration s ≡ some c → (s ≡ write_configuration c) × FitsWidths c
unfolding read_configuration
configuration_read s c b e =
    bind_by (read_uint 2 s) _ c e λ x1 e1 r1.
    let (w1, h1, b1) = uint_read 2 x1.0 s x1.1 b e1 in
    bind_by (read_uint 1 x1.1) _ c r1 λ x2 e2 r2.
    let (w2, h2, b2) = uint_read 1 x2.0 x1.1 x2.1 b1 e2 in
    bind_by (read_opaque 2 x2.1) _ c r2 λ x3 e3 r3.
    let (w3, h3, v3, b3) = opaque_read 2 x3.0 x2.1 x3.1 b2 e3 in
    bind_by (read_opaque 2 x3.1) _ c r3 λ x4 e4 r4.
    let (w4, h4, v4, b4) = opaque_read 2 x4.0 x3.1 x4.1 b3 e4 in
    bind_by (read_uint 8 x4.1) _ c r4 λ x5 e5 r5.
    let (w5, h5, b5) = uint_read 8 x5.0 x4.1 x5.1 b4 e5 in
    bind_by (read_uint 8 x5.1) _ c r5 λ x6 e6 r6.
    let (w6, h6, b6) = uint_read 8 x6.0 x5.1 x6.1 b5 e6 in
    bind_by (read_uint 8 x6.1) _ c r6 λ x7 e7 r7.
    let (w7, h7, b7) = uint_read 8 x7.0 x6.1 x7.1 b6 e7 in
    bind_by (read_optional x7.1) _ c r7 λ x8 e8 r8.
    let (w8, h8, b8) = optional_read x8.0 x7.1 x8.1 b7 e8 in
    let (t1, r9) = test_some (same x8.1 []) _ c r8 in
    let (t2, r10) = test_some (eqb x1.0 p256_suite) _ c r9 in
    let (t3, r11) = test_some (eqb x2.0 contact_monitoring) _ c r10 in
    let q = some-injective _ c r11 in
    let z = same_true x8.1 [] t1 in
    rw (← q) (
      rw configuration_text (cc),
      record {
        suite_taken = eqb-true x1.0 p256_suite t2;
        mode_taken = eqb-true x2.0 contact_monitoring t3;
        signature_key_fits = (v3, h3);
        vrf_key_fits = (v4, h4);
        ahead_fits = h5;
        behind_fits = h6;
        window_fits = h7;
        lifetime_fits = h8;
      },
    )

-- ---- lengths

-- an optional number takes its first byte at least
optional_takes : (s : Bytes) (p : Option ℕ × Bytes) → read_optional s ≡ some p → 1 + length p.1 ≤ length s
unfolding read_optional read_present
optional_takes s p e = bind_by (read_uint 1 s) _ p e (λ x q. go x.0 x.1 (uint_takes 1 s x q))
  where
    go : (b : ℕ) (u : Bytes) → length s ≡ 1 + length u → read_present b u ≡ some p → 1 + length p.1 ≤ length s
    go zero u l r = let z : length u ≡ length p.1 = ap (λ x. length x.1) (some-injective _ _ r) in omega arith
    go (suc zero) u l r = bind_by (read_uint 8 u) _ p r λ y q t.
        let z : length y.1 ≡ length p.1 = ap (λ x. length x.1) (some-injective _ _ t) in
        omega (arith, uint_takes 8 u y q)
    go (suc (suc k)) u l r = absurd (none-ne-some p r)

-- a configuration that reads has 32 bytes or more
pub configuration_least : (s : Bytes) (c : Configuration) → read_configuration s ≡ some c → 32 ≤ length s
unfolding read_configuration
configuration_least s c e =
    bind_by (read_uint 2 s) _ c e λ x1 e1 r1.
    bind_by (read_uint 1 x1.1) _ c r1 λ x2 e2 r2.
    bind_by (read_opaque 2 x2.1) _ c r2 λ x3 e3 r3.
    bind_by (read_opaque 2 x3.1) _ c r3 λ x4 e4 r4.
    bind_by (read_uint 8 x4.1) _ c r4 λ x5 e5 r5.
    bind_by (read_uint 8 x5.1) _ c r5 λ x6 e6 r6.
    bind_by (read_uint 8 x6.1) _ c r6 λ x7 e7 r7.
    bind_by (read_optional x7.1) _ c r7 λ x8 e8 _.
    omega (
      arith,
      uint_takes 2 s x1 e1,
      uint_takes 1 x1.1 x2 e2,
      opaque_takes 2 x2.1 x3 e3,
      opaque_takes 2 x3.1 x4 e4,
      uint_takes 8 x4.1 x5 e5,
      uint_takes 8 x5.1 x6 e6,
      uint_takes 8 x6.1 x7 e7,
      optional_takes x7.1 x8 e8,
    )

-- a TreeHeadTBS has 8 bytes more than the configuration and the root
pub head_length : (s : Bytes) (n : ℕ) (r : Bytes) → length (tree_head s n r) ≡ length s + 8 + length r
unfolding tree_head
head_length s n r = length-append (s ++ big_endian 8 n) r ∙ omega (arith, length-append s (big_endian 8 n), length_big_endian 8 n)
