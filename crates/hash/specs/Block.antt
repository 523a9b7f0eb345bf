-- What SHA-256 does with one block of 64 bytes (FIPS 180-4, 6.2.2).
use Rattle.std.specs.Prelude.{ℕ, zero, suc, ◌+◌, ◌-◌, ◌*◌, ◌%◌, ◌^◌, List, [], ◌∷◌, ◌++◌, length, slice_index}
use Rattle.hash.specs.declared.block.HashValue.{HashValue}
use Rattle.hash.specs.Words.{big_sigma0, big_sigma1, small_sigma0, small_sigma1, ch, maj, constants, word}

-- ---- step 1: the message schedule W_0 .. W_63

-- the first n words of a block
unfoldable pub words : ℕ → List ℕ → List ℕ
words zero b = []
words (suc n) b = words n b ++ word b (4 * n) ∷ []

-- the word W_t of a schedule from W_(t-2), W_(t-7), W_(t-15) and W_(t-16)
unfoldable pub mixed : ℕ → ℕ → ℕ → ℕ → ℕ
mixed w2 w7 w15 w16 = (small_sigma1 w2 + w7 + small_sigma0 w15 + w16) % 2 ^ 32

-- the word that follows the words w of a schedule
unfoldable pub next : List ℕ → ℕ
next w =
    mixed (slice_index w (length w - 2)) (slice_index w (length w - 7)) (slice_index w (length w - 15))
    (slice_index w (length w - 16))

-- n words more
unfoldable pub extended : ℕ → List ℕ → List ℕ
extended zero w = w
extended (suc n) w = extended n w ++ next (extended n w) ∷ []

unfoldable pub schedule : List ℕ → List ℕ
schedule b = extended 48 (words 16 b)

-- ---- step 3: the rounds, over the working variables a .. h

-- T_1
unfoldable pub temp1 : HashValue → ℕ → ℕ → ℕ
temp1 v k w = (v.h + big_sigma1 v.e + ch v.e v.f v.g + k + w) % 2 ^ 32

-- T_2
unfoldable pub temp2 : HashValue → ℕ
temp2 v = (big_sigma0 v.a + maj v.a v.b v.c) % 2 ^ 32

-- one round, with the constant k and the word w of the schedule
unfoldable pub round : HashValue → ℕ → ℕ → HashValue
round v k w =
    record {
      a = (temp1 v k w + temp2 v) % 2 ^ 32;
      b = v.a;
      c = v.b;
      d = v.c;
      e = (v.d + temp1 v k w) % 2 ^ 32;
      f = v.e;
      g = v.f;
      h = v.g;
    }

-- the first n rounds, with the constants k and the words w
unfoldable pub rounds : ℕ → HashValue → List ℕ → List ℕ → HashValue
rounds zero v k w = v
rounds (suc n) v k w = round (rounds n v k w) (slice_index k n) (slice_index w n)

-- ---- step 4: the next hash value

unfoldable pub added : HashValue → HashValue → HashValue
added x y =
    record {
      a = (x.a + y.a) % 2 ^ 32;
      b = (x.b + y.b) % 2 ^ 32;
      c = (x.c + y.c) % 2 ^ 32;
      d = (x.d + y.d) % 2 ^ 32;
      e = (x.e + y.e) % 2 ^ 32;
      f = (x.f + y.f) % 2 ^ 32;
      g = (x.g + y.g) % 2 ^ 32;
      h = (x.h + y.h) % 2 ^ 32;
    }

-- H^(i) from H^(i-1) and the block M^(i): steps 1 to 4
unfoldable pub compressed : HashValue → List ℕ → HashValue
compressed v b = added v (rounds 64 v constants (schedule b))
