-- SHA-256 as FIPS 180-4 defines it, section by section. A word is a number below 2 ^ 32, a byte one below 256.
-- A message is any list of bytes: FIPS 180-4 stops below 2 ^ 61 bytes, and up to there this is its hash.
use Rattle.std.specs.Prelude.{ℕ, ◌+◌, ◌-◌, ◌*◌, ◌/◌, ◌%◌, ◌^◌, List, [], ◌∷◌, ◌++◌, length, replicate, bit_and, bit_or, bit_xor, slice_index}
use Rattle.lists.specs.Lists.{tab, turns}
use Rattle.lists.specs.Bytes.{to_byte, number}
use Rattle.sha256.specs.declared.State.{State}

-- 3.2: the sum of two words, a rotation and a shift to the right, a complement
abbrev pub plus : ℕ → ℕ → ℕ
plus x y = (x + y) % 2 ^ 32

abbrev pub ROTR : ℕ → ℕ → ℕ
ROTR n x = bit_or (x / 2 ^ n) (x * 2 ^ (32 - n) % 2 ^ 32)

abbrev pub SHR : ℕ → ℕ → ℕ
SHR n x = x / 2 ^ n

abbrev pub complement : ℕ → ℕ
complement x = 2 ^ 32 - 1 - x

-- 4.1.2: the six functions
abbrev pub Ch : ℕ → ℕ → ℕ → ℕ
Ch x y z = bit_xor (bit_and x y) (bit_and (complement x) z)

abbrev pub Maj : ℕ → ℕ → ℕ → ℕ
Maj x y z = bit_xor (bit_xor (bit_and x y) (bit_and x z)) (bit_and y z)

abbrev pub Σ₀ : ℕ → ℕ
Σ₀ x = bit_xor (bit_xor (ROTR 2 x) (ROTR 13 x)) (ROTR 22 x)

abbrev pub Σ₁ : ℕ → ℕ
Σ₁ x = bit_xor (bit_xor (ROTR 6 x) (ROTR 11 x)) (ROTR 25 x)

abbrev pub σ₀ : ℕ → ℕ
σ₀ x = bit_xor (bit_xor (ROTR 7 x) (ROTR 18 x)) (SHR 3 x)

abbrev pub σ₁ : ℕ → ℕ
σ₁ x = bit_xor (bit_xor (ROTR 17 x) (ROTR 19 x)) (SHR 10 x)

-- 4.2.2: the constants
unfoldable pub K : List ℕ
K =
    0x428a_2f98 ∷ 0x7137_4491 ∷ 0xb5c0_fbcf ∷ 0xe9b5_dba5 ∷ 0x3956_c25b ∷ 0x59f1_11f1 ∷ 0x923f_82a4 ∷ 0xab1c_5ed5 ∷
    0xd807_aa98 ∷ 0x1283_5b01 ∷ 0x2431_85be ∷ 0x550c_7dc3 ∷ 0x72be_5d74 ∷ 0x80de_b1fe ∷ 0x9bdc_06a7 ∷ 0xc19b_f174 ∷
    0xe49b_69c1 ∷ 0xefbe_4786 ∷ 0x0fc1_9dc6 ∷ 0x240c_a1cc ∷ 0x2de9_2c6f ∷ 0x4a74_84aa ∷ 0x5cb0_a9dc ∷ 0x76f9_88da ∷
    0x983e_5152 ∷ 0xa831_c66d ∷ 0xb003_27c8 ∷ 0xbf59_7fc7 ∷ 0xc6e0_0bf3 ∷ 0xd5a7_9147 ∷ 0x06ca_6351 ∷ 0x1429_2967 ∷
    0x27b7_0a85 ∷ 0x2e1b_2138 ∷ 0x4d2c_6dfc ∷ 0x5338_0d13 ∷ 0x650a_7354 ∷ 0x766a_0abb ∷ 0x81c2_c92e ∷ 0x9272_2c85 ∷
    0xa2bf_e8a1 ∷ 0xa81a_664b ∷ 0xc24b_8b70 ∷ 0xc76c_51a3 ∷ 0xd192_e819 ∷ 0xd699_0624 ∷ 0xf40e_3585 ∷ 0x106a_a070 ∷
    0x19a4_c116 ∷ 0x1e37_6c08 ∷ 0x2748_774c ∷ 0x34b0_bcb5 ∷ 0x391c_0cb3 ∷ 0x4ed8_aa4a ∷ 0x5b9c_ca4f ∷ 0x682e_6ff3 ∷
    0x748f_82ee ∷ 0x78a5_636f ∷ 0x84c8_7814 ∷ 0x8cc7_0208 ∷ 0x90be_fffa ∷ 0xa450_6ceb ∷ 0xbef9_a3f7 ∷ 0xc671_78f2 ∷ []

-- 5.1.1: the padding of a message of n bytes: a bit 1, bits 0 up to 8 bytes short of a whole block, the length in bits in 8 bytes
unfoldable pub padding : ℕ → List ℕ
padding n = 0x80 ∷ (replicate ((119 - n % 64) % 64) 0 ++ to_byte (8 * n) 8)

unfoldable pub padded : List ℕ → List ℕ
padded m = m ++ padding (length m)

-- 5.2.1: the 16 words of block i of a padded message
unfoldable pub block : ℕ → List ℕ → List ℕ
block i m = tab 16 (λ j. number m (64 * i + 4 * j) 4)

-- 5.3.3: the first hash value
abbrev pub H₀ : State
H₀ =
    record {
      a = 0x6a09_e667;
      b = 0xbb67_ae85;
      c = 0x3c6e_f372;
      d = 0xa54f_f53a;
      e = 0x510e_527f;
      f = 0x9b05_688c;
      g = 0x1f83_d9ab;
      h = 0x5be0_cd19;
    }

-- 6.2.2, step 1: the message schedule's word t, from the t words w before it; and a block's words m with n words more, which are 48 in all
unfoldable pub word : List ℕ → ℕ → ℕ
word w t = plus (plus (plus (σ₁ (slice_index w (t - 2))) (slice_index w (t - 7))) (σ₀ (slice_index w (t - 15)))) (slice_index w (t - 16))

unfoldable pub schedule : ℕ → List ℕ → List ℕ
schedule n m = turns n (λ i w. w ++ (word w (16 + i) ∷ [])) m

-- 6.2.2, step 3: the sums T₁ and T₂ of a round with the constant k and the schedule's word w, the round, and the first n rounds
abbrev pub T₁ : State → ℕ → ℕ → ℕ
T₁ s k w = plus (plus (plus (plus s.h (Σ₁ s.e)) (Ch s.e s.f s.g)) k) w

abbrev pub T₂ : State → ℕ
T₂ s = plus (Σ₀ s.a) (Maj s.a s.b s.c)

abbrev pub round : State → ℕ → ℕ → State
round s k w =
    record {
      a = plus (T₁ s k w) (T₂ s);
      b = s.a;
      c = s.b;
      d = s.c;
      e = plus s.d (T₁ s k w);
      f = s.e;
      g = s.f;
      h = s.g;
    }

unfoldable pub rounds : ℕ → State → List ℕ → State
rounds n s w = turns n (λ t v. round v (slice_index K t) (slice_index w t)) s

-- 6.2.2, step 4: the sum of two hash values, word by word; and so the next hash value, from a block's 16 words m
abbrev pub added : State → State → State
added s t =
    record {
      a = plus s.a t.a;
      b = plus s.b t.b;
      c = plus s.c t.c;
      d = plus s.d t.d;
      e = plus s.e t.e;
      f = plus s.f t.f;
      g = plus s.g t.g;
      h = plus s.h t.h;
    }

unfoldable pub compressed : State → List ℕ → State
compressed s m = added (rounds 64 s (schedule 48 m)) s

-- 6.2.2: the hash value after the first n blocks of m, from s; the message digest of a hash value; the hash of a message
unfoldable pub hashed : ℕ → State → List ℕ → State
hashed n s m = turns n (λ i v. compressed v (block i m)) s

unfoldable pub digest : State → List ℕ
digest s =
    to_byte s.a 4 ++ (to_byte s.b 4 ++ (to_byte s.c 4 ++ (to_byte s.d 4
    ++ (to_byte s.e 4 ++ (to_byte s.f 4 ++ (to_byte s.g 4 ++ to_byte s.h 4))))))

unfoldable pub sha256 : List ℕ → List ℕ
sha256 m = digest (hashed (length (padded m) / 64) H₀ (padded m))
