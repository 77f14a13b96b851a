-- FIPS 180-4's first example, computed from the definition.
use Rattle.std.proofs.Common.{◌≡◌, [], ◌∷◌, refl}
use Rattle.lists.specs.Lists.{tab, turns}
use Rattle.lists.specs.Bytes.{to_byte, number}
use Rattle.sha256.specs.Sha256.{K, padding, padded, block, word, schedule, rounds, compressed, hashed, digest, sha256}

-- the hash of the three bytes "abc"
pub abc : sha256 (0x61 ∷ 0x62 ∷ 0x63 ∷ [])
    ≡ 0xba ∷ 0x78 ∷ 0x16 ∷ 0xbf ∷ 0x8f ∷ 0x01 ∷ 0xcf ∷ 0xea ∷ 0x41 ∷ 0x41 ∷ 0x40 ∷ 0xde ∷ 0x5d ∷ 0xae ∷ 0x22 ∷ 0x23
    ∷ 0xb0 ∷ 0x03 ∷ 0x61 ∷ 0xa3 ∷ 0x96 ∷ 0x17 ∷ 0x7a ∷ 0x9c ∷ 0xb4 ∷ 0x10 ∷ 0xff ∷ 0x61 ∷ 0xf2 ∷ 0x00 ∷ 0x15 ∷ 0xad ∷ []
unfolding tab turns to_byte number K padding padded block word schedule rounds compressed hashed digest sha256
abc = refl
