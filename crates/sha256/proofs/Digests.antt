-- A digest is 32 bytes.
use Rattle.std.proofs.Common.{◌≡◌, ℕ, ◌<◌, List, ◌++◌, length, length-append}
use Rattle.lists.specs.Bytes.{Bytes, to_byte}
use Rattle.lists.proofs.Numbers.{length-to_byte}
use Rattle.lists.proofs.Everywhere.{append_all, to_byte_bytes}
use Rattle.sha256.specs.Sha256.{digest, sha256}

-- it has 32
pub length-sha256 : (m : List ℕ) → length (sha256 m) ≡ 32
unfolding sha256 digest
length-sha256 m = simp (length-append, length-to_byte)

append_bytes : (l r : List ℕ) → Bytes l → Bytes r → Bytes (l ++ r)
unfolding Bytes
append_bytes l r p q = append_all 0 (λ b. b < 256) l r p q

-- and each is below 256
pub sha256_bytes : (m : List ℕ) → Bytes (sha256 m)
unfolding sha256 digest
sha256_bytes m =
    let b : (x : ℕ) → Bytes (to_byte x 4) = λ x. to_byte_bytes x 4 in
    append_bytes _ _ (b _) (append_bytes _ _ (b _) (append_bytes _ _ (b _) (append_bytes _ _ (b _) (append_bytes _ _ (b _) (append_bytes _ _ (b _) (append_bytes _ _ (b _) (b _)))))))
