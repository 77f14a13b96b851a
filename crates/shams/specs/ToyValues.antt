-- Values of the toy suite.
use Rattle.std.specs.Prelude.{List, ℕ, ◌+◌, ◌%◌, ◌<◌, get_or}
use Rattle.std.proofs.Common.{arith}
use Rattle.lists.specs.Lists.{tab}
use Rattle.lists.specs.Bytes.{Bytes, to_byte}
use Rattle.lists.proofs.Tabs.{length-tab}
use Rattle.lists.proofs.Everywhere.{tab_all, to_byte_bytes}
use Rattle.lists.proofs.Numbers.{length-to_byte}
use Rattle.rfc8391.specs.Suite.{Value}

unfoldable pub zeros : List ℕ
zeros = to_byte 0 32

unfoldable pub right_half : List ℕ → List ℕ
right_half x = tab 32 (λ i. get_or x (32 + i) 0 % 256)

pub zeros_value : Value 32 zeros
unfolding zeros
zeros_value = record { size = length-to_byte 0 32; bytes = to_byte_bytes 0 32 }

pub right_value : (x : List ℕ) → Value 32 (right_half x)
unfolding right_half Bytes
right_value x =
    record {
      size = length-tab 32 _;
      bytes = tab_all 0 (λ (b : ℕ). b < 256) 32 _ (omega arith) (λ k. omega arith);
    }
