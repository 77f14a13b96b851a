-- The suite of the types with SHA-256 and values of 32 bytes: F, H, the message hash and PRF are the functions 0 to 3.
use Rattle.rfc8391.specs.Suite.{Suite}
use Rattle.keyed.specs.Keyed.{keyed}
use Rattle.keyed.specs.Values.{keyed_value}

unfoldable pub sha2 : Suite
sha2 =
    record {
      n = 32;
      F = keyed 0;
      H = keyed 1;
      Hmsg = keyed 2;
      PRF = keyed 3;
      F_value = keyed_value 0;
      H_value = keyed_value 1;
      Hmsg_value = keyed_value 2;
      PRF_value = keyed_value 3;
    }
