-- A suite whose values can be told by hand, where no hash hides a difference: a chain forgets what it started from, and of two values
-- joined the right one is left.
use Rattle.rfc8391.specs.Suite.{Suite}
use Rattle.rfc8391.specs.declared.Hash.{Hash}
use Rattle.shams.specs.ToyValues.{zeros, right_half, zeros_value, right_value}

unfoldable pub toy : Suite
toy =
    record {
      n = 32;
      F = λ key x. zeros;
      H = λ key x. right_half x;
      Hmsg = λ key x. zeros;
      PRF = λ key x. zeros;
      F_value = λ key x. zeros_value;
      H_value = λ key x. right_value x;
      Hmsg_value = λ key x. zeros_value;
      PRF_value = λ key x. zeros_value;
    }

-- in the place of every hash's suite
unfoldable pub toys : Hash → Suite
toys hash = toy
