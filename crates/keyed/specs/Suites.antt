-- The suites of the key types, by their hash.
use Rattle.rfc8391.specs.Suite.{Suite}
use Rattle.rfc8391.specs.declared.Hash.{Hash}
use Rattle.rfc8391.specs.declared.Hash.TheVariants.{Sha2}
use Rattle.keyed.specs.Sha2.{sha2}

unfoldable pub suite : Hash → Suite
suite Sha2 = sha2
