-- The type, and the values behind it.
use Rattle.std.proofs.Common.{refl, append-nil}
use Rattle.records.specs.Records.{record_bytes}
use Rattle.records.proofs.SecretKey.write.Goals as goal

pub returns : goal.returns
unfolding record_bytes
returns c = rw (c.write_number.ensures, c.copy_from_slice.ensures.after, c.as_flattened.ensures.value, append-nil) refl
