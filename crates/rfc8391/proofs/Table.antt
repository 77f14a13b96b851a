-- Rows 1 to 7 of the table hold of the definitions: by computing, and row 6 by the law of a round's length.
use Rattle.std.proofs.Common.{refl}
use Rattle.lists.specs.Lists.{tab, turns}
use Rattle.lists.specs.Bytes.{to_byte}
use Rattle.rfc8391.specs.Wots.{base_w, checksum, total, digits}
use Rattle.rfc8391.specs.Xmss.{sibling}
use Rattle.rfc8391.specs.Formats.{value_length, path_start, signature_length, key_type}
use Rattle.rfc8391.specs.Table.{SchemeRows}
use Rattle.rfc8391.proofs.Ltrees.{length-round}

pub scheme_rows : SchemeRows
unfolding tab turns to_byte base_w checksum total digits value_length path_start signature_length key_type sibling
scheme_rows =
    record {
      row_1 = record { last_three = refl; signing_steps = refl; checking_steps = refl };
      row_2 = record { last_three = refl; signing_steps = refl; checking_steps = refl };
      row_3 = record { last_three = refl; signing_steps = refl; checking_steps = refl };
      row_4 = record { last_three = refl; signing_steps = refl; checking_steps = refl };
      row_5 = (refl, refl, refl);
      row_6 = λ S seed a v e. simp (length-round, e);
      row_7 = refl;
    }
