-- The customer's table of proved examples, all twelve rows.
use Rattle.rfc8391.specs.Table.{SchemeRows}
use Rattle.marks.specs.Table.{PageRows}

pub record Table : Type 0 where
  -- rows 1 to 7: digits, lengths, widths, path positions
  pub scheme : SchemeRows
  -- rows 8 to 12: pages
  pub page : PageRows
