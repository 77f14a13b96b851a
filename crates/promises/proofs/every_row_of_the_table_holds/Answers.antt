-- The rows of the scheme, and those of the page.
use Rattle.rfc8391.proofs.Table.{scheme_rows}
use Rattle.marks.proofs.Table.{page_rows}
use Rattle.promises.proofs.every_row_of_the_table_holds.Goals as goal

pub returns : goal.returns
returns c = record { scheme = scheme_rows; page = page_rows }
