-- The test of order means what it says.
use Rattle.marks.proofs.Marks.{ordered_means}
use Rattle.promises.proofs.well_formed_pages_are_those_of_the_paper.Goals as goal

pub returns : goal.returns
returns c = λ page.
    let o = ordered_means page 1024 in
    (λ w. (w.0, o.0 w.1), λ w. (w.0, o.1 w.1))
