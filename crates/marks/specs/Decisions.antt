-- That the conditions of reserving and marking can be told: what they mean is in Page.
use Rattle.std.specs.Prelude.{true, List, ◌⊎◌, ℕ, ◌-◌, length}
use Rattle.std.proofs.Math.Bool.{Bool-discrete}
use Rattle.std.proofs.Common.{inl, inr, ⊎_elim}
use Rattle.std.proofs.Math.Logic.Dec
use Rattle.std.proofs.Math.Decide.{ℕ_discrete, dec_le}
use Rattle.marks.specs.Page.{ordered_below, used, WellFormed, Serves, Fits}

unfoldable either? : {A B : Type 0} → Dec A → Dec B → Dec (A ⊎ B)
either? (yes a) d = yes (inl a)
either? (no n) (yes b) = yes (inr b)
either? (no n) (no m) = no (⊎_elim n m)

pub well_formed? : (page : List ℕ) → Dec (WellFormed page)
well_formed? page = Dec.and (ℕ_discrete (length page) 128) (Bool-discrete (ordered_below page 1024) true)

pub serves? : (first : ℕ) (page : List ℕ) → Dec (Serves first page)
serves? first page = Dec.and (well_formed? page) (dec_le first (used page))

pub fits? : (page : List ℕ) (s : ℕ) → Dec (Fits page s)
fits? page s =
    Dec.and (Dec.and (dec_le 1 s) (dec_le s 1024)) (either? (ℕ_discrete (used page) (s - 1)) (ℕ_discrete (used page) s))
