-- The number of a refusal, and of what is done or refused.
use Rattle.std.specs.Prelude.{ℕ, Result, Ok, Err}
use Rattle.outcomes.specs.declared.Refusal.{Refusal}
use Rattle.outcomes.specs.declared.Refusal.TheVariants.{InputLength, TypeNotServed, SignatureLength, MessageTooLong, IndexTooLarge, RootDiffers, PageDamaged, PageFull, SessionPending, SessionDoesNotFit, OutLength}

abbrev pub refusal_number : Refusal → ℕ
refusal_number InputLength = 1
refusal_number TypeNotServed = 2
refusal_number SignatureLength = 3
refusal_number MessageTooLong = 4
refusal_number IndexTooLarge = 5
refusal_number RootDiffers = 6
refusal_number PageDamaged = 7
refusal_number PageFull = 8
refusal_number SessionPending = 9
refusal_number SessionDoesNotFit = 10
refusal_number OutLength = 11

-- 0 where it is done
abbrev pub number_of : {A : Type 0} → Result A Refusal → ℕ
number_of (Ok a) = 0
number_of (Err r) = refusal_number r
