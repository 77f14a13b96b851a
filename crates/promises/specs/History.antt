-- Histories of calls on one key and its page, cut by restarts anywhere: over any operations, so that wrong ones can be put in their place.
use Rattle.std.specs.Prelude.{Bool, List, [], ◌∷◌, ◌++◌, ℕ, zero, suc, replicate}
use Rattle.lists.specs.Lists.{pick}
use Rattle.marks.specs.Marking.{reserve_of, MarkEnd, mark_of}
use Rattle.marks.specs.declared.Reserved.{Reserved}
use Rattle.operations.specs.Sign.{SignEnd, sign_of}
use Rattle.promises.specs.declared.Kind.{Kind}
use Rattle.promises.specs.declared.Kind.TheVariants.{Reserving, Marking, Signing}

-- the three operations of a key: of the page and the session, and signing of the message and the lent buffer too
pub record Operations : Type 0 where
  pub reserve : List ℕ → ℕ → Reserved
  pub mark : List ℕ → ℕ → MarkEnd
  pub sign : List ℕ → ℕ → List ℕ → List ℕ → SignEnd

-- the first index of a page, and the end of its indices
abbrev pub first_index : ℕ
first_index = 0

abbrev pub end_index : ℕ
end_index = 1024

-- what the contracts of the code say, for the key of a secret record
abbrev pub honest : List ℕ → Operations
honest secret = record { reserve = reserve_of first_index end_index; mark = mark_of; sign = sign_of secret }

-- what is called, with the message and the lent buffer, of which signing alone makes use
pub record Call : Type 0 where
  pub kind : Kind
  pub message : List ℕ
  pub out : List ℕ

abbrev pub lent : Kind → List ℕ → List ℕ → Call
lent k m o = record { kind = k; message = m; out = o }

-- what a call answers, and the page and the lent buffer as it leaves them
pub record After : Type 0 where
  pub outcome : ℕ
  pub session : ℕ
  pub page : List ℕ
  pub out : List ℕ

abbrev pub leaves : ℕ → ℕ → List ℕ → List ℕ → After
leaves n s p o = record { outcome = n; session = s; page = p; out = o }

-- a signature that was given, with its message
pub record Given : Type 0 where
  pub message : List ℕ
  pub signature : List ℕ

abbrev pub given : List ℕ → List ℕ → Given
given m σ = record { message = m; signature = σ }

-- one is given by signing whose outcome is 0, and by nothing else
abbrev pub given_by : Kind → List ℕ → ℕ → List ℕ → List Given
given_by Signing m zero o = given m o ∷ []
given_by Signing m (suc n) o = []
given_by Reserving m n o = []
given_by Marking m n o = []

-- the page as stored, the session that the last call returned, and the signatures given so far, the last one first
pub record State : Type 0 where
  pub page : List ℕ
  pub session : ℕ
  pub given : List Given

abbrev pub state : List ℕ → ℕ → List Given → State
state p s g = record { page = p; session = s; given = g }

pub data Step : Type 0 where
  whole : Call → Step
  -- a call that was cut, what it stores in the page stored or not; the restart follows
  cut : Call → Bool → Step
  restart : Step

abbrev pub after_call : Call → After → List Given → State
after_call c a g = state a.page a.session (given_by c.kind c.message a.outcome a.out ++ g)

module _ (O : Operations) where
  abbrev pub kind_of : Kind → List ℕ → List ℕ → List ℕ → ℕ → After
  kind_of Reserving m o p s = leaves (O.reserve p s).outcome (O.reserve p s).session p o
  kind_of Marking m o p s = leaves (O.mark p s).answer.outcome (O.mark p s).answer.session (O.mark p s).page o
  kind_of Signing m o p s = leaves (O.sign p s m o).answer.outcome (O.sign p s m o).answer.session p (O.sign p s m o).out

  unfoldable pub call_of : Call → List ℕ → ℕ → After
  call_of c p s = kind_of c.kind c.message c.out p s

  unfoldable pub step : Step → State → State
  step (whole c) st = after_call c (call_of c st.page st.session) st.given
  step (cut c stored) st = state (pick stored (call_of c st.page st.session).page st.page) 0 st.given
  step restart st = state st.page 0 st.given

  unfoldable pub run : List Step → State → State
  run [] st = st
  run (x ∷ xs) st = run xs (step x st)

-- a cut call counts: the restart follows it
unfoldable pub restarts : List Step → ℕ
restarts [] = 0
restarts (whole c ∷ xs) = restarts xs
restarts (cut c b ∷ xs) = suc (restarts xs)
restarts (restart ∷ xs) = suc (restarts xs)

-- a page of unused marks, an empty session
unfoldable pub start : State
start = state (replicate 128 0xff) 0 []
