-- Shams of reserving, marking and signing: each stands in the place of an honest operation, the other two are honest.
use Rattle.std.specs.Prelude.{List, ℕ, ◌+◌, ◌/◌, eqb, replicate}
use Rattle.lists.specs.Lists.{pick}
use Rattle.marks.specs.Page.{used}
use Rattle.marks.specs.Marking.{reserved, reserve_of, marked, mark_end, mark_of}
use Rattle.marks.specs.declared.Reserved.{Reserved}
use Rattle.operations.specs.Sign.{SignEnd, sign_end, signed, sign_of}
use Rattle.promises.specs.History.{Operations, first_index, end_index}

-- honest operations but for one
abbrev pub reserving : List ℕ → (List ℕ → ℕ → Reserved) → Operations
reserving secret reserve = record { reserve = reserve; mark = mark_of; sign = sign_of secret }

abbrev pub signing : (List ℕ → ℕ → List ℕ → List ℕ → SignEnd) → Operations
signing sign = record { reserve = reserve_of first_index end_index; mark = mark_of; sign = sign }

module _ (secret : List ℕ) where
  -- one fixed index: the first, again and again
  abbrev pub fixed_index : Operations
  fixed_index = reserving secret (λ page s. reserved 0 1 0 0x7f)

  -- reserving that refuses everything
  abbrev pub refusing_all : Operations
  refusing_all = reserving secret (λ page s. reserved 8 s 0 0)

  -- an invented number of used marks: one more than there are
  abbrev pub invented_count : Operations
  invented_count = reserving secret (λ page s. reserved 0 (used page + 2) ((used page + 1) / 8) 0)

  -- marking that writes nothing
  abbrev pub marking_nothing : Operations
  marking_nothing =
      record { reserve = reserve_of first_index end_index; mark = λ page s. mark_end (marked 0 s) page; sign = sign_of secret }

  -- one fixed signature
  abbrev pub fixed_signature : List ℕ → Operations
  fixed_signature signature = signing (λ page s m out. sign_end (signed 0 0) signature)

  -- signing that writes nothing
  abbrev pub writing_nothing : Operations
  writing_nothing = signing (λ page s m out. sign_end (sign_of secret page s m out).answer out)

  -- the first signature honest, and filler for every later index
  abbrev pub first_honest : Operations
  first_honest =
      signing (λ page s m out. pick (eqb s 1) (sign_of secret page s m out) (sign_end (sign_of secret page s m out).answer (replicate 2500 0)))

  -- signing that keeps the session: the index stays pending
  abbrev pub keeping_session : Operations
  keeping_session =
      signing (λ page s m out. sign_end (signed (sign_of secret page s m out).answer.outcome s) (sign_of secret page s m out).out)

  -- signing for a pending index whose mark is not stored, as if it were
  abbrev pub signing_unmarked : Operations
  signing_unmarked = signing (λ page s m out. sign_of secret (mark_of page s).page s m out)
