-- One call on real buffers is what a history says of it.
use Rattle.std.proofs.Common.{◌≡◌, ℕ, List, sym, ap}
use Rattle.marks.specs.Marking.{reserve_of, mark_end, mark_of}
use Rattle.marks.specs.declared.Marked.{Marked}
use Rattle.marks.specs.declared.Reserved.{Reserved}
use Rattle.operations.specs.Sign.{sign_end, sign_of}
use Rattle.operations.specs.declared.Signed.{Signed}
use Rattle.promises.specs.History.{first_index, end_index, honest, lent, leaves, call_of, after_call, step}
use Rattle.promises.specs.Call.{Called, Ran}
use Rattle.promises.specs.declared.Answer.{Answer}
use Rattle.promises.specs.declared.Kind.{Kind}
use Rattle.promises.specs.declared.Kind.TheVariants.{Reserving, Marking, Signing}

module _ (secret : List ℕ) (k : Kind) (m o p : List ℕ) (s : ℕ) where
  pub call_reserves : (r : Reserved) → k ≡ Reserving → r ≡ reserve_of first_index end_index p s →
      leaves r.outcome r.session p o ≡ call_of (honest secret) (lent k m o) p s
  unfolding call_of
  call_reserves r ek e = rw (ek, e)

  pub call_marks : (r : Marked) (p' : List ℕ) → k ≡ Marking → mark_end r p' ≡ mark_of p s →
      leaves r.outcome r.session p' o ≡ call_of (honest secret) (lent k m o) p s
  unfolding call_of
  call_marks r p' ek e = rw (ek, ← e)

  pub call_signs : (r : Signed) (o' : List ℕ) → k ≡ Signing → sign_end r o' ≡ sign_of secret p s m o →
      leaves r.outcome r.session p o' ≡ call_of (honest secret) (lent k m o) p s
  unfolding call_of
  call_signs r o' ek e = rw (ek, ← e)

  pub call_steps : (r : Answer) (p' o' : List ℕ) → Called secret k m p o s r p' o' → Ran secret k m p o s r p' o'
  unfolding step
  call_steps r p' o' e gs = ap (λ a. after_call (lent k m o) a gs) (sym e)
