-- One call on real buffers, by what a history says of it.
use Rattle.std.specs.Prelude.{◌≡◌, List, ◌++◌, ℕ}
use Rattle.promises.specs.History.{honest, lent, leaves, call_of, Given, given_by, state, whole, step}
use Rattle.promises.specs.declared.Answer.{Answer}
use Rattle.promises.specs.declared.Kind.{Kind}

-- answer r, page p' and buffer o' are what the call leaves
abbrev pub Called : List ℕ → Kind → List ℕ → List ℕ → List ℕ → ℕ → Answer → List ℕ → List ℕ → Type 0
Called secret k m p o s r p' o' = leaves r.outcome r.session p' o' ≡ call_of (honest secret) (lent k m o) p s

-- from any state with page p and session s, the step leads to the page left and the session returned, with what was given
abbrev pub Ran : List ℕ → Kind → List ℕ → List ℕ → List ℕ → ℕ → Answer → List ℕ → List ℕ → Type 0
Ran secret k m p o s r p' o' =
    (gs : List Given) → step (honest secret) (whole (lent k m o)) (state p s gs) ≡ state p' r.session (given_by k m r.outcome o' ++ gs)
