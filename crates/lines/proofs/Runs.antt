-- Running a step over an input in two parts, in chunks, from the middle on.
use Rattle.std.proofs.Common.{◌≡◌, ℕ, ◌+◌, ◌<◌, ◌≤◌, List, [], ◌∷◌, ◌++◌, length, get_or, drop, sym, refl, ap, ◌∙◌, append_assoc, append-nil, add-one, drop_of_length-le, drop-cons}
use Rattle.lists.specs.Lists.{flat}
use Rattle.lines.specs.Steps.{Stepped, stepped, after, run_of, chunked}

-- output in front of output
pub after_after : {S : Type 0} (o p : List ℕ) (t : Stepped S) → after o (after p t) ≡ after (o ++ p) t
after_after o p t = ap (stepped t.to) (sym (append_assoc o p t.out))

module _ {S : Type 0} (step : S → ℕ → Stepped S) where
  -- an input in two parts
  pub run_append : (s : S) (a b : List ℕ) → run_of step s (a ++ b) ≡ after (run_of step s a).out (run_of step (run_of step s a).to b)
  unfolding run_of
  run_append s [] b = refl
  run_append s (c ∷ a) b =
      ap (after (step s c).out) (run_append (step s c).to a b) ∙ after_after (step s c).out (run_of step (step s c).to a).out _

  -- whatever the chunks, they give what the whole input gives
  pub any_chunks : (s : S) (cs : List (List ℕ)) → chunked step s cs ≡ run_of step s (flat cs)
  unfolding chunked flat run_of
  any_chunks s [] = refl
  any_chunks s (c ∷ cs) = ap (after (run_of step s c).out) (any_chunks (run_of step s c).to cs) ∙ sym (run_append s c (flat cs))

  -- one character of what is left
  run_next : (s : S) (cs : List ℕ) (i : ℕ) → i < length cs
      → run_of step s (drop i cs) ≡ after (step s (get_or cs i 0)).out (run_of step (step s (get_or cs i 0)).to (drop (i + 1) cs))
  unfolding run_of
  run_next s cs i h = rw (drop-cons cs i 0 h, add-one)

  -- a turn of a loop over an input, with the output so far: what is left leads to the same end
  pub turn_more : (s s' : S) (o o' cs : List ℕ) (i : ℕ) → i < length cs → stepped s' o' ≡ after o (step s (get_or cs i 0))
      → after o' (run_of step s' (drop (i + 1) cs)) ≡ after o (run_of step s (drop i cs))
  turn_more s s' o o' cs i h e =
      ap (λ (t : Stepped S). after t.out (run_of step t.to (drop (i + 1) cs))) e
      ∙ sym (after_after o (step s (get_or cs i 0)).out _)
      ∙ ap (after o) (sym (run_next s cs i h))

  -- the end of that loop
  pub turn_end : (s : S) (o cs : List ℕ) (i : ℕ) → length cs ≤ i → after o (run_of step s (drop i cs)) ≡ stepped s o
  unfolding run_of
  turn_end s o cs i h = rw (drop_of_length-le cs h, append-nil)
