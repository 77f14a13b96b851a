-- A short history at which each sham breaks demand 3. Signature bytes stay shut: what counts is the index that they carry.
use Rattle.std.proofs.Common.{◌≡◌, ℕ, suc, ◌+◌, ◌<◌, ◌≤◌, Bool, true, false, eqb, ◌⊎◌, List, [], ◌∷◌, ◌++◌, length, drop, replicate, sym, refl, ap, ◌∙◌, subst, inl, ⊎_elim, arith}
use Rattle.std.proofs.lemmas.Bool.{false≢true}
use Rattle.lists.specs.Lists.{pick}
use Rattle.lists.specs.Bytes.{number}
use Rattle.outcomes.specs.Outcome.{outcome_of}
use Rattle.keyed.specs.Sha2.{sha2}
use Rattle.marks.specs.Page.{used, mark_used, bit_used}
use Rattle.marks.specs.Marking.{mark_of}
use Rattle.marks.proofs.Ordered.{page_of}
use Rattle.marks.proofs.Pages.{fresh, page_counted}
use Rattle.operations.specs.Sign.{SignEnd, sign_refusals, sign_end, signed, sign_of}
use Rattle.operations.specs.declared.Signed.{Signed}
use Rattle.operations.proofs.Signs.{stored, not_stored, sign_done}
use Rattle.promises.specs.History.{Operations, Given, given, given_by, State, state, Step, whole, lent, call_of, step, run, start}
use Rattle.promises.specs.Kept.{secret_for, key_for, index_of, Distinct, the_three_calls, Kept, AlwaysKept}
use Rattle.promises.proofs.Phases.{signature_at}
use Rattle.promises.specs.declared.Kind.TheVariants.{Reserving, Signing}
use Rattle.promises.proofs.Honest.{secret_size, secret_type}
use Rattle.promises.proofs.Steps.{reserve_next, mark_stores, mark_stored, mark_refused, sign_gives, sign_holds, signed_state}
use Rattle.shams.specs.Histories.{signing, fixed_index, refusing_all, invented_count, marking_nothing, fixed_signature, writing_nothing, first_honest, keeping_session, signing_unmarked}

-- room for a signature
abbrev zeros : List ℕ
zeros = replicate 2500 0

-- reserving, marking and signing of the empty message
abbrev three : List Step
three = the_three_calls [] zeros

begins : start ≡ state (page_of 0) 0 []
unfolding start
begins = ap (λ (p : List ℕ). state p 0 []) fresh

-- the index that the last signature given carries, 0 where none was given; and whether one was
last_index : List Given → ℕ
last_index [] = 0
last_index (g ∷ gs) = index_of g.signature

many : List Given → ℕ
many [] = 0
many (g ∷ gs) = suc (many gs)

-- where reserving and marking are honest, three calls end with what signing makes of the next index
module _ (sign : List ℕ → ℕ → List ℕ → List ℕ → SignEnd) where
  three_calls : (u : ℕ) (gs : List Given) → u < 1024 →
      run (signing sign) three (state (page_of u) 0 gs) ≡ signed_state (suc u) gs [] (sign (page_of (suc u)) (suc u) [] zeros)
  unfolding run step call_of
  three_calls u gs h =
      ap (λ (st : State). run (signing sign) (drop 1 three) st) (reserve_next u 0 gs (omega arith) refl h)
      ∙ ap (λ (st : State). run (signing sign) (drop 2 three) st) (mark_stores u (suc u) gs (omega arith) refl h)

-- with the record that making writes, signing for a stored mark is not refused, and for one that is not stored it is
module _ (material : List ℕ) (l : length material ≡ 96) where
  allowed : (u : ℕ) → 1 ≤ u → u ≤ 1024 → outcome_of (sign_refusals sha2 (secret_for material) (page_of u) u [] zeros) ≡ 0
  allowed u a h =
      let c = page_counted u h in
      sym (stored (secret_for material) (page_of u) u [] zeros (secret_size material l) (secret_type material l) (omega arith) refl c.0 ((a, h), c.1))

  refused : (u s : ℕ) → u ≤ 1024 → (u ≡ s → ⊥) ⊎ (s ≡ 0) → 10 ≡ outcome_of (sign_refusals sha2 (secret_for material) (page_of u) s [] zeros)
  refused u s h n =
      let c = page_counted u h in
      not_stored (secret_for material) (page_of u) s [] zeros (secret_size material l) (secret_type material l) (omega arith) refl c.0
      (λ q. ⊎_elim (λ d. d (sym c.1 ∙ q.1)) (λ z. omega (arith, q.0.0)) n)

  -- no sham under which the first three calls give nothing keeps the promise
  none_given : (O : Operations) → (run O three start).given ≡ [] → AlwaysKept O (key_for material) → ⊥
  unfolding run many start
  none_given O e kept =
      let c = page_counted 0 (omega arith) in
      let o = (kept []).three_calls [] zeros refl (subst (λ (p : List ℕ). used p < 1024) (sym fresh) (omega (arith, c.1))) (omega arith) refl in
      let z : ◌≡◌ {A = ℕ} 0 (suc (many [])) = ap many (sym e ∙ o.more) in
      omega arith

  pub refusing_all_breaks : AlwaysKept (refusing_all (secret_for material)) (key_for material) → ⊥
  unfolding run start mark_used bit_used
  refusing_all_breaks kept = false≢true (((kept []).full refl).0 refl 0 (omega arith))

  pub marking_nothing_breaks : AlwaysKept (marking_nothing (secret_for material)) (key_for material) → ⊥
  unfolding run step call_of
  marking_nothing_breaks =
      let O = marking_nothing (secret_for material) in
      none_given O
      (ap (λ (st : State). st.given)
      (ap (run O three) begins
      ∙ ap (run O (drop 1 three)) (reserve_next 0 0 [] (omega arith) refl (omega arith))
      ∙ sign_holds 0 1 [] (omega arith) (secret_for material) [] zeros 9 (refused 0 1 (omega arith) (inl (λ e. omega arith)))))

  pub invented_breaks : AlwaysKept (invented_count (secret_for material)) (key_for material) → ⊥
  unfolding run step call_of
  invented_breaks =
      let O = invented_count (secret_for material) in
      let two : used (page_of 0) + 2 ≡ 2 = omega (arith, (page_counted 0 (omega arith)).1) in
      none_given O
      (ap (λ (st : State). st.given)
      (ap (run O three) begins
      ∙ ap (λ (k : ℕ). run O (drop 1 three) (state (page_of 0) k [])) two
      ∙ ap (run O (drop 2 three)) (mark_refused 0 2 [] (omega arith) (λ e h. omega arith) (λ e h. omega arith))
      ∙ sign_holds 0 2 [] (omega arith) (secret_for material) [] zeros 9 (refused 0 2 (omega arith) (inl (λ e. omega arith)))))

  pub fixed_signature_breaks : (σ : List ℕ) → AlwaysKept (fixed_signature (secret_for material) σ) (key_for material) → ⊥
  unfolding run
  fixed_signature_breaks σ kept =
      let O = fixed_signature (secret_for material) σ in
      let once : run O three start ≡ state (page_of 1) 0 (given [] σ ∷ []) = ap (run O three) begins ∙ three_calls _ 0 [] (omega arith) in
      let twice : run O (three ++ three) start ≡ state (page_of 2) 0 (given [] σ ∷ given [] σ ∷ []) =
      ap (run O three) once ∙ three_calls _ 1 _ (omega arith) in
      (subst (λ (st : State). Distinct st.given) twice (kept (three ++ three)).distinct).0.0 refl

  pub fixed_index_breaks : AlwaysKept (fixed_index (secret_for material)) (key_for material) → ⊥
  unfolding run step call_of
  fixed_index_breaks kept =
      let O = fixed_index (secret_for material) in
      let σ = signature_at (secret_for material) 0 [] in
      let once : run O three start ≡ state (page_of 1) 0 (given [] σ ∷ []) =
      ap (run O three) begins
      ∙ ap (run O (drop 2 three)) (mark_stores 0 1 [] (omega arith) refl (omega arith))
      ∙ sign_gives 1 1 [] (omega arith) (secret_for material) [] zeros 0 refl (allowed 1 (omega arith) (omega arith)) in
      let twice : run O (three ++ three) start ≡ state (page_of 1) 0 (given [] σ ∷ given [] σ ∷ []) =
      ap (run O three) once
      ∙ ap (run O (drop 2 three)) (mark_stored 1 1 (given [] σ ∷ []) (omega arith) refl (omega arith))
      ∙ sign_gives 1 1 (given [] σ ∷ []) (omega arith) (secret_for material) [] zeros 0 refl (allowed 1 (omega arith) (omega arith)) in
      (subst (λ (st : State). Distinct st.given) twice (kept (three ++ three)).distinct).0.0 refl

  -- signing that answers as the honest one, and gives a signature of index 0 for index 1
  wrong_index : (sign : List ℕ → ℕ → List ℕ → List ℕ → SignEnd) →
      ((p : List ℕ) (s : ℕ) → (sign p s [] zeros).answer ≡ (sign_of (secret_for material) p s [] zeros).answer) →
      index_of (sign (page_of 2) 2 [] zeros).out ≡ 0 → AlwaysKept (signing sign) (key_for material) → ⊥
  unfolding run last_index
  wrong_index sign same e kept =
      let O = signing sign in
      let E = sign (page_of 2) 2 [] zeros in
      let gs : List Given = given_by Signing [] (sign (page_of 1) 1 [] zeros).answer.outcome (sign (page_of 1) 1 [] zeros).out ++ [] in
      let once : run O three start ≡ state (page_of 1) 0 gs =
      ap (run O three) begins ∙ three_calls sign 0 [] (omega arith) ∙ ap (λ (a : Signed). state (page_of 1) a.session gs) (answers 1 (omega arith) (omega arith)) in
      let more = (subst (Kept O (key_for material) three) once (kept three)).three_calls [] zeros refl (omega (arith, (page_counted 1 (omega arith)).1)) (omega arith) refl in
      let twice : (run O three (state (page_of 1) 0 gs)).given ≡ given_by Signing [] E.answer.outcome E.out ++ gs =
      ap (λ (st : State). st.given) (three_calls sign 1 gs (omega arith)) in
      let zero : last_index (given_by Signing [] E.answer.outcome E.out ++ gs) ≡ 0 =
      ap (λ (a : Signed). last_index (given_by Signing [] a.outcome E.out ++ gs)) (answers 2 (omega arith) (omega arith)) ∙ e in
      let one : last_index (run O three (state (page_of 1) 0 gs)).given ≡ used (page_of 1) = ap last_index more.more ∙ more.index in
      let both : used (page_of 1) ≡ 0 = sym one ∙ ap last_index twice ∙ zero in
      omega (arith, both, (page_counted 1 (omega arith)).1)
    where
      answers : (u : ℕ) → 1 ≤ u → u ≤ 1024 → (sign (page_of u) u [] zeros).answer ≡ signed 0 0
      answers u a h =
          same (page_of u) u
          ∙ sym (ap (λ (x : SignEnd). x.answer) (sign_done (secret_for material) (page_of u) u [] zeros _ (allowed u a h) refl))

  pub writing_nothing_breaks : AlwaysKept (writing_nothing (secret_for material)) (key_for material) → ⊥
  unfolding number
  writing_nothing_breaks = wrong_index _ (λ p s. refl) refl

  pub first_honest_breaks : AlwaysKept (first_honest (secret_for material)) (key_for material) → ⊥
  unfolding number
  first_honest_breaks = wrong_index _ (λ p s. same p s (eqb s 1)) refl
    where
      same : (p : List ℕ) (s : ℕ) (t : Bool) → (pick t (sign_of (secret_for material) p s [] zeros) (sign_end (sign_of (secret_for material) p s [] zeros).answer zeros)).answer ≡ (sign_of (secret_for material) p s [] zeros).answer
      same p s true = refl
      same p s false = refl

  -- the same index signs twice
  pub keeping_breaks : AlwaysKept (keeping_session (secret_for material)) (key_for material) → ⊥
  unfolding run step call_of
  keeping_breaks kept =
      let O = keeping_session (secret_for material) in
      let σ = signature_at (secret_for material) 0 [] in
      let again : List Step = whole (lent Signing [] zeros) ∷ [] in
      let done : sign_of (secret_for material) (page_of 1) 1 [] zeros ≡ sign_end (signed 0 0) σ =
      sym (sign_done (secret_for material) (page_of 1) 1 [] zeros _ (allowed 1 (omega arith) (omega arith)) refl) in
      let gives : (gs : List Given) → signed_state 1 gs [] (O.sign (page_of 1) 1 [] zeros) ≡ state (page_of 1) 1 (given [] σ ∷ gs) =
      λ gs. ap (λ (x : SignEnd). signed_state 1 gs [] (sign_end (signed x.answer.outcome 1) x.out)) done in
      let once : run O three start ≡ state (page_of 1) 1 (given [] σ ∷ []) =
      ap (run O three) begins ∙ three_calls O.sign 0 [] (omega arith) ∙ gives [] in
      let twice : run O (three ++ again) start ≡ state (page_of 1) 1 (given [] σ ∷ given [] σ ∷ []) =
      ap (run O again) once ∙ gives (given [] σ ∷ []) in
      (subst (λ (st : State). Distinct st.given) twice (kept (three ++ again)).distinct).0.0 refl

  -- reserving and signing, twice: the page never learns of the first signature
  pub unmarked_breaks : AlwaysKept (signing_unmarked (secret_for material)) (key_for material) → ⊥
  unfolding run step call_of
  unmarked_breaks kept =
      let O = signing_unmarked (secret_for material) in
      let σ = signature_at (secret_for material) 0 [] in
      let two : List Step = whole (lent Reserving [] []) ∷ whole (lent Signing [] zeros) ∷ [] in
      let marks : (mark_of (page_of 0) 1).page ≡ page_of 1 = ap (λ (st : State). st.page) (mark_stores 0 1 [] (omega arith) refl (omega arith)) in
      let done : O.sign (page_of 0) 1 [] zeros ≡ sign_end (signed 0 0) σ =
      ap (λ (p : List ℕ). sign_of (secret_for material) p 1 [] zeros) marks
      ∙ sym (sign_done (secret_for material) (page_of 1) 1 [] zeros _ (allowed 1 (omega arith) (omega arith)) refl) in
      let turn : (gs : List Given) → run O two (state (page_of 0) 0 gs) ≡ state (page_of 0) 0 (given [] σ ∷ gs) =
      λ gs. ap (run O (drop 1 two)) (reserve_next 0 0 gs (omega arith) refl (omega arith)) ∙ ap (signed_state 0 gs []) done in
      let once : run O two start ≡ state (page_of 0) 0 (given [] σ ∷ []) = ap (run O two) begins ∙ turn [] in
      let twice : run O (two ++ two) start ≡ state (page_of 0) 0 (given [] σ ∷ given [] σ ∷ []) =
      ap (run O two) once ∙ turn (given [] σ ∷ []) in
      (subst (λ (st : State). Distinct st.given) twice (kept (two ++ two)).distinct).0.0 refl
